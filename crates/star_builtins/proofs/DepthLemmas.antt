-- How deep a tuple around a value nests.
use Rattle.std.proofs.Common.{◌≡◌, ℕ, ◌+◌, ◌-◌, ◌^◌, Bool, [], ◌∷◌, max, refl, sym, ap, ◌∙◌, arith}
use Rattle.std.specs.Prelude.{min, nat_lt, nat_le, not}
use Rattle.std.proofs.lemmas.Bool.Decides.{nat_tests}
use Rattle.star_value.specs.Weight.{depth, greatest}
use Rattle.star_value.specs.declared.value.Value.{Value}
use Rattle.star_value.specs.declared.value.Value.TheVariants as value
use Rattle.star_meaning.proofs.Equations.{depth_tuple}

pub depth_around : (v : Value) → depth (value.Tuple (v ∷ [])) ≡ max (depth v) 0 + 1
depth_around v = depth_tuple (v ∷ [])

deep_as : (n d : ℕ) → d ≡ min n (2 ^ 32 - 1) → nat_le 64 d ≡ nat_lt 64 (max n 0 + 1)
deep_as n d is = grind (arith, nat_tests)

pub around : (v : Value) (d : ℕ) → d ≡ min (depth v) (2 ^ 32 - 1) → nat_le 64 d ≡ nat_lt 64 (depth (value.Tuple (v ∷ [])))
around v d is = deep_as (depth v) d is ∙ ap (nat_lt 64) (sym (depth_around v))

deeper_as : (n d : ℕ) → d ≡ min n (2 ^ 32 - 1) → nat_lt 64 d ≡ nat_lt 64 n
deeper_as n d is = grind (arith, nat_tests)

pub deeper : (v : Value) (d : ℕ) → d ≡ min (depth v) (2 ^ 32 - 1) → nat_lt 64 d ≡ nat_lt 64 (depth v)
deeper v d is = deeper_as (depth v) d is
