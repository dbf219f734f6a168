-- One value more.
use Rattle.std.proofs.Common.{◌≡◌, ℕ, ◌+◌, ◌<◌, List, length, map, take, get_or, min, max, refl, sym, ap, ◌∙◌, arith}
use Rattle.std.proofs.lemmas.List.{map_more}
use Rattle.std.proofs.lemmas.List.Recursion.{max_push}
use Rattle.star_value.specs.declared.value.Value.{Value}
use Rattle.star_value.specs.Weight.{depth, greatest, greatest_depth}

greatest_depth-take : (values : List Value) (i : ℕ) (v : Value) → i < length values → v ≡ get_or values i v
    → greatest_depth (take (i + 1) values) ≡ max (greatest_depth (take i values)) (depth v)
greatest_depth-take values i v within is =
    ap greatest (map_more depth values i v within) ∙ max_push greatest (λ n. n) refl (λ _ _. refl) (map depth (take i values)) (depth (get_or values i v))
    ∙ ap (λ w. max (greatest_depth (take i values)) (depth w)) (sym is)

at_most : (a b cap : ℕ) → max (min b cap) (min a cap) ≡ min (max a b) cap
at_most a b cap = grind arith

pub deepest_more : (values : List Value) (i : ℕ) (v : Value) (d most deepest cap : ℕ) → i < length values → v ≡ get_or values i v → d ≡ min (depth v) cap
    → most ≡ min (greatest_depth (take i values)) cap → deepest ≡ max d most → deepest ≡ min (greatest_depth (take (i + 1) values)) cap
deepest_more values i v d most deepest cap within is deep before now =
    rw (now, deep, before, greatest_depth-take values i v within is) (at_most (greatest_depth (take i values)) (depth v) cap)
