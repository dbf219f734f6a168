-- The bytes of a value tell the value, also where others follow.
use Rattle.std.proofs.Common.{◌≡◌, ◌≤◌, ◌==◌, ℕ, suc, Bool, true, false, List, [], ◌∷◌, ◌++◌, map, length, IsTrue, Option, Some, option_map, slice_get, if◌then◌else◌, refl, sym, ap, arith, subst, ◌∙◌, append_assoc, length-append}
use Rattle.std.proofs.lemmas.Bool.Decides.{Decides-eqb}
use Rattle.std.specs.List.{flat_map, list_all}
use Rattle.std.specs.Prelude.{◌&&◌}
use Rattle.std.specs.Str.{all_scalars}
use Rattle.star_value.specs.declared.builtin.Builtin.{Builtin}
use Rattle.star_value.specs.declared.builtin.Builtin.TheVariants as builtin
use Rattle.star_value.specs.declared.range.Range.{Range}
use Rattle.star_value.specs.declared.value.Value.{Value, fold-Value, fold-roll-Value, ind-Value, map-Value, out-Value, roll-Value, roll-out-Value}
use Rattle.star_value.specs.declared.value.Value.TheOpen.{Value-F}
use Rattle.star_meaning.specs.Values.{builtin_name, builtins, has_128_bits}
use Rattle.star_meaning.specs.Snapshot.{builtin_byte, count_bytes, counted, id_bytes, integer_bytes, text_bytes, value_bytes, value_step}
use Rattle.star_meaning.specs.Validity.{has_32_bits}
use Rattle.star_meaning.proofs.AlikeNumbers.{and_both, not_true}
use Rattle.star_meaning.proofs.ToldParts.{AllTold, Short, Told, cons_same, counted_told, id_told, integer_told, short_tail, text_told}

-- ---- values whose numbers have their bits, and whose texts are Unicode scalar values

abbrev pub written_step : Value-F Bool → Bool
written_step (Value-F.Int z) = has_128_bits z
written_step (Value-F.Text points) = all_scalars points
written_step (Value-F.Tuple all) = list_all (λ b. b) all
written_step (Value-F.Range r) = has_128_bits r.start && (has_128_bits r.stop && has_128_bits r.step)
written_step (Value-F.List id) = has_32_bits id
written_step (Value-F.Dict id) = has_32_bits id
written_step (Value-F.Function id) = has_32_bits id
written_step Value-F.None = true
written_step (Value-F.Bool b) = true
written_step (Value-F.Builtin which) = true

unfoldable pub written : Value → Bool
written = fold-Value Bool written_step

abbrev pub layer_written : Value-F Value → Bool
layer_written x = written_step (map-Value Value Bool written x)

abbrev pub layer_bytes : Value-F Value → List ℕ
layer_bytes x = value_step (map-Value Value (List ℕ) value_bytes x)

pub rolled_written : (x : Value-F Value) → written (roll-Value x) ≡ layer_written x
unfolding written
rolled_written x = fold-roll-Value Bool written_step x

pub open_written : (v : Value) → written v ≡ layer_written (out-Value v)
open_written v = ap written (sym (roll-out-Value v)) ∙ rolled_written (out-Value v)

pub rolled_bytes : (x : Value-F Value) → value_bytes (roll-Value x) ≡ layer_bytes x
unfolding value_bytes
rolled_bytes x = fold-roll-Value (List ℕ) value_step x

pub open_bytes : (v : Value) → value_bytes v ≡ layer_bytes (out-Value v)
open_bytes v = ap value_bytes (sym (roll-out-Value v)) ∙ rolled_bytes (out-Value v)

-- ---- kinds

abbrev kind : Value-F Value → ℕ
kind Value-F.None = 0
kind (Value-F.Bool b) = 1
kind (Value-F.Int z) = 3
kind (Value-F.Text points) = 4
kind (Value-F.Tuple parts) = 5
kind (Value-F.Range r) = 6
kind (Value-F.List id) = 7
kind (Value-F.Dict id) = 8
kind (Value-F.Function id) = 9
kind (Value-F.Builtin which) = 10

-- the kind that the first byte tells
abbrev kind_told : List ℕ → ℕ
kind_told [] = 0
kind_told (b ∷ bytes) = if b == 2 then 1 else b

kinds_told : (x : Value-F Value) (r : List ℕ) → kind_told (layer_bytes x ++ r) ≡ kind x
kinds_told Value-F.None r = refl
kinds_told (Value-F.Bool false) r = refl
kinds_told (Value-F.Bool true) r = refl
kinds_told (Value-F.Int z) r = refl
kinds_told (Value-F.Text points) r = refl
kinds_told (Value-F.Tuple parts) r = refl
kinds_told (Value-F.Range range) r = refl
kinds_told (Value-F.List id) r = refl
kinds_told (Value-F.Dict id) r = refl
kinds_told (Value-F.Function id) r = refl
kinds_told (Value-F.Builtin which) r = refl

some_bytes : (x : Value-F Value) → 1 ≤ length (layer_bytes x)
some_bytes Value-F.None = omega arith
some_bytes (Value-F.Bool false) = omega arith
some_bytes (Value-F.Bool true) = omega arith
some_bytes (Value-F.Int z) = omega arith
some_bytes (Value-F.Text points) = omega arith
some_bytes (Value-F.Tuple parts) = omega arith
some_bytes (Value-F.Range range) = let some = length-append (6 ∷ integer_bytes range.start ++ integer_bytes range.stop) (integer_bytes range.step) in omega (arith, some)
some_bytes (Value-F.List id) = omega arith
some_bytes (Value-F.Dict id) = omega arith
some_bytes (Value-F.Function id) = omega arith
some_bytes (Value-F.Builtin which) = omega arith

pub value_some : (v : Value) → 1 ≤ length (value_bytes v)
value_some v = subst (λ bytes. 1 ≤ length bytes) (sym (open_bytes v)) (some_bytes (out-Value v))

-- ---- values without parts

bools_told : (a b : Bool) (r s : List ℕ) → value_step (Value-F.Bool a) ++ r ≡ value_step (Value-F.Bool b) ++ s → (a ≡ b) × (r ≡ s)
bools_told false false r s e = (refl, (cons_same 1 1 r s e).1)
bools_told true true r s e = (refl, (cons_same 2 2 r s e).1)
bools_told false true r s e = let one = (cons_same 1 2 r s e).0 in absurd (omega (arith, one))
bools_told true false r s e = let one = (cons_same 2 1 r s e).0 in absurd (omega (arith, one))

-- the built-in function of a byte
abbrev builtin_at : ℕ → Option Builtin
builtin_at n = option_map (λ entry. entry.1) (slice_get builtins n)

at_byte : (which : Builtin) → builtin_at (builtin_byte which) ≡ Some which
unfolding builtin_name
at_byte builtin.Abs = refl
at_byte _ = refl

builtins_told : (a b : Builtin) (r s : List ℕ) → builtin_byte a ∷ r ≡ builtin_byte b ∷ s → (a ≡ b) × (r ≡ s)
builtins_told a b r s e =
    let both = cons_same (builtin_byte a) (builtin_byte b) r s e in
    let one : Some a ≡ Some b = sym (at_byte a) ∙ ap builtin_at both.0 ∙ at_byte b in let same : a ≡ b = cc in (same, both.1)

abbrev three_bytes : Range → List ℕ → List ℕ
three_bytes r rest = integer_bytes r.start ++ (integer_bytes r.stop ++ (integer_bytes r.step ++ rest))

range_bytes : (r : Range) (rest : List ℕ) → value_step (Value-F.Range r) ++ rest ≡ 6 ∷ three_bytes r rest
range_bytes r rest =
    append_assoc (6 ∷ integer_bytes r.start ++ integer_bytes r.stop) (integer_bytes r.step) rest ∙ append_assoc (6 ∷ integer_bytes r.start) (integer_bytes r.stop) (integer_bytes r.step ++ rest)

ranges_told : (a b : Range) (r s : List ℕ) → IsTrue (has_128_bits a.start && (has_128_bits a.stop && has_128_bits a.step)) → IsTrue (has_128_bits b.start && (has_128_bits b.stop && has_128_bits b.step))
    → value_step (Value-F.Range a) ++ r ≡ value_step (Value-F.Range b) ++ s → (a ≡ b) × (r ≡ s)
ranges_told a b r s h k e =
    let one = and_both (has_128_bits a.start) (has_128_bits a.stop && has_128_bits a.step) h in
    let more = and_both (has_128_bits a.stop) (has_128_bits a.step) one.1 in
    let two = and_both (has_128_bits b.start) (has_128_bits b.stop && has_128_bits b.step) k in
    let other = and_both (has_128_bits b.stop) (has_128_bits b.step) two.1 in
    let whole = (cons_same 6 6 (three_bytes a r) (three_bytes b s) (sym (range_bytes a r) ∙ e ∙ range_bytes b s)).1 in
    let start = integer_told a.start b.start (integer_bytes a.stop ++ (integer_bytes a.step ++ r)) (integer_bytes b.stop ++ (integer_bytes b.step ++ s)) one.0 two.0 whole in
    let stop = integer_told a.stop b.stop (integer_bytes a.step ++ r) (integer_bytes b.step ++ s) more.0 other.0 start.1 in
    let step = integer_told a.step b.step r s more.1 other.1 stop.1 in (λ j. record { start = start.0 j; stop = stop.0 j; step = step.0 j }, step.1)

-- ---- values

abbrev pub ValueTold : Value → Type 0
ValueTold = Told value_bytes written

abbrev Known : Type 0
Known = (v : Value) × ValueTold v

abbrev bare : Value-F Known → Value-F Value
bare = map-Value Known Value (λ e. e.0)

all_told : (all : List Known) → AllTold value_bytes written (map (λ e. e.0) all)
all_told [] = tt
all_told (e ∷ all) = (e.1, all_told all)

parts_flat : (xs : List Value) → flat_map (λ bytes. bytes) (map value_bytes xs) ≡ flat_map value_bytes xs
parts_flat [] = refl
parts_flat (x ∷ xs) = ap (λ rest. value_bytes x ++ rest) (parts_flat xs)

parts_many : (xs : List Value) → length (map value_bytes xs) ≡ length xs
parts_many [] = refl
parts_many (x ∷ xs) = ap suc (parts_many xs)

parts_counted : (xs : List Value) → counted (λ bytes. bytes) (map value_bytes xs) ≡ counted value_bytes xs
parts_counted xs = λ i. count_bytes (parts_many xs i) ++ parts_flat xs i

parts_written : (xs : List Value) → list_all (λ b. b) (map written xs) ≡ list_all written xs
parts_written [] = refl
parts_written (x ∷ xs) = ap (λ rest. written x && rest) (parts_written xs)

tuples_told : (every bs : List Value) (r s : List ℕ) → AllTold value_bytes written every → IsTrue (list_all (λ b. b) (map written every)) → IsTrue (list_all (λ b. b) (map written bs))
    → Short (counted (λ bytes. bytes) (map value_bytes every) ++ r) → counted (λ bytes. bytes) (map value_bytes every) ++ r ≡ counted (λ bytes. bytes) (map value_bytes bs) ++ s → (every ≡ bs) × (r ≡ s)
tuples_told every bs r s t h k l e =
    let one = ap (λ bytes. bytes ++ r) (parts_counted every) in
    let two = ap (λ bytes. bytes ++ s) (parts_counted bs) in
    counted_told value_bytes written value_some every bs r s t (subst IsTrue (parts_written every) h) (subst IsTrue (parts_written bs) k) (subst Short one l) (sym one ∙ e ∙ two)

layers_told : (y : Value-F Known) (z : Value-F Value) (r s : List ℕ) → IsTrue (kind (bare y) == kind z) → IsTrue (layer_written (bare y)) → IsTrue (layer_written z)
    → Short (layer_bytes (bare y) ++ r) → layer_bytes (bare y) ++ r ≡ layer_bytes z ++ s → (bare y ≡ z) × (r ≡ s)
layers_told Value-F.None Value-F.None r s c h k l e = (refl, (cons_same 0 0 r s e).1)
layers_told (Value-F.Bool a) (Value-F.Bool b) r s c h k l e = let both = bools_told a b r s e in (ap Value-F.Bool both.0, both.1)
layers_told (Value-F.Int a) (Value-F.Int b) r s c h k l e =
    let both = integer_told a b r s h k (cons_same 3 3 (integer_bytes a ++ r) (integer_bytes b ++ s) e).1 in (ap Value-F.Int both.0, both.1)
layers_told (Value-F.Text a) (Value-F.Text b) r s c h k l e =
    let both = text_told a b r s h k (short_tail 4 (text_bytes a ++ r) l) (cons_same 4 4 (text_bytes a ++ r) (text_bytes b ++ s) e).1 in (ap Value-F.Text both.0, both.1)
layers_told (Value-F.Tuple all) (Value-F.Tuple bs) r s c h k l e =
    let every = map (λ f. f.0) all in
    let x = counted (λ bytes. bytes) (map value_bytes every) ++ r in
    let y = counted (λ bytes. bytes) (map value_bytes bs) ++ s in
    let both = tuples_told every bs r s (all_told all) h k (short_tail 5 x l) (cons_same 5 5 x y e).1 in (ap Value-F.Tuple both.0, both.1)
layers_told (Value-F.Range a) (Value-F.Range b) r s c h k l e = let both = ranges_told a b r s h k e in (ap Value-F.Range both.0, both.1)
layers_told (Value-F.List a) (Value-F.List b) r s c h k l e =
    let both = id_told a b r s h k (cons_same 7 7 (id_bytes a ++ r) (id_bytes b ++ s) e).1 in (ap Value-F.List both.0, both.1)
layers_told (Value-F.Dict a) (Value-F.Dict b) r s c h k l e =
    let both = id_told a b r s h k (cons_same 8 8 (id_bytes a ++ r) (id_bytes b ++ s) e).1 in (ap Value-F.Dict both.0, both.1)
layers_told (Value-F.Function a) (Value-F.Function b) r s c h k l e =
    let both = id_told a b r s h k (cons_same 9 9 (id_bytes a ++ r) (id_bytes b ++ s) e).1 in (ap Value-F.Function both.0, both.1)
layers_told (Value-F.Builtin a) (Value-F.Builtin b) r s c h k l e =
    let both = builtins_told a b r s (cons_same 10 10 (builtin_byte a ∷ r) (builtin_byte b ∷ s) e).1 in (ap Value-F.Builtin both.0, both.1)
layers_told _ _ r s c h k l e = absurd (not_true c)

rolled_told : (y : Value-F Known) → ValueTold (roll-Value (bare y))
rolled_told y b r s h k l e =
    let one = ap (λ bytes. bytes ++ r) (rolled_bytes (bare y)) in
    let two = ap (λ bytes. bytes ++ s) (open_bytes b) in
    let same = sym one ∙ e ∙ two in
    let kinds : kind (bare y) ≡ kind (out-Value b) = sym (kinds_told (bare y) r) ∙ ap kind_told same ∙ kinds_told (out-Value b) s in
    let both = layers_told y (out-Value b) r s ((Decides-eqb (kind (bare y)) (kind (out-Value b))).1 kinds) (subst IsTrue (rolled_written (bare y)) h) (subst IsTrue (open_written b) k) (subst Short one l) same in
    (ap roll-Value both.0 ∙ roll-out-Value b, both.1)

pub value_told : (v : Value) → ValueTold v
value_told = ind-Value ValueTold (λ x y is. subst (λ z. ValueTold (roll-Value z)) is (rolled_told y))
