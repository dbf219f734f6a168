-- The order of two keys, by their forms.
use Rattle.std.proofs.Common.{◌≡◌, ◌≤◌, ◌+◌, ℕ, ℤ, Bool, Ordering, Less, Equal, List, [], ◌∷◌, length, drop, arith, sym, ap, ◌∙◌}
use Rattle.std.specs.Cmp.Lexicographic.{slice_cmp}
use Rattle.std.specs.Cmp.{nat_cmp_is}
use Rattle.std.specs.Ordering.{bool_cmp, int_cmp, nat_cmp}
use Rattle.std.proofs.lemmas.List.{length-drop}
use Rattle.std.proofs.Math.Seq.{drop-length}
use Rattle.chex_base.specs.TextOrder.{text_cmp}
use Rattle.star_value.specs.declared.key.Key.{Key, map-Key, out-Key, roll-Key, out-roll-Key, roll-out-Key}
use Rattle.star_value.specs.declared.key.Key.TheOpen.{Key-F}
use Rattle.star_value.specs.declared.key.Key.TheVariants as k
use Rattle.star_value.specs.KeyOrder.{cmp_layer, key_cmp}
use Rattle.star_value.specs.OrderLaws.{key_cmp-roll, slice_cmp-map}

pub order_opened : (a b : Key) → key_cmp a b ≡ cmp_layer (map-Key Key (Key → Ordering) key_cmp (out-Key a)) (out-Key b)
order_opened a b = ap (λ c. key_cmp c b) (sym (roll-out-Key a)) ∙ key_cmp-roll (out-Key a) b

order_rolled : (x y : Key-F Key) → key_cmp (roll-Key x) (roll-Key y) ≡ cmp_layer (map-Key Key (Key → Ordering) key_cmp x) y
order_rolled x y = key_cmp-roll x (roll-Key y) ∙ ap (cmp_layer (map-Key Key (Key → Ordering) key_cmp x)) (out-roll-Key y)

pub order_bools : (a b : Bool) → key_cmp (k.Bool a) (k.Bool b) ≡ bool_cmp a b
order_bools a b = rw (← k.rolls-Bool a, ← k.rolls-Bool b) (order_rolled (Key-F.Bool a) (Key-F.Bool b))

pub order_ints : (a b : ℤ) → key_cmp (k.Int a) (k.Int b) ≡ int_cmp a b
order_ints a b = rw (← k.rolls-Int a, ← k.rolls-Int b) (order_rolled (Key-F.Int a) (Key-F.Int b))

pub order_texts : (a b : List ℕ) → key_cmp (k.Text a) (k.Text b) ≡ text_cmp a b
order_texts a b = rw (← k.rolls-Text a, ← k.rolls-Text b) (order_rolled (Key-F.Text a) (Key-F.Text b))

pub order_tuples : (a b : List Key) → key_cmp (k.Tuple a) (k.Tuple b) ≡ slice_cmp key_cmp a b
order_tuples a b = rw (← k.rolls-Tuple a, ← k.rolls-Tuple b) (order_rolled (Key-F.Tuple a) (Key-F.Tuple b)) ∙ slice_cmp-map a b

-- where one list has ended, the lengths decide
ended : (n m : ℕ) (rest : List Key) → n + length rest ≡ m → nat_cmp n m ≡ slice_cmp key_cmp [] rest
ended n m [] is = sym (nat_cmp_is n m Equal (omega arith))
ended n m (y ∷ rest) is = sym (nat_cmp_is n m Less (omega arith))

pub parts_end : (keys others : List Key) (at : ℕ) → at ≡ length keys → at ≤ length others → nat_cmp (length keys) (length others) ≡ slice_cmp key_cmp (drop at keys) (drop at others)
parts_end keys others at is within =
    let left = length-drop at others in
    ended (length keys) (length others) (drop at others) (omega arith) ∙ ap (λ rest. slice_cmp key_cmp rest (drop at others)) (sym (ap (λ n. drop n keys) is ∙ drop-length keys))

pub ruleset cases = (order_opened, order_bools, order_ints, order_texts, order_tuples)
