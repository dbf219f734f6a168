-- The bytes of renumbered values and of keys, form by form.
use Rattle.std.proofs.Common.{◌≡◌, ◌+◌, ℕ, ℤ, false, true, List, [], ◌∷◌, ◌++◌, map, take, Some, slice_get, sym, ap, refl, ◌∙◌, append_assoc}
use Rattle.std.proofs.lemmas.List.{flat_map_more, take_more}
use Rattle.std.proofs.lemmas.Option.{get_or_from_slice_get, slice_get_within}
use Rattle.std.specs.List.{flat_map}
use Rattle.star_value.specs.declared.builtin.Builtin.{Builtin}
use Rattle.star_value.specs.declared.key.Key.{Key, fold-roll-Key}
use Rattle.star_value.specs.declared.key.Key.TheOpen.{Key-F}
use Rattle.star_value.specs.declared.key.Key.TheVariants as key
use Rattle.star_value.specs.declared.range.Range.{Range}
use Rattle.star_value.specs.declared.value.Value.{Value, fold-roll-Value, map-Value, roll-Value}
use Rattle.star_value.specs.declared.value.Value.TheOpen.{Value-F}
use Rattle.star_value.specs.declared.value.Value.TheVariants as value
use Rattle.star_value.specs.Keys as keys
use Rattle.star_meaning.specs.Snapshot.{builtin_byte, count_bytes, counted, id_bytes, integer_bytes, text_bytes, value_bytes, value_step}
use Rattle.snapshot_codec.specs.Writing.{renumbered, value_bytes_by}
use Rattle.snapshot_codec.proofs.Forms.{bytes_none, bytes_false, bytes_true, bytes_int, bytes_text, bytes_tuple, counted-map, length_of_map}

-- ---- values

pub by_rolled : (to : ℕ → ℕ) (x : Value-F Value) → value_bytes_by to (roll-Value x) ≡ value_step (renumbered to (map-Value Value (List ℕ) (value_bytes_by to) x))
unfolding value_bytes_by
by_rolled to x = fold-roll-Value (List ℕ) (λ y. value_step (renumbered to y)) x

-- and as it is numbered
pub bytes_rolled : (x : Value-F Value) → value_bytes (roll-Value x) ≡ value_step (map-Value Value (List ℕ) value_bytes x)
unfolding value_bytes
bytes_rolled x = fold-roll-Value (List ℕ) value_step x

pub by_none : (to : ℕ → ℕ) → value_bytes_by to value.None ≡ 0 ∷ []
by_none to = ap (value_bytes_by to) (sym value.rolls-None) ∙ by_rolled to Value-F.None

pub by_false : (to : ℕ → ℕ) → value_bytes_by to (value.Bool false) ≡ 1 ∷ []
by_false to = ap (value_bytes_by to) (sym (value.rolls-Bool false)) ∙ by_rolled to (Value-F.Bool false)

pub by_true : (to : ℕ → ℕ) → value_bytes_by to (value.Bool true) ≡ 2 ∷ []
by_true to = ap (value_bytes_by to) (sym (value.rolls-Bool true)) ∙ by_rolled to (Value-F.Bool true)

pub by_int : (to : ℕ → ℕ) (z : ℤ) → value_bytes_by to (value.Int z) ≡ 3 ∷ integer_bytes z
by_int to z = ap (value_bytes_by to) (sym (value.rolls-Int z)) ∙ by_rolled to (Value-F.Int z)

pub by_text : (to : ℕ → ℕ) (points : List ℕ) → value_bytes_by to (value.Text points) ≡ 4 ∷ text_bytes points
by_text to points = ap (value_bytes_by to) (sym (value.rolls-Text points)) ∙ by_rolled to (Value-F.Text points)

pub by_tuple : (to : ℕ → ℕ) (items : List Value) → value_bytes_by to (value.Tuple items) ≡ 5 ∷ counted (value_bytes_by to) items
by_tuple to items = ap (value_bytes_by to) (sym (value.rolls-Tuple items)) ∙ by_rolled to (Value-F.Tuple items) ∙ ap (λ (t : List ℕ). 5 ∷ t) (counted-map (value_bytes_by to) items)

pub by_range : (to : ℕ → ℕ) (r : Range) → value_bytes_by to (value.Range r) ≡ 6 ∷ integer_bytes r.start ++ integer_bytes r.stop ++ integer_bytes r.step
by_range to r = ap (value_bytes_by to) (sym (value.rolls-Range r)) ∙ by_rolled to (Value-F.Range r)

pub by_list : (to : ℕ → ℕ) (id : ℕ) → value_bytes_by to (value.List id) ≡ 7 ∷ id_bytes (to id)
by_list to id = ap (value_bytes_by to) (sym (value.rolls-List id)) ∙ by_rolled to (Value-F.List id)

pub by_dict : (to : ℕ → ℕ) (id : ℕ) → value_bytes_by to (value.Dict id) ≡ 8 ∷ id_bytes (to id)
by_dict to id = ap (value_bytes_by to) (sym (value.rolls-Dict id)) ∙ by_rolled to (Value-F.Dict id)

pub by_function : (to : ℕ → ℕ) (id : ℕ) → value_bytes_by to (value.Function id) ≡ 9 ∷ id_bytes (to id)
by_function to id = ap (value_bytes_by to) (sym (value.rolls-Function id)) ∙ by_rolled to (Value-F.Function id)

pub by_builtin : (to : ℕ → ℕ) (which : Builtin) → value_bytes_by to (value.Builtin which) ≡ 10 ∷ builtin_byte which ∷ []
by_builtin to which = ap (value_bytes_by to) (sym (value.rolls-Builtin which)) ∙ by_rolled to (Value-F.Builtin which)

pub ruleset by_cases = (by_none, by_false, by_true, by_int, by_text, by_tuple, by_range, by_list, by_dict, by_function, by_builtin)

-- ---- keys

flat_map-of_map : {X Y A : Type 0} (f : Y → List A) (g : X → Y) (xs : List X) → flat_map f (map g xs) ≡ flat_map (λ x. f (g x)) xs
flat_map-of_map f g [] = refl
flat_map-of_map f g (x ∷ xs) = ap (λ more. f (g x) ++ more) (flat_map-of_map f g xs)

pub key_none : value_bytes (keys.value_of key.None) ≡ 0 ∷ []
key_none = ap value_bytes (ap keys.value_of (sym key.rolls-None) ∙ fold-roll-Key Value keys.value_step Key-F.None) ∙ bytes_none

pub key_false : value_bytes (keys.value_of (key.Bool false)) ≡ 1 ∷ []
key_false = ap value_bytes (ap keys.value_of (sym (key.rolls-Bool false)) ∙ fold-roll-Key Value keys.value_step (Key-F.Bool false)) ∙ bytes_false

pub key_true : value_bytes (keys.value_of (key.Bool true)) ≡ 2 ∷ []
key_true = ap value_bytes (ap keys.value_of (sym (key.rolls-Bool true)) ∙ fold-roll-Key Value keys.value_step (Key-F.Bool true)) ∙ bytes_true

pub key_int : (z : ℤ) → value_bytes (keys.value_of (key.Int z)) ≡ 3 ∷ integer_bytes z
key_int z = ap value_bytes (ap keys.value_of (sym (key.rolls-Int z)) ∙ fold-roll-Key Value keys.value_step (Key-F.Int z)) ∙ bytes_int z

pub key_text : (points : List ℕ) → value_bytes (keys.value_of (key.Text points)) ≡ 4 ∷ text_bytes points
key_text points = ap value_bytes (ap keys.value_of (sym (key.rolls-Text points)) ∙ fold-roll-Key Value keys.value_step (Key-F.Text points)) ∙ bytes_text points

pub key_tuple : (ks : List Key) → value_bytes (keys.value_of (key.Tuple ks)) ≡ 5 ∷ counted (λ k. value_bytes (keys.value_of k)) ks
key_tuple ks =
    ap value_bytes (ap keys.value_of (sym (key.rolls-Tuple ks)) ∙ fold-roll-Key Value keys.value_step (Key-F.Tuple ks)) ∙ bytes_tuple (map keys.value_of ks)
    ∙ (λ i. 5 ∷ (count_bytes (length_of_map keys.value_of ks i) ++ flat_map-of_map value_bytes keys.value_of ks i))

pub ruleset key_cases = (key_none, key_false, key_true, key_int, key_text, key_tuple)

-- ---- pieces one after the other

pub behind_tag : (old mid new : List ℕ) (b : ℕ) (text whole : List ℕ) → mid ≡ old ++ b ∷ [] → new ≡ mid ++ text → whole ≡ b ∷ text → new ≡ old ++ whole
behind_tag old mid new b text whole p q r = q ∙ ap (λ (x : List ℕ). x ++ text) p ∙ append_assoc old (b ∷ []) text ∙ ap (λ (x : List ℕ). old ++ x) (sym r)

pub three_pieces : (mid one two three a b c : List ℕ) → one ≡ mid ++ a → two ≡ one ++ b → three ≡ two ++ c → three ≡ mid ++ (a ++ b ++ c)
three_pieces mid one two three a b c p q r =
    r ∙ ap (λ (x : List ℕ). x ++ c) (q ∙ ap (λ (x : List ℕ). x ++ b) p ∙ append_assoc mid a b) ∙ append_assoc mid (a ++ b) c

-- the bytes of one part more
pub parts_more : {X : Type 0} (f : X → List ℕ) (xs : List X) (place : ℕ) (x : X) (head out new : List ℕ) → out ≡ head ++ flat_map f (take place xs) → slice_get xs place ≡ Some x → new ≡ out ++ f x → new ≡ head ++ flat_map f (take (place + 1) xs)
parts_more f xs place x head out new so_far is more =
    let longer : take (place + 1) xs ≡ take place xs ++ x ∷ [] = take_more xs place x (slice_get_within xs place x is) ∙ ap (λ y. take place xs ++ y ∷ []) (get_or_from_slice_get xs place x x is) in
    more ∙ ap (λ (y : List ℕ). y ++ f x) so_far ∙ flat_map_more f head (take place xs) x ∙ ap (λ ys. head ++ flat_map f ys) (sym longer)

pub pair_more : {X : Type 0} (f : X → List ℕ) (xs : List X) (place : ℕ) (x : X) (head out mid new a b : List ℕ) → out ≡ head ++ flat_map f (take place xs) → slice_get xs place ≡ Some x → mid ≡ out ++ a → new ≡ mid ++ b → f x ≡ a ++ b
    → new ≡ head ++ flat_map f (take (place + 1) xs)
pair_more f xs place x head out mid new a b so_far is one two parts =
    parts_more f xs place x head out new so_far is (two ∙ ap (λ (y : List ℕ). y ++ b) one ∙ append_assoc out a b ∙ ap (λ (y : List ℕ). out ++ y) (sym parts))
