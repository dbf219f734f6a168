-- How many bytes values and keys take, form by form.
use Rattle.std.proofs.Common.{◌≡◌, ℕ, ℤ, suc, ◌+◌, ◌<◌, Bool, false, true, List, [], ◌∷◌, ◌++◌, length, take, get_or, min, sym, ap, ◌∙◌, arith, length-append}
use Rattle.std.specs.List.{flat_map}
use Rattle.std.proofs.lemmas.List.{flat_map_more, take_more}
use Rattle.star_value.specs.declared.builtin.Builtin.{Builtin}
use Rattle.star_value.specs.declared.key.Key.{Key}
use Rattle.star_value.specs.declared.key.Key.TheVariants as key
use Rattle.star_value.specs.declared.range.Range.{Range}
use Rattle.star_value.specs.declared.value.Value.{Value}
use Rattle.star_value.specs.declared.value.Value.TheVariants as value
use Rattle.star_value.specs.Keys as keys
use Rattle.star_meaning.specs.Snapshot.{count_bytes, counted, text_bytes, value_bytes}
use Rattle.snapshot_codec.proofs.Forms.{bytes_builtin, bytes_dict, bytes_false, bytes_function, bytes_int, bytes_list, bytes_none, bytes_range, bytes_text, bytes_true, bytes_tuple}
use Rattle.snapshot_codec.proofs.WritingForms.{key_false, key_int, key_none, key_text, key_true, key_tuple}

pub size_none : length (value_bytes value.None) ≡ 1
size_none = ap length bytes_none

pub size_bool : (b : Bool) → length (value_bytes (value.Bool b)) ≡ 1
size_bool false = ap length bytes_false
size_bool true = ap length bytes_true

pub size_int : (z : ℤ) → length (value_bytes (value.Int z)) ≡ 17
size_int z = ap length (bytes_int z)

pub size_text : (points : List ℕ) → length (value_bytes (value.Text points)) ≡ suc (length (text_bytes points))
size_text points = ap length (bytes_text points)

pub size_tuple : (items : List Value) → length (value_bytes (value.Tuple items)) ≡ suc (length (counted value_bytes items))
size_tuple items = ap length (bytes_tuple items)

pub size_range : (r : Range) → length (value_bytes (value.Range r)) ≡ 49
size_range r = ap length (bytes_range r)

pub size_list : (id : ℕ) → length (value_bytes (value.List id)) ≡ 5
size_list id = ap length (bytes_list id)

pub size_dict : (id : ℕ) → length (value_bytes (value.Dict id)) ≡ 5
size_dict id = ap length (bytes_dict id)

pub size_function : (id : ℕ) → length (value_bytes (value.Function id)) ≡ 5
size_function id = ap length (bytes_function id)

pub size_builtin : (which : Builtin) → length (value_bytes (value.Builtin which)) ≡ 2
size_builtin which = ap length (bytes_builtin which)

pub ruleset value_cases = (size_none, size_bool, size_int, size_text, size_tuple, size_range, size_list, size_dict, size_function, size_builtin)

pub size_key_none : length (value_bytes (keys.value_of key.None)) ≡ 1
size_key_none = ap length key_none

pub size_key_bool : (b : Bool) → length (value_bytes (keys.value_of (key.Bool b))) ≡ 1
size_key_bool false = ap length key_false
size_key_bool true = ap length key_true

pub size_key_int : (z : ℤ) → length (value_bytes (keys.value_of (key.Int z))) ≡ 17
size_key_int z = ap length (key_int z)

pub size_key_text : (points : List ℕ) → length (value_bytes (keys.value_of (key.Text points))) ≡ suc (length (text_bytes points))
size_key_text points = ap length (key_text points)

pub size_key_tuple : (ks : List Key) → length (value_bytes (keys.value_of (key.Tuple ks))) ≡ suc (length (counted (λ k. value_bytes (keys.value_of k)) ks))
size_key_tuple ks = ap length (key_tuple ks)

pub ruleset key_cases = (size_key_none, size_key_bool, size_key_int, size_key_text, size_key_tuple)

-- ---- one part more

at_most : (a b cap : ℕ) → min (min a cap + min b cap) cap ≡ min (a + b) cap
at_most a b cap = omega arith

-- what the first parts take, and 8 bytes for the count
abbrev pub size_so_far : {A : Type 0} → (A → List ℕ) → List A → ℕ → ℕ
size_so_far f xs i = 8 + length (flat_map f (take i xs))

pub size_more : {A : Type 0} (f : A → List ℕ) (xs : List A) (i : ℕ) (x : A) (here before now cap : ℕ) → i < length xs → x ≡ get_or xs i x → here ≡ min (length (f x)) cap
    → before ≡ min (size_so_far f xs i) cap → now ≡ min (before + here) cap → now ≡ min (size_so_far f xs (i + 1)) cap
size_more f xs i x here before now cap within is one so_far joined =
    let longer : flat_map f (take i xs) ++ f x ≡ flat_map f (take (i + 1) xs) =
    flat_map_more f [] (take i xs) x ∙ ap (λ ys. flat_map f ys) (ap (λ y. take i xs ++ y ∷ []) is ∙ sym (take_more xs i x within)) in
    let both : length (flat_map f (take (i + 1) xs)) ≡ length (flat_map f (take i xs)) + length (f x) = ap length (sym longer) ∙ length-append (flat_map f (take i xs)) (f x) in
    joined ∙ (λ j. min (so_far j + one j) cap) ∙ at_most (size_so_far f xs i) (length (f x)) cap ∙ ap (λ n. min n cap) (let sum = both in omega (arith, sum))

pub size_all : {A : Type 0} (f : A → List ℕ) (xs : List A) → length (counted f xs) ≡ 8 + length (flat_map f xs)
size_all f xs = length-append (count_bytes (length xs)) (flat_map f xs)
