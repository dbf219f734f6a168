-- The bytes, the references, the tests and the depths of values, form by form.
use Rattle.std.proofs.Common.{◌≡◌, ℕ, ℤ, ◌+◌, Bool, true, false, List, [], ◌∷◌, ◌++◌, map, length, suc, refl, sym, ap, ◌∙◌}
use Rattle.std.specs.Prelude.{◌&&◌}
use Rattle.std.specs.List.{flat_map, list_all}
use Rattle.std.specs.Str.{all_scalars}
use Rattle.star_value.specs.declared.builtin.Builtin.{Builtin}
use Rattle.star_value.specs.declared.range.Range.{Range}
use Rattle.star_value.specs.declared.value.Value.{Value, fold-Value, fold-roll-Value, map-Value, roll-Value}
use Rattle.star_value.specs.declared.value.Value.TheOpen.{Value-F}
use Rattle.star_value.specs.declared.value.Value.TheVariants as value
use Rattle.star_value.specs.Weight.{depth, depth_step, greatest_depth}
use Rattle.star_meaning.specs.Snapshot.{builtin_byte, count_bytes, counted, id_bytes, integer_bytes, references, references_step, text_bytes, value_bytes, value_step}
use Rattle.star_meaning.specs.Validity.{proper_range, proper_step}
use Rattle.star_meaning.specs.Values.{has_128_bits}

-- the test of is_proper without its depth
abbrev pub plain : Value → Bool
plain = fold-Value Bool proper_step

-- ---- lists of parts

pub flat_map-map : {X A : Type 0} (f : X → List A) (xs : List X) → flat_map (λ ys. ys) (map f xs) ≡ flat_map f xs
flat_map-map f [] = refl
flat_map-map f (x ∷ xs) = ap (λ more. f x ++ more) (flat_map-map f xs)

pub length_of_map : {X Y : Type 0} (f : X → Y) (xs : List X) → length (map f xs) ≡ length xs
length_of_map f [] = refl
length_of_map f (x ∷ xs) = ap suc (length_of_map f xs)

list_all-map : {X : Type 0} (f : X → Bool) (xs : List X) → list_all (λ b. b) (map f xs) ≡ list_all f xs
list_all-map f [] = refl
list_all-map f (x ∷ xs) = ap (λ more. f x && more) (list_all-map f xs)

pub counted-map : (f : Value → List ℕ) (xs : List Value) → counted (λ bytes. bytes) (map f xs) ≡ counted f xs
counted-map f xs = λ i. count_bytes (length_of_map f xs i) ++ flat_map-map f xs i

-- ---- bytes

bytes_rolled : (x : Value-F Value) → value_bytes (roll-Value x) ≡ value_step (map-Value Value (List ℕ) value_bytes x)
unfolding value_bytes
bytes_rolled x = fold-roll-Value (List ℕ) value_step x

pub bytes_none : value_bytes value.None ≡ 0 ∷ []
bytes_none = ap value_bytes (sym value.rolls-None) ∙ bytes_rolled Value-F.None

pub bytes_false : value_bytes (value.Bool false) ≡ 1 ∷ []
bytes_false = ap value_bytes (sym (value.rolls-Bool false)) ∙ bytes_rolled (Value-F.Bool false)

pub bytes_true : value_bytes (value.Bool true) ≡ 2 ∷ []
bytes_true = ap value_bytes (sym (value.rolls-Bool true)) ∙ bytes_rolled (Value-F.Bool true)

pub bytes_int : (z : ℤ) → value_bytes (value.Int z) ≡ 3 ∷ integer_bytes z
bytes_int z = ap value_bytes (sym (value.rolls-Int z)) ∙ bytes_rolled (Value-F.Int z)

pub bytes_text : (points : List ℕ) → value_bytes (value.Text points) ≡ 4 ∷ text_bytes points
bytes_text points = ap value_bytes (sym (value.rolls-Text points)) ∙ bytes_rolled (Value-F.Text points)

pub bytes_tuple : (items : List Value) → value_bytes (value.Tuple items) ≡ 5 ∷ counted value_bytes items
bytes_tuple items = ap value_bytes (sym (value.rolls-Tuple items)) ∙ bytes_rolled (Value-F.Tuple items) ∙ ap (λ (t : List ℕ). 5 ∷ t) (counted-map value_bytes items)

pub bytes_range : (r : Range) → value_bytes (value.Range r) ≡ 6 ∷ integer_bytes r.start ++ integer_bytes r.stop ++ integer_bytes r.step
bytes_range r = ap value_bytes (sym (value.rolls-Range r)) ∙ bytes_rolled (Value-F.Range r)

pub bytes_list : (id : ℕ) → value_bytes (value.List id) ≡ 7 ∷ id_bytes id
bytes_list id = ap value_bytes (sym (value.rolls-List id)) ∙ bytes_rolled (Value-F.List id)

pub bytes_dict : (id : ℕ) → value_bytes (value.Dict id) ≡ 8 ∷ id_bytes id
bytes_dict id = ap value_bytes (sym (value.rolls-Dict id)) ∙ bytes_rolled (Value-F.Dict id)

pub bytes_function : (id : ℕ) → value_bytes (value.Function id) ≡ 9 ∷ id_bytes id
bytes_function id = ap value_bytes (sym (value.rolls-Function id)) ∙ bytes_rolled (Value-F.Function id)

pub bytes_builtin : (which : Builtin) → value_bytes (value.Builtin which) ≡ 10 ∷ builtin_byte which ∷ []
bytes_builtin which = ap value_bytes (sym (value.rolls-Builtin which)) ∙ bytes_rolled (Value-F.Builtin which)

pub ruleset bytes_cases = (bytes_false, bytes_true, bytes_none, bytes_int, bytes_text, bytes_tuple, bytes_range, bytes_list, bytes_dict, bytes_function, bytes_builtin)

-- ---- references

references_rolled : (x : Value-F Value) → references (roll-Value x) ≡ references_step (map-Value Value (List ℕ) references x)
unfolding references
references_rolled x = fold-roll-Value (List ℕ) references_step x

pub references_none : references value.None ≡ []
references_none = ap references (sym value.rolls-None) ∙ references_rolled Value-F.None

pub references_bool : (b : Bool) → references (value.Bool b) ≡ []
references_bool b = ap references (sym (value.rolls-Bool b)) ∙ references_rolled (Value-F.Bool b)

pub references_int : (z : ℤ) → references (value.Int z) ≡ []
references_int z = ap references (sym (value.rolls-Int z)) ∙ references_rolled (Value-F.Int z)

pub references_text : (points : List ℕ) → references (value.Text points) ≡ []
references_text points = ap references (sym (value.rolls-Text points)) ∙ references_rolled (Value-F.Text points)

pub references_tuple : (items : List Value) → references (value.Tuple items) ≡ flat_map references items
references_tuple items = ap references (sym (value.rolls-Tuple items)) ∙ references_rolled (Value-F.Tuple items) ∙ flat_map-map references items

pub references_range : (r : Range) → references (value.Range r) ≡ []
references_range r = ap references (sym (value.rolls-Range r)) ∙ references_rolled (Value-F.Range r)

pub references_list : (id : ℕ) → references (value.List id) ≡ id ∷ []
references_list id = ap references (sym (value.rolls-List id)) ∙ references_rolled (Value-F.List id)

pub references_dict : (id : ℕ) → references (value.Dict id) ≡ id ∷ []
references_dict id = ap references (sym (value.rolls-Dict id)) ∙ references_rolled (Value-F.Dict id)

pub references_function : (id : ℕ) → references (value.Function id) ≡ id ∷ []
references_function id = ap references (sym (value.rolls-Function id)) ∙ references_rolled (Value-F.Function id)

pub references_builtin : (which : Builtin) → references (value.Builtin which) ≡ []
references_builtin which = ap references (sym (value.rolls-Builtin which)) ∙ references_rolled (Value-F.Builtin which)

pub ruleset references_cases = (references_none, references_bool, references_int, references_text, references_tuple, references_range, references_list, references_dict, references_function, references_builtin)

-- ---- tests

plain_rolled : (x : Value-F Value) → plain (roll-Value x) ≡ proper_step (map-Value Value (Bool) plain x)
plain_rolled x = fold-roll-Value (Bool) proper_step x

pub plain_none : plain value.None ≡ true
plain_none = ap plain (sym value.rolls-None) ∙ plain_rolled Value-F.None

pub plain_bool : (b : Bool) → plain (value.Bool b) ≡ true
plain_bool b = ap plain (sym (value.rolls-Bool b)) ∙ plain_rolled (Value-F.Bool b)

pub plain_int : (z : ℤ) → plain (value.Int z) ≡ has_128_bits z
plain_int z = ap plain (sym (value.rolls-Int z)) ∙ plain_rolled (Value-F.Int z)

pub plain_text : (points : List ℕ) → plain (value.Text points) ≡ all_scalars points
plain_text points = ap plain (sym (value.rolls-Text points)) ∙ plain_rolled (Value-F.Text points)

pub plain_tuple : (items : List Value) → plain (value.Tuple items) ≡ list_all plain items
plain_tuple items = ap plain (sym (value.rolls-Tuple items)) ∙ plain_rolled (Value-F.Tuple items) ∙ list_all-map plain items

pub plain_range : (r : Range) → plain (value.Range r) ≡ proper_range r
plain_range r = ap plain (sym (value.rolls-Range r)) ∙ plain_rolled (Value-F.Range r)

pub plain_list : (id : ℕ) → plain (value.List id) ≡ true
plain_list id = ap plain (sym (value.rolls-List id)) ∙ plain_rolled (Value-F.List id)

pub plain_dict : (id : ℕ) → plain (value.Dict id) ≡ true
plain_dict id = ap plain (sym (value.rolls-Dict id)) ∙ plain_rolled (Value-F.Dict id)

pub plain_function : (id : ℕ) → plain (value.Function id) ≡ true
plain_function id = ap plain (sym (value.rolls-Function id)) ∙ plain_rolled (Value-F.Function id)

pub plain_builtin : (which : Builtin) → plain (value.Builtin which) ≡ true
plain_builtin which = ap plain (sym (value.rolls-Builtin which)) ∙ plain_rolled (Value-F.Builtin which)

pub ruleset plain_cases = (plain_none, plain_bool, plain_int, plain_text, plain_tuple, plain_range, plain_list, plain_dict, plain_function, plain_builtin)

-- ---- depths

depth_rolled : (x : Value-F Value) → depth (roll-Value x) ≡ depth_step (map-Value Value (ℕ) depth x)
depth_rolled x = fold-roll-Value (ℕ) depth_step x

pub depth_none : depth value.None ≡ 0
depth_none = ap depth (sym value.rolls-None) ∙ depth_rolled Value-F.None

pub depth_bool : (b : Bool) → depth (value.Bool b) ≡ 0
depth_bool b = ap depth (sym (value.rolls-Bool b)) ∙ depth_rolled (Value-F.Bool b)

pub depth_int : (z : ℤ) → depth (value.Int z) ≡ 0
depth_int z = ap depth (sym (value.rolls-Int z)) ∙ depth_rolled (Value-F.Int z)

pub depth_text : (points : List ℕ) → depth (value.Text points) ≡ 0
depth_text points = ap depth (sym (value.rolls-Text points)) ∙ depth_rolled (Value-F.Text points)

pub depth_tuple : (items : List Value) → depth (value.Tuple items) ≡ greatest_depth items + 1
depth_tuple items = ap depth (sym (value.rolls-Tuple items)) ∙ depth_rolled (Value-F.Tuple items)

pub depth_range : (r : Range) → depth (value.Range r) ≡ 0
depth_range r = ap depth (sym (value.rolls-Range r)) ∙ depth_rolled (Value-F.Range r)

pub depth_list : (id : ℕ) → depth (value.List id) ≡ 0
depth_list id = ap depth (sym (value.rolls-List id)) ∙ depth_rolled (Value-F.List id)

pub depth_dict : (id : ℕ) → depth (value.Dict id) ≡ 0
depth_dict id = ap depth (sym (value.rolls-Dict id)) ∙ depth_rolled (Value-F.Dict id)

pub depth_function : (id : ℕ) → depth (value.Function id) ≡ 0
depth_function id = ap depth (sym (value.rolls-Function id)) ∙ depth_rolled (Value-F.Function id)

pub depth_builtin : (which : Builtin) → depth (value.Builtin which) ≡ 0
depth_builtin which = ap depth (sym (value.rolls-Builtin which)) ∙ depth_rolled (Value-F.Builtin which)

pub ruleset depth_cases = (depth_none, depth_bool, depth_int, depth_text, depth_tuple, depth_range, depth_list, depth_dict, depth_function, depth_builtin)
