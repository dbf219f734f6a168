-- Parts of the rows of the methods: what a method does with the arguments that it takes.
use Rattle.std.specs.Prelude.{ℕ, List, [], ◌∷◌, ◌++◌, length, Option, Some, None, unwrap_or, Result, Ok, Err, ℤ, pos, negsuc}
use Rattle.std.specs.List.{insert, remove, flat_map}
use Rattle.star_value.specs.declared.failure.Failure.{Failure}
use Rattle.star_value.specs.declared.failure.Failure.TheVariants as failure
use Rattle.star_value.specs.declared.key.Key.{Key}
use Rattle.star_value.specs.declared.value.Value.{Value, out-Value}
use Rattle.star_value.specs.declared.value.Value.TheVariants as value
use Rattle.star_value.specs.Keys.{value_of}
use Rattle.star_meaning.specs.Builtins.{as_int, as_int_or, list_of_tuples}
use Rattle.star_meaning.specs.Comparing.{key_in}
use Rattle.star_meaning.specs.Methods as spec
use Rattle.star_meaning.specs.Operators.{charged_list, check_unlocked, extend, item_at}
use Rattle.star_meaning.specs.State.{list, dict, dict_get, dict_without, with_list, with_dict}
use Rattle.star_meaning.specs.Steps.{Action, pure, read, change, ◌>>=◌, ◌>>◌}
use Rattle.star_meaning.specs.Values.{place_of, key_values, charge_items, charge_weight}

-- ---- lists

abbrev pub append_value : {C : Type 0} → List ℕ → ℕ → Value → Action C Value
append_value locked id x = check_unlocked locked id >> spec.change_list id (λ items. items ++ x ∷ [])

abbrev pub clear_items : {C : Type 0} → List ℕ → ℕ → Action C Value
clear_items locked id = check_unlocked locked id >> spec.change_list id (λ items. [])

abbrev pub extend_value : {C : Type 0} → List ℕ → ℕ → Value → Action C Value
extend_value locked id x = extend locked id x >> pure value.None

-- a value at the place that an integer names
abbrev pub insert_number : {C : Type 0} → List ℕ → ℕ → ℤ → Value → Action C Value
insert_number locked id z x = check_unlocked locked id >> spec.change_list id (λ items. insert items (spec.insert_place z (length items)) x)

abbrev pub insert_value : {C : Type 0} → List ℕ → ℕ → Value → Value → Action C Value
insert_value locked id i x = as_int i >>= (λ z. insert_number locked id z x)

-- the item at the place that an integer names, taken out
abbrev pub pop_number : {C : Type 0} → List ℕ → ℕ → ℤ → Action C Value
pop_number locked id z = do
  check_unlocked locked id
  items ← read (λ s. list s id)
  x ← item_at items z
  change (λ s. with_list s id (remove items (unwrap_or (place_of z (length items)) 0)))
  pure x

abbrev pub pop_at : {C : Type 0} → List ℕ → ℕ → Option Value → Action C Value
pop_at locked id i = as_int_or (negsuc 0) i >>= (λ z. pop_number locked id z)

abbrev pub remove_value : {C : Type 0} → List ℕ → ℕ → Value → Action C Value
remove_value locked id x = do
  check_unlocked locked id
  place ← spec.place_in id x
  spec.change_list id (λ items. remove items place)

abbrev pub index_value : {C : Type 0} → ℕ → Value → Action C Value
index_value id x = spec.place_in id x >>= (λ place. pure (value.Int (pos place)))

-- ---- dicts

-- whether a key is there, or a value is given in its place
abbrev pub found_check : Option Value → Option Value → Result (Unit {0}) Failure
found_check (Some d) found = Ok tt
found_check None (Some v) = Ok tt
found_check None None = Err failure.NoKey

abbrev pub get_value : {C : Type 0} → ℕ → Value → Option Value → Action C Value
get_value id k d = do
  key ← key_in k
  charge_weight k
  read (λ s. unwrap_or (dict_get (dict s id) key) (unwrap_or d value.None))

abbrev pub pop_value : {C : Type 0} → List ℕ → ℕ → Value → Option Value → Action C Value
pop_value locked id k d = do
  key ← key_in k
  check_unlocked locked id
  found ← read (λ s. dict_get (dict s id) key)
  v ← spec.found_or found d
  charge_weight k
  change (λ s. with_dict s id (dict_without (dict s id) key))
  pure v

abbrev pub default_value : {C : Type 0} → List ℕ → ℕ → Value → Option Value → Action C Value
default_value locked id k d = do
  key ← key_in k
  check_unlocked locked id
  charge_weight k
  found ← read (λ s. dict_get (dict s id) key)
  spec.put_if_absent id key found (unwrap_or d value.None)

abbrev pub key_list : {C : Type 0} → ℕ → Action C Value
key_list id = read (λ s. key_values (dict s id)) >>= charged_list

abbrev pub value_list : {C : Type 0} → ℕ → Action C Value
value_list id = read (λ s. spec.pair_values (dict s id)) >>= charged_list

abbrev pub item_list : {C : Type 0} → ℕ → Action C Value
item_list id = read (λ s. spec.pair_rows (dict s id)) >>= list_of_tuples

-- the keys of pairs with their values, one after the other
abbrev pub flat_pairs : List (Key × Value) → List Value
flat_pairs pairs = flat_map (λ pair. value_of pair.0 ∷ pair.1 ∷ []) pairs

-- these pairs put into a dict
abbrev pub update_pairs : {C : Type 0} → List ℕ → ℕ → List (Key × Value) → Action C Value
update_pairs locked id more = do
  check_unlocked locked id
  charge_items (flat_pairs more)
  change (λ s. with_dict s id (spec.put_all (dict s id) more))
  pure value.None

abbrev pub update_with : {C : Type 0} → List ℕ → ℕ → Value → Action C Value
update_with locked id d = spec.dict_at (out-Value d) >>= (λ more. update_pairs locked id more)

abbrev pub clear_pairs : {C : Type 0} → List ℕ → ℕ → Action C Value
clear_pairs locked id = check_unlocked locked id >> change (λ s. with_dict s id []) >> pure value.None
