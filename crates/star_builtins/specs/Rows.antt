-- Parts of the rows of the built-in functions.
use Rattle.std.specs.List.{filter_map, list_all}
use Rattle.std.specs.Prelude.{◌≡◌, ℕ, zero, suc, Bool, true, false, ℤ, pos, ◌+ℤ◌, List, [], ◌++◌, map, length, nat_lt, is_some, Option, Some, None, Result, Ok, Err, IsTrue, slice_get, codes}
use Rattle.star_value.specs.declared.failure.Failure.{Failure}
use Rattle.star_value.specs.declared.failure.Failure.TheVariants as failure
use Rattle.star_value.specs.declared.key.Key.{Key}
use Rattle.star_value.specs.declared.value.Value.{Value, out-Value}
use Rattle.star_value.specs.declared.value.Value.TheOpen.{Value-F}
use Rattle.star_value.specs.declared.value.Value.TheVariants as value
use Rattle.star_meaning.specs.Builtins as spec
use Rattle.star_meaning.specs.Comparing.{key_in}
use Rattle.star_meaning.specs.Operators.{charged_list}
use Rattle.star_meaning.specs.State.{State, list}
use Rattle.star_meaning.specs.Showing.{made, made_after, made_between}
use Rattle.star_meaning.specs.Steps.{Action, pure, fail, given_or, ◌>>=◌, ◌>>◌}
use Rattle.star_meaning.specs.Values.{items_in, items_of, charge_items, charge_weight, new_dict, new_tuple, int_in, has_128_bits}
use Rattle.star_builtins.specs.Walks.{given}

-- a range of these integers; what is no integer is of a wrong type
abbrev pub ranged : {C : Type 0} → Option ℤ → Option ℤ → Option ℤ → Action C Value
ranged (Some start) (Some stop) (Some step) = spec.new_range start stop step
ranged (Some start) (Some stop) None = fail failure.WrongType
ranged (Some start) None step = fail failure.WrongType
ranged None stop step = fail failure.WrongType

-- what a value gives, once it is charged
abbrev pub charged_given : {C : Type 0} → Value → Action C (List Value)
charged_given v = items_of v >>= (λ items. charge_items items >> pure items)

-- the items of a tuple, once each is charged and looked at
abbrev pub walked_given : {C : Type 0} → List Value → Action C (List Value)
walked_given items = spec.walk_tuple items >> pure items

-- a new list of what a value gives
abbrev pub listed : {C : Type 0} → Value → Action C Value
listed v = items_of v >>= charged_list

-- a tuple of what a value gives
abbrev pub tupled : {C : Type 0} → Value → Action C Value
tupled v = items_of v >>= (λ items. spec.walk_tuple items >> pure (value.Tuple items))

-- the text between what is printed
abbrev pub separated : {C : Type 0} → spec.ByName → Action C (List ℕ)
separated named = given_or failure.WrongArguments (spec.only_named (codes "sep") named) >>= spec.separator

-- the text before the piece of a place: none before the first one
unfoldable pub before : {C : Type 0} → List ℕ → ℕ → Action C (List ℕ)
before by zero = pure []
before by (suc place) = made by

-- pieces with a text before each, but for the piece of place 0
unfoldable pub pieces_by : {C : Type 0} → List ℕ → ℕ → List (Action C (List ℕ)) → Action C (List ℕ)
pieces_by by zero ps = made_between by ps
pieces_by by (suc place) ps = made_after by ps

-- the tuples that are made, put after others
unfoldable pub tuples_onto : {C : Type 0} → List Value → List (List Value) → Action C (List Value)
tuples_onto made rows = spec.tuples rows >>= (λ more. pure (made ++ more))

-- a tuple that is charged before it is looked at
abbrev pub charged_tuple : {C : Type 0} → List Value → Action C Value
charged_tuple row = charge_weight (value.Tuple row) >> new_tuple row

-- the items that columns give at a place
abbrev pub row_at : {C : Type 0} → State C → ℕ → List Value → List Value
row_at s place columns = filter_map (λ column. slice_get (given s column) place) columns

-- whether each column gives an item at a place
abbrev pub HasRow : {C : Type 0} → State C → ℕ → List Value → Type 0
HasRow s place columns = IsTrue (list_all (λ column. nat_lt place (length (given s column))) columns)

-- how many rows columns give; a column that cannot be iterated is of a wrong type
abbrev pub CountsRows : {C : Type 0} → State C → List Value → Result ℕ Failure → Type 0
CountsRows s columns (Ok count) =
    IsTrue (list_all (λ column. is_some (items_in s column)) columns) × (length (spec.rows_of (map (given s) columns)) ≡ count)
CountsRows s columns (Err e) = (list_all (λ column. is_some (items_in s column)) columns ≡ false) × (e ≡ failure.WrongType)

-- the first number: the one that is given, or 0
abbrev pub start_in : Option Value → Option ℤ
start_in None = Some (pos 0)
start_in (Some v) = int_in v

-- whether the last of so many numbers has 128 bits
unfoldable pub has_last : ℤ → ℕ → Bool
has_last z zero = true
has_last z (suc n) = has_128_bits (z +ℤ pos n)

-- the items of a list or tuple
abbrev pub held_items : {C : Type 0} → State C → Value-F Value → Option (List Value)
held_items s (Value-F.List id) = Some (list s id)
held_items s (Value-F.Tuple items) = Some items
held_items s _ = None

-- the key and the value that an item is, once the key is charged
abbrev pub keyed : {C : Type 0} → Value → Action C (Key × Value)
keyed x = spec.pair_at (out-Value x) >>= (λ pair. key_in pair.0 >>= (λ key. charge_weight pair.0 >> pure (key, pair.1)))

-- a new dict of the pairs that a value gives
abbrev pub dict_of_pairs : {C : Type 0} → Value → Action C Value
dict_of_pairs v = items_of v >>= spec.pairs_from [] >>= new_dict
