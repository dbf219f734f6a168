-- The methods of lists, dicts and texts: one definition for each row of the table in docs/LANGUAGE.md.
-- The first charge of 1 and the charge of the result's weight are those of `operation`.
use Rattle.std.specs.Prelude.{ℕ, ◌+◌, Bool, true, false, if◌then◌else◌, List, [], ◌∷◌, ◌++◌, map, length, Option, Some, None, option_map, unwrap_or, ℤ, pos, negsuc, ◌+ℤ◌, int_lt, codes}
use Rattle.std.specs.List.{insert, remove, flat_map}
use Rattle.star_value.specs.declared.failure.Failure.TheVariants as failure
use Rattle.star_value.specs.declared.key.Key.{Key}
use Rattle.star_value.specs.declared.value.Value.{Value, out-Value}
use Rattle.star_value.specs.declared.value.Value.TheOpen.{Value-F}
use Rattle.star_value.specs.declared.value.Value.TheVariants as value
use Rattle.star_value.specs.Keys as keys
use Rattle.star_value.specs.Texts as texts
use Rattle.star_meaning.specs.State.{list, dict, dict_get, dict_put, dict_without, with_list, with_dict}
use Rattle.star_meaning.specs.Steps.{Action, pure, fail, given_or, charge, read, change, ◌>>=◌, ◌>>◌}
use Rattle.star_meaning.specs.Values.{is_empty, times, place_of, clamped, key_values, items_of, charge_items, charge_weight, named_in}
use Rattle.star_meaning.specs.Comparing.{key_in, search_in}
use Rattle.star_meaning.specs.Operators.{charged_list, item_at, check_unlocked, extend}
use Rattle.star_meaning.specs.Builtins.{ByName, unnamed, with_one, with_optional, with_one_or_two, as_int, as_int_or, as_text, list_of_tuples}

-- no argument, or two
abbrev pub with_none : {C A : Type 0} → Action C A → List Value → Action C A
with_none p [] = p
with_none p _ = fail failure.WrongArguments

abbrev pub with_two : {C A : Type 0} → (Value → Value → Action C A) → List Value → Action C A
with_two f (x ∷ y ∷ []) = f x y
with_two f _ = fail failure.WrongArguments

-- ---- lists: a method over the locked objects, the list's number and the arguments

abbrev pub ObjectMethod : Type 0 → Type 0
ObjectMethod C = List ℕ → ℕ → List Value → Action C Value

-- a list that may be changed, with other items
abbrev pub change_list : {C : Type 0} → ℕ → (List Value → List Value) → Action C Value
change_list id by = change (λ s. with_list s id (by (list s id))) >> pure value.None

abbrev pub append : {C : Type 0} → ObjectMethod C
append locked id = with_one (λ x. check_unlocked locked id >> change_list id (λ items. items ++ x ∷ []))

abbrev pub clear_list : {C : Type 0} → ObjectMethod C
clear_list locked id = with_none (check_unlocked locked id >> change_list id (λ items. []))

abbrev pub extend_by : {C : Type 0} → ObjectMethod C
extend_by locked id = with_one (λ x. extend locked id x >> pure value.None)

-- a negative place has the length added, and is then brought into the list
abbrev pub insert_place : ℤ → ℕ → ℕ
insert_place z count = times (clamped (pos 0) (pos count) (if int_lt z (pos 0) then z +ℤ pos count else z))

abbrev pub insert_in : {C : Type 0} → ObjectMethod C
insert_in locked id = with_two (λ i x. do
  z ← as_int i
  check_unlocked locked id
  change_list id (λ items. insert items (insert_place z (length items)) x))

-- the last item where no place is given
abbrev pub pop_item : {C : Type 0} → ObjectMethod C
pop_item locked id = with_optional (λ i. do
  z ← as_int_or (negsuc 0) i
  check_unlocked locked id
  items ← read (λ s. list s id)
  x ← item_at items z
  change (λ s. with_list s id (remove items (unwrap_or (place_of z (length items)) 0)))
  pure x)

-- the place of the first equal item
abbrev pub place_in : {C : Type 0} → ℕ → Value → Action C ℕ
place_in id x = do
  items ← read (λ s. list s id)
  place ← search_in x items
  given_or failure.NoElement place

abbrev pub remove_item : {C : Type 0} → ObjectMethod C
remove_item locked id = with_one (λ x. do
  check_unlocked locked id
  place ← place_in id x
  change_list id (λ items. remove items place))

abbrev pub index_of : {C : Type 0} → ObjectMethod C
index_of locked id = with_one (λ x. place_in id x >>= (λ place. pure (value.Int (pos place))))

abbrev pub list_methods : {C : Type 0} → List (List ℕ × ObjectMethod C)
list_methods =
    (codes "append", append) ∷ (codes "clear", clear_list) ∷ (codes "extend", extend_by) ∷ (codes "insert", insert_in)
    ∷ (codes "pop", pop_item) ∷ (codes "remove", remove_item) ∷ (codes "index", index_of) ∷ []

-- ---- dicts

-- the value that stands at a key, or the one that is given, or None
abbrev pub get : {C : Type 0} → ObjectMethod C
get locked id = with_one_or_two (λ k d. do
  key ← key_in k
  charge_weight k
  read (λ s. unwrap_or (dict_get (dict s id) key) (unwrap_or d value.None)))

-- the value at a key, or the one that is given in its place
abbrev pub found_or : {C : Type 0} → Option Value → Option Value → Action C Value
found_or (Some v) d = pure v
found_or None d = given_or failure.NoKey d

abbrev pub pop_key : {C : Type 0} → ObjectMethod C
pop_key locked id = with_one_or_two (λ k d. do
  key ← key_in k
  check_unlocked locked id
  found ← read (λ s. dict_get (dict s id) key)
  v ← found_or found d
  charge_weight k
  change (λ s. with_dict s id (dict_without (dict s id) key))
  pure v)

-- a key that is absent gets the value that is given
abbrev pub put_if_absent : {C : Type 0} → ℕ → Key → Option Value → Value → Action C Value
put_if_absent id key (Some v) d = pure v
put_if_absent id key None d = change (λ s. with_dict s id (dict_put (dict s id) key d)) >> pure d

abbrev pub set_default : {C : Type 0} → ObjectMethod C
set_default locked id = with_one_or_two (λ k d. do
  key ← key_in k
  check_unlocked locked id
  charge_weight k
  found ← read (λ s. dict_get (dict s id) key)
  put_if_absent id key found (unwrap_or d value.None))

abbrev pub keys_of : {C : Type 0} → ObjectMethod C
keys_of locked id = with_none (read (λ s. key_values (dict s id)) >>= charged_list)

abbrev pub pair_values : List (Key × Value) → List Value
pair_values pairs = map (λ pair. pair.1) pairs

abbrev pub values_of : {C : Type 0} → ObjectMethod C
values_of locked id = with_none (read (λ s. pair_values (dict s id)) >>= charged_list)

abbrev pub pair_rows : List (Key × Value) → List (List Value)
pair_rows pairs = map (λ pair. keys.value_of pair.0 ∷ pair.1 ∷ []) pairs

abbrev pub items_of_dict : {C : Type 0} → ObjectMethod C
items_of_dict locked id = with_none (read (λ s. pair_rows (dict s id)) >>= list_of_tuples)

abbrev pub put_all : List (Key × Value) → List (Key × Value) → List (Key × Value)
put_all pairs [] = pairs
put_all pairs (pair ∷ more) = put_all (dict_put pairs pair.0 pair.1) more

abbrev pub dict_at : {C : Type 0} → Value-F Value → Action C (List (Key × Value))
dict_at (Value-F.Dict id) = read (λ s. dict s id)
dict_at _ = fail failure.WrongType

abbrev pub update : {C : Type 0} → ObjectMethod C
update locked id = with_one (λ d. do
  more ← dict_at (out-Value d)
  check_unlocked locked id
  charge_items (flat_map (λ pair. keys.value_of pair.0 ∷ pair.1 ∷ []) more)
  change (λ s. with_dict s id (put_all (dict s id) more))
  pure value.None)

abbrev pub clear_dict : {C : Type 0} → ObjectMethod C
clear_dict locked id = with_none (check_unlocked locked id >> change (λ s. with_dict s id []) >> pure value.None)

abbrev pub dict_methods : {C : Type 0} → List (List ℕ × ObjectMethod C)
dict_methods =
    (codes "get", get) ∷ (codes "pop", pop_key) ∷ (codes "setdefault", set_default) ∷ (codes "keys", keys_of)
    ∷ (codes "values", values_of) ∷ (codes "items", items_of_dict) ∷ (codes "update", update) ∷ (codes "clear", clear_dict) ∷ []

-- ---- texts: a method over the text and the arguments

abbrev pub TextMethod : Type 0 → Type 0
TextMethod C = List ℕ → List Value → Action C Value

abbrev pub place_or_none : Option ℕ → Value
place_or_none None = value.Int (negsuc 0)
place_or_none (Some place) = value.Int (pos place)

-- the first place, or -1
abbrev pub find : {C : Type 0} → TextMethod C
find text = with_one (λ v. do
  what ← as_text v
  charge (length text + length what)
  pure (place_or_none (texts.find text what)))

-- a text that is not empty
abbrev pub not_empty : {C : Type 0} → List ℕ → Action C (Unit {0})
not_empty by = if is_empty by then fail failure.BadText else pure tt

-- new texts: the code points of the text, then the weights of the texts
abbrev pub pieces : {C : Type 0} → List ℕ → List (List ℕ) → Action C Value
pieces text parts = charge (length text) >> charged_list (map value.Text parts)

abbrev pub split_by : {C : Type 0} → List ℕ → Option Value → Action C Value
split_by text None = pieces text (texts.split_white text)
split_by text (Some v) = do
  by ← as_text v
  not_empty by
  pieces text (texts.split text by)

abbrev pub split : {C : Type 0} → TextMethod C
split text = with_optional (split_by text)

-- each item's weight, then whether it is a text
abbrev pub walk_texts : {C : Type 0} → List Value → Action C (List (List ℕ))
walk_texts [] = pure []
walk_texts (x ∷ xs) = do
  charge_weight x
  part ← as_text x
  more ← walk_texts xs
  pure (part ∷ more)

abbrev pub join : {C : Type 0} → TextMethod C
join text = with_one (λ v. do
  items ← items_of v
  parts ← walk_texts items
  pure (value.Text (texts.join text parts)))

abbrev pub replace : {C : Type 0} → TextMethod C
replace text = with_two (λ a b. do
  old ← as_text a
  new ← as_text b
  not_empty old
  charge (length text)
  pure (value.Text (texts.replace text old new)))

abbrev pub as_set : {C : Type 0} → Option Value → Action C (Option (List ℕ))
as_set None = pure None
as_set (Some v) = as_text v >>= (λ set. pure (Some set))

abbrev pub strip_ends : {C : Type 0} → Bool → Bool → TextMethod C
strip_ends left right text = with_optional (λ v. do
  set ← as_set v
  charge (length text)
  pure (value.Text (texts.strip text set left right)))

abbrev pub tested_with : {C : Type 0} → (List ℕ → List ℕ → Bool) → TextMethod C
tested_with test text = with_one (λ v. do
  what ← as_text v
  charge (length what)
  pure (value.Bool (test text what)))

abbrev pub text_methods : {C : Type 0} → List (List ℕ × TextMethod C)
text_methods =
    (codes "find", find) ∷ (codes "split", split) ∷ (codes "join", join) ∷ (codes "replace", replace)
    ∷ (codes "strip", strip_ends true true) ∷ (codes "lstrip", strip_ends true false) ∷ (codes "rstrip", strip_ends false true)
    ∷ (codes "startswith", tested_with texts.starts_with) ∷ (codes "endswith", tested_with texts.ends_with) ∷ []

-- ---- calls of methods

-- the method of this name that a value has, over its arguments
abbrev pub method_at : {C : Type 0} → List ℕ → List ℕ → Value-F Value → Option (List Value → Action C Value)
method_at locked name (Value-F.List id) = option_map (λ method. method locked id) (named_in list_methods name)
method_at locked name (Value-F.Dict id) = option_map (λ method. method locked id) (named_in dict_methods name)
method_at locked name (Value-F.Text text) = option_map (λ method. method text) (named_in text_methods name)
method_at locked name _ = None

-- a call of a method of a value, where these objects are locked; another name, or a value without methods, is NoMethod
unfoldable pub call_method : {C : Type 0} → List ℕ → List ℕ → Value → List Value → ByName → Action C Value
call_method locked name of vs named = given_or failure.NoMethod (method_at locked name (out-Value of)) >>= (λ method. unnamed named (method vs))
