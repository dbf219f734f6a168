-- The state that cells share: global names and numbered objects, with the few reads and changes by which a cell meets it.
-- A state is over what names a cell: in a machine's state a function has its cell's number, in a shown state the cell itself.
use Rattle.std.specs.Prelude.{ℕ, List, [], ◌∷◌, ◌++◌, length, Option, Some, None, if◌then◌else◌, slice_get, slice_set}
use Rattle.std.specs.BTreeMap.{insert_entry, is_at}
use Rattle.std.specs.Map.{lookup}
use Rattle.chex_base.specs.TextOrder.{text_cmp}
use Rattle.star_value.specs.declared.key.Key.{Key}
use Rattle.star_value.specs.declared.value.Value.{Value}
use Rattle.star_value.specs.KeyOrder.{same_key}

-- a list of values, a dict of pairs in order of insertion, or a function with its cell, its number in that cell and the
-- values of its defaults
pub data Object (C : Type 0) : Type 0 where
  AList : List Value → Object C
  ADict : List (Key × Value) → Object C
  AFunction : C → ℕ → List Value → Object C

-- global names with their values, in rising byte order of the names, and the objects in order of number
pub record State (C : Type 0) : Type 0 where
  pub globals : List (List ℕ × Value)
  pub objects : List (Object C)

abbrev pub empty : {C : Type 0} → State C
empty = record { globals = []; objects = [] }

-- ---- reads

-- the value of a global name, if it is bound
unfoldable pub global : {C : Type 0} → State C → List ℕ → Option Value
global s name = lookup (is_at (text_cmp name)) s.globals

abbrev pub items_held : {C : Type 0} → Option (Object C) → List Value
items_held (Some (AList items)) = items
items_held (Some (ADict pairs)) = []
items_held (Some (AFunction cell number defaults)) = []
items_held None = []

abbrev pub pairs_held : {C : Type 0} → Option (Object C) → List (Key × Value)
pairs_held (Some (AList items)) = []
pairs_held (Some (ADict pairs)) = pairs
pairs_held (Some (AFunction cell number defaults)) = []
pairs_held None = []

abbrev pub function_held : {C : Type 0} → Option (Object C) → Option (C × ℕ × List Value)
function_held (Some (AList items)) = None
function_held (Some (ADict pairs)) = None
function_held (Some (AFunction cell number defaults)) = Some (cell, number, defaults)
function_held None = None

-- the object of a number, if there is one
unfoldable pub object : {C : Type 0} → State C → ℕ → Option (Object C)
object s id = slice_get s.objects id

-- the items of a list
unfoldable pub list : {C : Type 0} → State C → ℕ → List Value
list s id = items_held (object s id)

-- the pairs of a dict
unfoldable pub dict : {C : Type 0} → State C → ℕ → List (Key × Value)
dict s id = pairs_held (object s id)

-- the cell, the number and the defaults of a function
unfoldable pub function : {C : Type 0} → State C → ℕ → Option (C × ℕ × List Value)
function s id = function_held (object s id)

-- ---- changes

-- the same state with this value at this global name
unfoldable pub set_global : {C : Type 0} → State C → List ℕ → Value → State C
set_global s name v = record s { globals = insert_entry text_cmp s.globals name v }

-- the number of the next object that is made
unfoldable pub next_id : {C : Type 0} → State C → ℕ
next_id s = length s.objects

-- a new object, which has the next number
unfoldable pub with_new : {C : Type 0} → State C → Object C → State C
with_new s new = record s { objects = s.objects ++ new ∷ [] }

-- other items in a list
unfoldable pub with_list : {C : Type 0} → State C → ℕ → List Value → State C
with_list s id items = record s { objects = slice_set s.objects id (AList items) }

-- other pairs in a dict
unfoldable pub with_dict : {C : Type 0} → State C → ℕ → List (Key × Value) → State C
with_dict s id pairs = record s { objects = slice_set s.objects id (ADict pairs) }

-- ---- pairs of a dict

-- the value of a key
unfoldable pub dict_get : List (Key × Value) → Key → Option Value
dict_get [] key = None
dict_get (pair ∷ pairs) key = if same_key key pair.0 then Some pair.1 else dict_get pairs key

-- the same pairs with this value at this key: a present key keeps its place, and a new one goes last
unfoldable pub dict_put : List (Key × Value) → Key → Value → List (Key × Value)
dict_put [] key v = (key, v) ∷ []
dict_put (pair ∷ pairs) key v = if same_key key pair.0 then (pair.0, v) ∷ pairs else pair ∷ dict_put pairs key v

-- the same pairs without this key
unfoldable pub dict_without : List (Key × Value) → Key → List (Key × Value)
dict_without [] key = []
dict_without (pair ∷ pairs) key = if same_key key pair.0 then pairs else pair ∷ dict_without pairs key
