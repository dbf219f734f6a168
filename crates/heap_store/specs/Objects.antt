-- What a machine's calls say beside the reads and changes of the language: the kind of an object, a list or dict that is
-- cleared, and the defaults of a function.
use Rattle.std.specs.Prelude.{ℕ, List, [], Option, Some, None, if◌then◌else◌, slice_set}
use Rattle.star_value.specs.declared.value.Value.{Value}
use Rattle.star_meaning.specs.State.{Object, AList, ADict, AFunction, State, function, object, with_list, with_dict}
use Rattle.star_meaning.specs.Validity.{is_list}
use Rattle.heap_store.specs.declared.kind.Kind.{Kind}
use Rattle.heap_store.specs.declared.kind.Kind.TheVariants as kind

abbrev pub kind_of : Object ℕ → Kind
kind_of (AList items) = kind.List
kind_of (ADict pairs) = kind.Dict
kind_of (AFunction cell number defaults) = kind.Function

-- a list or a dict without what it held
abbrev pub emptied : Object ℕ → Object ℕ
emptied (AList items) = AList []
emptied (ADict pairs) = ADict []
emptied (AFunction cell number defaults) = AFunction cell number defaults

-- nothing in a list or a dict
unfoldable pub with_nothing : State ℕ → ℕ → State ℕ
with_nothing s id = if is_list (object s id) then with_list s id [] else with_dict s id []

abbrev pub defaults_in : Option (ℕ × ℕ × List Value) → List Value
defaults_in None = []
defaults_in (Some parts) = parts.2

-- the values of a function's defaults
unfoldable pub defaults : State ℕ → ℕ → List Value
defaults s id = defaults_in (function s id)

abbrev pub with_defaults_in : Option (ℕ × ℕ × List Value) → State ℕ → ℕ → List Value → State ℕ
with_defaults_in None s id others = s
with_defaults_in (Some parts) s id others = record s { objects = slice_set s.objects id (AFunction parts.0 parts.1 others) }

-- other defaults in a function
unfoldable pub with_defaults : State ℕ → ℕ → List Value → State ℕ
with_defaults s id others = with_defaults_in (function s id) s id others
