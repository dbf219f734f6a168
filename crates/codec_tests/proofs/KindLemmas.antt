-- What the kind of an object says of it.
use Rattle.std.proofs.Common.{◌≡◌, ℕ, List, Option, Some, None, IsTrue, refl, slice_get}
use Rattle.std.specs.Prelude.{option_map}
use Rattle.heap_store.specs.declared.kind.Kind.{Kind}
use Rattle.heap_store.specs.declared.kind.Kind.TheVariants as kind
use Rattle.heap_store.specs.Objects.{kind_of}
use Rattle.star_meaning.specs.State.{Object, AList, ADict, AFunction}
use Rattle.star_meaning.specs.Validity.{is_dict, is_function, is_list}

list_is : (o : Option (Object ℕ)) → option_map kind_of o ≡ Some kind.List → IsTrue (is_list o)
list_is None e = cc
list_is (Some (AList items)) e = refl
list_is (Some (ADict pairs)) e = cc
list_is (Some (AFunction cell number defaults)) e = cc

dict_is : (o : Option (Object ℕ)) → option_map kind_of o ≡ Some kind.Dict → IsTrue (is_dict o)
dict_is None e = cc
dict_is (Some (AList items)) e = cc
dict_is (Some (ADict pairs)) e = refl
dict_is (Some (AFunction cell number defaults)) e = cc

function_is : (o : Option (Object ℕ)) → option_map kind_of o ≡ Some kind.Function → IsTrue (is_function o)
function_is None e = cc
function_is (Some (AList items)) e = cc
function_is (Some (ADict pairs)) e = cc
function_is (Some (AFunction cell number defaults)) e = refl

pub list_by_kind : (os : List (Object ℕ)) (id : ℕ) → option_map kind_of (slice_get os id) ≡ Some kind.List → IsTrue (is_list (slice_get os id))
list_by_kind os id e = list_is (slice_get os id) e

pub dict_by_kind : (os : List (Object ℕ)) (id : ℕ) → option_map kind_of (slice_get os id) ≡ Some kind.Dict → IsTrue (is_dict (slice_get os id))
dict_by_kind os id e = dict_is (slice_get os id) e

pub function_by_kind : (os : List (Object ℕ)) (id : ℕ) → option_map kind_of (slice_get os id) ≡ Some kind.Function → IsTrue (is_function (slice_get os id))
function_by_kind os id e = function_is (slice_get os id) e
