-- What an object that the machine keeps stands for.
use Rattle.std.specs.Prelude.{ℕ}
use Rattle.star_meaning.specs.State.{Object, AList, ADict, AFunction}
use Rattle.heap_store.specs.declared.object.Form.{Form}
use Rattle.heap_store.specs.declared.object.Form.TheVariants.{List as HeldList, Dict as HeldDict, Function as HeldFunction}

abbrev pub object_of : Form → Object ℕ
object_of (HeldList items) = AList items.items
object_of (HeldDict pairs) = ADict pairs.value
object_of (HeldFunction cell number defaults) = AFunction cell number defaults
