-- What an object that was read stands for.
use Rattle.std.specs.Prelude.{ℕ, map}
use Rattle.star_meaning.specs.State.{Object, AList, ADict, AFunction}
use Rattle.star_meaning.specs.Validity.{MachineState}
use Rattle.snapshot_codec.specs.declared.content.Content.{Content}
use Rattle.snapshot_codec.specs.declared.content.Content.TheVariants as content
use Rattle.snapshot_codec.specs.declared.parts.Parts.{Parts}

abbrev pub object_of : Content → Object ℕ
object_of (content.List items) = AList items
object_of (content.Dict pairs) = ADict pairs
object_of (content.Function cell number defaults) = AFunction cell number defaults

-- the machine state of what was read
abbrev pub state_of : Parts → MachineState
state_of parts = record { state = record { globals = parts.globals; objects = map object_of parts.objects }; ran = parts.ran }
