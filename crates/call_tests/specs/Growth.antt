-- What several calls, one after the other, leave of a machine.
use Rattle.std.specs.Prelude.{IsTrue}
use Rattle.star_value.specs.declared.value.Value.{Value}
use Rattle.star_meaning.specs.Validity.{MachineState, all_in, is_proper}
use Rattle.star_builtins.specs.Reached.{Fits}

-- values that fitted still fit, and values that were proper are
pub record Grows (before after : MachineState) : Type 0 where
  pub fit : (v : Value) → Fits before v → Fits after v
  pub proper : IsTrue (all_in is_proper before.state) → IsTrue (all_in is_proper after.state)
