-- What is put into a machine.
use Rattle.std.specs.Prelude.{ℕ, List, IsTrue}
use Rattle.std.specs.List.{list_all}
use Rattle.star_value.specs.declared.key.Key.{Key}
use Rattle.star_value.specs.declared.value.Value.{Value}
use Rattle.star_meaning.specs.Validity.{MachineState, fits, is_proper, all_in_pair}

-- pairs whose keys and values may each stand in a machine
pub record PairsFit (m : MachineState) (pairs : List (Key × Value)) : Type 0 where
  pub references : IsTrue (list_all (all_in_pair (fits m.state.objects)) pairs)
  pub proper : IsTrue (list_all (all_in_pair is_proper) pairs)
