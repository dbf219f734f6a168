-- Values that hold no others may stand in any machine.
use Rattle.std.proofs.Common.{◌≡◌, ℕ, Bool, List, refl, IsTrue}
use Rattle.star_value.specs.declared.builtin.Builtin.{Builtin}
use Rattle.star_value.specs.declared.value.Value.{Value, fold-roll-Value}
use Rattle.star_value.specs.declared.value.Value.TheVariants as value
use Rattle.star_value.specs.Weight.{depth_step}
use Rattle.star_meaning.specs.Validity.{MachineState, fits, fits_step, is_proper, proper_step}
use Rattle.star_builtins.specs.Reached.{Fits}

pub none_fits : (m : MachineState) → Fits m value.None
unfolding fits is_proper
none_fits m = record {
  references = rw (← value.rolls-None, fold-roll-Value Bool (fits_step m.state.objects)) refl;
  proper = rw (← value.rolls-None, fold-roll-Value ℕ depth_step, fold-roll-Value Bool proper_step) refl;
}

pub bool_fits : (m : MachineState) (truth : Bool) → Fits m (value.Bool truth)
unfolding fits is_proper
bool_fits m truth = record {
  references = rw (← value.rolls-Bool truth, fold-roll-Value Bool (fits_step m.state.objects)) refl;
  proper = rw (← value.rolls-Bool truth, fold-roll-Value ℕ depth_step, fold-roll-Value Bool proper_step) refl;
}

pub builtin_fits : (m : MachineState) (which : Builtin) → Fits m (value.Builtin which)
unfolding fits is_proper
builtin_fits m which = record {
  references = rw (← value.rolls-Builtin which, fold-roll-Value Bool (fits_step m.state.objects)) refl;
  proper = rw (← value.rolls-Builtin which, fold-roll-Value ℕ depth_step, fold-roll-Value Bool proper_step) refl;
}

pub ruleset constants = (none_fits, bool_fits, builtin_fits)
