-- Lists of values that fit each machine.
use Rattle.std.proofs.Common.{List, [], ◌∷◌, ◌++◌, refl}
use Rattle.heap_store.proofs.Tested.{all_push}
use Rattle.star_value.specs.declared.value.Value.{Value}
use Rattle.star_meaning.specs.Validity.{MachineState, fits, is_proper}
use Rattle.star_builtins.specs.Reached.{AllFit, Fits}

pub none_fit : (m : MachineState) → AllFit m []
none_fit m = record { references = refl; proper = refl }

pub push_fits : (m : MachineState) (values : List Value) (v : Value) → AllFit m values → Fits m v → AllFit m (values ++ v ∷ [])
push_fits m values v fit one = record {
  references = all_push (fits m.state.objects) values v fit.references one.references;
  proper = all_push is_proper values v fit.proper one.proper;
}
