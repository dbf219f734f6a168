use Rattle.snapshot_codec.proofs.DefinedLaws.{numbers_both, numbers_first}
use Rattle.snapshot_codec.proofs.refers.numbers_fit.Goals as goal

pub returns-then-not-globals_fit : goal.returns-then-not-globals_fit
returns-then-not-globals_fit c = numbers_first _ _ _ _ c.as_slice-objects.ensures c.as_slice-globals.ensures c.if-not-globals_fit.ensures

pub returns : goal.returns
returns c = numbers_both _ _ _ _ _ c.as_slice-objects.ensures c.as_slice-globals.ensures c.if-not-globals_fit.ensures c.objects_fit.ensures
