use Rattle.snapshot_codec.proofs.DefinedLaws.{defined_all}
use Rattle.snapshot_codec.proofs.refers.functions_defined.Goals as goal

pub returns : goal.returns
returns c = defined_all c.args.program.now _ _ _ _ _ _ _ c.as_slice-ran.ensures c.as_slice-objects.ensures c.as_slice-made.ensures.value c.in_ok-tables.ensures c.all_defined-all.ensures
