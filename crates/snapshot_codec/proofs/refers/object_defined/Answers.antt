use Rattle.snapshot_codec.proofs.DefinedLaws.{function_defined}
use Rattle.snapshot_codec.proofs.refers.object_defined.Goals as goal

pub returns-in-Function : goal.returns-in-Function
returns-in-Function c = function_defined _ _ _ _ _ _ _ c.in-Function.is c.len-count.ensures c.any_function.ensures
