use Rattle.std.proofs.Common.{inr, arith}
use Rattle.nb_reader.proofs.InputsLemmas.{too_many, not_too_many}
use Rattle.nb_reader.proofs.inputs.limited.Goals as goal

pub returns-then-count-gt-MOST_INPUTS : goal.returns-then-count-gt-MOST_INPUTS
returns-then-count-gt-MOST_INPUTS c = inr (too_many c.args.members.now.entries c.len-count.result c.len-count.ensures.len (omega arith))

pub returns : goal.returns
returns c = rw (not_too_many c.args.members.now.entries c.len-count.result c.len-count.ensures.len (omega arith)) c.all_inputs.ensures
