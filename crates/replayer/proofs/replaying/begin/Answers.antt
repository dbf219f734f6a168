use Rattle.std.proofs.Common.{◌∙◌}
use Rattle.exec_tree.specs.Forests.{cells_of}
use Rattle.replayer.proofs.ReplayLemmas.{program_is}
use Rattle.replayer.proofs.replaying.begin.Goals as goal

pub returns-in-Ok-begin-clause-ok : goal.returns-in-Ok-begin-clause-ok
returns-in-Ok-begin-clause-ok g c = (
  c.in-Ok.ensures.ok.0 ∙ program_is c.in_ok-program.program (cells_of c.args.forest.now) c.in_ok-program.ensures,
  c.in-Ok.ensures.ok.1,
  c.in-Ok-begin.ensures.ok,
)
