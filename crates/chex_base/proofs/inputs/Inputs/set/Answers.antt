use Rattle.std.proofs.Common.{sym}
use Rattle.chex_base.proofs.InputsLemmas.{not_at}
use Rattle.chex_base.proofs.inputs.Inputs.set.Goals as goal

pub returns-clause-others : goal.returns-clause-others
returns-clause-others c = λ other differs. rw (sym c.self.view_is) (c.in_ok-insert.ensures.updates.2 other (not_at c.args.name other differs))
