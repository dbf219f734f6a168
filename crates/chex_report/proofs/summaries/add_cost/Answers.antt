use Rattle.std.proofs.Common.{◌∙◌, ◌++◌, sym, ap}
use Rattle.std.proofs.lemmas.List.{append-nil}
use Rattle.chex_report.specs.Summaries.{cost_line}
use Rattle.chex_report.proofs.summaries.add_cost.Goals as goal

pub returns-in-None : goal.returns-in-None
unfolding cost_line
returns-in-None c = sym (append-nil c.args.text.now) ∙ ap (λ o. c.args.text.now ++ cost_line o) (sym c.in-None.is)
