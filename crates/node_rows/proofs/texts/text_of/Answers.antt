use Rattle.node_rows.proofs.TextLemmas.{done_text}
use Rattle.node_rows.proofs.texts.text_of.Goals as goal

pub returns-in-Done : goal.returns-in-Done
returns-in-Done c = done_text c.args.number c.args.ran c.in-Done.is
