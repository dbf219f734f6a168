use Rattle.std.proofs.Common.{sym, ap, ◌∙◌}
use Rattle.snapshot_codec.specs.Writing.{number_in}
use Rattle.snapshot_codec.proofs.NumberLaws.{number_absent}
use Rattle.snapshot_codec.proofs.numbers.Numbers.number.Goals as goal

pub returns-in-None : goal.returns-in-None
returns-in-None c = c.len.ensures.len ∙ number_absent c.args.self.now.order.keys c.id.inside.0 (sym c.in-None.ensures.index) ∙ ap (number_in c.args.self.now.order.keys) c.id.view_is
