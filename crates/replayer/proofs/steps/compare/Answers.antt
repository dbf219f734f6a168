use Rattle.std.proofs.Common.{sym, ap, ◌∙◌}
use Rattle.std.specs.Option.{option_copied}
use Rattle.replayer.proofs.ComputeLemmas.{compared, no_row}
use Rattle.replayer.proofs.steps.compare.Goals as goal

pub returns : goal.returns
returns c =
    compared c.first_difference.result c.args.costs.now c.args.node c.in-Some.recorded.now c.args.measured.now (sym c.row.ensures ∙ ap option_copied c.in-Some.is) c.first_difference.ensures

pub unreachable-requires : goal.unreachable-requires
unreachable-requires c = no_row c.args.costs.now c.args.node c.requires (sym c.row.ensures ∙ ap option_copied c.in-None.is)
