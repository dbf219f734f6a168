use Rattle.std.proofs.Common.{rules, ◌<◌, ◌∙◌, ap}
use Rattle.std.specs.Int.{div_ceil}
use Rattle.plan_type.proofs.Widths.{ceil_small}
use Rattle.plan_type.proofs.row.Row.blocks.Goals as goal

pub returns-clause-most : goal.returns-clause-most
returns-clause-most c large =
    let fits : c.args.self.now.bytes < 18446744073709551616 = search rules in
    let s = ceil_small c.args.self.now.bytes c.args.block fits large in let e = c.div_ceil.ensures ∙ ap (div_ceil c.args.self.now.bytes) c.from.ensures in rw e s
