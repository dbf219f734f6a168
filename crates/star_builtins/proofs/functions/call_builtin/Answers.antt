use Rattle.std.proofs.Common.{◌∙◌}
use Rattle.star_builtins.specs.Reached.{names, store}
use Rattle.star_builtins.specs.Table.{silent_row}
use Rattle.star_builtins.proofs.BuiltinTable.{row_print, row_silent, silent_gives, written_as}
use Rattle.star_builtins.proofs.functions.call_builtin.Goals as goal

pub returns-in-Print-clause-gives : goal.returns-in-Print-clause-gives
returns-in-Print-clause-gives c =
    let naming = names c.args.program.now in
    let vs = c.args.call.positional in
    let named = c.args.call.named in
    written_as _ _ _ _ _ _ _ (c.in-Print.ensures naming vs named ∙ row_print naming vs named) c.print.ensures.gives

pub returns-in-Silent-clause-gives : goal.returns-in-Silent-clause-gives
returns-in-Silent-clause-gives c =
    let naming = names c.args.program.now in
    let vs = c.args.call.positional in
    let named = c.args.call.named in
    written_as _ _ _ _ _ _ _ (c.in-Silent.ensures naming vs named ∙ row_silent naming c.in-Silent.row vs named) (silent_gives c.args.out.now (silent_row naming c.in-Silent.row vs named) (store c.args.machine.now c.args.meter.now.left) _ _ c.silent.ensures.gives)
