use Rattle.std.proofs.Common.{◌≡◌, rules, Err}
use Rattle.star_builtins.specs.Reached.{names, store}
use Rattle.star_builtins.proofs.PrintLemmas.{print_ends_first}
use Rattle.star_builtins.proofs.TruthLemmas.{fits_none}
use Rattle.star_builtins.proofs.functions.printing.print.Goals as goal

pub returns-in_err-by-clause-gives : goal.returns-in_err-by-clause-gives
returns-in_err-by-clause-gives c =
    let s = store c.args.machine.now c.args.meter.now.left in
    let r : c.from_residual.result ≡ Err c.in_err-by.field-0.0 = search rules in
    rw r (print_ends_first (names c.args.program.now) c.args.call.positional c.args.call.named s c.args.out.now _ (c.in_err-by.ensures s))

pub returns-clause-fits : goal.returns-clause-fits
returns-clause-fits c = λ m. fits_none m
