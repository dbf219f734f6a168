use Rattle.star_builtins.specs.Reached.{names, store}
use Rattle.star_builtins.proofs.FilledLemmas.{not_text}
use Rattle.star_builtins.proofs.operators.modulo.Goals as goal

pub returns-in_default : goal.returns-in_default
returns-in_default c = record {
  gives = rw (not_text (names c.args.program.now) c.args.left.now c.args.right.now c.in_default.not-Text) (c.modulo.ensures.gives (store c.args.machine.now c.args.meter.now.left));
  fits = c.modulo.ensures.fits c.args.machine.now;
}
