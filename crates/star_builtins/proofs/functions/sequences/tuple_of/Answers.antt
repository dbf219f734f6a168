use Rattle.std.proofs.Common.{refl}
use Rattle.star_builtins.proofs.FitLemmas.{inside_tuple}
use Rattle.star_builtins.proofs.functions.sequences.tuple_of.Goals as goal

pub returns-in-None-clause-fits : goal.returns-in-None-clause-fits
returns-in-None-clause-fits c = rw c.new.ensures (inside_tuple c.args.machine.now _ refl)
