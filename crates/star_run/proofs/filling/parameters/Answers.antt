use Rattle.std.proofs.Common.{arith}
use Rattle.star_run.proofs.ArgumentLemmas.{no_default_left}
use Rattle.star_meaning.specs.Statements.{parameters_of}
use Rattle.star_run.proofs.filling.parameters.Goals as goal

pub returns : goal.returns
returns c =
    no_default_left c.args.def.now.defaults c.args.defaults.now c.loop-place.parameters.items (parameters_of c.args.def.now c.args.defaults.now) c.loop-place.place (omega arith) c.loop-place.invariant
