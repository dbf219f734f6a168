use Rattle.std.proofs.Common.{arith}
use Rattle.star_meaning.specs.Statements.{body_names}
use Rattle.star_run.proofs.ArgumentLemmas.{body_added, names_all}
use Rattle.star_run.proofs.filling.with_body.Goals as goal

pub returns : goal.returns
returns c =
    body_added c.args.parameters.now c.args.slots c.add_unbound.new.self c.loop-parameter.names c.add_body.new.names (body_names c.args.def.now.body)
    (names_all c.args.parameters.now c.loop-parameter.parameter-index c.loop-parameter.names (omega arith) c.loop-parameter.invariant) c.in_ok-add_body.ensures c.in_ok-add_unbound.ensures
