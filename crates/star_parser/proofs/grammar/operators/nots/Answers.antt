use Rattle.std.proofs.Common.{arith}
use Rattle.std.proofs.lemmas.Grind.{common_steps}
use Rattle.star_parser.specs.Tables.{nots_from}
use Rattle.star_parser.proofs.Turns.{one_more}
use Rattle.star_parser.proofs.grammar.operators.nots.Goals as goal

pub loop-turn-preserved : goal.loop-turn-preserved
unfolding nots_from
loop-turn-preserved c =
    let e = one_more (λ n. nots_from n c.loop-turn.count c.loop-turn.tokens.rest.now) _ c.loop-turn._turn c.loop-turn-test.true c.loop-turn.invariant.0 in
    let b = c.loop-turn.invariant.1 in
    (grind (arith, common_steps), omega arith)
