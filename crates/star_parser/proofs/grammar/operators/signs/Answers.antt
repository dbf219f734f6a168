use Rattle.std.proofs.Common.{rules, arith}
use Rattle.std.proofs.lemmas.Grind.{common_steps}
use Rattle.star_parser.specs.Tables.{signs_from}
use Rattle.star_parser.proofs.Turns.{one_more}
use Rattle.star_parser.proofs.grammar.operators.signs.Goals as goal

pub loop-turn-preserved : goal.loop-turn-preserved
unfolding signs_from
loop-turn-preserved c =
    let e = one_more (λ n. signs_from n c.loop-turn.found c.loop-turn.tokens.rest.now) _ c.loop-turn._turn c.loop-turn-test.true c.loop-turn.invariant in
    first_of (search rules, grind (arith, common_steps))
