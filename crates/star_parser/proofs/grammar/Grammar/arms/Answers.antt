use Rattle.std.proofs.Common.{rules, arith}
use Rattle.std.proofs.lemmas.Grind.{common_steps}
use Rattle.star_parser.specs.Readers.{expr, arms_from}
use Rattle.star_parser.proofs.Turns.{one_more}
use Rattle.star_parser.proofs.grammar.Grammar.arms.Goals as goal

pub loop-turn-preserved : goal.loop-turn-preserved
unfolding arms_from
loop-turn-preserved g c =
    let e = one_more (λ n. arms_from (expr c.args.self.now.depth) n c.loop-turn.found c.loop-turn.value c.loop-turn.tokens.rest.now) _ c.loop-turn._turn c.loop-turn-test.true c.loop-turn.invariant in
    first_of (search rules, grind (arith, common_steps))
