use Rattle.std.proofs.Common.{rules, arith}
use Rattle.std.proofs.lemmas.Grind.{common_steps}
use Rattle.star_parser.specs.Readers.{expr, pairs_from}
use Rattle.star_parser.proofs.Turns.{one_more}
use Rattle.star_parser.proofs.grammar.Grammar.pairs_from.Goals as goal

pub loop-turn-preserved : goal.loop-turn-preserved
unfolding pairs_from
loop-turn-preserved g c =
    let e = one_more (λ n. pairs_from (expr c.args.self.now.depth) n c.loop-turn.found c.loop-turn.tokens.rest.now) _ c.loop-turn._turn c.loop-turn-test.true c.loop-turn.invariant in
    first_of (search rules, grind (arith, common_steps))

pub returns-in_err-expect : goal.returns-in_err-expect
unfolding pairs_from
returns-in_err-expect g c =
    let e = one_more (λ n. pairs_from (expr c.args.self.now.depth) n c.loop-turn.found c.loop-turn.tokens.rest.now) _ c.loop-turn._turn c.loop-turn-test.true c.loop-turn.invariant in
    first_of (search rules, grind (arith, common_steps))
