use Rattle.std.proofs.Common.{rules, arith}
use Rattle.std.proofs.lemmas.Grind.{common_steps}
use Rattle.star_parser.specs.Readers.{expr, named_from}
use Rattle.star_parser.proofs.Turns.{one_more}
use Rattle.star_parser.proofs.grammar.Grammar.named_from.Goals as goal

pub loop-turn-preserved : goal.loop-turn-preserved
unfolding named_from
loop-turn-preserved g c =
    let e = one_more (λ n. named_from (expr c.args.self.now.depth) n c.loop-turn.positional c.loop-turn.named c.loop-turn.name c.loop-turn.tokens.rest.now) _ c.loop-turn._turn c.loop-turn-test.true c.loop-turn.invariant in
    first_of (search rules, grind (arith, common_steps))

pub returns-in_err-expect : goal.returns-in_err-expect
unfolding named_from
returns-in_err-expect g c =
    let e = one_more (λ n. named_from (expr c.args.self.now.depth) n c.loop-turn.positional c.loop-turn.named c.loop-turn.name c.loop-turn.tokens.rest.now) _ c.loop-turn._turn c.loop-turn-test.true c.loop-turn.invariant in
    first_of (search rules, grind (arith, common_steps))

pub returns-in_err-name : goal.returns-in_err-name
unfolding named_from
returns-in_err-name g c =
    let e = one_more (λ n. named_from (expr c.args.self.now.depth) n c.loop-turn.positional c.loop-turn.named c.loop-turn.name c.loop-turn.tokens.rest.now) _ c.loop-turn._turn c.loop-turn-test.true c.loop-turn.invariant in
    first_of (search rules, grind (arith, common_steps))

pub returns-in_err-expect-2 : goal.returns-in_err-expect-2
unfolding named_from
returns-in_err-expect-2 g c =
    let e = one_more (λ n. named_from (expr c.args.self.now.depth) n c.loop-turn.positional c.loop-turn.named c.loop-turn.name c.loop-turn.tokens.rest.now) _ c.loop-turn._turn c.loop-turn-test.true c.loop-turn.invariant in
    first_of (search rules, grind (arith, common_steps))

pub returns-then-eat-2 : goal.returns-then-eat-2
unfolding named_from
returns-then-eat-2 g c =
    let e = one_more (λ n. named_from (expr c.args.self.now.depth) n c.loop-turn.positional c.loop-turn.named c.loop-turn.name c.loop-turn.tokens.rest.now) _ c.loop-turn._turn c.loop-turn-test.true c.loop-turn.invariant in
    first_of (search rules, grind (arith, common_steps))
