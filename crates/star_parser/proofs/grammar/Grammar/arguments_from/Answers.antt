use Rattle.std.proofs.Common.{rules, arith, ◌-◌, ◌+◌}
use Rattle.std.proofs.lemmas.Grind.{common_steps}
use Rattle.star_parser.specs.Readers.{expr, arguments_from}
use Rattle.star_parser.proofs.Turns.{one_more}
use Rattle.star_parser.proofs.ArgumentSteps.{argument_step}
use Rattle.star_parser.proofs.grammar.Grammar.arguments_from.Goals as goal

pub loop-turn-preserved : goal.loop-turn-preserved
loop-turn-preserved g c =
    let e = one_more (λ n. arguments_from (expr c.args.self.now.depth) n c.loop-turn.found c.loop-turn.tokens.rest.now) _ c.loop-turn.turn c.loop-turn-test.true c.loop-turn.invariant in
    let s = argument_step (expr c.args.self.now.depth) (c.left-turns.result - (c.loop-turn.turn + 1)) c.loop-turn.found c.loop-turn.tokens.rest.now in
    first_of (search rules, grind (arith, common_steps))

pub returns-in_err-name : goal.returns-in_err-name
returns-in_err-name g c =
    let e = one_more (λ n. arguments_from (expr c.args.self.now.depth) n c.loop-turn.found c.loop-turn.tokens.rest.now) _ c.loop-turn.turn c.loop-turn-test.true c.loop-turn.invariant in
    let s = argument_step (expr c.args.self.now.depth) (c.left-turns.result - (c.loop-turn.turn + 1)) c.loop-turn.found c.loop-turn.tokens.rest.now in
    first_of (search rules, grind (arith, common_steps))

pub returns-in-Named : goal.returns-in-Named
returns-in-Named g c =
    let e = one_more (λ n. arguments_from (expr c.args.self.now.depth) n c.loop-turn.found c.loop-turn.tokens.rest.now) _ c.loop-turn.turn c.loop-turn-test.true c.loop-turn.invariant in
    let s = argument_step (expr c.args.self.now.depth) (c.left-turns.result - (c.loop-turn.turn + 1)) c.loop-turn.found c.loop-turn.tokens.rest.now in
    first_of (search rules, grind (arith, common_steps))

pub returns-then-eat : goal.returns-then-eat
returns-then-eat g c =
    let e = one_more (λ n. arguments_from (expr c.args.self.now.depth) n c.loop-turn.found c.loop-turn.tokens.rest.now) _ c.loop-turn.turn c.loop-turn-test.true c.loop-turn.invariant in
    let s = argument_step (expr c.args.self.now.depth) (c.left-turns.result - (c.loop-turn.turn + 1)) c.loop-turn.found c.loop-turn.tokens.rest.now in
    first_of (search rules, grind (arith, common_steps))

pub returns-in_err-expect : goal.returns-in_err-expect
returns-in_err-expect g c =
    let e = one_more (λ n. arguments_from (expr c.args.self.now.depth) n c.loop-turn.found c.loop-turn.tokens.rest.now) _ c.loop-turn.turn c.loop-turn-test.true c.loop-turn.invariant in
    let s = argument_step (expr c.args.self.now.depth) (c.left-turns.result - (c.loop-turn.turn + 1)) c.loop-turn.found c.loop-turn.tokens.rest.now in
    first_of (search rules, grind (arith, common_steps))

pub returns-then-eat-2 : goal.returns-then-eat-2
returns-then-eat-2 g c =
    let e = one_more (λ n. arguments_from (expr c.args.self.now.depth) n c.loop-turn.found c.loop-turn.tokens.rest.now) _ c.loop-turn.turn c.loop-turn-test.true c.loop-turn.invariant in
    let s = argument_step (expr c.args.self.now.depth) (c.left-turns.result - (c.loop-turn.turn + 1)) c.loop-turn.found c.loop-turn.tokens.rest.now in
    first_of (search rules, grind (arith, common_steps))
