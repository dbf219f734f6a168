use Rattle.std.proofs.Common.{◌≡◌, ℕ, List, [], Ok, subst}
use Rattle.std.proofs.lemmas.Result.{err_from_is_err_and}
use Rattle.star_value.specs.declared.value.Value.{Value}
use Rattle.snapshot_codec.specs.Reading.{Fails, global_at, many_at}
use Rattle.snapshot_codec.proofs.ReadingSteps.{ends, goes_on, is_done}
use Rattle.snapshot_codec.proofs.parts.many_globals_at.Goals as goal

pub returns-in_err-global : goal.returns-in_err-global
returns-in_err-global c =
    let p = err_from_is_err_and c.from_residual.result c.from_residual.ensures.1 in
    rw (p.1, p.2) (ends global_at c.in_err-global.field-0.0 c.loop.globals c.args.count c.loop.counter c.loop.met c.loop.rest.now (many_at global_at c.args.count [] 0 c.args.bytes.now) c.loop-test.true (subst (λ (front : List (List ℕ × Value)). Fails c.in_err-global.field-0.0 (global_at front c.loop.met c.loop.rest.now)) c.as_slice.ensures c.in_err-global.ensures) c.loop.invariant)

pub loop-preserved : goal.loop-preserved
loop-preserved c =
    rw c.in_ok-push.ensures.ok (goes_on global_at c.loop.globals c.args.count c.loop.counter c.loop.met c.loop.rest.now c.in_ok-global.global c.in_ok-global.now c.in_ok-global.after.now (many_at global_at c.args.count [] 0 c.args.bytes.now) c.loop-test.true (subst (λ (front : List (List ℕ × Value)). global_at front c.loop.met c.loop.rest.now ≡ Ok (c.in_ok-global.global, c.in_ok-global.now, c.in_ok-global.after.now)) c.as_slice.ensures c.in_ok-global.ensures) c.loop.invariant)

pub returns : goal.returns
returns c = is_done global_at c.loop.globals c.args.count c.loop.counter c.loop.met c.loop.rest.now (many_at global_at c.args.count [] 0 c.args.bytes.now) c.loop-test.false c.loop.invariant
