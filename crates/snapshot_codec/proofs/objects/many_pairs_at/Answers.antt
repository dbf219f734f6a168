use Rattle.std.proofs.Common.{[], ◌∙◌}
use Rattle.std.proofs.lemmas.Result.{err_from_is_err_and}
use Rattle.snapshot_codec.proofs.Putting.{put_new}
use Rattle.snapshot_codec.specs.Reading.{many_at, pair_at}
use Rattle.snapshot_codec.proofs.ReadingSteps.{ends, goes_on, is_done}
use Rattle.snapshot_codec.proofs.objects.many_pairs_at.Goals as goal

pub returns-in_err-pair : goal.returns-in_err-pair
returns-in_err-pair c =
    let p = err_from_is_err_and c.from_residual.result c.from_residual.ensures.1 in
    rw (p.1, p.2) (ends pair_at c.in_err-pair.field-0.0 c.loop.pairs c.args.count c.loop.counter c.loop.met c.loop.rest.now (many_at pair_at c.args.count [] c.args.before c.args.bytes.now) c.loop-test.true c.in_err-pair.ensures.gives c.loop.invariant)

pub loop-preserved : goal.loop-preserved
loop-preserved c =
    let put = c.in_ok-put.ensures.ok ∙ put_new c.loop.pairs c.in_ok-pair.pair.0 c.in_ok-pair.pair.1 c.in_ok-pair.ensures.new in
    rw put (goes_on pair_at c.loop.pairs c.args.count c.loop.counter c.loop.met c.loop.rest.now c.in_ok-pair.pair c.in_ok-pair.now c.in_ok-pair.after.now (many_at pair_at c.args.count [] c.args.before c.args.bytes.now) c.loop-test.true c.in_ok-pair.ensures.gives c.loop.invariant)

pub returns : goal.returns
returns c = is_done pair_at c.loop.pairs c.args.count c.loop.counter c.loop.met c.loop.rest.now (many_at pair_at c.args.count [] c.args.before c.args.bytes.now) c.loop-test.false c.loop.invariant
