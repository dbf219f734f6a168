use Rattle.std.proofs.Common.{◌∙◌, ◌+◌, ap, map, drop, fold}
use Rattle.star_value.specs.KeyHash as spec
use Rattle.star_value.proofs.KeyWrites.{one_more}
use Rattle.star_value.proofs.hashing.+feed.Goals as goal

pub feed_all-loop-key-preserved : goal.feed_all-loop-key-preserved
feed_all-loop-key-preserved g t c =
    let rest = drop (c.loop-key.key-index + 1) c.args.keys.now in
    ap (λ s. fold g.H.Hasher.write s (spec.concat (map spec.writes rest))) c.feed.ensures
    ∙ one_more g.H.Hasher.write c.loop-key.state c.args.keys.now c.loop-key.key-index c.key-item.result c.loop-key-test.true c.key-item.is
    ∙ c.loop-key.invariant
