use Rattle.std.proofs.Common.{◌≡◌, fold, map, drop}
use Rattle.star_value.specs.KeyHash as spec
use Rattle.star_value.proofs.hashing.+feed.Given as goal

abbrev pub invariant-feed_all-loop-key : goal.invariant-feed_all-loop-key
invariant-feed_all-loop-key g l = fold g.H.Hasher.write l.state (spec.concat (map spec.writes (drop l.key-index l.keys))) ≡ fold g.H.Hasher.write l.initial.state (spec.concat (map spec.writes l.keys))
