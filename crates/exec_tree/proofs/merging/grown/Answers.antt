use Rattle.std.proofs.Common.{arith}
use Rattle.exec_tree.proofs.StepLemmas.{merging_starts, one_version, merged}
use Rattle.exec_tree.proofs.merging.grown.Goals as goal

pub loop-version-init : goal.loop-version-init
loop-version-init c = merging_starts c.args.versions.now _ _ _ _ c.in_ok-growth.ensures.grows c.in_ok-growth.ensures.nodes c.new-ends.ensures.items

pub loop-version-preserved : goal.loop-version-preserved
loop-version-preserved c =
    one_version c.args.versions.now c.loop-version.version-index c.loop-version.growth.nodes.items _ c.loop-version.growth.children.items _ c.loop-version.growth.hashes.items _ c.loop-version.ends.items _ c.version-item.result c.in_ok-end.end
    c.loop-version.invariant c.loop-version-test.true c.version-item.is
    c.in_ok-end.ensures.grows c.in_ok-end.ensures.known c.in_ok-end.ensures.low c.in_ok-end.ensures.at c.in_ok-end.ensures.few c.in_ok-push.ensures.items

pub returns : goal.returns
returns c =
    merged c.args.versions.now c.loop-version.version-index _ _ c.loop-version.growth.hashes.items _ c.loop-version.invariant c.loop-version-test.false (omega arith) c.requires.versions
