use Rattle.std.proofs.Common.{◌≡◌, length, map, take}
use Rattle.exec_tree.specs.Forests.{parents}
use Rattle.shared_run.specs.Written.{AreWays, way_to}
use Rattle.shared_run.proofs.ways.ways_of.Given as goal

abbrev pub invariant-loop-end : goal.invariant-loop-end
invariant-loop-end l = record {
  gathered : l.ways ≡ map (way_to (parents l.forest)) (take l.end-index l.ends);
  within : AreWays (length l.forest.nodes) l.ways;
}
