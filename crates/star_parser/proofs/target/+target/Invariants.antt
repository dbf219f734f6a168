use Rattle.std.proofs.Common.{◌≡◌, map, drop}
use Rattle.star_syntax.specs.Levels.{is_target, both}
use Rattle.star_parser.proofs.target.+target.Given as goal

-- those from here are targets just where all are
abbrev pub invariant-are_targets-loop-tree : goal.invariant-are_targets-loop-tree
invariant-are_targets-loop-tree l = both (map is_target (drop l.tree-index l.trees)) ≡ both (map is_target l.trees)
