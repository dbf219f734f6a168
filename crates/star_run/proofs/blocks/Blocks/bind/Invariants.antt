use Rattle.std.proofs.Common.{◌≡◌, ◌≤◌, ◌++◌, ℕ, length, take, drop, reverse}
use Rattle.star_meaning.specs.World.{rebound}
use Rattle.star_run.proofs.blocks.Blocks.bind.Given as goal

abbrev pub invariant-loop-left : goal.invariant-loop-left
invariant-loop-left l =
    (l.left ≤ length l.self-inside.blocks.items) × (reverse l.self-inside.blocks.items ≡ reverse l.initial.self-inside.blocks.items)
    × (rebound (reverse l.self-inside.blocks.items) l.name l.value ≡ reverse (drop l.left l.self-inside.blocks.items) ++ rebound (reverse (take l.left l.self-inside.blocks.items)) l.name l.value)

abbrev pub decreases-loop-left : goal.decreases-loop-left
decreases-loop-left l = l.left
