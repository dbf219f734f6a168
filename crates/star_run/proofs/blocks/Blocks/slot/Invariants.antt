use Rattle.std.proofs.Common.{◌≡◌, ◌≤◌, ℕ, length, take, reverse}
use Rattle.star_meaning.specs.World.{slot_of}
use Rattle.star_run.proofs.blocks.Blocks.slot.Given as goal

abbrev pub invariant-loop-left : goal.invariant-loop-left
invariant-loop-left l = (l.left ≤ length l.blocks) × (slot_of (reverse l.blocks) l.name ≡ slot_of (reverse (take l.left l.blocks)) l.name)

abbrev pub decreases-loop-left : goal.decreases-loop-left
decreases-loop-left l = l.left
