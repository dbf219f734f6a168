use Rattle.std.proofs.Common.{◌≡◌, ◌+◌, ◌-◌, ◌^◌, min, length, take}
use Rattle.std.specs.List.{sum_by}
use Rattle.star_builtins.proofs.joining.joined_length.Given as goal

abbrev pub invariant-loop-part : goal.invariant-loop-part
invariant-loop-part l = l.sum ≡ min (l.initial.sum + sum_by (λ part. length l.by + length part) (take l.part-index l.rest)) (2 ^ 64 - 1)
