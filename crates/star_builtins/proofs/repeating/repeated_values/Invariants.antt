use Rattle.std.proofs.Common.{◌≡◌, ◌++◌, ◌-◌}
use Rattle.std.specs.List.{repeat}
use Rattle.star_builtins.proofs.repeating.repeated_values.Given as goal

abbrev pub invariant-loop-time : goal.invariant-loop-time
invariant-loop-time l = l.repeated ++ repeat (l.count - l._time) l.items ≡ repeat l.count l.items
