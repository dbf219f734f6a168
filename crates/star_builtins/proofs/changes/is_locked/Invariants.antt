use Rattle.std.proofs.Common.{◌≡◌, drop}
use Rattle.star_meaning.specs.Values.{has}
use Rattle.star_builtins.proofs.changes.is_locked.Given as goal

abbrev pub invariant-loop-other : goal.invariant-loop-other
invariant-loop-other l = has (drop l.other-index l.locked) l.fn.id ≡ has l.locked l.fn.id
