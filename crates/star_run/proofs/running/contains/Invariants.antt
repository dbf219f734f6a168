use Rattle.std.proofs.Common.{◌≡◌, drop}
use Rattle.star_meaning.specs.Values.{has}
use Rattle.star_run.proofs.running.contains.Given as goal

abbrev pub invariant-loop-other : goal.invariant-loop-other
invariant-loop-other l = has (drop l.other-index l.ids) l.fn.id ≡ has l.ids l.fn.id
