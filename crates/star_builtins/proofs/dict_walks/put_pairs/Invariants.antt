use Rattle.std.proofs.Common.{length, reverse}
use Rattle.star_builtins.proofs.PutLemmas.{Puts}
use Rattle.star_builtins.proofs.dict_walks.put_pairs.Given as goal

abbrev pub invariant-loop-key : goal.invariant-loop-key
invariant-loop-key l = Puts l.fn.machine l.machine l.fn.id (reverse l.fn.more.items) (reverse l.more.items)

abbrev pub decreases-loop-key : goal.decreases-loop-key
decreases-loop-key l = length l.more.items
