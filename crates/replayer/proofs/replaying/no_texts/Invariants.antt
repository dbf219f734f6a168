use Rattle.std.proofs.Common.{◌≡◌, [], replicate}
use Rattle.replayer.proofs.replaying.no_texts.Given as goal

abbrev pub invariant-loop : goal.invariant-loop
invariant-loop l = l.texts ≡ replicate l.counter []
