use Rattle.plan_type.proofs.SoundBelow.{SoundBelow}
use Rattle.plan_type.proofs.costs.Costs.sound.Given as goal

abbrev pub invariant-loop-at : goal.invariant-loop-at
invariant-loop-at l = SoundBelow l.self l.at l.lengths
