use Rattle.star_run.proofs.calls.+call_to.Given as goal

abbrev pub decreases-call_to : goal.decreases-call_to
decreases-call_to l = l.depth
