use Rattle.star_builtins.proofs.SliceLemmas.{taken_fits}
use Rattle.star_builtins.proofs.slicing.slice_at.Goals as goal

pub returns-in_ok-taken-in-Tuple-clause-fits : goal.returns-in_ok-taken-in-Tuple-clause-fits
returns-in_ok-taken-in-Tuple-clause-fits c =
    rw (c.in_ok-taken-in-Tuple.ensures, c.as_slice.ensures) (taken_fits c.args.machine.now c.in-Tuple.items _ _ _ (rw c.in-Tuple.is at c.requires.of))
