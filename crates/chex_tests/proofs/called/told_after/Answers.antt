use Rattle.chex_tests.proofs.called.told_after.Goals as goal

pub invariant_of-kernel : goal.invariant_of-kernel
invariant_of-kernel g c = record { valid = c.chex-finish.new.kernel.inner.valid; sized = c.chex-finish.new.kernel.inner.sized }
