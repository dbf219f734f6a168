use Rattle.std.proofs.Common.{◌≡◌, ◌++◌}
use Rattle.chex_base.proofs.inputs.Inputs.copy.Given as goal

abbrev pub invariant-loop-name : goal.invariant-loop-name
invariant-loop-name l = l.copy ++ l.name-iterator ≡ l.self
