-- What a kernel over a machine has loaded, and its live state.
use Rattle.std.specs.Prelude.{ℕ, Option}
use Rattle.star_syntax.specs.declared.cell.Program.{Program}
use Rattle.star_meaning.specs.Validity.{MachineState}
use Rattle.star_kernel.specs.declared.star_kernel.StarKernel.{StarKernel}

abbrev pub loaded_of : StarKernel → Program
loaded_of k = k.program

-- the state in which the next cell runs, if there is one
abbrev pub live_of : StarKernel → Option MachineState
live_of k = k.live

-- how many steps its cells have taken
abbrev pub steps_of : StarKernel → ℕ
steps_of k = k.steps
