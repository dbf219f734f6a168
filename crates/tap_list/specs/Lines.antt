-- The lines of operations.
use Rattle.std.specs.Prelude.{ℕ, List, ◌++◌, codes, decimal}
use Rattle.plan_type.specs.declared.operations.Operation.{Operation}
use Rattle.plan_type.specs.declared.operations.Operation.TheVariants.{Reset, Compute, Checkpoint, Restore, Evict}

-- the operation's name, its node, and its steps or blocks; each line ends with a newline
unfoldable pub line_of : Operation → List ℕ
line_of Reset = codes "reset\n"
line_of (Compute node steps) = codes "compute " ++ (decimal node ++ (codes " " ++ (decimal steps ++ codes "\n")))
line_of (Checkpoint node blocks) = codes "checkpoint " ++ (decimal node ++ (codes " " ++ (decimal blocks ++ codes "\n")))
line_of (Restore node) = codes "restore " ++ (decimal node ++ codes "\n")
line_of (Evict node) = codes "evict " ++ (decimal node ++ codes "\n")
