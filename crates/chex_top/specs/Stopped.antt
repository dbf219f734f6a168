-- The statuses and the lines of a run that stops.
use Rattle.std.specs.Prelude.{ℕ, List, [], ◌++◌, codes}
use Rattle.std.specs.Fmt.{decimal}
use Rattle.hex.specs.Hex.{encode_lower}
use Rattle.chex_base.specs.declared.status.Status.{Status}
use Rattle.chex_base.specs.declared.status.Status.TheVariants as status
use Rattle.plan_type.specs.declared.row.Reach.{Reach}
use Rattle.plan_type.specs.declared.row.Reach.TheVariants.{Done, Failed, Unreached}
use Rattle.replayer.specs.declared.difference.Difference.{Difference}
use Rattle.replayer.specs.declared.difference.Difference.TheVariants as field
use Rattle.shared_run.specs.declared.fault.RunFault.{RunFault}
use Rattle.shared_run.specs.declared.fault.RunFault.TheVariants as fault
use Rattle.chex_top.specs.Refusals.{nodes_line}

abbrev pub status_of : RunFault → Status
status_of (fault.TooManyNodes count) = status.TooMany
status_of fault.KernelFailed = status.KernelFault
status_of fault.StoreFailed = status.StoreFault
status_of (fault.Damaged node) = status.Damaged
status_of (fault.Differs plan node difference) = status.Differs
status_of fault.NoMemory = status.NoMemory

abbrev pub damaged_line : ℕ → List ℕ
damaged_line node = codes "error: damaged snapshot of node " ++ decimal node ++ codes "\n"

-- how the end of a node's cell is named
unfoldable pub end_name : Reach → List ℕ
end_name Done = codes "done"
end_name Failed = codes "failed"
end_name Unreached = codes "unreached"

-- a node, the field in which two rows of it differ, and both values
abbrev pub field_line : ℕ → List ℕ → List ℕ → List ℕ → List ℕ
field_line node name recorded measured =
    codes "error: node " ++ (decimal node ++ (codes " " ++ (name ++ (codes " recorded " ++ (recorded ++ (codes " measured " ++ (measured ++ codes "\n")))))))

abbrev pub difference_line : ℕ → Difference → List ℕ
difference_line node (field.End recorded measured) = field_line node (codes "end") (end_name recorded) (end_name measured)
difference_line node (field.Steps recorded measured) = field_line node (codes "steps") (decimal recorded) (decimal measured)
difference_line node (field.Bytes recorded measured) = field_line node (codes "bytes") (decimal recorded) (decimal measured)
difference_line node (field.Text recorded measured) = field_line node (codes "text") (encode_lower recorded) (encode_lower measured)

-- the one line that is written; nothing is where memory was wanting
unfoldable pub line_of : RunFault → List ℕ
line_of (fault.TooManyNodes count) = nodes_line count
line_of fault.KernelFailed = codes "error: kernel failed\n"
line_of fault.StoreFailed = codes "error: store failed\n"
line_of (fault.Damaged node) = damaged_line node
line_of (fault.Differs plan node difference) = difference_line node difference
line_of fault.NoMemory = []
