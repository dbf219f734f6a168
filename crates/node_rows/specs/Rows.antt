-- What a node's row says of its cell.
use Rattle.std.specs.Prelude.{◌≡◌, ℕ, replicate, Option, Some, None, encode_utf8_all}
use Rattle.sha2.specs.Sha256.{sha256}
use Rattle.star_meaning.specs.declared.ran.End.{End}
use Rattle.star_meaning.specs.declared.ran.End.TheVariants as end
use Rattle.star_meaning.specs.declared.ran.Ran.{Ran}
use Rattle.star_meaning.specs.Cells.{cell_text}
use Rattle.star_meaning.specs.Validity.{MachineState}
use Rattle.kernel_api.specs.Live.{IsSizeOf}
use Rattle.plan_type.specs.declared.row.Row.{Row}
use Rattle.plan_type.specs.declared.row.Reach.TheVariants as reach

-- a cell that ran to its end has the size of the snapshot after it, one that failed has none
abbrev pub HasEnd : End → MachineState → Row → Type 0
HasEnd end.Done m row = (row.end ≡ reach.Done) × IsSizeOf m row.bytes
HasEnd (end.Failed failure line) m row = (row.end ≡ reach.Failed) × (row.bytes ≡ 0)

-- what a cell of this number did, or that its version never came to it; its text is told by its digest
abbrev pub HasResult : ℕ → Option Ran → MachineState → Row → Type 0
HasResult number None m row = (row.end ≡ reach.Unreached) × (row.steps ≡ 0) × (row.bytes ≡ 0) × (row.text ≡ replicate 32 0)
HasResult number (Some r) m row = HasEnd r.end m row × (row.steps ≡ r.steps) × (row.text ≡ sha256 (encode_utf8_all (cell_text number r)))
