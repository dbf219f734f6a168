-- What is measured of a node that ran.
use Rattle.std.specs.Prelude.{◌≡◌, ℕ, Some}
use Rattle.star_meaning.specs.declared.ran.Ran.{Ran}
use Rattle.star_meaning.specs.Cells.{cell_text}
use Rattle.star_meaning.specs.Validity.{MachineState}
use Rattle.node_rows.specs.declared.running.Measured.{Measured}
use Rattle.node_rows.specs.Rows.{HasResult}

-- the row under this parent, and the text, of a cell of this number that did this, where the state is the one after it
pub record IsMeasured (parent number : ℕ) (r : Ran) (m : MachineState) (made : Measured) : Type 0 where
  pub parent_is : made.row.parent ≡ parent
  pub result : HasResult number (Some r) m made.row
  pub text : made.text ≡ cell_text number r
