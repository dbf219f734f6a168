-- Where two rows differ.
use Rattle.std.specs.Prelude.{◌≡◌, ◌≢◌}
use Rattle.plan_type.specs.declared.row.Row.{Row}
use Rattle.replayer.specs.declared.difference.Difference.{Difference}
use Rattle.replayer.specs.declared.difference.Difference.TheVariants as field

-- rows that say the same of their nodes
pub record AreSame (a b : Row) : Type 0 where
  pub end : a.end ≡ b.end
  pub steps : a.steps ≡ b.steps
  pub bytes : a.bytes ≡ b.bytes
  pub text : a.text ≡ b.text

-- the first field in which a recorded and a measured row differ, in the order end, steps, bytes, text, with both values
abbrev pub IsDifference : Row → Row → Difference → Type 0
IsDifference a b (field.End recorded measured) = (recorded ≡ a.end) × (measured ≡ b.end) × (a.end ≢ b.end)
IsDifference a b (field.Steps recorded measured) = (recorded ≡ a.steps) × (measured ≡ b.steps) × (a.end ≡ b.end) × (a.steps ≢ b.steps)
IsDifference a b (field.Bytes recorded measured) = (recorded ≡ a.bytes) × (measured ≡ b.bytes) × (a.end ≡ b.end) × (a.steps ≡ b.steps) × (a.bytes ≢ b.bytes)
IsDifference a b (field.Text recorded measured) =
    (recorded ≡ a.text) × (measured ≡ b.text) × (a.end ≡ b.end) × (a.steps ≡ b.steps) × (a.bytes ≡ b.bytes) × (a.text ≢ b.text)
