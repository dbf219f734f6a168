-- Whether a record is one of a forest.
use Rattle.std.specs.Prelude.{◌≡◌, ◌≢◌, ◌<◌, ℕ, suc, List, take, length, Option, Some}
use Rattle.std.specs.List.{slice_get}
use Rattle.plan_type.specs.Costs as costs
use Rattle.plan_type.specs.declared.row.Row.{Row}
use Rattle.plan_type.specs.declared.costs.Costs.{Costs}
use Rattle.exec_tree.specs.Forests.{ForestParts, parent_of}
use Rattle.audit_record.specs.Digests.{digests_of}
use Rattle.audit_record.specs.declared.recorded.Recorded.{Recorded}
use Rattle.audit_record.specs.declared.fault.RecordFault.{RecordFault}
use Rattle.audit_record.specs.declared.fault.RecordFault.TheVariants.{NotRecord, OldRecord, Stale, NoMemory, WrongParent}

-- the rows are those of the forest's nodes: as many, and with their parents
pub record HasTree (forest : ForestParts) (rows : Costs) : Type 0 where
  pub many : length rows.rows ≡ length forest.nodes
  pub parents : (v : ℕ) (row : Row) → costs.row_of rows v ≡ Some row → row.parent ≡ parent_of forest v

-- the recorded digests are those of the forest, and the rows are those of its nodes
pub record Fits (recorded : Recorded) (forest : ForestParts) : Type 0 where
  pub keys : recorded.keys ≡ digests_of forest
  pub tree : HasTree forest recorded.costs

-- two lists are equal before this place, from 0, and there they have these different items, or none
pub record DifferFirst {X : Type 0} (xs ys : List X) (place : ℕ) (x y : Option X) : Type 0 where
  pub before : take place xs ≡ take place ys
  pub left : slice_get xs place ≡ x
  pub right : slice_get ys place ≡ y
  pub apart : x ≢ y

-- this is the first node whose row has another parent than the forest
pub record HasWrongParent (forest : ForestParts) (rows : Costs) (node said found : ℕ) : Type 0 where
  pub row : (row : Row) × (costs.row_of rows node ≡ Some row) × (row.parent ≡ said)
  pub parent : parent_of forest node ≡ found
  pub apart : said ≢ found
  pub before : (v : ℕ) (row : Row) → v < node → costs.row_of rows v ≡ Some row → row.parent ≡ parent_of forest v

-- why a record is not of a forest: the first node at which the digests differ, and where they agree the first with another parent
abbrev pub IsUnfit : Recorded → ForestParts → RecordFault → Type 0
IsUnfit recorded forest (Stale node said found) = (place : ℕ) × (node ≡ suc place) × DifferFirst recorded.keys (digests_of forest) place said found
IsUnfit recorded forest (WrongParent node said found) = (recorded.keys ≡ digests_of forest) × HasWrongParent forest recorded.costs node said found
IsUnfit recorded forest NoMemory = Unit {0}
IsUnfit recorded forest NotRecord = ⊥
IsUnfit recorded forest (OldRecord version) = ⊥
