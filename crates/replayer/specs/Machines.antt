-- Where a kernel and a store stand beside the machine of operations.
use Rattle.std.specs.Prelude.{◌≡◌, ◌≢◌, ◌⊎◌, ◌<◌, ℕ, ◌+◌, ◌-◌, ◌^◌, List, [], ◌∷◌, ◌++◌, length, Bool, true, false, Option, Some, None, slice_set}
use Rattle.std.specs.List.{AllByRecursion}
use Rattle.star_syntax.specs.declared.cell.Program.{Program}
use Rattle.star_meaning.specs.declared.ran.Ran.{Ran}
use Rattle.star_meaning.specs.Alike.{AlikeMachines}
use Rattle.star_meaning.specs.Cells.{cell_text}
use Rattle.star_meaning.specs.Snapshot.{IsBytesOf, IsSnapshot}
use Rattle.star_meaning.specs.Validity.{IsValid, MachineState, after, ran_at}
use Rattle.kernel_api.specs.Live.{IsSizeOf}
use Rattle.kernel_api.specs.Stock.{Stock}
use Rattle.exec_tree.specs.Forests.{ForestParts}
use Rattle.plan_type.specs.declared.costs.Costs.{Costs}
use Rattle.plan_type.specs.declared.row.Row.{Row}
use Rattle.plan_type.specs.declared.row.Reach.TheVariants.{Done}
use Rattle.plan_type.specs.declared.operations.Operation.{Operation}
use Rattle.plan_type.specs.declared.operations.Operation.TheVariants.{Reset, Compute, Checkpoint, Restore, Evict}
use Rattle.plan_type.specs.Costs.{IsReached, blocks_of, row_of, steps_of}
use Rattle.plan_type.specs.Operations.{Machine, Ops, stores}
use Rattle.node_rows.specs.Rows.{HasResult}
use Rattle.replayer.specs.declared.difference.Difference.{Difference}
use Rattle.replayer.specs.Nodes.{depth_at, inputs_at, program_of, state_at, text_at}
use Rattle.replayer.specs.Differences.{IsDifference}
use Rattle.replayer.specs.Trees.{IsDone, IsRecorded, IsRowAt}

-- ---- over any store

-- nodes, the newest first, as pairs with what belongs to each, the oldest first
abbrev pub pairs_of : {T : Type 0} → (ℕ → T) → List ℕ → List (ℕ × T)
pairs_of f [] = []
pairs_of f (v ∷ vs) = pairs_of f vs ++ (v, f v) ∷ []

-- no node stands twice
abbrev pub IsOnce : List ℕ → Type 0
IsOnce [] = Unit {0}
IsOnce (v ∷ vs) = (stores vs v ≡ false) × IsOnce vs

-- the size of the state's snapshot is that of the node's row, if the node's cell ran to its end
abbrev pub HasItsSize : Costs → ℕ → MachineState → Type 0
HasItsSize costs v s = (row : Row) → row_of costs v ≡ Some row → row.end ≡ Done → IsSizeOf s row.bytes

-- in the live state as many cells have run as stand on the path of the live node; where that was just computed, its size is known
abbrev pub StandsLive : ForestParts → Costs → Option MachineState → Option ℕ → Bool → Type 0
StandsLive forest costs live None fresh = Unit {0}
StandsLive forest costs live (Some v) fresh =
    (s : MachineState) × (live ≡ Some s) × (length s.ran ≡ depth_at forest v) × (fresh ≡ true → HasItsSize costs v s)

-- a kernel with this live state, and a store, stand where the machine does
pub record Stands (forest : ForestParts) (costs : Costs) (live : Option MachineState) (stock : Stock) (m : Machine) : Type 0 where
  pub live_is : StandsLive forest costs live m.live m.fresh
  pub held_is : stock.held ≡ pairs_of (blocks_of costs stock.block) m.stored
  pub peak_is : stock.peak ≡ m.greatest
  pub once : IsOnce m.stored

-- ---- over a store that tells its bytes

-- the bytes of a snapshot that was taken in a valid state which is alike to that after the node
abbrev pub IsTaken : ForestParts → ℕ → ℕ → List ℕ → Type 0
IsTaken forest allowance v bytes =
    (s : MachineState) × IsValid (program_of forest) s × AlikeMachines s (state_at forest allowance v) × IsBytesOf s bytes

-- the bytes are no snapshot over the program, or one of a state in which another number of cells has run
abbrev pub IsDamaged : Program → ℕ → List ℕ → Type 0
IsDamaged program depth bytes =
    (IsSnapshot program bytes → ⊥) ⊎ ((s : MachineState) × IsValid program s × IsBytesOf s bytes × (length bytes < 2 ^ 64) × (length s.ran ≢ depth))

-- the live state is alike to that after the live node
abbrev pub IsAlikeAt : ForestParts → ℕ → Option MachineState → Option ℕ → Type 0
IsAlikeAt forest allowance live None = Unit {0}
IsAlikeAt forest allowance live (Some v) = (s : MachineState) × (live ≡ Some s) × AlikeMachines s (state_at forest allowance v)

-- the store tells its bytes: each is a snapshot of its node, and the live state is that after the live node
pub record Tells (forest : ForestParts) (allowance : ℕ) (live : Option MachineState) (told : Option (List (ℕ × List ℕ))) (node : Option ℕ) : Type 0 where
  pub files : List (ℕ × List ℕ)
  pub told_is : told ≡ Some files
  pub taken : AllByRecursion (λ file. IsTaken forest allowance file.0 file.1) files
  pub live_is : IsAlikeAt forest allowance live node

-- ---- operations

-- the steps of an operation, and of a list of them
abbrev pub steps_in : Operation → ℕ
steps_in Reset = 0
steps_in (Compute v n) = n
steps_in (Checkpoint v b) = 0
steps_in (Restore v) = 0
steps_in (Evict v) = 0

abbrev pub steps_in_all : Ops → ℕ
steps_in_all [] = 0
steps_in_all (o ∷ os) = steps_in o + steps_in_all os

-- what an operation asks of the node that it names, beside that it is legal: only reached nodes are computed and restored, and only
-- those whose cells ran to their ends are stored
abbrev pub IsFine : Costs → Operation → Type 0
IsFine costs Reset = Unit {0}
IsFine costs (Compute v n) = IsReached costs v
IsFine costs (Checkpoint v b) = IsDone costs v
IsFine costs (Restore v) = IsReached costs v
IsFine costs (Evict v) = Unit {0}

-- what a node does that runs in this state
abbrev pub ran_in : ForestParts → ℕ → ℕ → MachineState → Ran
ran_in forest allowance v s = ran_at (program_of forest) s v (inputs_at forest v) allowance

abbrev pub state_in : ForestParts → ℕ → ℕ → MachineState → MachineState
state_in forest allowance v s = after (program_of forest) s v (inputs_at forest v) allowance

-- a row says what the node did that ran in this state
abbrev pub IsRowIn : ForestParts → ℕ → ℕ → MachineState → Row → Type 0
IsRowIn forest allowance v s row = HasResult (length s.ran + 1) (Some (ran_in forest allowance v s)) (state_in forest allowance v s) row

-- a node ran in this state: the live state is the one after it, its text is this, and the recorded row says what it did
pub record RanSo (forest : ForestParts) (costs : Costs) (allowance v : ℕ) (s : MachineState) (now : Option MachineState) (text : List ℕ) : Type 0 where
  pub live_is : now ≡ Some (state_in forest allowance v s)
  pub text_is : text ≡ cell_text (length s.ran + 1) (ran_in forest allowance v s)
  pub row_is : (row : Row) → row_of costs v ≡ Some row → IsRowIn forest allowance v s row

-- the recorded row of a node differs from a measured one, of which this holds
abbrev pub DiffersBy : Costs → ℕ → Difference → (Row → Type 0) → Type 0
DiffersBy costs v difference holds = (recorded : Row) × (measured : Row) × (row_of costs v ≡ Some recorded) × IsDifference recorded measured difference × holds measured

-- computing a node sets its text, and its recorded row says what it does; the other operations change no text
abbrev pub PrintsSo : ForestParts → Costs → ℕ → Operation → List (List ℕ) → List (List ℕ) → Type 0
PrintsSo forest costs allowance (Compute v n) before now = (now ≡ slice_set before (v - 1) (text_at forest allowance v)) × IsRecorded forest costs allowance v
PrintsSo forest costs allowance Reset before now = now ≡ before
PrintsSo forest costs allowance (Checkpoint v b) before now = now ≡ before
PrintsSo forest costs allowance (Restore v) before now = now ≡ before
PrintsSo forest costs allowance (Evict v) before now = now ≡ before
