-- What a cell that runs has changed, what its code keeps of it, and what each step leaves.
use Rattle.std.specs.Prelude.{◌≡◌, ◌≤◌, ◌<◌, ◌+◌, ◌*◌, ℕ, Bool, true, ◌&&◌, List, length, Option, Some, None, IsTrue}
use Rattle.std.specs.List.{list_all}
use Rattle.star_syntax.specs.declared.cell.Program.{Program}
use Rattle.star_value.specs.declared.value.Value.{Value}
use Rattle.star_meaning.specs.Validity.{MachineState, IsValid, all_in, fits, is_proper}
use Rattle.star_meaning.specs.World.{Block, Frame, World}
use Rattle.star_builtins.specs.Reached.{Fits}

-- the machine, the frame, the code points that are written, and the steps that are left
pub record Running : Type 0 where
  pub machine : MachineState
  pub frame : Frame
  pub out : List ℕ
  pub left : ℕ

-- the world that the meaning speaks of
abbrev pub world : Running → World ℕ
world r = record { store = record { state = r.machine.state; left = r.left }; frame = r.frame; out = r.out }

-- ---- values in blocks

-- whether a value may stand in a machine, where there is one
abbrev pub bound_fits : MachineState → Option Value → Bool
bound_fits m None = true
bound_fits m (Some v) = fits m.state.objects v && is_proper v

abbrev pub slot_fits : MachineState → List ℕ × Option Value → Bool
slot_fits m slot = bound_fits m slot.1

-- whether each value that is bound in a block may stand in a machine
unfoldable pub block_fits : MachineState → Block → Bool
block_fits m block = list_all (slot_fits m) block

abbrev pub blocks_fit : MachineState → List Block → Bool
blocks_fit m blocks = list_all (block_fits m) blocks

-- ---- what a run keeps

pub record IsSound (r : Running) : Type 0 where
  -- values in the machine are proper; its references are what each machine keeps
  pub proper : IsTrue (all_in is_proper r.machine.state)
  -- each value that is bound in a block may stand in the machine
  pub slots : IsTrue (blocks_fit r.machine r.frame.blocks)
  -- an object may be made for each step that is left, and one more
  pub room : length r.machine.state.objects + r.left < 1000000 * length r.machine.ran

-- ---- what each step leaves, also where memory was wanting

pub record Goes (before after : Running) : Type 0 where
  -- the nodes that ran are the same
  pub ran : after.machine.ran ≡ before.machine.ran
  -- what waits still fits
  pub fit : (v : Value) → Fits before.machine v → Fits after.machine v
  -- a program over which the machine was valid still is one
  pub valid : (program : Program) → IsValid program before.machine → IsValid program after.machine
  -- each object that is made costs a step
  pub few : length after.machine.state.objects + after.left ≤ length before.machine.state.objects + before.left

-- a step was taken for which an object may be made
abbrev pub IsPaid : Running → Running → Type 0
IsPaid before after = length after.machine.state.objects + after.left + 1 ≤ length before.machine.state.objects + before.left

-- what the making of an object leaves that was paid before
pub record Makes (before after : Running) : Type 0 where
  pub ran : after.machine.ran ≡ before.machine.ran
  pub fit : (v : Value) → Fits before.machine v → Fits after.machine v
  pub valid : (program : Program) → IsValid program before.machine → IsValid program after.machine
  pub few : length after.machine.state.objects + after.left ≤ length before.machine.state.objects + before.left + 1

-- an object may be made beside those that later steps pay for
abbrev pub HasCredit : Running → Type 0
HasCredit r = 1 + length r.machine.state.objects + r.left < 1000000 * length r.machine.ran
