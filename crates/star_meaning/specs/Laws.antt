-- Laws of running.
use Rattle.std.specs.Prelude.{◌≡◌, ◌<◌, ◌≤◌, ◌↔◌, ◌+◌, ◌-◌, ◌^◌, ℕ, suc, Bool, List, [], ◌∷◌, ◌++◌, length, map, Option, Some, IsTrue}
use Rattle.chex_base.specs.declared.input.Input.{Input}
use Rattle.star_syntax.specs.declared.cell.Program.{Program}
use Rattle.star_syntax.specs.declared.expression.Expr.{Expr}
use Rattle.star_syntax.specs.declared.statement.Block.{Block as Body}
use Rattle.star_syntax.specs.declared.statement.Statement.{Statement}
use Rattle.star_syntax.specs.CellParts.{CellParts}
use Rattle.star_syntax.specs.Placement.{AreInputNames, names_read}
use Rattle.star_value.specs.declared.failure.Failure.TheVariants.{TooManyCalls}
use Rattle.star_value.specs.declared.value.Value.{Value}
use Rattle.star_value.specs.KeyOrder.{all_hold}
use Rattle.star_meaning.specs.State.{Object, AList, ADict, AFunction, State, function, object}
use Rattle.star_meaning.specs.Steps.{Failed}
use Rattle.star_meaning.specs.Values.{has}
use Rattle.star_meaning.specs.Builtins.{ByName}
use Rattle.star_meaning.specs.World.{Block, Frame, World, entered, start}
use Rattle.star_meaning.specs.Expressions.{Callee, Setting, meant, target_names}
use Rattle.star_meaning.specs.Statements.{body_of, call_to, run_function, statement_of}
use Rattle.star_meaning.specs.Agreement.{Agree}
use Rattle.star_meaning.specs.Alike.{AlikeMachines, EndAlike, Extends, IsAlike, IsAlikeWorld, Pairs, is_pair, like, like_flow, like_global, like_items}
use Rattle.star_meaning.specs.Cells.{Shown, ran, ran_of, shown_setting, statements_from}
use Rattle.star_meaning.specs.Growing.{Grown, IfWent, IsBack, reached}
use Rattle.star_meaning.specs.Renaming.{state_as}
use Rattle.star_meaning.specs.Snapshot.{IsBytesOf, IsCanon, IsSnapshot, state_bytes}
use Rattle.star_meaning.specs.Validity.{IsMachine, IsValid, MachineState, after, all_in, cell_of, is_proper, ran_at, run_at, shown}

-- no meaning depends on how cells are numbered: what a cell does in a shown state is what it does by numbers, shown
abbrev pub NumbersDoNotMatter : Type 0
NumbersDoNotMatter = (program : Program) (m : MachineState) (node : ℕ) (inputs : List (List ℕ × Input)) (allowance : ℕ)
    → ran (shown program m) (cell_of program node) inputs allowance ≡ ((run_at program m node inputs allowance).0, state_as (cell_of program) (run_at program m node inputs allowance).1)

-- a machine that runs a cell by numbers reaches the machine state after the cell
abbrev pub NumbersReachAfter : Type 0
NumbersReachAfter = (program : Program) (m : MachineState) (node : ℕ) (inputs : List (List ℕ × Input)) (allowance : ℕ)
    → after program m node inputs allowance ≡ record { state = (run_at program m node inputs allowance).1; ran = m.ran ++ node ∷ [] }

-- and ends, writes and takes steps as the cell does
abbrev pub NumbersEndAlike : Type 0
NumbersEndAlike = (program : Program) (m : MachineState) (node : ℕ) (inputs : List (List ℕ × Input)) (allowance : ℕ)
    → ran_at program m node inputs allowance ≡ (run_at program m node inputs allowance).0

-- the machine state after a cell shows the meaning's state
abbrev pub AfterShowsTheMeaning : Type 0
AfterShowsTheMeaning = (program : Program) (m : MachineState) (node : ℕ) (inputs : List (List ℕ × Input)) (allowance : ℕ)
    → shown program (after program m node inputs allowance) ≡ (ran (shown program m) (cell_of program node) inputs allowance).1

-- a function keeps its cell, and every other function of the state after a cell has this cell
abbrev pub FunctionsStay : Type 0
FunctionsStay = (s : Shown) (cell : CellParts) (inputs : List (List ℕ × Input)) (allowance : ℕ) → Grown cell s.objects (ran s cell inputs allowance).1.objects

-- The number of calls that may still become active is 32 less the functions that are active: it is at the start of a cell,
-- which runs with 32, and where it is so at a call it is so in the body that the call runs. Where 32 are active, a call fails with TooManyCalls;
-- where fewer are, it runs the function.
pub record CallsAreFew : Type 0 where
  pub start_fits : (s : State CellParts) (left : ℕ) → length (start s left).frame.active + 32 ≡ 32
  pub cell_runs : (s : Shown) (cell : CellParts) (inputs : List (List ℕ × Input)) (allowance : ℕ)
      → ran s cell inputs allowance ≡ ran_of allowance (statements_from (shown_setting cell inputs) (call_to (shown_setting cell inputs) 32) 0 cell.«module».statements (start s (allowance - 1)))
  pub body_fits : (id n : ℕ) (block : Block) (f : Frame) → length f.active + suc n ≡ 32 → length (entered id block f).active + n ≡ 32
  pub last_fails : (setting : Setting CellParts) (n id : ℕ) (vs : List Value) (named : ByName) (w : World CellParts) → length w.frame.active + n ≡ 32 → length w.frame.active ≡ 32
      → call_to setting n id vs named w ≡ Failed TooManyCalls w
  pub others_run : (setting : Setting CellParts) (n id : ℕ) (vs : List Value) (named : ByName) (w : World CellParts) → length w.frame.active + n ≡ 32 → length w.frame.active < 32
      → call_to setting n id vs named w ≡ run_function setting (call_to setting (n - 1)) id (function w.store.state id) vs named w

-- ---- the parts of a cell that runs, in any setting, while so many more functions may become active

-- where each part leads from a world, also where it fails: an expression, what is stored in a target, a statement, the body of
-- a function, and a call of a function
pub record EachReaches (C : Type 0) (holds : World C → World C → Type 0) : Type 0 where
  pub value : (setting : Setting C) (n : ℕ) (e : Expr) (w : World C) → holds w (reached ((meant setting (call_to setting n) e).value w))
  pub store : (setting : Setting C) (n : ℕ) (e : Expr) (v : Value) (w : World C) → holds w (reached ((meant setting (call_to setting n) e).store v w))
  pub statement : (setting : Setting C) (n : ℕ) (s : Statement) (last : Bool) (number : Option ℕ) (w : World C) → holds w (reached (statement_of setting (call_to setting n) s last number w))
  pub body : (setting : Setting C) (n : ℕ) (b : Body Statement) (w : World C) → holds w (reached (body_of setting (call_to setting n) b w))
  pub call : (setting : Setting C) (n : ℕ) (id : ℕ) (vs : List Value) (named : ByName) (w : World C) → holds w (reached (call_to setting n id vs named w))

-- and where it ends without a failure
pub record EachEnds (C : Type 0) (holds : World C → World C → Type 0) : Type 0 where
  pub value : (setting : Setting C) (n : ℕ) (e : Expr) (w : World C) → IfWent ((meant setting (call_to setting n) e).value w) (holds w)
  pub store : (setting : Setting C) (n : ℕ) (e : Expr) (v : Value) (w : World C) → IfWent ((meant setting (call_to setting n) e).store v w) (holds w)
  pub statement : (setting : Setting C) (n : ℕ) (s : Statement) (last : Bool) (number : Option ℕ) (w : World C) → IfWent (statement_of setting (call_to setting n) s last number w) (holds w)
  pub body : (setting : Setting C) (n : ℕ) (b : Body Statement) (w : World C) → IfWent (body_of setting (call_to setting n) b w) (holds w)
  pub call : (setting : Setting C) (n : ℕ) (id : ℕ) (vs : List Value) (named : ByName) (w : World C) → IfWent (call_to setting n id vs named w) (holds w)

-- steps are only spent
abbrev pub StepsAreSpent : Type 0 → Type 0
StepsAreSpent C = EachReaches C (λ w v. v.store.left ≤ w.store.left)

-- a cell takes at least one step, and no more than are allowed
abbrev pub CellsTakeSteps : Type 0
CellsTakeSteps = (s : Shown) (cell : CellParts) (inputs : List (List ℕ × Input)) (allowance : ℕ)
    → 1 ≤ allowance → (1 ≤ (ran s cell inputs allowance).0.steps) × ((ran s cell inputs allowance).0.steps ≤ allowance)

-- a list or dict that is iterated over stays what it is
abbrev pub WhatIsLockedStays : Type 0 → Type 0
WhatIsLockedStays C =
    EachReaches C (λ w v. (id : ℕ) (o : Object C) → IsTrue (has w.frame.locked id) → object w.store.state id ≡ Some o → object v.store.state id ≡ Some o)

-- the same functions are active again, and the same lists and dicts are iterated over
abbrev pub FramesComeBack : Type 0 → Type 0
FramesComeBack C = EachEnds C (λ w v. IsBack w.frame v.frame)

-- the names that a meaning binds as a target are those of its tree
abbrev pub TargetsBindTheirNames : Type 0
TargetsBindTheirNames = (setting : Setting CellParts) (call : Callee CellParts) (e : Expr) → (meant setting call e).names ≡ target_names e

-- ---- inputs

-- the names of inputs that the cells of a state's functions read, and those that they have
abbrev pub names_in_functions : (CellParts → List (List ℕ)) → List (Object CellParts) → List (List ℕ)
names_in_functions names [] = []
names_in_functions names (AList items ∷ os) = names_in_functions names os
names_in_functions names (ADict pairs ∷ os) = names_in_functions names os
names_in_functions names (AFunction cell number defaults ∷ os) = names cell ++ names_in_functions names os

-- inputs that agree on the names that the cell, and the cell of each function in the state, read give equal results
abbrev pub OnlyReadInputsMatter : Type 0
OnlyReadInputsMatter = (s : Shown) (cell : CellParts) (one other : List (List ℕ × Input)) (allowance : ℕ)
    → Agree (names_read cell.«module» ++ names_in_functions (λ c. names_read c.«module») s.objects) one other → ran s cell one allowance ≡ ran s cell other allowance

-- a cell's names are those that its tree reads
abbrev pub HasItsNames : CellParts → Type 0
HasItsNames cell = AreInputNames cell.«module» cell.inputs

abbrev pub HaveTheirNames : List (Object CellParts) → Type 0
HaveTheirNames [] = Unit {0}
HaveTheirNames (AList items ∷ os) = HaveTheirNames os
HaveTheirNames (ADict pairs ∷ os) = HaveTheirNames os
HaveTheirNames (AFunction cell number defaults ∷ os) = HasItsNames cell × HaveTheirNames os

-- the same of the names that cells have, as the resolver gives them
abbrev pub OnlyNamedInputsMatter : Type 0
OnlyNamedInputsMatter = (s : Shown) (cell : CellParts) (one other : List (List ℕ × Input)) (allowance : ℕ) → HasItsNames cell → HaveTheirNames s.objects
    → Agree (cell.inputs ++ names_in_functions (λ c. c.inputs) s.objects) one other → ran s cell one allowance ≡ ran s cell other allowance

-- ---- alike states

-- From alike states a cell ends alike, writes the same and takes equally many steps, and the states after it are alike under a
-- list that has the pairs of the old one.
abbrev pub AlikeStatesRunAlike : Type 0
AlikeStatesRunAlike = (pairs : Pairs) (s t : Shown) (cell : CellParts) (inputs : List (List ℕ × Input)) (allowance : ℕ) → IsAlike pairs s t
    → ((ran t cell inputs allowance).0 ≡ (ran s cell inputs allowance).0) × ((more : Pairs) × Extends pairs more × IsAlike more (ran s cell inputs allowance).1 (ran t cell inputs allowance).1)

-- the same of machine states and nodes
abbrev pub AlikeMachinesRunAlike : Type 0
AlikeMachinesRunAlike = (program : Program) (m n : MachineState) (node : ℕ) (inputs : List (List ℕ × Input)) (allowance : ℕ) → AlikeMachines m n
    → (ran_at program n node inputs allowance ≡ ran_at program m node inputs allowance) × AlikeMachines (after program m node inputs allowance) (after program n node inputs allowance)

-- To be alike is an equivalence of machine states.
pub record AlikeIsAnEquivalence : Type 0 where
  pub itself : (m : MachineState) → IsMachine m → AlikeMachines m m
  pub both_ways : (m n : MachineState) → AlikeMachines m n → AlikeMachines n m
  pub over : (m n o : MachineState) → AlikeMachines m n → AlikeMachines n o → AlikeMachines m o

-- Alike machine states have one alike state whose objects are numbered as they are met, and so the same bytes.
abbrev pub AlikeStatesHaveOneCanon : Type 0
AlikeStatesHaveOneCanon = (m n c d : MachineState) → AlikeMachines m n → IsCanon m c → IsCanon n d → c ≡ d

abbrev pub AlikeStatesHaveOneSnapshot : Type 0
AlikeStatesHaveOneSnapshot = (m n : MachineState) (one other : List ℕ) → AlikeMachines m n → IsBytesOf m one → IsBytesOf n other → one ≡ other

-- The bytes of a machine's state, where they are fewer than 2 ^ 64, are those of no other. So many bytes have counts of 8 bytes.
abbrev pub BytesTellTheState : Type 0
BytesTellTheState = (m n : MachineState) → IsMachine m → IsTrue (all_in is_proper m.state) → IsMachine n → IsTrue (all_in is_proper n.state)
    → length (state_bytes m) < 2 ^ 64 → state_bytes m ≡ state_bytes n → m ≡ n

-- A state is alike to one whose objects are numbered as they are met, and which is of a machine too. The values there are proper
-- where those of the state are, and it is valid over a program where the state is.
pub record HasCanon (m : MachineState) : Type 0 where
  pub canon : MachineState
  pub is_canon : IsCanon m canon
  pub kept : IsMachine canon
  pub proper : IsTrue (all_in is_proper m.state) → IsTrue (all_in is_proper canon.state)
  pub valid : (program : Program) → IsValid program m → IsValid program canon

abbrev pub EachStateHasACanon : Type 0
EachStateHasACanon = (m : MachineState) → IsMachine m → HasCanon m

-- so each valid state has a snapshot
abbrev pub EachValidStateHasASnapshot : Type 0
EachValidStateHasASnapshot = (program : Program) (m : MachineState) → IsValid program m → (bytes : List ℕ) × IsBytesOf m bytes × IsSnapshot program bytes

-- And two states have equal snapshots, of fewer than 2 ^ 64 bytes, exactly where they are alike.
abbrev pub SnapshotsTellAlikeStates : Type 0
SnapshotsTellAlikeStates = (m n : MachineState) (one other : List ℕ) → IsMachine m → IsTrue (all_in is_proper m.state) → IsMachine n → IsTrue (all_in is_proper n.state)
    → length one < 2 ^ 64 → IsBytesOf m one → IsBytesOf n other → ((one ≡ other) ↔ AlikeMachines m n)

-- From worlds that are alike, in which also the local names, the active functions and what is iterated over correspond, each part of
-- a cell ends alike, also where it fails, with corresponding results: an expression, what is stored in a target, a statement, the body
-- of a function, and a call of a function.
pub record PartsRunAlike (C : Type 0) : Type 0 where
  pub value : (setting : Setting C) (n : ℕ) (e : Expr) (pairs : Pairs) (w v : World C) → IsAlikeWorld pairs w v
      → EndAlike (λ ps x y. IsTrue (like ps x y)) pairs ((meant setting (call_to setting n) e).value w) ((meant setting (call_to setting n) e).value v)
  pub store : (setting : Setting C) (n : ℕ) (e : Expr) (x y : Value) (pairs : Pairs) (w v : World C) → IsTrue (like pairs x y) → IsAlikeWorld pairs w v
      → EndAlike (λ ps a b. Unit {0}) pairs ((meant setting (call_to setting n) e).store x w) ((meant setting (call_to setting n) e).store y v)
  pub statement : (setting : Setting C) (n : ℕ) (s : Statement) (last : Bool) (number : Option ℕ) (pairs : Pairs) (w v : World C) → IsAlikeWorld pairs w v
      → EndAlike (λ ps x y. IsTrue (like_flow ps x y)) pairs (statement_of setting (call_to setting n) s last number w) (statement_of setting (call_to setting n) s last number v)
  pub body : (setting : Setting C) (n : ℕ) (b : Body Statement) (pairs : Pairs) (w v : World C) → IsAlikeWorld pairs w v
      → EndAlike (λ ps x y. IsTrue (like_flow ps x y)) pairs (body_of setting (call_to setting n) b w) (body_of setting (call_to setting n) b v)
  pub call : (setting : Setting C) (n : ℕ) (id jd : ℕ) (vs us : List Value) (named other : ByName) (pairs : Pairs) (w v : World C)
      → IsTrue (is_pair pairs id jd) → IsTrue (like_items pairs vs us) → IsTrue (all_hold (map (like_global pairs) named) other) → IsAlikeWorld pairs w v
      → EndAlike (λ ps x y. IsTrue (like ps x y)) pairs (call_to setting n id vs named w) (call_to setting n jd us other v)
