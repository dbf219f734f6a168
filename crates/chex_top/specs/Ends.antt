-- How a call ends, as it is seen from outside, and which ends are due.
use Rattle.std.specs.Prelude.{◌≡◌, ◌≢◌, ◌⊎◌, ◌≤◌, ◌+◌, ℕ, List, [], length, Option, None, Result, Ok, Err, IfSome, IsSome}
use Rattle.std.specs.Str.{encode_utf8_all}
use Rattle.chex_base.specs.Outside.{GrewBy, GrewByPrefix}
use Rattle.chex_base.specs.declared.status.Status.{Status}
use Rattle.chex_base.specs.declared.status.Status.TheVariants as ended
use Rattle.star_meaning.specs.Cells.{text, steps}
use Rattle.star_meaning.specs.Validity.{MachineState}
use Rattle.kernel_api.specs.Stock.{Stock}
use Rattle.plan_type.specs.declared.budget.Budget.{Budget}
use Rattle.plan_type.specs.declared.costs.Costs.{Costs}
use Rattle.plan_type.specs.declared.plan.Plan.{Plan}
use Rattle.plan_type.specs.Operations.{Ops, operations_of, ran}
use Rattle.plan_type.specs.Plan.{entries_of, peak, work}
use Rattle.plan_type.specs.Prices.{IsLeast}
use Rattle.exec_tree.specs.declared.checked.Checked.{Checked}
use Rattle.audit_run.specs.Rows.{AreRows}
use Rattle.audit_run.specs.Visits.{steps_of_all}
use Rattle.replayer.specs.Machines.{IsAlikeAt}
use Rattle.shared_run.specs.declared.fault.RunFault.{RunFault}
use Rattle.shared_run.specs.declared.fault.RunFault.TheVariants as fault
use Rattle.shared_run.specs.Courses.{IsCut}
use Rattle.shared_run.specs.Trees.{tree_left}
use Rattle.shared_run.specs.Written.{texts_alone}
use Rattle.chex_top.specs.declared.refusal.Refusal.{Refusal}
use Rattle.chex_top.specs.declared.refusal.Refusal.TheVariants as refusal
use Rattle.chex_top.specs.declared.task.Task.{Task}
use Rattle.chex_top.specs.declared.task.Task.TheVariants as task
use Rattle.chex_top.specs.Refusals.{status_of, line_of}
use Rattle.chex_top.specs.Reads.{FileView}
use Rattle.chex_top.specs.RunTexts.{numbers_of, run_text}
use Rattle.chex_top.specs.Stopped as stopped
use Rattle.chex_top.specs.Tasks.{due}
use Rattle.chex_top.specs.Words.{asked_of}

-- How a call ended: its status, its plan, the bytes that are due, the operations that the taps were told, the kernel's live state and
-- what the store is. By `steps` the kernel's count rose, where all was done.
pub record End : Type 0 where
  pub status : Status
  pub plan : Plan
  pub text : List ℕ
  pub steps : ℕ
  pub done : Ops
  pub live : Option MachineState
  pub stock : Stock

-- the plan is empty
abbrev pub HasNoPlan : Plan → Type 0
HasNoPlan plan = entries_of plan ≡ []

-- nothing was told to the taps, and the store is as before
abbrev pub IsUntouched : Stock → End → Type 0
IsUntouched before end = (end.done ≡ []) × (end.stock ≡ before)

-- memory was wanting: the status, the plan and the bytes
abbrev pub IsNothing : Status → Plan → List ℕ → Type 0
IsNothing status plan bytes = (status ≡ ended.NoMemory) × HasNoPlan plan × (bytes ≡ [])

-- ---- nothing is carried out

-- the status and the line of the refusal, or memory was wanting for it
abbrev pub IsRefusal : Refusal → Status → Plan → List ℕ → Type 0
IsRefusal why status plan bytes = ((status ≡ status_of why) × HasNoPlan plan × (bytes ≡ line_of why)) ⊎ IsNothing status plan bytes

pub record IsRefused (why : Refusal) (before : Stock) (end : End) : Type 0 where
  pub says : IsRefusal why end.status end.plan end.text
  pub untouched : IsUntouched before end

-- ---- a version alone

-- it ran, the kernel failed, or memory was wanting: the status, and the bytes
abbrev pub EndsAlone : Checked → ℕ → Status → List ℕ → Type 0
EndsAlone version allowance status bytes =
    ((status ≡ ended.Done) × (bytes ≡ encode_utf8_all (text version.cells version.inputs allowance)))
    ⊎ ((status ≡ ended.KernelFault) × (bytes ≡ stopped.line_of fault.KernelFailed))
    ⊎ ((status ≡ ended.NoMemory) × (bytes ≡ []))

pub record IsAlone (version : Checked) (allowance : ℕ) (before : Stock) (end : End) : Type 0 where
  pub ends : EndsAlone version allowance end.status end.text
  pub steps : end.steps ≡ steps version.cells version.inputs allowance
  pub plan : HasNoPlan end.plan
  pub untouched : IsUntouched before end

-- ---- versions that share their equal beginnings

-- All was done: for the versions' rows a plan of least cost was carried out, and what was written are the versions' texts and the
-- summary. Over a store that tells its bytes each text is what the version prints by itself.
pub record IsShared (told : Option (List (ℕ × List ℕ))) (versions : List Checked) (budget : Budget) (allowance : ℕ) (end : End) : Type 0 where
  pub costs : Costs
  pub texts : List (List ℕ)
  pub rows : AreRows versions allowance costs.rows
  pub least : IsLeast costs budget end.plan
  pub many : length texts ≡ length versions
  pub alone : IsSome told → texts ≡ texts_alone versions allowance
  pub status : end.status ≡ ended.Done
  pub text : end.text ≡ encode_utf8_all (run_text versions texts (numbers_of versions budget allowance costs end.plan))
  pub done : end.done ≡ operations_of costs budget end.plan
  pub steps : end.steps ≡ steps_of_all versions allowance + work costs end.plan
  pub live : IsSome told → IsAlikeAt (tree_left versions costs.rows) allowance end.live (ran costs budget end.done).live
  pub held : end.stock.held ≡ []
  pub peak : end.stock.peak ≡ peak costs budget end.plan

-- over such a store a run may stop so: damage and a difference come only over one that does not tell its bytes, and the nodes were
-- counted before
abbrev pub MayStop : Option (List (ℕ × List ℕ)) → RunFault → Type 0
MayStop told (fault.TooManyNodes count) = ⊥
MayStop told fault.KernelFailed = Unit {0}
MayStop told fault.StoreFailed = Unit {0}
MayStop told (fault.Damaged v) = told ≡ None
MayStop told (fault.Differs plan v difference) = told ≡ None
MayStop told fault.NoMemory = Unit {0}

-- the plan that is left where a run stops: the one whose replay measured another row
abbrev pub IsPlanAt : RunFault → Plan → Type 0
IsPlanAt (fault.TooManyNodes count) plan = HasNoPlan plan
IsPlanAt fault.KernelFailed plan = HasNoPlan plan
IsPlanAt fault.StoreFailed plan = HasNoPlan plan
IsPlanAt (fault.Damaged v) plan = HasNoPlan plan
IsPlanAt (fault.Differs other v difference) plan = plan ≡ other
IsPlanAt fault.NoMemory plan = HasNoPlan plan

-- the status, the plan and the bytes where a run stops
abbrev pub StopsWith : RunFault → Status → Plan → List ℕ → Type 0
StopsWith why status plan bytes = (status ≡ stopped.status_of why) × IsPlanAt why plan × (bytes ≡ stopped.line_of why)

-- it stopped, with a part of a plan carried out
pub record IsCutShort (told : Option (List (ℕ × List ℕ))) (versions : List Checked) (budget : Budget) (allowance : ℕ) (end : End) : Type 0 where
  pub why : RunFault
  pub may : MayStop told why
  pub cut : IsCut versions budget allowance why end.done
  pub stops : StopsWith why end.status end.plan end.text

-- the store is as before, or has held no more than the budget
abbrev pub IsBounded : Budget → Stock → Stock → Type 0
IsBounded budget before now = (now ≡ before) ⊎ ((now.block ≡ budget.block) × (now.most ≡ budget.most) × (now.peak ≤ budget.most))

abbrev pub EndsShared : List Checked → Budget → ℕ → Stock → End → Type 0
EndsShared versions budget allowance before end =
    IsBounded budget before end.stock × (IsShared before.told versions budget allowance end ⊎ IsCutShort before.told versions budget allowance end)

-- ---- which ends are due

-- the ends of an answer that the words and the files call for, where the store was so before
abbrev pub Ends : Stock → Result Task Refusal → End → Type 0
Ends before (Ok (task.Alone version allowance)) end = IsAlone version allowance before end
Ends before (Ok (task.Shared versions budget allowance)) end = EndsShared versions budget allowance before end
Ends before (Err why) end = IsRefused why before end

-- The words and the files call for an answer that ends so. Over a library that does not tell its files, this is known of the words
-- alone.
pub record IsDue (view : Option FileView) (words : List (List ℕ)) (before : Stock) (end : End) : Type 0 where
  pub answer : Result Task Refusal
  pub called : IfSome view (λ file. due file words answer)
  pub worded : answer ≡ Err refusal.Usage → asked_of words ≡ None
  pub ends : Ends before answer end

-- ---- what is left of it

-- what is to be written
abbrev pub Says : End → Status → Plan → List ℕ → Type 0
Says end status plan bytes = (status ≡ end.status) × (plan ≡ end.plan) × (bytes ≡ end.text)

-- the kernel's steps before and now, its live state, and the store
abbrev pub Leaves : End → ℕ → ℕ → Option MachineState → Stock → Type 0
Leaves end before now live stock = (end.status ≡ ended.Done → now ≡ before + end.steps) × (live ≡ end.live) × (stock ≡ end.stock)

-- the plan that is left where the write of what goes with this status fails: that of a command that was done
pub record IsKept (status : Status) (plan kept : Plan) : Type 0 where
  pub whole : status ≡ ended.Done → kept ≡ plan
  pub none : status ≢ ended.Done → HasNoPlan kept

-- The whole text was written, which is none where memory was wanting; or a write failed, and a prefix of it was.
abbrev pub Written : End → Status → Plan → Option (List ℕ) → Option (List ℕ) → Type 0
Written end status plan before now =
    ((status ≡ end.status) × (plan ≡ end.plan) × GrewBy end.text before now)
    ⊎ ((status ≡ ended.WriteFault) × (end.status ≢ ended.NoMemory) × IsKept end.status end.plan plan × GrewByPrefix end.text before now)

-- what may end any call: memory was wanting, a read, a write, the kernel or the store failed, or a store that does not tell its bytes
-- gave others
abbrev pub IsStopped : Status → Type 0
IsStopped status = (status ≡ ended.NoMemory) ⊎ (status ≡ ended.ReadFault) ⊎ (status ≡ ended.WriteFault) ⊎ (status ≡ ended.KernelFault)
    ⊎ (status ≡ ended.StoreFault) ⊎ (status ≡ ended.Differs) ⊎ (status ≡ ended.Damaged)

-- what is left where this status is due
abbrev pub Yields : Status → Status → Type 0
Yields wanted status = (status ≡ wanted) ⊎ IsStopped status
