-- Which ends are due, and what is left where a status is due.
use Rattle.std.proofs.Common.{◌≡◌, ◌≢◌, ◌⊎◌, ◌≤◌, ◌<◌, ◌+◌, ◌-◌, ◌^◌, min, ℕ, Bool, true, false, List, [], ◌++◌, length, map, Option, Some, None, Result, Ok, Err, sym, ◌∙◌, ap, subst, refl, inl, inr, arith, append-nil}
use Rattle.std.specs.Prelude.{IfSome, IsSome}
use Rattle.std.specs.Str.{encode_utf8_all}
use Rattle.chex_base.specs.Outside.{GrewBy, Rose}
use Rattle.chex_base.specs.declared.status.Status.{Status}
use Rattle.chex_base.specs.declared.status.Status.TheVariants as ended
use Rattle.nb_reader.specs.declared.fault.NbFault.{NbFault}
use Rattle.nb_reader.specs.declared.fault.NbFault.TheVariants as broken
use Rattle.star_meaning.specs.Validity.{MachineState}
use Rattle.kernel_api.specs.Stock.{Stock}
use Rattle.plan_type.specs.declared.budget.Budget.{Budget}
use Rattle.plan_type.specs.declared.plan.Plan.{Plan}
use Rattle.plan_type.specs.Operations.{Ops, operations_of, ran}
use Rattle.plan_type.specs.Plan.{peak, work}
use Rattle.plan_type.specs.Prices.{IsLeast}
use Rattle.exec_tree.specs.declared.checked.Checked.{Checked}
use Rattle.exec_tree.specs.Prefixes.{prefixes}
use Rattle.audit_run.specs.Rows.{AreRows}
use Rattle.audit_run.specs.Visits.{steps_of_all}
use Rattle.replayer.specs.Machines.{IsAlikeAt}
use Rattle.shared_run.specs.declared.fault.RunFault.{RunFault}
use Rattle.shared_run.specs.declared.fault.RunFault.TheVariants as fault
use Rattle.shared_run.specs.declared.running.Shared.{Shared}
use Rattle.shared_run.specs.Courses.{EndsSo, IsCut, IsPart}
use Rattle.shared_run.specs.Trees.{tree_left}
use Rattle.shared_run.specs.Written.{texts_alone, written}
use Rattle.chex_top.specs.declared.refusal.Refusal.{Refusal}
use Rattle.chex_top.specs.declared.refusal.Refusal.TheVariants.{Usage, Absent, ReadFailed, BadFile, BadCell, TooManyNodes, TooManyBlocks, NoMemory}
use Rattle.chex_top.specs.declared.task.Task.{Task}
use Rattle.chex_top.specs.declared.task.Task.TheVariants as task
use Rattle.chex_top.specs.Words.{IsAllowance, asked_of}
use Rattle.chex_top.specs.Refusals.{file_status, line_of, status_of}
use Rattle.chex_top.specs.Reads.{FileView, IsCounted}
use Rattle.shared_run.specs.Numbers.{steps_along_all}
use Rattle.shared_run.proofs.AloneLemmas.{steps_all}
use Rattle.chex_top.specs.RunTexts.{numbers_with, run_text}
use Rattle.chex_top.specs.Stages.{IsCertain}
use Rattle.chex_top.specs.Stopped as stopped
use Rattle.chex_top.specs.Tasks.{AreReady, due}
use Rattle.chex_top.specs.Ends.{End, Ends, EndsAlone, EndsShared, HasNoPlan, IsBounded, IsCutShort, IsDue, IsKept, IsNothing, IsRefusal, IsRefused, IsShared, IsStopped, MayStop, StopsWith, Yields}
use Rattle.chex_top.proofs.OnceLemmas.{due_single}

-- ---- which statuses a refusal has

abbrev refuses : Status → Bool
refuses ended.Done = false
refuses ended.NoMemory = true
refuses ended.Usage = true
refuses ended.Absent = true
refuses ended.ReadFault = true
refuses ended.BadFile = true
refuses ended.BadCell = true
refuses ended.TooMany = true
refuses ended.BadRecord = false
refuses ended.Differs = false
refuses ended.KernelFault = false
refuses ended.StoreFault = false
refuses ended.WriteFault = false
refuses ended.BadPlan = false
refuses ended.Damaged = false
refuses ended.NotBuilt = false

file_either : (fault : NbFault) → (file_status fault ≡ ended.BadFile) ⊎ (file_status fault ≡ ended.TooMany)
file_either broken.NotJson = inl refl
file_either broken.NotObject = inl refl
file_either (broken.WrongFormat found) = inl refl
file_either broken.NoCells = inl refl
file_either (broken.BadCell index) = inl refl
file_either broken.NoVersions = inl refl
file_either (broken.BadVersion index) = inl refl
file_either (broken.RepeatedName name) = inl refl
file_either (broken.BadInput name) = inl refl
file_either (broken.TooMany what count) = inr refl
file_either broken.NoMemory = inl refl

file_refuses : (status : Status) → (status ≡ ended.BadFile) ⊎ (status ≡ ended.TooMany) → refuses status ≡ true
file_refuses status (inl h) = ap refuses h
file_refuses status (inr h) = ap refuses h

refusal_refuses : (r : Refusal) → refuses (status_of r) ≡ true
refusal_refuses Usage = refl
refusal_refuses (Absent file) = refl
refusal_refuses (ReadFailed file) = refl
refusal_refuses (BadFile file fault) = file_refuses (file_status fault) (file_either fault)
refusal_refuses (BadCell bad) = refl
refusal_refuses (TooManyNodes count) = refl
refusal_refuses (TooManyBlocks count) = refl
refusal_refuses NoMemory = refl

-- a file that is refused has none of the other statuses
file_other : (fault : NbFault) (status : Status) → file_status fault ≡ status → status ≢ ended.BadFile → status ≢ ended.TooMany → ⊥
file_other fault status is bad many = elim (file_either fault) [
  | inl h ↦ bad (sym is ∙ h)
  | inr h ↦ many (sym is ∙ h)
]

-- what is said of a refusal has one of its statuses
refusal_status : (why : Refusal) (status : Status) (plan : Plan) (bytes : List ℕ) → IsRefusal why status plan bytes → refuses status ≡ true
refusal_status why status plan bytes (inl h) = ap refuses h.0 ∙ refusal_refuses why
refusal_status why status plan bytes (inr h) = ap refuses h.0

pub refusal_other : (why : Refusal) (status other : Status) (plan : Plan) (bytes : List ℕ) → IsRefusal why status plan bytes → refuses other ≡ false → status ≡ other → ⊥
refusal_other why status other plan bytes h never is = let both : true ≡ false = sym (refusal_status why status plan bytes h) ∙ ap refuses is ∙ never in cc

-- ---- counts, by the status of a refusal

module _ (a0 a1 f0 f1 : ℕ) (words : List (List ℕ)) where
  abbrev Counted : Refusal → Type 0
  Counted r = ((r ≡ Usage) × (asked_of words ≡ None)) ⊎ IsCounted r a0 a1 f0 f1

  absent_at : (r : Refusal) → Counted r → status_of r ≡ ended.Absent → Rose a0 a1
  absent_at Usage h is = cc
  absent_at (Absent file) (inl h) is = cc
  absent_at (Absent file) (inr h) is = h
  absent_at (ReadFailed file) h is = cc
  absent_at (BadFile file fault) h is = absurd (file_other fault ended.Absent is (λ k. cc) (λ k. cc))
  absent_at (BadCell bad) h is = cc
  absent_at (TooManyNodes count) h is = cc
  absent_at (TooManyBlocks count) h is = cc
  absent_at NoMemory h is = cc

  read_at : (r : Refusal) → Counted r → status_of r ≡ ended.ReadFault → Rose f0 f1
  read_at Usage h is = cc
  read_at (Absent file) h is = cc
  read_at (ReadFailed file) (inl h) is = cc
  read_at (ReadFailed file) (inr h) is = h
  read_at (BadFile file fault) h is = absurd (file_other fault ended.ReadFault is (λ k. cc) (λ k. cc))
  read_at (BadCell bad) h is = cc
  read_at (TooManyNodes count) h is = cc
  read_at (TooManyBlocks count) h is = cc
  read_at NoMemory h is = cc

  usage_at : (r : Refusal) → Counted r → r ≡ Usage → asked_of words ≡ None
  usage_at r (inl h) is = h.1
  usage_at r (inr h) is = absurd (subst (λ (r : Refusal). IsCounted r a0 a1 f0 f1) is h)

  pub absent_counted : (why : Refusal) (status : Status) (plan : Plan) (bytes : List ℕ) → Counted why → IsRefusal why status plan bytes → status ≡ ended.Absent → Rose a0 a1
  absent_counted why status plan bytes counted (inl h) is = absent_at why counted (sym h.0 ∙ is)
  absent_counted why status plan bytes counted (inr h) is = let both : ended.NoMemory ≡ ended.Absent = sym h.0 ∙ is in cc

  pub read_counted : (why : Refusal) (status : Status) (plan : Plan) (bytes : List ℕ) → Counted why → IsRefusal why status plan bytes → status ≡ ended.ReadFault → Rose f0 f1
  read_counted why status plan bytes counted (inl h) is = read_at why counted (sym h.0 ∙ is)
  read_counted why status plan bytes counted (inr h) is = let both : ended.NoMemory ≡ ended.ReadFault = sym h.0 ∙ is in cc

  pub usage_worded : (r : Refusal) → Counted r → ◌≡◌ {A = Result Task Refusal} (Err r) (Err Usage) → asked_of words ≡ None
  usage_worded r h is = let same : r ≡ Usage = cc in usage_at r h same

-- words that are no command end with the usage, or with want of memory
pub usage_status : (why : Refusal) (status : Status) (plan : Plan) (bytes : List ℕ) → ◌≡◌ {A = Result Task Refusal} (Err why) (Err Usage) ⊎ ◌≡◌ {A = Result Task Refusal} (Err why) (Err NoMemory)
    → IsRefusal why status plan bytes → (status ≡ ended.Usage) ⊎ (status ≡ ended.NoMemory)
usage_status why status plan bytes h (inr none) = inr none.0
usage_status why status plan bytes (inl h) (inl says) = let same : why ≡ Usage = cc in inl (says.0 ∙ ap status_of same)
usage_status why status plan bytes (inr h) (inl says) = let same : why ≡ NoMemory = cc in inr (says.0 ∙ ap status_of same)

pub never_ok : (x : Task) → ◌≡◌ {A = Result Task Refusal} (Ok x) (Err Usage) ⊎ ◌≡◌ {A = Result Task Refusal} (Ok x) (Err NoMemory) → ⊥
never_ok x (inl h) = cc
never_ok x (inr h) = cc

-- ---- ends

abbrev pub end_of : Status → Plan → List ℕ → ℕ → Ops → Option MachineState → Stock → End
end_of status plan text steps done live stock = record { status = status; plan = plan; text = text; steps = steps; done = done; live = live; stock = stock }

-- the end of a refusal
pub refused_due : (view : Option FileView) (words : List (List ℕ)) (before : Stock) (live : Option MachineState) (why : Refusal) (status : Status) (plan : Plan) (bytes : List ℕ) (a0 a1 f0 f1 : ℕ)
    → IfSome view (λ file. due file words (Err why)) → ((why ≡ Usage) × (asked_of words ≡ None)) ⊎ IsCounted why a0 a1 f0 f1 → IsRefusal why status plan bytes
    → IsDue view words before (end_of status plan bytes 0 [] live before)
refused_due view words before live why status plan bytes a0 a1 f0 f1 called counted says = record {
  answer = Err why;
  called = called;
  worded = usage_worded a0 a1 f0 f1 words why counted;
  ends = record { says = says; untouched = (refl, refl) };
}

-- the end of a task
pub task_due : (view : Option FileView) (words : List (List ℕ)) (before : Stock) (end : End) (t : Task) → IfSome view (λ file. due file words (Ok t)) → Ends before (Ok t) end → IsDue view words before end
task_due view words before end t called ends = record { answer = Ok t; called = called; worded = λ h. cc; ends = ends }

-- ---- a run of versions

-- it stops so over such a store
may_stop : (versions : List Checked) (kernel store : Type 0) (told : Option (List (ℕ × List ℕ))) (why : RunFault) → length (prefixes versions) ≤ 512
    → EndsSo versions kernel store (told ≡ None) why → MayStop told why
may_stop versions kernel store told (fault.TooManyNodes count) few h = let n = length (prefixes versions) in let same : count ≡ n = h.0 in let many = h.1 in absurd (omega arith)
may_stop versions kernel store told fault.KernelFailed few h = tt
may_stop versions kernel store told fault.StoreFailed few h = tt
may_stop versions kernel store told (fault.Damaged v) few h = h.0
may_stop versions kernel store told (fault.Differs plan v difference) few h = h.0
may_stop versions kernel store told fault.NoMemory few h = tt

-- what was carried out is a part of a plan
cut_part : (versions : List Checked) (budget : Budget) (allowance : ℕ) (why : RunFault) (done : Ops) → IsCut versions budget allowance why done → IsPart versions budget allowance done
cut_part versions budget allowance (fault.TooManyNodes count) done h = inl h
cut_part versions budget allowance fault.KernelFailed done h = h
cut_part versions budget allowance fault.StoreFailed done h = h
cut_part versions budget allowance (fault.Damaged v) done h = inr (h.0, _, h.2)
cut_part versions budget allowance (fault.Differs plan v difference) done h = inr (plan, _, h.2)
cut_part versions budget allowance fault.NoMemory done h = h

-- memory was wanting for what is said
nothing_stops : (status : Status) (plan : Plan) (bytes : List ℕ) → IsNothing status plan bytes → StopsWith fault.NoMemory status plan bytes
unfolding stopped.line_of
nothing_stops status plan bytes h = (h.0, h.1, h.2)

pub stop_ends : (versions : List Checked) (budget : Budget) (allowance : ℕ) (before stock : Stock) (live : Option MachineState) (done : Ops) (why : RunFault) (kernel store : Type 0)
    (status : Status) (plan : Plan) (bytes : List ℕ) → length (prefixes versions) ≤ 512 → EndsSo versions kernel store (before.told ≡ None) why → IsCut versions budget allowance why done
    → IsBounded budget before stock → StopsWith why status plan bytes ⊎ IsNothing status plan bytes
    → EndsShared versions budget allowance before (end_of status plan bytes 0 done live stock)
stop_ends versions budget allowance before stock live done why kernel store status plan bytes few so cut bound (inl h) =
    (bound, inr (record { why = why; may = may_stop versions kernel store before.told why few so; cut = cut; stops = h }))
stop_ends versions budget allowance before stock live done why kernel store status plan bytes few so cut bound (inr h) =
    (bound, inr (record { why = fault.NoMemory; may = tt; cut = cut_part versions budget allowance why done cut; stops = nothing_stops status plan bytes h }))

min_low : (m n : ℕ) → m ≤ n → min m n ≡ m
min_low m n h = omega arith

module _ (versions : List Checked) (budget : Budget) (allowance : ℕ) (before stock : Stock) (live : Option MachineState) (done : Ops) (shared : Shared)
    (texts : IsSome before.told → map (written shared.texts) shared.ways ≡ texts_alone versions allowance)
    (many : length (map (written shared.texts) shared.ways) ≡ length versions)
    (alone : steps_along_all shared.costs shared.ways ≡ steps_of_all versions allowance) (allowed : IsAllowance allowance) (ready : AreReady versions)
    (rows : AreRows versions allowance shared.costs.rows) (least : IsLeast shared.costs budget shared.plan)
    (alike : IsSome before.told → IsAlikeAt (tree_left versions shared.costs.rows) allowance live (ran shared.costs budget (operations_of shared.costs budget shared.plan)).live)
    (held : stock.held ≡ []) (peaked : stock.peak ≡ peak shared.costs budget shared.plan) (bound : IsBounded budget before stock)
    (course : done ≡ operations_of shared.costs budget shared.plan) where
  abbrev steps : ℕ
  steps = steps_of_all versions allowance + work shared.costs shared.plan

  -- the number that is told of the steps alone is their sum
  alone_told : min (steps_along_all shared.costs shared.ways) (2 ^ 64 - 1) ≡ steps_of_all versions allowance
  alone_told =
      let few = steps_all versions allowance allowed.0 allowed.1 ready.cells in
      let many = ready.many in
      min_low (steps_along_all shared.costs shared.ways) (2 ^ 64 - 1) (omega (arith, alone, few, many)) ∙ alone

  -- all was done
  done_ends : (code : List ℕ)
      → code ≡ run_text versions (map (written shared.texts) shared.ways) (numbers_with (length versions) budget (min (steps_along_all shared.costs shared.ways) (2 ^ 64 - 1)) shared.costs shared.plan)
      → IsShared before.told versions budget allowance (end_of ended.Done shared.plan (encode_utf8_all code) steps done live stock)
  done_ends code says = record {
    costs = shared.costs;
    texts = map (written shared.texts) shared.ways;
    rows = rows;
    least = least;
    many = many;
    alone = texts;
    status = refl;
    text = ap encode_utf8_all (says ∙ ap (λ n. run_text versions (map (written shared.texts) shared.ways) (numbers_with (length versions) budget n shared.costs shared.plan)) alone_told);
    done = course;
    steps = refl;
    live = λ told. subst (λ (os : Ops). IsAlikeAt (tree_left versions shared.costs.rows) allowance live (ran shared.costs budget os).live) (sym course) (alike told);
    held = held;
    peak = peaked;
  }

  -- memory was wanting for the text
  nothing_ends : (status : Status) (plan : Plan) (bytes : List ℕ) → IsNothing status plan bytes → IsCutShort before.told versions budget allowance (end_of status plan bytes steps done live stock)
  nothing_ends status plan bytes h = record {
    why = fault.NoMemory;
    may = tt;
    cut = inr (shared.plan, [], record { costs = shared.costs; rows = rows; least = least; course = sym course ∙ sym (append-nil done) });
    stops = nothing_stops status plan bytes h;
  }

  pub said_ends : (status : Status) (plan : Plan) (code : List ℕ)
      → ((status ≡ ended.Done) × (plan ≡ shared.plan)
      × (code ≡ run_text versions (map (written shared.texts) shared.ways) (numbers_with (length versions) budget (min (steps_along_all shared.costs shared.ways) (2 ^ 64 - 1)) shared.costs shared.plan)))
      ⊎ IsNothing status plan (encode_utf8_all code)
      → EndsShared versions budget allowance before (end_of status plan (encode_utf8_all code) steps done live stock)
  said_ends status plan code (inl h) = (
    bound,
    inl (
        subst (λ (s : Status). IsShared before.told versions budget allowance (end_of s plan (encode_utf8_all code) steps done live stock)) (sym h.0)
        (subst (λ (p : Plan). IsShared before.told versions budget allowance (end_of ended.Done p (encode_utf8_all code) steps done live stock)) (sym h.1) (done_ends code h.2))
        ),
  )
  said_ends status plan code (inr h) = (bound, inr (nothing_ends status plan (encode_utf8_all code) h))

-- what is said of versions that ran has no other status
pub said_other : (status other : Status) (plan : Plan) (bytes : List ℕ) (Rest : Type 0) → (((status ≡ ended.Done) × Rest) ⊎ IsNothing status plan bytes) → other ≢ ended.Done → other ≢ ended.NoMemory → status ≡ other → ⊥
said_other status other plan bytes Rest (inl h) one two is = one (sym is ∙ h.0)
said_other status other plan bytes Rest (inr h) one two is = two (sym is ∙ h.0)

-- where the status is a fault's, its count rose
pub fault_kernel : (versions : List Checked) (kernel store silent : Type 0) (why : RunFault) (status : Status) (plan : Plan) (bytes : List ℕ) → EndsSo versions kernel store silent why
    → StopsWith why status plan bytes ⊎ IsNothing status plan bytes → status ≡ ended.KernelFault → kernel
fault_kernel versions kernel store silent why status plan bytes so (inr h) is = let both : ended.NoMemory ≡ ended.KernelFault = sym h.0 ∙ is in cc
fault_kernel versions kernel store silent why status plan bytes so (inl h) is = by why so (sym h.0 ∙ is)
  where
    by : (why : RunFault) → EndsSo versions kernel store silent why → stopped.status_of why ≡ ended.KernelFault → kernel
    by (fault.TooManyNodes count) k same = cc
    by fault.KernelFailed k same = k.0
    by fault.StoreFailed k same = cc
    by (fault.Damaged v) k same = cc
    by (fault.Differs plan v difference) k same = cc
    by fault.NoMemory k same = cc

pub fault_store : (versions : List Checked) (kernel store silent : Type 0) (why : RunFault) (status : Status) (plan : Plan) (bytes : List ℕ) → EndsSo versions kernel store silent why
    → StopsWith why status plan bytes ⊎ IsNothing status plan bytes → status ≡ ended.StoreFault → store
fault_store versions kernel store silent why status plan bytes so (inr h) is = let both : ended.NoMemory ≡ ended.StoreFault = sym h.0 ∙ is in cc
fault_store versions kernel store silent why status plan bytes so (inl h) is = by why so (sym h.0 ∙ is)
  where
    by : (why : RunFault) → EndsSo versions kernel store silent why → stopped.status_of why ≡ ended.StoreFault → store
    by (fault.TooManyNodes count) k same = cc
    by fault.KernelFailed k same = cc
    by fault.StoreFailed k same = k.0
    by (fault.Damaged v) k same = cc
    by (fault.Differs plan v difference) k same = cc
    by fault.NoMemory k same = cc

-- where a run stopped, not all was done
pub stop_done : (why : RunFault) (status : Status) (plan : Plan) (bytes : List ℕ) → StopsWith why status plan bytes ⊎ IsNothing status plan bytes → status ≡ ended.Done → ⊥
stop_done why status plan bytes (inr h) is = let both : ended.NoMemory ≡ ended.Done = sym h.0 ∙ is in cc
stop_done why status plan bytes (inl h) is = by why (sym h.0 ∙ is)
  where
    by : (why : RunFault) → stopped.status_of why ≡ ended.Done → ⊥
    by (fault.TooManyNodes count) same = cc
    by fault.KernelFailed same = cc
    by fault.StoreFailed same = cc
    by (fault.Damaged v) same = cc
    by (fault.Differs plan v difference) same = cc
    by fault.NoMemory same = cc

-- ---- a version alone

-- what a kernel's refusal says
pub alone_stops : (version : Checked) (allowance : ℕ) (status : Status) (plan : Plan) (bytes : List ℕ) → StopsWith fault.KernelFailed status plan bytes ⊎ IsNothing status plan bytes
    → EndsAlone version allowance status bytes × HasNoPlan plan
alone_stops version allowance status plan bytes (inl h) = (inr (inl (h.0, h.2)), h.1)
alone_stops version allowance status plan bytes (inr h) = (inr (inr (h.0, h.2)), h.1)

pub alone_other : (version : Checked) (allowance : ℕ) (status other : Status) (bytes : List ℕ) → EndsAlone version allowance status bytes → other ≢ ended.Done → other ≢ ended.KernelFault → other ≢ ended.NoMemory
    → status ≡ other → ⊥
alone_other version allowance status other bytes (inl h) one two three is = one (sym is ∙ h.0)
alone_other version allowance status other bytes (inr (inl h)) one two three is = two (sym is ∙ h.0)
alone_other version allowance status other bytes (inr (inr h)) one two three is = three (sym is ∙ h.0)

-- ---- what a status says of an end that is due

-- the statuses of a task that was carried out
abbrev IsCarried : Option (List (ℕ × List ℕ)) → Status → Type 0
IsCarried told status = (status ≡ ended.Done) ⊎ (status ≡ ended.KernelFault) ⊎ (status ≡ ended.StoreFault) ⊎ (status ≡ ended.NoMemory)
    ⊎ (told ≡ None) × ((status ≡ ended.Differs) ⊎ (status ≡ ended.Damaged))

carried_fault : (told : Option (List (ℕ × List ℕ))) (why : RunFault) → MayStop told why → IsCarried told (stopped.status_of why)
carried_fault told (fault.TooManyNodes count) may = absurd may
carried_fault told fault.KernelFailed may = inr (inl refl)
carried_fault told fault.StoreFailed may = inr (inr (inl refl))
carried_fault told (fault.Damaged v) may = inr (inr (inr (inr (may, inr refl))))
carried_fault told (fault.Differs plan v difference) may = inr (inr (inr (inr (may, inl refl))))
carried_fault told fault.NoMemory may = inr (inr (inr (inl refl)))

carried_at : (told : Option (List (ℕ × List ℕ))) (wanted status : Status) → status ≡ wanted → IsCarried told wanted → IsCarried told status
carried_at told wanted status is h = subst (λ (s : Status). IsCarried told s) (sym is) h

carried : (before : Stock) (t : Task) (end : End) → Ends before (Ok t) end → IsCarried before.told end.status
carried before (task.Alone version allowance) end h = by h.ends
  where
    by : EndsAlone version allowance end.status end.text → IsCarried before.told end.status
    by (inl k) = inl k.0
    by (inr (inl k)) = inr (inl k.0)
    by (inr (inr k)) = inr (inr (inr (inl k.0)))
carried before (task.Shared versions budget allowance) end h = by h.1
  where
    by : IsShared before.told versions budget allowance end ⊎ IsCutShort before.told versions budget allowance end → IsCarried before.told end.status
    by (inl k) = inl k.status
    by (inr k) = carried_at before.told (stopped.status_of k.why) end.status k.stops.0 (carried_fault before.told k.why k.may)

carried_yields : (told : Option (List (ℕ × List ℕ))) (status : Status) → IsCarried told status → Yields ended.Done status
carried_yields told status (inl h) = inl h
carried_yields told status (inr (inl h)) = inr (inr (inr (inr (inl h))))
carried_yields told status (inr (inr (inl h))) = inr (inr (inr (inr (inr (inl h)))))
carried_yields told status (inr (inr (inr (inl h)))) = inr (inl h)
carried_yields told status (inr (inr (inr (inr (n, inl h))))) = inr (inr (inr (inr (inr (inr (inl h))))))
carried_yields told status (inr (inr (inr (inr (n, inr h))))) = inr (inr (inr (inr (inr (inr (inr h))))))

abbrev carries : Status → Bool
carries ended.Done = true
carries ended.NoMemory = true
carries ended.Usage = false
carries ended.Absent = false
carries ended.ReadFault = false
carries ended.BadFile = false
carries ended.BadCell = false
carries ended.TooMany = false
carries ended.BadRecord = false
carries ended.Differs = true
carries ended.KernelFault = true
carries ended.StoreFault = true
carries ended.WriteFault = false
carries ended.BadPlan = false
carries ended.Damaged = true
carries ended.NotBuilt = false

carried_carries : (told : Option (List (ℕ × List ℕ))) (status : Status) → IsCarried told status → carries status ≡ true
carried_carries told status (inl h) = ap carries h
carried_carries told status (inr (inl h)) = ap carries h
carried_carries told status (inr (inr (inl h))) = ap carries h
carried_carries told status (inr (inr (inr (inl h)))) = ap carries h
carried_carries told status (inr (inr (inr (inr (n, inl h))))) = ap carries h
carried_carries told status (inr (inr (inr (inr (n, inr h))))) = ap carries h

-- a task that was carried out has none of the other statuses
pub task_other : (before : Stock) (t : Task) (end : End) (status other : Status) → Ends before (Ok t) end → status ≡ end.status → carries other ≡ false → status ≡ other → ⊥
task_other before t end status other h same never is =
    let both : true ≡ false = sym (carried_carries before.told end.status (carried before t end h)) ∙ ap carries (sym same ∙ is) ∙ never in cc

abbrev IsOdd : Status → Type 0
IsOdd status = (status ≡ ended.Differs) ⊎ (status ≡ ended.Damaged)

odd_not : (status other : Status) → status ≡ other → other ≢ ended.Differs → other ≢ ended.Damaged → IsOdd status → ⊥
odd_not status other is one two (inl h) = one (sym is ∙ h)
odd_not status other is one two (inr h) = two (sym is ∙ h)

carried_silent : (told : Option (List (ℕ × List ℕ))) (status : Status) → IsCarried told status → IsOdd status → told ≡ None
carried_silent told status (inl h) odd = absurd (odd_not status ended.Done h (λ k. cc) (λ k. cc) odd)
carried_silent told status (inr (inl h)) odd = absurd (odd_not status ended.KernelFault h (λ k. cc) (λ k. cc) odd)
carried_silent told status (inr (inr (inl h))) odd = absurd (odd_not status ended.StoreFault h (λ k. cc) (λ k. cc) odd)
carried_silent told status (inr (inr (inr (inl h)))) odd = absurd (odd_not status ended.NoMemory h (λ k. cc) (λ k. cc) odd)
carried_silent told status (inr (inr (inr (inr h)))) odd = h.0

-- no text comes with want of memory
carried_empty : (before : Stock) (t : Task) (end : End) → Ends before (Ok t) end → end.status ≡ ended.NoMemory → end.text ≡ []
unfolding stopped.line_of
carried_empty before (task.Alone version allowance) end h is = by h.ends
  where
    by : EndsAlone version allowance end.status end.text → end.text ≡ []
    by (inl k) = let both : ended.Done ≡ ended.NoMemory = sym k.0 ∙ is in cc
    by (inr (inl k)) = let both : ended.KernelFault ≡ ended.NoMemory = sym k.0 ∙ is in cc
    by (inr (inr k)) = k.1
carried_empty before (task.Shared versions budget allowance) end h is = by h.1
  where
    line : (why : RunFault) → stopped.status_of why ≡ ended.NoMemory → stopped.line_of why ≡ []
    line (fault.TooManyNodes count) k = cc
    line fault.KernelFailed k = cc
    line fault.StoreFailed k = cc
    line (fault.Damaged v) k = cc
    line (fault.Differs plan v difference) k = cc
    line fault.NoMemory k = refl

    by : IsShared before.told versions budget allowance end ⊎ IsCutShort before.told versions budget allowance end → end.text ≡ []
    by (inl k) = let both : ended.Done ≡ ended.NoMemory = sym k.status ∙ is in cc
    by (inr k) = k.stops.2 ∙ line k.why (sym k.stops.0 ∙ is)

refusal_empty : (why : Refusal) (status : Status) (plan : Plan) (bytes : List ℕ) → IsRefusal why status plan bytes → status ≡ ended.NoMemory → bytes ≡ []
unfolding line_of
refusal_empty why status plan bytes (inr h) is = h.2
refusal_empty why status plan bytes (inl h) is = h.2 ∙ line why (sym h.0 ∙ is)
  where
    line : (why : Refusal) → status_of why ≡ ended.NoMemory → line_of why ≡ []
    line Usage k = cc
    line (Absent file) k = cc
    line (ReadFailed file) k = cc
    line (BadFile file fault) k = absurd (file_other fault ended.NoMemory k (λ k. cc) (λ k. cc))
    line (BadCell bad) k = cc
    line (TooManyNodes count) k = cc
    line (TooManyBlocks count) k = cc
    line NoMemory k = refl

module _ (view : Option FileView) (words : List (List ℕ)) (before : Stock) (end : End) (is : IsDue view words before end) where
  pub due_empty : end.status ≡ ended.NoMemory → end.text ≡ []
  due_empty same = by is.answer is.ends
    where
      by : (answer : Result Task Refusal) → Ends before answer end → end.text ≡ []
      by (Ok t) h = carried_empty before t end h same
      by (Err why) h = refusal_empty why end.status end.plan end.text h.says same

  -- a failed write is never due
  pub due_write_fault : end.status ≡ ended.WriteFault → ⊥
  due_write_fault same = by is.answer is.ends
    where
      by : (answer : Result Task Refusal) → Ends before answer end → ⊥
      by (Ok t) h = task_other before t end end.status ended.WriteFault h refl refl same
      by (Err why) h = refusal_other why end.status ended.WriteFault end.plan end.text h.says refl same

  pub due_silent : (end.status ≡ ended.Differs) ⊎ (end.status ≡ ended.Damaged) → before.told ≡ None
  due_silent odd = by is.answer is.ends
    where
      refused : (why : Refusal) → IsRefused why before end → (end.status ≡ ended.Differs) ⊎ (end.status ≡ ended.Damaged) → ⊥
      refused why h (inl k) = refusal_other why end.status ended.Differs end.plan end.text h.says refl k
      refused why h (inr k) = refusal_other why end.status ended.Damaged end.plan end.text h.says refl k

      by : (answer : Result Task Refusal) → Ends before answer end → before.told ≡ None
      by (Ok t) h = carried_silent before.told end.status (carried before t end h) odd
      by (Err why) h = absurd (refused why h odd)

-- ---- what an answer is

certain_or : (answer : Result Task Refusal) → IsCertain answer ⊎ (answer ≡ Err NoMemory) ⊎ (file : List ℕ) × (answer ≡ Err (ReadFailed file))
certain_or (Ok t) = inl (λ h. cc, λ file h. cc)
certain_or (Err Usage) = inl (λ h. cc, λ file h. cc)
certain_or (Err (Absent name)) = inl (λ h. cc, λ file h. cc)
certain_or (Err (ReadFailed name)) = inr (inr (name, refl))
certain_or (Err (BadFile name fault)) = inl (λ h. cc, λ file h. cc)
certain_or (Err (BadCell bad)) = inl (λ h. cc, λ file h. cc)
certain_or (Err (TooManyNodes count)) = inl (λ h. cc, λ file h. cc)
certain_or (Err (TooManyBlocks count)) = inl (λ h. cc, λ file h. cc)
certain_or (Err NoMemory) = inr (inl refl)

refusal_yields : (why : Refusal) (before : Stock) (end : End) → IsRefused why before end → Yields (status_of why) end.status
refusal_yields why before end h = by h.says
  where
    by : IsRefusal why end.status end.plan end.text → Yields (status_of why) end.status
    by (inl k) = inl k.0
    by (inr k) = inr (inl k.0)

stopped_yields : (wanted middle status : Status) → IsStopped middle → Yields middle status → Yields wanted status
stopped_yields wanted middle status h (inl is) = inr (subst (λ (s : Status). IsStopped s) (sym is) h)
stopped_yields wanted middle status h (inr k) = inr k

module _ (file : FileView) (words : List (List ℕ)) (before : Stock) (end : End) (is : IsDue (Some file) words before end) where
  -- where the words and the files call for this answer, the call ends as it does, or memory was wanting, or a read failed
  yields_by : (wanted : Result Task Refusal) (status : Status) → ((k : Ends before wanted end) → Yields status end.status) → due file words wanted → IsCertain wanted → Yields status end.status
  yields_by wanted status then called certain = elim (certain_or is.answer) [
    | inl sure ↦ then (subst (λ (answer : Result Task Refusal). Ends before answer end) (due_single file words is.answer wanted is.called called sure certain) is.ends)
    | inr (inl none) ↦ stopped_yields status ended.NoMemory end.status (inl refl) (refusal_yields NoMemory before end (subst (λ (answer : Result Task Refusal). Ends before answer end) none is.ends))
    | inr (inr failed) ↦ stopped_yields status ended.ReadFault end.status (inr (inl refl))
        (refusal_yields (ReadFailed failed.0) before end (subst (λ (answer : Result Task Refusal). Ends before answer end) failed.1 is.ends))
  ]

  refused_yields : (why : Refusal) → due file words (Err why) → IsCertain {A = Task} (Err why) → Yields (status_of why) end.status
  refused_yields why called certain = yields_by (Err why) (status_of why) (λ h. refusal_yields why before end h) called certain

  done_yields : (t : Task) → due file words (Ok t) → Yields ended.Done end.status
  done_yields t called = yields_by (Ok t) ended.Done (λ h. carried_yields before.told end.status (carried before t end h)) called (λ h. cc, λ name h. cc)

-- ---- the same of each library, and of the status that is left

-- what yields of the end's status yields of a status that is it, or a failed write
left_yields : (wanted status due_status : Status) → (status ≡ due_status) ⊎ (status ≡ ended.WriteFault) → Yields wanted due_status → Yields wanted status
left_yields wanted status due_status (inl same) h = subst (λ (s : Status). Yields wanted s) (sym same) h
left_yields wanted status due_status (inr failed) h = inr (inr (inr (inl failed)))

pub view_refused : (view : Option FileView) (words : List (List ℕ)) (before : Stock) (end : End) (status : Status) → IsDue view words before end → (status ≡ end.status) ⊎ (status ≡ ended.WriteFault)
    → IfSome view (λ file. (why : Refusal) → due file words (Err why) → IsCertain {A = Task} (Err why) → Yields (status_of why) status)
view_refused None words before end status is left = tt
view_refused (Some file) words before end status is left = λ why called certain. left_yields (status_of why) status end.status left (refused_yields file words before end is why called certain)

pub view_done : (view : Option FileView) (words : List (List ℕ)) (before : Stock) (end : End) (status : Status) → IsDue view words before end → (status ≡ end.status) ⊎ (status ≡ ended.WriteFault)
    → IfSome view (λ file. (t : Task) → due file words (Ok t) → Yields ended.Done status)
view_done None words before end status is left = tt
view_done (Some file) words before end status is left = λ t called. left_yields ended.Done status end.status left (done_yields file words before end is t called)

-- words that are no command
pub usage_yields : (status : Status) → (status ≡ ended.Usage) ⊎ (status ≡ ended.NoMemory) → Yields ended.Usage status
usage_yields status (inl h) = inl h
usage_yields status (inr h) = inr (inl h)

-- nothing was written
pub grew_none : (held : Option (List ℕ)) → GrewBy [] held held
grew_none None = tt
grew_none (Some bytes) = sym (append-nil bytes)

pub grew_at : (text : List ℕ) (held : Option (List ℕ)) → text ≡ [] → GrewBy text held held
grew_at text held is = subst (λ (t : List ℕ). GrewBy t held held) (sym is) (grew_none held)

-- the plan that is left
pub kept_at : (status due_status : Status) (plan due_plan kept : Plan) → status ≡ due_status → plan ≡ due_plan → IsKept status plan kept → IsKept due_status due_plan kept
kept_at status due_status plan due_plan kept s p h = record { whole = λ done. h.whole (s ∙ done) ∙ p; none = λ other. h.none (λ done. other (sym s ∙ done)) }

-- a failed write is not odd
pub write_even : (ended.WriteFault ≡ ended.Differs) ⊎ (ended.WriteFault ≡ ended.Damaged) → ⊥
write_even (inl h) = cc
write_even (inr h) = cc

pub odd_at : (status due_status : Status) → status ≡ due_status → (status ≡ ended.Differs) ⊎ (status ≡ ended.Damaged) → (due_status ≡ ended.Differs) ⊎ (due_status ≡ ended.Damaged)
odd_at status due_status same odd = subst (λ (s : Status). (s ≡ ended.Differs) ⊎ (s ≡ ended.Damaged)) same odd
