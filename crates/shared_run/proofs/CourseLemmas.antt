-- How a run of versions goes, from how its replay goes.
use Rattle.std.proofs.Common.{◌≡◌, ◌≤◌, ℕ, List, length, map, Option, Some, None, IsSome, Result, Ok, Err, IfOk, IfErr, OnOk, refl, sym, ap, ◌∙◌, subst}
use Rattle.star_syntax.specs.declared.cell.Program.{Program}
use Rattle.plan_type.specs.declared.budget.Budget.{Budget}
use Rattle.plan_type.specs.declared.costs.Costs.{Costs}
use Rattle.plan_type.specs.declared.plan.Plan.{Plan}
use Rattle.plan_type.specs.Operations.{operations_of}
use Rattle.exec_tree.specs.declared.checked.Checked.{Checked}
use Rattle.exec_tree.specs.Prefixes.{prefixes}
use Rattle.exec_tree.specs.Forests.{ForestParts, parents}
use Rattle.audit_run.specs.Sources.{HaveTheirNames, HaveTheirSources}
use Rattle.audit_run.specs.Visits as visits
use Rattle.replayer.specs.declared.difference.Difference.{Difference}
use Rattle.replayer.specs.declared.fault.ReplayFault.{ReplayFault}
use Rattle.replayer.specs.declared.fault.ReplayFault.TheVariants as cause
use Rattle.replayer.specs.Courses.{IsFirstToDiffer}
use Rattle.replayer.specs.Nodes.{program_of}
use Rattle.replayer.specs.Trees.{AreRecorded, AreTexts, IsTreeOf}
use Rattle.shared_run.specs.declared.fault.RunFault.{RunFault}
use Rattle.shared_run.specs.declared.fault.RunFault.TheVariants as fault
use Rattle.shared_run.specs.declared.planning.Planned.{Planned}
use Rattle.shared_run.specs.declared.running.Shared.{Shared}
use Rattle.shared_run.specs.Courses.{EndsSo}
use Rattle.shared_run.specs.Numbers.{steps_along_all}
use Rattle.shared_run.specs.Planning.{IsPlanned}
use Rattle.shared_run.specs.Replaying.{StopsSo, stopped}
use Rattle.shared_run.specs.Written.{AreWays, texts_alone, way_to, written}
use Rattle.shared_run.proofs.LeftLemmas.{left_is_tree, program_left, ways_many}
use Rattle.shared_run.proofs.NumberLemmas.{all_steps}
use Rattle.shared_run.proofs.RecordLemmas.{rows_fit, rows_recorded}
use Rattle.shared_run.proofs.SameLemmas.{never_differs}
use Rattle.shared_run.proofs.TextLemmas.{all_texts, all_ways}

-- ---- a replay that stopped

pub stops_of : (kernel store damaged : Type 0) (differs : ℕ → Difference → Type 0) (plan : Plan) (e : ReplayFault) → (e ≡ cause.KernelFailed → kernel) → (e ≡ cause.StoreFailed → store)
    → ((v : ℕ) → e ≡ cause.Damaged v → damaged) → ((v : ℕ) (d : Difference) → e ≡ cause.Differs v d → differs v d) → StopsSo kernel store damaged differs plan (stopped plan e)
stops_of kernel store damaged differs plan cause.KernelFailed k s harm other = k refl
stops_of kernel store damaged differs plan cause.StoreFailed k s harm other = s refl
stops_of kernel store damaged differs plan (cause.Damaged v) k s harm other = harm v refl
stops_of kernel store damaged differs plan (cause.Differs v d) k s harm other = (other v d refl, refl)
stops_of kernel store damaged differs plan cause.NoMemory k s harm other = tt

pub silent_of : (told : Option (List (ℕ × List ℕ))) → (IsSome told → ⊥) → told ≡ None
silent_of None h = refl
silent_of (Some files) h = absurd (h refl)

-- ---- a run that was replayed

ends_so : (versions : List Checked) (before kernel store silent : Type 0) (differs : ℕ → Difference → Type 0) (plan : Plan) (e : RunFault) → (kernel → before) → length (prefixes versions) ≤ 512
    → ((v : ℕ) (d : Difference) → differs v d → silent) → StopsSo kernel store silent differs plan e → EndsSo versions before store silent e
ends_so versions before kernel store silent differs plan (fault.TooManyNodes count) rose few never h = absurd h
ends_so versions before kernel store silent differs plan fault.KernelFailed rose few never h = (rose h, few)
ends_so versions before kernel store silent differs plan fault.StoreFailed rose few never h = (h, few)
ends_so versions before kernel store silent differs plan (fault.Damaged v) rose few never h = (h, few)
ends_so versions before kernel store silent differs plan (fault.Differs other v difference) rose few never h = (never v difference h.0, few)
ends_so versions before kernel store silent differs plan fault.NoMemory rose few never h = tt

module _ (versions : List Checked) (budget : Budget) (allowance : ℕ) (made : Planned) (is : IsPlanned versions budget allowance made) where
  pub planned_tree : IsTreeOf made.costs made.forest
  planned_tree = subst (IsTreeOf made.costs) (sym is.left) (left_is_tree versions made.costs is.sound (rows_fit versions allowance made.costs is.rows))

  pub planned_recorded : HaveTheirSources versions → HaveTheirNames versions → AreRecorded made.forest made.costs allowance
  planned_recorded sources names =
      subst (λ (f : ForestParts). AreRecorded f made.costs allowance) (sym is.left) (rows_recorded versions allowance made.costs is.rows is.sound sources names)

  pub planned_loaded : (result : Result Shared RunFault) (program : Program) → OnOk result (program ≡ program_of made.forest) → OnOk result (program ≡ visits.program_of versions)
  planned_loaded (Ok shared) program h = h ∙ (ap program_of is.left ∙ program_left versions made.costs.rows)
  planned_loaded (Err e) program h = h

  pub planned_texts : HaveTheirSources versions → HaveTheirNames versions → (some : Type 0) (ways : List (List ℕ)) (result : Result Shared RunFault) → ways ≡ map (way_to (parents made.forest)) made.forest.ends
      → IfOk result (λ shared. (shared.costs ≡ made.costs) × (shared.plan ≡ made.plan) × (shared.ways ≡ ways)) → IfOk result (λ shared. some → AreTexts made.forest made.costs allowance shared.texts)
      → IfOk result (λ shared. some → map (written shared.texts) shared.ways ≡ texts_alone versions allowance)
  planned_texts sources names some ways (Ok shared) ways_are same are = λ s.
      all_texts versions allowance made.costs is.sound (rows_fit versions allowance made.costs is.rows) sources names (rows_recorded versions allowance made.costs is.rows is.sound sources names)
      shared.texts made.forest shared.ways (are s) is.left (same.2 ∙ ways_are)
  planned_texts sources names some ways (Err e) ways_are same are = tt

  pub planned_ways : HaveTheirSources versions → HaveTheirNames versions → (ways : List (List ℕ)) (result : Result Shared RunFault) → ways ≡ map (way_to (parents made.forest)) made.forest.ends
      → IfOk result (λ shared. (shared.costs ≡ made.costs) × (shared.plan ≡ made.plan) × (shared.ways ≡ ways)) → IfOk result (λ shared. length shared.texts ≡ length made.costs.rows)
      → IfOk result (λ shared. AreWays (length shared.texts) shared.ways)
  planned_ways sources names ways (Ok shared) ways_are same many =
      all_ways versions allowance made.costs is.sound (rows_fit versions allowance made.costs is.rows) sources names (rows_recorded versions allowance made.costs is.rows is.sound sources names)
      (length shared.texts) made.forest shared.ways many is.left (same.2 ∙ ways_are)
  planned_ways sources names ways (Err e) ways_are same many = tt

  pub planned_many : (ways : List (List ℕ)) (result : Result Shared RunFault) → ways ≡ map (way_to (parents made.forest)) made.forest.ends
      → IfOk result (λ shared. (shared.costs ≡ made.costs) × (shared.plan ≡ made.plan) × (shared.ways ≡ ways)) → IfOk result (λ shared. length shared.ways ≡ length versions)
  planned_many ways (Ok shared) ways_are same = ap length (same.2 ∙ ways_are) ∙ ways_many versions made.costs.rows made.forest is.left
  planned_many ways (Err e) ways_are same = tt

  pub planned_alone : HaveTheirSources versions → HaveTheirNames versions → (ways : List (List ℕ)) (result : Result Shared RunFault) → ways ≡ map (way_to (parents made.forest)) made.forest.ends
      → IfOk result (λ shared. (shared.costs ≡ made.costs) × (shared.plan ≡ made.plan) × (shared.ways ≡ ways))
      → IfOk result (λ shared. steps_along_all shared.costs shared.ways ≡ visits.steps_of_all versions allowance)
  planned_alone sources names ways (Ok shared) ways_are same =
      ap (λ (c : Costs). steps_along_all c shared.ways) same.0
      ∙ (ap (steps_along_all made.costs) same.2
      ∙ all_steps versions allowance made.costs is.sound (rows_fit versions allowance made.costs is.rows) sources names (rows_recorded versions allowance made.costs is.rows is.sound sources names)
      made.forest ways is.left ways_are)
  planned_alone sources names ways (Err e) ways_are same = tt

  -- over a store that tells its bytes no row differs
  pub planned_ends : HaveTheirSources versions → HaveTheirNames versions → (before kernel store : Type 0) (told : Option (List (ℕ × List ℕ))) (result : Result Shared RunFault) → (kernel → before)
      → length (prefixes versions) ≤ 512
      → IfErr result (StopsSo kernel store (told ≡ None) (IsFirstToDiffer made.forest made.costs allowance told (operations_of made.costs budget made.plan)) made.plan)
      → IfErr result (EndsSo versions before store (told ≡ None))
  planned_ends sources names before kernel store told (Ok shared) rose few h = h
  planned_ends sources names before kernel store told (Err e) rose few h =
      ends_so versions before kernel store (told ≡ None) (IsFirstToDiffer made.forest made.costs allowance told (operations_of made.costs budget made.plan)) made.plan e rose few
      (λ v d first. silent_of told (never_differs made.forest made.costs budget made.plan allowance told v d is.sound is.least.serves.plan (planned_recorded sources names) first)) h
