-- A replay by recorded rows, from how its plan is carried out.
use Rattle.std.proofs.Common.{◌≡◌, ◌<◌, ℕ, List, length, map, Option, None, Result, Ok, Err, IfOk, IfErr, OnOk, sym, ap, ◌∙◌, subst, arith}
use Rattle.std.specs.List.{All}
use Rattle.star_syntax.specs.declared.cell.Program.{Program}
use Rattle.plan_type.specs.declared.budget.Budget.{Budget}
use Rattle.plan_type.specs.declared.costs.Costs.{Costs}
use Rattle.plan_type.specs.declared.plan.Plan.{Plan}
use Rattle.plan_type.specs.Costs.{IsSound}
use Rattle.plan_type.specs.Operations.{operations_of}
use Rattle.plan_type.specs.Prices.{IsLeast}
use Rattle.exec_tree.specs.declared.checked.Checked.{Checked}
use Rattle.exec_tree.specs.declared.fault.TreeFault.TheVariants.{TooManyNodes}
use Rattle.exec_tree.specs.Forests.{ForestParts, IsNode, forest_of, parents}
use Rattle.exec_tree.specs.Merged.{IsFaultOf}
use Rattle.exec_tree.specs.Prefixes.{prefixes}
use Rattle.audit_run.specs.Rows.{AreRows, failed_nodes}
use Rattle.audit_run.specs.Sources.{HaveTheirNames, HaveTheirSources}
use Rattle.audit_run.specs.Visits as visits
use Rattle.audit_run.proofs.AddLemmas.{nodes_long}
use Rattle.replayer.specs.declared.difference.Difference.{Difference}
use Rattle.replayer.specs.Courses.{IsFirstToDiffer}
use Rattle.replayer.specs.Nodes.{program_of}
use Rattle.replayer.specs.Trees.{AreRecorded, AreTexts, IsTreeOf}
use Rattle.shared_run.specs.declared.fault.RunFault.{RunFault}
use Rattle.shared_run.specs.declared.fault.RunFault.TheVariants as fault
use Rattle.shared_run.specs.declared.running.Shared.{Shared}
use Rattle.shared_run.specs.Numbers.{steps_along_all}
use Rattle.shared_run.specs.Recorded.{DiffersUntold, IsDiffering, RefusesSo}
use Rattle.shared_run.specs.Replaying.{StopsSo}
use Rattle.shared_run.specs.Trees.{FitTree, tree_left}
use Rattle.shared_run.specs.Written.{AreWays, texts_alone, way_to, written}
use Rattle.shared_run.proofs.CourseLemmas.{silent_of}
use Rattle.shared_run.proofs.DifferingLemmas.{differing}
use Rattle.shared_run.proofs.LeftLemmas.{count_left, failed_within, left_is_tree, program_left, ways_many}
use Rattle.shared_run.proofs.NumberLemmas.{all_steps}
use Rattle.shared_run.proofs.RecordLemmas.{rows_recorded}
use Rattle.shared_run.proofs.RightLemmas.{rows_right}
use Rattle.shared_run.proofs.SameLemmas.{never_differs}
use Rattle.shared_run.proofs.TextLemmas.{all_texts}

-- ---- the tree that is planned for

-- there are as many nodes as rows, so they are not too many
pub not_too_many : (versions : List Checked) (costs : Costs) (count : ℕ) → IsSound costs → FitTree versions costs → IsFaultOf versions (TooManyNodes count) → ⊥
not_too_many versions costs count sound fit h =
    let is : count ≡ length (prefixes versions) = h.0 in
    let more : 512 < count = h.1 in
    omega (arith, is, more, sound.few, fit.many, nodes_long versions)

-- the failed ones are nodes
pub failed_are_nodes : (versions : List Checked) (costs : Costs) (forest : ForestParts) (nodes got : List ℕ) → FitTree versions costs → forest ≡ forest_of versions → nodes ≡ failed_nodes costs.rows → got ≡ nodes
    → All (IsNode forest) got
failed_are_nodes versions costs forest nodes got fit is failed same =
    subst (λ (f : ForestParts). All (IsNode f) got) (sym is)
    (subst (All (IsNode (forest_of versions))) (sym (same ∙ failed)) (failed_within costs.rows (length (forest_of versions).nodes) fit.many))

-- ---- the replay

module _ (versions : List Checked) (allowance : ℕ) (costs : Costs) (sound : IsSound costs) (fit : FitTree versions costs)
    (sources : HaveTheirSources versions) (names : HaveTheirNames versions) (forest : ForestParts) (is : forest ≡ tree_left versions costs.rows) where
  pub left_tree : IsTreeOf costs forest
  left_tree = subst (IsTreeOf costs) (sym is) (left_is_tree versions costs sound fit)

  recorded_left : AreRecorded forest costs allowance → AreRecorded (tree_left versions costs.rows) costs allowance
  recorded_left h = subst (λ (f : ForestParts). AreRecorded f costs allowance) is h

  pub left_rows : (some : Type 0) (result : Result Shared RunFault) → OnOk result (some → AreRecorded forest costs allowance) → OnOk result (some → AreRows versions allowance costs.rows)
  left_rows some (Ok shared) h = λ s. rows_right versions allowance costs sound fit sources names (recorded_left (h s))
  left_rows some (Err e) h = h

  pub left_loaded : (result : Result Shared RunFault) (program : Program) → OnOk result (program ≡ program_of forest) → OnOk result (program ≡ visits.program_of versions)
  left_loaded (Ok shared) program h = h ∙ (ap program_of is ∙ program_left versions costs.rows)
  left_loaded (Err e) program h = h

  module _ (budget : Budget) (plan : Plan) (ways : List (List ℕ)) where
    abbrev IsMade : Shared → Type 0
    IsMade shared = (shared.costs ≡ costs) × (shared.plan ≡ plan) × (shared.ways ≡ ways)

    pub left_texts : (some : Type 0) (result : Result Shared RunFault) → ways ≡ map (way_to (parents forest)) forest.ends → IfOk result IsMade
        → IfOk result (λ shared. some → AreTexts forest costs allowance shared.texts) → OnOk result (some → AreRecorded forest costs allowance)
        → IfOk result (λ shared. some → map (written shared.texts) shared.ways ≡ texts_alone versions allowance)
    left_texts some (Ok shared) ways_are same are recorded = λ s.
        all_texts versions allowance costs sound fit sources names (recorded_left (recorded s)) shared.texts forest shared.ways (are s) is (same.2 ∙ ways_are)
    left_texts some (Err e) ways_are same are recorded = tt

    pub left_many : (result : Result Shared RunFault) → ways ≡ map (way_to (parents forest)) forest.ends → IfOk result IsMade → IfOk result (λ shared. length shared.ways ≡ length versions)
    left_many (Ok shared) ways_are same = ap length (same.2 ∙ ways_are) ∙ ways_many versions costs.rows forest is
    left_many (Err e) ways_are same = tt

    pub left_alone : (some : Type 0) (result : Result Shared RunFault) → ways ≡ map (way_to (parents forest)) forest.ends → IfOk result IsMade → OnOk result (some → AreRecorded forest costs allowance)
        → IfOk result (λ shared. some → steps_along_all shared.costs shared.ways ≡ visits.steps_of_all versions allowance)
    left_alone some (Ok shared) ways_are same recorded = λ s.
        ap (λ (c : Costs). steps_along_all c shared.ways) same.0
        ∙ (ap (steps_along_all costs) same.2 ∙ all_steps versions allowance costs sound fit sources names (recorded_left (recorded s)) forest ways is ways_are)
    left_alone some (Err e) ways_are same recorded = tt

    pub left_ways : (result : Result Shared RunFault) → AreWays (length forest.nodes) ways → IfOk result IsMade → IfOk result (λ shared. length shared.texts ≡ length costs.rows)
        → IfOk result (λ shared. AreWays (length shared.texts) shared.ways)
    left_ways (Ok shared) within same many =
        let count : length forest.nodes ≡ length shared.texts = ap (λ (f : ForestParts). length f.nodes) is ∙ (count_left versions costs.rows ∙ (sym fit.many ∙ sym many)) in
        subst (AreWays (length shared.texts)) (sym same.2) (subst (λ (n : ℕ). AreWays n ways) count within)
    left_ways (Err e) within same many = tt

    module _ (least : IsLeast costs budget plan) where
      abbrev First : Option (List (ℕ × List ℕ)) → ℕ → Difference → Type 0
      First told v d = IsFirstToDiffer forest costs allowance told (operations_of costs budget plan) v d

      refuses : (kernel store : Type 0) (told : Option (List (ℕ × List ℕ))) (e : RunFault) → StopsSo kernel store (told ≡ None) (First told) plan e
          → RefusesSo versions costs budget allowance kernel store told e
      refuses kernel store told (fault.TooManyNodes count) h = h
      refuses kernel store told fault.KernelFailed h = h
      refuses kernel store told fault.StoreFailed h = h
      refuses kernel store told (fault.Damaged v) h = h
      refuses kernel store told (fault.Differs other v d) h =
          subst (λ (p : Plan). IsLeast costs budget p × IsDiffering versions costs allowance told (operations_of costs budget p) v d) (sym h.1) (
            least,
            differing versions allowance costs sound fit sources names budget plan least.serves told v d
                (subst (λ (f : ForestParts). IsFirstToDiffer f costs allowance told (operations_of costs budget plan) v d) is h.0),
          )
      refuses kernel store told fault.NoMemory h = tt

      pub left_refuses : (kernel store : Type 0) (told : Option (List (ℕ × List ℕ))) (result : Result Shared RunFault) → IfErr result (StopsSo kernel store (told ≡ None) (First told) plan)
          → IfErr result (RefusesSo versions costs budget allowance kernel store told)
      left_refuses kernel store told (Ok shared) h = h
      left_refuses kernel store told (Err e) h = refuses kernel store told e h

      pub left_right : (kernel store : Type 0) (told : Option (List (ℕ × List ℕ))) (result : Result Shared RunFault) → IfErr result (StopsSo kernel store (told ≡ None) (First told) plan)
          → AreRows versions allowance costs.rows → IfErr result (DiffersUntold told)
      left_right kernel store told (Ok shared) h rows = h
      left_right kernel store told (Err e) h rows = λ other v d same.
          let stops : StopsSo kernel store (told ≡ None) (First told) plan (fault.Differs other v d) = subst (StopsSo kernel store (told ≡ None) (First told) plan) same h in
          let recorded : AreRecorded forest costs allowance =
          subst (λ (f : ForestParts). AreRecorded f costs allowance) (sym is) (rows_recorded versions allowance costs rows sound sources names) in
          silent_of told (never_differs forest costs budget plan allowance told v d sound least.serves.plan recorded stops.0)
