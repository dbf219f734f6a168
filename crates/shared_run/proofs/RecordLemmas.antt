-- The rows of versions, as the audit gives them, are those of the tree's nodes, and say what the nodes do.
use Rattle.std.proofs.Common.{◌≡◌, ℕ, zero, suc, ◌+◌, ◌<◌, ◌≤◌, true, List, length, get_or, take, Option, Some, None, slice_get, refl, sym, ap, ◌∙◌, subst, arith}
use Rattle.std.specs.List.{Contains}
use Rattle.std.proofs.lemmas.Bool.{false≢true}
use Rattle.std.proofs.lemmas.Option.{none-some, slice_get_within}
use Rattle.star_meaning.specs.declared.ran.Ran.{Ran}
use Rattle.star_meaning.specs.Cells.{runs}
use Rattle.star_meaning.specs.Validity.{MachineState}
use Rattle.plan_type.specs.declared.costs.Costs.{Costs}
use Rattle.plan_type.specs.declared.row.Row.{Row}
use Rattle.plan_type.specs.Costs.{IsReached, IsSound, is_reached, is_reached_in, row_of}
use Rattle.exec_tree.specs.declared.checked.Checked.{Checked}
use Rattle.exec_tree.specs.Prefixes.{prefixes, prefixes_of, Prefix}
use Rattle.exec_tree.specs.Forests.{ForestParts, forest_of, parent_of}
use Rattle.node_rows.specs.Rows.{HasResult}
use Rattle.audit_run.specs.Rows.{AreRows, IsRow, no_row}
use Rattle.audit_run.specs.Sources.{HaveTheirNames, HaveTheirSources}
use Rattle.audit_run.specs.Visits.{Visit, nodes_of, program_of, state_after, visit_at, visits}
use Rattle.audit_run.proofs.AddLemmas.{nodes_long, rows_long, zip_at}
use Rattle.audit_run.proofs.WayLemmas.{no_prefix, read_at}
use Rattle.replayer.specs.Nodes.{depth_at, result_at, state_at}
use Rattle.replayer.specs.Trees.{AreRecorded, IsRowAt}
use Rattle.shared_run.specs.Trees.{FitTree, tree_left}
use Rattle.shared_run.proofs.AlongLemmas.{depth_along, result_along, state_along}
use Rattle.shared_run.proofs.AloneLemmas.{result_is}
use Rattle.shared_run.proofs.VisitLemmas.{IsVisit, above_is, no_visit, number_there, visit, visit_of}

module _ (versions : List Checked) (allowance : ℕ) (costs : Costs) (rows_are : AreRows versions allowance costs.rows) where
  rows_many : length costs.rows ≡ length (prefixes versions)
  rows_many = rows_long versions allowance costs.rows rows_are

  in_tree : (i : ℕ) → i < length costs.rows → i < length (prefixes versions)
  in_tree i less = omega (arith, less, rows_many)

  pub row_is : (i : ℕ) (row : Row) → slice_get costs.rows i ≡ Some row → IsRow (prefixes versions) (visit versions allowance i) row
  row_is i row at =
      let less : i < length costs.rows = slice_get_within costs.rows i row at in
      subst (IsRow (prefixes versions) (visit versions allowance i)) (read_at costs.rows i row (no_row 0) at)
      (zip_at (IsRow (prefixes versions)) (visits versions allowance) costs.rows i no_visit (no_row 0) rows_are less)

  -- ---- the rows have the tree's nodes and parents

  parent_is : (v : ℕ) (row : Row) → row_of costs v ≡ Some row → row.parent ≡ parent_of (forest_of versions) v
  parent_is zero row at = absurd (none-some row at)
  parent_is (suc i) row at =
      let less : i < length costs.rows = slice_get_within costs.rows i row at in
      (row_is i row at).parent ∙ above_is versions allowance i (in_tree i less)

  pub rows_fit : FitTree versions costs
  rows_fit = record { many = rows_many ∙ sym (nodes_long versions); parents = parent_is }

  -- ---- and say what the nodes do

  module _ (sound : IsSound costs) (sources : HaveTheirSources versions) (names : HaveTheirNames versions) where
    abbrev left : ForestParts
    left = tree_left versions costs.rows

    -- no unreached row is reached
    never : (number : ℕ) (m : MachineState) (row : Row) → HasResult number None m row → is_reached row.end ≡ true → ⊥
    never number m row h runs = false≢true (sym (ap is_reached h.0) ∙ runs)

    says : (w : Checked) (k n : ℕ) (row : Row) (o : Option Ran) → (there : Contains versions w) → k < length w.cells → get_or (nodes_of (prefixes versions) w) k 0 ≡ n
        → slice_get (runs w.cells w.inputs allowance) k ≡ o → is_reached row.end ≡ true
        → HasResult (k + 1) o (state_after (program_of versions) w.inputs allowance (take (k + 1) (nodes_of (prefixes versions) w))) row → IsRowAt left allowance n row
    says w k n row None there less number is runs h = absurd (never (k + 1) (state_after (program_of versions) w.inputs allowance (take (k + 1) (nodes_of (prefixes versions) w))) row h runs)
    says w k n row (Some r) there less number is runs h =
        let fit : FitTree versions costs = rows_fit in
        let plus : suc k ≡ k + 1 = omega arith in
        let node : ℕ = get_or (nodes_of (prefixes versions) w) k 0 in
        let le : suc k ≤ length w.cells = omega (arith, less) in
        let depth : k + 1 ≡ depth_at left node = sym plus ∙ sym (depth_along versions allowance costs sound fit sources names w there (suc k) le) in
        let result : r ≡ result_at left allowance node =
        result_is versions allowance sources w there k r less is ∙ sym (result_along versions allowance costs sound fit sources names w there k less) in
        let state : state_after (program_of versions) w.inputs allowance (take (k + 1) (nodes_of (prefixes versions) w)) ≡ state_at left allowance node =
        ap (λ (j : ℕ). state_after (program_of versions) w.inputs allowance (take j (nodes_of (prefixes versions) w))) (sym plus)
        ∙ sym (state_along versions allowance costs sound fit sources names w there (suc k) le) in
        subst (λ (m : ℕ). IsRowAt left allowance m row) number
        (subst (λ (j : ℕ). HasResult j (Some (result_at left allowance node)) (state_at left allowance node) row) depth
        (subst (λ (q : Ran). HasResult (k + 1) (Some q) (state_at left allowance node) row) result
        (subst (λ (m : MachineState). HasResult (k + 1) (Some r) m row) state h)))

    recorded : (v : ℕ) → IsReached costs v → (row : Row) → row_of costs v ≡ Some row → IsRowAt left allowance v row
    recorded zero reached row at = absurd (none-some row at)
    recorded (suc i) reached row at =
        let less : i < length costs.rows = slice_get_within costs.rows i row at in
        let x : IsVisit versions allowance (visit versions allowance i) = visit_of versions allowance i (in_tree i less) in
        let place : ℕ × Prefix = (x.spot, get_or (prefixes_of x.version) x.spot no_prefix) in
        let own : IsRow (prefixes versions) (visit_at versions allowance x.version place) row = subst (λ (y : Visit). IsRow (prefixes versions) y row) x.is (row_is i row at) in
        says x.version x.spot (suc i) row (slice_get (runs x.version.cells x.version.inputs allowance) x.spot) x.there x.within (number_there versions allowance i (in_tree i less) x) refl (sym (ap is_reached_in at) ∙ reached) own.result

    pub rows_recorded : AreRecorded left costs allowance
    rows_recorded = recorded
