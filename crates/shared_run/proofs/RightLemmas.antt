-- Recorded rows that say what the nodes do are the rows of the versions.
use Rattle.std.proofs.Common.{◌≡◌, ℕ, zero, suc, ◌+◌, ◌<◌, ◌≤◌, false, List, [], ◌∷◌, length, get_or, take, Option, Some, None, slice_get, refl, sym, ap, ◌∙◌, subst, arith}
use Rattle.std.specs.List.{AllZip, Contains}
use Rattle.std.proofs.lemmas.Option.{slice_get-get_or}
use Rattle.star_meaning.specs.declared.ran.End.{End}
use Rattle.star_meaning.specs.declared.ran.End.TheVariants as end
use Rattle.star_meaning.specs.declared.ran.Ran.{Ran}
use Rattle.star_meaning.specs.Cells.{runs}
use Rattle.star_meaning.specs.Validity.{MachineState}
use Rattle.plan_type.specs.declared.costs.Costs.{Costs}
use Rattle.plan_type.specs.declared.row.Row.{Row}
use Rattle.plan_type.specs.declared.row.Reach.{Reach}
use Rattle.plan_type.specs.declared.row.Reach.TheVariants as reach
use Rattle.plan_type.specs.Costs.{IsReached, IsSound, NumbersFit, is_unreached, parent_of as parent_by, row_of}
use Rattle.exec_tree.specs.declared.checked.Checked.{Checked}
use Rattle.exec_tree.specs.Prefixes.{prefixes}
use Rattle.exec_tree.specs.Forests.{ForestParts, forest_of, parent_of}
use Rattle.node_rows.specs.Rows.{HasEnd, HasResult}
use Rattle.audit_run.specs.Rows.{AreRows, IsRow, no_row}
use Rattle.audit_run.specs.Sources.{HaveTheirNames, HaveTheirSources}
use Rattle.audit_run.specs.Visits.{Visit, nodes_of, program_of, state_after, visits}
use Rattle.audit_run.proofs.AddLemmas.{nodes_long}
use Rattle.replayer.specs.Nodes.{depth_at, result_at, state_at}
use Rattle.replayer.specs.Trees.{AreRecorded, IsDone, IsRecorded, IsRowAt}
use Rattle.replayer.proofs.TreeLemmas.{done_above, done_reached}
use Rattle.shared_run.specs.Trees.{FitTree, tree_left}
use Rattle.shared_run.proofs.AlongLemmas.{depth_along, node_least, node_up, result_along, state_along}
use Rattle.shared_run.proofs.AloneLemmas.{first_is, here, one_after, result_is}
use Rattle.shared_run.proofs.LeftLemmas.{left_is_tree, reached_at}
use Rattle.shared_run.proofs.TextLemmas.{end_reached, ended, row_ends_at}
use Rattle.shared_run.proofs.VisitLemmas.{IsVisit, above_is, no_visit, number_there, visit, visit_of, visits_many}

zip_from : {A B : Type 0} (R : A → B → Type 0) (xs : List A) (ys : List B) (a : A) (b : B) → length xs ≡ length ys → ((k : ℕ) → k < length ys → R (get_or xs k a) (get_or ys k b)) → AllZip R xs ys
zip_from R [] [] a b long each = tt
zip_from R [] (y ∷ ys) a b long each = absurd (omega (arith, long))
zip_from R (x ∷ xs) [] a b long each = absurd (omega (arith, long))
zip_from R (x ∷ xs) (y ∷ ys) a b long each =
    (each 0 (omega arith), zip_from R xs ys a b (omega (arith, long)) (λ k less. each (suc k) (omega (arith, less))))

-- a cell whose row says that it ran to its end did
done_end : (e : End) (m : MachineState) (row : Row) → HasEnd e m row → row.end ≡ reach.Done → e ≡ end.Done
done_end end.Done m row h is = refl
done_end (end.Failed failure line) m row h is = let never : reach.Failed ≡ reach.Done = sym h.0 ∙ is in absurd (cc)

module _ (versions : List Checked) (allowance : ℕ) (costs : Costs) (sound : IsSound costs) (fit : FitTree versions costs)
    (sources : HaveTheirSources versions) (names : HaveTheirNames versions) where
  abbrev pub left : ForestParts
  left = tree_left versions costs.rows

  abbrev pub own : Checked → List ℕ
  own w = nodes_of (prefixes versions) w

  abbrev after_cell : Checked → ℕ → MachineState
  after_cell w k = state_after (program_of versions) w.inputs allowance (take (k + 1) (own w))

  pub many : length costs.rows ≡ length (prefixes versions)
  many = fit.many ∙ nodes_long versions

  -- a row that says what a node does says what the cell of a version does that comes to it
  pub turned : (w : Checked) → Contains versions w → (k n : ℕ) (row : Row) (r : Ran) → k < length w.cells → get_or (own w) k 0 ≡ n → slice_get (runs w.cells w.inputs allowance) k ≡ Some r
      → IsRowAt left allowance n row → HasResult (k + 1) (Some r) (after_cell w k) row
  turned w there k n row r less number is h =
      let plus : suc k ≡ k + 1 = omega arith in
      let node : ℕ = get_or (own w) k 0 in
      let le : suc k ≤ length w.cells = omega (arith, less) in
      let depth : depth_at left node ≡ k + 1 = depth_along versions allowance costs sound fit sources names w there (suc k) le ∙ plus in
      let result : result_at left allowance node ≡ r =
      result_along versions allowance costs sound fit sources names w there k less ∙ sym (result_is versions allowance sources w there k r less is) in
      let state : state_at left allowance node ≡ after_cell w k =
      state_along versions allowance costs sound fit sources names w there (suc k) le
      ∙ ap (λ (j : ℕ). state_after (program_of versions) w.inputs allowance (take j (own w))) plus in
      subst (λ (m : MachineState). HasResult (k + 1) (Some r) m row) state
      (subst (λ (q : Ran). HasResult (k + 1) (Some q) (state_at left allowance node) row) result
      (subst (λ (j : ℕ). HasResult j (Some (result_at left allowance node)) (state_at left allowance node) row) depth
      (subst (λ (m : ℕ). IsRowAt left allowance m row) (sym number) h)))

  -- a row is that of a node where it says what the cell did that stands there
  pub placed : (i : ℕ) (row : Row) → i < length (prefixes versions) → row.parent ≡ parent_of (forest_of versions) (suc i) → (x : IsVisit versions allowance (visit versions allowance i)) (o : Option Ran)
      → slice_get (runs x.version.cells x.version.inputs allowance) x.spot ≡ o → HasResult (x.spot + 1) o (after_cell x.version x.spot) row → IsRow (prefixes versions) (visit versions allowance i) row
  placed i row less up x o is h = record {
    parent = up ∙ sym (above_is versions allowance i less);
    result = subst (λ (y : Visit). HasResult y.number y.ran y.state row) (sym x.is)
        (subst (λ (q : Option Ran). HasResult (x.spot + 1) q (after_cell x.version x.spot) row) (sym is) h);
  }

  -- a version comes to a reached node where the rows above it are right
  pub coming : (w : Checked) (there : Contains versions w) (k : ℕ) → k < length w.cells → IsReached costs (get_or (own w) k 0)
      → ((j : ℕ) → j < k → IsRecorded left costs allowance (get_or (own w) j 0)) → slice_get (runs w.cells w.inputs allowance) k ≡ Some (here versions allowance sources w there k)
  coming w there zero less reached right = first_is versions allowance sources w there less
  coming w there (suc k) less reached right =
      let low : k < length w.cells = omega (arith, less) in
      let at : ℕ = get_or (own w) k 0 in
      let next : ℕ = get_or (own w) (suc k) 0 in
      let up : parent_by costs next ≡ Some at =
      (left_is_tree versions costs sound fit).parents next reached ∙ ap Some (node_up versions allowance costs sound fit sources names w there (suc k) less) in
      let least : 1 ≤ at = node_least versions allowance costs sound fit sources names w there k low in
      let above : IsDone costs at = done_above costs sound at next reached up (omega (arith, least)) in
      let says : IsRowAt left allowance at above.0 = right k (omega arith) above.0 above.1 in
      let done : (result_at left allowance at).end ≡ end.Done = done_end (result_at left allowance at).end (state_at left allowance at) above.0 says.0 above.2 in
      let same : result_at left allowance at ≡ here versions allowance sources w there k = result_along versions allowance costs sound fit sources names w there k low in
      one_after versions allowance sources w there k (here versions allowance sources w there k) less
      (coming w there k low (done_reached costs at above) (λ j l. right j (omega (arith, l)))) (sym (ap (λ (r : Ran). r.end) same) ∙ done)

  -- ---- where all recorded rows say what the nodes do

  module _ (recorded : AreRecorded left costs allowance) where
    result_of : (i : ℕ) (row : Row) → slice_get costs.rows i ≡ Some row → (x : IsVisit versions allowance (visit versions allowance i)) → get_or (own x.version) x.spot 0 ≡ suc i
        → (o : Option Ran) → slice_get (runs x.version.cells x.version.inputs allowance) x.spot ≡ o → row.end ≡ ended o → HasResult (x.spot + 1) o (after_cell x.version x.spot) row
    result_of i row at x number None is ends =
        let none : NumbersFit reach.Unreached row = subst (λ (e : Reach). NumbersFit e row) ends (sound.rows (suc i) row at).numbers_fit in (ends, none.0, none.1, none.2)
    result_of i row at x number (Some r) is ends =
        let runs_on : is_unreached row.end ≡ false = ap is_unreached ends ∙ end_reached r.end in
        turned x.version x.there x.spot (suc i) row r x.within number is (recorded (suc i) (reached_at versions costs sound fit (suc i) row at runs_on) row at)

    right_at : (i : ℕ) → i < length costs.rows → IsRow (prefixes versions) (visit versions allowance i) (get_or costs.rows i (no_row 0))
    right_at i less =
        let low : i < length (prefixes versions) = omega (arith, less, many) in
        let row : Row = get_or costs.rows i (no_row 0) in
        let at : slice_get costs.rows i ≡ Some row = slice_get-get_or costs.rows i (no_row 0) less in
        let x : IsVisit versions allowance (visit versions allowance i) = visit_of versions allowance i low in
        let number : get_or (own x.version) x.spot 0 ≡ suc i = number_there versions allowance i low x in
        let o : Option Ran = slice_get (runs x.version.cells x.version.inputs allowance) x.spot in
        let ends : row.end ≡ ended o =
        row_ends_at versions allowance costs sound fit sources names recorded x.version x.there x.spot row x.within (ap (row_of costs) number ∙ at) in
        placed i row low (fit.parents (suc i) row at) x o refl (result_of i row at x number o refl ends)

    pub rows_right : AreRows versions allowance costs.rows
    rows_right =
        zip_from (IsRow (prefixes versions)) (visits versions allowance) costs.rows no_visit (no_row 0) (visits_many versions allowance ∙ sym many) right_at
