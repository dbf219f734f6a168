-- The first computed node whose recorded row is not what the node does, beside the rows of the versions.
use Rattle.std.proofs.Common.{◌≡◌, ◌⊎◌, inl, inr, ℕ, zero, suc, ◌-◌, ◌<◌, ◌≤◌, Bool, true, false, ◌||◌, List, [], ◌∷◌, ◌++◌, length, get_or, Option, Some, None, IsSome, slice_get, refl, sym, ap, ◌∙◌, subst, arith, eq-zero-or-pos}
use Rattle.std.specs.Prelude.{◌==◌}
use Rattle.std.specs.List.{AllByRecursion, Contains}
use Rattle.std.proofs.lemmas.Bool.{false≢true}
use Rattle.std.proofs.lemmas.Bool.Decides.{Decides-eqb}
use Rattle.std.proofs.lemmas.Option.{none-some, slice_get_within}
use Rattle.star_meaning.specs.declared.ran.Ran.{Ran}
use Rattle.star_meaning.specs.Cells.{runs}
use Rattle.plan_type.specs.declared.budget.Budget.{Budget}
use Rattle.plan_type.specs.declared.costs.Costs.{Costs}
use Rattle.plan_type.specs.declared.plan.Plan.{Plan}
use Rattle.plan_type.specs.declared.row.Row.{Row}
use Rattle.plan_type.specs.declared.operations.Operation.TheVariants.{Reset, Compute, Checkpoint, Restore, Evict}
use Rattle.plan_type.specs.Costs.{IsReached, IsSound, parent_of as parent_by, row_of}
use Rattle.plan_type.specs.Operations.{Ops, computes, operations_of}
use Rattle.plan_type.specs.Plan.{Serves}
use Rattle.exec_tree.specs.declared.checked.Checked.{Checked}
use Rattle.exec_tree.specs.Prefixes.{prefixes}
use Rattle.exec_tree.specs.Forests.{forest_of, parent_of}
use Rattle.audit_run.specs.Sources.{HaveTheirNames, HaveTheirSources}
use Rattle.replayer.specs.declared.difference.Difference.{Difference}
use Rattle.replayer.specs.declared.difference.Difference.TheVariants as field
use Rattle.replayer.specs.Courses.{IsFirstToDiffer}
use Rattle.replayer.specs.Differences.{IsDifference}
use Rattle.replayer.specs.Machines.{IsFine}
use Rattle.replayer.specs.Nodes.{depth_at, result_at, state_at}
use Rattle.replayer.specs.Trees.{IsRecorded, IsRowAt}
use Rattle.replayer.proofs.FineLemmas.{all_fine}
use Rattle.replayer.proofs.RowLemmas.{result_same}
use Rattle.shared_run.specs.Recorded.{IsDiffering, IsRowOf}
use Rattle.shared_run.specs.Trees.{FitTree}
use Rattle.shared_run.proofs.AloneLemmas.{here}
use Rattle.shared_run.proofs.AlongLemmas.{node_least, node_up}
use Rattle.shared_run.proofs.ClosedLemmas.{IsClosed, closed}
use Rattle.shared_run.proofs.LeftLemmas.{left_is_tree}
use Rattle.shared_run.proofs.RightLemmas.{coming, left, many, own, placed, turned}
use Rattle.shared_run.proofs.VisitLemmas.{IsVisit, number_there, visit, visit_is, visit_of}

-- ---- what is computed is reached

computed_reached : (costs : Costs) (done rest : Ops) (w : ℕ) → AllByRecursion (IsFine costs) (done ++ rest) → computes done w ≡ true → IsReached costs w
computed_reached costs [] rest w fine h = absurd (false≢true h)
computed_reached costs (Reset ∷ done) rest w fine h = computed_reached costs done rest w fine.1 h
computed_reached costs (Compute v n ∷ done) rest w fine h = by (v == w) refl (computed_reached costs done rest w fine.1) h
  where
    by : (t : Bool) → (v == w) ≡ t → (computes done w ≡ true → IsReached costs w) → (t || computes done w) ≡ true → IsReached costs w
    by true is again k = subst (IsReached costs) ((Decides-eqb v w).0 is) fine.0
    by false is again k = again k
computed_reached costs (Checkpoint v b ∷ done) rest w fine h = computed_reached costs done rest w fine.1 h
computed_reached costs (Restore v ∷ done) rest w fine h = computed_reached costs done rest w fine.1 h
computed_reached costs (Evict v ∷ done) rest w fine h = computed_reached costs done rest w fine.1 h

next_reached : (costs : Costs) (done rest : Ops) (v n : ℕ) → AllByRecursion (IsFine costs) (done ++ Compute v n ∷ rest) → IsReached costs v
next_reached costs [] rest v n fine = fine.0
next_reached costs (o ∷ done) rest v n fine = next_reached costs done rest v n fine.1

-- ---- a measured row under another parent

with_parent : (a b : Row) (d : Difference) (p : ℕ) → IsDifference a b d → IsDifference a (record b { parent = p }) d
with_parent a b (field.End x y) p h = h
with_parent a b (field.Steps x y) p h = h
with_parent a b (field.Bytes x y) p h = h
with_parent a b (field.Text x y) p h = h

files_of : (told : Option (List (ℕ × List ℕ))) → IsSome told → (files : List (ℕ × List ℕ)) × (told ≡ Some files)
files_of None h = absurd (false≢true h)
files_of (Some files) h = (files, refl)

-- ---- the first that differs

module _ (versions : List Checked) (allowance : ℕ) (costs : Costs) (sound : IsSound costs) (fit : FitTree versions costs)
    (sources : HaveTheirSources versions) (names : HaveTheirNames versions) (budget : Budget) (plan : Plan) (serves : Serves costs budget plan)
    (told : Option (List (ℕ × List ℕ))) (v : ℕ) (d : Difference)
    (first : IsFirstToDiffer (left versions allowance costs sound fit sources names) costs allowance told (operations_of costs budget plan) v d) where
  -- it is the next to be computed, or was computed
  abbrev IsMet : ℕ → Type 0
  IsMet n = (computes first.done n ≡ true) ⊎ (n ≡ v)

  fine : AllByRecursion (IsFine costs) (first.done ++ Compute v first.steps ∷ first.rest)
  fine = subst (AllByRecursion (IsFine costs)) first.here (all_fine costs sound budget plan serves.plan)

  met_reached : (n : ℕ) → IsMet n → IsReached costs n
  met_reached n (inl h) = computed_reached costs first.done (Compute v first.steps ∷ first.rest) n fine h
  met_reached n (inr is) = subst (IsReached costs) (sym is) (next_reached costs first.done first.rest v first.steps fine)

  above : (n u : ℕ) → IsMet n → parent_by costs n ≡ Some u → 0 < u → computes first.done u ≡ true
  above n u met up some = by met
    where
      is_closed : IsClosed costs first.done v
      is_closed = closed costs budget plan sound serves first.done v first.steps first.rest first.here

      known : (u ≡ 0) ⊎ (computes first.done u ≡ true) → computes first.done u ≡ true
      known (inl none) = absurd (omega (arith, none, some))
      known (inr h) = h

      by : IsMet n → computes first.done u ≡ true
      by (inl h) = known (is_closed.others n u h up)
      by (inr is) = known (is_closed.here u (ap (parent_by costs) (sym is) ∙ up))

  met_above : (w : Checked) → Contains versions w → (k : ℕ) → k < length w.cells → IsMet (get_or (own versions allowance costs sound fit sources names w) k 0) → (j : ℕ) → j < k
      → computes first.done (get_or (own versions allowance costs sound fit sources names w) j 0) ≡ true
  met_above w there zero less met j low = absurd (omega (arith, low))
  met_above w there (suc k) less met j low =
      let ns : List ℕ = own versions allowance costs sound fit sources names w in
      let short : k < length w.cells = omega (arith, less) in
      let next : ℕ = get_or ns (suc k) 0 in
      let up : parent_by costs next ≡ Some (get_or ns k 0) =
      (left_is_tree versions costs sound fit).parents next (met_reached next met) ∙ ap Some (node_up versions allowance costs sound fit sources names w there (suc k) less) in
      let least : 1 ≤ get_or ns k 0 = node_least versions allowance costs sound fit sources names w there k short in
      let one : computes first.done (get_or ns k 0) ≡ true = above next (get_or ns k 0) met up (omega (arith, least)) in
      by (eq-zero-or-pos (k - j)) one (λ l. met_above w there k short (inl one) j l)
    where
      by : (k - j ≡ 0) ⊎ (0 < k - j) → computes first.done (get_or (own versions allowance costs sound fit sources names w) k 0) ≡ true
          → (j < k → computes first.done (get_or (own versions allowance costs sound fit sources names w) j 0) ≡ true)
          → computes first.done (get_or (own versions allowance costs sound fit sources names w) j 0) ≡ true
      by (inl none) one again =
          let same : k ≡ j = omega (arith, none, low) in
          subst (λ (i : ℕ). computes first.done (get_or (own versions allowance costs sound fit sources names w) i 0) ≡ true) same one
      by (inr some) one again = again (omega (arith, some))

  -- a row that says what such a node does is that of the versions' rows
  right_row : (files : List (ℕ × List ℕ)) → told ≡ Some files → (n : ℕ) (recorded row : Row) → IsMet n → row_of costs n ≡ Some recorded → row.parent ≡ parent_of (forest_of versions) n
      → IsRowAt (left versions allowance costs sound fit sources names) allowance n row → IsRowOf versions allowance n row
  right_row files is zero recorded row met at up says = absurd (none-some recorded at)
  right_row files is (suc i) recorded row met at up says =
      let within : i < length costs.rows = slice_get_within costs.rows i recorded at in
      let low : i < length (prefixes versions) = omega (arith, within, many versions allowance costs sound fit sources names) in
      let x : IsVisit versions allowance (visit versions allowance i) = visit_of versions allowance i low in
      let number : get_or (own versions allowance costs sound fit sources names x.version) x.spot 0 ≡ suc i = number_there versions allowance i low x in
      let right : (j : ℕ) → j < x.spot → IsRecorded (left versions allowance costs sound fit sources names) costs allowance (get_or (own versions allowance costs sound fit sources names x.version) j 0) =
      λ j l. first.before files is (get_or (own versions allowance costs sound fit sources names x.version) j 0) (met_above x.version x.there x.spot x.within (subst IsMet (sym number) met) j l) in
      let r : Ran = here versions allowance sources x.version x.there x.spot in
      let comes : slice_get (runs x.version.cells x.version.inputs allowance) x.spot ≡ Some r =
      coming versions allowance costs sound fit sources names x.version x.there x.spot x.within (subst (IsReached costs) (sym number) (met_reached (suc i) met)) right in (
        visit versions allowance i,
        visit_is versions allowance i low,
        placed versions allowance costs sound fit sources names i row low up x (Some r) comes
            (turned versions allowance costs sound fit sources names x.version x.there x.spot (suc i) row r x.within number comes says),
      )

  pub differing : IsDiffering versions costs allowance told (operations_of costs budget plan) v d
  differing =
      let forest = left versions allowance costs sound fit sources names in
      let f = first.differs in
      let measured : Row = record f.1 { parent = f.0.parent } in
      record {
        done = first.done;
        steps = first.steps;
        rest = first.rest;
        here = first.here;
        before = λ some w computed row at.
            let t = files_of told some in
            right_row t.0 t.1 w row row (inl computed) at (fit.parents w row at) (first.before t.0 t.1 w computed row at);
        differs = (
          f.0,
          measured,
          f.2,
          with_parent f.0 f.1 d f.0.parent f.3,
          λ some. let t = files_of told some in
              right_row t.0 t.1 v f.0 measured (inr refl) f.2 (fit.parents v f.0 f.2)
              (result_same (depth_at forest v) (result_at forest allowance v) (state_at forest allowance v) measured f.1 (record { end = refl; steps = refl; bytes = refl; text = refl }) (f.4 t.0 t.1)),
        );
      }
