-- The steps of the nodes of all ways are those of all versions, each by itself.
use Rattle.std.proofs.Common.{◌≡◌, ℕ, suc, ◌<◌, false, List, [], ◌∷◌, length, get_or, take, map, Option, Some, slice_get, refl, ap, ◌∙◌, arith}
use Rattle.std.specs.List.{All, Contains, sum_by}
use Rattle.std.proofs.lemmas.List.{length-take-le}
use Rattle.std.proofs.lemmas.List.Elements.{All-contains_itself, All-head, All-tail}
use Rattle.std.proofs.lemmas.List.Sums.{sum_by-cons}
use Rattle.std.proofs.lemmas.Option.{slice_get_within}
use Rattle.star_meaning.specs.declared.ran.Ran.{Ran}
use Rattle.star_meaning.specs.Cells.{steps}
use Rattle.plan_type.specs.declared.costs.Costs.{Costs}
use Rattle.plan_type.specs.Costs.{IsSound, is_unreached, steps_of}
use Rattle.exec_tree.specs.declared.checked.Checked.{Checked}
use Rattle.exec_tree.specs.Forests.{ForestParts, moved, parents}
use Rattle.exec_tree.specs.Prefixes.{keys_of, number_of, prefixes}
use Rattle.audit_run.specs.Rows.{failed_nodes}
use Rattle.audit_run.specs.Sources.{HaveTheirNames, HaveTheirSources}
use Rattle.audit_run.specs.Visits.{steps_of_all}
use Rattle.audit_run.proofs.TreeLemmas.{length-nodes_of}
use Rattle.replayer.specs.Trees.{AreRecorded}
use Rattle.replayer.proofs.RowLemmas.{steps_there}
use Rattle.shared_run.specs.Numbers.{steps_along, steps_along_all}
use Rattle.shared_run.specs.Trees.{FitTree, tree_left}
use Rattle.shared_run.specs.Written.{way_to}
use Rattle.shared_run.proofs.AloneLemmas.{few_results, steps_first, total, total_first}
use Rattle.shared_run.proofs.LeftLemmas.{reached_at, row_at}
use Rattle.shared_run.proofs.TextLemmas.{all, at, end_reached, ended, get_take, least, most, ns, result_there, row_ends_at, top, way_is, ways, ways_are}

added : (f : ℕ → ℕ) (nodes : List ℕ) (rs : List Ran) → length nodes ≡ length rs → ((j : ℕ) (r : Ran) → slice_get rs j ≡ Some r → f (get_or nodes j 0) ≡ r.steps) → sum_by f nodes ≡ total rs
added f [] [] long each = refl
added f [] (r ∷ rs) long each = absurd (omega (arith, long))
added f (n ∷ nodes) [] long each = absurd (omega (arith, long))
added f (n ∷ nodes) (r ∷ rs) long each =
    let one : f n ≡ r.steps = each 0 r refl in
    let rest : sum_by f nodes ≡ total rs = added f nodes rs (omega (arith, long)) (λ j q is. each (suc j) q is) in
    omega (arith, sum_by-cons f n nodes, total_first r rs, one, rest)

module _ (versions : List Checked) (allowance : ℕ) (costs : Costs) (sound : IsSound costs) (fit : FitTree versions costs)
    (sources : HaveTheirSources versions) (names : HaveTheirNames versions) (recorded : AreRecorded (tree_left versions costs.rows) costs allowance) where
  module _ (v : Checked) (there : Contains versions v) where
    abbrev results : List Ran
    results = all versions allowance costs sound fit sources names recorded v there

    abbrev nodes : List ℕ
    nodes = ns versions allowance costs sound fit sources names recorded v there

    steps_at : (j : ℕ) (r : Ran) → slice_get results j ≡ Some r → steps_of costs (get_or (take (length results) nodes) j 0) ≡ r.steps
    steps_at j r is =
        let within : j < length results = slice_get_within results j r is in
        let less : j < length v.cells = omega (arith, within, few_results v.cells v.inputs allowance) in
        let node : ℕ = at versions allowance costs sound fit sources names recorded v there j in
        let found = row_at costs node (least versions allowance costs sound fit sources names recorded v there j less) (most versions allowance costs sound fit sources names recorded v there j less) in
        let runs_on : is_unreached found.0.end ≡ false =
        ap is_unreached (row_ends_at versions allowance costs sound fit sources names recorded v there j found.0 less found.1) ∙ (ap (λ (o : Option Ran). is_unreached (ended o)) is ∙ end_reached r.end) in
        let says = recorded node (reached_at versions costs sound fit node found.0 found.1 runs_on) found.0 found.1 in
        ap (steps_of costs) (get_take nodes (length results) j within)
        ∙ (steps_there costs node found.0 found.1
        ∙ (says.1
        ∙ ap (λ (q : Ran). q.steps) (result_there versions allowance costs sound fit sources names recorded v there j r less is)))

    steps_are : steps_along costs (take (length results) nodes) ≡ steps v.cells v.inputs allowance
    unfolding steps
    steps_are =
        let long : length nodes ≡ length v.cells = length-nodes_of versions v there in
        added (steps_of costs) (take (length results) nodes) results (length-take-le (length results) nodes (omega (arith, long, few_results v.cells v.inputs allowance))) steps_at

  all_along : (vs : List Checked) → All (λ (v : Checked). Contains versions v) vs
      → steps_along_all costs (ways versions allowance costs sound fit sources names recorded vs) ≡ steps_of_all vs allowance
  all_along [] h = refl
  all_along (v ∷ vs) h =
      let there : Contains versions v = All-head (λ (w : Checked). Contains versions w) v vs h in
      let first : List ℕ =
      way_to (top versions allowance costs sound fit sources names recorded) (moved (top versions allowance costs sound fit sources names recorded) (failed_nodes costs.rows) (number_of (prefixes versions) (keys_of v))) in
      let more : List (List ℕ) = ways versions allowance costs sound fit sources names recorded vs in
      let own : steps_along costs first ≡ steps v.cells v.inputs allowance =
      ap (steps_along costs) (way_is versions allowance costs sound fit sources names recorded v there) ∙ steps_are v there in
      let rest : steps_along_all costs more ≡ steps_of_all vs allowance = all_along vs (All-tail (λ (w : Checked). Contains versions w) v vs h) in
      omega (arith, sum_by-cons (steps_along costs) first more, steps_first v vs allowance, own, rest)

  pub all_steps : (forest : ForestParts) (given : List (List ℕ)) → forest ≡ tree_left versions costs.rows → given ≡ map (way_to (parents forest)) forest.ends
      → steps_along_all costs given ≡ steps_of_all versions allowance
  all_steps forest given is made =
      ap (steps_along_all costs) (made ∙ (ap (λ (f : ForestParts). map (way_to (parents f)) f.ends) is ∙ ways_are versions allowance costs sound fit sources names recorded))
      ∙ all_along versions (All-contains_itself versions)
