-- A version's nodes in the tree as rows leave it: how deep they are, the states after them, and what they do.
use Rattle.std.proofs.Common.{◌≡◌, ℕ, zero, suc, ◌+◌, ◌<◌, ◌≤◌, List, [], ◌∷◌, ◌++◌, length, get_or, take, reverse, sym, ap, ◌∙◌, arith}
use Rattle.std.specs.List.{Contains}
use Rattle.std.proofs.Math.Seq.{take-suc}
use Rattle.std.proofs.lemmas.List.{reverse-append}
use Rattle.star_syntax.specs.Cells.{numbered}
use Rattle.star_syntax.specs.declared.cell.Program.{Program}
use Rattle.star_meaning.specs.Validity.{MachineState, after, ran_at}
use Rattle.plan_type.specs.declared.costs.Costs.{Costs}
use Rattle.plan_type.specs.Costs.{IsSound}
use Rattle.exec_tree.specs.declared.checked.Checked.{Checked}
use Rattle.exec_tree.specs.Keys.{InputMap}
use Rattle.exec_tree.specs.Forests.{ForestParts, parent_of, parents, path}
use Rattle.exec_tree.specs.Prefixes.{prefixes}
use Rattle.exec_tree.proofs.CutLemmas.{path_none}
use Rattle.audit_run.specs.Sources.{HaveTheirNames, HaveTheirSources}
use Rattle.audit_run.specs.Visits.{nodes_of}
use Rattle.audit_run.specs.Visits as visits
use Rattle.audit_run.proofs.TreeLemmas.{length-nodes_of, nodes_within, parent_before}
use Rattle.audit_run.proofs.WayLemmas.{no_prefix}
use Rattle.replayer.specs.Nodes.{depth_at, inputs_at, result_at, state_at}
use Rattle.replayer.proofs.PathLemmas.{depth_none, depth_step, path_step, result_is, state_none, state_step}
use Rattle.replayer.proofs.TreeLemmas.{inputs_are}
use Rattle.shared_run.specs.Trees.{FitTree, tree_left}
use Rattle.shared_run.specs.Written.{way_to}
use Rattle.shared_run.proofs.BeginningLemmas.{HasOwner, owner_of}
use Rattle.shared_run.proofs.LeftLemmas.{inputs_left, low_left, parent_left, program_left, within_left}
use Rattle.shared_run.proofs.StateLemmas.{same_after, same_result, state, state_next}

module _ (versions : List Checked) (allowance : ℕ) (costs : Costs) (sound : IsSound costs) (fit : FitTree versions costs)
    (sources : HaveTheirSources versions) (names : HaveTheirNames versions) (v : Checked) (there : Contains versions v) where
  abbrev pub left : ForestParts
  left = tree_left versions costs.rows

  abbrev pub own : List ℕ
  own = nodes_of (prefixes versions) v

  abbrev pub node : ℕ → ℕ
  node j = get_or own j 0

  abbrev pub after_cells : ℕ → MachineState
  after_cells j = state versions allowance sources v there j

  -- each is a node with a row
  pub node_least : (j : ℕ) → j < length v.cells → 1 ≤ node j
  node_least j less = (nodes_within versions v there j no_prefix less).0

  pub node_most : (j : ℕ) → j < length v.cells → node j ≤ length costs.rows
  node_most j less = let most = (nodes_within versions v there j no_prefix less).1 in omega (arith, most, fit.many)

  node_in : (j : ℕ) → j < length v.cells → node j ≤ length left.nodes
  node_in j less = within_left versions costs sound fit (node j) (node_most j less)

  -- it stands below the one before it
  pub node_up : (j : ℕ) → j < length v.cells → parent_of left (node j) ≡ get_or (0 ∷ own) j 0
  node_up j less = parent_left versions costs.rows (node j) ∙ parent_before versions v there j no_prefix less

  node_low : (j : ℕ) → j < length v.cells → parent_of left (node j) < node j
  node_low j less = low_left versions costs sound fit (node j) (node_least j less) (node_most j less)

  -- ---- depths and ways

  pub depth_along : (j : ℕ) → j ≤ length v.cells → depth_at left (get_or (0 ∷ own) j 0) ≡ j
  depth_along zero le = depth_none left
  depth_along (suc j) le =
      let step : depth_at left (node j) ≡ depth_at left (parent_of left (node j)) + 1 =
      depth_step left (node j) (node_least j (omega (arith, le))) (node_in j (omega (arith, le))) (node_low j (omega (arith, le))) in
      let up : depth_at left (parent_of left (node j)) ≡ depth_at left (get_or (0 ∷ own) j 0) = ap (depth_at left) (node_up j (omega (arith, le))) in
      let rest : depth_at left (get_or (0 ∷ own) j 0) ≡ j = depth_along j (omega (arith, le)) in
      omega (arith, step, up, rest)

  path_along : (j : ℕ) → j < length v.cells → path (parents left) (node j) ≡ node j ∷ path (parents left) (get_or (0 ∷ own) j 0)
  path_along j less =
      path_step left (node j) (node_least j less) (node_in j less) (node_low j less) ∙ ap (λ (u : ℕ). node j ∷ path (parents left) u) (node_up j less)

  pub way_along : (j : ℕ) → j ≤ length v.cells → way_to (parents left) (get_or (0 ∷ own) j 0) ≡ take j own
  way_along zero le = ap reverse (path_none (parents left))
  way_along (suc j) le =
      let less : j < length v.cells = omega (arith, le) in
      let long : length own ≡ length v.cells = length-nodes_of versions v there in
      ap reverse (path_along j less)
      ∙ (reverse-append (node j ∷ []) (path (parents left) (get_or (0 ∷ own) j 0))
      ∙ (ap (λ (ns : List ℕ). ns ++ node j ∷ []) (way_along j (omega (arith, le)))
      ∙ sym (take-suc own j 0 (omega (arith, less, long)))))

  -- ---- states and results

  own_inputs : (j : ℕ) (less : j < length v.cells) (o : HasOwner versions v j) → inputs_at left (node j) ≡ o.owner.inputs
  own_inputs j less o =
      inputs_are left (node j) o.owner.inputs (ap (λ (l : List InputMap). numbered l (node j)) (inputs_left versions costs.rows) ∙ o.inputs)

  pub state_along : (j : ℕ) → j ≤ length v.cells → state_at left allowance (get_or (0 ∷ own) j 0) ≡ after_cells j
  state_along zero le = state_none left allowance
  state_along (suc j) le =
      let less : j < length v.cells = omega (arith, le) in
      let o : HasOwner versions v j = owner_of versions v j sources names there less in
      let program : Program = visits.program_of versions in
      let before : state_at left allowance (parent_of left (node j)) ≡ after_cells j = ap (state_at left allowance) (node_up j less) ∙ state_along j (omega (arith, le)) in
      state_step left allowance (node j) (node_least j less) (node_in j less) (node_low j less)
      ∙ (ap (λ (p : Program). after p (state_at left allowance (parent_of left (node j))) (node j) (inputs_at left (node j)) allowance) (program_left versions costs.rows)
      ∙ (ap (λ (m : MachineState). after program m (node j) (inputs_at left (node j)) allowance) before
      ∙ (ap (λ (i : InputMap). after program (after_cells j) (node j) i allowance) (own_inputs j less o)
      ∙ (sym (same_after versions allowance sources v there o.owner j less o.same)
      ∙ sym (state_next versions allowance sources v there j less)))))

  pub result_along : (j : ℕ) → j < length v.cells → result_at left allowance (node j) ≡ ran_at (visits.program_of versions) (after_cells j) (node j) v.inputs allowance
  result_along j less =
      let o : HasOwner versions v j = owner_of versions v j sources names there less in
      let program : Program = visits.program_of versions in
      let before : state_at left allowance (parent_of left (node j)) ≡ after_cells j = ap (state_at left allowance) (node_up j less) ∙ state_along j (omega (arith, less)) in
      result_is left allowance (node j)
      ∙ (ap (λ (p : Program). ran_at p (state_at left allowance (parent_of left (node j))) (node j) (inputs_at left (node j)) allowance) (program_left versions costs.rows)
      ∙ (ap (λ (m : MachineState). ran_at program m (node j) (inputs_at left (node j)) allowance) before
      ∙ (ap (λ (i : InputMap). ran_at program (after_cells j) (node j) i allowance) (own_inputs j less o)
      ∙ sym (same_result versions allowance sources v there o.owner j less o.same))))
