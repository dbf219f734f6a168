-- Reached nodes and those above them.
use Rattle.std.proofs.Common.{◌≡◌, ℕ, zero, suc, ◌+◌, ◌-◌, ◌<◌, ◌≤◌, ◌⊎◌, inl, inr, Bool, true, false, List, [], ◌∷◌, length, get_or, map, Option, Some, None, refl, sym, ap, ◌∙◌, subst, arith, eq-zero-or-pos}
use Rattle.std.specs.Prelude.{IsSome, is_some}
use Rattle.std.specs.List.{slice_get}
use Rattle.std.proofs.lemmas.Bool.{false≢true}
use Rattle.std.proofs.lemmas.Option.{slice_get_within, slice_get_cases}
use Rattle.star_syntax.specs.Cells.{numbered}
use Rattle.exec_tree.specs.Forests.{ForestParts, IsNode, cells_of, inputs_of, is_removed}
use Rattle.exec_tree.specs.Forests as tree
use Rattle.exec_tree.specs.Keys.{InputMap}
use Rattle.exec_tree.specs.declared.node.Node.{Node}
use Rattle.plan_type.specs.declared.costs.Costs.{Costs}
use Rattle.plan_type.specs.declared.row.Row.{Row}
use Rattle.plan_type.specs.declared.row.Reach.{Reach}
use Rattle.plan_type.specs.declared.row.Reach.TheVariants.{Done, Failed, Unreached}
use Rattle.plan_type.specs.Costs.{Climbs, IsReached, IsSound, is_dead_end, is_reached, is_reached_in, is_unreached, parent_in, parent_of, row_of}
use Rattle.plan_type.proofs.Sound.{parent_below}
use Rattle.replayer.specs.Nodes.{depth_at, inputs_at, inputs_or_none, program_of}
use Rattle.replayer.specs.Trees.{IsDone, IsTreeOf}
use Rattle.replayer.proofs.PathLemmas.{depth_none, depth_step}
use Rattle.replayer.proofs.RowLemmas.{row_there}

-- ---- rows

pub row_within : (costs : Costs) (v : ℕ) (row : Row) → row_of costs v ≡ Some row → v ≤ length costs.rows
row_within costs zero row is = absurd (cc)
row_within costs (suc i) row is = let w = slice_get_within costs.rows i row is in omega (arith, w)

-- number 0 is not reached
pub some_number : (costs : Costs) (v : ℕ) → IsReached costs v → 0 < v
some_number costs zero reached = absurd (false≢true reached)
some_number costs (suc i) reached = omega arith

row_below : (costs : Costs) (u : ℕ) → 0 < u → u ≤ length costs.rows → (row : Row) × (row_of costs u ≡ Some row)
row_below costs zero some le = absurd (omega arith)
row_below costs (suc i) some le = by (slice_get_cases costs.rows i).1
  where
    by : ((x : Row) × (i < length costs.rows) × (slice_get costs.rows i ≡ Some x) × (get_or costs.rows i x ≡ x)) ⊎ ((length costs.rows ≤ i) × (slice_get costs.rows i ≡ None)) → (row : Row) × (slice_get costs.rows i ≡ Some row)
    by (inl h) = (h.0, h.2)
    by (inr h) = let past = h.0 in absurd (omega arith)

reached_end : (end : Reach) → is_reached end ≡ true → is_unreached end ≡ false
reached_end Done h = refl
reached_end Failed h = refl
reached_end Unreached h = absurd (false≢true h)

done_row : (row : Row) → is_dead_end (Some row) ≡ false → row.end ≡ Done
done_row row h = by row.end refl
  where
    by : (end : Reach) → row.end ≡ end → row.end ≡ Done
    by Done is = is
    by Failed is = absurd (let e = ap (λ x. is_dead_end (Some (record row { end = x }))) is in cc)
    by Unreached is = absurd (let e = ap (λ x. is_dead_end (Some (record row { end = x }))) is in cc)

-- a node above a reached one ran to its end
pub done_above : (costs : Costs) → IsSound costs → (u v : ℕ) → IsReached costs v → parent_of costs v ≡ Some u → 0 < u → IsDone costs u
done_above costs sound u v reached is some =
    let (row, at) = row_there costs v reached in
    let s = sound.rows v row at in
    let up : row.parent ≡ u = same (sym (ap parent_in at) ∙ is) in
    let runs : is_reached row.end ≡ true = sym (ap is_reached_in at) ∙ reached in
    let clear : is_dead_end (row_of costs u) ≡ false = ap (λ x. is_dead_end (row_of costs x)) (sym up) ∙ (sym s.unreached ∙ reached_end row.end runs) in
    let low = s.parent in
    let within = row_within costs v row at in
    let (above, there) = row_below costs u some (omega (arith, up, low, within)) in
    (above, there, done_row above (sym (ap is_dead_end there) ∙ clear))
  where
    same : {a b : ℕ} → Some a ≡ Some b → a ≡ b
    same is = cc

pub done_reached : (costs : Costs) (u : ℕ) → IsDone costs u → IsReached costs u
done_reached costs u (row, at, done) = ap is_reached_in at ∙ ap is_reached done

-- ---- in the forest

module _ (costs : Costs) (forest : ForestParts) (sound : IsSound costs) (is_tree : IsTreeOf costs forest) where
  pub node_of : (v : ℕ) → IsReached costs v → IsNode forest v
  node_of v reached = ((is_tree.nodes v).0 reached).0

  pub low_of : (v : ℕ) → IsReached costs v → tree.parent_of forest v < v
  low_of v reached = parent_below costs sound (tree.parent_of forest v) v (is_tree.parents v reached)

  pub depth_of : (v : ℕ) → IsReached costs v → depth_at forest v ≡ depth_at forest (tree.parent_of forest v) + 1
  depth_of v reached = let n = node_of v reached in depth_step forest v n.0 n.1 (low_of v reached)

  -- a way up to 0 of as many nodes as stand on the path
  record HasWay (v : ℕ) : Type 0 where
    way : List ℕ
    climbs : Climbs costs v way
    many : length way ≡ depth_at forest v

  way_from : (v : ℕ) → IsReached costs v → HasWay (tree.parent_of forest v) → HasWay v
  way_from v reached above =
      let d = depth_of v reached in let m = above.many in
      record { way = tree.parent_of forest v ∷ above.way; climbs = (is_tree.parents v reached, above.climbs); many = omega (arith, d, m) }

  way_of : (fuel v : ℕ) → v ≤ fuel → (v ≡ 0) ⊎ IsReached costs v → HasWay v
  way_of fuel v le (inl none) = subst HasWay (sym none) (record { way = []; climbs = refl; many = sym (depth_none forest) })
  way_of zero v le (inr reached) = let n = node_of v reached in absurd (omega (arith, n, le))
  way_of (suc fuel) v le (inr reached) =
      let u = tree.parent_of forest v in
      let low = low_of v reached in
      way_from v reached (way_of fuel u (omega (arith, low, le)) (by u (is_tree.parents v reached) (eq-zero-or-pos u)))
    where
      by : (u : ℕ) → parent_of costs v ≡ Some u → (u ≡ 0) ⊎ (0 < u) → (u ≡ 0) ⊎ IsReached costs u
      by u is (inl none) = inl none
      by u is (inr some) = inr (done_reached costs u (done_above costs sound u v reached is some))

  -- so no reached node stands deeper than 64
  pub few_above : (v : ℕ) → IsReached costs v → depth_at forest v ≤ 64
  few_above v reached =
      let w = way_of v v (omega arith) (inr reached) in
      let m = w.many in let s = sound.paths v w.way w.climbs in omega (arith, m, s)

-- ---- what belongs to nodes

there : {X : Type 0} (f : Node → X) (nodes : List Node) (v : ℕ) → 1 ≤ v → v ≤ length nodes → is_some (numbered (map f nodes) v) ≡ true
there f nodes zero least most = absurd (omega arith)
there f [] (suc i) least most = absurd (omega arith)
there f (node ∷ nodes) (suc zero) least most = refl
there f (node ∷ nodes) (suc (suc i)) least most = there f nodes (suc i) (omega arith) (omega arith)

pub cell_there : (forest : ForestParts) (v : ℕ) → IsNode forest v → IsSome (numbered (program_of forest).cells v)
cell_there forest v node = there (λ (node : Node). node.cell) forest.nodes v node.0 node.1

pub inputs_are : (forest : ForestParts) (v : ℕ) (inputs : InputMap) → numbered (inputs_of forest) v ≡ Some inputs → inputs_at forest v ≡ inputs
inputs_are forest v inputs is = ap inputs_or_none is

-- the place of a node's text
pub place_there : (costs : Costs) (v many : ℕ) → IsReached costs v → many ≡ length costs.rows → (1 ≤ v) × (v - 1 < many)
place_there costs v many reached is =
    let (row, at) = row_there costs v reached in
    let within = row_within costs v row at in
    let some = some_number costs v reached in
    (omega arith, omega (arith, within, some, is))

pub few_nodes : (costs : Costs) (v : ℕ) → IsSound costs → IsReached costs v → v ≤ 512
few_nodes costs v sound reached =
    let (row, at) = row_there costs v reached in
    let within = row_within costs v row at in
    let few = sound.few in
    omega (arith, within, few)
