-- A plan over sound costs can be written.
use Rattle.std.proofs.Common.{◌≡◌, ℕ, ◌+◌, ◌<◌, ◌≤◌, List, [], ◌∷◌, length, Some, refl, arith}
use Rattle.std.specs.List.{AllByRecursion}
use Rattle.std.proofs.lemmas.List.Sorted.{All-permutation}
use Rattle.std.proofs.lemmas.List.Elements.{recursion_from_All}
use Rattle.plan_type.specs.declared.plan.Plan.{Plan, every-Plan, fold_out-Plan}
use Rattle.plan_type.specs.declared.plan.Entry.{Entry}
use Rattle.plan_type.specs.declared.costs.Costs.{Costs}
use Rattle.plan_type.specs.Costs.{IsSound, Climbs, tree_of, children_of, parent_of}
use Rattle.plan_type.specs.Plan.{named, entries_of, Orders, LayerOrders, IsPlanOf, IsPlan}
use Rattle.plan_type.specs.PlanText.{IsWritable, LayerShort, deepest, layer_depth, depth_of}
use Rattle.plan_type.proofs.PlanParts.{later, induct, under_parts, every_from}
use Rattle.plan_type.proofs.Sound.{grows}

module _ (costs : Costs) (sound : IsSound costs) where
  -- the path of a plan's node and the plan below it make paths of at most 64
  Short : Plan → Type 0
  Short p = (u : ℕ) (us : List ℕ) → IsPlanOf (children_of costs) u p → Climbs costs u us → (length us + depth_of p ≤ 64) × every-Plan LayerShort p

  each_short : (u : ℕ) (us : List ℕ) → Climbs costs u us → (es : List (Entry Plan)) → AllByRecursion (λ v. parent_of costs v ≡ Some u) (named es) → AllByRecursion (λ v. v < length costs.rows + 1) (named es)
      → AllByRecursion (λ e. Orders (children_of costs) e.child (entries_of e.rest)) es → AllByRecursion (λ e. every-Plan (LayerOrders (children_of costs)) e.rest) es → AllByRecursion (λ e. Short e.rest) es
      → (length us + deepest (later depth_of es) ≤ 64) × AllByRecursion (λ e. e.child ≤ 9999) es × AllByRecursion (λ e. every-Plan LayerShort e.rest) es
  unfolding Short
  each_short u us climbs [] parents below orders under short = (let p = sound.paths u us climbs in omega (arith, p), tt, tt)
  each_short u us climbs (e ∷ es) (parent, parents) (low, below) (order, orders) (every, under) (here, short) =
      let (deep, nodes) = here e.child (u ∷ us) (record { here = order; under = every }) (parent, climbs) in
      let (more, children, rests) = each_short u us climbs es parents below orders under short in
      let few = sound.few in
      (omega (arith, deep, more), (omega (arith, low, few), children), (nodes, rests))

  short_by : (p : Plan) → AllByRecursion (λ e. Short e.rest) (entries_of p) → Short p
  unfolding Short tree_of depth_of
  short_by p short u us order climbs =
      let g = grows costs 1 sound in
      let below = recursion_from_All (λ v. v < length costs.rows + 1) (named (entries_of p)) (All-permutation (λ v. v < length costs.rows + 1) (children_of costs u) (named (entries_of p)) order.here (g.below u)) in
      let parents = recursion_from_All (λ v. parent_of costs v ≡ Some u) (named (entries_of p)) (All-permutation (λ v. parent_of costs v ≡ Some u) (children_of costs u) (named (entries_of p)) order.here (g.parents u)) in
      let (orders, under) = under_parts (children_of costs) p order.under in
      let (deep, nodes, rests) = each_short u us climbs (entries_of p) parents below orders under short in
      let parts = fold_out-Plan ℕ layer_depth p in
      (omega (arith, deep, parts), every_from LayerShort p nodes rests)

  pub writable : (p : Plan) → IsPlan costs p → IsWritable p
  unfolding Short
  writable p plan = let (deep, nodes) = induct Short short_by p 0 [] plan.orders refl in record { nodes = nodes; depth = omega (arith, deep) }
