-- A plan's operations name reached nodes, and store none whose cell did not run to its end.
use Rattle.std.proofs.Common.{◌≡◌, ℕ, zero, suc, ◌+◌, ◌<◌, ◌≤◌, ◌⊎◌, inl, inr, List, [], ◌∷◌, ◌++◌, map, Bool, true, false, cond, ◌&&◌, length, Option, Some, None, refl, sym, ap, ◌∙◌, subst, arith, eq-zero-or-pos}
use Rattle.std.specs.Prelude.{if◌then◌else◌, ◌==◌}
use Rattle.std.specs.List.{AllByRecursion, filter, range_with_len}
use Rattle.std.proofs.lemmas.Bool.{false≢true}
use Rattle.std.proofs.lemmas.Bool.Decides.{Decides-eqb}
use Rattle.std.proofs.lemmas.List.Sorted.{All-permutation}
use Rattle.std.proofs.lemmas.List.Elements.{All-from_recursion, recursion_from_All}
use Rattle.plan_type.specs.declared.costs.Costs.{Costs}
use Rattle.plan_type.specs.declared.row.Row.{Row}
use Rattle.plan_type.specs.declared.plan.Plan.{Plan, every-Plan}
use Rattle.plan_type.specs.declared.plan.Entry.{Entry}
use Rattle.plan_type.specs.declared.operations.Operation.{Operation}
use Rattle.plan_type.specs.declared.operations.Operation.TheVariants.{Reset, Compute, Checkpoint, Restore, Evict}
use Rattle.plan_type.specs.Costs.{IsReached, IsSound, Tree, children_of, is_child_in, is_reached, is_reached_in, parent_in, parent_of, row_of, tree_of}
use Rattle.plan_type.specs.Plan.{HoldsNone, IsPlan, IsPlanOf, LayerOrders, Orders, entries_of, is_none, named}
use Rattle.plan_type.specs.Operations.{Ops, before, listed_ops, operations_of, ops_at, way_back}
use Rattle.plan_type.specs.declared.budget.Budget.{Budget}
use Rattle.plan_type.proofs.PlanParts.{induct, ops_parts, rest_ops, under_parts}
use Rattle.plan_type.proofs.Sound.{child_parent}
use Rattle.replayer.specs.Trees.{IsDone}
use Rattle.replayer.specs.Machines.{IsFine}
use Rattle.replayer.proofs.TreeLemmas.{done_above, done_reached, some_number}

-- ---- lists

all_append : {X : Type 0} (P : X → Type 0) (xs ys : List X) → AllByRecursion P xs → AllByRecursion P ys → AllByRecursion P (xs ++ ys)
all_append P [] ys a b = b
all_append P (x ∷ xs) ys a b = (a.0, all_append P xs ys a.1 b)

-- ---- children

child_reached : (u : ℕ) (o : Option Row) → is_child_in u o ≡ true → is_reached_in o ≡ true
child_reached u None h = absurd (false≢true h)
child_reached u (Some row) h = by (row.parent == u) h
  where
    by : (b : Bool) → (b && is_reached row.end) ≡ true → is_reached row.end ≡ true
    by true h = h
    by false h = absurd (false≢true h)

module _ (costs : Costs) (sound : IsSound costs) where
  -- a child is reached, and its parent ran to its end
  IsGood : ℕ → ℕ → Type 0
  IsGood u v = IsReached costs v × (0 < u → IsDone costs u)

  kept : (u : ℕ) (xs : List ℕ) → AllByRecursion (IsGood u) (filter (λ v. is_child_in u (row_of costs v)) xs)
  unfolding IsGood
  kept u [] = tt
  kept u (x ∷ xs) = by (is_child_in u (row_of costs x)) refl (kept u xs)
    where
      by : (b : Bool) → is_child_in u (row_of costs x) ≡ b → AllByRecursion (IsGood u) (filter (λ v. is_child_in u (row_of costs v)) xs)
          → AllByRecursion (IsGood u) (cond b (x ∷ filter (λ v. is_child_in u (row_of costs v)) xs) (filter (λ v. is_child_in u (row_of costs v)) xs))
      by true is rest =
          let reached : IsReached costs x = child_reached u (row_of costs x) is in
          ((reached, λ some. done_above costs sound u x reached (child_parent u (row_of costs x) is) some), rest)
      by false is rest = rest

  good_children : (u : ℕ) → AllByRecursion (IsGood u) (children_of costs u)
  good_children u = kept u (range_with_len 1 (length costs.rows))

  -- ---- pieces

  abbrev AllFine : Ops → Type 0
  AllFine = AllByRecursion (IsFine costs)

  abbrev IsAnchor : ℕ → Type 0
  IsAnchor anchor = (anchor ≡ 0) ⊎ IsReached costs anchor

  changes : (u b : ℕ) (held hold : Bool) → (hold ≡ true → IsDone costs u) → AllFine (before u b held hold)
  changes u b true true done = tt
  changes u b false true done = (done refl, tt)
  changes u b true false done = (tt, tt)
  changes u b false false done = tt

  computed : (steps : ℕ → ℕ) (way : List ℕ) → AllByRecursion (IsReached costs) way → AllFine (map (λ v. Compute v (steps v)) way)
  computed steps [] reached = tt
  computed steps (v ∷ way) reached = (reached.0, computed steps way reached.1)

  from_anchor : (anchor : ℕ) (b : Bool) → (anchor == 0) ≡ b → IsAnchor anchor → IsFine costs (if b then Reset else Restore anchor)
  from_anchor anchor true is at = tt
  from_anchor anchor false is (inl none) = absurd (false≢true (sym is ∙ (Decides-eqb anchor 0).1 none))
  from_anchor anchor false is (inr reached) = reached

  returns : (steps : ℕ → ℕ) (u anchor : ℕ) (way : List ℕ) (hold : Bool) → (hold ≡ true → IsDone costs u) → IsAnchor anchor → AllByRecursion (IsReached costs) way → AllFine (way_back steps u anchor way hold)
  returns steps u anchor way true done at reached = (done_reached costs u (done refl), tt)
  returns steps u anchor way false done at reached = (from_anchor anchor (anchor == 0) refl at, computed steps way reached)

  if_more : (b : Bool) (os : Ops) → AllFine os → AllFine (if b then [] else os)
  if_more true os fine = tt
  if_more false os fine = fine

  -- ---- plans

  Fine : Plan → Type 0
  Fine p = (block u anchor : ℕ) (way : List ℕ) → IsPlanOf (children_of costs) u p → (u ≡ 0 → HoldsNone (entries_of p)) → IsAnchor anchor → AllByRecursion (IsReached costs) way
      → AllFine (ops_at (tree_of costs block) p u anchor way)

  under : (block u anchor : ℕ) (way : List ℕ) (v : ℕ) (rest : Plan) (hold : Bool) → Fine rest → IsPlanOf (children_of costs) v rest → IsReached costs v → 0 < v → (hold ≡ true → IsDone costs u)
      → IsAnchor anchor → AllByRecursion (IsReached costs) way
      → AllFine (if hold then ops_at (tree_of costs block) rest v u (v ∷ []) else ops_at (tree_of costs block) rest v anchor (way ++ v ∷ []))
  unfolding Fine
  under block u anchor way v rest true fine order reached some done at all =
      fine block v u (v ∷ []) order (λ z. absurd (omega (arith, z, some))) (inr (done_reached costs u (done refl))) (reached, tt)
  under block u anchor way v rest false fine order reached some done at all =
      fine block v anchor (way ++ v ∷ []) order (λ z. absurd (omega (arith, z, some))) at (all_append (IsReached costs) way (v ∷ []) all (reached, tt))

  fine_list : (block u anchor : ℕ) (way : List ℕ) → IsAnchor anchor → AllByRecursion (IsReached costs) way → (held : Bool) (es : List (Entry Plan))
      → AllByRecursion (IsGood u) (named es) → AllByRecursion (λ e. e.hold ≡ true → 0 < u) es
      → AllByRecursion (λ e. Orders (children_of costs) e.child (entries_of e.rest)) es → AllByRecursion (λ e. every-Plan (LayerOrders (children_of costs)) e.rest) es → AllByRecursion (λ e. Fine e.rest) es
      → AllFine (listed_ops (rest_ops (tree_of costs block) u anchor way) (before u ((tree_of costs block).blocks u)) (way_back (tree_of costs block).steps u anchor way) held es)
  unfolding IsGood rest_ops
  fine_list block u anchor way at all held [] good some orders unders fine = changes u ((tree_of costs block).blocks u) held false (λ never. absurd (false≢true never))
  fine_list block u anchor way at all held (e ∷ es) good some orders unders fine =
      let tree = tree_of costs block in
      let done : e.hold ≡ true → IsDone costs u = λ on. good.0.1 (some.0 on) in
      let back = way_back tree.steps u anchor way e.hold in
      let more = listed_ops (rest_ops tree u anchor way) (before u (tree.blocks u)) (way_back tree.steps u anchor way) e.hold es in
      let last : AllFine ((if is_none es then [] else back) ++ more) =
      all_append (IsFine costs) (if is_none es then [] else back) more (if_more (is_none es) back (returns tree.steps u anchor way e.hold done at all))
      (fine_list block u anchor way at all e.hold es good.1 some.1 orders.1 unders.1 fine.1) in
      let own : AllFine (rest_ops tree u anchor way e) =
      (good.0.0, under block u anchor way e.child e.rest e.hold fine.0 (record { here = orders.0; under = unders.0 }) good.0.0 (some_number costs e.child good.0.0) done at all) in
      all_append (IsFine costs) (before u (tree.blocks u) held e.hold) (rest_ops tree u anchor way e ++ ((if is_none es then [] else back) ++ more))
      (changes u (tree.blocks u) held e.hold done)
      (all_append (IsFine costs) (rest_ops tree u anchor way e) ((if is_none es then [] else back) ++ more) own last)

  some_above : (u : ℕ) (es : List (Entry Plan)) → (u ≡ 0 → HoldsNone es) → AllByRecursion (λ e. e.hold ≡ true → 0 < u) es
  some_above u [] none = tt
  some_above u (e ∷ es) none = (by (eq-zero-or-pos u), some_above u es (λ z. (none z).1))
    where
      by : (u ≡ 0) ⊎ (0 < u) → e.hold ≡ true → 0 < u
      by (inl z) on = absurd (false≢true (sym (none z).0 ∙ on))
      by (inr lt) on = lt

  fine_by : (p : Plan) → AllByRecursion (λ e. Fine e.rest) (entries_of p) → Fine p
  unfolding Fine
  fine_by p fine block u anchor way order none at all =
      let good = recursion_from_All (IsGood u) (named (entries_of p)) (All-permutation (IsGood u) (children_of costs u) (named (entries_of p)) order.here (All-from_recursion (IsGood u) (children_of costs u) (good_children u))) in
      let (orders, unders) = under_parts (children_of costs) p order.under in
      rw (ops_parts (tree_of costs block) p u anchor way)
      (fine_list block u anchor way at all false (entries_of p) good (some_above u (entries_of p) none) orders unders fine)

  -- each operation of a plan
  pub all_fine : (budget : Budget) (p : Plan) → IsPlan costs p → AllByRecursion (IsFine costs) (operations_of costs budget p)
  unfolding Fine
  all_fine budget p plan = (tt, induct Fine fine_by p budget.block 0 0 [] plan.orders (λ z. plan.holds_none) (inl refl) tt)
