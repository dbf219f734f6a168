-- A plan that is built at number 0 is a least one.
use Rattle.std.proofs.Common.{◌≡◌, ◌∙◌, ℕ, zero, suc, ◌+◌, ◌-◌, ◌*◌, ◌≤◌, List, [], ◌∷◌, length, refl, ap, subst, arith}
use Rattle.std.specs.List.{AllByRecursion, slice_get}
use Rattle.plan_type.specs.declared.budget.Budget.{Budget}
use Rattle.plan_type.specs.declared.costs.Costs.{Costs}
use Rattle.plan_type.specs.declared.plan.Plan.{Plan}
use Rattle.plan_type.specs.Costs.{Tree, IsSound, tree_of}
use Rattle.plan_type.specs.Prices.{Prices, prices_of, cost_at, cost, IsLeast}
use Rattle.plan_type.specs.Plan.{Serves}
use Rattle.plan_type.specs.Choices.{Claims, Falls}
use Rattle.plan_type.proofs.Sound.{grows}
use Rattle.plan_type.proofs.Lower.{lower}
use Rattle.plan_optimum.specs.declared.planner.Planner.{Planner}
use Rattle.plan_optimum.specs.declared.standing.Standing.{Standing}
use Rattle.plan_optimum.specs.Bounds.{bound}
use Rattle.plan_optimum.specs.Sites.{no_way, way_in}
use Rattle.plan_optimum.specs.Entries.{value_of, standing_way, IsReady, IsStanding}
use Rattle.plan_optimum.specs.Built.{IsBuilt}

-- the bounds to all depths are claims that follow from one another
abbrev Bounds : Tree → Prices → ℕ → Claims
Bounds tree prices most u back again used n = (depth : ℕ) × (n ≡ bound tree prices most depth u back again used)

all_true : (P : ℕ → Type 0) → ((v : ℕ) → P v) → (vs : List ℕ) → AllByRecursion P vs
all_true P h [] = tt
all_true P h (v ∷ vs) = (h v, all_true P h vs)

bounds_fall : (tree : Tree) (prices : Prices) (most : ℕ) → Falls tree prices most (Bounds tree prices most)
unfolding bound
bounds_fall tree prices most u back again used n (zero, is) = record {
  free = λ v. 0;
  held = λ v. 0;
  frees = all_true _ (λ v. (0, refl)) (tree.children u);
  helds = λ can. all_true _ (λ v. (0, refl)) (tree.children u);
  low = omega (arith, is);
}
bounds_fall tree prices most u back again used n (suc depth, is) = record {
  free = λ v. bound tree prices most depth v (back + tree.steps v) again used;
  held = λ v. bound tree prices most depth v (tree.steps v) (prices.load * tree.blocks u) (used + tree.blocks u);
  frees = all_true _ (λ v. (depth, refl)) (tree.children u);
  helds = λ can. all_true _ (λ v. (depth, refl)) (tree.children u);
  low = omega (arith, is);
}

root_way : (costs : Costs) (from : ℕ) (p : Planner) → IsReady costs from p → (s : Standing) → s ≡ record { node = 0; level = 0; used = 0 } → standing_way p s ≡ no_way
root_way costs from p ready s is =
    ap (standing_way p) is ∙ ap (λ l. way_in (slice_get l 0)) ((ready.sites.each 0 (omega arith)).root refl)

pub root_stands : (costs : Costs) (from : ℕ) (p : Planner) → IsReady costs from p → IsStanding costs p (record { node = 0; level = 0; used = 0 })
root_stands costs from p ready = record {
  node = omega arith;
  level = let e = ap length ((ready.sites.each 0 (omega arith)).root refl) in omega (arith, e);
  used = omega arith;
}

least_any : (costs : Costs) (budget : Budget) (q : Plan) → IsSound costs → Serves costs budget q → value_of costs budget 0 no_way 0 ≤ cost costs budget q
unfolding value_of tree_of
least_any costs budget q sound serves =
    lower (tree_of costs budget.block) (prices_of budget) budget.most (length costs.rows + 1) (grows costs budget.block sound) (Bounds (tree_of costs budget.block) (prices_of budget) budget.most) (bounds_fall (tree_of costs budget.block) (prices_of budget) budget.most)
    q 0 0 0 0 (value_of costs budget 0 no_way 0) (length costs.rows - 0, refl) serves.plan.orders serves.fits (λ _. serves.plan.holds_none)

pub least_from : (costs : Costs) (budget : Budget) (from : ℕ) (p : Planner) (plan : Plan) → IsSound costs → p.budget ≡ budget → IsReady costs from p → IsBuilt costs p (record { node = 0; level = 0; used = 0 }) plan → IsLeast costs budget plan
least_from costs budget from p plan sound same ready made = subst (λ b. IsLeast costs b plan) same here
  where
    here : IsLeast costs p.budget plan
    here =
        let way = root_way costs from p ready (record { node = 0; level = 0; used = 0 }) refl in
        let cost = ap (λ w. cost_at (tree_of costs p.budget.block) (prices_of p.budget) plan 0 w.back w.again) way in
        let value = ap (λ w. value_of costs p.budget 0 w 0) way in
        let is = made.cost in
        record {
          serves = record { plan = record { orders = made.orders; holds_none = made.root refl }; fits = made.fits };
          least = λ q serves.
              let low = least_any costs p.budget q sound serves in omega (arith, low, cost, value, is);
        }
