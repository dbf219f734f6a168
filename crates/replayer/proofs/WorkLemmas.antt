-- The work of a plan is the sum of its operations' steps, and it fits.
use Rattle.std.proofs.Common.{◌≡◌, ◌∙◌, ℕ, zero, suc, ◌+◌, ◌*◌, ◌^◌, ◌<◌, ◌≤◌, List, [], ◌∷◌, length, Bool, true, false, refl, sym, ap, arith}
use Rattle.std.specs.Prelude.{if◌then◌else◌, sum_by}
use Rattle.std.specs.List.{AllByRecursion}
use Rattle.std.proofs.lemmas.List.Sums.{sum_by-cons}
use Rattle.std.proofs.lemmas.List.Sorted.{All-permutation, sum_by-IsPermutation}
use Rattle.std.proofs.lemmas.List.Elements.{recursion_from_All}
use Rattle.plan_type.specs.declared.budget.Budget.{Budget}
use Rattle.plan_type.specs.declared.costs.Costs.{Costs}
use Rattle.plan_type.specs.declared.plan.Plan.{Plan, every-Plan}
use Rattle.plan_type.specs.declared.plan.Entry.{Entry}
use Rattle.plan_type.specs.declared.operations.Operation.{Operation}
use Rattle.plan_type.specs.declared.operations.Operation.TheVariants.{Reset, Compute, Checkpoint, Restore, Evict}
use Rattle.plan_type.specs.Costs.{IsSound, Tree, tree_of, children_of, steps_of}
use Rattle.plan_type.specs.Plan.{named, entries_of, is_none, Orders, LayerOrders, IsPlan, IsPlanOf, listed_work, work, work_at}
use Rattle.plan_type.specs.Prices.{Prices, prices_of}
use Rattle.plan_type.specs.Operations.{CarriesOut, Machine, Ops, after, after_all, start}
use Rattle.plan_type.proofs.PlanParts.{induct, under_parts}
use Rattle.plan_type.proofs.Works.{rest_work, work_parts}
use Rattle.plan_type.proofs.WorkFits.{sum_times}
use Rattle.plan_type.proofs.Sound.{grows, steps_small}
use Rattle.plan_type.proofs.Sizes.{size, size_fits}
use Rattle.replayer.specs.Machines.{steps_in, steps_in_all}

-- ---- the sum

one_after : (tree : Tree) (prices : Prices) (o : Operation) (m : Machine) → (after tree prices o m).work ≡ m.work + steps_in o
one_after tree prices Reset m = omega arith
one_after tree prices (Compute v n) m = refl
one_after tree prices (Checkpoint v b) m = omega arith
one_after tree prices (Restore v) m = omega arith
one_after tree prices (Evict v) m = omega arith

all_after : (tree : Tree) (prices : Prices) (os : Ops) (m : Machine) → (after_all tree prices os m).work ≡ m.work + steps_in_all os
all_after tree prices [] m = omega arith
all_after tree prices (o ∷ os) m = let a = one_after tree prices o m in let i = all_after tree prices os (after tree prices o m) in omega (arith, a, i)

pub work_is : (costs : Costs) (budget : Budget) (p : Plan) (os : Ops) → CarriesOut costs budget p os → steps_in_all os ≡ work costs p
work_is costs budget p os c = let a = all_after (tree_of costs budget.block) (prices_of budget) os start in let w = c.work in omega (arith, a, w)

-- ---- its bound

one_return : (back x : ℕ) (hold none : Bool) → x + (if hold then 0 else if none then 0 else back) ≤ x + back
one_return back x true none = omega arith
one_return back x false true = omega arith
one_return back x false false = omega arith

module _ (costs : Costs) (sound : IsSound costs) where
  Fits : Plan → Type 0
  Fits p = (depth u back : ℕ) → length costs.rows ≤ u + depth → back ≤ u * 1000000 → IsPlanOf (children_of costs) u p
      → work_at (steps_of costs) p back ≤ size costs sound depth u * 513000000

  list_fits : (depth u back : ℕ) → length costs.rows ≤ u + suc depth → back ≤ u * 1000000 → (es : List (Entry Plan))
      → AllByRecursion (λ v. u < v) (named es) → AllByRecursion (λ v. v < length costs.rows + 1) (named es)
      → AllByRecursion (λ e. Orders (children_of costs) e.child (entries_of e.rest)) es → AllByRecursion (λ e. every-Plan (LayerOrders (children_of costs)) e.rest) es
      → AllByRecursion (λ e. Fits e.rest) es
      → listed_work (rest_work (steps_of costs) back) back es ≤ sum_by (λ v. (1 + size costs sound depth v) * 513000000) (named es)
  unfolding Fits
  list_fits depth u back deep low [] above below orders under fits = omega arith
  list_fits depth u back deep low (e ∷ es) (a, above) (b, below) (o, orders) (n, under) (f, fits) =
      let few = sound.few in let s = steps_small costs sound e.child in
      let i = list_fits depth u back deep low es above below orders under fits in
      let r = one_return back (rest_work (steps_of costs) back e) e.hold (is_none es) in
      let h = f depth e.child (if e.hold then steps_of costs e.child else back + steps_of costs e.child) (omega arith) (by e.hold s) (record { here = o; under = n }) in
      let c = sum_by-cons (λ v. (1 + size costs sound depth v) * 513000000) e.child (named es) in
      omega (arith, few, s, i, r, h, c)
    where
      by : (hold : Bool) → steps_of costs e.child ≤ 1000000 → (if hold then steps_of costs e.child else back + steps_of costs e.child) ≤ e.child * 1000000
      by true s = omega (arith, s)
      by false s = omega (arith, s)

  fits_by : (p : Plan) → AllByRecursion (λ e. Fits e.rest) (entries_of p) → Fits p
  unfolding Fits size tree_of
  fits_by p fits depth u back deep low order =
      let g = grows costs 1 sound in
      let above = recursion_from_All (λ v. u < v) (named (entries_of p)) (All-permutation (λ v. u < v) (children_of costs u) (named (entries_of p)) order.here (g.above u)) in
      let below = recursion_from_All (λ v. v < length costs.rows + 1) (named (entries_of p)) (All-permutation (λ v. v < length costs.rows + 1) (children_of costs u) (named (entries_of p)) order.here (g.below u)) in
      let (orders, under) = under_parts (children_of costs) p order.under in
      let parts = work_parts (steps_of costs) p back in
      at depth (entries_of p) above below parts deep
      (λ d deeper. let l = list_fits d u back deeper low (entries_of p) above below orders under fits in
      let s = sum_by-IsPermutation (λ v. (1 + size costs sound d v) * 513000000) (children_of costs u) (named (entries_of p)) order.here in
      let t = sum_times (λ v. 1 + size costs sound d v) (children_of costs u) in omega (arith, l, s, t))
    where
      at : (depth : ℕ) (es : List (Entry Plan)) → AllByRecursion (λ v. u < v) (named es) → AllByRecursion (λ v. v < length costs.rows + 1) (named es)
          → work_at (steps_of costs) p back ≡ listed_work (rest_work (steps_of costs) back) back es → length costs.rows ≤ u + depth
          → ((d : ℕ) → length costs.rows ≤ u + suc d → listed_work (rest_work (steps_of costs) back) back (entries_of p) ≤ size costs sound (suc d) u * 513000000)
          → work_at (steps_of costs) p back ≤ size costs sound depth u * 513000000
      at zero [] above below parts deep next = omega (arith, parts)
      at zero (e ∷ es) (a, above) (b, below) parts deep next = absurd (omega arith)
      at (suc d) es above below parts deep next = let n = next d deep in let w = work_parts (steps_of costs) p back in omega (arith, n, w)

  pub work_fits : (p : Plan) → IsPlan costs p → work costs p ≤ 2 ^ 40
  unfolding Fits
  work_fits p plan =
      let f = induct Fits fits_by p (length costs.rows) 0 0 (omega arith) (omega arith) plan.orders in
      let s = size_fits costs sound (length costs.rows) 0 (omega arith) in let few = sound.few in omega (arith, f, s, few)
