-- A plan's operations compute every reached node; and what is proved of the whole list.
use Rattle.std.proofs.Common.{◌≡◌, ◌∙◌, ℕ, ◌≤◌, List, [], ◌∷◌, ◌++◌, Bool, true, false, ◌||◌, length, ◌+◌, refl, ap, arith, inl}
use Rattle.std.specs.Prelude.{if◌then◌else◌, ◌==◌}
use Rattle.std.specs.List.{AllByRecursion}
use Rattle.std.proofs.lemmas.List.Sorted.{All-permutation, IsPermutation-sym}
use Rattle.std.proofs.lemmas.List.Elements.{All-from_recursion, All-contains}
use Rattle.std.proofs.lemmas.Bool.Decides.{nat_tests}
use Rattle.plan_type.specs.declared.plan.Plan.{Plan, every-Plan}
use Rattle.plan_type.specs.declared.plan.Entry.{Entry}
use Rattle.plan_type.specs.declared.operations.Operation.{Operation}
use Rattle.plan_type.specs.declared.operations.Operation.TheVariants.{Reset, Compute, Checkpoint, Restore, Evict}
use Rattle.plan_type.specs.declared.budget.Budget.{Budget}
use Rattle.plan_type.specs.declared.costs.Costs.{Costs}
use Rattle.plan_type.specs.Costs.{Tree, tree_of, IsSound}
use Rattle.plan_type.specs.Plan.{named, entries_of, is_none, Orders, LayerOrders, IsPlanOf, IsPlan, HoldsNone, peak, peak_at}
use Rattle.plan_type.specs.Prices.{Prices, no_prices, prices_of, cost_at}
use Rattle.plan_type.specs.Operations.{Ops, before, listed_ops, ops_at, way_back, operations_of, Machine, start, after, after_all, LegalAll, computes, computes_one, CarriesOut}
use Rattle.plan_type.proofs.Sound.{Grows, grows}
use Rattle.plan_type.proofs.Led.{Leads, led}
use Rattle.plan_type.proofs.Works.{plain}
use Rattle.plan_type.proofs.PlanParts.{rest_ops, ops_parts, induct, under_parts}
use Rattle.plan_type.proofs.Runs.{Stands, plays, Played}

-- what the operations of a plan do on the machine at these prices
pub record Carries (tree : Tree) (prices : Prices) (most : ℕ) (p : Plan) (os : Ops) : Type 0 where
  pub legal : LegalAll tree prices most os start
  pub stored : (after_all tree prices os start).stored ≡ []
  pub paid : (after_all tree prices os start).paid ≡ cost_at tree prices p 0 0 0
  pub greatest : (after_all tree prices os start).greatest ≡ peak_at tree.blocks p 0 0
  pub reached : (w : ℕ) (ws : List ℕ) (v : ℕ) → Leads tree.children 0 (w ∷ ws) v → computes os v ≡ true

or_right : (a b : Bool) → b ≡ true → (a || b) ≡ true
or_right true b h = refl
or_right false b h = h

or_more : (a b c : Bool) → (b ≡ true → c ≡ true) → (a || b) ≡ true → (a || c) ≡ true
or_more true b c f h = refl
or_more false b c f h = f h

computes_left : (os bs : Ops) (v : ℕ) → computes os v ≡ true → computes (os ++ bs) v ≡ true
computes_left [] bs v h = absurd (cc)
computes_left (o ∷ os) bs v h = or_more (computes_one o v) (computes os v) (computes (os ++ bs) v) (computes_left os bs v) h

computes_right : (os bs : Ops) (v : ℕ) → computes bs v ≡ true → computes (os ++ bs) v ≡ true
computes_right [] bs v h = h
computes_right (o ∷ os) bs v h = or_right (computes_one o v) (computes (os ++ bs) v) (computes_right os bs v h)

module _ (tree : Tree) where
  Reaches : Plan → Type 0
  Reaches p = (u anchor : ℕ) (way : List ℕ) (w : ℕ) (ws : List ℕ) (v : ℕ) → IsPlanOf tree.children u p → Leads tree.children u (w ∷ ws) v → computes (ops_at tree p u anchor way) v ≡ true

  -- what is reached from a child is computed by its entry
  by_entry : (u anchor : ℕ) (way : List ℕ) (e : Entry Plan) → IsPlanOf tree.children e.child e.rest → Reaches e.rest → (ws : List ℕ) (v : ℕ) → Leads tree.children e.child ws v → computes (rest_ops tree u anchor way e) v ≡ true
  unfolding Reaches rest_ops
  by_entry u anchor way e order reach [] v is = let h : (e.child == v) ≡ true = grind (arith, nat_tests) in rw h refl
  by_entry u anchor way e order reach (w ∷ ws) v leads = or_right (e.child == v) _ (by e.hold)
    where
      by : (hold : Bool) → computes (if hold then ops_at tree e.rest e.child u (e.child ∷ []) else ops_at tree e.rest e.child anchor (way ++ e.child ∷ [])) v ≡ true
      by true = reach e.child u (e.child ∷ []) w ws v order leads
      by false = reach e.child anchor (way ++ e.child ∷ []) w ws v order leads

  each_reached : (u anchor : ℕ) (way : List ℕ) (ws : List ℕ) (v : ℕ) (held : Bool) (es : List (Entry Plan))
      → AllByRecursion (λ e. Orders tree.children e.child (entries_of e.rest)) es → AllByRecursion (λ e. every-Plan (LayerOrders tree.children) e.rest) es → AllByRecursion (λ e. Reaches e.rest) es
      → AllByRecursion (λ w. Leads tree.children w ws v → computes (listed_ops (rest_ops tree u anchor way) (before u (tree.blocks u)) (way_back tree.steps u anchor way) held es) v ≡ true) (named es)
  each_reached u anchor way ws v held [] orders under reach = tt
  each_reached u anchor way ws v held (e ∷ es) orders under reach =
      let change = before u (tree.blocks u) held e.hold in
      let own = rest_ops tree u anchor way e in
      let turn = if is_none es then [] else way_back tree.steps u anchor way e.hold in
      let more = listed_ops (rest_ops tree u anchor way) (before u (tree.blocks u)) (way_back tree.steps u anchor way) e.hold es in (
        (λ leads. computes_right change _ v (computes_left own _ v (by_entry u anchor way e (record { here = orders.0; under = under.0 }) reach.0 ws v leads))),
        later (λ h. computes_right change _ v (computes_right own _ v (computes_right turn more v h))) (named es) (each_reached u anchor way ws v e.hold es orders.1 under.1 reach.1),
      )
    where
      later : {A B : Type 0} → (A → B) → (xs : List ℕ) → AllByRecursion (λ w. Leads tree.children w ws v → A) xs → AllByRecursion (λ w. Leads tree.children w ws v → B) xs
      later f [] h = tt
      later f (x ∷ xs) (h, g) = ((λ l. f (h l)), later f xs g)

  reached_by : (p : Plan) → AllByRecursion (λ e. Reaches e.rest) (entries_of p) → Reaches p
  unfolding Reaches
  reached_by p reach u anchor way w ws v order (child, leads) =
      let (orders, under) = under_parts tree.children p order.under in
      let each = each_reached u anchor way ws v false (entries_of p) orders under reach in
      rw (ops_parts tree p u anchor way)
      (All-contains (λ w. Leads tree.children w ws v → computes (listed_ops (rest_ops tree u anchor way) (before u (tree.blocks u)) (way_back tree.steps u anchor way) false (entries_of p)) v ≡ true) (tree.children u) w
      (All-permutation (λ w. Leads tree.children w ws v → computes (listed_ops (rest_ops tree u anchor way) (before u (tree.blocks u)) (way_back tree.steps u anchor way) false (entries_of p)) v ≡ true) (named (entries_of p)) (tree.children u)
      (IsPermutation-sym (tree.children u) (named (entries_of p)) order.here) (All-from_recursion _ (named (entries_of p)) each)) child leads)

  pub carries : (prices : Prices) (most end : ℕ) → Grows tree end → (p : Plan) → IsPlanOf tree.children 0 p → HoldsNone (entries_of p) → peak_at tree.blocks p 0 0 ≤ most → Carries tree prices most p (Reset ∷ ops_at tree p 0 0 [])
  unfolding Reaches Played
  carries prices most end grows p orders holds_none fits =
      let from = after tree prices Reset start in
      let here : Stands tree prices most end grows 0 0 [] 0 0 [] = record { below = tt; anchored = inl refl; chain = refl; backs = refl; agains = refl } in
      let a = plays tree prices most end grows p 0 0 [] 0 0 [] from orders (λ _. holds_none) here refl (λ some. absurd (omega arith)) refl (omega arith) fits in
      let x = a.pays in let y = a.reaches in
      record {
        legal = (tt, a.passes.legal);
        stored = ap (λ m. m.stored) a.passes.to ∙ a.stored;
        paid = ap (λ m. m.paid) a.passes.to ∙ omega (arith, x);
        greatest = ap (λ m. m.greatest) a.passes.to ∙ omega (arith, y);
        reached = λ w ws v leads. induct Reaches reached_by p 0 0 [] w ws v orders leads;
      }

-- the steps are what is paid where nothing has a price
one_work : (tree : Tree) (prices : Prices) (o : Operation) (m n : Machine) → m.work ≡ n.paid → (after tree prices o m).work ≡ (after tree no_prices o n).paid
one_work tree prices Reset m n h = h
one_work tree prices (Compute v k) m n h = omega (arith, h)
one_work tree prices (Checkpoint v b) m n h = omega (arith, h)
one_work tree prices (Restore v) m n h = omega (arith, h)
one_work tree prices (Evict v) m n h = h

all_work : (tree : Tree) (prices : Prices) (os : Ops) (m n : Machine) → m.work ≡ n.paid → (after_all tree prices os m).work ≡ (after_all tree no_prices os n).paid
all_work tree prices [] m n h = h
all_work tree prices (o ∷ os) m n h = all_work tree prices os (after tree prices o m) (after tree no_prices o n) (one_work tree prices o m n h)

-- the list of a plan that fits carries it out
pub carries_out : (costs : Costs) (budget : Budget) (p : Plan) → IsSound costs → IsPlan costs p → peak costs budget p ≤ budget.most → CarriesOut costs budget p (operations_of costs budget p)
unfolding tree_of
carries_out costs budget p sound plan fits =
    let tree = tree_of costs budget.block in
    let g = grows costs budget.block sound in
    let c = carries tree (prices_of budget) budget.most (length costs.rows + 1) g p plan.orders plan.holds_none fits in
    let w = carries tree no_prices budget.most (length costs.rows + 1) g p plan.orders plan.holds_none fits in
    record {
      legal = c.legal;
      stored = c.stored;
      work = all_work tree (prices_of budget) (operations_of costs budget p) start start refl ∙ w.paid ∙ plain tree p 0 0;
      paid = c.paid;
      greatest = c.greatest;
      reached = λ v is. let (w, ws, leads) = led costs sound v is in c.reached w ws v leads;
    }
