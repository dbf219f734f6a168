-- What a plan's entries say of it: cost, peak, class, and induction.
use Rattle.std.proofs.Common.{◌≡◌, ◌∙◌, ◌++◌, ℕ, ◌+◌, ◌*◌, List, [], ◌∷◌, max, ◌≤◌, Bool, false, not, ◌&&◌, refl, sym, ap, subst, arith}
use Rattle.std.specs.Prelude.{if◌then◌else◌}
use Rattle.std.specs.List.{AllByRecursion}
use Rattle.plan_type.specs.declared.plan.Plan.{Plan, out-Plan, roll-Plan, out-roll-Plan, roll-out-Plan, map-Plan, fold_out-Plan, every-Plan, every_here-Plan, every_held-Plan, every_made-Plan, ind-Plan}
use Rattle.plan_type.specs.declared.plan.Plan.TheOpen.{Plan-F}
use Rattle.plan_type.specs.declared.plan.Entry.{Entry}
use Rattle.plan_type.specs.Costs.{Tree}
use Rattle.plan_type.specs.Operations.{Ops, Listing, before, listed_ops, entry_ops, layer_ops, way_back, ops_at}
use Rattle.plan_type.specs.declared.operations.Operation.TheVariants.{Compute}
use Rattle.plan_type.specs.Plan.{entries_of, LayerOrders, greatest, Peaking, entry_peak, layer_peak, peak_at}
use Rattle.plan_type.specs.Prices.{Prices, listed_cost, Costing, entry_cost, layer_cost, cost_at}

unfoldable pub with_rest : {X Y : Type 0} → (X → Y) → Entry X → Entry Y
with_rest f e = record { child = e.child; hold = e.hold; rest = f e.rest }

-- ---- cost

unfoldable pub rest_cost : Tree → Prices → ℕ → ℕ → ℕ → Entry Plan → ℕ
rest_cost tree prices u back again e =
    tree.steps e.child
    + (if e.hold then cost_at tree prices e.rest e.child (tree.steps e.child) (prices.load * tree.blocks u) else cost_at tree prices e.rest e.child (back + tree.steps e.child) again)

abbrev pub later : {X : Type 0} → (Plan → X) → List (Entry Plan) → List (Entry X)
later {X} g es = (map-Plan Plan X g (record { entries = es })).entries

listed_again : {X : Type 0} (g : Plan → X) (each : Entry X → ℕ) (save : ℕ) (return : Bool → ℕ) (held : Bool) (es : List (Entry Plan)) →
    listed_cost each save return held (map-Plan Plan X g (record { entries = es })).entries ≡ listed_cost (λ e. each (with_rest g e)) save return held es
unfolding with_rest
listed_again g each save return held [] = refl
listed_again g each save return held (e ∷ []) = refl
listed_again g each save return held (e ∷ f ∷ es) =
    ap (λ r. each (with_rest g e) + (if e.hold && not held then save else 0) + return e.hold + r) (listed_again g each save return e.hold (f ∷ es))

pub cost_parts : (tree : Tree) (prices : Prices) (p : Plan) (u back again : ℕ) →
    cost_at tree prices p u back again
    ≡ listed_cost (rest_cost tree prices u back again) (prices.save * tree.blocks u) (λ hold. if hold then prices.load * tree.blocks u else back + again) false (entries_of p)
unfolding cost_at rest_cost with_rest
cost_parts tree prices p u back again =
    ap (λ f. f u back again) (fold_out-Plan Costing (layer_cost tree prices) p)
    ∙ listed_again (cost_at tree prices) (entry_cost tree prices u back again) (prices.save * tree.blocks u)
    (λ hold. if hold then prices.load * tree.blocks u else back + again) false (entries_of p)

-- ---- peak

unfoldable pub rest_peak : (ℕ → ℕ) → ℕ → ℕ → Entry Plan → ℕ
rest_peak blocks u used e = peak_at blocks e.rest e.child (if e.hold then used + blocks u else used)

greatest_again : {X : Type 0} (g : Plan → X) (each : Entry X → ℕ) (used : ℕ) (es : List (Entry Plan)) →
    greatest each used (later g es) ≡ greatest (λ e. each (with_rest g e)) used es
unfolding with_rest
greatest_again g each used [] = refl
greatest_again g each used (e ∷ es) = ap (λ r. max (each (with_rest g e)) r) (greatest_again g each used es)

pub peak_parts : (blocks : ℕ → ℕ) (p : Plan) (u used : ℕ) → peak_at blocks p u used ≡ greatest (rest_peak blocks u used) used (entries_of p)
unfolding peak_at rest_peak with_rest
peak_parts blocks p u used =
    ap (λ f. f u used) (fold_out-Plan Peaking (layer_peak blocks) p) ∙ greatest_again (peak_at blocks) (entry_peak blocks u used) used (entries_of p)

pub greatest_above : {X : Type 0} (each : Entry X → ℕ) (used : ℕ) (es : List (Entry X)) → used ≤ greatest each used es
greatest_above each used [] = omega arith
greatest_above each used (e ∷ es) = let i = greatest_above each used es in omega (arith, i)

pub peak_above : (blocks : ℕ → ℕ) (p : Plan) (u used : ℕ) → used ≤ peak_at blocks p u used
peak_above blocks p u used = rw (peak_parts blocks p u used) (greatest_above (rest_peak blocks u used) used (entries_of p))

-- ---- operations

unfoldable pub rest_ops : Tree → ℕ → ℕ → List ℕ → Entry Plan → Ops
rest_ops tree u anchor way e =
    Compute e.child (tree.steps e.child) ∷ (if e.hold then ops_at tree e.rest e.child u (e.child ∷ []) else ops_at tree e.rest e.child anchor (way ++ e.child ∷ []))

ops_again : {X : Type 0} (g : Plan → X) (each : Entry X → Ops) (change : Bool → Bool → Ops) (return : Bool → Ops) (stored : Bool) (es : List (Entry Plan)) →
    listed_ops each change return stored (later g es) ≡ listed_ops (λ e. each (with_rest g e)) change return stored es
unfolding with_rest
ops_again g each change return stored [] = refl
ops_again g each change return stored (e ∷ []) = refl
ops_again g each change return stored (e ∷ f ∷ es) =
    ap (λ r. change stored e.hold ++ (each (with_rest g e) ++ (return e.hold ++ r))) (ops_again g each change return e.hold (f ∷ es))

pub ops_parts : (tree : Tree) (p : Plan) (u anchor : ℕ) (way : List ℕ) →
    ops_at tree p u anchor way ≡ listed_ops (rest_ops tree u anchor way) (before u (tree.blocks u)) (way_back tree.steps u anchor way) false (entries_of p)
unfolding ops_at rest_ops with_rest
ops_parts tree p u anchor way =
    ap (λ f. f u anchor way) (fold_out-Plan Listing (layer_ops tree) p)
    ∙ ops_again (ops_at tree) (entry_ops tree u anchor way) (before u (tree.blocks u)) (way_back tree.steps u anchor way) false (entries_of p)

-- ---- induction

module _ (P : Plan → Type 0) where
  abbrev Held : Type 0
  Held = (z : Plan) × P z

  bare : Plan-F Held → Plan-F Plan
  bare = map-Plan Held Plan (λ h. h.0)

  entries_held : (es : List (Entry Held)) → AllByRecursion (λ e. P e.rest) (bare (record { entries = es })).entries
  unfolding bare
  entries_held [] = tt
  entries_held (e ∷ es) = (e.rest.1, entries_held es)

  entries_made : (es : List (Entry Plan)) → AllByRecursion (λ e. P e.rest) es → (ys : List (Entry Held)) × ((bare (record { entries = ys })).entries ≡ es)
  unfolding bare
  entries_made [] h = ([], refl)
  entries_made (e ∷ es) h = let (ys, is) = entries_made es h.1 in (record { child = e.child; hold = e.hold; rest = (e.rest, h.0) } ∷ ys, ap (λ l. e ∷ l) is)

pub induct : (P : Plan → Type 0) → ((p : Plan) → AllByRecursion (λ e. P e.rest) (entries_of p) → P p) → (p : Plan) → P p
unfolding bare
induct P step = ind-Plan P (λ d y is.
    step (roll-Plan d) (subst (λ v. AllByRecursion (λ e. P e.rest) v.entries) (is ∙ sym (out-roll-Plan d)) (entries_held P y.entries)))

-- a fact of each layer: of the plan's own, and of its entries' plans
pub every_parts : (Q : Plan-F Plan → Type 0) (p : Plan) → every-Plan Q p → Q (out-Plan p) × AllByRecursion (λ e. every-Plan Q e.rest) (entries_of p)
unfolding bare
every_parts Q p h = (
  every_here-Plan Q p h,
  (let (y, is) = every_held-Plan Q p h in
      subst (λ v. AllByRecursion (λ e. every-Plan Q e.rest) v.entries) is (entries_held (every-Plan Q) y.entries)),
)

pub every_from : (Q : Plan-F Plan → Type 0) (p : Plan) → Q (out-Plan p) → AllByRecursion (λ e. every-Plan Q e.rest) (entries_of p) → every-Plan Q p
unfolding bare
every_from Q p here each =
    let (ys, is) = entries_made (every-Plan Q) (entries_of p) each in
    subst (every-Plan Q) (roll-out-Plan p) (every_made-Plan Q (out-Plan p) (record { entries = ys }) (ap (λ l. record { entries = l }) is) here)

pub under_parts : (children : ℕ → List ℕ) (p : Plan) → every-Plan (LayerOrders children) p → LayerOrders children (out-Plan p) × AllByRecursion (λ e. every-Plan (LayerOrders children) e.rest) (entries_of p)
under_parts children = every_parts (LayerOrders children)

pub under_made : (children : ℕ → List ℕ) (p : Plan) → LayerOrders children (out-Plan p) → AllByRecursion (λ e. every-Plan (LayerOrders children) e.rest) (entries_of p) → every-Plan (LayerOrders children) p
under_made children = every_from (LayerOrders children)
