-- The cost of a plan where saving and restoring have prices, and which plans cost least. Where both prices are 0 the cost is the work of the plan.
use Rattle.std.specs.Prelude.{ℕ, ◌≤◌, ◌+◌, ◌*◌, List, [], ◌∷◌, Bool, false, not, ◌&&◌, if◌then◌else◌}
use Rattle.plan_type.specs.declared.budget.Budget.{Budget}
use Rattle.plan_type.specs.declared.costs.Costs.{Costs}
use Rattle.plan_type.specs.declared.plan.Plan.{Plan, fold-Plan}
use Rattle.plan_type.specs.declared.plan.Plan.TheOpen.{Plan-F}
use Rattle.plan_type.specs.declared.plan.Entry.{Entry}
use Rattle.plan_type.specs.Costs.{Tree, tree_of}
use Rattle.plan_type.specs.Plan.{is_none, Serves}

-- in steps for each block of a snapshot
pub record Prices : Type 0 where
  pub save : ℕ
  pub load : ℕ

abbrev pub no_prices : Prices
no_prices = record { save = 0; load = 0 }

-- a list of entries: each itself, a save where a run of holding ones begins, and a return after each but the last
abbrev pub listed_cost : {X : Type 0} → (Entry X → ℕ) → ℕ → (Bool → ℕ) → Bool → List (Entry X) → ℕ
listed_cost each save return held [] = 0
listed_cost each save return held (e ∷ es) =
    each e + (if e.hold && not held then save else 0) + (if is_none es then 0 else return e.hold) + listed_cost each save return e.hold es

-- what a plan costs at a node, for the price of making the node again in steps and in loads
abbrev pub Costing : Type 0
Costing = ℕ → ℕ → ℕ → ℕ

abbrev pub entry_cost : Tree → Prices → ℕ → ℕ → ℕ → Entry Costing → ℕ
entry_cost tree prices u back again e =
    tree.steps e.child
    + (if e.hold then e.rest e.child (tree.steps e.child) (prices.load * tree.blocks u) else e.rest e.child (back + tree.steps e.child) again)

abbrev pub layer_cost : Tree → Prices → Plan-F Costing → Costing
layer_cost tree prices d u back again =
    listed_cost (entry_cost tree prices u back again) (prices.save * tree.blocks u)
    (λ hold. if hold then prices.load * tree.blocks u else back + again) false d.entries

unfoldable pub cost_at : Tree → Prices → Plan → Costing
cost_at tree prices = fold-Plan Costing (layer_cost tree prices)

abbrev pub prices_of : Budget → Prices
prices_of budget = record { save = budget.save; load = budget.load }

-- what a whole plan costs, in steps
abbrev pub cost : Costs → Budget → Plan → ℕ
cost costs budget p = cost_at (tree_of costs budget.block) (prices_of budget) p 0 0 0

-- a plan of the class that fits, and that costs no more than any other of them
pub record IsLeast (costs : Costs) (budget : Budget) (p : Plan) : Type 0 where
  pub serves : Serves costs budget p
  pub least : (q : Plan) → Serves costs budget q → cost costs budget p ≤ cost costs budget q
