-- The operations of a plan, and the machine that they run on.
use Rattle.std.specs.Prelude.{ℕ, ◌≡◌, ◌≤◌, ◌+◌, ◌*◌, List, [], ◌∷◌, ◌++◌, map, max, Bool, true, false, ◌||◌, ◌==◌, if◌then◌else◌, Option, Some, None}
use Rattle.std.specs.List.{sum_by}
use Rattle.plan_type.specs.declared.budget.Budget.{Budget}
use Rattle.plan_type.specs.declared.costs.Costs.{Costs}
use Rattle.plan_type.specs.declared.plan.Plan.{Plan, fold-Plan}
use Rattle.plan_type.specs.declared.plan.Plan.TheOpen.{Plan-F}
use Rattle.plan_type.specs.declared.plan.Entry.{Entry}
use Rattle.plan_type.specs.declared.operations.Operation.{Operation}
use Rattle.plan_type.specs.declared.operations.Operation.TheVariants.{Reset, Compute, Checkpoint, Restore, Evict}
use Rattle.plan_type.specs.Costs.{Tree, tree_of, IsReached}
use Rattle.plan_type.specs.Plan.{is_none, work, peak}
use Rattle.plan_type.specs.Prices.{Prices, prices_of, cost}

-- ---- the list

abbrev pub Ops : Type 0
Ops = List Operation

-- what comes before a child, for whether the node is stored and whether the entry holds
abbrev pub before : ℕ → ℕ → Bool → Bool → Ops
before u b true true = []
before u b false true = Checkpoint u b ∷ []
before u b true false = Evict u ∷ []
before u b false false = []

-- each entry: the change of the store, the entry itself, and the way back where it is not last; in the end the node is given up
abbrev pub listed_ops : {X : Type 0} → (Entry X → Ops) → (Bool → Bool → Ops) → (Bool → Ops) → Bool → List (Entry X) → Ops
listed_ops each change return stored [] = change stored false
listed_ops each change return stored (e ∷ es) =
    change stored e.hold ++ (each e ++ ((if is_none es then [] else return e.hold) ++ listed_ops each change return e.hold es))

-- how a node is made again: from the nearest held ancestor, 0 for none, down the way to it
abbrev pub remake : (ℕ → ℕ) → ℕ → List ℕ → Ops
remake steps anchor way = (if anchor == 0 then Reset else Restore anchor) ∷ map (λ v. Compute v (steps v)) way

-- at a node, with its nearest held ancestor and the way from there
abbrev pub Listing : Type 0
Listing = ℕ → ℕ → List ℕ → Ops

-- an entry: the child is computed, and then its rest is carried out
abbrev pub entry_ops : Tree → ℕ → ℕ → List ℕ → Entry Listing → Ops
entry_ops tree u anchor way e =
    Compute e.child (tree.steps e.child) ∷ (if e.hold then e.rest e.child u (e.child ∷ []) else e.rest e.child anchor (way ++ e.child ∷ []))

-- after an entry that holds the node is restored, and after another it is made again
abbrev pub way_back : (ℕ → ℕ) → ℕ → ℕ → List ℕ → Bool → Ops
way_back steps u anchor way hold = if hold then Restore u ∷ [] else remake steps anchor way

abbrev pub layer_ops : Tree → Plan-F Listing → Listing
layer_ops tree d u anchor way = listed_ops (entry_ops tree u anchor way) (before u (tree.blocks u)) (way_back tree.steps u anchor way) false d.entries

unfoldable pub ops_at : Tree → Plan → Listing
ops_at tree = fold-Plan Listing (layer_ops tree)

-- the operations of a whole plan begin at the empty state
abbrev pub operations_of : Costs → Budget → Plan → Ops
operations_of costs budget p = Reset ∷ ops_at (tree_of costs budget.block) p 0 0 []

-- ---- the machine

-- the live node or none, and whether it was just computed, with no restore since; the stored nodes; the steps so far, and what was paid so far; and the greatest sum of stored blocks so far
pub record Machine : Type 0 where
  pub live : Option ℕ
  pub fresh : Bool
  pub stored : List ℕ
  pub work : ℕ
  pub paid : ℕ
  pub greatest : ℕ

abbrev pub start : Machine
start = record { live = None; fresh = false; stored = []; work = 0; paid = 0; greatest = 0 }

abbrev pub stores : List ℕ → ℕ → Bool
stores [] v = false
stores (x ∷ xs) v = (x == v) || stores xs v

abbrev pub without : List ℕ → ℕ → List ℕ
without [] v = []
without (x ∷ xs) v = if x == v then xs else x ∷ without xs v

-- the node is there, and it is live
abbrev pub IsLive : Machine → Option ℕ → Type 0
IsLive m None = ⊥
IsLive m (Some u) = m.live ≡ Some u

-- which operations may come next: a node is computed from its live parent at its own steps; stored where it is live and was just computed, is not stored yet and there is room; and restored and given up where it is stored
abbrev pub Legal : Tree → ℕ → Operation → Machine → Type 0
Legal tree most Reset m = Unit {0}
Legal tree most (Compute v n) m = IsLive m (tree.parent v) × (n ≡ tree.steps v)
Legal tree most (Checkpoint v b) m = (m.live ≡ Some v) × (m.fresh ≡ true) × (stores m.stored v ≡ false) × (b ≡ tree.blocks v) × (sum_by tree.blocks m.stored + b ≤ most)
Legal tree most (Restore v) m = stores m.stored v ≡ true
Legal tree most (Evict v) m = stores m.stored v ≡ true

abbrev pub after : Tree → Prices → Operation → Machine → Machine
after tree prices Reset m = record m { live = Some 0; fresh = false }
after tree prices (Compute v n) m = record m { live = Some v; fresh = true; work = m.work + n; paid = m.paid + n }
after tree prices (Checkpoint v b) m =
    record m { stored = v ∷ m.stored; paid = m.paid + prices.save * b; greatest = max m.greatest (sum_by tree.blocks m.stored + b) }
after tree prices (Restore v) m = record m { live = Some v; fresh = false; paid = m.paid + prices.load * tree.blocks v }
after tree prices (Evict v) m = record m { stored = without m.stored v }

abbrev pub after_all : Tree → Prices → Ops → Machine → Machine
after_all tree prices [] m = m
after_all tree prices (o ∷ os) m = after_all tree prices os (after tree prices o m)

abbrev pub LegalAll : Tree → Prices → ℕ → Ops → Machine → Type 0
LegalAll tree prices most [] m = Unit {0}
LegalAll tree prices most (o ∷ os) m = Legal tree most o m × LegalAll tree prices most os (after tree prices o m)

abbrev pub computes_one : Operation → ℕ → Bool
computes_one (Compute w n) v = w == v
computes_one Reset v = false
computes_one (Checkpoint w b) v = false
computes_one (Restore w) v = false
computes_one (Evict w) v = false

abbrev pub computes : Ops → ℕ → Bool
computes [] v = false
computes (o ∷ os) v = computes_one o v || computes os v

-- where the machine stands after these operations from nothing
abbrev pub ran : Costs → Budget → Ops → Machine
ran costs budget os = after_all (tree_of costs budget.block) (prices_of budget) os start

-- from nothing the list is legal, ends with nothing stored, and computes each reached node; its steps, what it pays and the greatest sum of stored blocks are the plan's work, cost and peak
pub record CarriesOut (costs : Costs) (budget : Budget) (p : Plan) (os : Ops) : Type 0 where
  pub legal : LegalAll (tree_of costs budget.block) (prices_of budget) budget.most os start
  pub stored : (ran costs budget os).stored ≡ []
  pub work : (ran costs budget os).work ≡ work costs p
  pub paid : (ran costs budget os).paid ≡ cost costs budget p
  pub greatest : (ran costs budget os).greatest ≡ peak costs budget p
  pub reached : (v : ℕ) → IsReached costs v → computes os v ≡ true
