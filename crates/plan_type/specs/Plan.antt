-- Plans: their class, their work and their peak.
use Rattle.std.specs.Prelude.{ℕ, ◌≡◌, ◌≤◌, ◌+◌, ◌*◌, ◌^◌, List, [], ◌∷◌, length, map, max, Bool, true, false, if◌then◌else◌, IsPermutation}
use Rattle.std.specs.List.{AllByRecursion}
use Rattle.plan_type.specs.declared.budget.Budget.{Budget}
use Rattle.plan_type.specs.declared.costs.Costs.{Costs}
use Rattle.plan_type.specs.declared.plan.Plan.{Plan, out-Plan, fold-Plan, every-Plan}
use Rattle.plan_type.specs.declared.plan.Plan.TheOpen.{Plan-F}
use Rattle.plan_type.specs.declared.plan.Entry.{Entry}
use Rattle.plan_type.specs.Costs.{Climbs, children_of, steps_of, blocks_of}

abbrev pub entries_of : Plan → List (Entry Plan)
entries_of p = (out-Plan p).entries

-- the nodes that entries name
abbrev pub named : {X : Type 0} → List (Entry X) → List ℕ
named = map (λ e. e.child)

-- ---- the class

-- the entries are the children of the node, each once, in some order
abbrev pub Orders : (ℕ → List ℕ) → ℕ → List (Entry Plan) → Type 0
Orders children u es = IsPermutation (children u) (named es)

abbrev pub LayerOrders : (ℕ → List ℕ) → Plan-F Plan → Type 0
LayerOrders children d = AllByRecursion (λ e. Orders children e.child (entries_of e.rest)) d.entries

-- a plan of a node: its entries are the node's children, and each rest is a plan of its child
pub record IsPlanOf (children : ℕ → List ℕ) (u : ℕ) (p : Plan) : Type 0 where
  pub here : Orders children u (entries_of p)
  pub under : every-Plan (LayerOrders children) p

abbrev pub HoldsNone : {X : Type 0} → List (Entry X) → Type 0
HoldsNone = AllByRecursion (λ e. e.hold ≡ false)

-- a plan of the reached nodes; number 0 is not held
pub record IsPlan (costs : Costs) (p : Plan) : Type 0 where
  pub orders : IsPlanOf (children_of costs) 0 p
  pub holds_none : HoldsNone (entries_of p)

-- ---- work

abbrev pub is_none : {X : Type 0} → List X → Bool
is_none [] = true
is_none (x ∷ xs) = false

-- each entry itself, and after each that neither holds nor is last the making again of the node
abbrev pub listed_work : {X : Type 0} → (Entry X → ℕ) → ℕ → List (Entry X) → ℕ
listed_work each back [] = 0
listed_work each back (e ∷ es) = each e + (if e.hold then 0 else if is_none es then 0 else back) + listed_work each back es

-- an entry: the child's steps, and its rest; the child is made again from its held parent, or from where the parent is
abbrev pub entry_work : (ℕ → ℕ) → ℕ → Entry (ℕ → ℕ) → ℕ
entry_work steps back e = steps e.child + e.rest (if e.hold then steps e.child else back + steps e.child)

abbrev pub layer_work : (ℕ → ℕ) → Plan-F (ℕ → ℕ) → ℕ → ℕ
layer_work steps d back = listed_work (entry_work steps back) back d.entries

-- the steps that a plan of a node takes, where making the node again takes `back`
unfoldable pub work_at : (ℕ → ℕ) → Plan → ℕ → ℕ
work_at steps = fold-Plan (ℕ → ℕ) (layer_work steps)

-- the steps of a whole plan: each node's own as often as it is computed
abbrev pub work : Costs → Plan → ℕ
work costs p = work_at (steps_of costs) p 0

-- a plan of some node that is made again by at most a million steps for each number up to its own
pub record IsPlanFrom (costs : Costs) (p : Plan) (back : ℕ) : Type 0 where
  pub node : ℕ
  pub plan : IsPlanOf (children_of costs) node p
  pub low : back ≤ node * 1000000

-- ---- peak

-- the greatest that an entry comes to; none comes to less than what is used before it
abbrev pub greatest : {X : Type 0} → (Entry X → ℕ) → ℕ → List (Entry X) → ℕ
greatest each used [] = used
greatest each used (e ∷ es) = max (each e) (greatest each used es)

abbrev pub Peaking : Type 0
Peaking = ℕ → ℕ → ℕ

-- an entry: its rest, with the node's own blocks used where it holds
abbrev pub entry_peak : (ℕ → ℕ) → ℕ → ℕ → Entry Peaking → ℕ
entry_peak blocks u used e = e.rest e.child (if e.hold then used + blocks u else used)

abbrev pub layer_peak : (ℕ → ℕ) → Plan-F Peaking → Peaking
layer_peak blocks d u used = greatest (entry_peak blocks u used) used d.entries

-- the most blocks that are held while a plan of a node is carried out, where these are used before
unfoldable pub peak_at : (ℕ → ℕ) → Plan → Peaking
peak_at blocks = fold-Plan Peaking (layer_peak blocks)

abbrev pub peak : Costs → Budget → Plan → ℕ
peak costs budget p = peak_at (blocks_of costs budget.block) p 0 0

-- as many blocks as the nodes above this one can have, at 2 ^ 56 for each
pub record IsWithin (costs : Costs) (u used : ℕ) : Type 0 where
  pub way : List ℕ
  pub climbs : Climbs costs u way
  pub low : used ≤ length way * 2 ^ 56

-- ---- fitting

-- a plan of the class that fits
pub record Serves (costs : Costs) (budget : Budget) (p : Plan) : Type 0 where
  pub plan : IsPlan costs p
  pub fits : peak costs budget p ≤ budget.most
