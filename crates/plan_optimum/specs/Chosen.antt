-- The order of a node's children and for which of them it is held, as it is chosen by what they cost.
use Rattle.std.specs.Prelude.{ℕ, ◌≡◌, List, Bool, true, false, not, nat_lt, if◌then◌else◌, IsPermutation}
use Rattle.std.specs.List.{AllByRecursion}
use Rattle.plan_type.specs.declared.offer.Offer.{Offer}
use Rattle.plan_type.specs.declared.offer.Fees.{Fees}
use Rattle.plan_type.specs.declared.plan.Entry.{Entry}
use Rattle.plan_type.specs.Plan.{named}
use Rattle.plan_type.specs.Prices.{listed_cost}
use Rattle.plan_type.specs.Choices.{Choice, local}
use Rattle.plan_type.specs.Offers.{offer_free, offer_held}

-- an entry without its rest
abbrev pub Pick : Type 0
Pick = Entry (Unit {0})

abbrev pub pick_of : ℕ → Bool → Pick
pick_of child hold = record { child = child; hold = hold; rest = tt }

abbrev pub free_pick : Offer → Pick
free_pick o = pick_of o.child false

-- a child that another follows, and one that stands last: its parent is held for it only where that is cheaper
abbrev pub other_pick : Fees → Offer → Pick
other_pick fees o = pick_of o.child (nat_lt (offer_held fees o) (offer_free fees o))

abbrev pub last_pick : Offer → Pick
last_pick o = pick_of o.child (nat_lt o.held o.free)

abbrev pub flagged : {X : Type 0} → Bool → Entry X → Bool
flagged hold e = if hold then e.hold else not e.hold

-- what an entry costs, by what its child costs with its flag
abbrev pub cost_by : {X : Type 0} → Choice → Entry X → ℕ
cost_by c e = if e.hold then c.held e.child else c.free e.child

abbrev pub return_by : Choice → Bool → ℕ
return_by c hold = if hold then c.load else c.return

-- the entries are the children in some order, the node is held only if it may be, and they cost the least
pub record IsChosen (c : Choice) (can : Bool) (vs : List ℕ) (es : List Pick) : Type 0 where
  pub orders : IsPermutation vs (named es)
  pub may : AllByRecursion (λ e. e.hold ≡ true → can ≡ true) es
  pub cost : listed_cost (cost_by c) c.save (return_by c) false es ≡ local c can vs
