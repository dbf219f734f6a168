-- What the children of a node cost, and the least cost of the node over them.
use Rattle.std.specs.Prelude.{ℕ, ◌+◌, ◌-◌, List, [], ◌∷◌, min, max, Bool, if◌then◌else◌}
use Rattle.std.specs.List.{sum_by}
use Rattle.plan_type.specs.declared.offer.Offer.{Offer}
use Rattle.plan_type.specs.declared.offer.Fees.{Fees}
use Rattle.plan_type.specs.Choices.{Choice}

abbrev pub no_offer : Offer
no_offer = record { child = 0; free = 0; held = 0 }

-- a child with a return after it, without and with its parent held
abbrev pub offer_free : Fees → Offer → ℕ
offer_free fees o = o.free + fees.back

abbrev pub offer_held : Fees → Offer → ℕ
offer_held fees o = o.held + fees.load

-- a child that stands last, and one that another follows
abbrev pub offer_last : Offer → ℕ
offer_last o = min o.free o.held

abbrev pub offer_other : Fees → Offer → ℕ
offer_other fees o = min (offer_free fees o) (offer_held fees o)

-- what standing last saves
abbrev pub offer_saving : Fees → Offer → ℕ
offer_saving fees o = offer_other fees o - offer_last o

-- the most that one of them saves
abbrev pub most_saved : Fees → List Offer → ℕ
most_saved fees [] = 0
most_saved fees (o ∷ os) = max (offer_saving fees o) (most_saved fees os)

-- the node held for no child: a return after each but the last
abbrev pub offers_free : Fees → List Offer → ℕ
offers_free fees os = sum_by (offer_free fees) os - fees.back

-- the node held for some: a save, and each child as one that another follows, but for the one that stands last
abbrev pub offers_held : Fees → List Offer → ℕ
offers_held fees os = fees.save + (sum_by (offer_other fees) os - most_saved fees os)

abbrev pub offers_local : Fees → List Offer → ℕ
offers_local fees os = min (offers_free fees os) (offers_held fees os)

-- what a child offers; where its parent may not be held, that is offered at the price of not holding
abbrev pub offer_at : Choice → Bool → ℕ → Offer
offer_at c can v = record { child = v; free = c.free v; held = if can then c.held v else c.free v + c.return }

abbrev pub fees_at : Choice → Bool → Fees
fees_at c can = record { back = c.return; load = if can then c.load else 0; save = if can then c.save else 0 }
