-- The cost of a plan of the class that fits is small; and one step of the sum over the entries.
use Rattle.std.proofs.Common.{◌≡◌, ◌∙◌, ℕ, zero, suc, ◌+◌, ◌*◌, ◌^◌, ◌<◌, ◌≤◌, List, [], ◌∷◌, length, drop, get_or, Bool, true, false, not, ◌&&◌, refl, sym, ap, arith, mul-le-mul_right}
use Rattle.std.specs.Prelude.{if◌then◌else◌, sum_by, nat_eq}
use Rattle.std.specs.List.{AllByRecursion}
use Rattle.std.proofs.lemmas.List.{drop_more, length-drop}
use Rattle.std.proofs.lemmas.List.Sums.{sum_by-cons}
use Rattle.std.proofs.lemmas.List.Sorted.{All-permutation, sum_by-IsPermutation}
use Rattle.std.proofs.lemmas.List.Elements.{recursion_from_All}
use Rattle.plan_type.specs.declared.budget.Budget.{Budget}
use Rattle.plan_type.specs.declared.costs.Costs.{Costs}
use Rattle.plan_type.specs.declared.plan.Plan.{Plan, every-Plan}
use Rattle.plan_type.specs.declared.plan.Entry.{Entry}
use Rattle.plan_type.specs.Budget.{IsBudget}
use Rattle.plan_type.specs.Costs.{Tree, IsSound, tree_of, children_of, steps_of, blocks_of}
use Rattle.plan_type.specs.Plan.{named, entries_of, is_none, Orders, LayerOrders, IsPlanOf, peak_at}
use Rattle.plan_type.specs.Prices.{Prices, prices_of, listed_cost, cost_at}
use Rattle.plan_type.proofs.PlanParts.{induct, under_parts, rest_cost, cost_parts, peak_parts}
use Rattle.plan_type.proofs.Sound.{grows, steps_small}
use Rattle.plan_type.proofs.Sizes.{size, size_fits}
use Rattle.plan_type.proofs.Listed.{Roomy, rooms, room_at, empty_by_length}
use Rattle.plan_type.proofs.Entries.{EntryOf, entry_at}

pub product : (rate blocks : ℕ) → rate ≤ 1000000 → blocks ≤ 1024 → rate * blocks ≤ 1024000000
product rate blocks low few = let m : rate * blocks ≤ 1000000 * blocks = mul-le-mul_right blocks low in omega (arith, m, few)

sum_times : (f : ℕ → ℕ) (vs : List ℕ) → sum_by (λ v. f v * 2561000000) vs ≡ sum_by f vs * 2561000000
sum_times f [] = refl
sum_times f (v ∷ vs) = let a = sum_by-cons (λ v. f v * 2561000000) v vs in let b = sum_by-cons f v vs in let i = sum_times f vs in omega (arith, a, b, i)

-- what one entry adds to its own cost
one : (hold held none : Bool) (x back again load save : ℕ) → (hold ≡ true → load ≤ 1024000000) → (hold ≡ true → save ≤ 1024000000) → back ≤ 512000000 → again ≤ 1024000000
    → x + (if hold && not held then save else 0) + (if none then 0 else if hold then load else back + again) ≤ x + 2560000000
one true true true x back again load save l s b a = omega arith
one true true false x back again load save l s b a = let h = l refl in omega (arith, h)
one true false true x back again load save l s b a = let g = s refl in omega (arith, g)
one true false false x back again load save l s b a = let h = l refl in let g = s refl in omega (arith, h, g)
one false held true x back again load save l s b a = omega arith
one false held false x back again load save l s b a = omega (arith, b, a)

module _ (costs : Costs) (budget : Budget) (sound : IsSound costs) (limits : IsBudget budget) where
  abbrev tree : Tree
  tree = tree_of costs budget.block

  abbrev prices : Prices
  prices = prices_of budget

  abbrev blocks : ℕ → ℕ
  blocks = blocks_of costs budget.block

  unfoldable Fits : Plan → Type 0
  Fits p = (depth u back again : ℕ) → length costs.rows ≤ u + depth → back ≤ u * 1000000 → again ≤ 1024000000 → IsPlanOf (children_of costs) u p → peak_at blocks p u 0 ≤ budget.most
      → cost_at tree prices p u back again ≤ size costs sound depth u * 2561000000

  loads : (rate u : ℕ) (hold : Bool) → rate ≤ 1000000 → (hold ≡ true → blocks u ≤ budget.most) → hold ≡ true → rate * blocks u ≤ 1024000000
  loads rate u hold low may on = let m = may on in let f = limits.few in product rate (blocks u) low (omega (arith, m, f))

  list_fits : (depth u back again : ℕ) → length costs.rows ≤ u + suc depth → back ≤ u * 1000000 → again ≤ 1024000000 → (held : Bool) (es : List (Entry Plan))
      → AllByRecursion (λ v. u < v) (named es) → AllByRecursion (λ v. v < length costs.rows + 1) (named es)
      → AllByRecursion (λ e. Orders (children_of costs) e.child (entries_of e.rest)) es → AllByRecursion (λ e. every-Plan (LayerOrders (children_of costs)) e.rest) es
      → AllByRecursion (Roomy blocks u budget.most) es → AllByRecursion (λ e. Fits e.rest) es
      → listed_cost (rest_cost tree prices u back again) (budget.save * blocks u) (λ hold. if hold then budget.load * blocks u else back + again) held es ≤ sum_by (λ v. (1 + size costs sound depth v) * 2561000000) (named es)
  unfolding Fits rest_cost tree_of
  list_fits depth u back again deep low few held [] above below orders under rooms fits = omega arith
  list_fits depth u back again deep low few held (e ∷ es) (a, above) (b, below) (o, orders) (n, under) (r, rooms) (f, fits) =
      let rows = sound.few in let s = steps_small costs sound e.child in
      let i = list_fits depth u back again deep low few e.hold es above below orders under rooms fits in
      let x = tree.steps e.child + (if e.hold then cost_at tree prices e.rest e.child (tree.steps e.child) (prices.load * tree.blocks u) else cost_at tree prices e.rest e.child (back + tree.steps e.child) again) in
      let k = one e.hold held (is_none es) x back again (budget.load * blocks u) (budget.save * blocks u) (loads budget.load u e.hold limits.load r.0) (loads budget.save u e.hold limits.save r.0) (omega (arith, low, a, b, rows)) few in
      let h = by e.hold s r.0 in
      let c = sum_by-cons (λ v. (1 + size costs sound depth v) * 2561000000) e.child (named es) in
      omega (arith, s, i, k, h, c)
    where
      by : (hold : Bool) → steps_of costs e.child ≤ 1000000 → (hold ≡ true → blocks u ≤ budget.most)
          → (if hold then cost_at tree prices e.rest e.child (tree.steps e.child) (prices.load * tree.blocks u) else cost_at tree prices e.rest e.child (back + tree.steps e.child) again) ≤ size costs sound depth e.child * 2561000000
      by true s may = f depth e.child (steps_of costs e.child) (budget.load * blocks u) (omega (arith, deep, a)) (omega (arith, s, a)) (loads budget.load u true limits.load may refl) (record { here = o; under = n }) r.1
      by false s may = f depth e.child (back + steps_of costs e.child) again (omega (arith, deep, a)) (omega (arith, s, a, low)) few (record { here = o; under = n }) r.1

  fits_by : (p : Plan) → AllByRecursion (λ e. Fits e.rest) (entries_of p) → Fits p
  unfolding Fits size tree_of
  fits_by p fits depth u back again deep low few order peak =
      let g = grows costs budget.block sound in
      let above = recursion_from_All (λ v. u < v) (named (entries_of p)) (All-permutation (λ v. u < v) (children_of costs u) (named (entries_of p)) order.here (g.above u)) in
      let below = recursion_from_All (λ v. v < length costs.rows + 1) (named (entries_of p)) (All-permutation (λ v. v < length costs.rows + 1) (children_of costs u) (named (entries_of p)) order.here (g.below u)) in
      let (orders, under) = under_parts (children_of costs) p order.under in
      let top = peak_parts blocks p u 0 in
      let room = rooms blocks u budget.most (entries_of p) (omega (arith, top, peak)) in
      let parts = cost_parts tree prices p u back again in
      at depth (entries_of p) above below parts deep
      (λ d deeper. let l = list_fits d u back again deeper low few false (entries_of p) above below orders under room fits in
      let s = sum_by-IsPermutation (λ v. (1 + size costs sound d v) * 2561000000) (children_of costs u) (named (entries_of p)) order.here in
      let t = sum_times (λ v. 1 + size costs sound d v) (children_of costs u) in omega (arith, l, s, t, parts))
    where
      at : (depth : ℕ) (es : List (Entry Plan)) → AllByRecursion (λ v. u < v) (named es) → AllByRecursion (λ v. v < length costs.rows + 1) (named es)
          → cost_at tree prices p u back again ≡ listed_cost (rest_cost tree prices u back again) (prices.save * tree.blocks u) (λ hold. if hold then prices.load * tree.blocks u else back + again) false es → length costs.rows ≤ u + depth
          → ((d : ℕ) → length costs.rows ≤ u + suc d → cost_at tree prices p u back again ≤ size costs sound (suc d) u * 2561000000)
          → cost_at tree prices p u back again ≤ size costs sound depth u * 2561000000
      at zero [] above below parts deep next = omega (arith, parts)
      at zero (e ∷ es) (a, above) (b, below) parts deep next = absurd (omega (arith, a, b, deep))
      at (suc d) es above below parts deep next = next d deep

  pub cost_small : (p : Plan) → IsPlanOf (children_of costs) 0 p → peak_at blocks p 0 0 ≤ budget.most → cost_at tree prices p 0 0 0 < 2 ^ 63
  unfolding Fits
  cost_small p order peak =
      let f = induct Fits fits_by p (length costs.rows) 0 0 0 (omega arith) (omega arith) (omega arith) order peak in
      let s = size_fits costs sound (length costs.rows) 0 (omega arith) in let few = sound.few in omega (arith, f, s, few)

-- ---- one entry of the sum

pub cost_step : {X : Type 0} (each : Entry X → ℕ) (save : ℕ) (return : Bool → ℕ) (held : Bool) (es : List (Entry X)) (i left : ℕ) (e : Entry X) → i < length es → e ≡ get_or es i e → left + (i + 1) ≡ length es
    → listed_cost each save return held (drop i es) ≡ each e + (if e.hold && not held then save else 0) + (if nat_eq left 0 then 0 else return e.hold) + listed_cost each save return e.hold (drop (i + 1) es)
cost_step each save return held es i left e lt at counts =
    let cut : drop i es ≡ e ∷ drop (i + 1) es = drop_more es i e lt ∙ ap (λ x. x ∷ drop (i + 1) es) (sym at) in
    let last : nat_eq left 0 ≡ is_none (drop (i + 1) es) = empty_by_length (drop (i + 1) es) left (length-drop (i + 1) es ∙ omega arith) in
    ap (listed_cost each save return held) cut ∙ ap (λ b. each e + (if e.hold && not held then save else 0) + (if b then 0 else return e.hold) + listed_cost each save return e.hold (drop (i + 1) es)) (sym last)

-- the cost of an entry, from what its child is made again by
pub cost_one : (tree : Tree) (prices : Prices) (u back again : ℕ) (e : Entry Plan) (steps load under loads rest : ℕ) → steps ≡ tree.steps e.child → load ≡ (if e.hold then prices.load * tree.blocks u else 0)
    → under ≡ (if e.hold then steps else back + steps) → loads ≡ (if e.hold then load else again) → rest ≡ cost_at tree prices e.rest e.child under loads → steps + rest ≡ rest_cost tree prices u back again e
unfolding rest_cost
cost_one tree prices u back again e steps load under loads rest s l n d r = by e.hold l n d
  where
    by : (hold : Bool) → load ≡ (if hold then prices.load * tree.blocks u else 0) → under ≡ (if hold then steps else back + steps) → loads ≡ (if hold then load else again)
        → steps + rest ≡ tree.steps e.child + (if hold then cost_at tree prices e.rest e.child (tree.steps e.child) (prices.load * tree.blocks u) else cost_at tree prices e.rest e.child (back + tree.steps e.child) again)
    by true l n d =
        let a = r ∙ ap (λ x. cost_at tree prices e.rest e.child x loads) (n ∙ s) ∙ ap (cost_at tree prices e.rest e.child (tree.steps e.child)) (d ∙ l) in omega (arith, a, s)
    by false l n d =
        let a = r ∙ ap (λ x. cost_at tree prices e.rest e.child x loads) (n ∙ ap (λ x. back + x) s) ∙ ap (cost_at tree prices e.rest e.child (back + tree.steps e.child)) d in omega (arith, a, s)

-- what an entry adds to its own cost, from the prices that were paid
pub cost_added : (rate_save rate_load blocks back again : ℕ) (hold held last : Bool) (load save next added : ℕ) → load ≡ (if hold then rate_load * blocks else 0) → save ≡ (if hold && not held then rate_save * blocks else 0)
    → next ≡ (if hold then load else back + again) → added ≡ (if last then 0 else next)
    → save + added ≡ (if hold && not held then rate_save * blocks else 0) + (if last then 0 else if hold then rate_load * blocks else back + again)
cost_added rate_save rate_load blocks back again true held true load save next added l s n a = omega (arith, s, a)
cost_added rate_save rate_load blocks back again true held false load save next added l s n a = omega (arith, l, s, n, a)
cost_added rate_save rate_load blocks back again false held true load save next added l s n a = omega (arith, s, a)
cost_added rate_save rate_load blocks back again false held false load save next added l s n a = omega (arith, l, s, n, a)

-- what the entries from one on cost
abbrev pub cost_left : Costs → Budget → ℕ → ℕ → ℕ → Bool → List (Entry Plan) → ℕ
cost_left costs budget u back again =
    listed_cost (rest_cost (tree_of costs budget.block) (prices_of budget) u back again) (budget.save * blocks_of costs budget.block u) (λ hold. if hold then budget.load * blocks_of costs budget.block u else back + again)

pub cost_from_all : (costs : Costs) (budget : Budget) (u back again : ℕ) (p : Plan) (es : List (Entry Plan)) → es ≡ entries_of p → cost_left costs budget u back again false es ≡ cost_at (tree_of costs budget.block) (prices_of budget) p u back again
unfolding tree_of
cost_from_all costs budget u back again p es is = ap (cost_left costs budget u back again false) is ∙ sym (cost_parts (tree_of costs budget.block) (prices_of budget) p u back again)

-- what the sum knows at an entry
pub record CostAt (costs : Costs) (budget : Budget) (u back again total : ℕ) (held : Bool) (whole : ℕ) (es : List (Entry Plan)) (i left : ℕ) (e : Entry Plan) : Type 0 where
  pub entry : EntryOf costs u e
  pub steps : steps_of costs e.child ≤ 1000000
  pub own : e.hold ≡ true → blocks_of costs budget.block u ≤ 1024
  pub rest : peak_at (blocks_of costs budget.block) e.rest e.child 0 ≤ budget.most
  pub room : total + (rest_cost (tree_of costs budget.block) (prices_of budget) u back again e + ((if e.hold && not held then budget.save * blocks_of costs budget.block u else 0) + (if nat_eq left 0 then 0 else if e.hold then budget.load * blocks_of costs budget.block u else back + again))) ≤ whole
  pub next : total + (rest_cost (tree_of costs budget.block) (prices_of budget) u back again e + ((if e.hold && not held then budget.save * blocks_of costs budget.block u else 0) + (if nat_eq left 0 then 0 else if e.hold then budget.load * blocks_of costs budget.block u else back + again)))
      + cost_left costs budget u back again e.hold (drop (i + 1) es)
      ≡ whole

pub cost_now : (costs : Costs) (budget : Budget) (u back again total : ℕ) (held : Bool) (whole : ℕ) (p : Plan) → IsSound costs → IsBudget budget → IsPlanOf (children_of costs) u p → peak_at (blocks_of costs budget.block) p u 0 ≤ budget.most
    → (es : List (Entry Plan)) → es ≡ entries_of p → (i left : ℕ) (e : Entry Plan) → i < length es → e ≡ get_or es i e → left + (i + 1) ≡ length es
    → total + cost_left costs budget u back again held (drop i es) ≡ whole
    → CostAt costs budget u back again total held whole es i left e
cost_now costs budget u back again total held whole p sound limits order fits es is i left e lt at counts so =
    let a = entry_at costs u p sound order es is i e lt at in
    let r = room_at (blocks_of costs budget.block) p u (budget.most + 1) (omega (arith, fits)) es is i e lt at in
    let s = cost_step (rest_cost (tree_of costs budget.block) (prices_of budget) u back again) (budget.save * blocks_of costs budget.block u) (λ hold. if hold then budget.load * blocks_of costs budget.block u else back + again) held es i left e lt at counts in
    let few = limits.few in
    record {
      entry = a;
      steps = steps_small costs sound e.child;
      own = λ on. let o = r.own on in omega (arith, o, few);
      rest = let o = r.rest in omega (arith, o);
      room = omega (arith, s, so);
      next = omega (arith, s, so);
    }

-- all that the loop over the entries needs, from what was computed at an entry
pub record Turn (costs : Costs) (budget : Budget) (u back again total : ℕ) (held : Bool) (whole : ℕ) (es : List (Entry Plan)) (i left : ℕ) (e : Entry Plan) (steps save added under loads : ℕ) : Type 0 where
  pub order : IsPlanOf (children_of costs) e.child e.rest
  pub fits : peak_at (blocks_of costs budget.block) e.rest e.child 0 ≤ budget.most
  pub low : (under ≤ e.child * 1000000) × (loads ≤ 1024000000)
  pub small : cost_at (tree_of costs budget.block) (prices_of budget) e.rest e.child under loads ≤ whole
  pub room : total + (steps + cost_at (tree_of costs budget.block) (prices_of budget) e.rest e.child under loads + save + added) ≤ whole
  pub next : total + (steps + cost_at (tree_of costs budget.block) (prices_of budget) e.rest e.child under loads + save + added) + cost_left costs budget u back again e.hold (drop (i + 1) es) ≡ whole

pub turn : (costs : Costs) (budget : Budget) (u back again total : ℕ) (held : Bool) (whole : ℕ) (es : List (Entry Plan)) (i left : ℕ) (e : Entry Plan) (steps blocks load save next added under loads : ℕ) → CostAt costs budget u back again total held whole es i left e
    → (back ≤ u * 1000000) × (again ≤ 1024000000) → blocks ≡ blocks_of costs budget.block u → steps ≡ steps_of costs e.child → load ≡ (if e.hold then budget.load * blocks else 0) → load ≤ 1024000000
    → save ≡ (if e.hold && not held then budget.save * blocks else 0) → under ≡ (if e.hold then steps else back + steps) → loads ≡ (if e.hold then load else again)
    → next ≡ (if e.hold then load else back + again) → added ≡ (if nat_eq left 0 then 0 else next)
    → Turn costs budget u back again total held whole es i left e steps save added under loads
unfolding tree_of
turn costs budget u back again total held whole es i left e steps blocks load save next added under loads a low b s l few v n d x y =
    let own = cost_one (tree_of costs budget.block) (prices_of budget) u back again e steps load under loads _ s (l ∙ ap (λ k. if e.hold then budget.load * k else 0) b) n d refl in
    let more = cost_added budget.save budget.load (blocks_of costs budget.block u) back again e.hold held (nat_eq left 0) load save next added (l ∙ ap (λ k. if e.hold then budget.load * k else 0) b) (v ∙ ap (λ k. if e.hold && not held then budget.save * k else 0) b) x y in
    let room = a.room in let after = a.next in
    record {
      order = a.entry.order;
      fits = a.rest;
      low = (by e.hold n, loads_low e.hold d);
      small = omega (arith, own, more, room);
      room = omega (arith, own, more, room);
      next = omega (arith, own, more, after);
    }
  where
    by : (hold : Bool) → under ≡ (if hold then steps else back + steps) → under ≤ e.child * 1000000
    by true n = let t = a.steps in let k = a.entry.above in omega (arith, n, s, t, k)
    by false n = let t = a.steps in let k = a.entry.above in let m = low.0 in omega (arith, n, s, t, k, m)

    loads_low : (hold : Bool) → loads ≡ (if hold then load else again) → loads ≤ 1024000000
    loads_low true d = omega (arith, d, few)
    loads_low false d = let m = low.1 in omega (arith, d, m)
