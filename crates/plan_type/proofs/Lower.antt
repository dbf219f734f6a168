-- No plan of the class that fits costs less than what is claimed of its node, where each claim follows from others.
use Rattle.std.proofs.Common.{◌≡◌, ℕ, ◌+◌, ◌*◌, ◌<◌, ◌≤◌, List, [], ◌∷◌, Bool, true, false, refl, ap, arith, inl, inr, ◌⊎◌, eq-zero-or-pos}
use Rattle.std.specs.Prelude.{if◌then◌else◌}
use Rattle.std.specs.List.{AllByRecursion}
use Rattle.std.proofs.lemmas.List.Sorted.{All-permutation}
use Rattle.std.proofs.lemmas.List.Elements.{recursion_from_All, All-from_recursion}
use Rattle.std.proofs.lemmas.Bool.Decides.{nat_tests}
use Rattle.plan_type.specs.declared.plan.Plan.{Plan, every-Plan}
use Rattle.plan_type.specs.declared.plan.Entry.{Entry}
use Rattle.plan_type.specs.Costs.{Tree}
use Rattle.plan_type.proofs.Sound.{Grows}
use Rattle.plan_type.specs.Plan.{named, entries_of, Orders, LayerOrders, IsPlanOf, HoldsNone, greatest, peak_at}
use Rattle.plan_type.specs.Prices.{Prices, cost_at}
use Rattle.plan_type.specs.Choices.{can_hold, choice_by, Claims, Falls}
use Rattle.plan_type.proofs.PlanParts.{rest_cost, cost_parts, rest_peak, peak_parts, induct, under_parts, peak_above}
use Rattle.plan_type.proofs.Orders.{Above, local_lower}

module _ (tree : Tree) (prices : Prices) (most end : ℕ) (grows : Grows tree end) (claimed : Claims) (falls : Falls tree prices most claimed) where
  unfoldable Bounded : Plan → Type 0
  Bounded p = (u back again used n : ℕ) → claimed u back again used n → IsPlanOf tree.children u p → peak_at tree.blocks p u used ≤ most → (u ≡ 0 → HoldsNone (entries_of p))
      → n ≤ cost_at tree prices p u back again

  can_by : (u used : ℕ) → 0 < u → used + tree.blocks u ≤ most → can_hold tree most u used ≡ true
  can_by u used some fits = grind (arith, nat_tests)

  -- an entry that holds shows that its node may be held
  may_entry : (u used : ℕ) (e : Entry Plan) → (u ≡ 0 → e.hold ≡ false) → peak_at tree.blocks e.rest e.child (if e.hold then used + tree.blocks u else used) ≤ most → e.hold ≡ true → can_hold tree most u used ≡ true
  may_entry u used e none fits on =
      let a = peak_above tree.blocks e.rest e.child (if e.hold then used + tree.blocks u else used) in
      let b : (if e.hold then used + tree.blocks u else used) ≡ used + tree.blocks u = ap (λ b. if b then used + tree.blocks u else used) on in
      elim (eq-zero-or-pos u) [ inl z ↦ absurd (let off = none z in cc) | inr some ↦ can_by u used some (omega (arith, a, b, fits)) ]

  each_above : (u back again used : ℕ) (free held : ℕ → ℕ) (es : List (Entry Plan)) → (u ≡ 0 → HoldsNone es) → AllByRecursion (λ v. u < v) (named es)
      → AllByRecursion (λ v. claimed v (back + tree.steps v) again used (free v)) (named es)
      → (can_hold tree most u used ≡ true → AllByRecursion (λ v. claimed v (tree.steps v) (prices.load * tree.blocks u) (used + tree.blocks u) (held v)) (named es))
      → AllByRecursion (λ e. Orders tree.children e.child (entries_of e.rest)) es → AllByRecursion (λ e. every-Plan (LayerOrders tree.children) e.rest) es
      → AllByRecursion (λ e. Bounded e.rest) es → greatest (rest_peak tree.blocks u used) used es ≤ most
      → AllByRecursion (Above (choice_by tree prices u back again free held) (rest_cost tree prices u back again)) es
  unfolding Bounded rest_cost rest_peak
  each_above u back again used free held [] none below frees helds orders under bounds fits = tt
  each_above u back again used free held (e ∷ es) none (b, below) (f, frees) helds (o, orders) (n, under) (h, bounds) fits =
      (by e.hold (may_entry u used e (λ z. (none z).0) (omega arith)) (omega arith), each_above u back again used free held es (λ z. (none z).1) below frees (λ can. (helds can).1) orders under bounds (omega arith))
    where
      by : (hold : Bool) → (hold ≡ true → can_hold tree most u used ≡ true) → peak_at tree.blocks e.rest e.child (if hold then used + tree.blocks u else used) ≤ most
          → (if hold then tree.steps e.child + held e.child else tree.steps e.child + free e.child)
          ≤ tree.steps e.child + (if hold then cost_at tree prices e.rest e.child (tree.steps e.child) (prices.load * tree.blocks u) else cost_at tree prices e.rest e.child (back + tree.steps e.child) again)
      by true may fits =
          let i = h e.child (tree.steps e.child) (prices.load * tree.blocks u) (used + tree.blocks u) (held e.child) (helds (may refl)).0 (record { here = o; under = n }) fits (λ z. absurd (omega arith)) in omega (arith, i)
      by false may fits = let i = h e.child (back + tree.steps e.child) again used (free e.child) f (record { here = o; under = n }) fits (λ z. absurd (omega arith)) in omega (arith, i)

  may_hold : (u used : ℕ) (es : List (Entry Plan)) → 0 < u → greatest (rest_peak tree.blocks u used) used es ≤ most → HoldsNone es ⊎ (can_hold tree most u used ≡ true)
  unfolding rest_peak
  may_hold u used [] some fits = inl tt
  may_hold u used (e ∷ es) some fits = by e.hold refl (may_hold u used es some (omega arith))
    where
      by : (b : Bool) → e.hold ≡ b → HoldsNone es ⊎ (can_hold tree most u used ≡ true) → HoldsNone (e ∷ es) ⊎ (can_hold tree most u used ≡ true)
      by false is (inl none) = inl (is, none)
      by false is (inr can) = inr can
      by true is _ = inr (may_entry u used e (λ z. absurd (omega arith)) (omega arith) is)

  moved : (P : ℕ → Type 0) (u : ℕ) (p : Plan) → IsPlanOf tree.children u p → AllByRecursion P (tree.children u) → AllByRecursion P (named (entries_of p))
  moved P u p order h = recursion_from_All P (named (entries_of p)) (All-permutation P (tree.children u) (named (entries_of p)) order.here (All-from_recursion P (tree.children u) h))

  lower_by : (p : Plan) → AllByRecursion (λ e. Bounded e.rest) (entries_of p) → Bounded p
  unfolding Bounded
  lower_by p bounds u back again used n claim order fits none =
      let f = falls u back again used n claim in
      let below = recursion_from_All (λ v. u < v) (named (entries_of p)) (All-permutation (λ v. u < v) (tree.children u) (named (entries_of p)) order.here (grows.above u)) in
      let (orders, under) = under_parts tree.children p order.under in
      let parts = peak_parts tree.blocks p u used in
      let top : greatest (rest_peak tree.blocks u used) used (entries_of p) ≤ most = omega (arith, parts, fits) in
      let may : HoldsNone (entries_of p) ⊎ (can_hold tree most u used ≡ true) = elim (eq-zero-or-pos u) [ inl z ↦ inl (none z) | inr some ↦ may_hold u used (entries_of p) some top ] in
      let cost = cost_parts tree prices p u back again in
      let frees = moved (λ v. claimed v (back + tree.steps v) again used (f.free v)) u p order f.frees in
      let low = local_lower (choice_by tree prices u back again f.free f.held) (rest_cost tree prices u back again) (can_hold tree most u used) (tree.children u) (entries_of p) order.here
      (each_above u back again used f.free f.held (entries_of p) none below frees
      (λ can. moved (λ v. claimed v (tree.steps v) (prices.load * tree.blocks u) (used + tree.blocks u) (f.held v)) u p order (f.helds can)) orders under bounds top) may in
      let claim_low = f.low in
      omega (arith, cost, low, claim_low)

  -- every plan of the class that fits costs at least what is claimed
  pub lower : (p : Plan) (u back again used n : ℕ) → claimed u back again used n → IsPlanOf tree.children u p → peak_at tree.blocks p u used ≤ most → (u ≡ 0 → HoldsNone (entries_of p))
      → n ≤ cost_at tree prices p u back again
  unfolding Bounded
  lower = induct Bounded lower_by
