-- One entry of a plan of the class, and one step of the sum over the entries.
use Rattle.std.proofs.Common.{◌≡◌, ◌∙◌, ℕ, zero, suc, ◌+◌, ◌*◌, ◌^◌, ◌<◌, ◌≤◌, List, [], ◌∷◌, max, Bool, true, false, Some, leb, sym, ap, subst, arith, length, drop, get_or}
use Rattle.std.specs.Prelude.{if◌then◌else◌}
use Rattle.std.specs.List.{AllByRecursion}
use Rattle.std.proofs.lemmas.List.{drop_more}
use Rattle.std.proofs.lemmas.List.Sorted.{All-permutation}
use Rattle.std.proofs.lemmas.List.Elements.{recursion_from_All}
use Rattle.std.proofs.lemmas.Bool.Decides.{nat_tests}
use Rattle.plan_type.specs.declared.plan.Plan.{Plan, every-Plan}
use Rattle.plan_type.specs.declared.plan.Entry.{Entry}
use Rattle.plan_type.specs.declared.costs.Costs.{Costs}
use Rattle.plan_type.specs.Costs.{IsSound, tree_of, children_of, parent_of, steps_of}
use Rattle.plan_type.specs.Plan.{named, entries_of, Orders, LayerOrders, IsPlanOf, listed_work, work_at, greatest, peak_at, IsWithin}
use Rattle.plan_type.proofs.PlanParts.{rest_peak, under_parts}
use Rattle.plan_type.proofs.Works.{rest_work}
use Rattle.plan_type.proofs.Sound.{grows, steps_small}

-- what an entry of a plan of the class is
pub record EntryOf (costs : Costs) (u : ℕ) (e : Entry Plan) : Type 0 where
  pub above : u < e.child
  pub parent : parent_of costs e.child ≡ Some u
  pub most : e.child ≤ 512
  pub order : IsPlanOf (children_of costs) e.child e.rest

find : (costs : Costs) (u : ℕ) (es : List (Entry Plan)) → AllByRecursion (λ v. u < v) (named es) → AllByRecursion (λ v. parent_of costs v ≡ Some u) (named es) → AllByRecursion (λ v. v < length costs.rows + 1) (named es) → length costs.rows ≤ 512
    → AllByRecursion (λ e. Orders (children_of costs) e.child (entries_of e.rest)) es → AllByRecursion (λ e. every-Plan (LayerOrders (children_of costs)) e.rest) es
    → (i : ℕ) (d : Entry Plan) → i < length es → EntryOf costs u (get_or es i d)
find costs u [] above parents below few orders under i d lt = absurd (omega arith)
find costs u (e ∷ es) above parents below few orders under zero d lt = record { above = above.0; parent = parents.0; most = (let b = below.0 in omega (arith, b)); order = record { here = orders.0; under = under.0 } }
find costs u (e ∷ es) above parents below few orders under (suc i) d lt = find costs u es above.1 parents.1 below.1 few orders.1 under.1 i d (omega arith)

pub entry_at : (costs : Costs) (u : ℕ) (p : Plan) → IsSound costs → IsPlanOf (children_of costs) u p → (es : List (Entry Plan)) → es ≡ entries_of p
    → (i : ℕ) (e : Entry Plan) → i < length es → e ≡ get_or es i e → EntryOf costs u e
unfolding tree_of
entry_at costs u p sound order es is i e lt at =
    let g = grows costs 1 sound in
    let above = recursion_from_All (λ v. u < v) (named (entries_of p)) (All-permutation (λ v. u < v) (children_of costs u) (named (entries_of p)) order.here (g.above u)) in
    let parents = recursion_from_All (λ v. parent_of costs v ≡ Some u) (named (entries_of p)) (All-permutation (λ v. parent_of costs v ≡ Some u) (children_of costs u) (named (entries_of p)) order.here (g.parents u)) in
    let below = recursion_from_All (λ v. v < length costs.rows + 1) (named (entries_of p)) (All-permutation (λ v. v < length costs.rows + 1) (children_of costs u) (named (entries_of p)) order.here (g.below u)) in
    let (orders, under) = under_parts (children_of costs) p order.under in
    subst (EntryOf costs u) (sym (at ∙ ap (λ l. get_or l i e) is)) (find costs u (entries_of p) above parents below sound.few orders under i e (subst (λ l. i < length l) is lt))

pub work_step : {X : Type 0} (each : Entry X → ℕ) (back : ℕ) (es : List (Entry X)) (i : ℕ) (e : Entry X) → i < length es → e ≡ get_or es i e
    → listed_work each back (drop i es) ≡ each e + (if e.hold then 0 else if leb (length es) (i + 1) then 0 else back) + listed_work each back (drop (i + 1) es)
work_step each back [] i e lt at = absurd (omega arith)
work_step each back (x ∷ []) zero e lt at = ap (λ z. each z + (if z.hold then 0 else 0) + 0) (sym at)
work_step each back (x ∷ y ∷ xs) zero e lt at =
    let more : leb (suc (suc (length xs))) 1 ≡ false = grind (arith, nat_tests) in
    rw more (ap (λ z. each z + (if z.hold then 0 else back) + listed_work each back (y ∷ xs)) (sym at))
work_step each back (x ∷ xs) (suc i) e lt at =
    let same : leb (suc (length xs)) (suc i + 1) ≡ leb (length xs) (i + 1) = shift (length xs) i in
    let next : drop (suc i + 1) (x ∷ xs) ≡ drop (i + 1) xs = ap (λ n. drop n (x ∷ xs)) (up i) in
    rw (same, next) (work_step each back xs i e (omega arith) at)
  where
    up : (i : ℕ) → suc i + 1 ≡ suc (i + 1)
    up i = omega arith

    shift : (n i : ℕ) → leb (suc n) (suc i + 1) ≡ leb n (i + 1)
    shift n i = grind (arith, nat_tests)

-- what the sum over the entries knows at one of them
pub record At (costs : Costs) (u back total : ℕ) (es : List (Entry Plan)) (i : ℕ) (e : Entry Plan) : Type 0 where
  pub above : u < e.child
  pub most : e.child ≤ 512
  pub order : IsPlanOf (children_of costs) e.child e.rest
  pub steps : steps_of costs e.child ≤ 1000000
  pub room : total + (rest_work (steps_of costs) back e + (if e.hold then 0 else if leb (length es) (i + 1) then 0 else back)) < 2 ^ 63
  pub next : total + (rest_work (steps_of costs) back e + (if e.hold then 0 else if leb (length es) (i + 1) then 0 else back)) + listed_work (rest_work (steps_of costs) back) back (drop (i + 1) es)
      ≡ total + listed_work (rest_work (steps_of costs) back) back (drop i es)

pub at_one : (costs : Costs) (u back total : ℕ) (p : Plan) → IsSound costs → IsPlanOf (children_of costs) u p → (es : List (Entry Plan)) → es ≡ entries_of p
    → (i : ℕ) (e : Entry Plan) → i < length es → e ≡ get_or es i e → total + listed_work (rest_work (steps_of costs) back) back (drop i es) ≡ work_at (steps_of costs) p back
    → work_at (steps_of costs) p back < 2 ^ 63 → At costs u back total es i e
at_one costs u back total p sound order es is i e lt at whole small =
    let a = entry_at costs u p sound order es is i e lt at in
    let s = work_step (rest_work (steps_of costs) back) back es i e lt at in
    record { above = a.above; most = a.most; order = a.order; steps = steps_small costs sound e.child; room = omega (arith, s); next = omega (arith, s) }

pub greatest_step : {X : Type 0} (each : Entry X → ℕ) (used : ℕ) (es : List (Entry X)) (i : ℕ) (e : Entry X) → i < length es → e ≡ get_or es i e
    → greatest each used (drop i es) ≡ max (each e) (greatest each used (drop (i + 1) es))
greatest_step each used es i e lt at = ap (greatest each used) (drop_more es i e lt) ∙ ap (λ x. max (each x) (greatest each used (drop (i + 1) es))) (sym at)

-- the peak of an entry, from what is used under it
pub peak_one : (blocks : ℕ → ℕ) (u used : ℕ) (e : Entry Plan) (own before found : ℕ) → own ≡ blocks u → before ≡ (if e.hold then used + own else used) → found ≡ peak_at blocks e.rest e.child before
    → rest_peak blocks u used e ≡ found
unfolding rest_peak
peak_one blocks u used e own before found o b f = sym (f ∙ ap (peak_at blocks e.rest e.child) (b ∙ ap (λ n. if e.hold then used + n else used) o))

-- one more node above
pub within_more : (costs : Costs) (u v used own : ℕ) (hold : Bool) (before : ℕ) → IsWithin costs u used → parent_of costs v ≡ Some u → own ≤ 2 ^ 56 → before ≡ (if hold then used + own else used) → IsWithin costs v before
within_more costs u v used own hold before within parent small is = record { way = u ∷ within.way; climbs = (parent, within.climbs); low = by hold is }
  where
    by : (hold : Bool) → before ≡ (if hold then used + own else used) → before ≤ length (u ∷ within.way) * 2 ^ 56
    by true is = let l = within.low in omega (arith, l)
    by false is = let l = within.low in omega (arith, l)
