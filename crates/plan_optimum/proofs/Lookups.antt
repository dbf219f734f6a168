-- What stands in the table, and what its entries give.
use Rattle.std.proofs.Common.{◌≡◌, ◌∙◌, ℕ, zero, suc, ◌+◌, ◌-◌, ◌*◌, ◌^◌, ◌<◌, ◌≤◌, List, [], ◌∷◌, ◌++◌, map, take, length, Bool, true, false, append_assoc, refl, sym, ap, subst, arith, inl, inr, ◌⊎◌, Some}
use Rattle.std.specs.Prelude.{if◌then◌else◌, sum_by}
use Rattle.std.specs.List.{slice_get, flat_map, range_with_len}
use Rattle.plan_type.specs.declared.budget.Budget.{Budget}
use Rattle.plan_type.specs.declared.costs.Costs.{Costs}
use Rattle.plan_type.specs.declared.offer.Offer.{Offer}
use Rattle.plan_type.specs.declared.offer.Fees.{Fees}
use Rattle.plan_type.specs.Budget.{IsBudget}
use Rattle.plan_type.specs.Costs.{IsSound, parent_of, tree_of, children_of, steps_of, blocks_of}
use Rattle.plan_type.specs.Prices.{prices_of}
use Rattle.plan_type.specs.Offers.{offer_at, offer_free, offer_held, offers_local}
use Rattle.plan_type.proofs.OfferLemmas.{local_offers}
use Rattle.plan_type.proofs.CostFits.{product}
use Rattle.plan_optimum.specs.declared.planner.Planner.{Planner}
use Rattle.plan_optimum.specs.declared.site.Site.{Site}
use Rattle.plan_optimum.specs.declared.site.Way.{Way}
use Rattle.plan_optimum.specs.declared.standing.Standing.{Standing}
use Rattle.plan_optimum.specs.Sites.{site_at, AreSites}
use Rattle.plan_optimum.specs.Entries.{value_of, column_of, row_of, row_in, row_at, number_in, entry_at, IsTable, IsReady, IsStanding, under, standing_way, value_at, choice_at, may_hold, offer_of, fees_of}
use Rattle.plan_optimum.proofs.Deeper.{value_next}
use Rattle.plan_optimum.proofs.Weights.{Small, small}
use Rattle.plan_optimum.proofs.SiteLemmas.{site_of, way_here, way_small, can_blocks, free_value, held_value}

-- ---- places in lists

get_left : {X : Type 0} (xs ys : List X) (i : ℕ) → i < length xs → slice_get (xs ++ ys) i ≡ slice_get xs i
get_left [] ys i lt = absurd (omega (arith, lt))
get_left (x ∷ xs) ys zero lt = refl
get_left (x ∷ xs) ys (suc i) lt = get_left xs ys i (omega (arith, lt))

get_right : {X : Type 0} (xs ys : List X) (i : ℕ) → slice_get (xs ++ ys) (length xs + i) ≡ slice_get ys i
get_right [] ys i = ap (slice_get ys) (let e : 0 + i ≡ i = omega arith in e)
get_right (x ∷ xs) ys i = ap (slice_get (x ∷ (xs ++ ys))) (let e : suc (length xs) + i ≡ suc (length xs + i) = omega arith in e) ∙ get_right xs ys i

get_last : {X : Type 0} (xs : List X) (y : X) (n : ℕ) → length xs ≡ n → slice_get (xs ++ y ∷ []) n ≡ Some y
get_last xs y n is = ap (slice_get (xs ++ y ∷ [])) (let e : n ≡ length xs + 0 = omega (arith, is) in e) ∙ get_right xs (y ∷ []) 0

range_get : {X : Type 0} (f : ℕ → X) (a n i : ℕ) → i < n → slice_get (map f (range_with_len a n)) i ≡ Some (f (a + i))
range_get f a zero i lt = absurd (omega (arith, lt))
range_get f a (suc n) zero lt = ap (λ k. Some (f k)) (let e : a ≡ a + 0 = omega arith in e)
range_get f a (suc n) (suc i) lt = range_get f (a + 1) n i (omega (arith, lt)) ∙ ap (λ k. Some (f k)) (let e : a + 1 + i ≡ a + suc i = omega arith in e)

range_length : {X : Type 0} (f : ℕ → X) (a n : ℕ) → length (map f (range_with_len a n)) ≡ n
range_length f a zero = refl
range_length f a (suc n) = ap suc (range_length f (a + 1) n)

times : (l m w : ℕ) → suc l * m + w ≡ m + (l * m + w)
times l m w = let e : suc l * m ≡ m + l * m = omega arith in omega (arith, e)

-- in lists of one length, one after another
flat_get : {X : Type 0} (f : X → List ℕ) (m : ℕ) → ((x : X) → length (f x) ≡ m) → (xs : List X) (l w : ℕ) (x : X) → slice_get xs l ≡ Some x → w < m → slice_get (flat_map f xs) (l * m + w) ≡ slice_get (f x) w
flat_get f m long [] l w x is lt = absurd (cc)
flat_get f m long (y ∷ xs) zero w x is lt =
    let e : y ≡ x = cc in let n = long y in
    ap (slice_get (f y ++ flat_map f xs)) (let z : 0 * m + w ≡ w = omega arith in z) ∙ get_left (f y) (flat_map f xs) w (omega (arith, n, lt)) ∙ ap (λ y. slice_get (f y) w) e
flat_get f m long (y ∷ xs) (suc l) w x is lt =
    ap (slice_get (f y ++ flat_map f xs)) (times l m w ∙ ap (λ k. k + (l * m + w)) (sym (long y))) ∙ get_right (f y) (flat_map f xs) (l * m + w) ∙ flat_get f m long xs l w x is lt

-- ---- the table

column_length : (costs : Costs) (budget : Budget) (u : ℕ) (way : Way) → length (column_of costs budget u way) ≡ budget.most + 1
unfolding column_of
column_length costs budget u way = range_length (value_of costs budget u way) 0 (budget.most + 1)

column_get : (costs : Costs) (budget : Budget) (u : ℕ) (way : Way) (used : ℕ) → used ≤ budget.most → slice_get (column_of costs budget u way) used ≡ Some (value_of costs budget u way used)
unfolding column_of
column_get costs budget u way used le =
    range_get (value_of costs budget u way) 0 (budget.most + 1) used (omega (arith, le)) ∙ ap (λ k. Some (value_of costs budget u way k)) (let e : 0 + used ≡ used = omega arith in e)

-- an entry is the least cost of the subtree that stands there
pub entry_is : (costs : Costs) (p : Planner) (s : Standing) → IsReady costs s.node p → IsStanding costs p s → entry_at costs p s ≡ value_at costs p s
entry_is costs p s ready stands =
    ap (λ row. number_in (slice_get row (s.level * (p.budget.most + 1) + s.used))) (ready.table s.node (omega arith) stands.node)
    ∙ ap number_in (flat_get (column_of costs p.budget s.node) (p.budget.most + 1) (column_length costs p.budget s.node) (site_at p.sites s.node).ways s.level s.used (standing_way p s) (way_here costs p s stands) (let u = stands.used in omega (arith, u))
    ∙ column_get costs p.budget s.node (standing_way p s) s.used stands.used)

either : (a b : ℕ) → (a ≤ b) ⊎ (b < a)
either zero b = inl (omega arith)
either (suc a) zero = inr (omega arith)
either (suc a) (suc b) = elim (either a b) [ inl le ↦ inl (omega (arith, le)) | inr lt ↦ inr (omega (arith, lt)) ]

empty_table : (costs : Costs) (budget : Budget) (sites : List Site) (table : List (List ℕ)) → IsTable costs budget sites (length costs.rows + 1) table
empty_table costs budget sites table u low top = absurd (omega (arith, low, top))

pub ready_empty : (costs : Costs) (p : Planner) → IsBudget p.budget → AreSites costs p.budget (length costs.rows + 1) p.sites → IsReady costs (length costs.rows + 1) p
ready_empty costs p limits sites = record { budget = limits; sites = sites; table = empty_table costs p.budget p.sites p.table }

-- one more row
pub table_push : (costs : Costs) (budget : Budget) (sites : List Site) (done : ℕ) (table : List (List ℕ)) (row : List ℕ) → length table ≡ done → done ≤ length costs.rows → IsTable costs budget sites (length costs.rows + 1 - done) table
    → row ≡ row_of costs budget (length costs.rows - done) (site_at sites (length costs.rows - done)).ways → IsTable costs budget sites (length costs.rows + 1 - (done + 1)) (table ++ row ∷ [])
table_push costs budget sites done table row count top old is u low high = by (either (length costs.rows + 1 - done) u)
  where
    by : (length costs.rows + 1 - done ≤ u) ⊎ (u < length costs.rows + 1 - done) → row_at costs (table ++ row ∷ []) u ≡ row_of costs budget u (site_at sites u).ways
    by (inl le) = ap row_in (get_left table (row ∷ []) (length costs.rows - u) (omega (arith, le, count, top, high))) ∙ old u le high
    by (inr lt) =
        let here : u ≡ length costs.rows - done = omega (arith, low, lt, top) in
        ap row_in (get_last table row (length costs.rows - u) (omega (arith, here, count, top))) ∙ is ∙ ap (λ k. row_of costs budget k (site_at sites k).ways) (sym here)

-- ---- offers

abbrev offer_by : ℕ → ℕ → ℕ → Offer
offer_by child free held = record { child = child; free = free; held = held }

pub offer_is : (costs : Costs) (from : ℕ) (p : Planner) (s : Standing) (v steps free held : ℕ) (can : Bool) → IsSound costs → IsReady costs from p → IsStanding costs p s → parent_of costs v ≡ Some s.node → can ≡ may_hold costs p s
    → steps ≡ steps_of costs v → free ≡ steps + value_at costs p (under p s v false)
    → held ≡ (if can then steps + value_at costs p (under p s v true) else free + (fees_of costs p s).back) → offer_by v free held ≡ offer_of costs p s v
unfolding tree_of
offer_is costs from p s v steps free held can sound ready stands child is e f h = by can is h
  where
    frees : free ≡ (choice_at costs p s).free v
    frees = let g = free_value costs from p s v sound ready stands child in omega (arith, e, f, g)

    by : (b : Bool) → b ≡ may_hold costs p s → held ≡ (if b then steps + value_at costs p (under p s v true) else free + (fees_of costs p s).back) → offer_by v free held ≡ offer_of costs p s v
    by true is h =
        let g = held_value costs from p s v sound ready stands child (sym is) in
        let helds : held ≡ (choice_at costs p s).held v = omega (arith, e, h, g) in
        ap (λ n. offer_by v n held) frees ∙ ap (offer_by v ((choice_at costs p s).free v)) helds ∙ ap (λ b. offer_at (choice_at costs p s) b v) is
    by false is h =
        let helds : held ≡ (choice_at costs p s).free v + (choice_at costs p s).return = omega (arith, h, frees) in
        ap (λ n. offer_by v n held) frees ∙ ap (offer_by v ((choice_at costs p s).free v)) helds ∙ ap (λ b. offer_at (choice_at costs p s) b v) is

load_small : (costs : Costs) (p : Planner) (s : Standing) → IsBudget p.budget → may_hold costs p s ≡ true → p.budget.load * (tree_of costs p.budget.block).blocks s.node ≤ 1024000000
unfolding tree_of
load_small costs p s limits can = let r = can_blocks costs p s can in let f = limits.few in product p.budget.load (blocks_of costs p.budget.block s.node) limits.load (omega (arith, r, f))

-- the sums over a node's offers are small
pub sums_small : (costs : Costs) (from : ℕ) (p : Planner) (s : Standing) (sound : IsSound costs) → IsReady costs from p → IsStanding costs p s
    → Small costs sound p.budget.block p.budget.most (prices_of p.budget) (length costs.rows - s.node - 1) s.node (standing_way p s).back (standing_way p s).again s.used (may_hold costs p s)
sums_small costs from p s sound ready stands =
    let w = way_small costs from p s ready stands in
    small costs sound p.budget.block p.budget.most (prices_of p.budget) (length costs.rows - s.node - 1) s.node (standing_way p s).back (standing_way p s).again s.used (may_hold costs p s) stands.node w.back w.again
    (load_small costs p s ready.budget)

-- the least cost over the offers is that of the subtree
pub value_is : (costs : Costs) (p : Planner) (s : Standing) → IsSound costs → IsStanding costs p s → offers_local (fees_of costs p s) (map (offer_of costs p s) (children_of costs s.node)) ≡ value_at costs p s
unfolding tree_of
value_is costs p s sound stands =
    local_offers (choice_at costs p s) (may_hold costs p s) (children_of costs s.node) ∙ sym (value_next costs p.budget s.node (standing_way p s) s.used sound stands.node)

pub ready_from : (costs : Costs) (from to : ℕ) (p : Planner) → IsReady costs from p → from ≤ to → IsReady costs to p
ready_from costs from to p ready le = record { budget = ready.budget; sites = ready.sites; table = λ u low top. ready.table u (omega (arith, low, le)) top }

pub if_true : (b : Bool) (x y h : ℕ) → b ≡ true → h ≡ x → h ≡ (if b then x else y)
if_true true x y h on is = is
if_true false x y h on is = absurd (cc)

pub if_false : (b : Bool) (x y h : ℕ) → b ≡ false → h ≡ y → h ≡ (if b then x else y)
if_false true x y h off is = absurd (cc)
if_false false x y h off is = is

pub mapped_push : {X : Type 0} (f : ℕ → X) (n : ℕ) → map f (range_with_len 0 (n + 1)) ≡ map f (range_with_len 0 n) ++ f n ∷ []
mapped_push f n = ap (λ k. map f (range_with_len 0 k)) (let e : n + 1 ≡ suc n = omega arith in e) ∙ more 0 n ∙ ap (λ k. map f (range_with_len 0 n) ++ f k ∷ []) (let e : 0 + n ≡ n = omega arith in e)
  where
    more : (a m : ℕ) → map f (range_with_len a (suc m)) ≡ map f (range_with_len a m) ++ f (a + m) ∷ []
    more a zero = ap (λ n. f n ∷ []) (let e : a ≡ a + 0 = omega arith in e)
    more a (suc m) = ap (λ l. f a ∷ l) (more (a + 1) m ∙ ap (λ n. map f (range_with_len (a + 1) m) ++ f n ∷ []) (let e : a + 1 + m ≡ a + suc m = omega arith in e))

pub flat_more : {X : Type 0} (f : X → List ℕ) (xs : List X) (i : ℕ) (x : X) → slice_get xs i ≡ Some x → flat_map f (take (i + 1) xs) ≡ flat_map f (take i xs) ++ f x
flat_more f [] i x is = absurd (cc)
flat_more f (y ∷ xs) zero x is = append_nil (f y) ∙ ap f (let e : y ≡ x = cc in e)
  where
    append_nil : (xs : List ℕ) → xs ++ [] ≡ xs
    append_nil [] = refl
    append_nil (x ∷ xs) = ap (λ l. x ∷ l) (append_nil xs)
flat_more f (y ∷ xs) (suc i) x is =
    ap (λ k. flat_map f (take k (y ∷ xs))) (let e : suc i + 1 ≡ suc (i + 1) = omega arith in e) ∙ ap (λ l. f y ++ l) (flat_more f xs i x is) ∙ sym (append_assoc (f y) (flat_map f (take i xs)) (f x))

-- what is known of the offers that stand there
pub record Offered (costs : Costs) (p : Planner) (s : Standing) (fees : Fees) (os : List Offer) : Type 0 where
  pub frees : sum_by (offer_free fees) os < 2 ^ 63
  pub helds : sum_by (offer_held fees) os < 2 ^ 63
  pub value : offers_local fees os ≡ value_at costs p s

pub offered : (costs : Costs) (from : ℕ) (p : Planner) (s : Standing) (fees : Fees) (os : List Offer) → IsSound costs → IsReady costs from p → IsStanding costs p s → fees ≡ fees_of costs p s → os ≡ map (offer_of costs p s) (children_of costs s.node) → Offered costs p s fees os
offered costs from p s fees os sound ready stands is are =
    let m = sums_small costs from p s sound ready stands in
    subst (λ f. Offered costs p s f os) (sym is) (subst (Offered costs p s (fees_of costs p s)) (sym are) (record { frees = m.frees; helds = m.helds; value = value_is costs p s sound stands }))
