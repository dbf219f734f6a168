-- No bound of sound costs passes what a u64 holds.
use Rattle.std.proofs.Common.{◌≡◌, ℕ, zero, suc, ◌+◌, ◌-◌, ◌*◌, ◌^◌, ◌<◌, ◌≤◌, List, [], ◌∷◌, length, map, Bool, true, false, refl, ap, arith, mul-le-mul_right}
use Rattle.std.specs.Prelude.{sum_by}
use Rattle.std.specs.List.{AllByRecursion}
use Rattle.std.proofs.lemmas.List.Sums.{sum_by-cons}
use Rattle.std.proofs.lemmas.List.Elements.{recursion_from_All}
use Rattle.plan_type.specs.declared.costs.Costs.{Costs}
use Rattle.plan_type.specs.Costs.{Tree, IsSound, tree_of, children_of, steps_of}
use Rattle.plan_type.specs.Prices.{Prices}
use Rattle.plan_type.specs.Choices.{Choice, local, all_free, can_hold}
use Rattle.plan_type.specs.Offers.{offer_at, fees_at, offer_free, offer_held}
use Rattle.plan_type.proofs.Sound.{grows, steps_small}
use Rattle.plan_type.proofs.Sizes.{size, size_fits}
use Rattle.plan_type.proofs.OfferLemmas.{sum_mapped, each_more}
use Rattle.plan_optimum.specs.Bounds.{bound, choice}

sum_le : (f g : ℕ → ℕ) (vs : List ℕ) → AllByRecursion (λ v. f v ≤ g v) vs → sum_by f vs ≤ sum_by g vs
sum_le f g [] h = omega arith
sum_le f g (v ∷ vs) (h, more) = let a = sum_by-cons f v vs in let b = sum_by-cons g v vs in let i = sum_le f g vs more in omega (arith, a, b, i, h)

sum_times : (f : ℕ → ℕ) (vs : List ℕ) → sum_by (λ v. f v * 1537000000) vs ≡ sum_by f vs * 1537000000
sum_times f [] = refl
sum_times f (v ∷ vs) = let a = sum_by-cons (λ v. f v * 1537000000) v vs in let b = sum_by-cons f v vs in let i = sum_times f vs in omega (arith, a, b, i)

local_free : (c : Choice) (can : Bool) (vs : List ℕ) → local c can vs ≤ sum_by (λ v. c.free v + c.return) vs
local_free c can vs =
    let a = each_more c.free c.return vs in
    let m = mul-le-mul_right c.return (let e : length vs - 1 ≤ length vs = omega arith in e) in
    by can (omega (arith, a, m))
  where
    by : (can : Bool) → all_free c vs ≤ sum_by (λ v. c.free v + c.return) vs → local c can vs ≤ sum_by (λ v. c.free v + c.return) vs
    by true h = omega (arith, h)
    by false h = h

module _ (costs : Costs) (sound : IsSound costs) (block most : ℕ) (prices : Prices) where
  abbrev tree : Tree
  tree = tree_of costs block

  unfoldable Fits : ℕ → Type 0
  Fits depth = (u back again used : ℕ) → u ≤ 512 → back ≤ u * 1000000 → again ≤ 1024000000 → bound tree prices most depth u back again used ≤ size costs sound depth u * 1537000000

  -- what each child costs, with a return after it
  each : (depth u more plus again used : ℕ) → Fits depth → more ≤ u * 1000000 → again ≤ 1024000000 → plus ≤ 1536000000 → (vs : List ℕ) → AllByRecursion (λ v. u < v) vs → AllByRecursion (λ v. v < length costs.rows + 1) vs
      → AllByRecursion (λ v. tree.steps v + bound tree prices most depth v (more + tree.steps v) again used + plus ≤ (1 + size costs sound depth v) * 1537000000) vs
  unfolding Fits tree_of
  each depth u more plus again used fits low few small [] above below = tt
  each depth u more plus again used fits low few small (v ∷ vs) (a, above) (b, below) =
      let rows = sound.few in let s = steps_small costs sound v in
      let i = fits v (more + steps_of costs v) again used (omega (arith, rows, b)) (omega (arith, s, low, a)) few in
      (omega (arith, i, s, small), each depth u more plus again used fits low few small vs above below)

  paid : (depth u more plus again used : ℕ) → Fits depth → more ≤ u * 1000000 → again ≤ 1024000000 → plus ≤ 1536000000
      → sum_by (λ v. tree.steps v + bound tree prices most depth v (more + tree.steps v) again used + plus) (children_of costs u) ≤ size costs sound (suc depth) u * 1537000000
  unfolding size tree_of
  paid depth u more plus again used fits low few small =
      let g = grows costs block sound in
      let e = each depth u more plus again used fits low few small (children_of costs u) (recursion_from_All (λ v. u < v) (children_of costs u) (g.above u)) (recursion_from_All (λ v. v < length costs.rows + 1) (children_of costs u) (g.below u)) in
      let a = sum_le (λ v. tree.steps v + bound tree prices most depth v (more + tree.steps v) again used + plus) (λ v. (1 + size costs sound depth v) * 1537000000) (children_of costs u) e in
      let b = sum_times (λ v. 1 + size costs sound depth v) (children_of costs u) in omega (arith, a, b)

  fits_all : (depth : ℕ) → Fits depth
  unfolding Fits bound tree_of
  fits_all zero u back again used top low few = omega arith
  fits_all (suc depth) u back again used top low few =
      let p = paid depth u back (back + again) again used (fits_all depth) low few (omega (arith, low, few, top)) in
      let l = local_free (choice tree prices most depth u back again used) (can_hold tree most u used) (children_of costs u) in
      omega (arith, p, l)

  pub bound_small : (depth u back again used : ℕ) → u ≤ length costs.rows → back ≤ u * 1000000 → again ≤ 1024000000 → bound tree prices most depth u back again used < 2 ^ 62
  unfolding Fits
  bound_small depth u back again used top low few =
      let rows = sound.few in let f = fits_all depth u back again used (omega (arith, top, rows)) low few in let s = size_fits costs sound depth u top in omega (arith, f, s, rows)

  paid_small : (depth u more plus again used : ℕ) → u ≤ length costs.rows → more ≤ u * 1000000 → again ≤ 1024000000 → plus ≤ 1536000000
      → sum_by (λ v. tree.steps v + bound tree prices most depth v (more + tree.steps v) again used + plus) (children_of costs u) < 2 ^ 62
  paid_small depth u more plus again used top low few small =
      let rows = sound.few in let f = paid depth u more plus again used (fits_all depth) low few small in let s = size_fits costs sound (suc depth) u top in omega (arith, f, s, rows)

  -- the sums over a node's offers
  pub record Small (depth u back again used : ℕ) (can : Bool) : Type 0 where
    pub frees : sum_by (offer_free (fees_at (choice tree prices most depth u back again used) can)) (map (offer_at (choice tree prices most depth u back again used) can) (children_of costs u)) < 2 ^ 63
    pub helds : sum_by (offer_held (fees_at (choice tree prices most depth u back again used) can)) (map (offer_at (choice tree prices most depth u back again used) can) (children_of costs u)) < 2 ^ 63

  frees : (depth u back again used : ℕ) (can : Bool) → u ≤ length costs.rows → back ≤ u * 1000000 → again ≤ 1024000000
      → sum_by (offer_free (fees_at (choice tree prices most depth u back again used) can)) (map (offer_at (choice tree prices most depth u back again used) can) (children_of costs u)) < 2 ^ 62
  frees depth u back again used can top low few =
      let c = choice tree prices most depth u back again used in
      let rows = sound.few in
      let p = paid_small depth u back (back + again) again used top low few (omega (arith, low, few, top, rows)) in
      let s = sum_mapped (offer_free (fees_at c can)) (offer_at c can) (λ v. tree.steps v + bound tree prices most depth v (back + tree.steps v) again used + (back + again)) (λ v. refl) (children_of costs u) in
      omega (arith, p, s)

  pub small : (depth u back again used : ℕ) (can : Bool) → u ≤ length costs.rows → back ≤ u * 1000000 → again ≤ 1024000000 → (can ≡ true → prices.load * tree.blocks u ≤ 1024000000) → Small depth u back again used can
  small depth u back again used true top low few loads =
      let c = choice tree prices most depth u back again used in
      let f = frees depth u back again used true top low few in
      let l = loads refl in
      let p = paid_small depth u 0 (prices.load * tree.blocks u) (prices.load * tree.blocks u) (used + tree.blocks u) top (omega arith) l (omega (arith, l)) in
      let s = sum_mapped (offer_held (fees_at c true)) (offer_at c true) (λ v. tree.steps v + bound tree prices most depth v (0 + tree.steps v) (prices.load * tree.blocks u) (used + tree.blocks u) + prices.load * tree.blocks u) (λ v. same v) (children_of costs u) in
      record { frees = omega (arith, f); helds = omega (arith, p, s) }
    where
      same : (v : ℕ) → tree.steps v + bound tree prices most depth v (tree.steps v) (prices.load * tree.blocks u) (used + tree.blocks u) + prices.load * tree.blocks u ≡ tree.steps v + bound tree prices most depth v (0 + tree.steps v) (prices.load * tree.blocks u) (used + tree.blocks u) + prices.load * tree.blocks u
      same v = ap (λ n. tree.steps v + bound tree prices most depth v n (prices.load * tree.blocks u) (used + tree.blocks u) + prices.load * tree.blocks u) (let e : tree.steps v ≡ 0 + tree.steps v = omega arith in e)
  small depth u back again used false top low few loads =
      let c = choice tree prices most depth u back again used in
      let f = frees depth u back again used false top low few in
      let s = sum_mapped (offer_held (fees_at c false)) (offer_at c false) (λ v. c.free v + c.return) (λ v. omega arith) (children_of costs u) in
      let t = sum_mapped (offer_free (fees_at c false)) (offer_at c false) (λ v. c.free v + c.return) (λ v. refl) (children_of costs u) in
      record { frees = omega (arith, f); helds = omega (arith, f, s, t) }
