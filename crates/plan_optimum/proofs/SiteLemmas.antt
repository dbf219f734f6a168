-- Nodes, their ways, and where their children stand.
use Rattle.std.proofs.Common.{◌≡◌, ◌∙◌, ℕ, zero, suc, ◌+◌, ◌-◌, ◌*◌, ◌^◌, ◌<◌, ◌≤◌, List, [], ◌∷◌, ◌++◌, map, length, get_or, Bool, true, false, ◌&&◌, refl, sym, ap, subst, arith, inl, inr, ◌⊎◌, Some}
use Rattle.std.specs.Prelude.{if◌then◌else◌, nat_le, nat_lt}
use Rattle.std.specs.List.{AllByRecursion, slice_get}
use Rattle.std.proofs.lemmas.Bool.Decides.{nat_tests}
use Rattle.plan_type.specs.declared.budget.Budget.{Budget}
use Rattle.plan_type.specs.declared.costs.Costs.{Costs}
use Rattle.plan_type.specs.declared.row.Row.{Row}
use Rattle.plan_type.specs.declared.offer.Fees.{Fees}
use Rattle.plan_type.specs.Budget.{IsBudget}
use Rattle.plan_type.specs.Costs.{IsSound, parent_in, parent_of, tree_of, children_of, steps_of, blocks_of}
use Rattle.plan_type.specs.Prices.{prices_of}
use Rattle.plan_type.proofs.Sound.{grows, parent_below, steps_small}
use Rattle.plan_type.proofs.CostFits.{product}
use Rattle.plan_optimum.specs.declared.planner.Planner.{Planner}
use Rattle.plan_optimum.specs.declared.site.Site.{Site}
use Rattle.plan_optimum.specs.declared.site.Way.{Way}
use Rattle.plan_optimum.specs.declared.standing.Standing.{Standing}
use Rattle.plan_optimum.specs.Bounds.{bound}
use Rattle.plan_optimum.specs.Sites.{no_way, site_in, way_on, way_from, ways_under, way_in, way_at, site_at, IsSmallWay, IsSite, AreSites}
use Rattle.plan_optimum.specs.Entries.{value_of, IsReady, IsStanding, under, standing_way, value_at, may_hold, fees_of}
use Rattle.plan_optimum.proofs.Deeper.{value_child}
use Rattle.plan_optimum.proofs.Weights.{bound_small}

-- ---- children

child_top : (costs : Costs) (u v : ℕ) → parent_of costs v ≡ Some u → v ≤ length costs.rows
child_top costs u zero is = absurd (cc)
child_top costs u (suc i) is = let lt = within costs.rows i is in omega (arith, lt)
  where
    within : (rows : List Row) (i : ℕ) → parent_in (slice_get rows i) ≡ Some u → i < length rows
    within [] i is = absurd (cc)
    within (x ∷ xs) zero is = omega arith
    within (x ∷ xs) (suc i) is = let lt = within xs i is in omega (arith, lt)

pub record ChildOf (costs : Costs) (u v : ℕ) : Type 0 where
  pub above : u < v
  pub below : v ≤ length costs.rows

pub child_of : (costs : Costs) (u v : ℕ) → IsSound costs → parent_of costs v ≡ Some u → ChildOf costs u v
child_of costs u v sound is = record { above = parent_below costs sound u v is; below = child_top costs u v is }

pub child_at : (costs : Costs) (u : ℕ) (vs : List ℕ) (i v : ℕ) → IsSound costs → vs ≡ children_of costs u → i < length vs → v ≡ get_or vs i v → parent_of costs v ≡ Some u
unfolding tree_of
child_at costs u vs i v sound is lt at =
    let g = grows costs 1 sound in
    let lt' : i < length (children_of costs u) = subst (λ l. i < length l) is lt in
    let e : v ≡ get_or (children_of costs u) i v = at ∙ ap (λ l. get_or l i v) is in
    subst (λ n. parent_of costs n ≡ Some u) (sym e) (g.parents u i v lt')

-- ---- ways

pub within : {X : Type 0} (xs : List X) (i : ℕ) → i < length xs → (x : X) × (slice_get xs i ≡ Some x)
within [] i lt = absurd (omega (arith, lt))
within (x ∷ xs) zero lt = (x, refl)
within (x ∷ xs) (suc i) lt = within xs i (omega (arith, lt))

pub held_at : {X : Type 0} (P : X → Type 0) (xs : List X) (i : ℕ) (x : X) → AllByRecursion P xs → slice_get xs i ≡ Some x → P x
held_at P [] i x h is = absurd (cc)
held_at P (y ∷ xs) zero x h is = subst P (let e : y ≡ x = cc in e) h.0
held_at P (y ∷ xs) (suc i) x h is = held_at P xs i x h.1 is

on_front : {X Y : Type 0} (f : X → Y) (xs : List X) (y : Y) (i : ℕ) (x : X) → slice_get xs i ≡ Some x → slice_get (map f xs ++ y ∷ []) i ≡ Some (f x)
on_front f [] y i x is = absurd (cc)
on_front f (z ∷ xs) y zero x is = ap (λ z. Some (f z)) (let e : z ≡ x = cc in e)
on_front f (z ∷ xs) y (suc i) x is = on_front f xs y i x is

at_end : {X Y : Type 0} (f : X → Y) (xs : List X) (y : Y) → slice_get (map f xs ++ y ∷ []) (length xs) ≡ Some y
at_end f [] y = refl
at_end f (x ∷ xs) y = at_end f xs y

pub one_more : {X Y : Type 0} (f : X → Y) (xs : List X) (y : Y) → length (map f xs ++ y ∷ []) ≡ length xs + 1
one_more f [] y = refl
one_more f (x ∷ xs) y = let i = one_more f xs y in omega (arith, i)

pub small_push : (costs : Costs) (budget : Budget) (u v : ℕ) (ws : List Way) → IsSound costs → IsBudget budget → u < v → AllByRecursion (IsSmallWay u) ws → AllByRecursion (IsSmallWay v) (ways_under costs budget u v ws)
small_push costs budget u v [] sound limits lt h = (record { back = (let s = steps_small costs sound v in omega (arith, s, lt)); again = by (nat_le (blocks_of costs budget.block u) budget.most) refl }, tt)
  where
    by : (b : Bool) → nat_le (blocks_of costs budget.block u) budget.most ≡ b → (if b then budget.load * blocks_of costs budget.block u else 0) ≤ 1024000000
    by true is = let le : blocks_of costs budget.block u ≤ budget.most = at_most (blocks_of costs budget.block u) budget.most is in let f = limits.few in product budget.load (blocks_of costs budget.block u) limits.load (omega (arith, le, f))
      where
        at_most : (a b : ℕ) → nat_le a b ≡ true → a ≤ b
        at_most a b is = grind (arith, nat_tests)
    by false is = omega arith
small_push costs budget u v (w ∷ ws) sound limits lt (h, more) =
    (record { back = (let s = steps_small costs sound v in let b = h.back in omega (arith, s, lt, b)); again = h.again }, small_push costs budget u v ws sound limits lt more)

-- ---- sites

pub site_of : (costs : Costs) (from u : ℕ) (p : Planner) → IsReady costs from p → u ≤ length costs.rows → IsSite costs p.budget p.sites u (site_at p.sites u)
site_of costs from u p ready top = ready.sites.each u (omega (arith, top))

-- the way of a standing is one of the node's
pub way_here : (costs : Costs) (p : Planner) (s : Standing) → IsStanding costs p s → slice_get (site_at p.sites s.node).ways s.level ≡ Some (standing_way p s)
way_here costs p s stands = let (w, is) = within (site_at p.sites s.node).ways s.level stands.level in is ∙ ap (λ o. Some (way_in o)) (sym is)

pub way_small : (costs : Costs) (from : ℕ) (p : Planner) (s : Standing) → IsReady costs from p → IsStanding costs p s → IsSmallWay s.node (standing_way p s)
way_small costs from p s ready stands =
    held_at (IsSmallWay s.node) (site_at p.sites s.node).ways s.level (standing_way p s) (site_of costs from s.node p ready stands.node).small (way_here costs p s stands)

pub value_small : (costs : Costs) (from : ℕ) (p : Planner) (s : Standing) → IsSound costs → IsReady costs from p → IsStanding costs p s → value_at costs p s < 2 ^ 62
unfolding value_of
value_small costs from p s sound ready stands =
    let w = way_small costs from p s ready stands in
    bound_small costs sound p.budget.block p.budget.most (prices_of p.budget) (length costs.rows - s.node) s.node (standing_way p s).back (standing_way p s).again s.used stands.node w.back w.again

-- ---- holding

pub can_blocks : (costs : Costs) (p : Planner) (s : Standing) → may_hold costs p s ≡ true → s.used + blocks_of costs p.budget.block s.node ≤ p.budget.most
unfolding tree_of
can_blocks costs p s on = grind (arith, nat_tests)

pub may_is : (costs : Costs) (p : Planner) (s : Standing) (r : Bool) (b : ℕ) → 0 < s.node → b ≡ blocks_of costs p.budget.block s.node → r ≡ nat_le (s.used + b) p.budget.most → r ≡ may_hold costs p s
unfolding tree_of
may_is costs p s r b some e is =
    let on : nat_lt 0 s.node ≡ true = positive s.node some in
    is ∙ ap (λ n. nat_le (s.used + n) p.budget.most) e ∙ sym (ap (λ t. t && nat_le (s.used + blocks_of costs p.budget.block s.node) p.budget.most) on)
  where
    positive : (n : ℕ) → 0 < n → nat_lt 0 n ≡ true
    positive n some = grind (arith, nat_tests)

abbrev fees_by : ℕ → ℕ → ℕ → Fees
fees_by back load save = record { back = back; load = load; save = save }

pub fees_is : (costs : Costs) (p : Planner) (s : Standing) (way : Way) (can : Bool) (blocks back load save : ℕ) → way ≡ standing_way p s → can ≡ may_hold costs p s → blocks ≡ blocks_of costs p.budget.block s.node
    → back ≡ way.back + way.again → load ≡ (if can then p.budget.load * blocks else 0) → save ≡ (if can then p.budget.save * blocks else 0) → fees_by back load save ≡ fees_of costs p s
unfolding tree_of
fees_is costs p s way can blocks back load save w c b k l v =
    ap (λ n. fees_by n load save) (k ∙ ap (λ w. w.back + w.again) w)
    ∙ ap (λ n. fees_by ((standing_way p s).back + (standing_way p s).again) n save) (l ∙ ap (λ x. if x then p.budget.load * blocks else 0) c ∙ ap (λ n. if may_hold costs p s then p.budget.load * n else 0) b)
    ∙ ap (λ n. fees_by ((standing_way p s).back + (standing_way p s).again) (fees_of costs p s).load n) (v ∙ ap (λ x. if x then p.budget.save * blocks else 0) c ∙ ap (λ n. if may_hold costs p s then p.budget.save * n else 0) b)

-- ---- where a child stands

abbrev pub way_by : ℕ → ℕ → Way
way_by back again = record { back = back; again = again }

module _ (costs : Costs) (from : ℕ) (p : Planner) (s : Standing) (v : ℕ) (sound : IsSound costs) (ready : IsReady costs from p) (stands : IsStanding costs p s) (child : parent_of costs v ≡ Some s.node) where
  ways_are : (site_at p.sites v).ways ≡ ways_under costs p.budget s.node v (site_at p.sites s.node).ways
  ways_are = (site_of costs from v p ready (child_of costs s.node v sound child).below).under s.node child

  count : length (site_at p.sites v).ways ≡ length (site_at p.sites s.node).ways + 1
  count = ap length ways_are ∙ one_more (way_on (steps_of costs v)) (site_at p.sites s.node).ways (way_from costs p.budget s.node v)

  pub stands_under : (hold : Bool) → (hold ≡ true → may_hold costs p s ≡ true) → IsStanding costs p (under p s v hold)
  stands_under true may = record {
    node = (child_of costs s.node v sound child).below;
    level = let c = count in omega (arith, c);
    used = let b = (site_of costs from s.node p ready stands.node).blocks in let r = can_blocks costs p s (may refl) in omega (arith, b, r);
  }
  stands_under false may = record {
    node = (child_of costs s.node v sound child).below;
    level = let c = count in let l = stands.level in omega (arith, c, l);
    used = stands.used;
  }

  pub way_free : standing_way p (under p s v false) ≡ way_on (steps_of costs v) (standing_way p s)
  way_free = ap way_in (ap (λ l. slice_get l s.level) ways_are ∙ on_front (way_on (steps_of costs v)) (site_at p.sites s.node).ways (way_from costs p.budget s.node v) s.level (standing_way p s) (way_here costs p s stands))

  way_under : standing_way p (under p s v true) ≡ way_from costs p.budget s.node v
  way_under = ap way_in (ap (λ l. slice_get l (length (site_at p.sites s.node).ways)) ways_are ∙ at_end (way_on (steps_of costs v)) (site_at p.sites s.node).ways (way_from costs p.budget s.node v))

  pub way_held : may_hold costs p s ≡ true → standing_way p (under p s v true) ≡ way_by (steps_of costs v) (p.budget.load * blocks_of costs p.budget.block s.node)
  way_held may =
      let r = can_blocks costs p s may in
      way_under ∙ ap (λ t. way_by (steps_of costs v) (if t then p.budget.load * blocks_of costs p.budget.block s.node else 0)) (at_most (blocks_of costs p.budget.block s.node) p.budget.most (omega (arith, r)))
    where
      at_most : (a b : ℕ) → a ≤ b → nat_le a b ≡ true
      at_most a b le = grind (arith, nat_tests)

  pub free_value : value_at costs p (under p s v false)
      ≡ bound (tree_of costs p.budget.block) (prices_of p.budget) p.budget.most (length costs.rows - s.node - 1) v ((standing_way p s).back + steps_of costs v) (standing_way p s).again s.used
  free_value =
      let c = child_of costs s.node v sound child in
      ap (λ w. value_of costs p.budget v w s.used) way_free ∙ value_child costs p.budget s.node v (way_on (steps_of costs v) (standing_way p s)) s.used sound c.above c.below

  pub held_value : may_hold costs p s ≡ true → value_at costs p (under p s v true)
      ≡ bound (tree_of costs p.budget.block) (prices_of p.budget) p.budget.most (length costs.rows - s.node - 1) v (steps_of costs v) (p.budget.load * blocks_of costs p.budget.block s.node) (s.used + blocks_of costs p.budget.block s.node)
  held_value may =
      let c = child_of costs s.node v sound child in
      let r = can_blocks costs p s may in
      let fit : nat_le (blocks_of costs p.budget.block s.node) p.budget.most ≡ true = at_most (blocks_of costs p.budget.block s.node) p.budget.most (omega (arith, r)) in
      let b = (site_of costs from s.node p ready stands.node).blocks in
      ap (λ w. value_of costs p.budget v w (s.used + (site_at p.sites s.node).blocks)) way_under
      ∙ ap (λ n. value_of costs p.budget v (way_from costs p.budget s.node v) (s.used + n)) b
      ∙ value_child costs p.budget s.node v (way_from costs p.budget s.node v) (s.used + blocks_of costs p.budget.block s.node) sound c.above c.below
      ∙ ap (λ t. bound (tree_of costs p.budget.block) (prices_of p.budget) p.budget.most (length costs.rows - s.node - 1) v (steps_of costs v) (if t then p.budget.load * blocks_of costs p.budget.block s.node else 0) (s.used + blocks_of costs p.budget.block s.node)) fit
    where
      at_most : (a b : ℕ) → a ≤ b → nat_le a b ≡ true
      at_most a b le = grind (arith, nat_tests)

abbrev pub standing_of : ℕ → ℕ → ℕ → Standing
standing_of node level used = record { node = node; level = level; used = used }

-- ---- one more site

left : {X : Type 0} (xs : List X) (y : X) (i : ℕ) → i < length xs → slice_get (xs ++ y ∷ []) i ≡ slice_get xs i
left [] y i lt = absurd (omega (arith, lt))
left (x ∷ xs) y zero lt = refl
left (x ∷ xs) y (suc i) lt = left xs y i (omega (arith, lt))

end_of : {X : Type 0} (xs : List X) (y : X) (n : ℕ) → length xs ≡ n → slice_get (xs ++ y ∷ []) n ≡ Some y
end_of [] y zero is = refl
end_of [] y (suc n) is = absurd (omega (arith, is))
end_of (x ∷ xs) y zero is = absurd (omega (arith, is))
end_of (x ∷ xs) y (suc n) is = end_of xs y n (omega (arith, is))

before_or_at : (u n : ℕ) → u < n + 1 → (u < n) ⊎ (u ≡ n)
before_or_at zero zero lt = inr refl
before_or_at zero (suc n) lt = inl (omega arith)
before_or_at (suc u) zero lt = absurd (omega (arith, lt))
before_or_at (suc u) (suc n) lt = elim (before_or_at u n (omega (arith, lt))) [ inl a ↦ inl (omega (arith, a)) | inr e ↦ inr (ap suc e) ]

no_parent : (costs : Costs) (q : ℕ) → parent_of costs 0 ≡ Some q → ⊥
no_parent costs q is = cc

pub sites_root : (costs : Costs) (budget : Budget) (sites : List Site) (site : Site) → sites ≡ [] ++ site ∷ [] → site ≡ record { children = children_of costs 0; ways = no_way ∷ []; blocks = blocks_of costs budget.block 0 } → AreSites costs budget 1 sites
sites_root costs budget sites site are is = record {
  count = ap length are;
  each = λ u lt. elim (before_or_at u 0 (omega (arith, lt))) [
    | inl never ↦ absurd (omega (arith, never))
    | inr e ↦ subst (λ u. IsSite costs budget sites u (site_at sites u)) (sym e) (subst (IsSite costs budget sites 0) (sym (ap (λ l. site_at l 0) are ∙ is)) (record {
      children = refl;
      blocks = refl;
      root = λ _. refl;
      under = λ q is. absurd (no_parent costs q is);
      small = (record { back = omega arith; again = omega arith }, tt);
      few = omega arith;
    }))
  ];
}

pub sites_push : (costs : Costs) (budget : Budget) (n q : ℕ) (sites now : List Site) (ways : List Way) (site : Site) → IsSound costs → IsBudget budget → AreSites costs budget n sites → 1 ≤ n → parent_of costs n ≡ Some q → now ≡ sites ++ site ∷ []
    → ways ≡ ways_under costs budget q n (site_at sites q).ways → site ≡ record { children = children_of costs n; ways = ways; blocks = blocks_of costs budget.block n } → AreSites costs budget (n + 1) now
sites_push costs budget n q sites now ways site sound limits known some parent are under is = record {
  count = ap length are ∙ longer sites ∙ ap (λ k. k + 1) known.count;
  each = λ u lt. elim (before_or_at u n lt) [ inl before ↦ old u before | inr e ↦ subst (λ u. IsSite costs budget now u (site_at now u)) (sym e) new ];
}
  where
    longer : (xs : List Site) → length (xs ++ site ∷ []) ≡ length xs + 1
    longer [] = refl
    longer (x ∷ xs) = let i = longer xs in omega (arith, i)

    same : (u : ℕ) → u < n → site_at now u ≡ site_at sites u
    same u lt = ap (λ l. site_at l u) are ∙ ap site_in (left sites site u (let c = known.count in omega (arith, lt, c)))

    here : site_at now n ≡ site
    here = ap (λ l. site_at l n) are ∙ ap site_in (end_of sites site n known.count)

    above : q < n
    above = parent_below costs sound q n parent

    old : (u : ℕ) → u < n → IsSite costs budget now u (site_at now u)
    old u lt =
        let k = known.each u lt in
        subst (IsSite costs budget now u) (sym (same u lt)) (record {
          children = k.children;
          blocks = k.blocks;
          root = k.root;
          under = λ r is. k.under r is ∙ ap (λ x. ways_under costs budget r u x.ways) (sym (same r (let b = parent_below costs sound r u is in omega (arith, b, lt))));
          small = k.small;
          few = k.few;
        })

    new : IsSite costs budget now n (site_at now n)
    new =
        let k = known.each q above in
        let w : site.ways ≡ ways_under costs budget q n (site_at sites q).ways = ap (λ x. x.ways) is ∙ under in
        let l = one_more (way_on (steps_of costs n)) (site_at sites q).ways (way_from costs budget q n) in
        let m = ap length w in let f = k.few in
        subst (IsSite costs budget now n) (sym here) (record {
          children = ap (λ x. x.children) is;
          blocks = ap (λ x. x.blocks) is;
          root = λ z. absurd (omega (arith, z, some));
          under = λ r is'. w ∙ ap (λ t. ways_under costs budget t n (site_at sites t).ways) (only q r parent is') ∙ ap (λ x. ways_under costs budget r n x.ways) (sym (same r (parent_below costs sound r n is')));
          small = subst (AllByRecursion (IsSmallWay n)) (sym w) (small_push costs budget q n (site_at sites q).ways sound limits above k.small);
          few = omega (arith, l, m, f, above);
        })
      where
        only : (a b : ℕ) → parent_of costs n ≡ Some a → parent_of costs n ≡ Some b → a ≡ b
        only a b x y = cc

pub small_item : (v : ℕ) (ws : List Way) (i : ℕ) (d : Way) → AllByRecursion (IsSmallWay v) ws → i < length ws → IsSmallWay v (get_or ws i d)
small_item v [] i d h lt = absurd (omega (arith, lt))
small_item v (x ∷ ws) zero d h lt = h.0
small_item v (x ∷ ws) (suc i) d h lt = small_item v ws i d h.1 (omega (arith, lt))

pub way_get : (sites : List Site) (u level : ℕ) → level < length (site_at sites u).ways → slice_get (site_at sites u).ways level ≡ Some (way_at sites u level)
way_get sites u level lt = let (w, is) = within (site_at sites u).ways level lt in is ∙ ap (λ o. Some (way_in o)) (sym is)
