-- Past a node's room for depth the bound does not change; and the least cost of a node over its children's.
use Rattle.std.proofs.Common.{◌≡◌, ◌∙◌, ℕ, zero, suc, ◌+◌, ◌-◌, ◌*◌, ◌<◌, ◌≤◌, List, [], ◌∷◌, length, Bool, true, false, refl, sym, ap, arith}
use Rattle.std.specs.Prelude.{sum_by}
use Rattle.std.specs.List.{AllByRecursion}
use Rattle.std.proofs.lemmas.List.Sums.{sum_by-cons}
use Rattle.std.proofs.lemmas.List.Elements.{recursion_from_All}
use Rattle.plan_type.specs.declared.budget.Budget.{Budget}
use Rattle.plan_type.specs.declared.costs.Costs.{Costs}
use Rattle.plan_type.specs.Costs.{Tree, IsSound, tree_of, children_of}
use Rattle.plan_type.specs.Prices.{Prices, prices_of}
use Rattle.plan_type.specs.Choices.{Choice, other, with_last, least_by, all_free, local, can_hold}
use Rattle.plan_type.proofs.Sound.{Grows, grows}
use Rattle.plan_optimum.specs.declared.site.Way.{Way}
use Rattle.plan_optimum.specs.Bounds.{bound, choice}
use Rattle.plan_optimum.specs.Entries.{value_of}

sum_same : (f g : ℕ → ℕ) (vs : List ℕ) → AllByRecursion (λ v. f v ≡ g v) vs → sum_by f vs ≡ sum_by g vs
sum_same f g [] h = refl
sum_same f g (v ∷ vs) (h, more) = let a = sum_by-cons f v vs in let b = sum_by-cons g v vs in let i = sum_same f g vs more in omega (arith, a, b, i, h)

least_same : (f g : ℕ → ℕ) (vs : List ℕ) → AllByRecursion (λ v. f v ≡ g v) vs → least_by f vs ≡ least_by g vs
least_same f g [] h = refl
least_same f g (v ∷ []) (h, more) = h
least_same f g (v ∷ w ∷ vs) (h, more) = let i = least_same f g (w ∷ vs) more in omega (arith, h, i)

-- two choices that differ at no child
record Alike (c d : Choice) (v : ℕ) : Type 0 where
  free : c.free v ≡ d.free v
  held : c.held v ≡ d.held v

module _ (c d : Choice) (return : c.return ≡ d.return) (load : c.load ≡ d.load) (save : c.save ≡ d.save) where
  each : (f g : ℕ → ℕ) → ((v : ℕ) → Alike c d v → f v ≡ g v) → (vs : List ℕ) → AllByRecursion (Alike c d) vs → AllByRecursion (λ v. f v ≡ g v) vs
  each f g h [] alike = tt
  each f g h (v ∷ vs) (a, alike) = (h v a, each f g h vs alike)

  local_same : (can : Bool) (vs : List ℕ) → AllByRecursion (Alike c d) vs → local c can vs ≡ local d can vs
  local_same can vs alike = by can
    where
      free : all_free c vs ≡ all_free d vs
      free =
          let a = sum_same c.free d.free vs (each c.free d.free (λ v a. a.free) vs alike) in
          let b = ap (λ n. (length vs - 1) * n) return in omega (arith, a, b)

      by : (can : Bool) → local c can vs ≡ local d can vs
      by true =
          let s = sum_same (other c) (other d) vs (each (other c) (other d) (λ v a. let x = a.free in let y = a.held in omega (arith, x, y, return, load)) vs alike) in
          let l = least_same (with_last c vs) (with_last d vs) vs (each (with_last c vs) (with_last d vs) (λ v a. let x = a.free in let y = a.held in omega (arith, x, y, s, return, load)) vs alike) in
          let f = free in omega (arith, f, l, save)
      by false = free

pub nothing : (c : Choice) (can : Bool) → local c can [] ≡ 0
nothing c true = omega arith
nothing c false = omega arith

module _ (tree : Tree) (prices : Prices) (most end : ℕ) (grows : Grows tree end) where
  none_past : (u : ℕ) → end ≤ u + 1 → tree.children u ≡ []
  none_past u past = none (tree.children u) (recursion_from_All (λ v. u < v) (tree.children u) (grows.above u)) (recursion_from_All (λ v. v < end) (tree.children u) (grows.below u))
    where
      none : (vs : List ℕ) → AllByRecursion (λ v. u < v) vs → AllByRecursion (λ v. v < end) vs → vs ≡ []
      none [] above below = refl
      none (v ∷ vs) (a, above) (b, below) = absurd (omega (arith, a, b, past))

  deeper : (depth u back again used : ℕ) → end ≤ u + depth + 1 → bound tree prices most depth u back again used ≡ bound tree prices most (suc depth) u back again used
  unfolding bound
  deeper zero u back again used deep =
      sym (nothing (choice tree prices most zero u back again used) (can_hold tree most u used)) ∙ ap (local (choice tree prices most zero u back again used) (can_hold tree most u used)) (sym (none_past u (omega (arith, deep))))
  deeper (suc depth) u back again used deep =
      local_same (choice tree prices most depth u back again used) (choice tree prices most (suc depth) u back again used) refl refl refl (can_hold tree most u used) (tree.children u)
      (all (tree.children u) (recursion_from_All (λ v. u < v) (tree.children u) (grows.above u))
      (λ v lt. record {
        free = ap (λ n. tree.steps v + n) (deeper depth v (back + tree.steps v) again used (omega (arith, deep, lt)));
        held = ap (λ n. tree.steps v + n) (deeper depth v (tree.steps v) (prices.load * tree.blocks u) (used + tree.blocks u) (omega (arith, deep, lt)));
      }))
    where
      all : (vs : List ℕ) → AllByRecursion (λ v. u < v) vs → ((v : ℕ) → u < v → Alike (choice tree prices most depth u back again used) (choice tree prices most (suc depth) u back again used) v)
          → AllByRecursion (Alike (choice tree prices most depth u back again used) (choice tree prices most (suc depth) u back again used)) vs
      all [] above h = tt
      all (v ∷ vs) (a, above) h = (h v a, all vs above h)

  deeper_by : (more depth u back again used : ℕ) → end ≤ u + depth + 1 → bound tree prices most depth u back again used ≡ bound tree prices most (more + depth) u back again used
  deeper_by zero depth u back again used deep = ap (λ d. bound tree prices most d u back again used) (let e : depth ≡ 0 + depth = omega arith in e)
  deeper_by (suc more) depth u back again used deep =
      deeper_by more depth u back again used deep ∙ deeper (more + depth) u back again used (omega (arith, deep)) ∙ ap (λ d. bound tree prices most d u back again used) (let e : suc (more + depth) ≡ suc more + depth = omega arith in e)

  pub deeper_to : (depth far u back again used : ℕ) → end ≤ u + depth + 1 → depth ≤ far → bound tree prices most depth u back again used ≡ bound tree prices most far u back again used
  deeper_to depth far u back again used deep le =
      deeper_by (far - depth) depth u back again used deep ∙ ap (λ d. bound tree prices most d u back again used) (let e : far - depth + depth ≡ far = omega (arith, le) in e)

  pub bound_next : (rows u back again used : ℕ) → rows + 1 ≡ end → u ≤ rows → bound tree prices most (rows - u) u back again used ≡ local (choice tree prices most (rows - u - 1) u back again used) (can_hold tree most u used) (tree.children u)
  unfolding bound
  bound_next rows u back again used is top = by (rows - u) refl
    where
      by : (d : ℕ) → rows - u ≡ d → bound tree prices most d u back again used ≡ local (choice tree prices most (rows - u - 1) u back again used) (can_hold tree most u used) (tree.children u)
      by zero d = sym (nothing (choice tree prices most (rows - u - 1) u back again used) (can_hold tree most u used)) ∙ ap (local (choice tree prices most (rows - u - 1) u back again used) (can_hold tree most u used)) (sym (none_past u (omega (arith, d, is, top))))
      by (suc k) d = ap (λ k. local (choice tree prices most k u back again used) (can_hold tree most u used) (tree.children u)) (let e : k ≡ rows - u - 1 = omega (arith, d) in e)

-- the value of a child, as deep as its parent's choice looks
pub value_child : (costs : Costs) (budget : Budget) (u v : ℕ) (way : Way) (used : ℕ) → IsSound costs → u < v → v ≤ length costs.rows
    → value_of costs budget v way used ≡ bound (tree_of costs budget.block) (prices_of budget) budget.most (length costs.rows - u - 1) v way.back way.again used
unfolding value_of
value_child costs budget u v way used sound lt top =
    deeper_to (tree_of costs budget.block) (prices_of budget) budget.most (length costs.rows + 1) (grows costs budget.block sound) (length costs.rows - v) (length costs.rows - u - 1) v way.back way.again used (omega (arith, top)) (omega (arith, lt))

pub value_next : (costs : Costs) (budget : Budget) (u : ℕ) (way : Way) (used : ℕ) → IsSound costs → u ≤ length costs.rows
    → value_of costs budget u way used
    ≡ local (choice (tree_of costs budget.block) (prices_of budget) budget.most (length costs.rows - u - 1) u way.back way.again used) (can_hold (tree_of costs budget.block) budget.most u used) (children_of costs u)
unfolding value_of tree_of
value_next costs budget u way used sound top =
    bound_next (tree_of costs budget.block) (prices_of budget) budget.most (length costs.rows + 1) (grows costs budget.block sound) (length costs.rows) u way.back way.again used refl top
