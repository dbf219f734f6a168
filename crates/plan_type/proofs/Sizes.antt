-- How many nodes a subtree has: at most as many as there are above its root in number.
use Rattle.std.proofs.Common.{◌≡◌, ◌∙◌, ℕ, zero, suc, ◌+◌, ◌-◌, ◌<◌, ◌≤◌, ◌∷◌, length, Bool, true, false, cond, Option, None, Some, refl, ap, arith}
use Rattle.std.specs.Prelude.{if◌then◌else◌, sum_by, nat_le}
use Rattle.std.specs.List.{filter, range_with_len}
use Rattle.std.proofs.lemmas.List.Sums.{sum_by-cons, sum_by-le-sum_by}
use Rattle.std.proofs.lemmas.Bool.Decides.{nat_tests}
use Rattle.plan_type.specs.declared.costs.Costs.{Costs}
use Rattle.plan_type.specs.Costs.{IsSound, row_of, parent_of, is_child_in, children_of}
use Rattle.plan_type.proofs.Sound.{child_parent, parent_below}

-- a sum over numbers from one on
abbrev pub over : ℕ → ℕ → (ℕ → ℕ) → ℕ
over a zero f = 0
over a (suc n) f = f a + over (a + 1) n f

over_le : (a n : ℕ) (f g : ℕ → ℕ) → ((x : ℕ) → a ≤ x → f x ≤ g x) → over a n f ≤ over a n g
over_le a zero f g h = omega arith
over_le a (suc n) f g h = let i = over_le (a + 1) n f g (λ x low. h x (omega arith)) in let e = h a (omega arith) in omega (arith, i, e)

over_add : (a n : ℕ) (f g : ℕ → ℕ) → over a n (λ x. f x + g x) ≡ over a n f + over a n g
over_add a zero f g = refl
over_add a (suc n) f g = let i = over_add (a + 1) n f g in omega (arith, i)

over_kept : (p : ℕ → Bool) (f : ℕ → ℕ) (a n : ℕ) → sum_by f (filter p (range_with_len a n)) ≡ over a n (λ x. if p x then f x else 0)
over_kept p f a zero = refl
over_kept p f a (suc n) = by (p a) (over_kept p f (a + 1) n)
  where
    by : (b : Bool) → sum_by f (filter p (range_with_len (a + 1) n)) ≡ over (a + 1) n (λ x. if p x then f x else 0)
        → sum_by f (cond b (a ∷ filter p (range_with_len (a + 1) n)) (filter p (range_with_len (a + 1) n))) ≡ (if b then f a else 0) + over (a + 1) n (λ x. if p x then f x else 0)
    by true i = let e = sum_by-cons f a (filter p (range_with_len (a + 1) n)) in omega (arith, e, i)
    by false i = omega (arith, i)

-- what is 0 up to a place may be left out
over_from : (f : ℕ → ℕ) (a n k : ℕ) → ((x : ℕ) → a ≤ x → x < a + k → f x ≡ 0) → k ≤ n → over a n f ≡ over (a + k) (n - k) f
over_from f a n zero none le = ap (λ m. over m n f) (let e : a ≡ a + 0 = omega arith in e) ∙ ap (λ m. over (a + 0) m f) (let e : n ≡ n - 0 = omega arith in e)
over_from f a zero (suc k) none le = absurd (omega arith)
over_from f a (suc n) (suc k) none le =
    let i = over_from f (a + 1) n k (λ x low lt. none x (omega arith) (omega arith)) (omega arith) in
    let z = none a (omega arith) (omega arith) in
    let e : a + 1 + k ≡ a + suc k = omega arith in let g : n - k ≡ suc n - suc k = omega arith in
    let h = ap (λ m. over m (n - k) f) e ∙ ap (λ m. over (a + suc k) m f) g in omega (arith, i, z, h)

more : (p k s : ℕ) → p ≡ k + 1 → (if nat_le p k then 1 + s else 0) + (1 + s) ≤ (if nat_le p (k + 1) then 1 + s else 0)
more p k s is = grind (arith, nat_tests)

less : (p k s : ℕ) → (if nat_le p k then 1 + s else 0) + 0 ≤ (if nat_le p (k + 1) then 1 + s else 0)
less p k s = grind (arith, nat_tests)

first : (p k s : ℕ) → (if nat_le p k then 1 + s else 0) ≤ 1 + s
first p k s = grind (arith, nat_tests)

same : (p k s : ℕ) → p ≡ k → 1 + s ≤ (if nat_le p k then 1 + s else 0)
same p k s is = grind (arith, nat_tests)

abbrev is_child : Costs → ℕ → ℕ → Bool
is_child costs u v = is_child_in u (row_of costs v)

-- the parent's number, 0 where there is none
abbrev or_zero : Option ℕ → ℕ
or_zero None = 0
or_zero (Some u) = u

abbrev parent_at : Costs → ℕ → ℕ
parent_at costs v = or_zero (parent_of costs v)

child_at : (costs : Costs) (u v : ℕ) → is_child costs u v ≡ true → parent_at costs v ≡ u
child_at costs u v is = ap or_zero (child_parent u (row_of costs v) is)

parent_at_below : (costs : Costs) → IsSound costs → (v : ℕ) → 1 ≤ v → parent_at costs v < v
parent_at_below costs sound v low = by (parent_of costs v) refl
  where
    by : (o : Option ℕ) → parent_of costs v ≡ o → or_zero o < v
    by None is = omega arith
    by (Some u) is = parent_below costs sound u v is

module _ (costs : Costs) (sound : IsSound costs) where
  -- the nodes below a node, to a depth
  unfoldable pub size : ℕ → ℕ → ℕ
  size zero u = 0
  size (suc depth) u = sum_by (λ v. 1 + size depth v) (children_of costs u)

  grow : (depth u : ℕ) → size depth u ≤ size (suc depth) u
  unfolding size
  grow zero u = omega arith
  grow (suc depth) u = sum_by-le-sum_by (λ v. 1 + size depth v) (λ v. 1 + size (suc depth) v) (children_of costs u) (λ v. let i = grow depth v in omega (arith, i))

  -- the trees whose roots have numbers past k and parents up to k
  head : ℕ → ℕ → ℕ → ℕ
  head depth k v = if nat_le (parent_at costs v) k then 1 + size depth v else 0

  below : ℕ → ℕ → ℕ → ℕ
  below depth k v = if is_child costs k v then 1 + size depth v else 0

  no_child : (depth k v : ℕ) → 1 ≤ v → v ≤ k → below depth k v ≡ 0
  unfolding below
  no_child depth k v low le = by (is_child costs k v) refl
    where
      by : (b : Bool) → is_child costs k v ≡ b → (if b then 1 + size depth v else 0) ≡ 0
      by false is = refl
      by true is = let e = child_at costs k v is in let s = parent_at_below costs sound v low in absurd (omega (arith, e, s))

  both : (depth k v : ℕ) → head depth k v + below depth (k + 1) v ≤ head depth (k + 1) v
  unfolding head below
  both depth k v = by (is_child costs (k + 1) v) refl
    where
      by : (b : Bool) → is_child costs (k + 1) v ≡ b → (if nat_le (parent_at costs v) k then 1 + size depth v else 0) + (if b then 1 + size depth v else 0) ≤ (if nat_le (parent_at costs v) (k + 1) then 1 + size depth v else 0)
      by true is = let e = child_at costs (k + 1) v is in more (parent_at costs v) k (size depth v) e
      by false is = less (parent_at costs v) k (size depth v)

  one : (depth u v : ℕ) (b : Bool) → is_child costs u v ≡ b → below depth u v ≤ head depth u v
  unfolding head below
  one depth u v true is = let e = ap (λ b. if b then 1 + size depth v else 0) is in let p = child_at costs u v is in let m = same (parent_at costs v) u (size depth v) p in omega (arith, e, m)
  one depth u v false is = let e = ap (λ b. if b then 1 + size depth v else 0) is in omega (arith, e)

  under : (depth u : ℕ) → u ≤ length costs.rows → size depth u ≤ over (u + 1) (length costs.rows - u) (below depth u)
  unfolding size below
  under depth u le =
      let g = grow depth u in
      let a = over_kept (is_child costs u) (λ v. 1 + size depth v) 1 (length costs.rows) in
      let b = over_from (below depth u) 1 (length costs.rows) u (λ x low lt. no_child depth u x low (omega arith)) le in
      let e : 1 + u ≡ u + 1 = omega arith in
      let d = ap (λ m. over m (length costs.rows - u) (below depth u)) e in omega (arith, g, a, b, d)

  heads : (depth j k : ℕ) → k + j ≡ length costs.rows → over (k + 1) j (head depth k) ≤ j
  unfolding head
  heads depth zero k is = omega arith
  heads depth (suc j) k is =
      let i = heads depth j (k + 1) (omega arith) in
      let a = over_add (k + 1 + 1) j (head depth k) (below depth (k + 1)) in
      let b = over_le (k + 1 + 1) j (λ v. head depth k v + below depth (k + 1) v) (head depth (k + 1)) (λ v low. both depth k v) in
      let s = under depth (k + 1) (omega arith) in
      let e : length costs.rows - (k + 1) ≡ j = omega arith in
      let d = ap (λ m. over (k + 1 + 1) m (below depth (k + 1))) e in
      let f = first (parent_at costs (k + 1)) k (size depth (k + 1)) in
      omega (arith, i, a, b, s, d, f)

  pub size_fits : (depth u : ℕ) → u ≤ length costs.rows → size depth u ≤ length costs.rows - u
  size_fits depth u le =
      let s = under depth u le in
      let a = over_le (u + 1) (length costs.rows - u) (below depth u) (head depth u) (λ v low. child_head depth u v) in
      let h = heads depth (length costs.rows - u) u (omega arith) in
      omega (arith, s, a, h)
    where
      child_head : (depth u v : ℕ) → below depth u v ≤ head depth u v
      child_head depth u v = one depth u v (is_child costs u v) refl
