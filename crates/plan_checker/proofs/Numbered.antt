-- Lists of numbers with the same members, each once, are orders of one another.
use Rattle.std.proofs.Common.{◌≡◌, ◌∙◌, ℕ, zero, suc, ◌+◌, ◌<◌, ◌≤◌, ◌⊎◌, List, [], ◌∷◌, ◌++◌, Bool, true, false, cond, ◌||◌, refl, sym, ap, subst, arith, inl, inr}
use Rattle.std.specs.Prelude.{◌==◌, IsPermutation}
use Rattle.std.specs.List.{filter, range_with_len}
use Rattle.std.proofs.lemmas.List.Sorted.{IsPermutation-refl, IsPermutation-sym, IsPermutation-cons, IsPermutation-middle, IsPermutation-trans}
use Rattle.plan_checker.proofs.Owners.{same_node, equal_node, or_true, or_cases, or_neither, both}

abbrev pub has : ℕ → List ℕ → Bool
has v [] = false
has v (x ∷ xs) = (x == v) || has v xs

abbrev pub Once : List ℕ → Type 0
Once [] = Unit {0}
Once (x ∷ xs) = (has x xs ≡ false) × Once xs

has_append : (v : ℕ) (xs ys : List ℕ) → has v (xs ++ ys) ≡ (has v xs || has v ys)
has_append v [] ys = refl
has_append v (x ∷ xs) ys = ap (λ b. (x == v) || b) (has_append v xs ys) ∙ assoc (x == v) (has v xs) (has v ys)
  where
    assoc : (a b c : Bool) → (a || (b || c)) ≡ ((a || b) || c)
    assoc true b c = refl
    assoc false b c = refl

-- a member and what stands around it
record Around (x : ℕ) (ys : List ℕ) : Type 0 where
  left : List ℕ
  right : List ℕ
  is : ys ≡ left ++ x ∷ right

around : (x : ℕ) (ys : List ℕ) → has x ys ≡ true → Around x ys
around x [] h = absurd (cc)
around x (y ∷ ys) h = by (y == x) refl h (around x ys)
  where
    by : (b : Bool) → (y == x) ≡ b → (b || has x ys) ≡ true → (has x ys ≡ true → Around x ys) → Around x (y ∷ ys)
    by true is h more = record { left = []; right = ys; is = ap (λ n. n ∷ ys) (equal_node y x is) }
    by false is h more = let a = more h in record { left = y ∷ a.left; right = a.right; is = ap (λ l. y ∷ l) a.is }

once_without : (x : ℕ) (left right : List ℕ) → Once (left ++ x ∷ right) → Once (left ++ right) × (has x (left ++ right) ≡ false)
once_without x [] right (new, once) = (once, new)
once_without x (l ∷ ls) right (new, once) =
    let (more, absent) = once_without x ls right once in
    let (a, b) = or_neither (has l ls) (has l (x ∷ right)) (sym (has_append l ls (x ∷ right)) ∙ new) in
    let (differ, c) = or_neither (x == l) (has l right) b in
    ((has_append l ls right ∙ ap (λ t. t || has l right) a ∙ c, more), ap (λ t. t || has x (ls ++ right)) (flip x l differ) ∙ absent)
  where
    flip : (x l : ℕ) → (x == l) ≡ false → (l == x) ≡ false
    flip x l h = by (l == x) refl
      where
        by : (b : Bool) → (l == x) ≡ b → b ≡ false
        by true is = absurd (both (x == l) (subst (λ n. (n == l) ≡ true) (equal_node l x is) (same_node l)) h)
        by false is = refl

pub orders : (xs ys : List ℕ) → Once xs → Once ys → ((v : ℕ) → has v xs ≡ true → has v ys ≡ true) → ((v : ℕ) → has v ys ≡ true → has v xs ≡ true) → IsPermutation xs ys
orders [] [] a b to from = IsPermutation-refl []
orders [] (y ∷ ys) a b to from = absurd (let h = from y (ap (λ t. t || has y ys) (same_node y)) in cc)
orders (x ∷ xs) ys (new, once) b to from =
    let found = around x ys (to x (ap (λ t. t || has x xs) (same_node x))) in
    let (rest_once, absent) = once_without x found.left found.right (subst Once found.is b) in
    let more = orders xs (found.left ++ found.right) once rest_once (λ v h. inward found v h) (λ v h. outward found absent v h) in
    subst (IsPermutation (x ∷ xs)) (sym found.is)
    (IsPermutation-trans (x ∷ xs) (x ∷ (found.left ++ found.right)) (found.left ++ x ∷ found.right) (IsPermutation-cons x xs (found.left ++ found.right) more)
    (IsPermutation-sym (found.left ++ x ∷ found.right) (x ∷ (found.left ++ found.right)) (IsPermutation-middle found.left x found.right)))
  where
    inward : (found : Around x ys) (v : ℕ) → has v xs ≡ true → has v (found.left ++ found.right) ≡ true
    inward found v h = by (or_cases (has v found.left) (has v (x ∷ found.right)) (sym (has_append v found.left (x ∷ found.right)) ∙ sym (ap (has v) found.is) ∙ to v (or_true (x == v) (has v xs) h)))
      where
        last : ((x == v) ≡ true) ⊎ (has v found.right ≡ true) → has v (found.left ++ found.right) ≡ true
        last (inl is) = absurd (both (has v xs) h (subst (λ n. has n xs ≡ false) (equal_node x v is) new))
        last (inr r) = has_append v found.left found.right ∙ or_true (has v found.left) (has v found.right) r

        by : (has v found.left ≡ true) ⊎ (has v (x ∷ found.right) ≡ true) → has v (found.left ++ found.right) ≡ true
        by (inl l) = has_append v found.left found.right ∙ ap (λ t. t || has v found.right) l
        by (inr r) = last (or_cases (x == v) (has v found.right) r)

    outward : (found : Around x ys) → has x (found.left ++ found.right) ≡ false → (v : ℕ) → has v (found.left ++ found.right) ≡ true → has v xs ≡ true
    outward found absent v h = by (or_cases (x == v) (has v xs) (from v (ap (has v) found.is ∙ has_append v found.left (x ∷ found.right) ∙ wider (or_cases (has v found.left) (has v found.right) (sym (has_append v found.left found.right) ∙ h)))))
      where
        wider : (has v found.left ≡ true) ⊎ (has v found.right ≡ true) → (has v found.left || has v (x ∷ found.right)) ≡ true
        wider (inl l) = ap (λ t. t || has v (x ∷ found.right)) l
        wider (inr r) = or_true (has v found.left) (has v (x ∷ found.right)) (or_true (x == v) (has v found.right) r)

        by : ((x == v) ≡ true) ⊎ (has v xs ≡ true) → has v xs ≡ true
        by (inl is) = absurd (both (has v (found.left ++ found.right)) h (subst (λ n. has n (found.left ++ found.right) ≡ false) (equal_node x v is) absent))
        by (inr there) = there

-- ---- the numbers of a range that pass a test

pub has_kept : (p : ℕ → Bool) (a n v : ℕ) → a ≤ v → v < a + n → p v ≡ true → has v (filter p (range_with_len a n)) ≡ true
has_kept p a zero v low high is = absurd (omega arith)
has_kept p a (suc n) v low high is = by (a == v) refl (λ l. has_kept p (a + 1) n v l (omega arith) is)
  where
    kept : (b : Bool) → p a ≡ b → a ≡ v → has v (cond b (a ∷ filter p (range_with_len (a + 1) n)) (filter p (range_with_len (a + 1) n))) ≡ true
    kept true h e = ap (λ t. t || has v (filter p (range_with_len (a + 1) n))) (subst (λ k. (a == k) ≡ true) e (same_node a))
    kept false h e = absurd (both (p v) is (subst (λ k. p k ≡ false) e h))

    later : (b : Bool) → has v (filter p (range_with_len (a + 1) n)) ≡ true → has v (cond b (a ∷ filter p (range_with_len (a + 1) n)) (filter p (range_with_len (a + 1) n))) ≡ true
    later true h = or_true (a == v) _ h
    later false h = h

    past : (a == v) ≡ false → a + 1 ≤ v
    past h = above (cases a v low)
      where
        cases : (a v : ℕ) → a ≤ v → (a ≡ v) ⊎ (a + 1 ≤ v)
        cases a v le = grind arith

        above : (a ≡ v) ⊎ (a + 1 ≤ v) → a + 1 ≤ v
        above (inl e) = absurd (both (a == v) (subst (λ k. (a == k) ≡ true) e (same_node a)) h)
        above (inr le) = le

    by : (b : Bool) → (a == v) ≡ b → (a + 1 ≤ v → has v (filter p (range_with_len (a + 1) n)) ≡ true) → has v (filter p (range_with_len a (suc n))) ≡ true
    by true h more = kept (p a) refl (equal_node a v h)
    by false h more = later (p a) (more (past h))

pub kept_has : (p : ℕ → Bool) (a n v : ℕ) → has v (filter p (range_with_len a n)) ≡ true → (p v ≡ true) × (a ≤ v)
kept_has p a zero v h = absurd (cc)
kept_has p a (suc n) v h = by (p a) refl h (kept_has p (a + 1) n v)
  where
    by : (b : Bool) → p a ≡ b → has v (cond b (a ∷ filter p (range_with_len (a + 1) n)) (filter p (range_with_len (a + 1) n))) ≡ true → (has v (filter p (range_with_len (a + 1) n)) ≡ true → (p v ≡ true) × (a + 1 ≤ v)) → (p v ≡ true) × (a ≤ v)
    by true is h more = here (or_cases (a == v) (has v (filter p (range_with_len (a + 1) n))) h)
      where
        here : ((a == v) ≡ true) ⊎ (has v (filter p (range_with_len (a + 1) n)) ≡ true) → (p v ≡ true) × (a ≤ v)
        here (inl e) = let s = equal_node a v e in (subst (λ k. p k ≡ true) s is, omega (arith, s))
        here (inr l) = let (q, le) = more l in (q, omega (arith, le))
    by false is h more = let (q, le) = more h in (q, omega (arith, le))

pub once_kept : (p : ℕ → Bool) (a n : ℕ) → Once (filter p (range_with_len a n))
once_kept p a zero = tt
once_kept p a (suc n) = by (p a) (once_kept p (a + 1) n)
  where
    new : (b : Bool) → has a (filter p (range_with_len (a + 1) n)) ≡ b → b ≡ false
    new true h = absurd (let le = (kept_has p (a + 1) n a h).1 in omega (arith, le))
    new false h = refl

    by : (b : Bool) → Once (filter p (range_with_len (a + 1) n)) → Once (cond b (a ∷ filter p (range_with_len (a + 1) n)) (filter p (range_with_len (a + 1) n)))
    by true once = (new (has a (filter p (range_with_len (a + 1) n))) refl, once)
    by false once = once
