-- A sorted list with the elements of another one is what insertion makes of that one.
use Rattle.std.proofs.Common.{◌≡◌, ℕ, zero, suc, ◌+◌, ◌<◌, ◌≤◌, Bool, true, false, List, [], ◌∷◌, map, length, get_or, refl, sym, ap, ◌∙◌, subst, arith, Ordering, Less, Equal, Greater}
use Rattle.std.specs.Prelude.{if◌then◌else◌, ⊤}
use Rattle.std.specs.Bool.{Decides}
use Rattle.std.specs.Cmp.{IsTotalOrder, upto}
use Rattle.std.specs.List.{sum_by}
use Rattle.std.specs.List.Sorted.{IsPermutation, IsSorted}
use Rattle.std.specs.Ordering.{is_eq, is_lt, is_gt, ordering_reverse}
use Rattle.std.proofs.lemmas.List.Sorted.{sum_by-IsPermutation}
use Rattle.std.proofs.lemmas.List.Sums.{sum_by-cons}

module _ {A : Type 0} (lt : A → A → Bool) where
  -- an element before the first one that is not before it
  abbrev pub placed_by : A → List A → List A
  placed_by x [] = x ∷ []
  placed_by x (y ∷ ys) = if lt y x then y ∷ placed_by x ys else x ∷ y ∷ ys

  abbrev pub inserted : List A → List A
  inserted [] = []
  inserted (x ∷ xs) = placed_by x (inserted xs)

  -- no element is before this one
  abbrev Above : A → List A → Type 0
  Above a [] = ⊤
  Above a (y ∷ ys) = (lt y a ≡ false) × Above a ys

  abbrev Rises : List A → Type 0
  Rises [] = ⊤
  Rises (x ∷ xs) = Above x xs × Rises xs

  -- how many elements are not told apart from this one
  abbrev point : Bool → Bool → ℕ
  point true b = 0
  point false true = 0
  point false false = 1

  abbrev tally : A → List A → ℕ
  tally x [] = 0
  tally x (y ∷ ys) = point (lt x y) (lt y x) + tally x ys

  module _ (asym : (x y : A) → lt x y ≡ true → lt y x ≡ false) (far : (x y z : A) → lt y x ≡ false → lt z y ≡ false → lt z x ≡ false) (tied : (x y : A) → lt x y ≡ false → lt y x ≡ false → x ≡ y) where
    -- ---- insertion keeps the order

    same_not : (x : A) (b : Bool) → lt x x ≡ b → b ≡ false
    same_not x true is = sym is ∙ asym x x is
    same_not x false is = refl

    itself : (x : A) → lt x x ≡ false
    itself x = same_not x (lt x x) refl

    above_more : (a b : A) (l : List A) → lt b a ≡ false → Above b l → Above a l
    above_more a b [] h all = tt
    above_more a b (y ∷ ys) h all = (far a b y h all.0, above_more a b ys h all.1)

    above_placed : (a x : A) (l : List A) → lt x a ≡ false → Above a l → Above a (placed_by x l)
    above_placed a x [] h all = (h, tt)
    above_placed a x (y ∷ ys) h all =
        elim (lt y x) as (λ b. Above a (if b then y ∷ placed_by x ys else x ∷ y ∷ ys)) [ true ↦ (all.0, above_placed a x ys h all.1) | false ↦ (h, all) ]

    rises_case : (x y : A) (ys : List A) (b : Bool) → lt y x ≡ b → Above y ys → Rises ys → Rises (placed_by x ys) → Rises (if b then y ∷ placed_by x ys else x ∷ y ∷ ys)
    rises_case x y ys true is above rest placed = (above_placed y x ys (asym y x is) above, placed)
    rises_case x y ys false is above rest placed = ((is, above_more x y ys is above), (above, rest))

    rises_placed : (x : A) (l : List A) → Rises l → Rises (placed_by x l)
    rises_placed x [] up = (tt, tt)
    rises_placed x (y ∷ ys) up = rises_case x y ys (lt y x) refl up.0 up.1 (rises_placed x ys up.1)

    rises_inserted : (xs : List A) → Rises (inserted xs)
    rises_inserted [] = tt
    rises_inserted (x ∷ xs) = rises_placed x (inserted xs) (rises_inserted xs)

    -- ---- and the elements

    swapped : (a b c : ℕ) → a + (b + c) ≡ b + (a + c)
    swapped a b c = omega arith

    tally_placed : (x y : A) (l : List A) → tally x (placed_by y l) ≡ point (lt x y) (lt y x) + tally x l
    tally_placed x y [] = refl
    tally_placed x y (z ∷ zs) =
        elim (lt z y) as (λ b. tally x (if b then z ∷ placed_by y zs else y ∷ z ∷ zs) ≡ point (lt x y) (lt y x) + (point (lt x z) (lt z x) + tally x zs))
        [ true ↦ ap (λ n. point (lt x z) (lt z x) + n) (tally_placed x y zs) ∙ swapped (point (lt x z) (lt z x)) (point (lt x y) (lt y x)) (tally x zs) | false ↦ refl ]

    tally_inserted : (x : A) (xs : List A) → tally x (inserted xs) ≡ tally x xs
    tally_inserted x [] = refl
    tally_inserted x (y ∷ ys) = tally_placed x y (inserted ys) ∙ ap (λ n. point (lt x y) (lt y x) + n) (tally_inserted x ys)

    -- ---- an order with given elements is one list

    low_case : (x a y : A) (n : ℕ) (p q : Bool) → lt x y ≡ p → lt y x ≡ q → 0 < point p q + n → lt y a ≡ false → (0 < n → lt x a ≡ false) → lt x a ≡ false
    low_case x a y n true q is_p is_q some first rest = rest (omega (arith, some))
    low_case x a y n false true is_p is_q some first rest = rest (omega (arith, some))
    low_case x a y n false false is_p is_q some first rest = subst (λ z. lt z a ≡ false) (sym (tied x y is_p is_q)) first

    low : (x a : A) (l : List A) → Above a l → 0 < tally x l → lt x a ≡ false
    low x a [] all some = absurd (omega (arith, some))
    low x a (y ∷ ys) all some = low_case x a y (tally x ys) (lt x y) (lt y x) refl refl some all.0 (λ more. low x a ys all.1 more)

    one_here : (x : A) → point (lt x x) (lt x x) ≡ 1
    one_here x = ap (λ b. point b b) (itself x)

    counts : (x : A) (xs : List A) → 0 < tally x (x ∷ xs)
    counts x xs = let one = one_here x in omega (arith, one)

    not_below : (x y : A) (xs ys : List A) → Above y ys → tally x (x ∷ xs) ≡ tally x (y ∷ ys) → lt x y ≡ false
    not_below x y xs ys above same = low x y (y ∷ ys) (itself y, above) (subst (λ n. 0 < n) same (counts x xs))

    cancelled : (a b n m : ℕ) → a ≡ b → a + n ≡ b + m → n ≡ m
    cancelled a b n m is same = omega arith

    pub one_order : (xs ys : List A) → Rises xs → Rises ys → ((x : A) → tally x xs ≡ tally x ys) → xs ≡ ys
    one_order [] [] up_x up_y same = refl
    one_order [] (y ∷ ys) up_x up_y same = absurd (let some = counts y ys in omega (arith, same y, some))
    one_order (x ∷ xs) [] up_x up_y same = absurd (let some = counts x xs in omega (arith, same x, some))
    one_order (x ∷ xs) (y ∷ ys) up_x up_y same =
        let first : x ≡ y = tied x y (not_below x y xs ys up_y.0 (same x)) (not_below y x ys xs up_x.0 (sym (same y))) in
        let rest : xs ≡ ys = one_order xs ys up_x.1 up_y.1 (λ z. cancelled _ _ _ _ (ap (λ w. point (lt z w) (lt w z)) first) (same z)) in
        ap (λ w. w ∷ xs) first ∙ ap (λ zs. y ∷ zs) rest

    -- ---- what a sort ensures

    tally_is : (x : A) (l : List A) → tally x l ≡ sum_by (λ y. point (lt x y) (lt y x)) l
    tally_is x [] = refl
    tally_is x (y ∷ ys) = ap (λ n. point (lt x y) (lt y x) + n) (tally_is x ys) ∙ sym (sum_by-cons (λ y. point (lt x y) (lt y x)) y ys)

    next : (k n : ℕ) → k + 1 < n → suc k + 1 < suc n
    next k n h = omega arith

    one_on : (k : ℕ) → suc k + 1 ≡ suc (k + 1)
    one_on k = omega arith

    rises_from : (l : List A) → ((k : ℕ) (d : A) → k + 1 < length l → lt (get_or l (k + 1) d) (get_or l k d) ≡ false) → Rises l
    rises_from [] sorted = tt
    rises_from (x ∷ []) sorted = (tt, tt)
    rises_from (x ∷ y ∷ ys) sorted =
        let rest : Rises (y ∷ ys) = rises_from (y ∷ ys) (λ k d h. subst (λ n. lt (get_or (x ∷ y ∷ ys) n d) (get_or (y ∷ ys) k d) ≡ false) (one_on k) (sorted (suc k) d (next k (length (y ∷ ys)) h))) in
        let first : lt y x ≡ false = sorted 0 x (omega arith) in
        ((first, above_more x y ys first rest.0), rest)

    pub inserted_is : (xs ys : List A) → IsPermutation xs ys → ((k : ℕ) (d : A) → k + 1 < length ys → lt (get_or ys (k + 1) d) (get_or ys k d) ≡ false) → inserted xs ≡ ys
    inserted_is xs ys moved sorted =
        one_order (inserted xs) ys (rises_inserted xs) (rises_from ys sorted)
        (λ x. tally_inserted x xs ∙ tally_is x xs ∙ sym (sum_by-IsPermutation (λ y. point (lt x y) (lt y x)) xs ys moved) ∙ sym (tally_is x ys))

-- ---- by an order whose ties are one value

module _ {A : Type 0} (R : A → A → Ordering) (o : IsTotalOrder R) (decides : (x y : A) → Decides (is_eq (R x y)) (x ≡ y)) where
  less_turned : (r s : Ordering) → r ≡ ordering_reverse s → is_lt r ≡ is_gt s
  less_turned r Less is = ap is_lt is
  less_turned r Equal is = ap is_lt is
  less_turned r Greater is = ap is_lt is

  turns : (x y : A) → is_lt (R x y) ≡ is_gt (R y x)
  turns x y = less_turned (R x y) (R y x) (o.antisymm x y)

  one_way : (r : Ordering) → is_lt r ≡ true → is_gt r ≡ false
  one_way Less h = refl
  one_way Equal h = refl
  one_way Greater h = absurd (cc)

  neither : (r : Ordering) → is_lt r ≡ false → is_gt r ≡ false → is_eq r ≡ true
  neither Less h k = absurd (cc)
  neither Equal h k = refl
  neither Greater h k = absurd (cc)

  pub sort_is : (xs ys : List A) → IsPermutation xs ys → IsSorted R ys → inserted (λ x y. is_lt (R x y)) xs ≡ ys
  sort_is xs ys moved sorted =
      inserted_is (λ x y. is_lt (R x y))
      (λ x y h. turns y x ∙ one_way (R x y) h)
      (λ x y z h k. turns z x ∙ upto o x y z (sym (turns y x) ∙ h) (sym (turns z y) ∙ k))
      (λ x y h k. (decides x y).0 (neither (R x y) h (sym (turns y x) ∙ k)))
      xs ys moved (λ k d h. sorted k d (omega arith) h)
