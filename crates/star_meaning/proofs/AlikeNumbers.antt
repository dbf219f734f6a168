-- Numbers for the objects of two alike states: the places of their pairs.
use Rattle.std.proofs.Common.{◌≡◌, ◌≤◌, ◌<◌, ◌+◌, ℕ, zero, suc, List, [], ◌∷◌, map, length, Bool, true, false, IsTrue, refl, sym, ap, arith, subst, ◌∙◌}
use Rattle.std.proofs.lemmas.Bool.Decides.{Decides-eqb, nat_tests}
use Rattle.std.specs.Prelude.{◌==◌, not, ◌&&◌, ◌||◌, nat_lt, if◌then◌else◌}
use Rattle.star_value.specs.KeyLaws.{both_ways}
use Rattle.star_meaning.specs.Values.{has}
use Rattle.star_meaning.specs.Alike.{Pairs, are_apart, is_pair}
use Rattle.star_meaning.proofs.MovedValues.{Moving}

-- ---- tests

pub not_true : IsTrue false → ⊥
not_true h = grind (arith, h)

pub test_same : (x y a b : ℕ) → (x ≡ y → a ≡ b) → (a ≡ b → x ≡ y) → (x == y) ≡ (a == b)
test_same x y a b f g = both_ways (x == y) (a == b) (λ h. (Decides-eqb a b).1 (f ((Decides-eqb x y).0 h))) (λ h. (Decides-eqb x y).1 (g ((Decides-eqb a b).0 h)))

pub or_either : (b c : Bool) (P : Type 0) → (IsTrue b → P) → (IsTrue c → P) → IsTrue (b || c) → P
or_either true c P f g h = f refl
or_either false c P f g h = g h

pub and_both : (b c : Bool) → IsTrue (b && c) → IsTrue b × IsTrue c
and_both true c h = (refl, h)
and_both false c h = absurd (not_true h)

pub both_and : (b c : Bool) → IsTrue b → IsTrue c → IsTrue (b && c)
both_and true c h k = k
both_and false c h k = absurd (not_true h)

pub not_both : (b : Bool) → IsTrue (not b) → IsTrue b → ⊥
not_both true h k = not_true h
not_both false h k = not_true k

pub in_or_first : (b c : Bool) → IsTrue b → IsTrue (b || c)
in_or_first true c h = refl
in_or_first false c h = absurd (not_true h)

pub in_or_second : (b c : Bool) → IsTrue c → IsTrue (b || c)
in_or_second true c h = refl
in_or_second false c h = h

pub same_number : (a b : ℕ) → IsTrue (a == b) → a ≡ b
same_number a b h = (Decides-eqb a b).0 h

pub itself : (a : ℕ) → IsTrue (a == a)
itself a = (Decides-eqb a a).1 refl

-- ---- places

-- the number at a place of a list, and beyond the list what f gives
abbrev pub at_or : (ℕ → ℕ) → List ℕ → ℕ → ℕ
at_or f [] n = f n
at_or f (x ∷ xs) zero = x
at_or f (x ∷ xs) (suc n) = at_or f xs n

-- the place of a number in a list; numbers that are absent come after all places
abbrev pub place : List ℕ → ℕ → ℕ
place [] a = a
place (x ∷ xs) a = if x == a then 0 else suc (place xs a)

pub place_back : (xs : List ℕ) (a : ℕ) → at_or (λ n. n) xs (place xs a) ≡ a
place_back [] a = refl
place_back (x ∷ xs) a = by (x == a) refl (place_back xs a)
  where
    by : (b : Bool) → (x == a) ≡ b → at_or (λ n. n) xs (place xs a) ≡ a → at_or (λ n. n) (x ∷ xs) (if b then 0 else suc (place xs a)) ≡ a
    by true e rest = (Decides-eqb x a).0 e
    by false e rest = rest

-- a value with places for numbers
abbrev pub back : List ℕ → Moving
back xs = record {
  to = place xs;
  one = λ a b. test_same (place xs a) (place xs b) a b (λ e. sym (place_back xs a) ∙ ap (at_or (λ n. n) xs) e ∙ place_back xs b) (ap (place xs));
  bound = 0;
}

-- numbers of new objects: so many follow a first one, and the others lie beyond another number
abbrev pub fresh : ℕ → ℕ → ℕ → ℕ → ℕ
fresh first many far n = if nat_lt n many then first + n else far + n

pub fresh_low : (first many far n : ℕ) → first ≤ far → first ≤ fresh first many far n
fresh_low first many far n h = grind (arith, nat_tests)

pub fresh_apart : (first many far a b : ℕ) → first ≤ far → fresh first many far a ≡ fresh first many far b → a ≡ b
fresh_apart first many far a b h e = grind (arith, nat_tests)

pub fresh_next : (first many far n : ℕ) → n < many → fresh first many far n ≡ first + n
fresh_next first many far n h = grind (arith, nat_tests)

pub fresh_within : (first many far n : ℕ) → fresh first many far n ≡ fresh first many (suc far) n → n < many
fresh_within first many far n e = grind (arith, nat_tests)

-- a list of numbers below a first one, none of them twice
pub record Side (xs : List ℕ) (first : ℕ) : Type 0 where
  pub once : IsTrue (are_apart xs)
  pub below : (n : ℕ) → IsTrue (has xs n) → n < first

module _ (f : ℕ → ℕ) (first : ℕ) (low : (n : ℕ) → first ≤ f n) (inj : (a b : ℕ) → f a ≡ f b → a ≡ b) where
  rest_side : (x : ℕ) (xs : List ℕ) → Side (x ∷ xs) first → Side xs first
  rest_side x xs h = record { once = (and_both (not (has xs x)) (are_apart xs) h.once).1; below = λ n k. h.below n (in_or_second (x == n) (has xs n) k) }

  absent : (xs : List ℕ) (b x : ℕ) → (IsTrue (has xs x) → ⊥) → x < first → at_or f xs b ≡ x → ⊥
  absent [] b x h l e = let lowest = low b in omega (arith, lowest, e, l)
  absent (y ∷ ys) zero x h l e = h (in_or_first (y == x) (has ys x) ((Decides-eqb y x).1 e))
  absent (y ∷ ys) (suc b) x h l e = absent ys b x (λ k. h (in_or_second (y == x) (has ys x) k)) l e

  head_absent : (x : ℕ) (xs : List ℕ) (b : ℕ) → Side (x ∷ xs) first → at_or f xs b ≡ x → ⊥
  head_absent x xs b h e =
      absent xs b x (not_both (has xs x) (and_both (not (has xs x)) (are_apart xs) h.once).0) (h.below x (in_or_first (x == x) (has xs x) (itself x))) e

  pub apart : (xs : List ℕ) → Side xs first → (a b : ℕ) → at_or f xs a ≡ at_or f xs b → a ≡ b
  apart [] h a b e = inj a b e
  apart (x ∷ xs) h zero zero e = refl
  apart (x ∷ xs) h zero (suc b) e = absurd (head_absent x xs b h (sym e))
  apart (x ∷ xs) h (suc a) zero e = absurd (head_absent x xs a h e)
  apart (x ∷ xs) h (suc a) (suc b) e = ap suc (apart xs (rest_side x xs h) a b e)

-- the numbers of a side for the places of its list, and then new ones
abbrev pub side : (xs : List ℕ) (first many far : ℕ) → first ≤ far → Side xs first → Moving
side xs first many far l h = record {
  to = at_or (fresh first many far) xs;
  one = λ a b.
      test_same (at_or (fresh first many far) xs a) (at_or (fresh first many far) xs b) a b
      (apart (fresh first many far) first (λ n. fresh_low first many far n l) (λ n m. fresh_apart first many far n m l) xs h a b) (ap (at_or (fresh first many far) xs));
  bound = length xs + many;
}

pub at_beyond : (f : ℕ → ℕ) (xs : List ℕ) (n : ℕ) → at_or f xs (length xs + n) ≡ f n
at_beyond f [] n = ap f (omega arith)
at_beyond f (x ∷ xs) n = ap (at_or f (x ∷ xs)) (more (length xs) n) ∙ at_beyond f xs n
  where
    more : (k n : ℕ) → suc k + n ≡ suc (k + n)
    more k n = omega arith

-- a place beyond which two far numbers are not the same
pub at_within : (first many far : ℕ) (xs : List ℕ) (n : ℕ) → at_or (fresh first many far) xs n ≡ at_or (fresh first many (suc far)) xs n → n < length xs + many
at_within first many far [] n e = let within = fresh_within first many far n e in omega (arith, within)
at_within first many far (x ∷ xs) zero e = omega arith
at_within first many far (x ∷ xs) (suc n) e = let within = at_within first many far xs n e in omega (arith, within)

pub at_same : (first many far : ℕ) (xs : List ℕ) (n : ℕ) → n < length xs + many → at_or (fresh first many far) xs n ≡ at_or (fresh first many (suc far)) xs n
at_same first many far [] n l = fresh_next first many far n (omega arith) ∙ sym (fresh_next first many (suc far) n (omega arith))
at_same first many far (x ∷ xs) zero l = refl
at_same first many far (x ∷ xs) (suc n) l = at_same first many far xs n (omega arith)

-- ---- pairs

abbrev pub firsts : Pairs → List ℕ
firsts pairs = map (λ pair. pair.0) pairs

abbrev pub seconds : Pairs → List ℕ
seconds pairs = map (λ pair. pair.1) pairs

pub has_first : (pairs : Pairs) (a : ℕ) → IsTrue (has (firsts pairs) a) → (b : ℕ) × IsTrue (is_pair pairs a b)
has_first [] a h = absurd (not_true h)
has_first (p ∷ pairs) a h =
    or_either (p.0 == a) (has (firsts pairs) a) ((b : ℕ) × IsTrue (is_pair (p ∷ pairs) a b))
    (λ k. (p.1, in_or_first ((p.0 == a) && (p.1 == p.1)) (is_pair pairs a p.1) (both_and (p.0 == a) (p.1 == p.1) k (itself p.1))))
    (λ k. let rest = has_first pairs a k in (rest.0, in_or_second ((p.0 == a) && (p.1 == rest.0)) (is_pair pairs a rest.0) rest.1)) h

pub has_second : (pairs : Pairs) (b : ℕ) → IsTrue (has (seconds pairs) b) → (a : ℕ) × IsTrue (is_pair pairs a b)
has_second [] b h = absurd (not_true h)
has_second (p ∷ pairs) b h =
    or_either (p.1 == b) (has (seconds pairs) b) ((a : ℕ) × IsTrue (is_pair (p ∷ pairs) a b))
    (λ k. (p.0, in_or_first ((p.0 == p.0) && (p.1 == b)) (is_pair pairs p.0 b) (both_and (p.0 == p.0) (p.1 == b) (itself p.0) k)))
    (λ k. let rest = has_second pairs b k in (rest.0, in_or_second ((p.0 == rest.0) && (p.1 == b)) (is_pair pairs rest.0 b) rest.1)) h

pub pair_first : (pairs : Pairs) (a b : ℕ) → IsTrue (is_pair pairs a b) → IsTrue (has (firsts pairs) a)
pair_first [] a b h = h
pair_first (p ∷ pairs) a b h =
    or_either ((p.0 == a) && (p.1 == b)) (is_pair pairs a b) (IsTrue (has (firsts (p ∷ pairs)) a)) (λ k. in_or_first (p.0 == a) (has (firsts pairs) a) (and_both (p.0 == a) (p.1 == b) k).0)
    (λ k. in_or_second (p.0 == a) (has (firsts pairs) a) (pair_first pairs a b k)) h

-- a number is the place of a pair
abbrev pub IsPlace : Pairs → ℕ → ℕ → ℕ → Type 0
IsPlace pairs a b n = (k : ℕ) × (k < length pairs) × (n ≡ k) × ((f : ℕ → ℕ) → at_or f (firsts pairs) k ≡ a) × ((f : ℕ → ℕ) → at_or f (seconds pairs) k ≡ b)

-- the place of a pair's first number is that of the pair
pub places : (pairs : Pairs) → IsTrue (are_apart (firsts pairs)) → (a b : ℕ) → IsTrue (is_pair pairs a b) → IsPlace pairs a b (place (firsts pairs) a)
places [] o a b h = absurd (not_true h)
places (p ∷ pairs) o a b h = by (p.0 == a) refl (λ k. places pairs split.1 a b k)
  where
    split : IsTrue (not (has (firsts pairs) p.0)) × IsTrue (are_apart (firsts pairs))
    split = and_both (not (has (firsts pairs) p.0)) (are_apart (firsts pairs)) o

    second : (p.0 == a) ≡ true → p.1 ≡ b
    second e =
        or_either ((p.0 == a) && (p.1 == b)) (is_pair pairs a b) (p.1 ≡ b) (λ k. same_number p.1 b (and_both (p.0 == a) (p.1 == b) k).1)
        (λ k. absurd (not_both (has (firsts pairs) p.0) split.0 (subst (λ x. IsTrue (has (firsts pairs) x)) (sym ((Decides-eqb p.0 a).0 e)) (pair_first pairs a b k)))) h

    later : (p.0 == a) ≡ false → IsTrue (is_pair pairs a b)
    later e = or_either ((p.0 == a) && (p.1 == b)) (is_pair pairs a b) (IsTrue (is_pair pairs a b)) (λ k. absurd (not_true (subst IsTrue e (and_both (p.0 == a) (p.1 == b) k).0))) (λ k. k) h

    by : (t : Bool) → (p.0 == a) ≡ t → (IsTrue (is_pair pairs a b) → IsPlace pairs a b (place (firsts pairs) a)) → IsPlace (p ∷ pairs) a b (if t then 0 else suc (place (firsts pairs) a))
    by true e k = (0, omega arith, refl, λ f. (Decides-eqb p.0 a).0 e, λ f. second e)
    by false e k = let rest = k (later e) in (suc rest.0, omega (arith, rest.1), ap suc rest.2, rest.3, rest.4)

-- the pair at a place
pub pair_at : (f : ℕ → ℕ) (pairs : Pairs) (n : ℕ) → n < length pairs → IsTrue (is_pair pairs (at_or f (firsts pairs) n) (at_or f (seconds pairs) n))
pair_at f [] n l = absurd (omega arith)
pair_at f (p ∷ pairs) zero l = in_or_first ((p.0 == p.0) && (p.1 == p.1)) (is_pair pairs p.0 p.1) (both_and (p.0 == p.0) (p.1 == p.1) (itself p.0) (itself p.1))
pair_at f (p ∷ pairs) (suc n) l =
    let a = at_or f (firsts pairs) n in let b = at_or f (seconds pairs) n in in_or_second ((p.0 == a) && (p.1 == b)) (is_pair pairs a b) (pair_at f pairs n (omega arith))

-- ---- pairs of the numbers below one

abbrev pub pairs_below : (ℕ → ℕ) → (ℕ → ℕ) → ℕ → Pairs
pairs_below f g zero = []
pairs_below f g (suc n) = (f n, g n) ∷ pairs_below f g n

pub is_below : (f g : ℕ → ℕ) (count n : ℕ) → n < count → IsTrue (is_pair (pairs_below f g count) (f n) (g n))
is_below f g zero n l = absurd (omega arith)
is_below f g (suc count) n l = by (count == n) refl (λ k. is_below f g count n k)
  where
    by : (t : Bool) → (count == n) ≡ t → (n < count → IsTrue (is_pair (pairs_below f g count) (f n) (g n))) → IsTrue (is_pair (pairs_below f g (suc count)) (f n) (g n))
    by true e k =
        let same = (Decides-eqb count n).0 e in
        subst (λ k. IsTrue (is_pair (pairs_below f g (suc count)) (f k) (g k))) same
        (in_or_first ((f count == f count) && (g count == g count)) (is_pair (pairs_below f g count) (f count) (g count)) (both_and (f count == f count) (g count == g count) (itself (f count)) (itself (g count))))
    by false e k =
        let other : n < count = grind (arith, nat_tests, e) in
        in_or_second ((f count == f n) && (g count == g n)) (is_pair (pairs_below f g count) (f n) (g n)) (k other)

pub below_is : (f g : ℕ → ℕ) (count a b : ℕ) → IsTrue (is_pair (pairs_below f g count) a b) → (n : ℕ) × (n < count) × (f n ≡ a) × (g n ≡ b)
below_is f g zero a b h = absurd (not_true h)
below_is f g (suc count) a b h =
    or_either ((f count == a) && (g count == b)) (is_pair (pairs_below f g count) a b) ((n : ℕ) × (n < suc count) × (f n ≡ a) × (g n ≡ b))
    (λ k. let both = and_both (f count == a) (g count == b) k in (count, omega arith, same_number (f count) a both.0, same_number (g count) b both.1))
    (λ k. let rest = below_is f g count a b k in (rest.0, omega (arith, rest.1), rest.2, rest.3)) h

first_below : (f g : ℕ → ℕ) → ((a b : ℕ) → f a ≡ f b → a ≡ b) → (count n : ℕ) → count ≤ n → IsTrue (has (firsts (pairs_below f g count)) (f n)) → ⊥
first_below f g inj zero n l h = not_true h
first_below f g inj (suc count) n l h =
    or_either (f count == f n) (has (firsts (pairs_below f g count)) (f n)) ⊥ (λ k. let same = inj count n (same_number (f count) (f n) k) in omega (arith, same)) (λ k. first_below f g inj count n (omega arith) k) h

second_below : (f g : ℕ → ℕ) → ((a b : ℕ) → g a ≡ g b → a ≡ b) → (count n : ℕ) → count ≤ n → IsTrue (has (seconds (pairs_below f g count)) (g n)) → ⊥
second_below f g inj zero n l h = not_true h
second_below f g inj (suc count) n l h =
    or_either (g count == g n) (has (seconds (pairs_below f g count)) (g n)) ⊥ (λ k. let same = inj count n (same_number (g count) (g n) k) in omega (arith, same)) (λ k. second_below f g inj count n (omega arith) k) h

pub not_so : (b : Bool) → (IsTrue b → ⊥) → IsTrue (not b)
not_so true h = absurd (h refl)
not_so false h = refl

pub firsts_apart : (f g : ℕ → ℕ) → ((a b : ℕ) → f a ≡ f b → a ≡ b) → (count : ℕ) → IsTrue (are_apart (firsts (pairs_below f g count)))
firsts_apart f g inj zero = refl
firsts_apart f g inj (suc count) =
    both_and (not (has (firsts (pairs_below f g count)) (f count))) (are_apart (firsts (pairs_below f g count))) (not_so (has (firsts (pairs_below f g count)) (f count)) (first_below f g inj count count (omega arith))) (firsts_apart f g inj count)

pub seconds_apart : (f g : ℕ → ℕ) → ((a b : ℕ) → g a ≡ g b → a ≡ b) → (count : ℕ) → IsTrue (are_apart (seconds (pairs_below f g count)))
seconds_apart f g inj zero = refl
seconds_apart f g inj (suc count) =
    both_and (not (has (seconds (pairs_below f g count)) (g count))) (are_apart (seconds (pairs_below f g count))) (not_so (has (seconds (pairs_below f g count)) (g count)) (second_below f g inj count count (omega arith))) (seconds_apart f g inj count)

-- different numbers stay different
pub moving_apart : (mv : Moving) (a b : ℕ) → mv.to a ≡ mv.to b → a ≡ b
moving_apart mv a b e = same_number a b (subst IsTrue (mv.one a b) ((Decides-eqb (mv.to a) (mv.to b)).1 e))
