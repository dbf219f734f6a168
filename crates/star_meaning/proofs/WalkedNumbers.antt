-- A walk from some numbers on, each of which leads to others, meets all that are reached, each once.
use Rattle.std.proofs.Common.{◌≡◌, ◌≤◌, ◌<◌, ◌+◌, ℕ, zero, suc, Bool, true, false, List, [], ◌∷◌, ◌++◌, length, IsTrue, refl, sym, ap, arith, subst, ◌∙◌, append_assoc, append-nil, length-append}
use Rattle.std.proofs.lemmas.Bool.Decides.{Decides-eqb}
use Rattle.std.specs.Prelude.{◌==◌, ◌||◌, not, if◌then◌else◌}
use Rattle.star_meaning.specs.Values.{has}
use Rattle.star_meaning.specs.Alike.{are_apart}
use Rattle.star_meaning.proofs.AlikeNumbers.{Side, and_both, both_and, in_or_first, in_or_second, itself, not_both, not_so, not_true, or_either, same_number}
use Rattle.star_meaning.proofs.Walked.{met_after, met_grows}

-- ---- numbers of two lists

pub has_front : (xs ys : List ℕ) (n : ℕ) → IsTrue (has xs n) → IsTrue (has (xs ++ ys) n)
has_front [] ys n h = absurd (not_true h)
has_front (x ∷ xs) ys n h =
    or_either (x == n) (has xs n) (IsTrue ((x == n) || has (xs ++ ys) n)) (λ k. in_or_first (x == n) (has (xs ++ ys) n) k) (λ k. in_or_second (x == n) (has (xs ++ ys) n) (has_front xs ys n k)) h

pub has_end : (xs ys : List ℕ) (n : ℕ) → IsTrue (has ys n) → IsTrue (has (xs ++ ys) n)
has_end [] ys n h = h
has_end (x ∷ xs) ys n h = in_or_second (x == n) (has (xs ++ ys) n) (has_end xs ys n h)

has_either : (xs ys : List ℕ) (n : ℕ) (P : Type 0) → (IsTrue (has xs n) → P) → (IsTrue (has ys n) → P) → IsTrue (has (xs ++ ys) n) → P
has_either [] ys n P f g h = g h
has_either (x ∷ xs) ys n P f g h =
    or_either (x == n) (has (xs ++ ys) n) P (λ k. f (in_or_first (x == n) (has xs n) k)) (λ k. has_either xs ys n P (λ l. f (in_or_second (x == n) (has xs n) l)) g k) h

-- ---- numbers that are met are below a number, and none is met twice

last_once : (xs : List ℕ) (id : ℕ) → IsTrue (are_apart xs) → (IsTrue (has xs id) → ⊥) → IsTrue (are_apart (xs ++ id ∷ []))
last_once [] id o h = refl
last_once (x ∷ xs) id o h =
    let apart = and_both (not (has xs x)) (are_apart xs) o in
    let here = λ (k : IsTrue (has (id ∷ []) x)).
    or_either (id == x) false ⊥ (λ l. h (in_or_first (x == id) (has xs id) ((Decides-eqb x id).1 (sym (same_number id x l))))) not_true k in
    both_and (not (has (xs ++ id ∷ []) x)) (are_apart (xs ++ id ∷ []))
    (not_so (has (xs ++ id ∷ []) x) (has_either xs (id ∷ []) x ⊥ (not_both (has xs x) apart.0) here))
    (last_once xs id apart.1 (λ k. h (in_or_second (x == id) (has xs id) k)))

last_side : (bound : ℕ) (xs : List ℕ) (id : ℕ) → Side xs bound → id < bound → (IsTrue (has xs id) → ⊥) → Side (xs ++ id ∷ []) bound
last_side bound xs id s l h = record {
  once = last_once xs id s.once h;
  below = λ n k.
      has_either xs (id ∷ []) n (n < bound) (s.below n)
      (λ m. or_either (id == n) false (n < bound) (λ e. subst (λ x. x < bound) (same_number id n e) l) (λ f. absurd (not_true f)) m) k;
}

pub side_after : (bound : ℕ) (met ids : List ℕ) → Side met bound → ((n : ℕ) → IsTrue (has ids n) → n < bound) → Side (met_after met ids) bound
side_after bound met [] s h = s
side_after bound met (id ∷ ids) s h = by (has met id) refl (λ m t. side_after bound m ids t (λ n k. h n (in_or_second (id == n) (has ids n) k)))
  where
    by : (t : Bool) → has met id ≡ t → ((m : List ℕ) → Side m bound → Side (met_after m ids) bound) → Side (met_after (if t then met else met ++ id ∷ []) ids) bound
    by true e k = k met s
    by false e k = k (met ++ id ∷ []) (last_side bound met id s (h id (in_or_first (id == id) (has ids id) (itself id))) (λ l. not_true (subst IsTrue e l)))

kept_has : (met ids : List ℕ) (n : ℕ) → IsTrue (has met n) → IsTrue (has (met_after met ids) n)
kept_has met ids n h = let more = met_grows met ids in subst (λ xs. IsTrue (has xs n)) (sym more.1) (has_front met more.0 n h)

-- each number that is read is met afterwards
pub after_has : (met ids : List ℕ) (n : ℕ) → IsTrue (has ids n) → IsTrue (has (met_after met ids) n)
after_has met [] n h = absurd (not_true h)
after_has met (id ∷ ids) n h =
    or_either (id == n) (has ids n) (IsTrue (has (met_after met (id ∷ ids)) n)) (λ k. subst (λ x. IsTrue (has (met_after met (id ∷ ids)) x)) (same_number id n k) (kept_has (if has met id then met else met ++ id ∷ []) ids id (by (has met id) refl)))
    (λ k. after_has (if has met id then met else met ++ id ∷ []) ids n k) h
  where
    by : (t : Bool) → has met id ≡ t → IsTrue (has (if t then met else met ++ id ∷ []) id)
    by true e = e
    by false e = has_end met (id ∷ []) id (in_or_first (id == id) false (itself id))

-- ---- there are no more than the bound

-- a list without the first place of a number
abbrev without : ℕ → List ℕ → List ℕ
without n [] = []
without n (x ∷ xs) = if x == n then xs else x ∷ without n xs

without_has : (n : ℕ) (xs : List ℕ) (m : ℕ) → IsTrue (has (without n xs) m) → IsTrue (has xs m)
without_has n [] m h = h
without_has n (x ∷ xs) m h = by (x == n) (without_has n xs m) h
  where
    by : (t : Bool) → (IsTrue (has (without n xs) m) → IsTrue (has xs m)) → IsTrue (has (if t then xs else x ∷ without n xs) m) → IsTrue ((x == m) || has xs m)
    by true k l = in_or_second (x == m) (has xs m) l
    by false k l =
        or_either (x == m) (has (without n xs) m) (IsTrue ((x == m) || has xs m)) (λ f. in_or_first (x == m) (has xs m) f) (λ f. in_or_second (x == m) (has xs m) (k f)) l

without_once : (n : ℕ) (xs : List ℕ) → IsTrue (are_apart xs) → IsTrue (are_apart (without n xs))
without_once n [] o = refl
without_once n (x ∷ xs) o = by (x == n) (without_once n xs apart.1)
  where
    apart : IsTrue (not (has xs x)) × IsTrue (are_apart xs)
    apart = and_both (not (has xs x)) (are_apart xs) o

    by : (t : Bool) → IsTrue (are_apart (without n xs)) → IsTrue (are_apart (if t then xs else x ∷ without n xs))
    by true k = apart.1
    by false k = both_and (not (has (without n xs) x)) (are_apart (without n xs)) (not_so (has (without n xs) x) (λ l. not_both (has xs x) apart.0 (without_has n xs x l))) k

without_gone : (n : ℕ) (xs : List ℕ) → IsTrue (are_apart xs) → IsTrue (has (without n xs) n) → ⊥
without_gone n [] o h = not_true h
without_gone n (x ∷ xs) o h = by (x == n) refl (without_gone n xs apart.1) h
  where
    apart : IsTrue (not (has xs x)) × IsTrue (are_apart xs)
    apart = and_both (not (has xs x)) (are_apart xs) o

    by : (t : Bool) → (x == n) ≡ t → (IsTrue (has (without n xs) n) → ⊥) → IsTrue (has (if t then xs else x ∷ without n xs) n) → ⊥
    by true e k l = not_both (has xs x) apart.0 (subst (λ m. IsTrue (has xs m)) (sym ((Decides-eqb x n).0 e)) l)
    by false e k l = or_either (x == n) (has (without n xs) n) ⊥ (λ f. not_true (subst IsTrue e f)) k l

without_long : (n : ℕ) (xs : List ℕ) → length xs ≤ suc (length (without n xs))
without_long n [] = omega arith
without_long n (x ∷ xs) = by (x == n) (without_long n xs)
  where
    by : (t : Bool) → length xs ≤ suc (length (without n xs)) → suc (length xs) ≤ suc (length (if t then xs else x ∷ without n xs))
    by true k = omega arith
    by false k = omega (arith, k)

lower : (n m : ℕ) → m < suc n → (m ≡ n → ⊥) → m < n
lower n m l h = omega arith

pub side_short : (bound : ℕ) (xs : List ℕ) → Side xs bound → length xs ≤ bound
side_short zero [] s = omega arith
side_short zero (x ∷ xs) s = let low : x < 0 = s.below x (in_or_first (x == x) (has xs x) (itself x)) in absurd (omega (arith, low))
side_short (suc n) xs s =
    let rest = side_short n (without n xs) (record {
      once = without_once n xs s.once;
      below = λ m k. lower n m (s.below m (without_has n xs m k)) (λ e. without_gone n xs s.once (subst (λ x. IsTrue (has (without n xs) x)) e k));
    }) in
    let long = without_long n xs in omega (arith, rest, long)

-- ---- the walk

-- From so many that are met, the numbers from one on lead in turn to those that are met next, up to all that are met in the end.
abbrev pub Follows : (ℕ → List ℕ) → List ℕ → List ℕ → ℕ → List ℕ → Type 0
Follows leads all met number [] = number ≡ length met
Follows leads all met number (id ∷ ids) =
    (number < length met) × ((rest : List ℕ) × (met_after met (leads id) ++ rest ≡ all)) × Follows leads all (met_after met (leads id)) (number + 1) ids

-- A walk over numbers below a bound, where the first ones have been walked over and those to do are met: the numbers that it
-- walks over from here on begin with those to do, and have all that they lead to.
pub record Walk (leads : ℕ → List ℕ) (bound : ℕ) (seen todo : List ℕ) : Type 0 where
  pub ids : List ℕ
  pub rest : List ℕ
  pub front : ids ≡ todo ++ rest
  pub side : Side (seen ++ ids) bound
  pub follows : (all : List ℕ) → seen ++ ids ≡ all → Follows leads all (seen ++ todo) (length seen) ids
  pub closed : (id n : ℕ) → IsTrue (has ids id) → IsTrue (has (leads id) n) → IsTrue (has (seen ++ ids) n)

module _ (leads : ℕ → List ℕ) (bound : ℕ) (low : (id n : ℕ) → id < bound → IsTrue (has (leads id) n) → n < bound) where
  walk_done : (seen : List ℕ) → Side (seen ++ []) bound → Walk leads bound seen []
  walk_done seen s = record {
    ids = [];
    rest = [];
    front = refl;
    side = s;
    follows = λ all e. ap length (sym (append-nil seen));
    closed = λ id n h k. absurd (not_true h);
  }

  -- what is met after a number is what is to do after it
  shifted : (seen todo more : List ℕ) (id : ℕ) → met_after (seen ++ id ∷ todo) (leads id) ≡ (seen ++ id ∷ todo) ++ more → met_after (seen ++ id ∷ todo) (leads id) ≡ (seen ++ id ∷ []) ++ (todo ++ more)
  shifted seen todo more id e = e ∙ append_assoc seen (id ∷ todo) more ∙ sym (append_assoc seen (id ∷ []) (todo ++ more))

  module _ (seen todo more : List ℕ) (id : ℕ) (e : met_after (seen ++ id ∷ todo) (leads id) ≡ (seen ++ id ∷ todo) ++ more) (w : Walk leads bound (seen ++ id ∷ []) (todo ++ more)) where
    whole : met_after (seen ++ id ∷ todo) (leads id) ++ w.rest ≡ seen ++ (id ∷ w.ids)
    whole =
        ap (λ xs. xs ++ w.rest) (shifted seen todo more id e) ∙ append_assoc (seen ++ id ∷ []) (todo ++ more) w.rest ∙ ap (λ xs. (seen ++ id ∷ []) ++ xs) (sym w.front) ∙ append_assoc seen (id ∷ []) w.ids

    one_more : length (seen ++ id ∷ []) ≡ length seen + 1
    one_more = let both = length-append seen (id ∷ []) in omega (arith, both)

    here : length seen < length (seen ++ id ∷ todo)
    here = let both = length-append seen (id ∷ todo) in omega (arith, both)

    step_follows : (all : List ℕ) → seen ++ (id ∷ w.ids) ≡ all → Follows leads all (seen ++ id ∷ todo) (length seen) (id ∷ w.ids)
    step_follows all f = (
      here,
      (w.rest, whole ∙ f),
      subst (λ met. Follows leads all met (length seen + 1) w.ids) (sym (shifted seen todo more id e))
          (subst (λ n. Follows leads all ((seen ++ id ∷ []) ++ (todo ++ more)) n w.ids) one_more (w.follows all (append_assoc seen (id ∷ []) w.ids ∙ f))),
    )

    step_closed : (a n : ℕ) → IsTrue (has (id ∷ w.ids) a) → IsTrue (has (leads a) n) → IsTrue (has (seen ++ (id ∷ w.ids)) n)
    step_closed a n h k =
        or_either (id == a) (has w.ids a) (IsTrue (has (seen ++ (id ∷ w.ids)) n))
        (λ l. let there = after_has (seen ++ id ∷ todo) (leads id) n (subst (λ x. IsTrue (has (leads x) n)) (sym (same_number id a l)) k) in
        subst (λ xs. IsTrue (has xs n)) whole (has_front (met_after (seen ++ id ∷ todo) (leads id)) w.rest n there))
        (λ l. subst (λ xs. IsTrue (has xs n)) (append_assoc seen (id ∷ []) w.ids) (w.closed a n l k)) h

    walk_step : Walk leads bound seen (id ∷ todo)
    walk_step = record {
      ids = id ∷ w.ids;
      rest = more ++ w.rest;
      front = ap (λ xs. id ∷ xs) (w.front ∙ append_assoc todo more w.rest);
      side = subst (λ xs. Side xs bound) (append_assoc seen (id ∷ []) w.ids) w.side;
      follows = step_follows;
      closed = step_closed;
    }

  -- with a step for each number below the bound the walk ends
  pub walked : (fuel : ℕ) (seen todo : List ℕ) → bound ≤ length seen + fuel → Side (seen ++ todo) bound → Walk leads bound seen todo
  walked zero seen [] l s = walk_done seen s
  walked zero seen (id ∷ todo) l s =
      let short = side_short bound (seen ++ id ∷ todo) s in let both = length-append seen (id ∷ todo) in absurd (omega (arith, short, both, l))
  walked (suc fuel) seen [] l s = walk_done seen s
  walked (suc fuel) seen (id ∷ todo) l s =
      let more = met_grows (seen ++ id ∷ todo) (leads id) in
      let both = length-append seen (id ∷ []) in
      let enough : bound ≤ length (seen ++ id ∷ []) + fuel = omega (arith, both, l) in
      let first : id < bound = s.below id (has_end seen (id ∷ todo) id (in_or_first (id == id) (has todo id) (itself id))) in
      let next = subst (λ xs. Side xs bound) (shifted seen todo more.0 id more.1) (side_after bound (seen ++ id ∷ todo) (leads id) s (λ n k. low id n first k)) in
      walk_step seen todo more.0 id more.1 (walked fuel (seen ++ id ∷ []) (todo ++ more.0) enough next)
