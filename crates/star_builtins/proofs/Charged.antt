-- Charges one after another, and the weights of values and keys by their forms.
use Rattle.std.proofs.Common.{◌≡◌, ℕ, ◌+◌, ◌-◌, ◌<◌, ◌≤◌, Bool, true, false, List, [], ◌∷◌, ◌++◌, map, length, length-append, drop, get_or, Ok, Err, sym, ap, ◌∙◌, arith}
use Rattle.std.specs.Prelude.{sum, ◌==◌, if◌then◌else◌}
use Rattle.std.proofs.lemmas.Bool.Decides.{nat_tests}
use Rattle.std.proofs.lemmas.List.{drop_more}
use Rattle.std.proofs.lemmas.List.Sums.{sum_by-cons}
use Rattle.std.specs.List.{flat_map}
use Rattle.star_meaning.specs.State.{State}
use Rattle.star_meaning.specs.Steps.{Went, Failed, pure, and_then, paid}
use Rattle.star_meaning.specs.Showing.{made, escaped, quoted_text}
use Rattle.star_builtins.specs.Shows.{onto}
use Rattle.star_builtins.proofs.Written.{onto_made, charge_is, begins_more}
use Rattle.star_value.specs.declared.failure.Failure.{Failure}
use Rattle.star_value.specs.Charge.{charged}
use Rattle.star_meaning.proofs.Equations.{weight_none, weight_bool, weight_int, weight_text, weight_tuple, weight_range, weight_list, weight_dict, weight_function, weight_builtin, value_none, value_bool, value_int, value_text, value_tuple}

-- a charge that is made in two parts
pub charged_both : (left a b mid : ℕ) → charged left a ≡ (Ok tt, mid) → charged left (a + b) ≡ charged mid b
charged_both left a b mid h = grind (arith, nat_tests)

pub charged_first : (left a b mid : ℕ) (e : Failure) → charged left a ≡ (Err e, mid) → charged left (a + b) ≡ (Err e, mid)
charged_first left a b mid e h = grind (arith, nat_tests)

pub charged_none : (left : ℕ) → charged left 0 ≡ (Ok tt, left)
charged_none left = grind (arith, nat_tests)

-- the steps that are left for the rest of a list
pub rest_charged : {X : Type 0} (f : X → ℕ) (xs : List X) (i : ℕ) (x : X) (left mid : ℕ) → i < length xs → x ≡ get_or xs i x → charged left (f x) ≡ (Ok tt, mid)
    → charged left (sum (map f (drop i xs))) ≡ charged mid (sum (map f (drop (i + 1) xs)))
rest_charged f xs i x left mid within here h =
    let more : drop i xs ≡ x ∷ drop (i + 1) xs = drop_more xs i x within ∙ ap (λ y. y ∷ drop (i + 1) xs) (sym here) in
    ap (λ ys. charged left (sum (map f ys))) more ∙ ap (charged left) (sum_by-cons (λ n. n) (f x) (map f (drop (i + 1) xs))) ∙ charged_both left (f x) (sum (map f (drop (i + 1) xs))) mid h

pub rest_failed : {X : Type 0} (f : X → ℕ) (xs : List X) (i : ℕ) (x : X) (left mid : ℕ) (e : Failure) → i < length xs → x ≡ get_or xs i x → charged left (f x) ≡ (Err e, mid)
    → charged left (sum (map f (drop i xs))) ≡ (Err e, mid)
rest_failed f xs i x left mid e within here h =
    let more : drop i xs ≡ x ∷ drop (i + 1) xs = drop_more xs i x within ∙ ap (λ y. y ∷ drop (i + 1) xs) (sym here) in
    ap (λ ys. charged left (sum (map f ys))) more ∙ ap (charged left) (sum_by-cons (λ n. n) (f x) (map f (drop (i + 1) xs))) ∙ charged_first left (f x) (sum (map f (drop (i + 1) xs))) mid e h

pub ruleset charges = (charged_none, rest_charged, rest_failed)

pub ruleset weights = (weight_none, weight_bool, weight_int, weight_text, weight_tuple, weight_range, weight_list, weight_dict, weight_function, weight_builtin, value_none, value_bool, value_int, value_text, value_tuple)

-- ---- a text that is charged in two parts

module _ {C : Type 0} where
  charged_made : (before text : List ℕ) (s : State C) (left : ℕ) → onto before (made text) (record { state = s; left = left }) ≡ and_then (paid s (charged left (length text))) (λ _. pure (before ++ text))
  charged_made before text s left = onto_made before text (record { state = s; left = left }) ∙ ap (λ o. and_then o (λ _. pure (before ++ text))) (charge_is s left (length text))

  pub made_failed_first : (before text : List ℕ) (least : ℕ) (s : State C) (left mid : ℕ) (e : Failure) → least ≤ length text → charged left least ≡ (Err e, mid)
      → onto before (made text) (record { state = s; left = left }) ≡ Failed e (record { state = s; left = mid })
  made_failed_first before text least s left mid e within first =
      let whole : least + (length text - least) ≡ length text = omega arith in
      let all : charged left (length text) ≡ (Err e, mid) = ap (charged left) (sym whole) ∙ charged_first left least (length text - least) mid e first in
      charged_made before text s left ∙ ap (λ r. and_then (paid s r) (λ _. pure (before ++ text))) all

  pub made_failed_second : (before text : List ℕ) (least : ℕ) (s : State C) (left mid last : ℕ) (e : Failure) → least ≤ length text → charged left least ≡ (Ok tt, mid) → charged mid (length text - least) ≡ (Err e, last)
      → onto before (made text) (record { state = s; left = left }) ≡ Failed e (record { state = s; left = last })
  made_failed_second before text least s left mid last e within first second =
      let whole : least + (length text - least) ≡ length text = omega arith in
      let all : charged left (length text) ≡ (Err e, last) = ap (charged left) (sym whole) ∙ charged_both left least (length text - least) mid first ∙ second in
      charged_made before text s left ∙ ap (λ r. and_then (paid s r) (λ _. pure (before ++ text))) all

  pub made_in_parts : (before text : List ℕ) (least : ℕ) (s : State C) (left mid last : ℕ) → least ≤ length text → charged left least ≡ (Ok tt, mid) → charged mid (length text - least) ≡ (Ok tt, last)
      → onto before (made text) (record { state = s; left = left }) ≡ Went (before ++ text) (record { state = s; left = last })
  made_in_parts before text least s left mid last within first second =
      let whole : least + (length text - least) ≡ length text = omega arith in
      let all : charged left (length text) ≡ (Ok tt, last) = ap (charged left) (sym whole) ∙ charged_both left least (length text - least) mid first ∙ second in
      charged_made before text s left ∙ ap (λ r. and_then (paid s r) (λ _. pure (before ++ text))) all

choice_long : (p q r t u : Bool) (c : ℕ)
    → 1 ≤ length (if p then 92 ∷ 92 ∷ [] else if q then 92 ∷ 34 ∷ [] else if r then 92 ∷ 110 ∷ [] else if t then 92 ∷ 114 ∷ [] else if u then 92 ∷ 116 ∷ [] else c ∷ [])
choice_long true q r t u c = omega arith
choice_long false true r t u c = omega arith
choice_long false false true t u c = omega arith
choice_long false false false true u c = omega arith
choice_long false false false false true c = omega arith
choice_long false false false false false c = omega arith

escaped_long : (c : ℕ) → 1 ≤ length (escaped c)
escaped_long c = choice_long (c == 92) (c == 34) (c == 10) (c == 13) (c == 9) c

flat_long : (points : List ℕ) → length points ≤ length (flat_map escaped points)
flat_long [] = omega arith
flat_long (c ∷ cs) = let long = flat_long cs in let first = escaped_long c in let both = length-append (escaped c) (flat_map escaped cs) in omega arith

-- a quoted text has its quotes, and at least one code point for each of the text's
pub quoted_long : (points : List ℕ) → length points + 2 ≤ length (quoted_text points)
unfolding quoted_text
quoted_long points = let long = flat_long points in let both = length-append (34 ∷ flat_map escaped points) (34 ∷ []) in omega arith

pub ruleset parts = (made_failed_first, made_failed_second, made_in_parts, quoted_long, begins_more)
