-- The pieces of a text that is cut at the first place of a separator.
use Rattle.std.proofs.Common.{◌≡◌, ℕ, zero, suc, ◌+◌, ◌-◌, ◌<◌, true, false, List, [], ◌∷◌, ◌++◌, length, drop, Option, Some, None, refl, sym, ap, ◌∙◌, subst, append_assoc, append-nil, inl, inr, arith}
use Rattle.std.specs.Prelude.{option_map}
use Rattle.std.specs.List.{onto_first, flat_map}
use Rattle.std.specs.Str.{chars}
use Rattle.std.proofs.lemmas.Bool.{cases_Bool}
use Rattle.std.proofs.lemmas.List.{length-append}
use Rattle.star_value.specs.Cutting.{IsCut}
use Rattle.star_value.specs.Texts.{IsSplit, starts_with, find, pieces, split, join, replace}
use Rattle.star_value.proofs.Places.{starts_rest, starts_with-append, find_here, find_later, find_nil}

-- ---- one code point

pieces_yes : (c : ℕ) (cs by : List ℕ) → starts_with (c ∷ cs) by ≡ true → pieces (c ∷ cs) 0 by ≡ [] ∷ pieces cs (length by - 1) by
unfolding pieces
pieces_yes c cs by h = rw h refl

pieces_no : (c : ℕ) (cs by : List ℕ) → starts_with (c ∷ cs) by ≡ false → pieces (c ∷ cs) 0 by ≡ onto_first c (pieces cs 0 by)
unfolding pieces
pieces_no c cs by h = rw h refl

pieces-nil : (past : ℕ) (by : List ℕ) → pieces [] past by ≡ [] ∷ []
unfolding pieces
pieces-nil past by = refl

pieces-append : (past rest by : List ℕ) → pieces (past ++ rest) (length past) by ≡ pieces rest 0 by
unfolding pieces
pieces-append [] rest by = refl
pieces-append (c ∷ past) rest by = pieces-append past rest by

-- ---- a whole piece

later : (o : Option ℕ) (n : ℕ) → option_map (λ place. place + 1) o ≡ Some (n + 1) → o ≡ Some n
later None n h = absurd (cc)
later (Some m) n h = let e : m + 1 ≡ n + 1 = cc in ap Some (omega arith)

not_here : (text by : List ℕ) (n : ℕ) → find text by ≡ Some (n + 1) → starts_with text by ≡ false
not_here text by n is = elim (cases_Bool (starts_with text by)) as (λ b. starts_with text by ≡ false)
    [ inl h ↦ let here = find_here text by h in let e : 0 ≡ n + 1 = cc in absurd (omega arith) | inr h ↦ h ]

past_first : (b : ℕ) (bs back : List ℕ) → pieces (bs ++ back) (length (b ∷ bs) - 1) (b ∷ bs) ≡ pieces back 0 (b ∷ bs)
past_first b bs back = let e : length (b ∷ bs) - 1 ≡ length bs = omega arith in rw e (pieces-append bs back (b ∷ bs))

split_front : (front back by : List ℕ) → 0 < length by → find (front ++ (by ++ back)) by ≡ Some (length front) → split (front ++ (by ++ back)) by ≡ front ∷ split back by
split_front [] back [] some is = absurd (omega arith)
split_front [] back (b ∷ bs) some is = pieces_yes b (bs ++ back) (b ∷ bs) (starts_with-append (b ∷ bs) back) ∙ ap (λ all. [] ∷ all) (past_first b bs back)
split_front (c ∷ front) back by some is =
    let rest = front ++ (by ++ back) in
    let place : find (c ∷ rest) by ≡ Some (length front + 1) = is ∙ ap Some (omega arith) in
    let other : starts_with (c ∷ rest) by ≡ false = not_here (c ∷ rest) by (length front) place in
    let more : find rest by ≡ Some (length front) = later (find rest by) (length front) (sym (find_later c rest by other) ∙ place) in
    pieces_no c rest by other ∙ ap (onto_first c) (split_front front back by some more)

split_at : (text before after by : List ℕ) → 0 < length by → IsCut text by before after → split text by ≡ chars before ∷ split (chars after) by
split_at text before after by some cut = ap (λ t. split t by) cut.parts ∙ split_front (chars before) (chars after) by some (sym (ap (λ t. find t by) cut.parts) ∙ cut.place)

-- a loop that pushes each piece
pub split_more : (done : List (List ℕ)) (text before after by : List ℕ) → 0 < length by → IsCut text by before after
    → (done ++ chars before ∷ []) ++ split (chars after) by ≡ done ++ split text by
split_more done text before after by some cut = append_assoc done (chars before ∷ []) (split (chars after) by) ∙ ap (λ all. done ++ all) (sym (split_at text before after by some cut))

nowhere : (o : Option ℕ) → option_map (λ place. place + 1) o ≡ None → o ≡ None
nowhere None h = refl
nowhere (Some n) h = absurd (cc)

not_at_all : (text by : List ℕ) → find text by ≡ None → starts_with text by ≡ false
not_at_all text by is = elim (cases_Bool (starts_with text by)) as (λ b. starts_with text by ≡ false)
    [ inl h ↦ let here = find_here text by h in absurd (cc) | inr h ↦ h ]

pub split_none : (text by : List ℕ) → find text by ≡ None → split text by ≡ text ∷ []
split_none [] by is = pieces-nil 0 by
split_none (c ∷ cs) by is =
    let other : starts_with (c ∷ cs) by ≡ false = not_at_all (c ∷ cs) by is in
    let more : find cs by ≡ None = nowhere (find cs by) (sym (find_later c cs by other) ∙ is) in
    pieces_no c cs by other ∙ ap (onto_first c) (split_none cs by more)

-- ---- pieces with another text between them

onto_some : (c : ℕ) (all : List (List ℕ)) → (p : List ℕ) × (ps : List (List ℕ)) × (onto_first c all ≡ p ∷ ps)
onto_some c [] = (c ∷ [], [], refl)
onto_some c (p ∷ ps) = (c ∷ p, ps, refl)

abbrev IsSome : List (List ℕ) → Type 0
IsSome all = (p : List ℕ) × (ps : List (List ℕ)) × (all ≡ p ∷ ps)

some_pieces : (text : List ℕ) (past : ℕ) (by : List ℕ) → IsSome (pieces text past by)
unfolding pieces
some_pieces [] past by = ([], [], refl)
some_pieces (c ∷ cs) (suc past) by = some_pieces cs past by
some_pieces (c ∷ cs) zero by = elim (cases_Bool (starts_with (c ∷ cs) by)) as (λ b. IsSome (pieces (c ∷ cs) zero by)) [
  | inl h ↦ ([], pieces cs (length by - 1) by, pieces_yes c cs by h)
  | inr h ↦ let (p, ps, is) = onto_some c (pieces cs 0 by) in (p, ps, pieces_no c cs by h ∙ is)
]

join-cons : (by front : List ℕ) (all : List (List ℕ)) → IsSome all → join by (front ∷ all) ≡ front ++ (by ++ join by all)
join-cons by front all (p, ps, is) = ap (λ more. join by (front ∷ more)) is
    ∙ ap (λ more. front ++ more) (append_assoc by p (flat_map (λ part. by ++ part) ps)) ∙ ap (λ more. front ++ (by ++ join by more)) (sym is)

replace_at : (text before after old new : List ℕ) → 0 < length old → IsCut text old before after → replace text old new ≡ chars before ++ (new ++ replace (chars after) old new)
replace_at text before after old new some cut = ap (join new) (split_at text before after old some cut) ∙ join-cons new (chars before) (split (chars after) old) (some_pieces (chars after) 0 old)

pub replace_more : (done text before after old new : List ℕ) → 0 < length old → IsCut text old before after
    → ((done ++ chars before) ++ new) ++ replace (chars after) old new ≡ done ++ replace text old new
replace_more done text before after old new some cut =
    append_assoc (done ++ chars before) new (replace (chars after) old new) ∙ append_assoc done (chars before) (new ++ replace (chars after) old new)
    ∙ ap (λ all. done ++ all) (sym (replace_at text before after old new some cut))

pub replace_none : (text old new : List ℕ) → find text old ≡ None → replace text old new ≡ text
replace_none text old new is = ap (join new) (split_none text old is) ∙ append-nil text

-- each piece takes code points off the front
pub shorter : (text by before after : List ℕ) → 0 < length by → IsCut text by before after → length (chars after) < length text
shorter text by before after some cut =
    let long = ap length cut.parts ∙ length-append (chars before) (by ++ chars after) in
    let rest = length-append by (chars after) in
    omega arith

-- ---- the pieces as a relation

abbrev Parts : List ℕ → List ℕ → ℕ → Type 0
Parts text by i = (before : List ℕ) × (after : List ℕ) × (text ≡ before ++ (by ++ after)) × (length before ≡ i)

later_parts : (c : ℕ) (cs by : List ℕ) (i : ℕ) (o : Option ℕ) → find cs by ≡ o → option_map (λ place. place + 1) o ≡ Some i → ((m : ℕ) → find cs by ≡ Some m → Parts cs by m)
    → Parts (c ∷ cs) by i
later_parts c cs by i None is next parts = absurd (cc)
later_parts c cs by i (Some m) is next parts =
    let e : m + 1 ≡ i = cc in
    let (before, after, whole, long) = parts m is in
    (c ∷ before, after, ap (λ t. c ∷ t) whole, omega arith)

place_parts : (text by : List ℕ) (i : ℕ) → find text by ≡ Some i → Parts text by i
place_parts [] by i is = elim (cases_Bool (starts_with [] by)) as (λ b. Parts [] by i)
    [ inl h ↦ let here = find_here [] by h in let e : 0 ≡ i = cc in ([], drop (length by) [], starts_rest [] by h, e) | inr h ↦ let none = find_nil by h in absurd (cc) ]
place_parts (c ∷ cs) by i is = elim (cases_Bool (starts_with (c ∷ cs) by)) as (λ b. Parts (c ∷ cs) by i) [
  | inl h ↦ let here = find_here (c ∷ cs) by h in let e : 0 ≡ i = cc in ([], drop (length by) (c ∷ cs), starts_rest (c ∷ cs) by h, e)
  | inr h ↦ later_parts c cs by i (find cs by) refl (sym (find_later c cs by h) ∙ is) (place_parts cs by)
]

split_more_is : (text by piece rest : List ℕ) (pieces : List (List ℕ)) → IsSome pieces → find text by ≡ Some (length piece) → text ≡ piece ++ (by ++ rest) → IsSplit rest by pieces
    → IsSplit text by (piece ∷ pieces)
split_more_is text by piece rest pieces (p, ps, is) place whole more = subst (λ all. IsSplit text by (piece ∷ all)) (sym is) (place, (rest, whole, subst (IsSplit rest by) is more))

split_from : (n : ℕ) (text by : List ℕ) (o : Option ℕ) → ((rest : List ℕ) → length rest < n → IsSplit rest by (split rest by)) → 0 < length by → length text < n + 1 → find text by ≡ o
    → IsSplit text by (split text by)
split_from n text by None shorter_is some within is = subst (IsSplit text by) (sym (split_none text by is)) (refl, is)
split_from n text by (Some i) shorter_is some within is =
    let (before, after, whole, long) = place_parts text by i is in
    let place : find text by ≡ Some (length before) = is ∙ ap Some (sym long) in
    let all : split text by ≡ before ∷ split after by = ap (λ t. split t by) whole ∙ split_front before after by some (sym (ap (λ t. find t by) whole) ∙ place) in
    let size = ap length whole ∙ length-append before (by ++ after) in
    let rest_size = length-append by after in
    subst (IsSplit text by) (sym all) (split_more_is text by before after (split after by) (some_pieces after 0 by) place whole (shorter_is after (omega arith)))

-- by recursion on more than the length of the text
split_is_within : (n : ℕ) (text by : List ℕ) → 0 < length by → length text < n → IsSplit text by (split text by)
split_is_within zero text by some within = absurd (omega arith)
split_is_within (suc n) text by some within = split_from n text by (find text by) (λ rest less. split_is_within n rest by some less) some (omega arith) refl

pub split_is : (text by : List ℕ) → 0 < length by → IsSplit text by (split text by)
split_is text by some = split_is_within (length text + 1) text by some (omega arith)

pub ruleset split_steps = (split_more, split_none, shorter)

pub ruleset replace_steps = (replace_more, replace_none, shorter)
