-- What the calls on texts answer. A text is the list of its code points.
use Rattle.std.specs.Prelude.{◌≡◌, ◌++◌, ℕ, zero, suc, ◌+◌, ◌-◌, nat_eq, ◌==◌, Bool, not, List, [], ◌∷◌, length, reverse, Option, Some, None, option_map, if◌then◌else◌}
use Rattle.std.specs.List as list
use Rattle.std.specs.Char.{char_set_contains}
use Rattle.std.specs.List.{filter, join_by, onto_first, slice_split}

-- whether a text starts with another, and whether it ends with another
abbrev pub starts_with : List ℕ → List ℕ → Bool
starts_with of what = list.starts_with nat_eq of what

abbrev pub ends_with : List ℕ → List ℕ → Bool
ends_with of what = list.ends_with nat_eq of what

-- the first place from which on the text starts with another, if there is one
unfoldable pub find : List ℕ → List ℕ → Option ℕ
find [] what = if starts_with [] what then Some 0 else None
find (c ∷ cs) what = if starts_with (c ∷ cs) what then Some 0 else option_map (λ place. place + 1) (find cs what)

-- the pieces of a text of which the first `past` code points belong to a separator: where the separator starts a piece
-- ends, and the separator is passed over; every other code point stands in its piece
unfoldable pub pieces : List ℕ → ℕ → List ℕ → List (List ℕ)
pieces [] past by = [] ∷ []
pieces (c ∷ cs) (suc past) by = pieces cs past by
pieces (c ∷ cs) zero by = if starts_with (c ∷ cs) by then [] ∷ pieces cs (length by - 1) by else onto_first c (pieces cs 0 by)

-- the pieces between the separators of a text, which are found from the left and do not overlap
abbrev pub split : List ℕ → List ℕ → List (List ℕ)
split of by = pieces of 0 by

-- the pieces of a text again, as a relation: each piece but the last ends where the separator first stands in what is
-- left, and what follows that separator is left then; the separator stands nowhere in the last piece
abbrev pub IsSplit : List ℕ → List ℕ → List (List ℕ) → Type 0
IsSplit of by [] = ⊥
IsSplit of by (piece ∷ []) = (of ≡ piece) × (find of by ≡ None)
IsSplit of by (piece ∷ next ∷ more) = (find of by ≡ Some (length piece)) × ((rest : List ℕ) × (of ≡ piece ++ (by ++ rest)) × IsSplit rest by (next ∷ more))

-- the texts in order, with another between each two
abbrev pub join : List ℕ → List (List ℕ) → List ℕ
join by parts = join_by (λ part. part) by parts

-- the text with `new` in place of each `old`, which are found as separators are
abbrev pub replace : List ℕ → List ℕ → List ℕ → List ℕ
replace of old new = join new (split of old)

-- white space: space, \t, \n, \r, U+000B and U+000C
abbrev pub white : List ℕ
white = 32 ∷ 9 ∷ 10 ∷ 13 ∷ 11 ∷ 12 ∷ []

-- whether a code point is in a set
abbrev pub is_among : List ℕ → ℕ → Bool
is_among set c = char_set_contains set c

abbrev pub is_some_text : List ℕ → Bool
is_some_text text = not (length text == 0)

-- the pieces between white code points that are not empty
unfoldable pub split_white : List ℕ → List (List ℕ)
split_white of = filter is_some_text (slice_split (is_among white) of)

-- what is left of a text without the code points at its front that are in a set
abbrev pub without_front : List ℕ → List ℕ → List ℕ
without_front set [] = []
without_front set (c ∷ cs) = if is_among set c then without_front set cs else c ∷ cs

-- the same at its end
abbrev pub without_end : List ℕ → List ℕ → List ℕ
without_end set of = reverse (without_front set (reverse of))

-- what is left of a text without the code points of a set at the ends that are asked for
unfoldable pub stripped : List ℕ → List ℕ → Bool → Bool → List ℕ
stripped of set left right =
    let rest = if left then without_front set of else of in
    if right then without_end set rest else rest

-- the same, where the set is white space if none is given
abbrev pub strip : List ℕ → Option (List ℕ) → Bool → Bool → List ℕ
strip of None left right = stripped of white left right
strip of (Some set) left right = stripped of set left right
