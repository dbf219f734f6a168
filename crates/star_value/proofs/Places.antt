-- Where a text stands in another: places among code points, from places among bytes.
use Rattle.std.proofs.Common.{◌≡◌, ℕ, ◌+◌, ◌<◌, ◌≤◌, true, false, List, [], ◌∷◌, ◌++◌, length, drop, Some, None, refl, ap, ◌∙◌, append_assoc, inl, inr, arith}
use Rattle.std.specs.Prelude.{encode_utf8, option_map}
use Rattle.std.specs.Str.{chars, encode_utf8_all, all_scalars}
use Rattle.std.specs.Str.Pattern.{LacksTextAt}
use Rattle.std.proofs.lemmas.Bool.{cases_Bool}
use Rattle.std.proofs.lemmas.Bool.Decides.{Decides-eqb}
use Rattle.std.proofs.lemmas.List.{length-append}
use Rattle.std.proofs.lemmas.Slice.Eq.{starts_is}
use Rattle.std.proofs.lemmas.Str.{cons_from_encodes, chars-encodes, encodes-append, length-encode, len_utf8_bounds}
use Rattle.std.proofs.Math.Seq.{drop-append-add}
use Rattle.star_value.specs.Texts.{starts_with, find}

-- ---- among code points

pub starts_rest : (text what : List ℕ) → starts_with text what ≡ true → text ≡ what ++ drop (length what) text
starts_rest text what h = (starts_is Decides-eqb text what (starts_with text what) refl).0 h

pub starts_with-append : (what rest : List ℕ) → starts_with (what ++ rest) what ≡ true
starts_with-append what rest = (starts_is Decides-eqb (what ++ rest) what (starts_with (what ++ rest) what) refl).1 rest refl

pub starts_not : (text what : List ℕ) → ((rest : List ℕ) → text ≡ what ++ rest → ⊥) → starts_with text what ≡ false
starts_not text what never = elim (cases_Bool (starts_with text what)) as (λ b. starts_with text what ≡ false)
    [ inl h ↦ absurd (never (drop (length what) text) (starts_rest text what h)) | inr h ↦ h ]

pub find_here : (text what : List ℕ) → starts_with text what ≡ true → find text what ≡ Some 0
unfolding find
find_here [] what h = rw h refl
find_here (c ∷ cs) what h = rw h refl

pub find_later : (c : ℕ) (cs what : List ℕ) → starts_with (c ∷ cs) what ≡ false → find (c ∷ cs) what ≡ option_map (λ place. place + 1) (find cs what)
unfolding find
find_later c cs what h = rw h refl

pub find_nil : (what : List ℕ) → starts_with [] what ≡ false → find [] what ≡ None
unfolding find
find_nil what h = rw h refl

-- ---- among bytes

-- a text whose bytes start with those of another starts with it
pub rest_of_encoded : (what text rest : List ℕ) → encode_utf8_all text ≡ encode_utf8_all what ++ rest → (es : List ℕ) × (text ≡ what ++ es) × (encode_utf8_all es ≡ rest)
rest_of_encoded [] text rest e = (text, refl, e)
rest_of_encoded (c ∷ what) text rest e =
    let (ds, whole, more) = cons_from_encodes text (encode_utf8_all what ++ rest) c (e ∙ append_assoc (encode_utf8 c) (encode_utf8_all what) rest) in
    let (es, inner, left) = rest_of_encoded what ds rest more in
    (es, whole ∙ ap (λ x. c ∷ x) inner, left)

lacks : (text what : List ℕ) → LacksTextAt (encode_utf8_all what) (encode_utf8_all text) 0 → starts_with text what ≡ false
lacks text what never = starts_not text what (λ rest is. never (encode_utf8_all rest) (ap encode_utf8_all is ∙ encodes-append what rest))

lacks_past : (c : ℕ) (cs what : List ℕ) (i : ℕ) → LacksTextAt what (encode_utf8 c ++ encode_utf8_all cs) (length (encode_utf8 c) + i) → LacksTextAt what (encode_utf8_all cs) i
lacks_past c cs what i never rest is = never rest (drop-append-add (encode_utf8 c) (encode_utf8_all cs) i ∙ is)

some_bytes : (c : ℕ) → 0 < length (encode_utf8 c)
some_bytes c = rw (length-encode c) (omega (arith, len_utf8_bounds c))

-- the first place among bytes is the first among code points
pub find_at : (front rest what : List ℕ) → starts_with rest what ≡ true
    → ((i : ℕ) → i < length (encode_utf8_all front) → LacksTextAt (encode_utf8_all what) (encode_utf8_all (front ++ rest)) i) → find (front ++ rest) what ≡ Some (length front)
find_at [] rest what here never = find_here rest what here
find_at (c ∷ front) rest what here never =
    let some = some_bytes c in
    let long = length-append (encode_utf8 c) (encode_utf8_all front) in
    find_later c (front ++ rest) what (lacks (c ∷ (front ++ rest)) what (never 0 (omega arith)))
    ∙ rw (find_at front rest what here (λ i below. lacks_past c (front ++ rest) (encode_utf8_all what) i (never (length (encode_utf8 c) + i) (omega arith)))) (ap Some (omega arith))

pub find_nowhere : (text what : List ℕ) → ((i : ℕ) → i ≤ length (encode_utf8_all text) → LacksTextAt (encode_utf8_all what) (encode_utf8_all text) i) → find text what ≡ None
find_nowhere [] what never = find_nil what (lacks [] what (never 0 (omega arith)))
find_nowhere (c ∷ cs) what never =
    let long = length-append (encode_utf8 c) (encode_utf8_all cs) in
    find_later c cs what (lacks (c ∷ cs) what (never 0 (omega arith)))
    ∙ rw (find_nowhere cs what (λ i within. lacks_past c cs (encode_utf8_all what) i (never (length (encode_utf8 c) + i) (omega arith)))) refl

-- the code points of bytes that spell a text
pub spells : (bytes text : List ℕ) → bytes ≡ encode_utf8_all text → all_scalars text ≡ true → chars bytes ≡ text
spells bytes text is scalar = ap chars is ∙ chars-encodes text scalar
