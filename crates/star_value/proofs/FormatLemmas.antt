-- The parts of a format, from what is left of it.
use Rattle.std.proofs.Common.{◌≡◌, ℕ, Bool, true, false, List, [], ◌∷◌, ◌++◌, length, Option, Some, None, refl, sym, ap, ◌∙◌, subst, append_assoc, append-nil, inl, inr, arith}
use Rattle.std.specs.Prelude.{◌==◌, option_map, cond}
use Rattle.std.specs.Str.{NonePass, chars, encode_utf8_all}
use Rattle.std.proofs.lemmas.Bool.{cases_Bool}
use Rattle.std.proofs.lemmas.Bool.Decides.{Decides-eqb}
use Rattle.std.proofs.lemmas.Str.{length-le-encodes}
use Rattle.star_value.specs.declared.format.Part.{Part}
use Rattle.star_value.specs.declared.format.Part.TheVariants as part
use Rattle.star_value.specs.Cutting.{IsPointCut}
use Rattle.star_value.specs.Format.{percent, conversion, onto_plain, onto, and_then, parts_of, plain_parts}

abbrev is_percent : ℕ → Bool
is_percent d = d == percent

-- plain text before these parts
abbrev pub with_plain : List ℕ → List Part → List Part
with_plain [] parts = parts
with_plain (c ∷ cs) parts = onto_plain c (with_plain cs parts)

with_plain-append : (a b : List ℕ) (parts : List Part) → with_plain (a ++ b) parts ≡ with_plain a (with_plain b parts)
with_plain-append [] b parts = refl
with_plain-append (c ∷ a) b parts = ap (onto_plain c) (with_plain-append a b parts)

with_plain-nil : (text : List ℕ) → with_plain text [] ≡ plain_parts text
with_plain-nil [] = refl
with_plain-nil (c ∷ []) = refl
with_plain-nil (c ∷ d ∷ cs) = ap (onto_plain c) (with_plain-nil (d ∷ cs))

abbrev IsConversion : Part → Type 0
IsConversion (part.Plain text) = ⊥
IsConversion part.Shown = Unit {0}
IsConversion part.Quoted = Unit {0}
IsConversion part.Decimal = Unit {0}

onto_plain-conversion : (c : ℕ) (first : Part) (parts : List Part) → IsConversion first → onto_plain c (first ∷ parts) ≡ part.Plain (c ∷ []) ∷ first ∷ parts
onto_plain-conversion c (part.Plain text) parts is = absurd is
onto_plain-conversion c part.Shown parts is = refl
onto_plain-conversion c part.Quoted parts is = refl
onto_plain-conversion c part.Decimal parts is = refl

with_plain-conversion : (text : List ℕ) (first : Part) (parts : List Part) → IsConversion first → with_plain text (first ∷ parts) ≡ plain_parts text ++ first ∷ parts
with_plain-conversion [] first parts is = refl
with_plain-conversion (c ∷ []) first parts is = onto_plain-conversion c first parts is
with_plain-conversion (c ∷ d ∷ cs) first parts is = ap (onto_plain c) (with_plain-conversion (d ∷ cs) first parts is)

abbrev IsNoPlain : Option Part → Type 0
IsNoPlain None = Unit {0}
IsNoPlain (Some first) = IsConversion first

no_plain : (a b c : Bool) → IsNoPlain (cond a (Some part.Shown) (cond b (Some part.Quoted) (cond c (Some part.Decimal) None)))
no_plain true b c = tt
no_plain false true c = tt
no_plain false false true = tt
no_plain false false false = tt

conversion_is : (letter : ℕ) (first : Part) → Some first ≡ conversion letter → IsConversion first
conversion_is letter first is = subst IsNoPlain (sym is) (no_plain (letter == 115) (letter == 114) (letter == 100))

-- ---- the front of a format

parts_of-plain : (c : ℕ) (cs : List ℕ) → is_percent c ≡ false → parts_of (c ∷ cs) ≡ option_map (onto_plain c) (parts_of cs)
unfolding parts_of
parts_of-plain c [] h = rw h refl
parts_of-plain c (d ∷ cs) h = rw h refl

map_same : {A : Type 0} (o : Option A) → o ≡ option_map (λ a. a) o
map_same None = refl
map_same (Some a) = refl

map_twice : {A B C : Type 0} (f : B → C) (g : A → B) (o : Option A) → option_map f (option_map g o) ≡ option_map (λ a. f (g a)) o
map_twice f g None = refl
map_twice f g (Some a) = refl

parts_of-append : (front back : List ℕ) → NonePass is_percent front → parts_of (front ++ back) ≡ option_map (with_plain front) (parts_of back)
parts_of-append [] back none = map_same (parts_of back)
parts_of-append (c ∷ front) back (first, rest) =
    parts_of-plain c (front ++ back) first ∙ ap (option_map (onto_plain c)) (parts_of-append front back rest) ∙ map_twice (onto_plain c) (with_plain front) (parts_of back)

parts_of-end : parts_of (percent ∷ []) ≡ None
unfolding parts_of
parts_of-end = refl

parts_of-percents : (cs : List ℕ) → parts_of (percent ∷ percent ∷ cs) ≡ option_map (onto_plain percent) (parts_of cs)
unfolding parts_of
parts_of-percents cs = refl

no_percent : (letter : ℕ) → (letter ≡ percent → ⊥) → is_percent letter ≡ false
no_percent letter other = elim (cases_Bool (is_percent letter)) as (λ b. is_percent letter ≡ false)
    [ inl h ↦ absurd (other ((Decides-eqb letter percent).0 h)) | inr h ↦ h ]

parts_of-letter : (letter : ℕ) (cs : List ℕ) → is_percent letter ≡ false → parts_of (percent ∷ letter ∷ cs) ≡ and_then (parts_of cs) (onto (conversion letter))
unfolding parts_of
parts_of-letter letter cs h = rw h refl

parts_of-cut : (text before after : List ℕ) → IsPointCut is_percent text before after → parts_of text ≡ option_map (with_plain (chars before)) (parts_of (percent ∷ chars after))
parts_of-cut text before after cut =
    let here : cut.point ≡ percent = (Decides-eqb cut.point percent).0 cut.passes in
    ap parts_of cut.parts ∙ parts_of-append (chars before) (cut.point ∷ chars after) cut.first ∙ ap (λ c. option_map (with_plain (chars before)) (parts_of (c ∷ chars after))) here

-- ---- the loop over a format: these parts are made, this plain text is open, and this text is left

unfoldable pub whole : List Part → List ℕ → List ℕ → Option (List Part)
whole parts plain text = option_map (λ more. parts ++ with_plain plain more) (parts_of text)

pub whole_start : (text : List ℕ) → whole [] [] text ≡ parts_of text
unfolding whole
whole_start text = sym (map_same (parts_of text))

at_percents : (parts : List Part) (plain front : List ℕ) (o : Option (List Part))
    → option_map (λ more. parts ++ with_plain ((plain ++ front) ++ percent ∷ []) more) o ≡ option_map (λ more. parts ++ with_plain plain more) (option_map (with_plain front) (option_map (onto_plain percent) o))
at_percents parts plain front None = refl
at_percents parts plain front (Some more) =
    ap (λ all. Some (parts ++ all)) (with_plain-append (plain ++ front) (percent ∷ []) more ∙ with_plain-append plain front (onto_plain percent more))

pub whole_percents : (parts : List Part) (plain text before after rest : List ℕ) → IsPointCut is_percent text before after → chars after ≡ percent ∷ chars rest
    → whole parts ((plain ++ chars before) ++ percent ∷ []) (chars rest) ≡ whole parts plain text
unfolding whole
whole_percents parts plain text before after rest cut next =
    at_percents parts plain (chars before) (parts_of (chars rest))
    ∙ ap (λ o. option_map (λ more. parts ++ with_plain plain more) (option_map (with_plain (chars before)) o)) (sym (ap (λ t. parts_of (percent ∷ t)) next ∙ parts_of-percents (chars rest)))
    ∙ ap (option_map (λ more. parts ++ with_plain plain more)) (sym (parts_of-cut text before after cut))

at_conversion : (parts : List Part) (plain front : List ℕ) (first : Part) (o : Option (List Part)) → IsConversion first
    → option_map (λ more. ((parts ++ plain_parts (plain ++ front)) ++ first ∷ []) ++ more) o
    ≡ option_map (λ more. parts ++ with_plain plain more) (option_map (with_plain front) (and_then o (onto (Some first))))
at_conversion parts plain front first None is = refl
at_conversion parts plain front first (Some more) is =
    ap Some (append_assoc (parts ++ plain_parts (plain ++ front)) (first ∷ []) more ∙ append_assoc parts (plain_parts (plain ++ front)) (first ∷ more)
    ∙ ap (λ all. parts ++ all) (sym (with_plain-conversion (plain ++ front) first more is) ∙ with_plain-append plain front (first ∷ more)))

pub whole_conversion : (parts : List Part) (plain text before after rest : List ℕ) (letter : ℕ) (first : Part) → IsPointCut is_percent text before after
    → chars after ≡ letter ∷ chars rest → (letter ≡ percent → ⊥) → Some first ≡ conversion letter
    → whole ((parts ++ plain_parts (plain ++ chars before)) ++ first ∷ []) [] (chars rest) ≡ whole parts plain text
unfolding whole
whole_conversion parts plain text before after rest letter first cut next other is =
    at_conversion parts plain (chars before) first (parts_of (chars rest)) (conversion_is letter first is)
    ∙ ap (λ o. option_map (λ more. parts ++ with_plain plain more) (option_map (with_plain (chars before)) o))
    (ap (λ o. and_then (parts_of (chars rest)) (onto o)) is ∙ sym (ap (λ t. parts_of (percent ∷ t)) next ∙ parts_of-letter letter (chars rest) (no_percent letter other)))
    ∙ ap (option_map (λ more. parts ++ with_plain plain more)) (sym (parts_of-cut text before after cut))

no_parts : (o : Option (List Part)) → and_then o (onto None) ≡ None
no_parts None = refl
no_parts (Some parts) = refl

-- another letter, or none
pub whole_letter : (parts : List Part) (plain text before after rest : List ℕ) (letter : ℕ) → IsPointCut is_percent text before after
    → chars after ≡ letter ∷ chars rest → (letter ≡ percent → ⊥) → None ≡ conversion letter → whole parts plain text ≡ None
unfolding whole
whole_letter parts plain text before after rest letter cut next other is =
    ap (option_map (λ more. parts ++ with_plain plain more))
    (parts_of-cut text before after cut
    ∙ ap (option_map (with_plain (chars before)))
    (ap (λ t. parts_of (percent ∷ t)) next ∙ parts_of-letter letter (chars rest) (no_percent letter other) ∙ ap (λ o. and_then (parts_of (chars rest)) (onto o)) (sym is) ∙ no_parts (parts_of (chars rest))))

pub whole_end : (parts : List Part) (plain text before after : List ℕ) → IsPointCut is_percent text before after → chars after ≡ [] → whole parts plain text ≡ None
unfolding whole
whole_end parts plain text before after cut next =
    ap (option_map (λ more. parts ++ with_plain plain more))
    (parts_of-cut text before after cut ∙ ap (option_map (with_plain (chars before))) (ap (λ t. parts_of (percent ∷ t)) next ∙ parts_of-end))

parts_of-nil : parts_of [] ≡ Some []
unfolding parts_of
parts_of-nil = refl

parts_of-none : (text : List ℕ) → NonePass is_percent text → parts_of text ≡ Some (with_plain text [])
parts_of-none text none = ap parts_of (sym (append-nil text)) ∙ parts_of-append text [] none ∙ ap (option_map (with_plain text)) parts_of-nil

pub whole_plain : (parts : List Part) (plain text : List ℕ) → NonePass is_percent text → whole parts plain text ≡ Some (parts ++ plain_parts (plain ++ text))
unfolding whole
whole_plain parts plain text none =
    ap (option_map (λ more. parts ++ with_plain plain more)) (parts_of-none text none)
    ∙ ap (λ all. Some (parts ++ all)) (sym (with_plain-append plain text []) ∙ with_plain-nil (plain ++ text))

-- ---- plain text as parts

pub chars_percent : chars (37 ∷ []) ≡ percent ∷ []
unfolding chars
chars_percent = refl

pub plain_parts_none : (done : List Part) (plain bytes : List ℕ) → bytes ≡ encode_utf8_all plain → true ≡ (length bytes == 0) → done ≡ done ++ plain_parts plain
plain_parts_none done [] bytes is none = sym (append-nil done)
plain_parts_none done (c ∷ cs) bytes is none =
    let long = length-le-encodes (c ∷ cs) in let same = ap length is in let short = (Decides-eqb (length bytes) 0).0 (sym none) in absurd (omega arith)

pub ruleset steps = (whole_start, whole_percents, whole_conversion, whole_letter, whole_end, whole_plain, chars_percent)
