-- The parts of a format, which is the left text of `text % value`.
use Rattle.std.specs.Prelude.{ℕ, ◌==◌, List, [], ◌∷◌, Option, Some, None, option_map, if◌then◌else◌}
use Rattle.star_value.specs.declared.format.Part.{Part}
use Rattle.star_value.specs.declared.format.Part.TheVariants as part

abbrev pub percent : ℕ
percent = 37

-- what stands for a value after `%`: `s` shows it, `r` quotes it, and `d` writes an integer in decimal
abbrev pub conversion : ℕ → Option Part
conversion letter = if letter == 115 then Some part.Shown else if letter == 114 then Some part.Quoted else if letter == 100 then Some part.Decimal else None

-- a code point of plain text before these parts: it joins the plain text that stands first, or is one
abbrev pub onto_plain : ℕ → List Part → List Part
onto_plain c (part.Plain text ∷ parts) = part.Plain (c ∷ text) ∷ parts
onto_plain c parts = part.Plain (c ∷ []) ∷ parts

-- a conversion before these parts
abbrev pub onto : Option Part → List Part → Option (List Part)
onto None parts = None
onto (Some first) parts = Some (first ∷ parts)

abbrev pub and_then : {A B : Type 0} → Option A → (A → Option B) → Option B
and_then None f = None
and_then (Some a) f = f a

-- the parts of a format: `%%` is a plain `%`, `%` and a letter is a conversion, and any other code point is plain; there
-- are none where a `%` stands at the end or before another code point
unfoldable pub parts_of : List ℕ → Option (List Part)
parts_of [] = Some []
parts_of (c ∷ []) = if c == percent then None else Some (part.Plain (c ∷ []) ∷ [])
parts_of (c ∷ d ∷ cs) =
    if c == percent then (if d == percent then option_map (onto_plain percent) (parts_of cs) else and_then (parts_of cs) (onto (conversion d)))
    else option_map (onto_plain c) (parts_of (d ∷ cs))

-- plain text as parts: one, or none where it is empty
abbrev pub plain_parts : List ℕ → List Part
plain_parts [] = []
plain_parts (c ∷ cs) = part.Plain (c ∷ cs) ∷ []
