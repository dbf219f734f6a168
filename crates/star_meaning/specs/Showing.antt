-- How values are written. Each code point is charged as it is made.
use Rattle.std.specs.Prelude.{ℕ, zero, suc, ◌==◌, true, false, if◌then◌else◌, List, [], ◌∷◌, ◌++◌, length, map, Option, Some, None, pos, codes}
use Rattle.std.specs.Fmt.{signed_decimal}
use Rattle.std.specs.List.{flat_map}
use Rattle.std.specs.Ordering.{int_eq}
use Rattle.star_value.specs.declared.failure.Failure.TheVariants as failure
use Rattle.star_value.specs.declared.key.Key.{Key}
use Rattle.star_value.specs.declared.range.Range.{Range}
use Rattle.star_value.specs.declared.value.Value.{Value, out-Value}
use Rattle.star_value.specs.declared.value.Value.TheOpen.{Value-F}
use Rattle.star_value.specs.Keys as keys
use Rattle.star_meaning.specs.State.{list, dict, function}
use Rattle.star_meaning.specs.Steps.{Action, pure, fail, charge, read, ◌>>=◌, ◌>>◌}
use Rattle.star_meaning.specs.Values.{builtin_name, text_in}

-- the name of a cell's function, by its number
abbrev pub Naming : Type 0 → Type 0
Naming C = C → ℕ → List ℕ

-- these code points are made
unfoldable pub made : {C : Type 0} → List ℕ → Action C (List ℕ)
made text = charge (length text) >> pure text

-- one text after another
infixl 20 ◌<+>◌
abbrev pub ◌<+>◌ : {C : Type 0} → Action C (List ℕ) → Action C (List ℕ) → Action C (List ℕ)
p <+> q = p >>= (λ a. q >>= (λ b. pure (a ++ b)))

-- each further text after a separator
abbrev pub made_after : {C : Type 0} → List ℕ → List (Action C (List ℕ)) → Action C (List ℕ)
made_after by [] = pure []
made_after by (p ∷ ps) = made by <+> p <+> made_after by ps

-- texts with a separator between
abbrev pub made_between : {C : Type 0} → List ℕ → List (Action C (List ℕ)) → Action C (List ℕ)
made_between by [] = pure []
made_between by (p ∷ ps) = p <+> made_after by ps

-- a code point of a quoted text: a backslash and a letter for `\`, `"`, newline, carriage return and tab
abbrev pub escaped : ℕ → List ℕ
escaped c =
    if c == 92 then 92 ∷ 92 ∷ []
    else if c == 34 then 92 ∷ 34 ∷ []
    else if c == 10 then 92 ∷ 110 ∷ []
    else if c == 13 then 92 ∷ 114 ∷ []
    else if c == 9 then 92 ∷ 116 ∷ []
    else c ∷ []

unfoldable pub quoted_text : List ℕ → List ℕ
quoted_text points = 34 ∷ flat_map escaped points ++ 34 ∷ []

-- a range, with its step where that is not 1
unfoldable pub range_text : Range → List ℕ
range_text r =
    if int_eq r.step (pos 1) then codes "range(" ++ signed_decimal r.start ++ codes ", " ++ signed_decimal r.stop ++ codes ")"
    else codes "range(" ++ signed_decimal r.start ++ codes ", " ++ signed_decimal r.stop ++ codes ", " ++ signed_decimal r.step ++ codes ")"

-- how what is in a container is written
abbrev pub Writing : Type 0 → Type 0
Writing C = Value → Action C (List ℕ)

abbrev pub between : {C : Type 0} → List ℕ → List ℕ → Action C (List ℕ) → Action C (List ℕ)
between open_mark close_mark p = made open_mark <+> p <+> made close_mark

abbrev pub list_text : {C : Type 0} → List Value → Writing C → Action C (List ℕ)
list_text items write = between (codes "[") (codes "]") (made_between (codes ", ") (map write items))

-- a tuple of one item has a comma after it
abbrev pub tuple_text : {C : Type 0} → List Value → Writing C → Action C (List ℕ)
tuple_text (x ∷ []) write = between (codes "(") (codes ",)") (write x)
tuple_text items write = between (codes "(") (codes ")") (made_between (codes ", ") (map write items))

abbrev pub pair_text : {C : Type 0} → Writing C → Key × Value → Action C (List ℕ)
pair_text write pair = write (keys.value_of pair.0) <+> made (codes ": ") <+> write pair.1

abbrev pub dict_text : {C : Type 0} → List (Key × Value) → Writing C → Action C (List ℕ)
dict_text pairs write = between (codes "{") (codes "}") (made_between (codes ", ") (map (pair_text write) pairs))

-- a container inside 64 others is not written
abbrev pub opened : {C : Type 0} → Option (Writing C) → (Writing C → Action C (List ℕ)) → Action C (List ℕ)
opened None f = fail failure.TooDeep
opened (Some write) f = f write

abbrev pub function_name : {C : Type 0} → Naming C → Option (C × ℕ × List Value) → List ℕ
function_name naming None = []
function_name naming (Some parts) = naming parts.0 parts.1

abbrev pub function_text : List ℕ → List ℕ
function_text name = codes "<function " ++ name ++ codes ">"

abbrev pub quoted_at : {C : Type 0} → Naming C → Option (Writing C) → Value-F Value → Action C (List ℕ)
quoted_at naming inner Value-F.None = made (codes "None")
quoted_at naming inner (Value-F.Bool true) = made (codes "True")
quoted_at naming inner (Value-F.Bool false) = made (codes "False")
quoted_at naming inner (Value-F.Int z) = made (signed_decimal z)
quoted_at naming inner (Value-F.Text points) = made (quoted_text points)
quoted_at naming inner (Value-F.Tuple items) = opened inner (tuple_text items)
quoted_at naming inner (Value-F.Range r) = made (range_text r)
quoted_at naming inner (Value-F.List id) = read (λ s. list s id) >>= (λ items. opened inner (list_text items))
quoted_at naming inner (Value-F.Dict id) = read (λ s. dict s id) >>= (λ pairs. opened inner (dict_text pairs))
quoted_at naming inner (Value-F.Function id) = read (λ s. function s id) >>= (λ parts. made (function_text (function_name naming parts)))
quoted_at naming inner (Value-F.Builtin which) = made (codes "<builtin " ++ builtin_name which ++ codes ">")

-- the quoted form of a value, in which so many more containers may nest
unfoldable pub quoted_in : {C : Type 0} → Naming C → ℕ → Writing C
quoted_in naming zero v = quoted_at naming None (out-Value v)
quoted_in naming (suc n) v = quoted_at naming (Some (quoted_in naming n)) (out-Value v)

-- the quoted form
unfoldable pub quoted : {C : Type 0} → Naming C → Writing C
quoted naming v = quoted_in naming 64 v

abbrev pub shown_at : {C : Type 0} → Option (List ℕ) → Action C (List ℕ) → Action C (List ℕ)
shown_at (Some points) other = made points
shown_at None other = other

-- the shown form: a text is itself, everything else is quoted
unfoldable pub shown : {C : Type 0} → Naming C → Writing C
shown naming v = shown_at (text_in v) (quoted naming v)
