-- Readers of a text, from its opening quotes to its closing ones.
use Rattle.std.specs.Prelude.{ℕ, zero, suc, ◌+◌, ◌-◌, Bool, true, false, not, ◌&&◌, ◌||◌, ◌==◌, nat_lt, nat_le, if◌then◌else◌, [], ◌∷◌, ◌++◌, length, take, drop, Option, Some, None, Result, Ok, Err}
use Rattle.std.specs.List.{list_all}
use Rattle.std.specs.Str.Parse.{digits_value}
use Rattle.star_lexer.specs.declared.chars.Class.TheVariants as class
use Rattle.star_lexer.specs.declared.error.LexKind.TheVariants.{OpenString, BadEscape}
use Rattle.star_lexer.specs.declared.literal.TextFault.{TextFault}
use Rattle.star_lexer.specs.declared.literal.TextFault.TheVariants as f
use Rattle.star_lexer.specs.declared.literal.Style.{Style}
use Rattle.star_lexer.specs.Chars.{Chars, newline, backslash, letter_r, is_quote, is_in, first, rest, begins}
use Rattle.star_lexer.specs.Flaws.{Read}

-- ---- quotes

-- a quote, or an `r` directly before one
abbrev pub is_text_start : Chars → Bool
is_text_start text = is_quote (first text) || (first text == letter_r && is_quote (first (rest text)))

-- the quotes that close a text: one, or three
abbrev pub delimiter : Style → Chars
delimiter q = if q.is_wide then q.quote ∷ q.quote ∷ q.quote ∷ [] else q.quote ∷ []

-- what stands before the content: the same quotes, after an `r` in a raw text
abbrev pub opening : Style → Chars
opening q = if q.is_raw then letter_r ∷ delimiter q else delimiter q

-- three equal quotes open a text with three
abbrev pub quoted : Bool → Chars → Style
quoted raw text = record { quote = first text; is_wide = begins (rest text) (first text ∷ first text ∷ []); is_raw = raw }

-- how the text at the front is written
unfoldable pub style_at : Chars → Style
style_at text = if first text == letter_r then quoted true (rest text) else quoted false text

-- the closing quotes are at the front
abbrev pub closes : Style → Chars → Bool
closes q text = begins text (delimiter q)

-- ---- escapes

-- a scalar value of Unicode
abbrev pub is_scalar : ℕ → Bool
is_scalar c = nat_lt c 0xD800 || (nat_le 0xE000 c && nat_le c 0x10FFFF)

-- the character that so many hexadecimal digits code, where it is a scalar value and at most `most`
unfoldable pub code : ℕ → ℕ → Chars → Option Chars
code count most digits =
    if length digits == count && (list_all (is_in class.Hex) digits && (nat_le (digits_value 16 digits) most && is_scalar (digits_value 16 digits)))
    then Some (digits_value 16 digits ∷ []) else None

-- one character after a backslash: a newline stands for nothing
unfoldable pub short_escape : ℕ → Option Chars
short_escape c =
    if c == newline then Some []
    else (if c == 110 then Some (10 ∷ [])
    else (if c == 114 then Some (13 ∷ [])
    else (if c == 116 then Some (9 ∷ [])
    else (if c == backslash || is_quote c then Some (c ∷ []) else None))))

-- what a whole escape stands for, given without its backslash: x, u and U announce 2, 4 and 8 hexadecimal digits
unfoldable pub escape : Chars → Option Chars
escape [] = None
escape (c ∷ ds) =
    if c == 120 then code 2 0x7F ds
    else (if c == 117 then code 4 0x10FFFF ds
    else (if c == 85 then code 8 0x10FFFF ds
    else (if length ds == 0 then short_escape c else None)))

-- how many characters an escape has that begins so
abbrev pub escape_len : ℕ → ℕ
escape_len c = if c == 120 then 3 else (if c == 117 then 5 else (if c == 85 then 9 else 1))

-- ---- parts

-- an escape with its backslash
abbrev pub escaped : Option Chars → ℕ → Result (Chars × ℕ) TextFault
escaped None n = Err f.Escape
escaped (Some v) n = Ok (v, suc n)

-- what follows a backslash
abbrev pub escape_at : Chars → Result (Chars × ℕ) TextFault
escape_at cs = let w = take (escape_len (first cs)) cs in escaped (escape w) (length w)

-- what follows a backslash in a raw text
abbrev pub kept_at : Chars → Result (Chars × ℕ) TextFault
kept_at [] = Err f.Open
kept_at (c ∷ cs) = Ok (backslash ∷ c ∷ [], 2)

-- a character of a text, as it stands or by an escape
unfoldable pub part_at : Style → Chars → Result (Chars × ℕ) TextFault
part_at q [] = Err f.Open
part_at q (c ∷ cs) =
    if c == backslash then (if q.is_raw then kept_at cs else escape_at cs)
    else (if c == newline && not q.is_wide then Err f.Open else Ok (c ∷ [], 1))

-- ---- contents

-- a value and how many characters it takes, or what is wrong within a text and how many characters stand before it
abbrev pub Inside : Type 0 → Type 0
Inside A = Result (A × ℕ) (TextFault × ℕ)

-- n more characters, and nothing for them
abbrev pub far : {A : Type 0} → ℕ → Inside A → Inside A
far n (Ok p) = Ok (p.0, n + p.1)
far n (Err e) = Err (e.0, n + e.1)

-- one more character, and nothing for it
abbrev pub longer : {A : Type 0} → Inside A → Inside A
longer (Ok p) = Ok (p.0, suc p.1)
longer (Err e) = Err (e.0, suc e.1)

-- these characters before
abbrev pub before : Chars → Inside Chars → Inside Chars
before prefix (Ok p) = Ok (prefix ++ p.0, p.1)
before prefix (Err e) = Err e

-- a part, and then the rest, which is told how many characters are left of the part
abbrev pub follow : Result (Chars × ℕ) TextFault → (ℕ → Inside Chars) → Inside Chars
follow (Ok p) more = before p.0 (longer (more (p.1 - 1)))
follow (Err e) more = Err (e, 0)

-- The value up to the closing quotes, and the length with those quotes. The number counts the characters that are left of a part.
abbrev pub content : Style → ℕ → Chars → Inside Chars
content q left [] = Err (f.Open, 0)
content q (suc left) (c ∷ cs) = longer (content q left cs)
content q zero (c ∷ cs) =
    if closes q (c ∷ cs) then Ok ([], length (delimiter q))
    else follow (part_at q (c ∷ cs)) (λ left. content q left cs)

-- an open text is at fault where it starts, an escape where it stands
abbrev pub blamed : {A : Type 0} → Inside A → Read A
blamed (Ok p) = Ok p
blamed (Err (f.Open, n)) = Err (OpenString, 0)
blamed (Err (f.Escape, n)) = Err (BadEscape, n)

-- the text at the front: its value, and its length with its quotes
unfoldable pub literal : Chars → Read Chars
literal text =
    let q = style_at text in
    let n = length (opening q) in
    blamed (far n (content q 0 (drop n text)))
