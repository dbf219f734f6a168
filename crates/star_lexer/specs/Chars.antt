-- Classes of characters. A text is the list of its code points.
use Rattle.std.specs.Prelude.{ℕ, Bool, true, false, not, ◌&&◌, ◌||◌, ◌==◌, nat_le, if◌then◌else◌, List, [], ◌∷◌, count_by}
use Rattle.std.specs.Char.{is_ascii_digit, is_ascii_alphabetic, is_ascii_hexdigit}
use Rattle.star_lexer.specs.declared.chars.Class.{Class}
use Rattle.star_lexer.specs.declared.chars.Class.TheVariants as class

abbrev pub Chars : Type 0
Chars = List ℕ

abbrev pub newline : ℕ
newline = 10

abbrev pub backslash : ℕ
backslash = 92

-- an `r` before a text
abbrev pub letter_r : ℕ
letter_r = 114

-- `"` or `'`
abbrev pub is_quote : ℕ → Bool
is_quote c = c == 34 || c == 39

-- a letter or `_`
abbrev pub is_name_start : ℕ → Bool
is_name_start c = is_ascii_alphabetic c || c == 95

-- the classes of characters
abbrev pub is_in : Class → ℕ → Bool
is_in class.Name c = is_name_start c || is_ascii_digit c
is_in class.Line c = not (c == newline)
is_in class.Digit c = is_ascii_digit c
is_in class.Octal c = nat_le 48 c && nat_le c 55
is_in class.Hex c = is_ascii_hexdigit c

-- how many newlines there are
abbrev pub newlines : Chars → ℕ
newlines = count_by (λ c. c == newline)

-- the first character, or 0 at the end
abbrev pub first : Chars → ℕ
first [] = 0
first (c ∷ cs) = c

-- what follows the first character
abbrev pub rest : Chars → Chars
rest [] = []
rest (c ∷ cs) = cs

-- a `\r` just before a newline is passed over
abbrev pub passed_over : Chars → Chars
passed_over [] = []
passed_over (c ∷ cs) = if c == 13 && first cs == newline then passed_over cs else c ∷ passed_over cs

-- the text begins with the word
abbrev pub begins : Chars → Chars → Bool
begins text [] = true
begins [] (d ∷ ds) = false
begins (c ∷ cs) (d ∷ ds) = c == d && begins cs ds
