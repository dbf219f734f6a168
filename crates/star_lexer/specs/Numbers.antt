-- The number that a word writes.
use Rattle.std.specs.Prelude.{ℕ, ℤ, Bool, not, ◌&&◌, ◌||◌, ◌==◌, nat_lt, nat_le, if◌then◌else◌, length, drop, Option, Some, None, Result, Ok, Err, pos}
use Rattle.std.specs.List.{list_all}
use Rattle.std.specs.Str.Parse.{digits_value}
use Rattle.star_lexer.specs.declared.chars.Class.{Class}
use Rattle.star_lexer.specs.declared.chars.Class.TheVariants as class
use Rattle.star_lexer.specs.declared.error.LexKind.{LexKind}
use Rattle.star_lexer.specs.declared.error.LexKind.TheVariants.{BadNumber, WideNumber}
use Rattle.star_lexer.specs.Chars.{Chars, is_in, first, rest}

-- digits with no 0 in front, or 0 alone
unfoldable pub decimal : Chars → Option ℕ
decimal word =
    if list_all (is_in class.Digit) word && (not (first word == 48) || nat_lt (length word) 2)
    then Some (digits_value 10 word) else None

-- one or more digits of a radix
unfoldable pub based : Class → ℕ → Chars → Option ℕ
based digit radix digits = if list_all (is_in digit) digits && nat_lt 0 (length digits) then Some (digits_value radix digits) else None

-- a 0, and then one of two letters
abbrev pub is_prefixed : ℕ → ℕ → Chars → Bool
is_prefixed a b word = first word == 48 && (first (rest word) == a || first (rest word) == b)

-- the number that a whole word writes: 0x and 0X begin a hexadecimal one, 0o and 0O an octal one
unfoldable pub numeral : Chars → Option ℕ
numeral word =
    if is_prefixed 120 88 word then based class.Hex 16 (drop 2 word)
    else (if is_prefixed 111 79 word then based class.Octal 8 (drop 2 word) else decimal word)

-- 2 ^ 127 - 1
abbrev pub widest : ℕ
widest = 170141183460469231731687303715884105727

-- the number, if it is not too wide
abbrev pub fitting : ℕ → Result ℤ LexKind
fitting n = if nat_le n widest then Ok (pos n) else Err WideNumber

-- the same where the word writes a number at all
abbrev pub fits : Option ℕ → Result ℤ LexKind
fits None = Err BadNumber
fits (Some n) = fitting n

-- the value of a word that begins with a digit, or what is wrong with it
unfoldable pub number : Chars → Result ℤ LexKind
number word = fits (numeral word)
