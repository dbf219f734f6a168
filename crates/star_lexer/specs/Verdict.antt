-- What a function that reads ensures: what the reader gives, unless memory fails.
use Rattle.std.specs.Prelude.{◌≡◌, ℕ, [], ◌∷◌, Option, Some, None, Result, Ok, Err}
use Rattle.star_lexer.specs.declared.error.Fault.{Fault}
use Rattle.star_lexer.specs.declared.error.Fault.TheVariants.{NoMemory, Bad}
use Rattle.star_lexer.specs.declared.error.LexKind.TheVariants.{OpenString, BadEscape}
use Rattle.star_lexer.specs.declared.literal.Meaning.{Meaning}
use Rattle.star_lexer.specs.declared.literal.Meaning.TheVariants.{Nothing, Character, Kept}
use Rattle.star_lexer.specs.declared.literal.TextFault.{TextFault}
use Rattle.star_lexer.specs.declared.literal.TextFault.TheVariants as f
use Rattle.star_lexer.specs.Chars.{Chars, backslash}
use Rattle.star_lexer.specs.Flaws.{Flaw}

abbrev pub Gives : {A : Type 0} → Result A Fault → Result A Flaw → Type 0
Gives (Ok x) read = read ≡ Ok x
Gives (Err NoMemory) read = Unit {0}
Gives (Err (Bad kind place)) read = read ≡ Err (kind, place)

-- what is wrong within a text, as a fault of the token
abbrev pub blame : TextFault → ℕ → Fault
blame f.Open n = Bad OpenString 0
blame f.Escape n = Bad BadEscape n

-- what a part of a text stands for
abbrev pub meant : Meaning → Chars
meant Nothing = []
meant (Character c) = c ∷ []
meant (Kept c) = backslash ∷ c ∷ []

abbrev pub of_meaning : Option Meaning → Option Chars
of_meaning None = None
of_meaning (Some m) = Some (meant m)

abbrev pub of_part : Result (Meaning × ℕ) TextFault → Result (Chars × ℕ) TextFault
of_part (Ok p) = Ok (meant p.0, p.1)
of_part (Err e) = Err e

abbrev pub of_char : Option ℕ → Option Chars
of_char None = None
of_char (Some c) = Some (c ∷ [])
