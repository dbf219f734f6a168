-- The tokens of a text, read from the left.
use Rattle.std.specs.Prelude.{◌≡◌, ℕ, zero, suc, ◌+◌, ◌-◌, ◌==◌, nat_lt, if◌then◌else◌, List, [], ◌∷◌, ◌++◌, take, Result, Ok, Err}
use Rattle.star_lexer.specs.declared.error.LexKind.{LexKind}
use Rattle.star_lexer.specs.declared.error.LexFault.{LexFault}
use Rattle.star_lexer.specs.declared.error.LexFault.TheVariants.{NoMemory, Bad}
use Rattle.star_lexer.specs.declared.error.Fault.{Fault}
use Rattle.star_lexer.specs.declared.error.Fault.TheVariants as f
use Rattle.star_lexer.specs.declared.layout.Layout.{Layout}
use Rattle.star_syntax.specs.declared.token.Spanned.{Spanned}
use Rattle.star_lexer.specs.Chars.{Chars, newline, newlines, first}
use Rattle.star_lexer.specs.Flaws.{Flaw}
use Rattle.star_lexer.specs.Reading.{blank_at, token_at}
use Rattle.star_lexer.specs.Layout.{spanned, passed, ended, line_end, settle, bracket, advanced, ends}

-- a value, or the first fault with its line
abbrev pub Lexed : Type 0 → Type 0
Lexed A = Result A (LexKind × ℕ)

abbrev pub at : {A : Type 0} → ℕ → Result A LexKind → Lexed A
at line (Ok x) = Ok x
at line (Err kind) = Err (kind, line)

-- the same, where the fault stands so many characters after the token's start
abbrev pub at_place : {A : Type 0} → ℕ → Chars → Result A Flaw → Lexed A
at_place line text (Ok x) = Ok x
at_place line text (Err e) = Err (e.0, line + newlines (take e.1 text))

infixl 10 ◌>>=◌
abbrev pub ◌>>=◌ : {A B : Type 0} → Lexed A → (A → Lexed B) → Lexed B
(Ok x) >>= f = f x
(Err e) >>= f = Err e

-- the layout after a piece, the tokens that it gives, and its length
pub record Turn : Type 0 where
  pub layout : Layout
  pub given : List Spanned
  pub len : ℕ

abbrev pub token_turn : Layout → Chars → Lexed Turn
token_turn s text = do
  settled ← at s.start (settle s)
  read ← at_place s.line text (token_at text)
  after ← at s.line (bracket settled.0 read.0)
  Ok (record { layout = advanced after (take read.1 text); given = settled.1 ++ spanned read.0 s.line ∷ []; len = read.1 })

unfoldable pub turn : Layout → Chars → Lexed Turn
turn s text =
    if first text == newline then Ok (record { layout = ended s; given = line_end s; len = 1 })
    else (if nat_lt 0 (blank_at text) then Ok (record { layout = passed s (take (blank_at text) text); given = []; len = blank_at text })
    else token_turn s text)

abbrev pub with_prefix : {A : Type 0} → List A → Lexed (List A) → Lexed (List A)
with_prefix prefix (Ok more) = Ok (prefix ++ more)
with_prefix prefix (Err e) = Err e

-- The number counts the characters that are left of a piece.
abbrev pub scan : Layout → ℕ → Chars → Lexed (List Spanned)
scan s left [] = Ok (ends s)
scan s (suc left) (c ∷ cs) = scan s left cs
scan s zero (c ∷ cs) = turn s (c ∷ cs) >>= (λ t. with_prefix t.given (scan t.layout (t.len - 1) cs))

-- ---- what the code ensures

-- the tokens or the fault that are read, unless memory fails
abbrev pub Lexes : Result (List Spanned) LexFault → Lexed (List Spanned) → Type 0
Lexes (Ok list) read = read ≡ Ok list
Lexes (Err NoMemory) read = Unit {0}
Lexes (Err (Bad kind line)) read = read ≡ Err (kind, line)

-- a fault of a token that starts on this line
abbrev pub placed : ℕ → Chars → Fault → LexFault
placed line text f.NoMemory = NoMemory
placed line text (f.Bad kind place) = Bad kind (line + newlines (take place text))

-- a turn of the code: the length that it returns, the layout that it leaves, and what it wrote
abbrev pub Turns : Lexed Turn → Result ℕ LexFault → Layout → List Spanned → List Spanned → Type 0
Turns read (Ok n) layout old new = (given : List Spanned) × (read ≡ Ok (record { layout = layout; given = given; len = n })) × (new ≡ old ++ given)
Turns read (Err NoMemory) layout old new = Unit {0}
Turns read (Err (Bad kind line)) layout old new = read ≡ Err (kind, line)
