-- Readers of lists of tokens, and the steps that they are made of.
use Rattle.std.specs.Prelude.{List, [], ◌∷◌, map, Option, Some, None, Result, Ok, Err}
use Rattle.star_syntax.specs.declared.token.Token.{Token}
use Rattle.star_syntax.specs.declared.token.Spanned.{Spanned}

abbrev pub Input : Type 0
Input = List Spanned

abbrev pub kinds : Input → List Token
kinds = map (λ s. s.token)

-- a value and the tokens after it, or the tokens from the refused one on
abbrev pub Outcome : Type 0 → Type 0
Outcome A = Result (A × Input) Input

abbrev pub Reader : Type 0 → Type 0
Reader A = Input → Outcome A

abbrev pub and_then : {A B : Type 0} → Outcome A → (A → Reader B) → Outcome B
and_then (Ok p) f = f p.0 p.1
and_then (Err ts) f = Err ts

infixl 10 ◌>>=◌
abbrev pub ◌>>=◌ : {A B : Type 0} → Reader A → (A → Reader B) → Reader B
p >>= f = λ ts. and_then (p ts) f

infixl 10 ◌>>◌
abbrev pub ◌>>◌ : {A B : Type 0} → Reader A → Reader B → Reader B
p >> q = p >>= (λ _. q)

abbrev pub pure : {A : Type 0} → A → Reader A
pure a = λ ts. Ok (a, ts)

abbrev pub refuse : {A : Type 0} → Reader A
refuse = λ ts. Err ts

-- the next token, if there is one
abbrev pub next : Input → Option Token
next [] = None
next (s ∷ ts) = Some s.token

abbrev pub peek : Reader (Option Token)
peek = λ ts. Ok (next ts, ts)

abbrev pub rest : Input → Input
rest [] = []
rest (s ∷ ts) = ts

abbrev pub skip : Reader (Unit {0})
skip = λ ts. Ok (tt, rest ts)
