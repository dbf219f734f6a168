-- What a reader answers.
use Rattle.std.specs.Prelude.{ℕ, Result, Ok, Err}
use Rattle.star_lexer.specs.declared.error.LexKind.{LexKind}

-- what is wrong, and how many characters stand before it
abbrev pub Flaw : Type 0
Flaw = LexKind × ℕ

-- a value and how many characters it takes, or what is wrong
abbrev pub Read : Type 0 → Type 0
Read A = Result (A × ℕ) Flaw

infixl 10 ◌>>=◌
abbrev pub ◌>>=◌ : {A B : Type 0} → Result A Flaw → (A → Result B Flaw) → Result B Flaw
(Ok x) >>= f = f x
(Err e) >>= f = Err e

-- what is wrong stands at the front
abbrev pub here : {A : Type 0} → Result A LexKind → Result A Flaw
here (Ok x) = Ok x
here (Err kind) = Err (kind, 0)
