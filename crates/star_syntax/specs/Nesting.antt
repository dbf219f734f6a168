-- How brackets and indentations nest in a list of tokens.
use Rattle.std.specs.Prelude.{◌≡◌, ◌++◌, ℕ, ◌+◌, ◌-◌, ◌≤◌, zero, suc, List, [], ◌∷◌, Option, Some, None}
use Rattle.star_syntax.specs.declared.token.Mark.TheVariants as m
use Rattle.star_syntax.specs.declared.token.Token.{Token}
use Rattle.star_syntax.specs.declared.token.Token.TheVariants as t
use Rattle.star_syntax.specs.declared.token.Spanned.{Spanned}

-- open brackets, and open columns
abbrev pub Open : Type 0
Open = ℕ × ℕ

-- the same after one more token: a closing bracket or a Dedent with none open changes nothing
abbrev pub after_token : Token → Open → Open
after_token (t.Mark m.OpenRound) o = (o.0 + 1, o.1)
after_token (t.Mark m.OpenSquare) o = (o.0 + 1, o.1)
after_token (t.Mark m.OpenCurly) o = (o.0 + 1, o.1)
after_token (t.Mark m.CloseRound) o = (o.0 - 1, o.1)
after_token (t.Mark m.CloseSquare) o = (o.0 - 1, o.1)
after_token (t.Mark m.CloseCurly) o = (o.0 - 1, o.1)
after_token t.Indent o = (o.0, o.1 + 1)
after_token t.Dedent o = (o.0, o.1 - 1)
after_token _ o = o

-- the same after a list of tokens
abbrev pub after_all : Open → List Spanned → Open
after_all o [] = o
after_all o (s ∷ ss) = after_all (after_token s.token o) ss

-- at most 32 together
abbrev pub IsFew : Open → Type 0
IsFew o = o.0 + o.1 ≤ 32

-- at no place of the list are more open, where these are open before it
abbrev pub IsShallowFrom : Open → List Spanned → Type 0
IsShallowFrom o [] = Unit {0}
IsShallowFrom o (s ∷ ss) = IsFew (after_token s.token o) × IsShallowFrom (after_token s.token o) ss

-- at no place more than 32 are open
abbrev pub IsShallow : List Spanned → Type 0
IsShallow = IsShallowFrom (0, 0)

-- the last token is End
abbrev pub IsEnded : List Spanned → Type 0
IsEnded list = (front : List Spanned) × (line : ℕ) × (list ≡ front ++ record { token = t.End; line = line } ∷ [])

-- the open columns after one more token; a Dedent with none open is out of place
abbrev pub after_column : Token → ℕ → Option ℕ
after_column t.Indent n = Some (suc n)
after_column t.Dedent zero = None
after_column t.Dedent (suc n) = Some n
after_column _ n = Some n

abbrev pub columns_after : List Spanned → Option ℕ → Option ℕ
columns_after [] o = o
columns_after (s ∷ ss) None = None
columns_after (s ∷ ss) (Some n) = columns_after ss (after_column s.token n)

-- each Dedent closes a column that an Indent opened, and at the end none is open
abbrev pub IsBalanced : List Spanned → Type 0
IsBalanced list = columns_after list (Some 0) ≡ Some 0
