-- The tokens of a text, and its first fault.
use Rattle.std.specs.Prelude.{◌+◌, Bool, true, false, if◌then◌else◌, ◌≡◌, ℕ, ◌⊎◌, List, [], ◌∷◌, ◌++◌, take, Ok, Err}
use Rattle.star_lexer.specs.declared.error.LexKind.{LexKind}
use Rattle.star_lexer.specs.declared.layout.Layout.{Layout}
use Rattle.star_syntax.specs.declared.token.Spanned.{Spanned}
use Rattle.star_lexer.specs.Lexeme.{Lexeme}
use Rattle.star_lexer.specs.Lexeme as lexeme
use Rattle.star_lexer.specs.Chars.{Chars, newlines, passed_over}
use Rattle.star_lexer.specs.Flaws.{Flaw}
use Rattle.star_syntax.specs.declared.token.Token.{Token}
use Rattle.star_syntax.specs.declared.token.Token.TheVariants as t
use Rattle.star_lexer.specs.Layout.{spanned, start, passed, ended, line_end, settle, bracket, advanced, ends}
use Rattle.star_lexer.specs.Pieces.{Piece, spelled, Stands, IsFaulty}
use Rattle.star_lexer.specs.Scan.{Lexed, at, ◌>>=◌}

-- each piece is the longest at its place, before the pieces after it and the rest
abbrev pub IsCut : List Piece → Chars → Type 0
IsCut [] rest = Unit {0}
IsCut (p ∷ ps) rest = Stands p (spelled ps ++ rest) × IsCut ps rest

-- a layout, and the tokens up to it
abbrev pub Laid : Type 0
Laid = Lexed (Layout × List Spanned)

-- what a piece makes of the layout before it, and its tokens
abbrev pub step_by : Lexeme → Layout → Chars → Laid
step_by lexeme.Blank s spelling = Ok (passed s spelling, [])
step_by lexeme.Line s spelling = Ok (ended s, line_end s)
step_by (lexeme.Token token) s spelling = do
  settled ← at s.start (settle s)
  after ← at s.line (bracket settled.0 token)
  Ok (advanced after spelling, settled.1 ++ spanned token s.line ∷ [])

abbrev pub step : Layout → Piece → Laid
step s p = step_by p.lexeme s p.spelling

abbrev pub behind : List Spanned → Laid → Laid
behind prefix (Ok a) = Ok (a.0, prefix ++ a.1)
behind prefix (Err e) = Err e

-- the same of all pieces
abbrev pub lay : Layout → List Piece → Laid
lay s [] = Ok (s, [])
lay s (p ∷ ps) = step s p >>= (λ a. behind a.1 (lay a.0 ps))

-- list is the tokens of the text that stands after s
pub record TokensFrom (s : Layout) (text : Chars) (list : List Spanned) : Type 0 where
  pub pieces : List Piece
  pub whole : text ≡ spelled pieces
  pub cut : IsCut pieces []
  pub last : Layout
  pub given : List Spanned
  pub laid : lay s pieces ≡ Ok (last, given)
  pub all : list ≡ given ++ ends last

-- a faulty token; where the indentation before it is faulty, that comes first
abbrev pub faulty_token : Layout → Chars → Flaw → Laid
faulty_token s text bad = at s.start (settle s) >>= (λ settled. Err (bad.0, s.line + newlines (take bad.1 text)))

-- a piece that the layout refuses, or a faulty token
abbrev pub FaultAt : Layout → Chars → LexKind → ℕ → Type 0
FaultAt s rest kind line =
    ((p : Piece) × (more : Chars) × (rest ≡ p.spelling ++ more) × Stands p more × (step s p ≡ Err (kind, line)))
    ⊎ ((bad : Flaw) × IsFaulty bad rest × (faulty_token s rest bad ≡ Err (kind, line)))

pub record FirstFaultFrom (s : Layout) (text : Chars) (kind : LexKind) (line : ℕ) : Type 0 where
  pub pieces : List Piece
  pub rest : Chars
  pub whole : text ≡ spelled pieces ++ rest
  pub cut : IsCut pieces rest
  pub last : Layout
  pub given : List Spanned
  pub laid : lay s pieces ≡ Ok (last, given)
  pub fault : FaultAt last rest kind line

-- list is the tokens of the text
abbrev pub Tokens : Chars → List Spanned → Type 0
Tokens text = TokensFrom start (passed_over text)

-- this is the first fault of the text
abbrev pub FirstFault : Chars → LexKind → ℕ → Type 0
FirstFault text = FirstFaultFrom start (passed_over text)

-- the tokens that are written in a text, each with its line
abbrev pub written_by : Lexeme → ℕ → List Spanned
written_by (lexeme.Token token) line = spanned token line ∷ []
written_by _ line = []

abbrev pub written_in : ℕ → List Piece → List Spanned
written_in line [] = []
written_in line (p ∷ ps) = written_by p.lexeme line ++ written_in (line + newlines p.spelling) ps

-- not Newline, Indent, Dedent or End
abbrev pub is_written : Token → Bool
is_written t.Newline = false
is_written t.Indent = false
is_written t.Dedent = false
is_written t.End = false
is_written _ = true

abbrev pub only_written : List Spanned → List Spanned
only_written [] = []
only_written (s ∷ ss) = if is_written s.token then s ∷ only_written ss else only_written ss
