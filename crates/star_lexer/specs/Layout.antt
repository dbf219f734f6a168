-- Lines, brackets and open columns: what a piece makes of them, and which tokens stand there.
use Rattle.std.specs.Prelude.{◌≤◌, ℕ, zero, suc, ◌+◌, ◌-◌, Bool, true, false, not, ◌&&◌, ◌||◌, ◌==◌, nat_lt, nat_le, if◌then◌else◌, List, [], ◌∷◌, ◌++◌, length, take, slice_index, replicate, Result, Ok, Err}
use Rattle.std.specs.List.{prefix_len}
use Rattle.star_lexer.specs.declared.error.LexKind.{LexKind}
use Rattle.star_lexer.specs.declared.error.LexKind.TheVariants.{BadIndent, TooNested}
use Rattle.star_lexer.specs.declared.layout.Layout.{Layout}
use Rattle.star_syntax.specs.declared.token.Mark.TheVariants as m
use Rattle.star_syntax.specs.declared.token.Token.{Token}
use Rattle.star_syntax.specs.declared.token.Token.TheVariants as t
use Rattle.star_syntax.specs.declared.token.Spanned.{Spanned}
use Rattle.star_lexer.specs.Chars.{Chars, backslash, newlines, first}

abbrev pub spanned : Token → ℕ → Spanned
spanned token line = record { token = token; line = line }

-- before the first character
abbrev pub start : Layout
start = record { columns = []; depth = 0; line = 1; is_start = true; is_joined = false; column = 0; is_tabbed = false; start = 1 }

-- the place is in the indentation of a logical line
abbrev pub is_indented : Layout → Bool
is_indented s = s.is_start && not s.is_joined

-- white space or a comment
abbrev pub passed : Layout → Chars → Layout
passed s piece = record s {
  line = s.line + newlines piece;
  column = (if is_indented s && first piece == 32 then s.column + 1 else s.column);
  is_tabbed = s.is_tabbed || (is_indented s && first piece == 9);
  is_joined = s.is_joined || first piece == backslash;
}

-- a newline
abbrev pub ended : Layout → Layout
ended s = record s { line = s.line + 1; is_start = s.depth == 0; is_joined = false; column = 0; is_tabbed = false; start = s.line + 1 }

-- a newline is a token where a logical line ends
abbrev pub line_end : Layout → List Spanned
line_end s = if s.is_start || nat_lt 0 s.depth then [] else spanned t.Newline s.line ∷ []

-- ---- indentation

-- how many open columns are no deeper than this line
abbrev pub kept : Layout → ℕ
kept s = prefix_len (λ c. nat_le c s.column) s.columns

-- the last of the first n open columns
abbrev pub top : List ℕ → ℕ → ℕ
top columns zero = 0
top columns (suc n) = slice_index columns n

-- so many brackets and columns past the first may be open
abbrev pub most_nested : ℕ
most_nested = 32

-- open brackets and open columns are few
abbrev pub IsNested : Layout → Type 0
IsNested s = s.depth + length s.columns ≤ most_nested

-- a line deeper than all open columns opens its column
abbrev pub opened : Layout → Result (Layout × List Spanned) LexKind
opened s =
    if nat_lt (s.depth + length s.columns) most_nested
    then Ok (record s { columns = s.columns ++ s.column ∷ []; is_start = false }, spanned t.Indent s.line ∷ []) else Err TooNested

-- a line at one of the open columns, or at 0, closes the deeper ones; else it opens one, if it is deeper than all
abbrev pub indented : Layout → ℕ → Result (Layout × List Spanned) LexKind
indented s k =
    if top s.columns k == s.column
    then Ok (record s { columns = take k s.columns; is_start = false }, replicate (length s.columns - k) (spanned t.Dedent s.line))
    else (if k == length s.columns then opened s else Err BadIndent)

-- before the first token of a logical line
unfoldable pub settle : Layout → Result (Layout × List Spanned) LexKind
settle s =
    if s.is_start then (if s.is_tabbed then Err BadIndent else indented s (kept s)) else Ok (s, [])

-- ---- brackets

-- one more open bracket
abbrev pub deeper : Layout → Result Layout LexKind
deeper s = if nat_lt (s.depth + length s.columns) most_nested then Ok (record s { depth = s.depth + 1 }) else Err TooNested

-- one bracket less, if there is one
abbrev pub shallower : Layout → Layout
shallower s = record s { depth = s.depth - 1 }

-- what a token makes of the open brackets
unfoldable pub bracket : Layout → Token → Result Layout LexKind
bracket s (t.Mark m.OpenRound) = deeper s
bracket s (t.Mark m.OpenSquare) = deeper s
bracket s (t.Mark m.OpenCurly) = deeper s
bracket s (t.Mark m.CloseRound) = Ok (shallower s)
bracket s (t.Mark m.CloseSquare) = Ok (shallower s)
bracket s (t.Mark m.CloseCurly) = Ok (shallower s)
bracket s _ = Ok s

-- behind a token that is written so
abbrev pub advanced : Layout → Chars → Layout
advanced s piece = record s { line = s.line + newlines piece }

-- ---- the end

-- the last line ends, the open columns close, and End stands
unfoldable pub ends : Layout → List Spanned
ends s = line_end (record s { depth = 0 }) ++ replicate (length s.columns) (spanned t.Dedent s.line) ++ spanned t.End s.line ∷ []
