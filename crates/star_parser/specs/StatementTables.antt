-- What single tokens stand for between and in statements, and the steps that read one.
use Rattle.std.specs.Prelude.{ℕ, Bool, true, false, ◌||◌, if◌then◌else◌, [], ◌∷◌, Option, Some, None, Ok, Err}
use Rattle.star_syntax.specs.declared.token.Token.{Token}
use Rattle.star_syntax.specs.declared.token.Token.TheVariants as t
use Rattle.star_syntax.specs.declared.token.Mark.TheVariants as m
use Rattle.star_syntax.specs.declared.operator.BinaryOp.{BinaryOp}
use Rattle.star_syntax.specs.declared.operator.BinaryOp.TheVariants as op
use Rattle.star_parser.specs.Reading.{Input, Reader, ◌>>=◌, ◌>>◌, pure, refuse, peek, skip}
use Rattle.star_parser.specs.Tables.{is_mark}

-- ---- tokens of the layout

-- the token ends a logical line
abbrev pub is_newline : Option Token → Bool
is_newline (Some t.Newline) = true
is_newline _ = false

-- the token opens a block
abbrev pub is_indent : Option Token → Bool
is_indent (Some t.Indent) = true
is_indent _ = false

-- the token closes a block
abbrev pub is_dedent : Option Token → Bool
is_dedent (Some t.Dedent) = true
is_dedent _ = false

-- the token is the last of a cell
abbrev pub is_end : Option Token → Bool
is_end (Some t.End) = true
is_end _ = false

-- takes the token, if it comes next and passes the test
abbrev pub eat_by : (Option Token → Bool) → Reader Bool
eat_by is_it = do
  token ← peek
  if is_it token then skip >> pure true else pure false

-- takes the token that comes next, if it passes the test, and refuses it otherwise
abbrev pub expect_by : (Option Token → Bool) → Reader (Unit {0})
expect_by is_it = do
  token ← peek
  if is_it token then skip else refuse

-- takes Newline, if it comes next
abbrev pub eat_newline : Reader Bool
eat_newline = eat_by is_newline

-- takes Newline, or refuses what comes next
abbrev pub expect_newline : Reader (Unit {0})
expect_newline = expect_by is_newline

-- takes Indent, or refuses what comes next
abbrev pub expect_indent : Reader (Unit {0})
expect_indent = expect_by is_indent

-- takes Dedent, if it comes next
abbrev pub eat_dedent : Reader Bool
eat_dedent = eat_by is_dedent

-- takes End, if it comes next
abbrev pub eat_end : Reader Bool
eat_end = eat_by is_end

-- nothing may be left
abbrev pub finish : Reader (Unit {0})
finish [] = Ok (tt, [])
finish (s ∷ ts) = Err (s ∷ ts)

-- ---- lines of tokens

-- the line of the first token
abbrev pub first_line : Input → ℕ
first_line [] = 0
first_line (s ∷ ts) = s.line

-- the line of the next token; nothing is taken
abbrev pub here : Reader ℕ
here = λ ts. Ok (first_line ts, ts)

-- ---- small statements

-- a small statement ends before this token
abbrev pub ends_small : Option Token → Bool
ends_small token = is_mark m.Semicolon token || is_newline token

-- the operator before the `=` of a mark such as `+=`
abbrev pub augmented_op : Option Token → Option BinaryOp
augmented_op (Some (t.Mark m.PlusAssign)) = Some op.Add
augmented_op (Some (t.Mark m.MinusAssign)) = Some op.Sub
augmented_op (Some (t.Mark m.StarAssign)) = Some op.Mul
augmented_op (Some (t.Mark m.FloorAssign)) = Some op.Floor
augmented_op (Some (t.Mark m.PercentAssign)) = Some op.Mod
augmented_op (Some (t.Mark m.AmpersandAssign)) = Some op.And
augmented_op (Some (t.Mark m.BarAssign)) = Some op.Or
augmented_op (Some (t.Mark m.CaretAssign)) = Some op.Xor
augmented_op _ = None
