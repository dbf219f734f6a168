-- What single tokens stand for, and the steps that read one.
use Rattle.std.specs.Prelude.{ℕ, zero, suc, ◌+◌, Bool, true, false, if◌then◌else◌, List, [], ◌∷◌, ◌++◌, Option, Some, None}
use Rattle.star_syntax.specs.declared.token.Token.{Token}
use Rattle.star_syntax.specs.declared.token.Token.TheVariants as t
use Rattle.star_syntax.specs.declared.token.Keyword.{Keyword}
use Rattle.star_syntax.specs.declared.token.Keyword.TheVariants as w
use Rattle.star_syntax.specs.declared.token.Mark.{Mark}
use Rattle.star_syntax.specs.declared.token.Mark.TheVariants as m
use Rattle.star_syntax.specs.declared.operator.BinaryOp.TheVariants as op
use Rattle.star_syntax.specs.declared.operator.UnaryOp.{UnaryOp}
use Rattle.star_syntax.specs.declared.operator.UnaryOp.TheVariants as sign
use Rattle.star_syntax.specs.declared.operator.CompareOp.{CompareOp}
use Rattle.star_syntax.specs.declared.operator.CompareOp.TheVariants as cmp
use Rattle.star_syntax.specs.declared.expression.ChainLevel.{ChainLevel}
use Rattle.star_syntax.specs.declared.expression.ChainOp.{ChainOp}
use Rattle.star_syntax.specs.declared.expression.ChainOp.TheVariants as chain
use denote.Enum.Bare.{sameb}
use Rattle.star_syntax.specs.contracts.token.Mark.{the_type as mark_type}
use Rattle.star_syntax.specs.contracts.token.Keyword.{the_type as word_type}
use Rattle.star_syntax.specs.contracts.expression.ChainLevel.{the_type as level_type}
use Rattle.star_syntax.specs.Levels.{op_level}
use Rattle.star_parser.specs.Reading.{Reader, ◌>>=◌, ◌>>◌, pure, refuse, peek, skip}

unfoldable pub is_mark : Mark → Option Token → Bool
is_mark mark (Some (t.Mark found)) = sameb mark_type found mark
is_mark mark _ = false

unfoldable pub is_word : Keyword → Option Token → Bool
is_word word (Some (t.Word found)) = sameb word_type found word
is_word word _ = false

-- the operator of a chain that the token is
abbrev pub token_op : Option Token → Option ChainOp
token_op (Some (t.Word w.Or)) = Some chain.Or
token_op (Some (t.Word w.And)) = Some chain.And
token_op (Some (t.Mark m.Bar)) = Some (chain.Binary op.Or)
token_op (Some (t.Mark m.Caret)) = Some (chain.Binary op.Xor)
token_op (Some (t.Mark m.Ampersand)) = Some (chain.Binary op.And)
token_op (Some (t.Mark m.Plus)) = Some (chain.Binary op.Add)
token_op (Some (t.Mark m.Minus)) = Some (chain.Binary op.Sub)
token_op (Some (t.Mark m.Star)) = Some (chain.Binary op.Mul)
token_op (Some (t.Mark m.FloorDivide)) = Some (chain.Binary op.Floor)
token_op (Some (t.Mark m.Percent)) = Some (chain.Binary op.Mod)
token_op _ = None

abbrev pub of_level : ChainLevel → Option ChainOp → Option ChainOp
of_level l None = None
of_level l (Some o) = if sameb level_type (op_level o) l then Some o else None

-- the operator, if it is one of this line of the grammar
unfoldable pub chain_op : ChainLevel → Option Token → Option ChainOp
chain_op l token = of_level l (token_op token)

abbrev pub sign_of : Option Token → Option UnaryOp
sign_of (Some (t.Mark m.Plus)) = Some sign.Plus
sign_of (Some (t.Mark m.Minus)) = Some sign.Minus
sign_of (Some (t.Mark m.Tilde)) = Some sign.Invert
sign_of _ = None

-- a comparison, by its first token; after `not` an `in` must follow
abbrev pub compare_op : Option Token → Option CompareOp
compare_op (Some (t.Mark m.Equal)) = Some cmp.Equal
compare_op (Some (t.Mark m.NotEqual)) = Some cmp.NotEqual
compare_op (Some (t.Mark m.Less)) = Some cmp.Less
compare_op (Some (t.Mark m.Greater)) = Some cmp.Greater
compare_op (Some (t.Mark m.AtMost)) = Some cmp.AtMost
compare_op (Some (t.Mark m.AtLeast)) = Some cmp.AtLeast
compare_op (Some (t.Word w.In)) = Some cmp.Within
compare_op (Some (t.Word w.Not)) = Some cmp.NotWithin
compare_op _ = None

-- takes the mark, if it comes next
abbrev pub eat : Mark → Reader Bool
eat mark = do
  token ← peek
  if is_mark mark token then skip >> pure true else pure false

abbrev pub expect : Mark → Reader (Unit {0})
expect mark = do
  token ← peek
  if is_mark mark token then skip else refuse

-- takes the word, if it comes next
abbrev pub eat_word : Keyword → Reader Bool
eat_word word = do
  token ← peek
  if is_word word token then skip >> pure true else pure false

abbrev pub expect_word : Keyword → Reader (Unit {0})
expect_word word = do
  token ← peek
  if is_word word token then skip else refuse

abbrev pub name_by : Option Token → Reader (List ℕ)
name_by (Some (t.Name name)) = skip >> pure name
name_by _ = refuse

unfoldable pub expect_name : Reader (List ℕ)
expect_name = peek >>= name_by

abbrev pub signs_by : List UnaryOp → (List UnaryOp → Reader (List UnaryOp)) → Option UnaryOp → Reader (List UnaryOp)
signs_by found more None = pure found
signs_by found more (Some sign) = skip >> more (found ++ sign ∷ [])

unfoldable pub signs_from : ℕ → List UnaryOp → Reader (List UnaryOp)
signs_from zero found = pure found
signs_from (suc n) found = peek >>= λ token. signs_by found (signs_from n) (sign_of token)

unfoldable pub nots_from : ℕ → ℕ → Reader ℕ
nots_from zero count = pure count
nots_from (suc n) count = do
  more ← eat_word w.Not
  if more then nots_from n (count + 1) else pure count
