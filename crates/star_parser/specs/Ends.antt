-- Which tokens go on with an expression of which level.
use Rattle.std.specs.Prelude.{ℕ, ◌≤◌, Option, Some}
use Rattle.star_syntax.specs.declared.token.Token.{Token}
use Rattle.star_syntax.specs.declared.token.Token.TheVariants as t
use Rattle.star_syntax.specs.declared.token.Keyword.TheVariants as w
use Rattle.star_syntax.specs.declared.token.Mark.TheVariants as m
use Rattle.star_parser.specs.declared.level.Level.{Level}
use Rattle.star_parser.specs.declared.level.Level.TheVariants as level
use Rattle.star_parser.specs.Reading.{Input, next}

abbrev pub level_rank : Level → ℕ
level_rank level.Test = 0
level_rank level.Or = 1
level_rank level.And = 2
level_rank level.Not = 3
level_rank level.Compare = 4
level_rank level.BitOr = 5
level_rank level.BitXor = 6
level_rank level.BitAnd = 7
level_rank level.Sum = 8
level_rank level.Product = 9
level_rank level.Unary = 10
level_rank level.Primary = 11

-- the token goes on with expressions of levels below this one
abbrev pub reach : Option Token → ℕ
reach (Some (t.Word w.If)) = 1
reach (Some (t.Word w.Or)) = 2
reach (Some (t.Word w.And)) = 3
reach (Some (t.Word w.In)) = 5
reach (Some (t.Word w.Not)) = 5
reach (Some (t.Mark m.Equal)) = 5
reach (Some (t.Mark m.NotEqual)) = 5
reach (Some (t.Mark m.Less)) = 5
reach (Some (t.Mark m.Greater)) = 5
reach (Some (t.Mark m.AtMost)) = 5
reach (Some (t.Mark m.AtLeast)) = 5
reach (Some (t.Mark m.Bar)) = 6
reach (Some (t.Mark m.Caret)) = 7
reach (Some (t.Mark m.Ampersand)) = 8
reach (Some (t.Mark m.Plus)) = 9
reach (Some (t.Mark m.Minus)) = 9
reach (Some (t.Mark m.Star)) = 10
reach (Some (t.Mark m.FloorDivide)) = 10
reach (Some (t.Mark m.Percent)) = 10
reach (Some (t.Mark m.OpenRound)) = 12
reach (Some (t.Mark m.OpenSquare)) = 12
reach (Some (t.Mark m.Dot)) = 12
reach _ = 0

-- the tokens don't go on with an expression of this level
unfoldable pub Ends : ℕ → Input → Type 0
Ends r more = reach (next more) ≤ r
