-- Which tokens begin an expression of which level.
use Rattle.std.specs.Prelude.{ℕ}
use Rattle.star_syntax.specs.declared.token.Token.{Token}
use Rattle.star_syntax.specs.declared.token.Token.TheVariants as t
use Rattle.star_syntax.specs.declared.token.Keyword.TheVariants as w
use Rattle.star_syntax.specs.declared.token.Mark.TheVariants as m

-- the token begins expressions of levels below this one
abbrev pub starts : Token → ℕ
starts (t.Name _) = 13
starts (t.Int _) = 13
starts (t.Text _) = 13
starts (t.Word w.None) = 13
starts (t.Word w.True) = 13
starts (t.Word w.False) = 13
starts (t.Mark m.OpenRound) = 13
starts (t.Mark m.OpenSquare) = 13
starts (t.Mark m.OpenCurly) = 13
starts (t.Mark m.Plus) = 11
starts (t.Mark m.Minus) = 11
starts (t.Mark m.Tilde) = 11
starts (t.Word w.Not) = 4
starts _ = 0
