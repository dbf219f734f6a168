-- What does not change while a cell runs, and what trees mean then.
use Rattle.std.specs.Prelude.{ℕ, List}
use Rattle.chex_base.specs.declared.input.Input.{Input}
use Rattle.star_syntax.specs.declared.cell.Program.{Program}
use Rattle.star_syntax.specs.declared.expression.Expr.{Expr}
use Rattle.star_meaning.specs.Expressions.{Callee, Meant, Setting, meant}
use Rattle.star_meaning.specs.Statements.{call_to}
use Rattle.star_meaning.specs.Validity.{numbered_setting}
use Rattle.star_run.specs.declared.given.Given.{Given}

-- the program, the node whose cell runs, and the inputs
pub record Fixed : Type 0 where
  pub program : Program
  pub node : ℕ
  pub inputs : List (List ℕ × Input)

abbrev pub fixed : Given → Fixed
fixed given = record { program = given.program.now; node = given.node; inputs = given.inputs.now }

abbrev pub setting : Fixed → Setting ℕ
setting g = numbered_setting g.program g.node g.inputs

-- a call of a function, while so many more may become active
abbrev pub callee : Fixed → ℕ → Callee ℕ
callee g depth = call_to (setting g) depth

-- what a tree means
abbrev pub meaning : Fixed → ℕ → Expr → Meant ℕ
meaning g depth = meant (setting g) (callee g depth)
