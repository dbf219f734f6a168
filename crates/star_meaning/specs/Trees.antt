-- Trees and outcomes written short, for the worked rows.
use Rattle.std.specs.Prelude.{◌≡◌, ℕ, false, List, [], ◌∷◌, pos}
use Rattle.star_syntax.specs.declared.expression.Expr.{Expr}
use Rattle.star_syntax.specs.declared.expression.Expr.TheVariants as e
use Rattle.star_syntax.specs.declared.expression.Arguments.{Arguments}
use Rattle.star_syntax.specs.declared.expression.Arm.{Arm}
use Rattle.star_syntax.specs.declared.expression.ChainLevel.{ChainLevel}
use Rattle.star_syntax.specs.declared.expression.ChainOp.{ChainOp}
use Rattle.star_syntax.specs.declared.expression.ChainOp.TheVariants as chain
use Rattle.star_syntax.specs.declared.expression.Link.{Link}
use Rattle.star_syntax.specs.declared.expression.Named.{Named}
use Rattle.star_syntax.specs.declared.expression.Pair.{Pair}
use Rattle.star_syntax.specs.declared.expression.Suffix.TheVariants as suffix
use Rattle.star_syntax.specs.declared.operator.BinaryOp.{BinaryOp}
use Rattle.star_syntax.specs.declared.statement.Block.{Block}
use Rattle.star_syntax.specs.declared.statement.Branch.{Branch}
use Rattle.star_syntax.specs.declared.statement.Definition.{Definition}
use Rattle.star_syntax.specs.declared.statement.SmallKind.{SmallKind}
use Rattle.star_syntax.specs.declared.statement.SmallKind.TheVariants as small
use Rattle.star_syntax.specs.declared.statement.Statement.{Statement}
use Rattle.star_syntax.specs.declared.statement.Statement.TheVariants as s
use Rattle.star_syntax.specs.CellParts.{CellParts}
use Rattle.star_value.specs.declared.failure.Failure.{Failure}
use Rattle.star_meaning.specs.declared.ran.End.TheVariants as end
use Rattle.star_meaning.specs.declared.ran.Ran.{Ran}
use Rattle.star_meaning.specs.Cells.{runs}

abbrev pub name : List ℕ → Expr
name points = e.Name points

abbrev pub int : ℕ → Expr
int n = e.Int (pos n)

abbrev pub link : ChainOp → Expr → Link Expr
link op operand = record { op = op; operand = operand }

abbrev pub pair : Expr → Expr → Pair Expr
pair k v = record { key = k; value = v }

abbrev pub named : List ℕ → Expr → Named Expr
named points v = record { name = points; value = v }

abbrev pub given : List Expr → Arguments Expr
given positional = record { positional = positional; named = []; comma = false }

abbrev pub given_named : List Expr → List (Named Expr) → Arguments Expr
given_named positional by_name = record { positional = positional; named = by_name; comma = false }

-- a chain of two operands, a call, a call of a method, and an index
abbrev pub chained : ChainLevel → BinaryOp → Expr → Expr → Expr
chained level op a b = e.Chain level a (link (chain.Binary op) b ∷ [])

abbrev pub called : Expr → List Expr → Expr
called f positional = e.Primary f (suffix.Call (given positional) ∷ [])

abbrev pub method : Expr → List ℕ → List Expr → Expr
method x points positional = e.Primary x (suffix.Method points (given positional) ∷ [])

abbrev pub indexed : Expr → Expr → Expr
indexed x at = e.Primary x (suffix.Index at ∷ [])

abbrev pub line : ℕ → SmallKind → Statement
line number kind = s.Line (record { smalls = record { line = number; kind = kind } ∷ []; semicolon = false })

abbrev pub branch : Expr → Block Statement → Branch Statement
branch condition body = record { condition = condition; body = body }

abbrev pub def : List ℕ → List (List ℕ) → List (Named Expr) → Block Statement → Definition Statement
def points required defaults body = record { name = points; required = required; defaults = defaults; comma = false; body = body }

-- a cell that reads the inputs of these names, and one that reads none
abbrev pub cell_reading : List (List ℕ) → List Statement → CellParts
cell_reading names statements = record { source = []; «module» = record { statements = statements }; inputs = names }

abbrev pub cell : List Statement → CellParts
cell statements = cell_reading [] statements

-- an arm of a conditional: a value and its condition
abbrev pub arm : Expr → Expr → Arm Expr
arm v condition = record { value = v; condition = condition }

-- a cell that ends, with what it writes and its steps; and one that fails, with the failure and its line
abbrev pub done : List ℕ → ℕ → Ran
done out steps = record { end = end.Done; out = out; steps = steps }

abbrev pub failed : List ℕ → Failure → ℕ → ℕ → Ran
failed out kind line' steps = record { end = end.Failed kind line'; out = out; steps = steps }

-- cells one after another, without inputs and with 1,000,000 steps each, give these outcomes
pub record Give (cells : List CellParts) (outcomes : List Ran) : Type 0 where
  pub hold : runs cells [] 1000000 ≡ outcomes

-- a cell that is one expression writes its value and takes so many steps, or fails
abbrev pub Writes : Expr → List ℕ → ℕ → Type 0
Writes x out steps = Give (cell (line 1 (small.Tests (x ∷ [])) ∷ []) ∷ []) (done out steps ∷ [])

abbrev pub Fails : Expr → Failure → ℕ → Type 0
Fails x kind steps = Give (cell (line 1 (small.Tests (x ∷ [])) ∷ []) ∷ []) (failed [] kind 1 steps ∷ [])
