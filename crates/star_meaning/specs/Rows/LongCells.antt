-- Longer cells: what they write and how many steps they take, by the definitions.
use Rattle.std.specs.Prelude.{[], ◌∷◌, Some, None, false, codes}
use Rattle.star_syntax.specs.declared.expression.ChainLevel.TheVariants as level
use Rattle.star_syntax.specs.declared.expression.Expr.{Expr}
use Rattle.star_syntax.specs.declared.expression.Expr.TheVariants as e
use Rattle.star_syntax.specs.declared.expression.Suffix.TheVariants as suffix
use Rattle.star_syntax.specs.declared.operator.BinaryOp.TheVariants as op
use Rattle.star_syntax.specs.declared.operator.CompareOp.TheVariants as compare
use Rattle.star_syntax.specs.declared.statement.Block.TheVariants as blocks
use Rattle.star_syntax.specs.declared.statement.SmallKind.TheVariants as small
use Rattle.star_syntax.specs.declared.statement.Statement.{Statement}
use Rattle.star_syntax.specs.declared.statement.Statement.TheVariants as s
use Rattle.star_syntax.specs.CellParts.{CellParts}
use Rattle.star_value.specs.declared.failure.Failure.TheVariants as failure
use Rattle.star_meaning.specs.Trees.{Give, called, cell, chained, done, failed, indexed, int, line, method, name, pair}

-- sales = {"north": 3, "south": 5}
abbrev pub sales_made : Statement
sales_made = line 1 (small.Assign (name (codes "sales") ∷ []) (e.Dict (pair (e.Text (codes "north")) (int 3) ∷ pair (e.Text (codes "south")) (int 5) ∷ []) false ∷ []))

-- total = 0
abbrev pub total_made : Statement
total_made = line 2 (small.Assign (name (codes "total") ∷ []) (int 0 ∷ []))

-- total += sales[k]
abbrev pub total_raised : Statement
total_raised = line 4 (small.Augmented (name (codes "total")) op.Add (indexed (name (codes "sales")) (name (codes "k")) ∷ []))

-- for k in sales:
--     total += sales[k]
abbrev pub sales_added : Statement
sales_added = s.For 3 (name (codes "k") ∷ []) (name (codes "sales") ∷ []) (blocks.Indented (total_raised ∷ []))

-- total
abbrev pub total_shown : Statement
total_shown = line 5 (small.Tests (name (codes "total") ∷ []))

-- "a b".split()
abbrev pub words : Expr
words = method (e.Text (codes "a b")) (codes "split") []

-- "a,b".split(",")
abbrev pub fields : Expr
fields = method (e.Text (codes "a,b")) (codes "split") (e.Text (codes ",") ∷ [])

-- ",".join(["a", "b"])
abbrev pub joined : Expr
joined = method (e.Text (codes ",")) (codes "join") (e.List (e.Text (codes "a") ∷ e.Text (codes "b") ∷ []) false ∷ [])

-- "aba".replace("a", "c")
abbrev pub replaced : Expr
replaced = method (e.Text (codes "aba")) (codes "replace") (e.Text (codes "a") ∷ e.Text (codes "c") ∷ [])

-- " x ".strip()
abbrev pub stripped_text : Expr
stripped_text = method (e.Text (codes " x ")) (codes "strip") []

-- "%s" % 1
abbrev pub formatted_text : Expr
formatted_text = chained level.Product op.Mod (e.Text (codes "%s")) (int 1)

-- (1, 2, 3)[1:]
abbrev pub rest : Expr
rest = e.Primary (e.Tuple (int 1 ∷ int 2 ∷ int 3 ∷ []) false) (suffix.Slice (Some (int 1)) None None ∷ [])

-- {"k": 1}.pop("k")
abbrev pub popped : Expr
popped = method (e.Dict (pair (e.Text (codes "k")) (int 1) ∷ []) false) (codes "pop") (e.Text (codes "k") ∷ [])

-- (1, 2) < (1, 3)
abbrev pub less : Expr
less = e.Compare (e.Tuple (int 1 ∷ int 2 ∷ []) false) compare.Less (e.Tuple (int 1 ∷ int 3 ∷ []) false)

-- print of all these
abbrev pub all_printed : Statement
all_printed = line 1 (small.Tests (called (name (codes "print")) (words ∷ fields ∷ joined ∷ replaced ∷ stripped_text ∷ formatted_text ∷ rest ∷ popped ∷ less ∷ []) ∷ []))

-- x = []
-- x.append(x)
abbrev pub itself : CellParts
itself = cell (line 1 (small.Assign (name (codes "x") ∷ []) (e.List [] false ∷ [])) ∷ line 2 (small.Tests (method (name (codes "x")) (codes "append") (name (codes "x") ∷ []) ∷ [])) ∷ [])

-- print(x)
abbrev pub x_printed : Statement
x_printed = line 1 (small.Tests (called (name (codes "print")) (name (codes "x") ∷ []) ∷ []))

-- x = [1]
abbrev pub x_made : Statement
x_made = line 1 (small.Assign (name (codes "x") ∷ []) (e.List (int 1 ∷ []) false ∷ []))

-- y = x
abbrev pub y_made : Statement
y_made = line 2 (small.Assign (name (codes "y") ∷ []) (name (codes "x") ∷ []))

-- x += [2]
abbrev pub x_extended : Statement
x_extended = line 3 (small.Augmented (name (codes "x")) op.Add (e.List (int 2 ∷ []) false ∷ []))

-- x = x + [3]
abbrev pub x_joined : Statement
x_joined = line 4 (small.Assign (name (codes "x") ∷ []) (chained level.Sum op.Add (name (codes "x")) (e.List (int 3 ∷ []) false) ∷ []))

-- print(x, y)
abbrev pub both_printed : Statement
both_printed = line 5 (small.Tests (called (name (codes "print")) (name (codes "x") ∷ name (codes "y") ∷ []) ∷ []))

pub record LongCells : Type 0 where
  -- the dict takes 27, with its statement 28; the number 2; the loop 2 and 23 for each of its two turns; the last line 4
  pub sales : Give (cell (sales_made ∷ total_made ∷ sales_added ∷ total_shown ∷ []) ∷ []) (done (codes "8\n") 83 ∷ [])
  -- the name 1; the arguments 12, 14, 15, 15, 9, 7, 11, 11 and 14; the call 1 and 48 code points
  pub many : Give (cell (all_printed ∷ []) ∷ []) (done (codes "[\"a\", \"b\"] [\"a\", \"b\"] a,b cbc x 1 (2, 3) 1 True\n") 160 ∷ [])
  -- a list in itself: 64 brackets are written, and the list inside 64 others is not
  pub itself_printed : Give (itself ∷ cell (x_printed ∷ []) ∷ []) (done [] 7 ∷ failed [] failure.TooDeep 1 69 ∷ [])
  -- the lists 3, the second name 2, the extended list 6, the joined one 8, the printed line 22
  pub extended_and_joined : Give (cell (x_made ∷ y_made ∷ x_extended ∷ x_joined ∷ both_printed ∷ []) ∷ []) (done (codes "[1, 2, 3] [1, 2]\n") 42 ∷ [])
