-- Comprehensions and loops that break off: what these cells write and how many steps they take, by the definitions.
use Rattle.std.specs.Prelude.{[], ◌∷◌, None, false, codes}
use Rattle.star_syntax.specs.declared.expression.ChainLevel.TheVariants as level
use Rattle.star_syntax.specs.declared.expression.Clause.TheVariants as clause
use Rattle.star_syntax.specs.declared.expression.Expr.{Expr}
use Rattle.star_syntax.specs.declared.expression.Expr.TheVariants as e
use Rattle.star_syntax.specs.declared.operator.BinaryOp.TheVariants as op
use Rattle.star_syntax.specs.declared.operator.CompareOp.TheVariants as compare
use Rattle.star_syntax.specs.declared.statement.Block.TheVariants as blocks
use Rattle.star_syntax.specs.declared.statement.SmallKind.TheVariants as small
use Rattle.star_syntax.specs.declared.statement.Statement.{Statement}
use Rattle.star_syntax.specs.declared.statement.Statement.TheVariants as s
use Rattle.star_meaning.specs.Trees.{Give, Writes, branch, called, cell, chained, done, int, line, name}

-- [1, 2, 3]
abbrev pub numbers : Expr
numbers = e.List (int 1 ∷ int 2 ∷ int 3 ∷ []) false

-- x != 2
abbrev pub is_other : Expr
is_other = e.Compare (name (codes "x")) compare.NotEqual (int 2)

-- x * x
abbrev pub square : Expr
square = chained level.Product op.Mul (name (codes "x")) (name (codes "x"))

-- [x * x for x in [1, 2, 3] if x != 2]
abbrev pub squares : Expr
squares = e.ListOver square (clause.For (name (codes "x") ∷ []) numbers ∷ clause.If is_other ∷ [])

-- ["a", "b", "a"]
abbrev pub letters : Expr
letters = e.List (e.Text (codes "a") ∷ e.Text (codes "b") ∷ e.Text (codes "a") ∷ []) false

-- {k: 0 for k in ["a", "b", "a"]}
abbrev pub zeros : Expr
zeros = e.DictOver (name (codes "k")) (int 0) (clause.For (name (codes "k") ∷ []) letters ∷ [])

-- [(1, 2)]
abbrev pub one_pair : Expr
one_pair = e.List (e.Tuple (int 1 ∷ int 2 ∷ []) false ∷ []) false

-- a + b
abbrev pub both : Expr
both = chained level.Sum op.Add (name (codes "a")) (name (codes "b"))

-- [a + b for a, b in [(1, 2)]]
abbrev pub sums : Expr
sums = e.ListOver both (clause.For (name (codes "a") ∷ name (codes "b") ∷ []) one_pair ∷ [])

-- if i == 1:
--     continue
abbrev pub passed_over : Statement
passed_over = s.If 2 (branch (e.Compare (name (codes "i")) compare.Equal (int 1)) (blocks.Indented (line 3 small.Continue ∷ []))) [] None

-- if i == 2:
--     break
abbrev pub broken_off : Statement
broken_off = s.If 4 (branch (e.Compare (name (codes "i")) compare.Equal (int 2)) (blocks.Indented (line 5 small.Break ∷ []))) [] None

-- for i in range(4):
--     the two above
abbrev pub counted : Statement
counted = s.For 1 (name (codes "i") ∷ []) (called (name (codes "range")) (int 4 ∷ []) ∷ []) (blocks.Indented (passed_over ∷ broken_off ∷ []))

-- i
abbrev pub i_shown : Statement
i_shown = line 6 (small.Tests (name (codes "i") ∷ []))

pub record Turns : Type 0 where
  -- the operand 4 and 1; a turn whose condition holds 8, the other 5; the written code points 7
  pub list_comprehension : Writes squares (codes "[1, 9]\n") 35
  -- the operand 7 and 1; a turn 7; the written code points 17
  pub dict_comprehension : Writes zeros (codes "{\"a\": 0, \"b\": 0}\n") 48
  -- the operand 6 and 1; the item 3, its items 2, the sum 3; the written code points 4
  pub unpacked_turn : Writes sums (codes "[3]\n") 21
  -- the loop 1 and its operand 3; the turns 11, 7 and 12; the last line 4
  pub break_and_continue : Give (cell (counted ∷ i_shown ∷ []) ∷ []) (done (codes "2\n") 39 ∷ [])
