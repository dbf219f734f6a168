-- Statements, calls of functions and inputs: what these cells write and how many steps they take, by the definitions.
use Rattle.std.specs.Prelude.{◌≡◌, [], ◌∷◌, false, pos, codes}
use Rattle.star_syntax.specs.declared.expression.Expr.TheVariants as e
use Rattle.star_syntax.specs.declared.expression.ChainLevel.TheVariants as level
use Rattle.star_syntax.specs.declared.expression.Suffix.TheVariants as suffix
use Rattle.star_syntax.specs.declared.operator.BinaryOp.TheVariants as op
use Rattle.star_syntax.specs.declared.statement.Block.TheVariants as blocks
use Rattle.star_syntax.specs.declared.statement.SmallKind.TheVariants as small
use Rattle.star_syntax.specs.declared.statement.Statement.TheVariants as s
use Rattle.chex_base.specs.declared.input.Input.TheVariants as input
use Rattle.chex_base.specs.declared.input.InputItem.TheVariants as item
use Rattle.star_meaning.specs.Cells.{runs}
use Rattle.star_meaning.specs.Trees.{Give, called, cell, chained, def, done, given_named, indexed, int, line, name, named}

pub record Statements : Type 0 where
  --     a, b = 1, 2
  --     a
  pub unpacking : Give (cell (line 1 (small.Assign (name (codes "a") ∷ name (codes "b") ∷ []) (int 1 ∷ int 2 ∷ [])) ∷ line 2 (small.Tests (name (codes "a") ∷ [])) ∷ []) ∷ []) (done (codes "1\n") 13 ∷ [])
  --     x = [1]
  --     x += (2, 3)
  --     x
  pub extended_in_place : Give (cell (line 1 (small.Assign (name (codes "x") ∷ []) (e.List (int 1 ∷ []) false ∷ [])) ∷ line 2 (small.Augmented (name (codes "x")) op.Add (e.Tuple (int 2 ∷ int 3 ∷ []) false ∷ [])) ∷ line 3 (small.Tests (name (codes "x") ∷ [])) ∷ []) ∷ []) (done (codes "[1, 2, 3]\n") 26 ∷ [])
  --     d = {}
  --     d["k"] = 1
  --     d
  pub store_in_dict : Give (cell (line 1 (small.Assign (name (codes "d") ∷ []) (e.Dict [] false ∷ [])) ∷ line 2 (small.Assign (indexed (name (codes "d")) (e.Text (codes "k")) ∷ []) (int 1 ∷ [])) ∷ line 3 (small.Tests (name (codes "d") ∷ [])) ∷ []) ∷ []) (done (codes "{\"k\": 1}\n") 21 ∷ [])
  --     def f(a, b=10):
  --         return a - b
  --     f(b=3, a=5)
  pub call_by_name : Give (cell (s.Def 1 (def (codes "f") ((codes "a") ∷ []) (named (codes "b") (int 10) ∷ []) (blocks.Indented (line 2 (small.Return (chained level.Sum op.Sub (name (codes "a")) (name (codes "b")) ∷ [])) ∷ []))) ∷ line 3 (small.Tests (e.Primary (name (codes "f")) (suffix.Call (given_named [] (named (codes "b") (int 3) ∷ named (codes "a") (int 5) ∷ [])) ∷ []) ∷ [])) ∷ []) ∷ []) (done (codes "2\n") 14 ∷ [])
  --     def f(a, b=10):
  --         return a - b
  --     f(5)
  pub default_used : Give (cell (s.Def 1 (def (codes "f") ((codes "a") ∷ []) (named (codes "b") (int 10) ∷ []) (blocks.Indented (line 2 (small.Return (chained level.Sum op.Sub (name (codes "a")) (name (codes "b")) ∷ [])) ∷ []))) ∷ line 3 (small.Tests (called (name (codes "f")) (int 5 ∷ []) ∷ [])) ∷ []) ∷ []) (done (codes "-5\n") 15 ∷ [])
  --     input("n")
  pub input_of_int : runs (cell (line 1 (small.Tests (called (name (codes "input")) (e.Text (codes "n") ∷ []) ∷ [])) ∷ []) ∷ []) (((codes "n"), input.Int (pos 1)) ∷ []) 1000000 ≡ done (codes "1\n") 5 ∷ []
  --     input("n")
  pub input_of_text : runs (cell (line 1 (small.Tests (called (name (codes "input")) (e.Text (codes "n") ∷ []) ∷ [])) ∷ []) ∷ []) (((codes "n"), input.Text (codes "ab")) ∷ []) 1000000 ≡ done (codes "\"ab\"\n") 10 ∷ []
  --     input("n")
  pub input_of_array : runs (cell (line 1 (small.Tests (called (name (codes "input")) (e.Text (codes "n") ∷ []) ∷ [])) ∷ []) ∷ []) (((codes "n"), input.List (item.Int (pos 1) ∷ item.Text (codes "a") ∷ [])) ∷ []) 1000000 ≡ done (codes "[1, \"a\"]\n") 15 ∷ []
