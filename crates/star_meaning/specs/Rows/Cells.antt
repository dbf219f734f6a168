-- Cells one after another: what these cells write and how many steps they take, by the definitions.
use Rattle.std.specs.Prelude.{◌≡◌, [], ◌∷◌, true, false, pos, codes}
use Rattle.star_syntax.specs.declared.expression.Expr.TheVariants as e
use Rattle.star_syntax.specs.declared.expression.ChainLevel.TheVariants as level
use Rattle.star_syntax.specs.declared.operator.BinaryOp.TheVariants as op
use Rattle.star_syntax.specs.declared.operator.UnaryOp.TheVariants as sign
use Rattle.star_syntax.specs.declared.statement.Block.TheVariants as blocks
use Rattle.star_syntax.specs.declared.statement.SmallKind.TheVariants as small
use Rattle.star_syntax.specs.declared.statement.Statement.TheVariants as s
use Rattle.chex_base.specs.declared.input.Input.TheVariants as input
use Rattle.star_value.specs.declared.failure.Failure.TheVariants as failure
use Rattle.star_meaning.specs.Cells.{runs}
use Rattle.star_meaning.specs.Trees.{Give, Writes, called, cell, cell_reading, chained, def, done, failed, indexed, int, line, method, name, pair}

pub record Cells : Type 0 where
  --     print(1 + 2)
  pub three : Writes (called (name (codes "print")) (chained level.Sum op.Add (int 1) (int 2) ∷ [])) (codes "3\n") 9
  -- cell 1
  --     print(1 + 2)
  -- cell 2
  --     print("ok")
  pub two_cells : Give (cell (line 1 (small.Tests (called (name (codes "print")) (chained level.Sum op.Add (int 1) (int 2) ∷ []) ∷ [])) ∷ []) ∷ cell (line 1 (small.Tests (called (name (codes "print")) (e.Text (codes "ok") ∷ []) ∷ [])) ∷ []) ∷ []) (done (codes "3\n") 9 ∷ done (codes "ok\n") 10 ∷ [])
  -- cell 1
  --     x = [1]
  --     y = x
  -- cell 2
  --     y.append(2)
  --     print(x)
  pub shared_list_a : Give (cell (line 1 (small.Assign (name (codes "x") ∷ []) (e.List (int 1 ∷ []) false ∷ [])) ∷ line 2 (small.Assign (name (codes "y") ∷ []) (name (codes "x") ∷ [])) ∷ []) ∷ cell (line 1 (small.Tests (method (name (codes "y")) (codes "append") (int 2 ∷ []) ∷ [])) ∷ line 2 (small.Tests (called (name (codes "print")) (name (codes "x") ∷ []) ∷ [])) ∷ []) ∷ []) (done [] 6 ∷ done (codes "[1, 2]\n") 16 ∷ [])
  -- cell 1
  --     x = [1]
  --     y = x
  -- cell 2
  --     print(y)
  pub shared_list_b : Give (cell (line 1 (small.Assign (name (codes "x") ∷ []) (e.List (int 1 ∷ []) false ∷ [])) ∷ line 2 (small.Assign (name (codes "y") ∷ []) (name (codes "x") ∷ [])) ∷ []) ∷ cell (line 1 (small.Tests (called (name (codes "print")) (name (codes "y") ∷ []) ∷ [])) ∷ []) ∷ []) (done [] 6 ∷ done (codes "[1]\n") 9 ∷ [])
  -- cell 1
  --     x = []
  --     x.append(x)
  -- cell 2
  --     print(len(x))
  pub itself_a : Give (cell (line 1 (small.Assign (name (codes "x") ∷ []) (e.List [] false ∷ [])) ∷ line 2 (small.Tests (method (name (codes "x")) (codes "append") (name (codes "x") ∷ []) ∷ [])) ∷ []) ∷ cell (line 1 (small.Tests (called (name (codes "print")) (called (name (codes "len")) (name (codes "x") ∷ []) ∷ []) ∷ [])) ∷ []) ∷ []) (done [] 7 ∷ done (codes "1\n") 9 ∷ [])
  -- cell 1
  --     x = []
  --     x.append(x)
  -- cell 2
  --     x.append(1)
  --     print(len(x))
  pub itself_b : Give (cell (line 1 (small.Assign (name (codes "x") ∷ []) (e.List [] false ∷ [])) ∷ line 2 (small.Tests (method (name (codes "x")) (codes "append") (name (codes "x") ∷ []) ∷ [])) ∷ []) ∷ cell (line 1 (small.Tests (method (name (codes "x")) (codes "append") (int 1 ∷ []) ∷ [])) ∷ line 2 (small.Tests (called (name (codes "print")) (called (name (codes "len")) (name (codes "x") ∷ []) ∷ []) ∷ [])) ∷ []) ∷ []) (done [] 7 ∷ done (codes "2\n") 13 ∷ [])
  -- cell 1
  --     def f():
  --         return input("n")
  -- cell 2
  --     print(f())
  pub inputs_1 : runs (cell_reading ((codes "n") ∷ []) (s.Def 1 (def (codes "f") [] [] (blocks.Indented (line 2 (small.Return (called (name (codes "input")) (e.Text (codes "n") ∷ []) ∷ [])) ∷ []))) ∷ []) ∷ cell (line 1 (small.Tests (called (name (codes "print")) (called (name (codes "f")) [] ∷ []) ∷ [])) ∷ []) ∷ []) (((codes "m"), input.Int (pos 1)) ∷ ((codes "n"), input.Int (pos 1)) ∷ []) 1000000 ≡ done [] 2 ∷ done (codes "1\n") 10 ∷ []
  -- cell 1
  --     def f():
  --         return input("n")
  -- cell 2
  --     print(f())
  pub inputs_2 : runs (cell_reading ((codes "n") ∷ []) (s.Def 1 (def (codes "f") [] [] (blocks.Indented (line 2 (small.Return (called (name (codes "input")) (e.Text (codes "n") ∷ []) ∷ [])) ∷ []))) ∷ []) ∷ cell (line 1 (small.Tests (called (name (codes "print")) (called (name (codes "f")) [] ∷ []) ∷ [])) ∷ []) ∷ []) (((codes "n"), input.Int (pos 2)) ∷ []) 1000000 ≡ done [] 2 ∷ done (codes "2\n") 10 ∷ []
  -- cell 1
  --     print(1)
  --     x = 1 // 0
  --     print(2)
  -- cell 2
  --     print(3)
  pub division : Give (cell (line 1 (small.Tests (called (name (codes "print")) (int 1 ∷ []) ∷ [])) ∷ line 2 (small.Assign (name (codes "x") ∷ []) (chained level.Product op.Floor (int 1) (int 0) ∷ [])) ∷ line 3 (small.Tests (called (name (codes "print")) (int 2 ∷ []) ∷ [])) ∷ []) ∷ cell (line 1 (small.Tests (called (name (codes "print")) (int 3 ∷ []) ∷ [])) ∷ []) ∷ []) (failed (codes "1\n") failure.ZeroDivisor 2 11 ∷ [])
  --     x = 170141183460469231731687303715884105727
  --     print(-7 // 2, -7 % 2)
  --     x + 1
  pub largest : Give (cell (line 1 (small.Assign (name (codes "x") ∷ []) (int 170141183460469231731687303715884105727 ∷ [])) ∷ line 2 (small.Tests (called (name (codes "print")) (chained level.Product op.Floor (e.Signed (sign.Minus ∷ []) (int 7)) (int 2) ∷ chained level.Product op.Mod (e.Signed (sign.Minus ∷ []) (int 7)) (int 2) ∷ []) ∷ [])) ∷ line 3 (small.Tests (chained level.Sum op.Add (name (codes "x")) (int 1) ∷ [])) ∷ []) ∷ []) (failed (codes "-4 1\n") failure.IntegerTooLarge 3 23 ∷ [])
  --     def f(n):
  --         return f(n)
  --     f(1)
  pub recursion : Give (cell (s.Def 1 (def (codes "f") ((codes "n") ∷ []) [] (blocks.Indented (line 2 (small.Return (called (name (codes "f")) (name (codes "n") ∷ []) ∷ [])) ∷ []))) ∷ line 3 (small.Tests (called (name (codes "f")) (int 1 ∷ []) ∷ [])) ∷ []) ∷ []) (failed [] failure.Recursion 3 10 ∷ [])
  --     print(1 + 2)
  pub nine_steps : runs (cell (line 1 (small.Tests (called (name (codes "print")) (chained level.Sum op.Add (int 1) (int 2) ∷ []) ∷ [])) ∷ []) ∷ []) [] 9 ≡ done (codes "3\n") 9 ∷ []
  --     print(1 + 2)
  pub eight_steps : runs (cell (line 1 (small.Tests (called (name (codes "print")) (chained level.Sum op.Add (int 1) (int 2) ∷ []) ∷ [])) ∷ []) ∷ []) [] 8 ≡ failed [] failure.StepLimit 1 8 ∷ []
  --     def f(n):
  --         return n + 1
  --     print(f(1))
  pub function_call : Give (cell (s.Def 1 (def (codes "f") ((codes "n") ∷ []) [] (blocks.Indented (line 2 (small.Return (chained level.Sum op.Add (name (codes "n")) (int 1) ∷ [])) ∷ []))) ∷ line 3 (small.Tests (called (name (codes "print")) (called (name (codes "f")) (int 1 ∷ []) ∷ []) ∷ [])) ∷ []) ∷ []) (done (codes "2\n") 14 ∷ [])
  --     def f(n):
  --         return n + 1
  --     print(f(1))
  pub function_call_stopped : runs (cell (s.Def 1 (def (codes "f") ((codes "n") ∷ []) [] (blocks.Indented (line 2 (small.Return (chained level.Sum op.Add (name (codes "n")) (int 1) ∷ [])) ∷ []))) ∷ line 3 (small.Tests (called (name (codes "print")) (called (name (codes "f")) (int 1 ∷ []) ∷ []) ∷ [])) ∷ []) ∷ []) [] 13 ≡ failed [] failure.StepLimit 3 13 ∷ []
  --     d = {"a": 1, "b": 2}
  --     d["a"] = 3
  --     print(d)
  pub stored_key : Give (cell (line 1 (small.Assign (name (codes "d") ∷ []) (e.Dict (pair (e.Text (codes "a")) (int 1) ∷ pair (e.Text (codes "b")) (int 2) ∷ []) false ∷ [])) ∷ line 2 (small.Assign (indexed (name (codes "d")) (e.Text (codes "a")) ∷ []) (int 3 ∷ [])) ∷ line 3 (small.Tests (called (name (codes "print")) (name (codes "d") ∷ []) ∷ [])) ∷ []) ∷ []) (done (codes "{\"a\": 3, \"b\": 2}\n") 41 ∷ [])
  --     x = [1, 2]
  --     for i in x:
  --         x.append(i)
  pub appended_to_itself : Give (cell (line 1 (small.Assign (name (codes "x") ∷ []) (e.List (int 1 ∷ int 2 ∷ []) false ∷ [])) ∷ s.For 2 (name (codes "i") ∷ []) (name (codes "x") ∷ []) (blocks.Indented (line 3 (small.Tests (method (name (codes "x")) (codes "append") (name (codes "i") ∷ []) ∷ [])) ∷ [])) ∷ []) ∷ []) (failed [] failure.ChangedWhileIterated 3 12 ∷ [])
  --     print("a,b".split(","), (1,), "%d%%" % 5)
  pub three_printed : Writes (called (name (codes "print")) (method (e.Text (codes "a,b")) (codes "split") (e.Text (codes ",") ∷ []) ∷ e.Tuple (int 1 ∷ []) true ∷ chained level.Product op.Mod (e.Text (codes "%d%%")) (int 5) ∷ [])) (codes "[\"a\", \"b\"] (1,) 5%\n") 49
  -- cell 1
  --     x = [1]
  --     y = [2]
  -- cell 2
  --     y.append(x)
  --     print(y)
  pub one_order : Give (cell (line 1 (small.Assign (name (codes "x") ∷ []) (e.List (int 1 ∷ []) false ∷ [])) ∷ line 2 (small.Assign (name (codes "y") ∷ []) (e.List (int 2 ∷ []) false ∷ [])) ∷ []) ∷ cell (line 1 (small.Tests (method (name (codes "y")) (codes "append") (name (codes "x") ∷ []) ∷ [])) ∷ line 2 (small.Tests (called (name (codes "print")) (name (codes "y") ∷ []) ∷ [])) ∷ []) ∷ []) (done [] 7 ∷ done (codes "[2, [1]]\n") 18 ∷ [])
  -- cell 1
  --     y = [2]
  --     x = [1]
  -- cell 2
  --     y.append(x)
  --     print(y)
  pub other_order : Give (cell (line 1 (small.Assign (name (codes "y") ∷ []) (e.List (int 2 ∷ []) false ∷ [])) ∷ line 2 (small.Assign (name (codes "x") ∷ []) (e.List (int 1 ∷ []) false ∷ [])) ∷ []) ∷ cell (line 1 (small.Tests (method (name (codes "y")) (codes "append") (name (codes "x") ∷ []) ∷ [])) ∷ line 2 (small.Tests (called (name (codes "print")) (name (codes "y") ∷ []) ∷ [])) ∷ []) ∷ []) (done [] 7 ∷ done (codes "[2, [1]]\n") 18 ∷ [])
  -- cell 1
  --     x = [1]
  --     y = [1]
  -- cell 2
  --     y.append(2)
  --     print(x)
  pub two_lists : Give (cell (line 1 (small.Assign (name (codes "x") ∷ []) (e.List (int 1 ∷ []) false ∷ [])) ∷ line 2 (small.Assign (name (codes "y") ∷ []) (e.List (int 1 ∷ []) false ∷ [])) ∷ []) ∷ cell (line 1 (small.Tests (method (name (codes "y")) (codes "append") (int 2 ∷ []) ∷ [])) ∷ line 2 (small.Tests (called (name (codes "print")) (name (codes "x") ∷ []) ∷ [])) ∷ []) ∷ []) (done [] 7 ∷ done (codes "[1]\n") 13 ∷ [])
