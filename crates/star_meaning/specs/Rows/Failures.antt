-- Failures, with the steps up to them: what these cells write and how many steps they take, by the definitions.
use Rattle.std.specs.Prelude.{[], ◌∷◌, false, codes}
use Rattle.star_syntax.specs.declared.expression.Expr.TheVariants as e
use Rattle.star_syntax.specs.declared.expression.ChainLevel.TheVariants as level
use Rattle.star_syntax.specs.declared.operator.BinaryOp.TheVariants as op
use Rattle.star_syntax.specs.declared.operator.CompareOp.TheVariants as compare
use Rattle.star_syntax.specs.declared.statement.Block.TheVariants as blocks
use Rattle.star_syntax.specs.declared.statement.SmallKind.TheVariants as small
use Rattle.star_syntax.specs.declared.statement.Statement.TheVariants as s
use Rattle.star_value.specs.declared.failure.Failure.TheVariants as failure
use Rattle.star_meaning.specs.Trees.{Fails, Give, called, cell, chained, failed, indexed, int, line, method, name, pair}

pub record Failures : Type 0 where
  --     [].foo()
  pub no_method : Fails (method (e.List [] false) (codes "foo") []) failure.NoMethod 4
  --     len()
  pub wrong_arguments : Fails (called (name (codes "len")) []) failure.WrongArguments 4
  --     1 + "a"
  pub wrong_type : Fails (chained level.Sum op.Add (int 1) (e.Text (codes "a"))) failure.WrongType 6
  --     {}[[]]
  pub unhashable : Fails (indexed (e.Dict [] false) (e.List [] false)) failure.Unhashable 5
  --     x = [1]
  --     for i in x:
  --         x.append(1)
  pub changed_while_iterated : Give (cell (line 1 (small.Assign (name (codes "x") ∷ []) (e.List (int 1 ∷ []) false ∷ [])) ∷ s.For 2 (name (codes "i") ∷ []) (name (codes "x") ∷ []) (blocks.Indented (line 3 (small.Tests (method (name (codes "x")) (codes "append") (int 1 ∷ []) ∷ [])) ∷ [])) ∷ []) ∷ []) (failed [] failure.ChangedWhileIterated 3 11 ∷ [])
  --     y
  pub unbound : Fails (name (codes "y")) failure.Unbound 3
  --     input("q")
  pub no_input : Fails (called (name (codes "input")) (e.Text (codes "q") ∷ [])) failure.NoInput 3
  --     a, b = [1]
  pub bad_unpack : Give (cell (line 1 (small.Assign (name (codes "a") ∷ name (codes "b") ∷ []) (e.List (int 1 ∷ []) false ∷ [])) ∷ []) ∷ []) (failed [] failure.BadUnpack 1 5 ∷ [])
  --     [1][1]
  pub bad_index : Fails (indexed (e.List (int 1 ∷ []) false) (int 1)) failure.BadIndex 6
  --     {}["a"]
  pub no_key : Fails (indexed (e.Dict [] false) (e.Text (codes "a"))) failure.NoKey 6
  --     [1].index(2)
  pub no_element : Fails (method (e.List (int 1 ∷ []) false) (codes "index") (int 2 ∷ [])) failure.NoElement 7
  --     {1: 2, 1: 3}
  pub repeated_key : Fails (e.Dict (pair (int 1) (int 2) ∷ pair (int 1) (int 3) ∷ []) false) failure.RepeatedKey 7
  --     1 % 0
  pub zero_divisor : Fails (chained level.Product op.Mod (int 1) (int 0)) failure.ZeroDivisor 5
  --     170141183460469231731687303715884105727 + 1
  pub integer_too_large : Fails (chained level.Sum op.Add (int 170141183460469231731687303715884105727) (int 1)) failure.IntegerTooLarge 5
  --     "%" % 1
  pub bad_text : Fails (chained level.Product op.Mod (e.Text (codes "%")) (int 1)) failure.BadText 6
  --     [1] < ["a"]
  pub wrong_item : Fails (e.Compare (e.List (int 1 ∷ []) false) compare.Less (e.List (e.Text (codes "a") ∷ []) false)) failure.WrongType 10
  --     min([])
  pub nothing_least : Fails (called (name (codes "min")) (e.List [] false ∷ [])) failure.NoElement 5
  --     int("1a")
  pub no_number : Fails (called (name (codes "int")) (e.Text (codes "1a") ∷ [])) failure.BadText 7
