-- Arithmetic on integers, texts, tuples and lists: what these cells write and how many steps they take, by the definitions.
use Rattle.std.specs.Prelude.{[], ◌∷◌, true, false, codes}
use Rattle.star_syntax.specs.declared.expression.Expr.TheVariants as e
use Rattle.star_syntax.specs.declared.expression.ChainLevel.TheVariants as level
use Rattle.star_syntax.specs.declared.operator.BinaryOp.TheVariants as op
use Rattle.star_syntax.specs.declared.operator.UnaryOp.TheVariants as sign
use Rattle.star_meaning.specs.Trees.{Writes, chained, int}

pub record Arithmetic : Type 0 where
  --     1 + 2
  pub add_ints : Writes (chained level.Sum op.Add (int 1) (int 2)) (codes "3\n") 7
  --     "ab" + "c"
  pub add_texts : Writes (chained level.Sum op.Add (e.Text (codes "ab")) (e.Text (codes "c"))) (codes "\"abc\"\n") 17
  --     (1,) + (2,)
  pub add_tuples : Writes (chained level.Sum op.Add (e.Tuple (int 1 ∷ []) true) (e.Tuple (int 2 ∷ []) true)) (codes "(1, 2)\n") 18
  --     [1] + [2, 3]
  pub add_lists : Writes (chained level.Sum op.Add (e.List (int 1 ∷ []) false) (e.List (int 2 ∷ int 3 ∷ []) false)) (codes "[1, 2, 3]\n") 21
  --     5 - 7
  pub subtract : Writes (chained level.Sum op.Sub (int 5) (int 7)) (codes "-2\n") 8
  --     6 & 3
  pub bit_and : Writes (chained level.BitAnd op.And (int 6) (int 3)) (codes "2\n") 7
  --     6 | 3
  pub bit_or : Writes (chained level.BitOr op.Or (int 6) (int 3)) (codes "7\n") 7
  --     6 ^ 3
  pub bit_xor : Writes (chained level.BitXor op.Xor (int 6) (int 3)) (codes "5\n") 7
  --     3 * 4
  pub multiply : Writes (chained level.Product op.Mul (int 3) (int 4)) (codes "12\n") 8
  --     "ab" * 2
  pub repeat_text : Writes (chained level.Product op.Mul (e.Text (codes "ab")) (int 2)) (codes "\"abab\"\n") 18
  --     2 * [1]
  pub repeat_list : Writes (chained level.Product op.Mul (int 2) (e.List (int 1 ∷ []) false)) (codes "[1, 1]\n") 15
  --     (1,) * -1
  pub repeat_tuple : Writes (chained level.Product op.Mul (e.Tuple (int 1 ∷ []) true) (e.Signed (sign.Minus ∷ []) (int 1))) (codes "()\n") 11
  --     -7 // 2
  pub floor : Writes (chained level.Product op.Floor (e.Signed (sign.Minus ∷ []) (int 7)) (int 2)) (codes "-4\n") 9
  --     -7 % 2
  pub rest : Writes (chained level.Product op.Mod (e.Signed (sign.Minus ∷ []) (int 7)) (int 2)) (codes "1\n") 8
  --     7 % -2
  pub rest_of_negative : Writes (chained level.Product op.Mod (int 7) (e.Signed (sign.Minus ∷ []) (int 2))) (codes "-1\n") 9
  --     "%d%%" % 5
  pub format_decimal : Writes (chained level.Product op.Mod (e.Text (codes "%d%%")) (int 5)) (codes "\"5%\"\n") 16
  --     "%r" % "a"
  pub format_quoted : Writes (chained level.Product op.Mod (e.Text (codes "%r")) (e.Text (codes "a"))) (codes "\"\\\"a\\\"\"\n") 22
  --     +5
  pub plus : Writes (e.Signed (sign.Plus ∷ []) (int 5)) (codes "5\n") 6
  --     --5
  pub minus_twice : Writes (e.Signed (sign.Minus ∷ sign.Minus ∷ []) (int 5)) (codes "5\n") 7
  --     ~5
  pub invert : Writes (e.Signed (sign.Invert ∷ []) (int 5)) (codes "-6\n") 7
