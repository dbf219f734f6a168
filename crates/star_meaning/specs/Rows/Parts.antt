-- Indexes and slices: what these cells write and how many steps they take, by the definitions.
use Rattle.std.specs.Prelude.{[], ◌∷◌, Some, None, false, codes}
use Rattle.star_syntax.specs.declared.expression.Expr.TheVariants as e
use Rattle.star_syntax.specs.declared.expression.Suffix.TheVariants as suffix
use Rattle.star_syntax.specs.declared.operator.UnaryOp.TheVariants as sign
use Rattle.star_meaning.specs.Trees.{Writes, given, indexed, int, name, pair}

pub record Parts : Type 0 where
  --     [4, 5][-1]
  pub index_from_end : Writes (indexed (e.List (int 4 ∷ int 5 ∷ []) false) (e.Signed (sign.Minus ∷ []) (int 1))) (codes "5\n") 10
  --     "abc"[1]
  pub index_text : Writes (indexed (e.Text (codes "abc")) (int 1)) (codes "\"b\"\n") 13
  --     range(3, 9, 2)[2]
  pub index_range : Writes (e.Primary (name (codes "range")) (suffix.Call (given (int 3 ∷ int 9 ∷ int 2 ∷ [])) ∷ suffix.Index (int 2) ∷ [])) (codes "7\n") 11
  --     {"a": 7}["a"]
  pub index_dict : Writes (indexed (e.Dict (pair (e.Text (codes "a")) (int 7) ∷ []) false) (e.Text (codes "a"))) (codes "7\n") 15
  --     [1, 2, 3, 4][1:3]
  pub slice_list : Writes (e.Primary (e.List (int 1 ∷ int 2 ∷ int 3 ∷ int 4 ∷ []) false) (suffix.Slice (Some (int 1)) (Some (int 3)) None ∷ [])) (codes "[2, 3]\n") 19
  --     "abcde"[::-2]
  pub slice_text_down : Writes (e.Primary (e.Text (codes "abcde")) (suffix.Slice None None (Some (Some (e.Signed (sign.Minus ∷ []) (int 2)))) ∷ [])) (codes "\"eca\"\n") 20
  --     (1, 2, 3)[:-1]
  pub slice_tuple : Writes (e.Primary (e.Tuple (int 1 ∷ int 2 ∷ int 3 ∷ []) false) (suffix.Slice None (Some (e.Signed (sign.Minus ∷ []) (int 1))) None ∷ [])) (codes "(1, 2)\n") 21
