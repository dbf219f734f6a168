-- Comparisons, with the charges of their walks: what these cells write and how many steps they take, by the definitions.
use Rattle.std.specs.Prelude.{[], ◌∷◌, false, codes}
use Rattle.star_syntax.specs.declared.expression.Expr.TheVariants as e
use Rattle.star_syntax.specs.declared.operator.CompareOp.TheVariants as compare
use Rattle.star_meaning.specs.Trees.{Writes, called, int, name, pair}

pub record Comparisons : Type 0 where
  --     1 == 1
  pub equal_ints : Writes (e.Compare (int 1) compare.Equal (int 1)) (codes "True\n") 11
  --     "ab" == "abc"
  pub equal_texts : Writes (e.Compare (e.Text (codes "ab")) compare.Equal (e.Text (codes "abc"))) (codes "False\n") 19
  --     [1, 2] != [1]
  pub unequal_lengths : Writes (e.Compare (e.List (int 1 ∷ int 2 ∷ []) false) compare.NotEqual (e.List (int 1 ∷ []) false)) (codes "True\n") 14
  --     [1, 2] == [1, 3]
  pub unequal_items : Writes (e.Compare (e.List (int 1 ∷ int 2 ∷ []) false) compare.Equal (e.List (int 1 ∷ int 3 ∷ []) false)) (codes "False\n") 18
  --     {"a": 1} == {"a": 2}
  pub equal_dicts : Writes (e.Compare (e.Dict (pair (e.Text (codes "a")) (int 1) ∷ []) false) compare.Equal (e.Dict (pair (e.Text (codes "a")) (int 2) ∷ []) false)) (codes "False\n") 25
  --     1 < 2
  pub less : Writes (e.Compare (int 1) compare.Less (int 2)) (codes "True\n") 11
  --     [2] >= [1, 5]
  pub at_least_lists : Writes (e.Compare (e.List (int 2 ∷ []) false) compare.AtLeast (e.List (int 1 ∷ int 5 ∷ []) false)) (codes "True\n") 15
  --     "a" > "b"
  pub greater_texts : Writes (e.Compare (e.Text (codes "a")) compare.Greater (e.Text (codes "b"))) (codes "False\n") 15
  --     (1, 2) <= (1, 2)
  pub at_most_tuples : Writes (e.Compare (e.Tuple (int 1 ∷ int 2 ∷ []) false) compare.AtMost (e.Tuple (int 1 ∷ int 2 ∷ []) false)) (codes "True\n") 21
  --     2 in [1, 2, 3]
  pub in_list : Writes (e.Compare (int 2) compare.Within (e.List (int 1 ∷ int 2 ∷ int 3 ∷ []) false)) (codes "True\n") 15
  --     "b" in {"a": 1}
  pub in_dict : Writes (e.Compare (e.Text (codes "b")) compare.Within (e.Dict (pair (e.Text (codes "a")) (int 1) ∷ []) false)) (codes "False\n") 19
  --     3 in range(5)
  pub in_range_of_ints : Writes (e.Compare (int 3) compare.Within (called (name (codes "range")) (int 5 ∷ []))) (codes "True\n") 12
  --     "b" not in "abc"
  pub not_in_text : Writes (e.Compare (e.Text (codes "b")) compare.NotWithin (e.Text (codes "abc"))) (codes "False\n") 19
