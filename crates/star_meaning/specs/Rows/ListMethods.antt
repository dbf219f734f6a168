-- Methods of lists: what these cells write and how many steps they take, by the definitions.
use Rattle.std.specs.Prelude.{[], ◌∷◌, false, codes}
use Rattle.star_syntax.specs.declared.expression.Expr.TheVariants as e
use Rattle.star_syntax.specs.declared.operator.UnaryOp.TheVariants as sign
use Rattle.star_syntax.specs.declared.statement.SmallKind.TheVariants as small
use Rattle.star_meaning.specs.Trees.{Give, Writes, cell, done, int, line, method, name}

pub record ListMethods : Type 0 where
  --     x = [1]
  --     x.append(2)
  --     x
  pub append : Give (cell (line 1 (small.Assign (name (codes "x") ∷ []) (e.List (int 1 ∷ []) false ∷ [])) ∷ line 2 (small.Tests (method (name (codes "x")) (codes "append") (int 2 ∷ []) ∷ [])) ∷ line 3 (small.Tests (name (codes "x") ∷ [])) ∷ []) ∷ []) (done (codes "[1, 2]\n") 17 ∷ [])
  --     [1].clear()
  pub clear : Writes (method (e.List (int 1 ∷ []) false) (codes "clear") []) [] 5
  --     x = [1]
  --     x.extend([2])
  --     x
  pub extend : Give (cell (line 1 (small.Assign (name (codes "x") ∷ []) (e.List (int 1 ∷ []) false ∷ [])) ∷ line 2 (small.Tests (method (name (codes "x")) (codes "extend") (e.List (int 2 ∷ []) false ∷ []) ∷ [])) ∷ line 3 (small.Tests (name (codes "x") ∷ [])) ∷ []) ∷ []) (done (codes "[1, 2]\n") 19 ∷ [])
  --     x = [1]
  --     x.insert(-5, 0)
  --     x
  pub insert : Give (cell (line 1 (small.Assign (name (codes "x") ∷ []) (e.List (int 1 ∷ []) false ∷ [])) ∷ line 2 (small.Tests (method (name (codes "x")) (codes "insert") (e.Signed (sign.Minus ∷ []) (int 5) ∷ int 0 ∷ []) ∷ [])) ∷ line 3 (small.Tests (name (codes "x") ∷ [])) ∷ []) ∷ []) (done (codes "[0, 1]\n") 19 ∷ [])
  --     [1, 2].pop()
  pub pop_last : Writes (method (e.List (int 1 ∷ int 2 ∷ []) false) (codes "pop") []) (codes "2\n") 8
  --     [1, 2].pop(0)
  pub pop_first : Writes (method (e.List (int 1 ∷ int 2 ∷ []) false) (codes "pop") (int 0 ∷ [])) (codes "1\n") 9
  --     x = [1, 2]
  --     x.remove(2)
  --     x
  pub remove : Give (cell (line 1 (small.Assign (name (codes "x") ∷ []) (e.List (int 1 ∷ int 2 ∷ []) false ∷ [])) ∷ line 2 (small.Tests (method (name (codes "x")) (codes "remove") (int 2 ∷ []) ∷ [])) ∷ line 3 (small.Tests (name (codes "x") ∷ [])) ∷ []) ∷ []) (done (codes "[1]\n") 17 ∷ [])
  --     [1, 2].index(2)
  pub index : Writes (method (e.List (int 1 ∷ int 2 ∷ []) false) (codes "index") (int 2 ∷ [])) (codes "1\n") 11
