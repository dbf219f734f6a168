-- Methods of dicts: what these cells write and how many steps they take, by the definitions.
use Rattle.std.specs.Prelude.{[], ◌∷◌, false, codes}
use Rattle.star_syntax.specs.declared.expression.Expr.TheVariants as e
use Rattle.star_syntax.specs.declared.statement.SmallKind.TheVariants as small
use Rattle.star_meaning.specs.Trees.{Give, Writes, cell, done, int, line, method, name, pair}

pub record DictMethods : Type 0 where
  --     {"a": 1}.get("b", 5)
  pub get : Writes (method (e.Dict (pair (e.Text (codes "a")) (int 1) ∷ []) false) (codes "get") (e.Text (codes "b") ∷ int 5 ∷ [])) (codes "5\n") 16
  --     {"a": 1}.pop("a")
  pub pop : Writes (method (e.Dict (pair (e.Text (codes "a")) (int 1) ∷ []) false) (codes "pop") (e.Text (codes "a") ∷ [])) (codes "1\n") 15
  --     d = {}
  --     d.setdefault("a", 1)
  --     d
  pub setdefault : Give (cell (line 1 (small.Assign (name (codes "d") ∷ []) (e.Dict [] false ∷ [])) ∷ line 2 (small.Tests (method (name (codes "d")) (codes "setdefault") (e.Text (codes "a") ∷ int 1 ∷ []) ∷ [])) ∷ line 3 (small.Tests (name (codes "d") ∷ [])) ∷ []) ∷ []) (done (codes "{\"a\": 1}\n") 22 ∷ [])
  --     {"a": 1}.keys()
  pub keys : Writes (method (e.Dict (pair (e.Text (codes "a")) (int 1) ∷ []) false) (codes "keys") []) (codes "[\"a\"]\n") 17
  --     {"a": 1}.values()
  pub values : Writes (method (e.Dict (pair (e.Text (codes "a")) (int 1) ∷ []) false) (codes "values") []) (codes "[1]\n") 14
  --     {"a": 1}.items()
  pub items : Writes (method (e.Dict (pair (e.Text (codes "a")) (int 1) ∷ []) false) (codes "items") []) (codes "[(\"a\", 1)]\n") 24
  --     d = {}
  --     d.update({"a": 1})
  --     d
  pub update : Give (cell (line 1 (small.Assign (name (codes "d") ∷ []) (e.Dict [] false ∷ [])) ∷ line 2 (small.Tests (method (name (codes "d")) (codes "update") (e.Dict (pair (e.Text (codes "a")) (int 1) ∷ []) false ∷ []) ∷ [])) ∷ line 3 (small.Tests (name (codes "d") ∷ [])) ∷ []) ∷ []) (done (codes "{\"a\": 1}\n") 26 ∷ [])
  --     {"a": 1}.clear()
  pub clear_dict : Writes (method (e.Dict (pair (e.Text (codes "a")) (int 1) ∷ []) false) (codes "clear") []) [] 9
