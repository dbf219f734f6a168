-- Methods of texts: what these cells write and how many steps they take, by the definitions.
use Rattle.std.specs.Prelude.{[], ◌∷◌, false, codes}
use Rattle.star_syntax.specs.declared.expression.Expr.TheVariants as e
use Rattle.star_meaning.specs.Trees.{Writes, method}

pub record TextMethods : Type 0 where
  --     "banana".find("nan")
  pub find : Writes (method (e.Text (codes "banana")) (codes "find") (e.Text (codes "nan") ∷ [])) (codes "2\n") 25
  --     "a,b".split(",")
  pub split : Writes (method (e.Text (codes "a,b")) (codes "split") (e.Text (codes ",") ∷ [])) (codes "[\"a\", \"b\"]\n") 27
  --     " a b ".split()
  pub split_white : Writes (method (e.Text (codes " a b ")) (codes "split") []) (codes "[\"a\", \"b\"]\n") 29
  --     "-".join(["a", "b"])
  pub join : Writes (method (e.Text (codes "-")) (codes "join") (e.List (e.Text (codes "a") ∷ e.Text (codes "b") ∷ []) false ∷ [])) (codes "\"a-b\"\n") 23
  --     "aaa".replace("aa", "b")
  pub replace : Writes (method (e.Text (codes "aaa")) (codes "replace") (e.Text (codes "aa") ∷ e.Text (codes "b") ∷ [])) (codes "\"ba\"\n") 22
  --     " a ".strip()
  pub strip : Writes (method (e.Text (codes " a ")) (codes "strip") []) (codes "\"a\"\n") 15
  --     "xax".lstrip("x")
  pub lstrip : Writes (method (e.Text (codes "xax")) (codes "lstrip") (e.Text (codes "x") ∷ [])) (codes "\"ax\"\n") 19
  --     "xax".rstrip("x")
  pub rstrip : Writes (method (e.Text (codes "xax")) (codes "rstrip") (e.Text (codes "x") ∷ [])) (codes "\"xa\"\n") 19
  --     "abc".startswith("ab")
  pub startswith : Writes (method (e.Text (codes "abc")) (codes "startswith") (e.Text (codes "ab") ∷ [])) (codes "True\n") 17
  --     "abc".endswith("bc")
  pub endswith : Writes (method (e.Text (codes "abc")) (codes "endswith") (e.Text (codes "bc") ∷ [])) (codes "True\n") 17
