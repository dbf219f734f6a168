-- Built-in functions: what these cells write and how many steps they take, by the definitions.
use Rattle.std.specs.Prelude.{[], ◌∷◌, false, codes}
use Rattle.star_syntax.specs.declared.expression.Expr.TheVariants as e
use Rattle.star_syntax.specs.declared.expression.Suffix.TheVariants as suffix
use Rattle.star_syntax.specs.declared.operator.UnaryOp.TheVariants as sign
use Rattle.star_meaning.specs.Trees.{Writes, called, given_named, int, name, named}

pub record BuiltinFunctions : Type 0 where
  --     abs(-3)
  pub call_abs : Writes (called (name (codes "abs")) (e.Signed (sign.Minus ∷ []) (int 3) ∷ [])) (codes "3\n") 8
  --     all([1, 0])
  pub call_all : Writes (called (name (codes "all")) (e.List (int 1 ∷ int 0 ∷ []) false ∷ [])) (codes "False\n") 15
  --     any([0, 1])
  pub call_any : Writes (called (name (codes "any")) (e.List (int 0 ∷ int 1 ∷ []) false ∷ [])) (codes "True\n") 14
  --     bool("")
  pub call_bool : Writes (called (name (codes "bool")) (e.Text (codes "") ∷ [])) (codes "False\n") 11
  --     dict([("a", 1)])
  pub call_dict : Writes (called (name (codes "dict")) (e.List (e.Tuple (e.Text (codes "a") ∷ int 1 ∷ []) false ∷ []) false ∷ [])) (codes "{\"a\": 1}\n") 27
  --     enumerate(["a"], 5)
  pub call_enumerate : Writes (called (name (codes "enumerate")) (e.List (e.Text (codes "a") ∷ []) false ∷ int 5 ∷ [])) (codes "[(5, \"a\")]\n") 23
  --     int("-12")
  pub call_int : Writes (called (name (codes "int")) (e.Text (codes "-12") ∷ [])) (codes "-12\n") 15
  --     len("abc")
  pub call_len : Writes (called (name (codes "len")) (e.Text (codes "abc") ∷ [])) (codes "3\n") 10
  --     list((1, 2))
  pub call_list : Writes (called (name (codes "list")) (e.Tuple (int 1 ∷ int 2 ∷ []) false ∷ [])) (codes "[1, 2]\n") 18
  --     max(3, 5, 4)
  pub call_max : Writes (called (name (codes "max")) (int 3 ∷ int 5 ∷ int 4 ∷ [])) (codes "5\n") 12
  --     min(["b", "a"])
  pub call_min : Writes (called (name (codes "min")) (e.List (e.Text (codes "b") ∷ e.Text (codes "a") ∷ []) false ∷ [])) (codes "\"a\"\n") 18
  --     print("a", 1, sep="-")
  pub call_print : Writes (e.Primary (name (codes "print")) (suffix.Call (given_named (e.Text (codes "a") ∷ int 1 ∷ []) (named (codes "sep") (e.Text (codes "-")) ∷ [])) ∷ [])) (codes "a-1\n") 13
  --     range(2, 5)
  pub call_range : Writes (called (name (codes "range")) (int 2 ∷ int 5 ∷ [])) (codes "range(2, 5)\n") 18
  --     repr("a")
  pub call_repr : Writes (called (name (codes "repr")) (e.Text (codes "a") ∷ [])) (codes "\"\\\"a\\\"\"\n") 20
  --     reversed([1, 2])
  pub call_reversed : Writes (called (name (codes "reversed")) (e.List (int 1 ∷ int 2 ∷ []) false ∷ [])) (codes "[2, 1]\n") 16
  --     sorted([2, 1], reverse=True)
  pub call_sorted_down : Writes (e.Primary (name (codes "sorted")) (suffix.Call (given_named (e.List (int 2 ∷ int 1 ∷ []) false ∷ []) (named (codes "reverse") e.True ∷ [])) ∷ [])) (codes "[2, 1]\n") 17
  --     sorted(["b", "a"])
  pub call_sorted_texts : Writes (called (name (codes "sorted")) (e.List (e.Text (codes "b") ∷ e.Text (codes "a") ∷ []) false ∷ [])) (codes "[\"a\", \"b\"]\n") 24
  --     str(12)
  pub call_str : Writes (called (name (codes "str")) (int 12 ∷ [])) (codes "\"12\"\n") 14
  --     tuple([1])
  pub call_tuple : Writes (called (name (codes "tuple")) (e.List (int 1 ∷ []) false ∷ [])) (codes "(1,)\n") 13
  --     type([])
  pub call_type : Writes (called (name (codes "type")) (e.List [] false ∷ [])) (codes "\"list\"\n") 16
  --     zip([1, 2], [3])
  pub call_zip : Writes (called (name (codes "zip")) (e.List (int 1 ∷ int 2 ∷ []) false ∷ e.List (int 3 ∷ []) false ∷ [])) (codes "[(1, 3)]\n") 21
