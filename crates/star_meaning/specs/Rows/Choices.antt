-- Conditionals, `and`, `or`, `not`: what these cells write and how many steps they take, by the definitions.
use Rattle.std.specs.Prelude.{[], ◌∷◌, false, codes}
use Rattle.star_syntax.specs.declared.expression.Expr.TheVariants as e
use Rattle.star_syntax.specs.declared.expression.ChainLevel.TheVariants as level
use Rattle.star_syntax.specs.declared.expression.ChainOp.TheVariants as chain
use Rattle.star_meaning.specs.Trees.{Writes, arm, int, link}

pub record Choices : Type 0 where
  --     1 if [] else 2
  pub conditional : Writes (e.Conditional (arm (int 1) (e.List [] false) ∷ []) (int 2)) (codes "2\n") 7
  --     1 if 0 else 2 if 3 else 4
  pub second_arm : Writes (e.Conditional (arm (int 1) (int 0) ∷ arm (int 2) (int 3) ∷ []) (int 4)) (codes "2\n") 9
  --     1 if 0 else 2 if 0 else 3 if 0 else 4
  pub no_arm : Writes (e.Conditional (arm (int 1) (int 0) ∷ arm (int 2) (int 0) ∷ arm (int 3) (int 0) ∷ []) (int 4)) (codes "4\n") 11
  --     0 or "x"
  pub or_second : Writes (e.Chain level.Or (int 0) (link chain.Or (e.Text (codes "x")) ∷ [])) (codes "\"x\"\n") 10
  --     0 and 1
  pub and_first : Writes (e.Chain level.And (int 0) (link chain.And (int 1) ∷ [])) (codes "0\n") 5
  --     1 and 2 and 3
  pub and_third : Writes (e.Chain level.And (int 1) (link chain.And (int 2) ∷ link chain.And (int 3) ∷ [])) (codes "3\n") 9
  --     not not []
  pub not_twice : Writes (e.Not 2 (e.List [] false)) (codes "False\n") 11
