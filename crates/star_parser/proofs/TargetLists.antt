-- Two ways to say that each is a target.
use Rattle.std.proofs.Common.{◌≡◌, List, [], ◌∷◌, map, refl, ap}
use Rattle.std.specs.Prelude.{◌&&◌}
use Rattle.star_syntax.specs.declared.expression.Expr.{Expr}
use Rattle.star_syntax.specs.Levels.{is_target, both}
use Rattle.star_parser.specs.StatementReaders.{are_targets}

pub are_targets_both : (xs : List Expr) → are_targets xs ≡ both (map is_target xs)
are_targets_both [] = refl
are_targets_both (x ∷ xs) = ap (λ b. is_target x && b) (are_targets_both xs)
