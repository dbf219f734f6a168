-- Expressions are read exactly, if the depth is enough.
use Rattle.std.proofs.Common.{ℕ, zero, suc, ◌+◌, ◌*◌, ◌<◌, length, refl, arith}
use Rattle.star_syntax.specs.declared.expression.ChainLevel.TheVariants as chain
use Rattle.star_parser.specs.declared.level.Level.{Level}
use Rattle.star_parser.specs.declared.level.Level.TheVariants as level
use Rattle.star_parser.specs.Reading.{Input}
use Rattle.star_parser.specs.Readers.{expr}
use Rattle.star_parser.specs.Ends.{Ends, level_rank}
use Rattle.star_parser.proofs.Exact.{Exact}
use Rattle.star_parser.proofs.Rules.{IsExpr}
use Rattle.star_parser.proofs.Chains.{chained_exact}
use Rattle.star_parser.proofs.Operators.{compare_exact}
use Rattle.star_parser.proofs.Conditionals.{test_exact}
use Rattle.star_parser.proofs.Prefixes.{unary_exact, negated_exact}
use Rattle.star_parser.proofs.Suffixes.{primary_exact}
use Rattle.star_parser.proofs.Atoms.{atom_exact}

-- Where the depth is enough for the tokens, an expression of the level that is read is the one that stands there, and the
-- place that is refused is the first at which none goes on. One clause for each level.
pub expr_exact : (depth : ℕ) (l : Level) (ts : Input) → 12 * length ts + 11 < depth + level_rank l
    → Exact (IsExpr (level_rank l)) (Ends (level_rank l)) ts (expr depth l ts)
unfolding expr
expr_exact zero level.Test ts enough = absurd (omega arith)
expr_exact zero level.Or ts enough = absurd (omega arith)
expr_exact zero level.And ts enough = absurd (omega arith)
expr_exact zero level.Not ts enough = absurd (omega arith)
expr_exact zero level.Compare ts enough = absurd (omega arith)
expr_exact zero level.BitOr ts enough = absurd (omega arith)
expr_exact zero level.BitXor ts enough = absurd (omega arith)
expr_exact zero level.BitAnd ts enough = absurd (omega arith)
expr_exact zero level.Sum ts enough = absurd (omega arith)
expr_exact zero level.Product ts enough = absurd (omega arith)
expr_exact zero level.Unary ts enough = absurd (omega arith)
expr_exact zero level.Primary ts enough = absurd (omega arith)
expr_exact (suc n) level.Test ts enough = test_exact (expr n) (length ts) (λ ts' few. expr_exact n level.Or ts' (omega arith)) ts (omega arith)
expr_exact (suc n) level.Or ts enough = chained_exact (expr n) (length ts) chain.Or level.And refl (λ ts' few. expr_exact n level.And ts' (omega arith)) ts (omega arith)
expr_exact (suc n) level.And ts enough = chained_exact (expr n) (length ts) chain.And level.Not refl (λ ts' few. expr_exact n level.Not ts' (omega arith)) ts (omega arith)
expr_exact (suc n) level.Not ts enough = negated_exact (expr n) (length ts) (λ ts' few. expr_exact n level.Compare ts' (omega arith)) ts (omega arith)
expr_exact (suc n) level.Compare ts enough = compare_exact (expr n) (length ts) (λ ts' few. expr_exact n level.BitOr ts' (omega arith)) ts (omega arith)
expr_exact (suc n) level.BitOr ts enough = chained_exact (expr n) (length ts) chain.BitOr level.BitXor refl (λ ts' few. expr_exact n level.BitXor ts' (omega arith)) ts (omega arith)
expr_exact (suc n) level.BitXor ts enough = chained_exact (expr n) (length ts) chain.BitXor level.BitAnd refl (λ ts' few. expr_exact n level.BitAnd ts' (omega arith)) ts (omega arith)
expr_exact (suc n) level.BitAnd ts enough = chained_exact (expr n) (length ts) chain.BitAnd level.Sum refl (λ ts' few. expr_exact n level.Sum ts' (omega arith)) ts (omega arith)
expr_exact (suc n) level.Sum ts enough = chained_exact (expr n) (length ts) chain.Sum level.Product refl (λ ts' few. expr_exact n level.Product ts' (omega arith)) ts (omega arith)
expr_exact (suc n) level.Product ts enough = chained_exact (expr n) (length ts) chain.Product level.Unary refl (λ ts' few. expr_exact n level.Unary ts' (omega arith)) ts (omega arith)
expr_exact (suc n) level.Unary ts enough = unary_exact (expr n) (length ts) (λ ts' few. expr_exact n level.Primary ts' (omega arith)) ts (omega arith)
expr_exact (suc n) level.Primary ts enough =
    primary_exact (expr n) (length ts) (λ k ts' few. expr_exact n k ts' (omega arith)) (atom_exact (expr n) (length ts) (λ k ts' few. expr_exact n k ts' (omega arith))) ts (omega arith)
