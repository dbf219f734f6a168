-- What is known of a plan that is built from lines that nothing refuses.
use Rattle.std.proofs.Common.{◌≡◌, ◌∙◌, ℕ, zero, suc, ◌+◌, List, [], ◌∷◌, ◌++◌, take, drop, None, refl, sym, ap, subst, arith}
use Rattle.std.specs.List.{flat_map}
use Rattle.plan_type.specs.declared.budget.Budget.{Budget}
use Rattle.plan_type.specs.declared.costs.Costs.{Costs}
use Rattle.plan_type.specs.declared.plan.Plan.{Plan}
use Rattle.plan_type.specs.Costs.{blocks_of}
use Rattle.plan_type.specs.Plan.{Serves}
use Rattle.plan_type.specs.PlanText.{text_of}
use Rattle.plan_checker.specs.declared.line.Line.{Line}
use Rattle.plan_checker.specs.Lines.{AllFollow, IsRead, spelled, head}
use Rattle.plan_checker.specs.Refusals.{wrong_child}
use Rattle.plan_checker.specs.PlanLines.{lines_of, IsUnder}
use Rattle.plan_checker.specs.Verdicts.{over_budget}
use Rattle.plan_checker.proofs.Class.{class_top}
use Rattle.plan_checker.proofs.Fits.{fits_top, text_top}

all_taken : (before : ℕ) (lines : List Line) (n : ℕ) → AllFollow before lines → IsUnder 0 (drop n lines) → take n lines ≡ lines
all_taken before [] zero all under = refl
all_taken before [] (suc n) all under = refl
all_taken before (l ∷ ls) zero all under = absurd (let s = all.0.some in omega (arith, s, under))
all_taken before (l ∷ ls) (suc n) all under = ap (λ x. l ∷ x) (all_taken l.depth ls n all.1 under)

pub record Accepted (costs : Costs) (budget : Budget) (text : List ℕ) (p : Plan) : Type 0 where
  pub serves : Serves costs budget p
  pub is : text ≡ text_of p

pub accepted : (costs : Costs) (budget : Budget) (text : List ℕ) (lines table : List Line) (p : Plan) (n : ℕ) → IsRead text lines → table ≡ lines → wrong_child costs lines ≡ None → over_budget costs budget lines ≡ None
    → lines_of p (0 + 1) ≡ take n table → IsUnder 0 (drop n table) → Accepted costs budget text p
unfolding over_budget
accepted costs budget text lines table p n read same right fits is under =
    let whole : lines_of p 1 ≡ lines = is ∙ ap (take n) same ∙ all_taken 0 lines n read.follow (subst (λ l. IsUnder 0 (drop n l)) same under) in
    record {
      serves = record {
        plan = class_top costs p (subst (AllFollow 0) (sym whole) read.follow) (ap (wrong_child costs) whole ∙ right);
        fits = fits_top (blocks_of costs budget.block) budget.most p (ap (over_budget costs budget) whole ∙ fits);
      };
      is = read.is ∙ ap (λ l. head ++ flat_map spelled l) (sym whole) ∙ sym (text_top p);
    }
