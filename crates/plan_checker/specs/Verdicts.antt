-- What a plan text's verdict says, and when each fault is due.
use Rattle.std.specs.Prelude.{ℕ, ◌≡◌, List, [], Some, None, Option}
use Rattle.plan_type.specs.declared.budget.Budget.{Budget}
use Rattle.plan_type.specs.declared.costs.Costs.{Costs}
use Rattle.plan_type.specs.Costs.{blocks_of}
use Rattle.plan_type.specs.Plan.{Serves, peak}
use Rattle.plan_type.specs.Prices.{cost}
use Rattle.plan_type.specs.PlanText.{text_of}
use Rattle.plan_checker.specs.declared.line.Line.{Line}
use Rattle.plan_checker.specs.declared.verdict.Verdict.{Verdict}
use Rattle.plan_checker.specs.declared.fault.CheckFault.{CheckFault}
use Rattle.plan_checker.specs.declared.fault.CheckFault.TheVariants.{NotPlan, WrongChild, OverBudget, NoMemory}
use Rattle.plan_checker.specs.Lines.{IsRead, IsFaultyLine}
use Rattle.plan_checker.specs.Refusals.{wrong_child, first_over}

-- the plan is of the class and fits, the text is its text, and cost and peak are its own
pub record IsVerdict (costs : Costs) (budget : Budget) (text : List ℕ) (v : Verdict) : Type 0 where
  pub serves : Serves costs budget v.plan
  pub is : text ≡ text_of v.plan
  pub cost : v.cost ≡ cost costs budget v.plan
  pub peak : v.peak ≡ peak costs budget v.plan

unfoldable pub over_budget : Costs → Budget → List Line → Option (ℕ × ℕ)
over_budget costs budget lines = first_over (blocks_of costs budget.block) budget.most [] lines

-- the text is read, and nothing refuses its lines
pub record Clean (costs : Costs) (budget : Budget) (text : List ℕ) : Type 0 where
  pub lines : List Line
  pub read : IsRead text lines
  pub right : wrong_child costs lines ≡ None
  pub fits : over_budget costs budget lines ≡ None

-- faults in their order; want of memory may come at any text
abbrev pub IsDue : Costs → Budget → List ℕ → CheckFault → Type 0
IsDue costs budget text (NotPlan line) = IsFaultyLine text line
IsDue costs budget text (WrongChild node) = (lines : List Line) × IsRead text lines × (wrong_child costs lines ≡ Some node)
IsDue costs budget text (OverBudget node blocks) =
    (lines : List Line) × IsRead text lines × (wrong_child costs lines ≡ None) × (over_budget costs budget lines ≡ Some (node, blocks))
IsDue costs budget text NoMemory = Unit {0}
