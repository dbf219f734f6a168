-- What is written of a run of versions, in code points.
use Rattle.std.specs.Prelude.{ℕ, ◌&&◌, ◌==◌, if◌then◌else◌, List, ◌++◌, flat_map, length, map, zip, Option, Some, None}
use Rattle.chex_report.specs.declared.summaries.Numbers.{Numbers}
use Rattle.chex_report.specs.Headers.{header_of}
use Rattle.chex_report.specs.Summaries.{summary_of}
use Rattle.plan_type.specs.declared.budget.Budget.{Budget}
use Rattle.plan_type.specs.declared.costs.Costs.{Costs}
use Rattle.plan_type.specs.declared.plan.Plan.{Plan}
use Rattle.plan_type.specs.Plan.{peak, work}
use Rattle.plan_type.specs.Prices.{cost}
use Rattle.exec_tree.specs.declared.checked.Checked.{Checked}
use Rattle.audit_run.specs.Visits.{steps_of_all}
use Rattle.shared_run.specs.Numbers.{reached}

-- ---- texts

-- the headers of versions
abbrev pub headers_of : List Checked → List (List ℕ)
headers_of versions = map (λ version. header_of version.name) versions

-- a header, and the text behind it
abbrev pub headed : List ℕ × List ℕ → List ℕ
headed version = version.0 ++ version.1

-- each header, and behind it the text at its place
abbrev pub versions_text : List (List ℕ) → List (List ℕ) → List ℕ
versions_text headers texts = flat_map headed (zip headers texts)

-- what a run writes: the header and the text of each version in order, and then the summary
unfoldable pub run_text : List Checked → List (List ℕ) → Numbers → List ℕ
run_text versions texts numbers = versions_text (headers_of versions) texts ++ summary_of numbers

-- ---- numbers

-- the cost of a plan, where storing or restoring a snapshot has a price
abbrev pub cost_told : Costs → Budget → Plan → Option ℕ
cost_told costs budget plan = if budget.save == 0 && budget.load == 0 then None else Some (cost costs budget plan)

-- of so many versions, whose steps alone are so many in all, and of the plan that was carried out
unfoldable pub numbers_with : ℕ → Budget → ℕ → Costs → Plan → Numbers
numbers_with count budget alone costs plan = record {
  versions = count;
  nodes = reached costs;
  alone = alone;
  replayed = work costs plan;
  peak = peak costs budget plan;
  most = budget.most;
  block = budget.block;
  cost = cost_told costs budget plan;
}

-- of versions that may take so many steps for each cell
abbrev pub numbers_of : List Checked → Budget → ℕ → Costs → Plan → Numbers
numbers_of versions budget allowance costs plan = numbers_with (length versions) budget (steps_of_all versions allowance) costs plan
