use Rattle.std.proofs.Common.{◌≡◌, ◌-◌}
use Rattle.std.specs.List.{filter, range_with_len}
use Rattle.plan_type.specs.Costs.{is_child_in, row_of}
use Rattle.plan_type.proofs.costs.Costs.children.Given as goal

abbrev pub invariant-loop-number : goal.invariant-loop-number
invariant-loop-number l = l.children.items ≡ filter (λ v. is_child_in l.of (row_of l.self v)) (range_with_len 1 (l.number - 1))
