-- Rows of one node.
use Rattle.std.proofs.Common.{◌≡◌, ℕ, true, false, List, Option, Some, None, refl, sym, ap, ◌∙◌, subst}
use Rattle.std.proofs.lemmas.Bool.{false≢true}
use Rattle.star_meaning.specs.declared.ran.End.{End}
use Rattle.star_meaning.specs.declared.ran.End.TheVariants as end
use Rattle.star_meaning.specs.declared.ran.Ran.{Ran}
use Rattle.star_meaning.specs.Validity.{MachineState}
use Rattle.kernel_api.specs.Live.{IsSizeOf}
use Rattle.plan_type.specs.declared.costs.Costs.{Costs}
use Rattle.plan_type.specs.declared.row.Row.{Row}
use Rattle.plan_type.specs.declared.row.Reach.{Reach}
use Rattle.plan_type.specs.declared.row.Reach.TheVariants.{Done, Failed, Unreached}
use Rattle.plan_type.specs.Costs.{IsReached, is_reached_in, row_of, steps_in, steps_of}
use Rattle.node_rows.specs.Rows.{HasEnd, HasResult}
use Rattle.replayer.specs.Differences.{AreSame}

-- what is said of a row is said of one that says the same
end_same : (e : End) (s : MachineState) (a b : Row) → AreSame a b → HasEnd e s b → HasEnd e s a
end_same end.Done s a b same h = (same.end ∙ h.0, subst (IsSizeOf s) (sym same.bytes) h.1)
end_same (end.Failed failure line) s a b same h = (same.end ∙ h.0, same.bytes ∙ h.1)

pub result_same : (number : ℕ) (r : Ran) (s : MachineState) (a b : Row) → AreSame a b → HasResult number (Some r) s b → HasResult number (Some r) s a
result_same number r s a b same h = (end_same r.end s a b same h.0, same.steps ∙ h.1, same.text ∙ h.2)

-- the size of the snapshot after a cell that ran to its end
done_not_failed : (e : Reach) → e ≡ Failed → e ≡ Done → ⊥
done_not_failed e is not = let never : Failed ≡ Done = sym is ∙ not in cc

size_by : (e : End) (s : MachineState) (row : Row) → HasEnd e s row → row.end ≡ Done → IsSizeOf s row.bytes
size_by end.Done s row h done = h.1
size_by (end.Failed failure line) s row h done = absurd (done_not_failed row.end h.0 done)

pub size_of_result : (number : ℕ) (r : Ran) (s : MachineState) (row : Row) → HasResult number (Some r) s row → row.end ≡ Done → IsSizeOf s row.bytes
size_of_result number r s row h done = size_by r.end s row h.0 done

-- ---- the row of a reached node

reached_by : (o : Option Row) → is_reached_in o ≡ true → (row : Row) × (o ≡ Some row)
reached_by None h = absurd (false≢true h)
reached_by (Some row) h = (row, refl)

pub row_there : (costs : Costs) (v : ℕ) → IsReached costs v → (row : Row) × (row_of costs v ≡ Some row)
row_there costs v reached = reached_by (row_of costs v) reached

pub steps_there : (costs : Costs) (v : ℕ) (row : Row) → row_of costs v ≡ Some row → steps_of costs v ≡ row.steps
steps_there costs v row is = ap steps_in is
