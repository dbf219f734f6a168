-- No row of an audit has more steps than are allowed.
use Rattle.std.proofs.Common.{◌≡◌, ℕ, ◌<◌, ◌≤◌, List, length, get_or, Option, Some, None, slice_get, refl, sym, ap, ◌∙◌, subst, arith}
use Rattle.std.specs.List.{All}
use Rattle.std.proofs.lemmas.List.Elements.{All-from_get_or}
use Rattle.std.proofs.lemmas.Option.{slice_get-get_or}
use Rattle.star_meaning.specs.declared.ran.Ran.{Ran}
use Rattle.star_meaning.specs.Cells.{runs}
use Rattle.star_meaning.specs.Validity.{MachineState}
use Rattle.plan_type.specs.declared.costs.Costs.{Costs}
use Rattle.plan_type.specs.declared.row.Row.{Row}
use Rattle.exec_tree.specs.declared.checked.Checked.{Checked}
use Rattle.exec_tree.specs.Prefixes.{prefixes}
use Rattle.node_rows.specs.Rows.{HasResult}
use Rattle.audit_run.specs.Rows.{AreRows, IsRow, no_row}
use Rattle.audit_run.specs.Sources.{HaveTheirSources}
use Rattle.audit_run.specs.Visits.{Visit, nodes_of, program_of}
use Rattle.audit_run.proofs.AddLemmas.{rows_long}
use Rattle.audit_run.proofs.RunLemmas.{steps_within}
use Rattle.shared_run.proofs.AloneLemmas.{here, result_is}
use Rattle.shared_run.proofs.RecordLemmas.{row_is}
use Rattle.shared_run.proofs.StateLemmas.{state}
use Rattle.shared_run.proofs.VisitLemmas.{IsVisit, visit, visit_of}

row_few : (number allowance : ℕ) (o : Option Ran) (m : MachineState) (row : Row) → HasResult number o m row → ((r : Ran) → o ≡ Some r → r.steps ≤ allowance) → row.steps ≤ allowance
row_few number allowance None m row h each = omega (arith, h.1)
row_few number allowance (Some r) m row h each = let own : r.steps ≤ allowance = each r refl in let same : row.steps ≡ r.steps = h.1 in omega (arith, same, own)

pub rows_within : (versions : List Checked) (allowance : ℕ) (costs : Costs) → AreRows versions allowance costs.rows → HaveTheirSources versions → 1 ≤ allowance
    → All (λ (row : Row). row.steps ≤ allowance) costs.rows
rows_within versions allowance costs rows_are sources least = All-from_get_or (λ (row : Row). row.steps ≤ allowance) costs.rows (no_row 0) each
  where
    taken : (x : Visit) → IsVisit versions allowance x → (r : Ran) → x.ran ≡ Some r → r.steps ≤ allowance
    taken x own r is =
        let run : slice_get (runs own.version.cells own.version.inputs allowance) own.spot ≡ Some r = sym (ap (λ (y : Visit). y.ran) own.is) ∙ is in
        let same : r ≡ here versions allowance sources own.version own.there own.spot = result_is versions allowance sources own.version own.there own.spot r own.within run in
        subst (λ (q : Ran). q.steps ≤ allowance) (sym same)
        (steps_within (program_of versions) own.version.inputs allowance (state versions allowance sources own.version own.there own.spot)
        (get_or (nodes_of (prefixes versions) own.version) own.spot 0) least)

    each : (i : ℕ) → i < length costs.rows → (get_or costs.rows i (no_row 0)).steps ≤ allowance
    each i less =
        let low : i < length (prefixes versions) = omega (arith, less, rows_long versions allowance costs.rows rows_are) in
        let x : Visit = visit versions allowance i in
        let row : Row = get_or costs.rows i (no_row 0) in
        let own : IsRow (prefixes versions) x row = row_is versions allowance costs rows_are i row (slice_get-get_or costs.rows i (no_row 0) less) in
        row_few x.number allowance x.ran x.state row own.result (taken x (visit_of versions allowance i low))
