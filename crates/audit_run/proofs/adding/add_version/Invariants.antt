use Rattle.std.proofs.Common.{◌≡◌, Some, slice_get}
use Rattle.std.specs.List.{AllZip}
use Rattle.exec_tree.specs.declared.checked.Checked.{Checked}
use Rattle.exec_tree.specs.Prefixes.{firsts, prefixes}
use Rattle.audit_run.specs.Rows.{IsRow}
use Rattle.audit_run.specs.Visits.{same_node}
use Rattle.audit_run.proofs.AddLemmas.{done_at}
use Rattle.audit_run.proofs.adding.add_version.Given as goal

abbrev pub invariant-loop-number : goal.invariant-loop-number
invariant-loop-number g l = (version : Checked) → slice_get l.versions l.place ≡ Some version
    → AllZip (IsRow (prefixes l.versions)) (firsts same_node (done_at l.versions l.allowance l.place version l.number)) l.rows.items
