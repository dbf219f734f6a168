use Rattle.std.proofs.Common.{◌≡◌, Some, slice_get}
use Rattle.exec_tree.specs.declared.checked.Checked.{Checked}
use Rattle.exec_tree.specs.Prefixes.{prefixes}
use Rattle.audit_run.proofs.WayLemmas.{Filled}
use Rattle.audit_run.proofs.ways.nodes_of.Given as goal

abbrev pub invariant-cells : goal.invariant-cells
invariant-cells l = (version : Checked) → slice_get l.versions l.place ≡ Some version → Filled (prefixes l.versions) version l.left l.node l.nodes.items

abbrev pub decreases-cells : goal.decreases-cells
decreases-cells l = l.left
