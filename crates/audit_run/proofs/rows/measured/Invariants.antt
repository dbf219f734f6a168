use Rattle.std.proofs.Common.{◌≡◌, ◌≤◌, Some, slice_get}
use Rattle.exec_tree.specs.declared.checked.Checked.{Checked}
use Rattle.audit_run.proofs.MeasuringLemmas.{Measuring}
use Rattle.audit_run.proofs.rows.measured.Given as goal

abbrev pub invariant-loop-number : goal.invariant-loop-number
invariant-loop-number g l = record {
  rows : (version : Checked) → slice_get l.versions l.place ≡ Some version → Measuring l.versions l.allowance version l.number l.parent l.reached (g.K.Kernel.live l.kernel) (g.K.Kernel.steps l.fn.kernel) (g.K.Kernel.steps l.kernel) l.rows.items;
  loaded : g.K.Kernel.loaded l.kernel ≡ g.K.Kernel.loaded l.fn.kernel;
  later : g.K.Kernel.faults l.fn.kernel ≤ g.K.Kernel.faults l.kernel;
}
