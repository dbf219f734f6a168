use Rattle.std.proofs.Common.{◌≡◌, ◌+◌, ◌*◌, ◌≤◌, take}
use Rattle.std.specs.List.{AllZip, flat_map}
use Rattle.exec_tree.specs.Prefixes.{firsts, prefixes}
use Rattle.audit_run.specs.Rows.{IsRow}
use Rattle.audit_run.specs.Visits.{program_of, same_node, steps_of_all, visits_of}
use Rattle.audit_run.proofs.auditing.audit.Given as goal

abbrev pub invariant-loop-place : goal.invariant-loop-place
invariant-loop-place g l = record {
  rows : AllZip (IsRow (prefixes l.versions)) (firsts same_node (flat_map (visits_of l.versions l.allowance) (take l.place l.versions))) l.rows.items;
  counted : g.K.Kernel.steps l.kernel ≡ g.K.Kernel.steps l.fn.kernel + steps_of_all (take l.place l.versions) l.allowance;
  few : g.K.Kernel.steps l.kernel ≤ g.K.Kernel.steps l.fn.kernel + l.place * 64000000;
  loaded : g.K.Kernel.loaded l.kernel ≡ program_of l.versions;
  later : g.K.Kernel.faults l.fn.kernel ≤ g.K.Kernel.faults l.kernel;
}
