use Rattle.std.proofs.Common.{◌≡◌, ◌≤◌}
use Rattle.chex_top.proofs.AloneLemmas.{Running, program_of}
use Rattle.chex_top.proofs.alone.run_alone.Given as goal

abbrev pub invariant-loop-place : goal.invariant-loop-place
invariant-loop-place g l = record {
  loaded : g.K.Kernel.loaded l.kernel ≡ program_of l.fn.cells l.inputs l.allowance;
  running : Running l.fn.cells l.inputs l.allowance (g.K.Kernel.steps l.fn.kernel) (g.K.Kernel.steps l.kernel) l.place l.text (g.K.Kernel.live l.kernel);
  later : g.K.Kernel.faults l.fn.kernel ≤ g.K.Kernel.faults l.kernel;
}
