use Rattle.std.proofs.Common.{◌≡◌, ◌+◌, Some, sym, ap, ◌∙◌, subst, refl}
use Rattle.std.specs.Prelude.{IsSome, is_some}
use Rattle.star_syntax.specs.Cells.{numbered}
use Rattle.replayer.proofs.ComputeLemmas.{differs_so, is_live, ran_so, steps_so}
use Rattle.replayer.proofs.TreeLemmas.{cell_there, inputs_are}
use Rattle.replayer.proofs.steps.compute.Goals as goal

pub run_node-requires-clause-ready : goal.run_node-requires-clause-ready
run_node-requires-clause-ready g c = ap is_some c.requires.live.1

pub run_node-requires-clause-node : goal.run_node-requires-clause-node
run_node-requires-clause-node g c =
    subst (λ p. IsSome (numbered p.cells c.args.node)) (sym c.requires.loaded) (cell_there c.args.forest.now c.args.node c.requires.node)

pub run_node-requires-clause-few : goal.run_node-requires-clause-few
run_node-requires-clause-few g c = is_live (g.K.Kernel.live c.args.kernel.now) c.requires.live

pub returns-in-None-clause-ran : goal.returns-in-None-clause-ran
returns-in-None-clause-ran g c =
    ran_so c.args.forest.now c.args.allowance c.args.node (g.K.Kernel.loaded c.args.kernel.now) c.inputs-inputs.result.now c.parent-parent.result (c.depth.result + 1) (g.K.Kernel.live c.args.kernel.now) c.in-Ok.made
    c.requires.loaded (inputs_are c.args.forest.now c.args.node c.inputs-inputs.result.now c.inputs-inputs.ensures) (ap (λ n. n + 1) c.depth.ensures) c.in-Ok.ensures.measured c.args.costs.now _ c.in-Ok.ensures.live c.in-None.ensures

pub returns-in-None-clause-steps : goal.returns-in-None-clause-steps
returns-in-None-clause-steps g c =
    steps_so c.args.costs.now c.args.node (g.K.Kernel.steps c.args.kernel.now) _ c.in-Ok.made.row c.requires.reached c.in-None.ensures c.in-Ok.ensures.steps

pub returns-in-Some-clause-err : goal.returns-in-Some-clause-err
returns-in-Some-clause-err g c = (
  refl,
  differs_so c.args.forest.now c.args.allowance c.args.node (g.K.Kernel.loaded c.args.kernel.now) c.inputs-inputs.result.now c.parent-parent.result (c.depth.result + 1) (g.K.Kernel.live c.args.kernel.now) c.in-Ok.made
      c.requires.loaded (inputs_are c.args.forest.now c.args.node c.inputs-inputs.result.now c.inputs-inputs.ensures) (ap (λ n. n + 1) c.depth.ensures) c.in-Ok.ensures.measured c.args.costs.now c.in-Some.difference c.in-Some.ensures,
)
