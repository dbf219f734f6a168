use Rattle.std.proofs.Common.{◌≡◌, ◌≤◌, ◌+◌, drop, take, map}
use Rattle.plan_type.specs.Prices.{prices_of}
use Rattle.replayer.specs.Nodes.{program_of}
use Rattle.replayer.specs.Machines.{steps_in_all}
use Rattle.replayer.specs.Listening.{TellsAll}
use Rattle.replayer.proofs.GoingLemmas.{Going}
use Rattle.replayer.proofs.carrying.carry_out.Given as goal

abbrev pub invariant-loop-operation : goal.invariant-loop-operation
invariant-loop-operation g l = record {
  going : Going l.forest l.costs l.allowance l.budget.block l.budget.most (prices_of l.budget) l.operations (g.S.Store.stock l.fn.store).told l.operation-index (g.K.Kernel.live l.kernel) (g.S.Store.stock l.store) l.texts;
  steps : g.K.Kernel.steps l.kernel + steps_in_all (drop l.operation-index l.operations) ≡ g.K.Kernel.steps l.fn.kernel + steps_in_all l.operations;
  loaded : g.K.Kernel.loaded l.kernel ≡ program_of l.forest;
  later : g.K.Kernel.faults l.fn.kernel ≤ g.K.Kernel.faults l.kernel;
  store_later : g.S.Store.faults l.fn.store ≤ g.S.Store.faults l.store;
  heard : TellsAll (take l.operation-index l.operations)
      (map (λ b. record { heard = (goal.Tap-dyn g (b.vtable, b.value)).heard b.value; faults = (goal.Tap-dyn g (b.vtable, b.value)).faults b.value; wants = (goal.Tap-dyn g (b.vtable, b.value)).wants b.value }) l.fn.taps.live.items)
      (map (λ b. record { heard = (goal.Tap-dyn g (b.vtable, b.value)).heard b.value; faults = (goal.Tap-dyn g (b.vtable, b.value)).faults b.value; wants = (goal.Tap-dyn g (b.vtable, b.value)).wants b.value }) l.fn.taps.retired.items)
      (map (λ b. record { heard = (goal.Tap-dyn g (b.vtable, b.value)).heard b.value; faults = (goal.Tap-dyn g (b.vtable, b.value)).faults b.value; wants = (goal.Tap-dyn g (b.vtable, b.value)).wants b.value }) l.taps.live.items)
      (map (λ b. record { heard = (goal.Tap-dyn g (b.vtable, b.value)).heard b.value; faults = (goal.Tap-dyn g (b.vtable, b.value)).faults b.value; wants = (goal.Tap-dyn g (b.vtable, b.value)).wants b.value }) l.taps.retired.items);
}
