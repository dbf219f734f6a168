use Rattle.std.proofs.Common.{◌≤◌, ◌+◌, ◌-◌, map, length, vec_len, vec_capacity}
use Rattle.tap_list.proofs.Moves.{Telling}
use Rattle.tap_list.proofs.taps.tell_all.Given as goal

abbrev pub invariant-loop : goal.invariant-loop
invariant-loop g l = record {
  within : l.counter ≤ l.end;
  some : l.end - l.counter ≤ length l.live.items;
  room : vec_len l.retired + vec_len l.live ≤ vec_capacity l.retired;
  telling : Telling l.fn.event
      (map (λ b. record { heard = (goal.Tap-dyn g (b.vtable, b.value)).heard b.value; faults = (goal.Tap-dyn g (b.vtable, b.value)).faults b.value; wants = (goal.Tap-dyn g (b.vtable, b.value)).wants b.value }) l.fn.live.items)
      (map (λ b. record { heard = (goal.Tap-dyn g (b.vtable, b.value)).heard b.value; faults = (goal.Tap-dyn g (b.vtable, b.value)).faults b.value; wants = (goal.Tap-dyn g (b.vtable, b.value)).wants b.value }) l.fn.retired.items)
      (map (λ b. record { heard = (goal.Tap-dyn g (b.vtable, b.value)).heard b.value; faults = (goal.Tap-dyn g (b.vtable, b.value)).faults b.value; wants = (goal.Tap-dyn g (b.vtable, b.value)).wants b.value }) l.live.items)
      (map (λ b. record { heard = (goal.Tap-dyn g (b.vtable, b.value)).heard b.value; faults = (goal.Tap-dyn g (b.vtable, b.value)).faults b.value; wants = (goal.Tap-dyn g (b.vtable, b.value)).wants b.value }) l.retired.items)
      (l.end - l.counter);
}
