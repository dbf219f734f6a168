use Rattle.std.proofs.Common.{◌+◌, ◌-◌, ◌^◌, length, arith}
use Rattle.std.proofs.lemmas.Map.Iter.{rest_all, rest_more}
use Rattle.std.specs.List.{flat_map}
use Rattle.std.specs.Map.Iter.{deref_pair}
use Rattle.star_meaning.specs.Snapshot.{global_bytes}
use Rattle.snapshot_codec.proofs.Lengths.{size_end, size_rest}
use Rattle.snapshot_codec.proofs.measures.globals_size.Goals as goal

pub loop-name-preserved : goal.loop-name-preserved
loop-name-preserved c = (
  let sum = c.saturating_add-size.ensures in omega (arith, sum),
  size_rest global_bytes c.loop-name.size c.global_size-global.result c.saturating_add-size.result (8 + length (flat_map global_bytes c.args.machine.now.state.globals)) (2 ^ 64 - 1) (c.in-Some.name.now, c.in-Some.value.now) c.loop-name.name-iterator c.next.new.self
      (rest_more deref_pair c.loop-name.name-iterator c.next.new.self c.next.result (c.in-Some.name, c.in-Some.value) c.in-Some.is c.next.ensures.steps) c.global_size-global.ensures c.saturating_add-size.ensures c.loop-name.invariant.1,
)

pub returns : goal.returns
returns c =
    size_end global_bytes c.loop-name.size (2 ^ 64 - 1) c.loop-name.name-iterator c.args.machine.now.state.globals (rest_all deref_pair c.loop-name.name-iterator c.next.new.self c.next.result c.in-None.is c.next.ensures.steps)
    c.loop-name.invariant.0 c.loop-name.invariant.1
