use Rattle.std.proofs.Common.{List, ℕ, ◌-◌, ◌^◌, length, ap, ◌∙◌, arith}
use Rattle.star_meaning.specs.Snapshot.{counted, id_bytes}
use Rattle.snapshot_codec.proofs.Lengths.{state_long}
use Rattle.snapshot_codec.proofs.measures.state_size.Goals as goal

pub nodes_size-nodes-requires : goal.nodes_size-nodes-requires
nodes_size-nodes-requires c = let few = c.ran-ran.ensures.kept.few in let same = ap (length {A = ℕ}) c.ran-ran.ensures.value in omega (arith, few, same)

pub returns : goal.returns
returns c =
    state_long c.args.machine.now c.args.numbers.now.order.keys c.nodes_size-nodes.result c.saturating_add-front.result c.globals_size-globals.result c.saturating_add-more.result c.objects_size-objects.result c.saturating_add.result (2 ^ 64 - 1)
    (c.nodes_size-nodes.ensures ∙ ap (λ (ran : List ℕ). length (counted id_bytes ran)) c.ran-ran.ensures.value) c.saturating_add-front.ensures c.globals_size-globals.ensures c.saturating_add-more.ensures c.objects_size-objects.ensures
    c.saturating_add.ensures
