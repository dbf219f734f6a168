use Rattle.std.proofs.Common.{List, ℕ, ◌++◌, ap, ◌∙◌}
use Rattle.star_meaning.specs.Snapshot.{counted, id_bytes}
use Rattle.snapshot_codec.proofs.Encoded.{whole_state}
use Rattle.snapshot_codec.proofs.encoding.put_state.Goals as goal

pub returns : goal.returns
returns c =
    whole_state c.args.machine.now c.args.numbers.now.order.keys c.args.out.now.items c.put_head.new.out.items c.put_nodes.new.out.items c.put_globals.new.out.items c.put_objects.new.out.items c.in_ok-put_head.ensures
    (c.in_ok-put_nodes.ensures ∙ ap (λ (ran : List ℕ). c.put_head.new.out.items ++ counted id_bytes ran) c.ran-ran.ensures.value) c.in_ok-put_globals.ensures c.in_ok-put_objects.ensures
