use Rattle.std.proofs.Common.{◌-◌, ◌^◌}
use Rattle.snapshot_codec.proofs.Lengths.{only_size}
use Rattle.snapshot_codec.proofs.measures.size.Goals as goal

pub returns : goal.returns
returns c = λ bytes b.
    only_size c.args.machine.now c.objects-kept.ensures.kept c.in_ok-numbers.numbers.order.keys c.in_ok-numbers.ensures bytes c.state_size-size.result (2 ^ 64 - 1) b c.state_size-size.ensures
