use Rattle.std.proofs.Common.{List, ℕ, ◌++◌, ap, ◌∙◌}
use Rattle.snapshot_codec.specs.Writing.{bytes_in}
use Rattle.snapshot_codec.proofs.Agreeing.{written}
use Rattle.snapshot_codec.proofs.encoding.encode.Goals as goal

pub returns : goal.returns
returns c =
    written c.args.machine.now c.objects-kept.ensures.kept c.in_ok-numbers.numbers.order.keys c.in_ok-numbers.ensures c.put_state.new.out.items
    (c.in_ok-put_state.ensures ∙ ap (λ (front : List ℕ). front ++ bytes_in c.args.machine.now c.in_ok-numbers.numbers.order.keys) c.new-out.ensures.items)
