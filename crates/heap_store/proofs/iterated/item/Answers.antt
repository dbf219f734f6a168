use Rattle.heap_store.proofs.GivenItems.{gives_range, within_range}
use Rattle.heap_store.proofs.iterated.item.Goals as goal

pub returns-in-Range-clause-value : goal.returns-in-Range-clause-value
returns-in-Range-clause-value c items is =
    let s = c.args.machine.now.state in
    gives_range s items c.args.place c.in-Range.range c.integer_at.result (rw (c.in-Range.is) at is) c.integer_at.ensures (within_range s c.args.of.now c.args.place c.requires.within c.in-Range.range c.in-Range.is)
