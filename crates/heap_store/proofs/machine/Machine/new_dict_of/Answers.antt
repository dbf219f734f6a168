use Rattle.heap_store.proofs.Kept.{kept_new_dict}
use Rattle.heap_store.proofs.machine.Machine.new_dict_of.Goals as goal

pub invariant_of-self-2 : goal.invariant_of-self-2
invariant_of-self-2 c =
    rw (c.in_ok-push.ensures.items, c.dict.ensures, c.in_ok-pairs.ensures.value)
    (kept_new_dict _ c.args.pairs c.self.invariant c.boxed.ensures.distinct (rw (← c.self.view_is) at c.requires.fit) (rw (← c.self.view_is) at c.requires.room))
