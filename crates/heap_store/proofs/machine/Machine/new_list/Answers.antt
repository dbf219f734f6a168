use Rattle.std.proofs.Common.{refl}
use Rattle.star_meaning.specs.State.{AList}
use Rattle.heap_store.proofs.Kept.{kept_new}
use Rattle.heap_store.proofs.machine.Machine.new_list.Goals as goal

pub invariant_of-self-2 : goal.invariant_of-self-2
invariant_of-self-2 c =
    rw (c.in_ok-push.ensures.items, c.list.ensures, c.in_ok-items.ensures)
    (kept_new _ (AList c.args.items) c.self.invariant refl refl (rw (← c.self.view_is) at c.requires.fit) (rw (← c.self.view_is) at c.requires.room))
