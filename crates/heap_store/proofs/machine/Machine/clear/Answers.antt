use Rattle.std.proofs.Common.{refl, IsTrue, slice_get}
use Rattle.heap_store.proofs.Kept.{kept_cleared, cleared_is, is_clearable, Cleared, holds_of}
use Rattle.heap_store.proofs.machine.Machine.clear.Goals as goal

pub invariant_of-self : goal.invariant_of-self
invariant_of-self c =
    let objects = c.self.inside.objects.items in
    let id = c.id.inside.0 in
    let is : IsTrue (is_clearable (slice_get objects id)) = rw (← c.self.view_is, ← c.id.view_is) at c.requires in
    kept_cleared _ id c.clear.new.self (slice_get objects id) refl is
    (holds_of is_clearable refl (Cleared c.clear.new.self) objects id c.index_mut.result.now is c.index_mut.ensures.value c.clear.ensures) c.self.invariant

pub returns : goal.returns
returns c =
    let objects = c.self.inside.objects.items in
    let id = c.id.inside.0 in
    let is : IsTrue (is_clearable (slice_get objects id)) = rw (← c.self.view_is, ← c.id.view_is) at c.requires in
    rw (← c.self.view_is, ← c.id.view_is) (cleared_is _ id c.clear.new.self (slice_get objects id) refl is
    (holds_of is_clearable refl (Cleared c.clear.new.self) objects id c.index_mut.result.now is c.index_mut.ensures.value c.clear.ensures))
