use Rattle.std.proofs.Common.{◌≡◌, refl, IsTrue, Some, slice_get}
use Rattle.std.specs.List.{remove}
use Rattle.star_meaning.specs.State.{AList, items_held, object, list, with_list}
use Rattle.star_meaning.specs.Validity.{is_list}
use Rattle.heap_store.proofs.Kept.{kept_remove, made_of, holds_of, changed_same}
use Rattle.heap_store.proofs.machine.Machine.list_remove.Goals as goal

pub invariant_of-self : goal.invariant_of-self
invariant_of-self c =
    let objects = c.self.inside.objects.items in
    let id = c.id.inside.0 in
    let is : IsTrue (is_list (slice_get objects id)) = rw (← c.self.view_is, ← c.id.view_is) at c.requires.kind in
    kept_remove _ id c.remove.new.self c.args.place c.self.invariant is
    (made_of is_list refl (λ o. AList (remove (items_held o) c.args.place)) objects id c.index_mut.result.now c.remove.new.self is c.index_mut.ensures.value c.remove.ensures.rest)

pub returns-clause-item : goal.returns-clause-item
unfolding list object
returns-clause-item c =
    let objects = c.self.inside.objects.items in
    let id = c.id.inside.0 in
    let is : IsTrue (is_list (slice_get objects id)) = rw (← c.self.view_is, ← c.id.view_is) at c.requires.kind in
    rw (← c.self.view_is, ← c.id.view_is)
    (holds_of is_list refl (λ o. slice_get (items_held o) c.args.place ≡ Some c.remove.result) objects id c.index_mut.result.now is c.index_mut.ensures.value c.remove.ensures.item)

pub returns-clause-rest : goal.returns-clause-rest
unfolding with_list list object
returns-clause-rest c =
    let objects = c.self.inside.objects.items in
    let id = c.id.inside.0 in
    let is : IsTrue (is_list (slice_get objects id)) = rw (← c.self.view_is, ← c.id.view_is) at c.requires.kind in
    rw (← c.self.view_is, ← c.id.view_is) (changed_same _ id c.remove.new.self (AList (remove (items_held (slice_get objects id)) c.args.place))
    (made_of is_list refl (λ o. AList (remove (items_held o) c.args.place)) objects id c.index_mut.result.now c.remove.new.self is c.index_mut.ensures.value c.remove.ensures.rest))
