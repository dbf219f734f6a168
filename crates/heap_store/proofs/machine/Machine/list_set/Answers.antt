use Rattle.std.proofs.Common.{refl, IsTrue, slice_get, slice_set}
use Rattle.star_meaning.specs.State.{AList, items_held, object, list, with_list}
use Rattle.star_meaning.specs.Validity.{is_list}
use Rattle.heap_store.proofs.Kept.{kept_set, made_of, changed_same}
use Rattle.heap_store.proofs.machine.Machine.list_set.Goals as goal

pub invariant_of-self : goal.invariant_of-self
invariant_of-self c =
    let objects = c.self.inside.objects.items in
    let id = c.id.inside.0 in
    let is : IsTrue (is_list (slice_get objects id)) = rw (← c.self.view_is, ← c.id.view_is) at c.requires.kind in
    kept_set _ id c.set.new.self c.args.place c.args.value c.self.invariant is (rw (← c.self.view_is) at c.requires.fit)
    (made_of is_list refl (λ o. AList (slice_set (items_held o) c.args.place c.args.value)) objects id c.index_mut.result.now c.set.new.self is c.index_mut.ensures.value c.set.ensures)

pub returns : goal.returns
unfolding with_list list object
returns c =
    let objects = c.self.inside.objects.items in
    let id = c.id.inside.0 in
    let is : IsTrue (is_list (slice_get objects id)) = rw (← c.self.view_is, ← c.id.view_is) at c.requires.kind in
    rw (← c.self.view_is, ← c.id.view_is) (changed_same _ id c.set.new.self (AList (slice_set (items_held (slice_get objects id)) c.args.place c.args.value))
    (made_of is_list refl (λ o. AList (slice_set (items_held o) c.args.place c.args.value)) objects id c.index_mut.result.now c.set.new.self is c.index_mut.ensures.value c.set.ensures))
