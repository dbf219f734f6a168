use Rattle.std.proofs.Common.{refl, IsTrue, slice_get}
use Rattle.std.specs.List.{insert}
use Rattle.star_meaning.specs.State.{AList, items_held, object, list, with_list}
use Rattle.star_meaning.specs.Validity.{is_list}
use Rattle.heap_store.proofs.Kept.{kept_insert, made_of, changed_same}
use Rattle.heap_store.proofs.machine.Machine.list_insert.Goals as goal

pub invariant_of-self-2 : goal.invariant_of-self-2
invariant_of-self-2 c =
    let objects = c.self.inside.objects.items in
    let id = c.id.inside.0 in
    let is : IsTrue (is_list (slice_get objects id)) = rw (← c.self.view_is, ← c.id.view_is) at c.requires.kind in
    kept_insert _ id c.insert.new.self c.args.place c.args.value c.self.invariant is (rw (← c.self.view_is) at c.requires.fit)
    (made_of is_list refl (λ o. AList (insert (items_held o) c.args.place c.args.value)) objects id c.index_mut.result.now c.insert.new.self is c.index_mut.ensures.value c.in_ok-insert.ensures.ok)

pub returns-clause-ok : goal.returns-clause-ok
unfolding with_list list object
returns-clause-ok c =
    let objects = c.self.inside.objects.items in
    let id = c.id.inside.0 in
    let is : IsTrue (is_list (slice_get objects id)) = rw (← c.self.view_is, ← c.id.view_is) at c.requires.kind in
    rw (← c.self.view_is, ← c.id.view_is) (changed_same _ id c.insert.new.self (AList (insert (items_held (slice_get objects id)) c.args.place c.args.value))
    (made_of is_list refl (λ o. AList (insert (items_held o) c.args.place c.args.value)) objects id c.index_mut.result.now c.insert.new.self is c.index_mut.ensures.value c.in_ok-insert.ensures.ok))
