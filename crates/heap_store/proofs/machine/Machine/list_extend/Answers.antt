use Rattle.std.proofs.Common.{◌++◌, refl, IsTrue, slice_get}
use Rattle.star_meaning.specs.State.{AList, items_held, object, list, with_list}
use Rattle.star_meaning.specs.Validity.{is_list}
use Rattle.heap_store.proofs.Kept.{kept_more, made_of, changed_same}
use Rattle.heap_store.proofs.machine.Machine.list_extend.Goals as goal

pub invariant_of-self-2 : goal.invariant_of-self-2
invariant_of-self-2 c =
    let objects = c.self.inside.objects.items in
    let id = c.id.inside.0 in
    let is : IsTrue (is_list (slice_get objects id)) = rw (← c.self.view_is, ← c.id.view_is) at c.requires.kind in
    kept_more _ id c.extend.new.self c.args.more c.self.invariant is (rw (← c.self.view_is) at c.requires.fit)
    (made_of is_list refl (λ o. AList (items_held o ++ c.args.more)) objects id c.index_mut.result.now c.extend.new.self is c.index_mut.ensures.value (rw (c.in_ok-more.ensures) at c.in_ok-extend.ensures.ok))

pub returns-clause-ok : goal.returns-clause-ok
unfolding with_list list object
returns-clause-ok c =
    let objects = c.self.inside.objects.items in
    let id = c.id.inside.0 in
    let is : IsTrue (is_list (slice_get objects id)) = rw (← c.self.view_is, ← c.id.view_is) at c.requires.kind in
    rw (← c.self.view_is, ← c.id.view_is) (changed_same _ id c.extend.new.self (AList (items_held (slice_get objects id) ++ c.args.more))
    (made_of is_list refl (λ o. AList (items_held o ++ c.args.more)) objects id c.index_mut.result.now c.extend.new.self is c.index_mut.ensures.value (rw (c.in_ok-more.ensures) at c.in_ok-extend.ensures.ok)))
