use Rattle.std.proofs.Common.{refl, IsTrue, slice_get}
use Rattle.star_meaning.specs.State.{ADict, pairs_held, object, dict, dict_get, dict_without, with_dict}
use Rattle.star_meaning.specs.Validity.{is_dict}
use Rattle.heap_store.proofs.Kept.{kept_without, made_of, changed_same}
use Rattle.heap_store.proofs.machine.Machine.dict_remove.Goals as goal

pub invariant_of-self : goal.invariant_of-self
invariant_of-self c =
    let objects = c.self.inside.objects.items in
    let id = c.id.inside.0 in
    let is : IsTrue (is_dict (slice_get objects id)) = rw (← c.self.view_is, ← c.id.view_is) at c.requires in
    kept_without _ id c.take.new.self c.args.key.now c.self.invariant is
    (made_of is_dict refl (λ o. ADict (dict_without (pairs_held o) c.args.key.now)) objects id c.index_mut.result.now c.take.new.self is c.index_mut.ensures.value c.take.ensures.rest)

pub returns-clause-value : goal.returns-clause-value
unfolding dict object
returns-clause-value c =
    let objects = c.self.inside.objects.items in
    let id = c.id.inside.0 in
    let is : IsTrue (is_dict (slice_get objects id)) = rw (← c.self.view_is, ← c.id.view_is) at c.requires in
    rw (← c.self.view_is, ← c.id.view_is)
    (made_of is_dict refl (λ o. dict_get (pairs_held o) c.args.key.now) objects id c.index_mut.result.now c.take.result is c.index_mut.ensures.value c.take.ensures.value)

pub returns-clause-rest : goal.returns-clause-rest
unfolding with_dict dict object
returns-clause-rest c =
    let objects = c.self.inside.objects.items in
    let id = c.id.inside.0 in
    let is : IsTrue (is_dict (slice_get objects id)) = rw (← c.self.view_is, ← c.id.view_is) at c.requires in
    rw (← c.self.view_is, ← c.id.view_is) (changed_same _ id c.take.new.self (ADict (dict_without (pairs_held (slice_get objects id)) c.args.key.now))
    (made_of is_dict refl (λ o. ADict (dict_without (pairs_held o) c.args.key.now)) objects id c.index_mut.result.now c.take.new.self is c.index_mut.ensures.value c.take.ensures.rest))
