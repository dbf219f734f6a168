use Rattle.std.proofs.Common.{refl, IsTrue, slice_get}
use Rattle.star_meaning.specs.State.{ADict, pairs_held, object, dict, dict_put, with_dict}
use Rattle.star_meaning.specs.Validity.{is_dict}
use Rattle.heap_store.proofs.Kept.{kept_put, made_of, changed_same}
use Rattle.heap_store.proofs.machine.Machine.dict_put.Goals as goal

pub invariant_of-self-2 : goal.invariant_of-self-2
invariant_of-self-2 c =
    let objects = c.self.inside.objects.items in
    let id = c.id.inside.0 in
    let is : IsTrue (is_dict (slice_get objects id)) = rw (← c.self.view_is, ← c.id.view_is) at c.requires.kind in
    kept_put _ id c.put.new.self c.args.key c.args.value c.self.invariant is (rw (← c.self.view_is) at c.requires.fit)
    (made_of is_dict refl (λ o. ADict (dict_put (pairs_held o) c.args.key c.args.value)) objects id c.index_mut.result.now c.put.new.self is c.index_mut.ensures.value c.in_ok-put.ensures.ok)

pub returns-clause-ok : goal.returns-clause-ok
unfolding with_dict dict object
returns-clause-ok c =
    let objects = c.self.inside.objects.items in
    let id = c.id.inside.0 in
    let is : IsTrue (is_dict (slice_get objects id)) = rw (← c.self.view_is, ← c.id.view_is) at c.requires.kind in
    rw (← c.self.view_is, ← c.id.view_is) (changed_same _ id c.put.new.self (ADict (dict_put (pairs_held (slice_get objects id)) c.args.key c.args.value))
    (made_of is_dict refl (λ o. ADict (dict_put (pairs_held o) c.args.key c.args.value)) objects id c.index_mut.result.now c.put.new.self is c.index_mut.ensures.value c.in_ok-put.ensures.ok))
