use Rattle.std.proofs.Common.{refl, IsTrue, slice_get}
use Rattle.star_meaning.specs.Validity.{is_function}
use Rattle.heap_store.proofs.Kept.{kept_default, default_is, Redefaulted, holds_of}
use Rattle.heap_store.proofs.machine.Machine.function_set.Goals as goal

pub invariant_of-self : goal.invariant_of-self
invariant_of-self c =
    let objects = c.self.inside.objects.items in
    let id = c.id.inside.0 in
    let is : IsTrue (is_function (slice_get objects id)) = rw (← c.self.view_is, ← c.id.view_is) at c.requires.kind in
    kept_default _ id c.set_default.new.self c.args.place c.args.value (slice_get objects id) refl is
    (holds_of is_function refl (Redefaulted c.set_default.new.self c.args.place c.args.value) objects id c.index_mut.result.now is c.index_mut.ensures.value c.set_default.ensures)
    c.self.invariant (rw (← c.self.view_is) at c.requires.fit)

pub returns : goal.returns
returns c =
    let objects = c.self.inside.objects.items in
    let id = c.id.inside.0 in
    let is : IsTrue (is_function (slice_get objects id)) = rw (← c.self.view_is, ← c.id.view_is) at c.requires.kind in
    rw (← c.self.view_is, ← c.id.view_is) (default_is _ id c.set_default.new.self c.args.place c.args.value (slice_get objects id) refl is
    (holds_of is_function refl (Redefaulted c.set_default.new.self c.args.place c.args.value) objects id c.index_mut.result.now is c.index_mut.ensures.value c.set_default.ensures))
