use Rattle.std.proofs.Common.{◌≡◌, ◌∙◌, ap, subst}
use Rattle.std.specs.BTreeMap.{insert_entry}
use Rattle.std.specs.List.Sorted.{IsStrictlySortedBy}
use Rattle.std.specs.Map.{keys_of}
use Rattle.chex_base.specs.TextOrder.{text_cmp}
use Rattle.heap_store.proofs.Kept.{kept_set_global, Globals}
use Rattle.heap_store.proofs.machine.Machine.set_global.Goals as goal

pub invariant_of-self : goal.invariant_of-self
invariant_of-self c =
    let before = c.self.inside.globals.entries in
    let e : c.rebind.new.globals.entries ≡ insert_entry text_cmp before c.args.name.now c.args.value = c.rebind.ensures.bound c.in_default.is in
    rw e (kept_set_global _ c.args.name.now c.args.value c.self.invariant c.as_str-characters.ensures.scalars (rw (← c.self.view_is) at c.requires)
    (subst (λ (entries : Globals). IsStrictlySortedBy text_cmp (keys_of entries)) e c.rebind.ensures.ordered))

pub invariant_of-self-2 : goal.invariant_of-self-2
invariant_of-self-2 c =
    let before = c.self.inside.globals.entries in
    let rest = c.rebind.new.globals.entries in
    let e : c.insert.new.self.entries ≡ insert_entry text_cmp before c.args.name.now c.args.value
    = c.in_ok-insert.ensures.entries ∙ ap (λ name. insert_entry text_cmp rest name c.in-Some.value) c.in_ok-name.ensures
    ∙ ap (λ v. insert_entry text_cmp rest c.args.name.now v) c.in-Some.ensures.free.0
    ∙ ap (λ entries. insert_entry text_cmp entries c.args.name.now c.args.value) c.in-Some.ensures.free.1 in
    rw e (kept_set_global _ c.args.name.now c.args.value c.self.invariant c.as_str-characters.ensures.scalars (rw (← c.self.view_is) at c.requires)
    (subst (λ (entries : Globals). IsStrictlySortedBy text_cmp (keys_of entries)) e c.in_ok-insert.ensures.ordered))
