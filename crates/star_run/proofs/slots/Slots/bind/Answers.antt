use Rattle.std.proofs.Common.{arith, ◌≡◌, ◌∙◌, ap, sym, ℕ, List, Option, Some, get_or, map}
use Rattle.std.proofs.lemmas.Grind.{common_steps}
use Rattle.std.proofs.Math.ListN.{set}
use Rattle.star_meaning.specs.World.{bound_in}
use Rattle.star_value.specs.declared.value.Value.{Value}
use Rattle.star_run.proofs.BlockLemmas.{found_slot}
use Rattle.star_run.proofs.slots.Slots.bind.Goals as goal

-- src/slots.rt:93:17
pub returns-then-same : goal.returns-then-same
returns-then-same c =
    let old = c.index.ensures in
    let slot = c.index_mut.ensures.value in
    let e = found_slot (λ name. name.value) c.loop-at.self-inside.slots.items c.loop-at.at c.index.result.now c.index_mut.result.now c.args.name.now c.args.value (omega (arith, c.loop-at-test.true, c.len-at-end.ensures)) (grind (arith, c.same.ensures, c.deref.ensures, c.if-same.true)) in
    let same = ap (λ b. bound_in b c.args.name.now c.args.value) (c.loop-at.invariant.0 ∙ c.self.view_is) in
    ap (λ slot. map {B = List ℕ × Option Value} (λ slot. (slot.0.value, slot.1)) (set c.loop-at.self-inside.slots.items c.loop-at.at (slot.0, Some c.args.value))) slot
    ∙ sym e ∙ sym c.loop-at.invariant.1 ∙ same
