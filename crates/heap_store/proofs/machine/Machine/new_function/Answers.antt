use Rattle.std.proofs.Common.{◌<◌, ℕ, refl, IsTrue, arith}
use Rattle.std.proofs.lemmas.Bool.Decides.{nat_tests}
use Rattle.star_meaning.specs.State.{AFunction}
use Rattle.star_meaning.specs.Validity.{has_32_bits, has_small_numbers}
use Rattle.heap_store.proofs.Kept.{kept_new}
use Rattle.heap_store.proofs.Tested.{and_both}
use Rattle.heap_store.proofs.machine.Machine.new_function.Goals as goal

pub invariant_of-self-2 : goal.invariant_of-self-2
invariant_of-self-2 c =
    let small : IsTrue (has_small_numbers (AFunction c.args.cell c.args.number c.args.defaults)) =
    and_both (has_32_bits c.args.cell) (has_32_bits c.args.number) c.number_of-small.ensures.small (grind (arith, nat_tests, c.ranges.number.fits)) in
    rw (c.in_ok-push.ensures.items, c.function.ensures)
    (kept_new _ (AFunction c.args.cell c.args.number c.args.defaults) c.self.invariant refl small (rw (← c.self.view_is) at c.requires.fit) (rw (← c.self.view_is) at c.requires.room))
