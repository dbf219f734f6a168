use Rattle.std.proofs.Common.{List, sym, subst}
use Rattle.star_value.specs.declared.value.Value.{Value}
use Rattle.star_builtins.specs.Reached.{AllFit}
use Rattle.call_tests.proofs.Growing.{none_fit}
use Rattle.call_tests.proofs.objects.nested_tuple.Goals as goal

pub loop-time-init : goal.loop-time-init
loop-time-init c m =
    let P : List Value → Type 0 = λ values. AllFit m values in
    c.in_ok-tuple.ensures.fits m (subst P (sym c.new.ensures) (none_fit m))
