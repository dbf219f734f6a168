use Rattle.std.proofs.Common.{List, sym, subst}
use Rattle.star_value.specs.declared.value.Value.{Value}
use Rattle.star_builtins.specs.Reached.{AllFit}
use Rattle.machine_bench.proofs.Fitting.{push_fits}
use Rattle.machine_bench.proofs.measures.integers.Goals as goal

pub loop-number-preserved : goal.loop-number-preserved
loop-number-preserved c m =
    let P : List Value → Type 0 = λ values. AllFit m values in
    subst P (sym c.in_ok-push.ensures.ok) (push_fits m c.loop-number.values c.integer.result (c.loop-number.invariant m) (c.integer.ensures m))
