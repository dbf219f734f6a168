use Rattle.std.proofs.Common.{◌≡◌, true, false, sym}
use Rattle.std.specs.Prelude.{nat_lt}
use Rattle.star_value.specs.Weight.{depth}
use Rattle.star_value.specs.declared.value.Value.TheVariants as value
use Rattle.star_builtins.proofs.TupleLemmas.{too_deep, made_tuple, tuple_fits}
use Rattle.star_builtins.proofs.tuples.new_tuple.Goals as goal

pub returns-then-nests_too_deep-clause-gives : goal.returns-then-nests_too_deep-clause-gives
returns-then-nests_too_deep-clause-gives c = λ s. too_deep c.args.items s (sym c.if-nests_too_deep.ensures)

pub returns-clause-gives : goal.returns-clause-gives
returns-clause-gives c = λ s. made_tuple c.args.items s (sym c.if-nests_too_deep.ensures)

pub returns-clause-fits : goal.returns-clause-fits
returns-clause-fits c = λ m fit. tuple_fits m c.args.items fit (sym c.if-nests_too_deep.ensures)
