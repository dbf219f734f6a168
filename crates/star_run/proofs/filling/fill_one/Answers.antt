use Rattle.std.proofs.Common.{◌∙◌, sym}
use Rattle.star_run.specs.Filling.{seen}
use Rattle.star_run.proofs.ArgumentLemmas.{fills_place, fills_twice}
use Rattle.star_run.proofs.filling.fill_one.Goals as goal

pub returns-then-is_given : goal.returns-then-is_given
returns-then-is_given c = rw c.in-Some.is (fills_twice (seen c.args.parameter.now) c.in-Some.value c.args.named.now (rw c.deref.ensures at (sym c.is_given.ensures ∙ c.if-is_given.true)))

pub returns-else-is_given : goal.returns-else-is_given
returns-else-is_given c = rw c.in-Some.is (fills_place (seen c.args.parameter.now) c.in-Some.value c.args.named.now (rw c.deref.ensures at (sym c.is_given.ensures ∙ c.if-is_given.false)))
