use Rattle.std.proofs.Common.{◌≡◌, ◌∙◌, false, subst}
use Rattle.std.proofs.lemmas.List.{take_all}
use Rattle.plan_type.specs.Plan.{HoldsNone}
use Rattle.plan_type.proofs.Tested.{seen_more}
use Rattle.plan_tests.proofs.class.holds_none.Goals as goal

pub loop-entry-preserved : goal.loop-entry-preserved
loop-entry-preserved c = seen_more (λ e. e.hold ≡ false) c.as_slice-entry-items.result.now c.loop-entry.entry-index c.entry-item.result c.loop-entry.invariant c.loop-entry-test.true c.entry-item.is c.if-entry.false

pub returns : goal.returns
returns c on = subst HoldsNone (take_all c.loop-entry.entry-index c.as_slice-entry-items.result.now c.loop-entry-test.false ∙ c.as_slice-entry-items.ensures) c.loop-entry.invariant
