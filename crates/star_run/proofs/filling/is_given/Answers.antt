use Rattle.std.proofs.Common.{◌∙◌, sym, arith}
use Rattle.star_run.proofs.ArgumentLemmas.{given_none, given_passed, given_some}
use Rattle.star_run.proofs.filling.is_given.Goals as goal

pub returns-then-same : goal.returns-then-same
returns-then-same c =
    sym (given_some c.args.name.now c.args.named.now c.loop-entry.entry-index c.entry-item.result c.loop-entry-test.true c.entry-item.is (sym c.same.ensures ∙ c.if-same.true) c.loop-entry.invariant)

pub loop-entry-preserved : goal.loop-entry-preserved
loop-entry-preserved c =
    given_passed c.args.name.now c.args.named.now c.loop-entry.entry-index c.entry-item.result c.loop-entry-test.true c.entry-item.is (sym c.same.ensures ∙ c.if-same.false) c.loop-entry.invariant

pub returns : goal.returns
returns c = sym (given_none c.args.name.now c.args.named.now c.loop-entry.entry-index (omega arith) c.loop-entry.invariant)
