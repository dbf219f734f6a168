use Rattle.std.proofs.Common.{◌+◌, ◌∙◌, sym, arith}
use Rattle.star_run.proofs.ArgumentLemmas.{given_often, given_once, given_passed, rest_from}
use Rattle.star_run.proofs.filling.given_by.Goals as goal

pub returns-then-is_given : goal.returns-then-is_given
returns-then-is_given c =
    given_often c.args.name.now c.args.named.now _ c.loop-place.place c.index-named-place.result c.loop-place-test.true c.index-named-place.is (sym c.same.ensures ∙ c.if-same.true) c.loop-place.invariant
    (rest_from c.args.named.now (c.loop-place.place + 1)) (sym c.is_given.ensures ∙ c.if-is_given.true)

pub returns-then-same : goal.returns-then-same
returns-then-same c =
    given_once c.args.name.now c.args.named.now _ c.loop-place.place c.index-named-place.result c.loop-place-test.true c.index-named-place.is (sym c.same.ensures ∙ c.if-same.true) c.loop-place.invariant
    (rest_from c.args.named.now (c.loop-place.place + 1)) (sym c.is_given.ensures ∙ c.if-is_given.false)

pub loop-place-preserved : goal.loop-place-preserved
loop-place-preserved c =
    given_passed c.args.name.now c.args.named.now c.loop-place.place c.index-named-place.result c.loop-place-test.true c.index-named-place.is (sym c.same.ensures ∙ c.if-same.false) c.loop-place.invariant
