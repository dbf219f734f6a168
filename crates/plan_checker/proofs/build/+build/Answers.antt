use Rattle.std.proofs.Common.{rules, ◌∙◌, ◌+◌, sym}
use Rattle.std.proofs.lemmas.List.{take_rest}
use Rattle.plan_checker.proofs.Built.{next, build_more, build_all}
use Rattle.plan_checker.proofs.build.+build.Goals as goal

pub loop-alloc-preserved : goal.loop-alloc-preserved
loop-alloc-preserved t c =
    build_more c.args.lines.now _ c.args.above c.loop-alloc.at c.in_ok-rest.taken c.loop-alloc.entries.items c.push.new.self.items c.index-lines-at.result c.in_ok-rest.rest c.loop-alloc.invariant
    (next c.args.lines.now c.args.above c.loop-alloc.at c.loop-alloc.entries.items c.loop-alloc.invariant (sym c.goes_on.ensures ∙ (search rules))) c.index-lines-at.is (take_rest c.args.lines.now (c.loop-alloc.at + 1))
    c.in_ok-rest.ensures.within c.in_ok-rest.ensures.lines_of c.in_ok-rest.ensures.chain c.in_ok-rest.ensures.under c.in_ok-push.ensures.items

pub returns-clause-lines_of : goal.returns-clause-lines_of
returns-clause-lines_of t c =
    (build_all c.args.lines.now c.args.above c.loop-alloc.at c.loop-alloc.entries.items c.of.result c.loop-alloc.invariant (sym c.goes_on.ensures ∙ (search rules)) (c.of.ensures ∙ c.from_vec.ensures)).0
