use Rattle.std.proofs.Common.{rules, sym, subst}
use Rattle.plan_checker.proofs.Readings.{ReadSo, stopped, misplaced, read_more}
use Rattle.plan_checker.proofs.read.read.Goals as goal

pub returns-then-not-follows : goal.returns-then-not-follows
returns-then-not-follows c =
    stopped c.args.text.now c.loop-rest.lines.items c.loop-rest.rest.now c.loop-rest.before _ c.loop-rest.invariant (search rules)
    (misplaced c.loop-rest.rest.now c.loop-rest.before c.in-Some-take_line.line c.in-Some-take_line.more.now c.in-Some-take_line.ensures.0 c.in-Some-take_line.ensures.1 (search rules)) (search rules)

pub loop-rest-preserved : goal.loop-rest-preserved
loop-rest-preserved c =
    subst (λ ls. ReadSo c.args.text.now ls c.in-Some-take_line.more.now c.in-Some-take_line.line.depth) (sym c.in_ok-push.ensures.items)
    (read_more c.args.text.now c.loop-rest.lines.items c.loop-rest.rest.now c.loop-rest.before c.in-Some-take_line.line c.in-Some-take_line.more.now c.loop-rest.invariant (search rules) c.in-Some-take_line.ensures.1)
