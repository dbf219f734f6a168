use Rattle.std.proofs.Common.{rules, arith, ◌∙◌, ◌-◌, false, sym, ap, inl, inr}
use Rattle.std.proofs.lemmas.List.{get_or_read}
use Rattle.plan_type.specs.Costs.{row_of, is_child_in}
use Rattle.plan_checker.proofs.Tables.{wrong_at, wrong_next, wrong_end, follows_at}
use Rattle.plan_checker.proofs.wrong.wrong_child.Goals as goal
use Rattle.plan_checker.proofs.wrong.wrong_child.Goals.{then-not-is_child-via-then-not-is_child, then-not-is_child-via-else-not-is_child+then-index}

pub returns-then-not-is_child : goal.returns-then-not-is_child
returns-then-not-is_child c =
    let (some, small) = follows_at 0 c.args.lines.now c.loop-line.line-index c.line-item.result c.requires.follow (omega arith) c.line-item.is in
    let low = small.depth in let few = small.node in let places = c.loop-line.invariant.places in let marks = c.loop-line.invariant.marks in let d = c.level-depth.ensures in let v = c.number-number.ensures in
    let parent = get_or_read c.loop-line.last.items (c.level-depth.result - 1) c.index.result.now (omega (arith, low, places, d)) c.index.ensures 0 in
    wrong_at c.args.costs.now c.args.lines.now c.loop-line.line-index c.loop-line.last.items c.loop-line.stood.items c.line-item.result c.level-depth.result c.number-number.result c.loop-line.invariant (omega arith)
    c.line-item.is d v (elim c.then-not-is_child.branch [
      | then-not-is_child-via-then-not-is_child w ↦ inl (sym (c.is_child.ensures ∙ ap (λ u. is_child_in u (row_of c.args.costs.now c.number-number.result)) parent) ∙ (search rules))
      | then-not-is_child-via-else-not-is_child+then-index w ↦ inr (sym (get_or_read c.loop-line.stood.items c.number-number.result w.index-else-not-is_child.result.now (omega (arith, few, marks, v)) w.index-else-not-is_child.ensures false) ∙ (search rules))
    ])

pub loop-line-preserved : goal.loop-line-preserved
loop-line-preserved c =
    let (some, small) = follows_at 0 c.args.lines.now c.loop-line.line-index c.line-item.result c.requires.follow (omega arith) c.line-item.is in
    let low = small.depth in let few = small.node in let places = c.loop-line.invariant.places in let marks = c.loop-line.invariant.marks in let d = c.level-depth.ensures in let v = c.number-number.ensures in
    let parent = get_or_read c.loop-line.last.items (c.level-depth.result - 1) c.index.result.now (omega (arith, low, places, d)) c.index.ensures 0 in
    let fresh = get_or_read c.loop-line.stood.items c.number-number.result c.index-else-not-is_child.result.now (omega (arith, few, marks, v)) c.index-else-not-is_child.ensures false in
    wrong_next c.args.costs.now c.args.lines.now c.loop-line.line-index c.loop-line.last.items c.loop-line.stood.items c.line-item.result c.level-depth.result c.number-number.result c.loop-line.invariant (omega arith)
    c.line-item.is small d v
    (sym (c.is_child.ensures ∙ ap (λ u. is_child_in u (row_of c.args.costs.now c.number-number.result)) parent) ∙ (search rules)) (sym fresh ∙ (search rules))

pub returns : goal.returns
returns c = wrong_end c.args.costs.now c.args.lines.now c.loop-line.line-index c.loop-line.last.items c.loop-line.stood.items c.deref.result.now c.missing.result c.loop-line.invariant (omega arith) c.deref.ensures.value c.missing.ensures
