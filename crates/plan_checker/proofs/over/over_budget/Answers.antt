use Rattle.std.proofs.Common.{rules, arith, ◌∙◌, ◌+◌, ◌-◌, get_or, Some, sym, ap}
use Rattle.std.specs.Prelude.{if◌then◌else◌}
use Rattle.std.proofs.lemmas.List.{get_or_read}
use Rattle.plan_type.specs.Costs.{blocks_of}
use Rattle.plan_checker.specs.Verdicts.{over_budget}
use Rattle.plan_checker.proofs.Tables.{over_at, over_next, follows_at}
use Rattle.plan_checker.proofs.over.over_budget.Goals as goal

pub overflow_add-blocks : goal.overflow_add-blocks
overflow_add-blocks c =
    let (some, small) = follows_at 0 c.args.lines.now c.loop-line.line-index c.line-item.result c.requires.follow (omega arith) c.line-item.is in
    let low = small.depth in let sums = c.loop-line.invariant.sums in let d = c.level-depth.ensures in
    let e = get_or_read c.loop-line.held.items (c.level-depth.result - 1) c.index-in-loop-line.result.now (omega (arith, low, sums, d)) c.index-in-loop-line.ensures 0 in
    let f = c.loop-line.invariant.fits (c.level-depth.result - 1) in let m = c.own.ensures.most in let b = c.requires.budget.few in omega (arith, f, m, e, b)

pub returns-then-is_over : goal.returns-then-is_over
unfolding over_budget
returns-then-is_over c =
    let (some, small) = follows_at 0 c.args.lines.now c.loop-line.line-index c.line-item.result c.requires.follow (omega arith) c.line-item.is in
    let low = small.depth in let sums = c.loop-line.invariant.sums in let places = c.loop-line.invariant.places in let d = c.level-depth.ensures in
    let held = get_or_read c.loop-line.held.items (c.level-depth.result - 1) c.index-in-loop-line.result.now (omega (arith, low, sums, d)) c.index-in-loop-line.ensures 0 in
    let parent = get_or_read c.loop-line.last.items (c.level-depth.result - 1) c.index.result.now (omega (arith, low, places, d)) c.index.ensures 0 in
    ap (λ u. Some (u, c.index-in-loop-line.result.now + c.own.result)) parent
    ∙ over_at (blocks_of c.args.costs.now c.args.budget.now.block) c.args.budget.now.most c.args.lines.now c.loop-line.line-index c.loop-line.last.items c.loop-line.held.items c.line-item.result c.level-depth.result
    (c.index-in-loop-line.result.now + c.own.result) c.loop-line.invariant (omega arith) c.line-item.is d
    (ap (λ n. n + c.own.result) held ∙ ap (λ n. get_or c.loop-line.held.items (c.level-depth.result - 1) 0 + n)
    (c.own.ensures.value ∙ ap (λ u. if c.line-item.result.hold then blocks_of c.args.costs.now c.args.budget.now.block u else 0) parent))
    (sym c.is_over.ensures ∙ (search rules))

pub loop-line-preserved : goal.loop-line-preserved
loop-line-preserved c =
    let (some, small) = follows_at 0 c.args.lines.now c.loop-line.line-index c.line-item.result c.requires.follow (omega arith) c.line-item.is in
    let low = small.depth in let sums = c.loop-line.invariant.sums in let places = c.loop-line.invariant.places in let d = c.level-depth.ensures in
    let held = get_or_read c.loop-line.held.items (c.level-depth.result - 1) c.index-in-loop-line.result.now (omega (arith, low, sums, d)) c.index-in-loop-line.ensures 0 in
    let parent = get_or_read c.loop-line.last.items (c.level-depth.result - 1) c.index.result.now (omega (arith, low, places, d)) c.index.ensures 0 in
    over_next (blocks_of c.args.costs.now c.args.budget.now.block) c.args.budget.now.most c.args.lines.now c.loop-line.line-index c.loop-line.last.items c.loop-line.held.items c.line-item.result c.level-depth.result
    c.number.result (c.index-in-loop-line.result.now + c.own.result) c.loop-line.invariant (omega arith) c.line-item.is small d c.number.ensures
    (ap (λ n. n + c.own.result) held ∙ ap (λ n. get_or c.loop-line.held.items (c.level-depth.result - 1) 0 + n)
    (c.own.ensures.value ∙ ap (λ u. if c.line-item.result.hold then blocks_of c.args.costs.now c.args.budget.now.block u else 0) parent))
    (sym c.is_over.ensures ∙ (search rules))
