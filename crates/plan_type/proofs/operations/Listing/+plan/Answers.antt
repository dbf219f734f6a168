use Rattle.std.proofs.Common.{rules, arith, ◌≡◌, ◌+◌, ◌-◌, ◌∙◌, ◌++◌, length, drop, ap, nat_eq, refl, [], ◌∷◌}
use Rattle.std.specs.Prelude.{if◌then◌else◌}
use Rattle.plan_type.specs.declared.plan.Plan.{the_lemmas}
use Rattle.plan_type.specs.Costs.{tree_of, steps_of, blocks_of}
use Rattle.plan_type.specs.Operations.{before, way_back}
use Rattle.plan_type.proofs.Listed.{room_at, ops_from, entry_done, popped, turned, begins_within}
use Rattle.plan_type.proofs.operations.Listing.+plan.Goals as goal

pub loop-entry-init : goal.loop-entry-init
loop-entry-init t c = record {
  counts = let e = ap length c.as_slice-entry-items.ensures in let l = c.len-left.ensures in omega (arith, e, l);
  path = refl;
  whole = ap (λ l. c.args.self.now.operations ++ l)
      (ops_from c.args.costs.now c.args.block c.args.plan.now c.args.of c.args.anchor (drop c.args.from c.args.self.now.path) c.blocks-blocks.result c.blocks-blocks.ensures.value c.as_slice-entry-items.result.now c.as_slice-entry-items.ensures);
}

pub change-requires : goal.change-requires
change-requires t c hold =
    let r = room_at (blocks_of c.args.costs.now c.args.block) c.args.plan.now c.args.of 4294967296 c.requires.fits c.as_slice-entry-items.result.now c.as_slice-entry-items.ensures
    c.loop-entry.entry-index c.entry-item.result c.loop-entry-test.true c.entry-item.is in
    let own = r.own hold in let b = c.blocks-blocks.ensures.value in omega (arith, own, b)

pub plan-requires : goal.plan-requires
plan-requires t c =
    let r = room_at (blocks_of c.args.costs.now c.args.block) c.args.plan.now c.args.of 4294967296 c.requires.fits c.as_slice-entry-items.result.now c.as_slice-entry-items.ensures
    c.loop-entry.entry-index c.entry-item.result c.loop-entry-test.true c.entry-item.is in
    let begin = c.chosen-begin.ensures ∙ ap (λ n. if c.entry-item.result.hold then n - 1 else c.args.from) c.len.ensures in
    let down = ap (λ l. l.path) c.in_ok-go_down.ensures ∙ ap (λ l. l ++ c.entry-item.result.child ∷ []) (ap (λ l. l.path) c.in_ok-change.ensures ∙ c.loop-entry.invariant.path) in
    let within = begins_within c.args.self.now.path c.entry-item.result.child c.go_down.new.self.path c.args.from c.chosen-begin.result c.entry-item.result.hold c.requires.from down begin in
    (search (rules, the_lemmas), (c.requires.block, (within, r.rest)))

pub loop-entry-preserved : goal.loop-entry-preserved
unfolding tree_of
loop-entry-preserved t c =
    let path = c.args.self.now.path in
    let down = ap (λ l. l.path) c.in_ok-go_down.ensures in
    let begin = c.chosen-begin.ensures ∙ ap (λ n. if c.entry-item.result.hold then n - 1 else c.args.from) c.len.ensures in
    let one = turned (tree_of c.args.costs.now c.args.block) c.args.of c.args.anchor c.args.from path c.entry-item.result (before c.args.of c.blocks-blocks.result c.loop-entry.stored c.entry-item.result.hold) (nat_eq (c.loop-entry.left - 1) 0)
    (λ way. way_back (steps_of c.args.costs.now) c.args.of c.args.anchor way c.entry-item.result.hold) (steps_of c.args.costs.now c.entry-item.result.child) c.nearest-nearest.result c.chosen-begin.result
    c.loop-entry.self.operations c.change.new.self.operations c.go_down.new.self.operations c.plan.new.self.operations c.go_back.new.self.operations
    c.loop-entry.self.path c.change.new.self.path c.go_down.new.self.path c.plan.new.self.path c.pop.new.self c.go_back.new.self.path
    c.requires.from refl c.nearest-nearest.ensures begin c.loop-entry.invariant.path (ap (λ l. l.operations) c.in_ok-change.ensures) (ap (λ l. l.path) c.in_ok-change.ensures)
    (ap (λ l. l.operations) c.in_ok-go_down.ensures) down (ap (λ l. l.operations) c.in_ok-plan.ensures) (ap (λ l. l.path) c.in_ok-plan.ensures)
    (popped _ _ _ c.change.new.self.path c.entry-item.result.child c.pop.ensures (ap (λ l. l.path) c.in_ok-plan.ensures ∙ down))
    (ap (λ l. l.operations) c.in_ok-go_back.ensures) (ap (λ l. l.path) c.in_ok-go_back.ensures) in
    let counts : c.loop-entry.left - 1 + (c.loop-entry.entry-index + 1) ≡ length c.as_slice-entry-items.result.now = (let n = c.loop-entry.invariant.counts in let lt = c.loop-entry-test.true in omega (arith, n, lt)) in
    record {
      counts = counts;
      path = one.path_is;
      whole = entry_done (tree_of c.args.costs.now c.args.block) c.args.of c.args.anchor (drop c.args.from path) (before c.args.of c.blocks-blocks.result) (way_back (steps_of c.args.costs.now) c.args.of c.args.anchor (drop c.args.from path))
          c.loop-entry.stored c.as_slice-entry-items.result.now c.loop-entry.entry-index (c.loop-entry.left - 1) c.entry-item.result c.loop-entry-test.true c.entry-item.is counts
          c.loop-entry.self.operations _ c.go_back.new.self.operations c.loop-entry.invariant.whole one.operations_are;
    }
