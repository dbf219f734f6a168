use Rattle.std.proofs.Common.{arith, ◌≡◌, ◌+◌, ◌∙◌, ◌++◌, ◌∷◌, [], ap, sym, map, append_assoc}
use Rattle.std.specs.List.{range_with_len}
use Rattle.plan_optimum.specs.Sites.{way_at}
use Rattle.plan_optimum.specs.Entries.{value_of, column_of}
use Rattle.plan_optimum.proofs.Lookups.{mapped_push}
use Rattle.plan_optimum.proofs.planner.Planner.column.Goals as goal

pub loop-used-preserved : goal.loop-used-preserved
loop-used-preserved c =
    let f = value_of c.args.costs.now c.args.self.now.budget c.args.node (way_at c.args.self.now.sites c.args.node c.args.level) in
    let before = c.args.row.now.items in
    let so = map f (range_with_len 0 c.loop-used.used) in
    let v = c.in_ok-value.ensures ∙ ap f c.from.ensures in
    c.in_ok-push.ensures.items ∙ ap (λ l. l ++ c.in_ok-value.field-0 ∷ []) c.loop-used.invariant ∙ append_assoc before so (c.in_ok-value.field-0 ∷ [])
    ∙ ap (λ n. before ++ (so ++ n ∷ [])) v ∙ ap (λ l. before ++ l) (sym (mapped_push f c.loop-used.used))

pub returns : goal.returns
unfolding column_of
returns c =
    let f = value_of c.args.costs.now c.args.self.now.budget c.args.node (way_at c.args.self.now.sites c.args.node c.args.level) in
    let end : c.loop-used.used ≡ c.args.self.now.budget.most + 1 = (let t = c.loop-used-test.false in let a = c.loop-used.auto in omega (arith, t, a)) in
    c.loop-used.invariant ∙ ap (λ n. c.args.row.now.items ++ map f (range_with_len 0 n)) end
