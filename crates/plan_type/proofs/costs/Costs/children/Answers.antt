use Rattle.std.proofs.Common.{◌∙◌, ◌-◌, sym, ap, ◌++◌, cond, [], ◌∷◌}
use Rattle.std.specs.List.{filter, range_with_len}
use Rattle.plan_type.specs.Costs.{is_child_in, row_of}
use Rattle.plan_type.proofs.Children.{more}
use Rattle.plan_type.proofs.costs.Costs.children.Goals as goal

pub loop-number-preserved : goal.loop-number-preserved
loop-number-preserved c =
    let n = c.loop-number.number in
    c.in_ok-push_if.ensures
    ∙ ap (λ l. l ++ cond c.is_child.result (n ∷ []) []) c.loop-number.invariant
    ∙ ap (λ b. filter (λ v. is_child_in c.args.of (row_of c.args.self.now v)) (range_with_len 1 (n - 1)) ++ cond b (n ∷ []) []) c.is_child.ensures
    ∙ sym (more (λ v. is_child_in c.args.of (row_of c.args.self.now v)) n c.loop-number.auto.number)
