use Rattle.std.proofs.Common.{◌≡◌, refl, rules}
use Rattle.star_meaning.specs.Operators.{taken}
use Rattle.star_meaning.specs.State.{list}
use mir.Val.{of_z, to_z}
use mir.Syntax.{w128}
use Rattle.std.proofs.Math.Facts.{to_z-of_z}
use Rattle.star_builtins.proofs.FitLemmas.{list_items}
use Rattle.star_builtins.proofs.ListLemmas.{list_gives, list_ends}
use Rattle.star_builtins.proofs.SliceLemmas.{taken_all}
use Rattle.star_builtins.proofs.slicing.slice_list.Goals as goal

pub returns-in_err-taken-clause-gives : goal.returns-in_err-taken-clause-gives
returns-in_err-taken-clause-gives c =
    let same : taken c.list.result.now c.args.start c.args.stop (to_z w128 (of_z w128 c.args.step)) ≡ taken (list c.args.machine.now.state c.args.id) c.args.start c.args.stop c.args.step =
    rw (to_z-of_z c.ranges.step, c.list.ensures.value) refl in
    let ends = list_ends c.args.machine.now c.args.meter.now.left c.charged_values.new.meter.left _ _ c.in_err-taken.field-0.0 same c.in_err-taken.ensures.charges in
    search (rules, ends)

pub new_list-requires-clause-fit : goal.new_list-requires-clause-fit
new_list-requires-clause-fit c =
    rw (c.in_ok-taken.ensures.charges.1, c.list.ensures.value) (taken_all _ _ _ _ _ (list_items c.args.machine.now c.args.id c.list.ensures.kept c.requires.held))

pub returns-clause-gives : goal.returns-clause-gives
returns-clause-gives c =
    let paid = rw (to_z-of_z c.ranges.step, c.list.ensures.value) at c.in_ok-taken.ensures.charges in
    list_gives c.args.machine.now c.new_list.new.machine _ _ _ _ _ paid.0 paid.1 (c.new_list.ensures.gives _)
