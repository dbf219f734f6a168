use Rattle.std.proofs.Common.{◌≡◌, ◌++◌, refl, rules}
use Rattle.star_meaning.specs.State.{list}
use Rattle.star_builtins.proofs.FitLemmas.{list_items}
use Rattle.star_builtins.proofs.ListLemmas.{list_gives, list_ends}
use Rattle.star_builtins.proofs.PartLemmas.{joined_all}
use Rattle.star_builtins.proofs.adding.join_lists.Goals as goal

pub returns-in_err-joined-clause-gives : goal.returns-in_err-joined-clause-gives
returns-in_err-joined-clause-gives c =
    let same : (c.list.result.now ++ c.list-2.result.now) ≡ (list c.args.machine.now.state c.args.left ++ list c.args.machine.now.state c.args.right) = rw (c.list.ensures.value, c.list-2.ensures.value) refl in
    let ends = list_ends c.args.machine.now c.args.meter.now.left c.charged_both.new.meter.left _ _ c.in_err-joined.field-0.0 same c.in_err-joined.ensures.charges in
    search (rules, ends)

pub new_list-requires-clause-fit : goal.new_list-requires-clause-fit
new_list-requires-clause-fit c =
    rw (c.in_ok-joined.ensures.charges.1, c.list.ensures.value, c.list-2.ensures.value)
    (joined_all c.args.machine.now _ _ (list_items c.args.machine.now c.args.left c.list.ensures.kept c.requires.held) (list_items c.args.machine.now c.args.right c.list.ensures.kept c.requires.held))

pub returns-clause-gives : goal.returns-clause-gives
returns-clause-gives c =
    let paid = rw (c.list.ensures.value, c.list-2.ensures.value) at c.in_ok-joined.ensures.charges in
    list_gives c.args.machine.now c.new_list.new.machine _ _ _ _ _ paid.0 paid.1 (c.new_list.ensures.gives _)
