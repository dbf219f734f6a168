use Rattle.std.proofs.Common.{◌≡◌, refl, rules}
use Rattle.std.specs.List.{repeat}
use Rattle.star_meaning.specs.State.{list}
use Rattle.star_meaning.specs.Values.{times}
use Rattle.star_builtins.proofs.FitLemmas.{list_items}
use Rattle.star_builtins.proofs.ListLemmas.{list_gives, list_ends}
use Rattle.star_builtins.proofs.PartLemmas.{repeated_all}
use Rattle.star_builtins.proofs.repeating.times_list.Goals as goal

pub returns-in_err-repeated-clause-gives : goal.returns-in_err-repeated-clause-gives
returns-in_err-repeated-clause-gives c =
    let same : repeat (times c.args.number.now) c.list.result.now ≡ repeat (times c.args.number.now) (list c.args.machine.now.state c.args.id) = rw c.list.ensures.value refl in
    let ends = list_ends c.args.machine.now c.args.meter.now.left c.charged_repeated.new.meter.left _ _ c.in_err-repeated.field-0.0 same c.in_err-repeated.ensures.charges in
    search (rules, ends)

pub new_list-requires-clause-fit : goal.new_list-requires-clause-fit
new_list-requires-clause-fit c =
    rw (c.in_ok-repeated.ensures.charges.1, c.list.ensures.value) (repeated_all c.args.machine.now _ _ (list_items c.args.machine.now c.args.id c.list.ensures.kept c.requires.held))

pub returns-clause-gives : goal.returns-clause-gives
returns-clause-gives c =
    let paid = rw c.list.ensures.value at c.in_ok-repeated.ensures.charges in
    list_gives c.args.machine.now c.new_list.new.machine _ _ _ _ _ paid.0 paid.1 (c.new_list.ensures.gives _)
