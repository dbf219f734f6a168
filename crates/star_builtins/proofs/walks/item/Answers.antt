use Rattle.star_builtins.proofs.WalkLemmas.{given_item_fits, within_some, has_given}
use Rattle.star_builtins.specs.Walks.{given}
use Rattle.star_builtins.proofs.walks.item.Goals as goal

pub item-requires-clause-within : goal.item-requires-clause-within
item-requires-clause-within c = within_some c.args.machine.now.state c.args.of.now c.args.place c.requires.within

pub returns-clause-value : goal.returns-clause-value
returns-clause-value c = c.in_ok-item.ensures.value (given c.args.machine.now.state c.args.of.now) (has_given c.args.machine.now.state c.args.of.now c.args.place c.requires.within)

pub returns-clause-fits : goal.returns-clause-fits
returns-clause-fits c =
    given_item_fits c.args.machine.now c.ran-nodes.ensures.kept c.requires.held c.args.place _ c.args.of.now c.requires.of
    (c.in_ok-item.ensures.value (given c.args.machine.now.state c.args.of.now) (has_given c.args.machine.now.state c.args.of.now c.args.place c.requires.within))
