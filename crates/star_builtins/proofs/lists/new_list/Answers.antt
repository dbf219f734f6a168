use Rattle.star_meaning.specs.State.{with_new, next_id}
use Rattle.star_builtins.proofs.FollowLemmas.{new_fits, follows_new}
use Rattle.star_builtins.proofs.lists.new_list.Goals as goal

pub returns-clause-fits : goal.returns-clause-fits
unfolding with_new next_id
returns-clause-fits c = let made = c.in_ok-id.ensures.ok in rw (made.1, made.0) (new_fits c.args.machine.now c.args.items)

pub returns-clause-follows : goal.returns-clause-follows
unfolding with_new next_id
returns-clause-follows c = let made = c.in_ok-id.ensures.ok in rw made.1 (follows_new c.args.machine.now c.args.items c.requires.fit c.requires.room)
