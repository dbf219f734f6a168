use Rattle.star_meaning.specs.State.{with_new, next_id}
use Rattle.star_builtins.proofs.ChangeLemmas.{values_fit, new_dict_fits, follows_new_dict}
use Rattle.star_builtins.proofs.dicts.new_dict.Goals as goal

pub new_dict_of-requires-clause-fit : goal.new_dict_of-requires-clause-fit
new_dict_of-requires-clause-fit c = values_fit c.args.machine.now c.args.pairs c.requires.fit

pub returns-clause-fits : goal.returns-clause-fits
unfolding with_new next_id
returns-clause-fits c = let made = c.in_ok-id.ensures.ok in rw (made.1, made.0) (new_dict_fits c.args.machine.now c.args.pairs)

pub returns-clause-follows : goal.returns-clause-follows
unfolding with_new next_id
returns-clause-follows c =
    let made = c.in_ok-id.ensures.ok in
    rw made.1 (follows_new_dict c.args.machine.now c.args.pairs c.requires.fit (rw made.1 at c.objects-count.ensures.kept))
