use Rattle.star_builtins.proofs.WalkLemmas.{given_fit}
use Rattle.star_builtins.proofs.stores.extend.Goals as goal

pub extend_items-requires-clause-more : goal.extend_items-requires-clause-more
extend_items-requires-clause-more c = rw (c.from_vec.ensures, c.in_ok-more.ensures) (given_fit c.args.machine.now c.args.of.now c.ran-nodes.ensures.kept c.requires.held c.requires.of)
