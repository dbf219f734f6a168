use Rattle.star_builtins.proofs.WalkLemmas.{given_fit}
use Rattle.star_builtins.proofs.functions.sequences.listed.Goals as goal

pub new_list-requires-clause-fit : goal.new_list-requires-clause-fit
new_list-requires-clause-fit c = rw (c.from_vec.ensures, c.in_ok-items.ensures) (given_fit c.args.machine.now c.args.of.now c.ran-nodes.ensures.kept c.requires.held c.requires.of)
