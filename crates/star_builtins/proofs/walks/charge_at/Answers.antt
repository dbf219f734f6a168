use Rattle.star_builtins.proofs.WalkLemmas.{place_dict}
use Rattle.star_builtins.proofs.walks.charge_at.Goals as goal

pub key_of-requires-clause-within : goal.key_of-requires-clause-within
key_of-requires-clause-within c = place_dict c.args.machine.now.state c.args.place c.in-Dict.id (rw c.in-Dict.is at c.requires.within)
