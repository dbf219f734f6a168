use Rattle.star_builtins.proofs.ChangedLemmas as lemma
use Rattle.star_builtins.proofs.changes.set_item.Goals as goal

pub returns-clause-follows : goal.returns-clause-follows
returns-clause-follows c =
    lemma.follows_set c.args.machine.now c.list_set.new.self c.args.id c.ran-nodes.ensures.kept c.requires.held c.requires.kind c.args.place c.args.value c.requires.value c.list_set.ensures
