use Rattle.star_builtins.proofs.ChangedLemmas as lemma
use Rattle.star_builtins.proofs.changes.insert_item.Goals as goal

pub returns-clause-follows : goal.returns-clause-follows
returns-clause-follows c =
    lemma.follows_insert c.args.machine.now c.list_insert.new.self c.args.id c.ran-nodes.ensures.kept c.requires.held c.requires.kind c.args.place c.args.value c.requires.value c.in_ok-list_insert.ensures.ok
