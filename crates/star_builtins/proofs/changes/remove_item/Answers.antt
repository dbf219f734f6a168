use Rattle.star_builtins.proofs.ChangedLemmas as lemma
use Rattle.star_builtins.proofs.changes.remove_item.Goals as goal

pub returns-clause-fits : goal.returns-clause-fits
returns-clause-fits c =
    lemma.removed_fits c.args.machine.now c.list_remove.new.self c.args.id c.ran-nodes.ensures.kept c.requires.held c.requires.kind c.args.place c.list_remove.result c.list_remove.ensures.item c.list_remove.ensures.rest

pub returns-clause-follows : goal.returns-clause-follows
returns-clause-follows c =
    lemma.follows_remove c.args.machine.now c.list_remove.new.self c.args.id c.ran-nodes.ensures.kept c.requires.held c.requires.kind c.args.place c.list_remove.ensures.rest
