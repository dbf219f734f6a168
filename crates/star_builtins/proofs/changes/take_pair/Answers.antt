use Rattle.star_builtins.proofs.ChangedLemmas as lemma
use Rattle.star_builtins.proofs.changes.take_pair.Goals as goal

pub returns-clause-fits : goal.returns-clause-fits
returns-clause-fits c =
    lemma.found_fits c.args.machine.now c.dict_remove-value.new.self c.args.id c.ran-nodes.ensures.kept c.objects-count.ensures.kept c.requires.held c.requires.kind c.args.key.now c.dict_remove-value.result c.dict_remove-value.ensures.value c.dict_remove-value.ensures.rest

pub returns-clause-follows : goal.returns-clause-follows
returns-clause-follows c =
    lemma.follows_take c.args.machine.now c.dict_remove-value.new.self c.args.id c.ran-nodes.ensures.kept c.objects-count.ensures.kept c.requires.held c.requires.kind c.args.key.now c.dict_remove-value.ensures.rest
