use Rattle.star_builtins.proofs.ChangedLemmas as lemma
use Rattle.star_builtins.proofs.changes.put_pair.Goals as goal

pub returns-clause-follows : goal.returns-clause-follows
returns-clause-follows c =
    lemma.follows_put c.args.machine.now c.dict_put.new.self c.args.id c.ran-nodes.ensures.kept c.objects-count.ensures.kept c.requires.held c.requires.kind c.args.key c.args.value c.requires.key c.requires.value c.in_ok-dict_put.ensures.ok
