use Rattle.star_builtins.proofs.ChangedLemmas as lemma
use Rattle.star_builtins.proofs.changes.extend_items.Goals as goal

pub returns-clause-follows : goal.returns-clause-follows
returns-clause-follows c =
    lemma.follows_extend c.args.machine.now c.list_extend.new.self c.args.id c.ran-nodes.ensures.kept c.requires.held c.requires.kind c.args.more c.requires.more c.in_ok-list_extend.ensures.ok
