use Rattle.star_builtins.proofs.ChangedLemmas as lemma
use Rattle.star_builtins.proofs.changes.clear_list.Goals as goal

pub returns-clause-is : goal.returns-clause-is
returns-clause-is c = lemma.cleared_list c.args.machine.now c.clear.new.self c.args.id c.requires c.clear.ensures

pub returns-clause-follows : goal.returns-clause-follows
returns-clause-follows c = lemma.follows_clear c.args.machine.now c.clear.new.self c.args.id c.requires c.clear.ensures
