use Rattle.star_builtins.proofs.ChangedLemmas as lemma
use Rattle.star_builtins.proofs.changes.clear_dict.Goals as goal

pub returns-clause-is : goal.returns-clause-is
returns-clause-is c = lemma.cleared_dict c.args.machine.now c.clear.new.self c.args.id c.requires c.clear.ensures

pub returns-clause-follows : goal.returns-clause-follows
returns-clause-follows c = lemma.follows_clear_dict c.args.machine.now c.clear.new.self c.args.id c.objects-count.ensures.kept c.requires c.clear.ensures
