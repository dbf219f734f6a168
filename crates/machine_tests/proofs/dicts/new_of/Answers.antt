use Rattle.machine_tests.proofs.dicts.new_of.Goals as goal

pub new_dict_of-requires-clause-fit : goal.new_dict_of-requires-clause-fit
new_dict_of-requires-clause-fit c = c.in_ok-pairs.ensures _
