use Rattle.snapshot_codec.proofs.Building.{dict_there, filled_as, function_filled, function_kind, function_none, list_fit, list_there, object_again, pairs_apart, pairs_fit, values_fit}
use Rattle.snapshot_codec.proofs.build.fill.Goals as goal

pub fill_list-requires-clause-there : goal.fill_list-requires-clause-there
fill_list-requires-clause-there c = list_there c.args.machine.now c.args.id c.args.object c.requires.there _ c.in-List.is

pub fill_list-requires-clause-fit : goal.fill_list-requires-clause-fit
fill_list-requires-clause-fit c = list_fit c.args.machine.now.state.objects c.args.object _ c.in-List.is c.requires.fit

pub returns-in-List : goal.returns-in-List
returns-in-List c = filled_as c.fill_list.result c.args.machine.now c.fill_list.new.machine c.args.id c.args.object _ (object_again _ _ c.in-List.is) c.fill_list.ensures

pub fill_dict-requires-clause-there : goal.fill_dict-requires-clause-there
fill_dict-requires-clause-there c = dict_there c.args.machine.now c.args.id c.args.object c.requires.there _ c.in-Dict.is

pub fill_dict-requires-clause-fit : goal.fill_dict-requires-clause-fit
fill_dict-requires-clause-fit c = pairs_fit c.args.machine.now.state.objects c.args.object _ c.in-Dict.is c.requires.fit

pub fill_dict-requires-clause-keys : goal.fill_dict-requires-clause-keys
fill_dict-requires-clause-keys c = pairs_apart c.args.object _ c.in-Dict.is c.requires.keys

pub returns-in-Dict : goal.returns-in-Dict
returns-in-Dict c = filled_as c.fill_dict.result c.args.machine.now c.fill_dict.new.machine c.args.id c.args.object _ (object_again _ _ c.in-Dict.is) c.fill_dict.ensures

pub fill_defaults-requires-clause-kind : goal.fill_defaults-requires-clause-kind
fill_defaults-requires-clause-kind c = function_kind c.args.machine.now c.args.id c.args.object c.requires.there _ _ _ c.in-Function.is

pub fill_defaults-requires-clause-none : goal.fill_defaults-requires-clause-none
fill_defaults-requires-clause-none c = function_none c.args.machine.now c.args.id c.args.object c.requires.there _ _ _ c.in-Function.is

pub fill_defaults-requires-clause-fit : goal.fill_defaults-requires-clause-fit
fill_defaults-requires-clause-fit c = values_fit c.args.machine.now.state.objects c.args.object _ _ _ c.in-Function.is c.requires.fit

pub returns-in-Function : goal.returns-in-Function
returns-in-Function c = function_filled c.args.machine.now c.args.id c.args.object c.requires.there _ _ _ c.fill_defaults.new.machine c.in-Function.is c.fill_defaults.ensures
