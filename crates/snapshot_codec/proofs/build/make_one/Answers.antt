use Rattle.snapshot_codec.proofs.Building.{bare_dict, bare_function, bare_list, made_as}
use Rattle.snapshot_codec.proofs.build.make_one.Goals as goal

pub returns-in-List : goal.returns-in-List
returns-in-List c = made_as c.make_list.result c.args.machine.now c.make_list.new.machine _ _ (bare_list _ _ c.in-List.is) c.make_list.ensures

pub returns-in-Dict : goal.returns-in-Dict
returns-in-Dict c = made_as c.make_dict.result c.args.machine.now c.make_dict.new.machine _ _ (bare_dict _ _ c.in-Dict.is) c.make_dict.ensures

pub returns-in-Function : goal.returns-in-Function
returns-in-Function c = made_as c.make_function.result c.args.machine.now c.make_function.new.machine _ _ (bare_function _ _ _ _ _ c.in-Function.is c.len-count.ensures) c.make_function.ensures
