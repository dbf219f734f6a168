use Rattle.std.proofs.Common.{◌-◌, ◌^◌}
use Rattle.snapshot_codec.proofs.Lengths.{dict_long, function_long, list_long}
use Rattle.snapshot_codec.proofs.measures.object_size.Goals as goal

pub returns-in-List : goal.returns-in-List
returns-in-List c = list_long c.args.machine.now c.args.id c.list_size.result (2 ^ 64 - 1) c.list-items.result.now c.in-List.ensures.value c.list-items.ensures.value c.list_size.ensures

pub returns-in-Dict : goal.returns-in-Dict
returns-in-Dict c = dict_long c.args.machine.now c.args.id c.dict_size.result (2 ^ 64 - 1) c.dict-pairs.result.now c.in-Dict.ensures.value c.dict-pairs.ensures.value c.dict_size.ensures

pub returns-in-Function : goal.returns-in-Function
returns-in-Function c =
    function_long c.args.machine.now c.args.id c.function_size.result (2 ^ 64 - 1) c.function.result.0 c.function.result.1 c.function.result.2.now c.function.ensures.value (c.function_size.ensures c.function.result.0 c.function.result.1)
