use Rattle.std.proofs.Common.{List, ℕ, ◌++◌, ap, ◌∙◌}
use Rattle.snapshot_codec.specs.Writing.{number_in}
use Rattle.snapshot_codec.proofs.Encoded.{dict_found, function_found, list_found}
use Rattle.snapshot_codec.proofs.encoding.put_object.Goals as goal

pub returns-in_ok-put_list-in-List : goal.returns-in_ok-put_list-in-List
returns-in_ok-put_list-in-List c =
    c.in_ok-put_list-in-List.ensures
    ∙ ap (λ (x : List ℕ). c.args.out.now.items ++ x) (list_found (number_in c.args.numbers.now.order.keys) c.args.machine.now c.args.id c.list-items.result.now c.in-List.ensures.value c.list-items.ensures.value)

pub returns-in_ok-put_dict-in-Dict : goal.returns-in_ok-put_dict-in-Dict
returns-in_ok-put_dict-in-Dict c =
    c.in_ok-put_dict-in-Dict.ensures
    ∙ ap (λ (x : List ℕ). c.args.out.now.items ++ x) (dict_found (number_in c.args.numbers.now.order.keys) c.args.machine.now c.args.id c.dict-pairs.result.now c.in-Dict.ensures.value c.dict-pairs.ensures.value)

pub returns-in_ok-put_function-in-Function : goal.returns-in_ok-put_function-in-Function
returns-in_ok-put_function-in-Function c =
    c.in_ok-put_function-in-Function.ensures
    ∙ ap (λ (x : List ℕ). c.args.out.now.items ++ x) (function_found (number_in c.args.numbers.now.order.keys) c.args.machine.now c.args.id _ _ c.function-cell.result.2.now c.function-cell.ensures.value)
