use Rattle.std.proofs.Common.{ap}
use Rattle.star_value.specs.declared.value.Value.TheVariants as value
use Rattle.star_meaning.specs.Methods as spec
use Rattle.star_builtins.specs.Reached.{store, weighed}
use Rattle.star_builtins.proofs.TableLemmas as lemma
use Rattle.star_builtins.proofs.WeighedLemmas.{gives_weighed}
use Rattle.star_builtins.proofs.methods.call_method.Goals as goal

pub returns-in-List-clause-gives : goal.returns-in-List-clause-gives
returns-in-List-clause-gives c =
    rw c.in-List.is (gives_weighed (spec.call_method c.args.locked.now c.args.name.now (value.List c.in-List.id) c.args.call.positional c.args.call.named (store c.args.machine.now c.args.meter.now.left)) c.list_call.result (store c.list_call.new.machine c.list_call.new.meter.left)
    (rw c.as_slice-objects.ensures at c.list_call.ensures.gives))

pub returns-in-Dict-clause-gives : goal.returns-in-Dict-clause-gives
returns-in-Dict-clause-gives c =
    rw c.in-Dict.is (gives_weighed (spec.call_method c.args.locked.now c.args.name.now (value.Dict c.in-Dict.id) c.args.call.positional c.args.call.named (store c.args.machine.now c.args.meter.now.left)) c.dict_call.result (store c.dict_call.new.machine c.dict_call.new.meter.left)
    (rw c.as_slice-objects.ensures at c.dict_call.ensures.gives))

pub returns-in-Text-clause-gives : goal.returns-in-Text-clause-gives
returns-in-Text-clause-gives c = rw c.in-Text.is (c.text_call.ensures.gives c.args.locked.now)

pub returns-in-None-clause-gives : goal.returns-in-None-clause-gives
returns-in-None-clause-gives c = rw c.in-None.is (ap weighed (lemma.none_has c.args.locked.now c.args.name.now c.args.call.positional c.args.call.named (store c.args.machine.now c.args.meter.now.left)))

pub returns-in-Bool-clause-gives : goal.returns-in-Bool-clause-gives
returns-in-Bool-clause-gives c = rw c.in-Bool.is (ap weighed (lemma.bool_has c.args.locked.now c.args.name.now c.args.call.positional c.args.call.named (store c.args.machine.now c.args.meter.now.left) _))

pub returns-in-Int-clause-gives : goal.returns-in-Int-clause-gives
returns-in-Int-clause-gives c = rw c.in-Int.is (ap weighed (lemma.int_has c.args.locked.now c.args.name.now c.args.call.positional c.args.call.named (store c.args.machine.now c.args.meter.now.left) _))

pub returns-in-Tuple-clause-gives : goal.returns-in-Tuple-clause-gives
returns-in-Tuple-clause-gives c = rw c.in-Tuple.is (ap weighed (lemma.tuple_has c.args.locked.now c.args.name.now c.args.call.positional c.args.call.named (store c.args.machine.now c.args.meter.now.left) _))

pub returns-in-Range-clause-gives : goal.returns-in-Range-clause-gives
returns-in-Range-clause-gives c = rw c.in-Range.is (ap weighed (lemma.range_has c.args.locked.now c.args.name.now c.args.call.positional c.args.call.named (store c.args.machine.now c.args.meter.now.left) _))

pub returns-in-Function-clause-gives : goal.returns-in-Function-clause-gives
returns-in-Function-clause-gives c = rw c.in-Function.is (ap weighed (lemma.function_has c.args.locked.now c.args.name.now c.args.call.positional c.args.call.named (store c.args.machine.now c.args.meter.now.left) _))

pub returns-in-Builtin-clause-gives : goal.returns-in-Builtin-clause-gives
returns-in-Builtin-clause-gives c = rw c.in-Builtin.is (ap weighed (lemma.builtin_has c.args.locked.now c.args.name.now c.args.call.positional c.args.call.named (store c.args.machine.now c.args.meter.now.left) _))
