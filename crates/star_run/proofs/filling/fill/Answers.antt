use Rattle.std.proofs.Common.{◌≡◌, None, rules, sym}
use Rattle.star_run.proofs.ArgumentLemmas.{fill_none, fill_some, fill_stands, fill_unknown}
use Rattle.star_run.proofs.filling.fill.Goals as goal

pub returns-then-not-are_named-clause-gives : goal.returns-then-not-are_named-clause-gives
returns-then-not-are_named-clause-gives c =
    fill_unknown c.args.def.now c.args.defaults.now c.in_ok-parameters.parameters.items c.as_slice-2.result.now c.args.call.positional c.args.call.named c.as_slice.result.now c.are_named.result c.in_ok-parameters.ensures
    c.as_slice-2.ensures.value c.as_slice.ensures c.are_named.ensures c.if-not-are_named.true

pub returns-in_default-clause-gives : goal.returns-in_default-clause-gives
returns-in_default-clause-gives c =
    let none : c.in_ok-filling.field-0 ≡ None = search rules in
    fill_none c.args.def.now c.args.defaults.now c.in_ok-parameters.parameters.items c.as_slice-2.result.now c.args.call.positional c.args.call.named c.as_slice.result.now c.are_named.result c.in_ok-parameters.ensures
    c.as_slice-2.ensures.value c.as_slice.ensures c.are_named.ensures
    c.as_slice-3.result.now c.as_slice-4.result.now c.in_ok-filling.field-0 c.as_slice-3.ensures.value c.as_slice-4.ensures c.in_ok-filling.ensures c.if-not-are_named.false none

pub returns-clause-gives : goal.returns-clause-gives
returns-clause-gives c =
    fill_some c.args.def.now c.args.defaults.now c.in_ok-parameters.parameters.items c.as_slice-2.result.now c.args.call.positional c.args.call.named c.as_slice.result.now c.are_named.result c.in_ok-parameters.ensures
    c.as_slice-2.ensures.value c.as_slice.ensures c.are_named.ensures
    c.as_slice-3.result.now c.as_slice-4.result.now c.in_ok-filling.field-0 c.as_slice-3.ensures.value c.as_slice-4.ensures c.in_ok-filling.ensures
    c.as_slice-5.result.now c.in-Some.filling c.in_ok-slots.slots c.in-Some.is c.as_slice-5.ensures.value c.in_ok-slots.ensures c.if-not-are_named.false

pub returns-clause-fits : goal.returns-clause-fits
returns-clause-fits c = λ m h k l.
    fill_stands c.args.def.now c.args.defaults.now c.in_ok-parameters.parameters.items c.as_slice-2.result.now c.args.call.positional c.args.call.named c.as_slice.result.now c.are_named.result c.in_ok-parameters.ensures
    c.as_slice-2.ensures.value c.as_slice.ensures c.are_named.ensures
    c.as_slice-3.result.now c.as_slice-4.result.now c.in_ok-filling.field-0 c.as_slice-3.ensures.value c.as_slice-4.ensures c.in_ok-filling.ensures
    c.as_slice-5.result.now c.in-Some.filling c.in_ok-slots.slots c.in-Some.is c.as_slice-5.ensures.value c.in_ok-slots.ensures m h k l
