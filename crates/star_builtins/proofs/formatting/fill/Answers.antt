use Rattle.std.proofs.Common.{◌≡◌, ◌∙◌, sym, Err, None, rules, arith, slice_get}
use Rattle.star_builtins.specs.Filled.{plain_of}
use Rattle.star_builtins.specs.Reached.{names, store}
use Rattle.star_builtins.proofs.FitLemmas.{item_fits}
use Rattle.star_builtins.proofs.FilledLemmas.{fill_plain, fill_short, fill_more, fill_ends, fill_end}
use Rattle.star_builtins.proofs.formatting.fill.Goals as goal

pub loop-part-preserved-in-Some : goal.loop-part-preserved-in-Some
loop-part-preserved-in-Some c = record {
  low = omega arith;
  all = rw c.in_ok-push_text.ensures.ok
      (sym (fill_plain (names c.args.program.now) c.loop-part.out c.args.parts.now c.loop-part.part-index _ (store c.args.machine.now c.loop-part.meter.left) c.loop-part-test.true c.part-item.is _ _ (sym c.in-Some.ensures)) ∙ c.loop-part.invariant.all);
}

pub returns-in_default-at : goal.returns-in_default-at
returns-in_default-at c =
    let plain : plain_of c.part-item.result ≡ None = search rules in
    let none : slice_get c.args.values.now c.loop-part.at ≡ None = search rules in
    sym c.loop-part.invariant.all ∙ fill_short (names c.args.program.now) c.loop-part.out c.args.parts.now c.loop-part.part-index _ (store c.args.machine.now c.loop-part.meter.left) c.loop-part-test.true c.part-item.is c.args.values.now c.loop-part.at plain none

pub returns-in_err-fill_one : goal.returns-in_err-fill_one
returns-in_err-fill_one c =
    let plain : plain_of c.part-item.result ≡ None = search rules in
    let r : c.from_residual-in_err-fill_one.result ≡ Err c.in_err-fill_one.field-0.0 = search rules in
    rw (← c.loop-part.invariant.all, r) (fill_ends (names c.args.program.now) c.loop-part.out c.args.parts.now c.loop-part.part-index _ (store c.args.machine.now c.loop-part.meter.left) c.loop-part-test.true c.part-item.is c.args.values.now c.loop-part.at _ _ _ _ plain (sym c.in-Some-at.ensures) c.in_err-fill_one.ensures)

pub loop-part-preserved : goal.loop-part-preserved
loop-part-preserved c =
    let plain : plain_of c.part-item.result ≡ None = search rules in
    record {
      low = omega arith;
      all = sym (fill_more (names c.args.program.now) c.loop-part.out c.args.parts.now c.loop-part.part-index _ (store c.args.machine.now c.loop-part.meter.left) c.loop-part-test.true c.part-item.is c.args.values.now c.loop-part.at _ _ _ plain (sym c.in-Some-at.ensures) c.in_ok-fill_one.ensures) ∙ c.loop-part.invariant.all;
    }

pub returns : goal.returns
returns c = sym c.loop-part.invariant.all ∙ fill_end (names c.args.program.now) c.loop-part.out c.args.parts.now c.loop-part.part-index _ (store c.args.machine.now c.loop-part.meter.left) (omega arith)

pub fill_one-requires : goal.fill_one-requires
fill_one-requires c = item_fits c.args.machine.now c.args.values.now c.loop-part.at c.in-Some-at.value.now c.requires (sym c.in-Some-at.ensures)
