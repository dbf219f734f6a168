use Rattle.std.proofs.Common.{◌≡◌, [], get_or, Some, sym, ap, ◌∙◌, arith}
use Rattle.std.specs.List.{slice_get}
use Rattle.std.specs.Option.{option_copied}
use Rattle.std.proofs.lemmas.List.{take_more_same}
use Rattle.std.proofs.lemmas.Option.{get_or_from_slice_get, slice_get-get_or, slice_get_within}
use Rattle.audit_record.proofs.FittingLemmas.{whole, longer, equal, different}
use Rattle.audit_record.proofs.fitting.first_difference.Goals as goal

pub returns-then-ne-clause-found : goal.returns-then-ne-clause-found
returns-then-ne-clause-found c = record {
  before = c.loop-place.invariant.same;
  left = slice_get-get_or c.args.lefts.now c.loop-place.place [] c.loop-place-test.true;
  right = sym c.at.ensures ∙ ap option_copied c.in-Some.is;
  apart = different (get_or c.args.lefts.now c.loop-place.place []) c.in-Some.right.now (sym c.ne.ensures ∙ c.if-ne.true);
}

pub loop-place-preserved : goal.loop-place-preserved
loop-place-preserved c =
    let right : slice_get c.args.rights.now c.loop-place.place ≡ Some c.in-Some.right.now = sym c.at.ensures ∙ ap option_copied c.in-Some.is in
    let within = slice_get_within c.args.rights.now c.loop-place.place c.in-Some.right.now right in
    let same = equal (get_or c.args.lefts.now c.loop-place.place []) c.in-Some.right.now (sym c.ne.ensures ∙ c.if-ne.false) in
    record {
      same = take_more_same c.args.lefts.now c.args.rights.now c.loop-place.place [] c.loop-place-test.true within c.loop-place.invariant.same (same ∙ sym (get_or_from_slice_get c.args.rights.now c.loop-place.place c.in-Some.right.now [] right));
      within = omega (arith, within);
    }

pub returns-in-None-at-clause-found : goal.returns-in-None-at-clause-found
returns-in-None-at-clause-found c =
    whole c.args.lefts.now c.args.rights.now c.loop-place.place c.loop-place.invariant.same (omega (arith, c.loop-place-test.false)) (omega (arith, c.loop-place.auto.place-end)) (sym c.at-2.ensures ∙ ap option_copied c.in-None-at.is)

pub returns-in-Some-at-clause-found : goal.returns-in-Some-at-clause-found
returns-in-Some-at-clause-found c =
    longer c.args.lefts.now c.args.rights.now c.loop-place.place c.in-Some-at.right.now c.loop-place.invariant.same (omega (arith, c.loop-place-test.false)) (omega (arith, c.loop-place.auto.place-end)) (sym c.at-2.ensures ∙ ap option_copied c.in-Some-at.is)
