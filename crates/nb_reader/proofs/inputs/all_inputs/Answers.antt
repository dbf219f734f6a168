use Rattle.std.proofs.Common.{◌≡◌, ◌++◌, [], ◌∷◌, sym, ◌∙◌, ap}
use Rattle.std.specs.Str.{chars}
use Rattle.chex_base.specs.Inputs.{with_value}
use Rattle.chex_base.proofs.InputsLemmas.{with_value-last}
use Rattle.nb_reader.proofs.InputsLemmas.{name_of, names_of, names_of-sorted, nothing_before, names-one_more, one_more}
use Rattle.nb_reader.proofs.inputs.all_inputs.Goals as goal

pub loop-name-init : goal.loop-name-init
loop-name-init c = record {
  so_far = rw (c.new-inputs.ensures, c.into_iter-name-iterator.ensures.into_iter_gives, c.iter-name-items.ensures.rest) (nothing_before _);
  rising = rw (c.new-inputs.ensures, c.into_iter-name-iterator.ensures.into_iter_gives, c.iter-name-items.ensures.rest) (names_of-sorted c.args.members.now.entries c.iter-name-items.ensures.ordered);
}

pub loop-name-preserved : goal.loop-name-preserved
loop-name-preserved c =
    let named : c.in_ok-name.name ≡ name_of c.in-Some.name.now = c.in_ok-name.ensures.points ∙ ap chars c.as_str.ensures.value in
    let sorted = rw c.in-Some.ensures.steps at c.loop-name.invariant.rising in
    let grown : c.set.new.self ≡ c.loop-name.inputs ++ (name_of c.in-Some.name.now, c.in-Some-2.value) ∷ []
    = c.in_ok-set-in-Some-2.ensures.ok ∙ ap (λ name. with_value c.loop-name.inputs name c.in-Some-2.value) named
    ∙ with_value-last c.loop-name.inputs (name_of c.in-Some.name.now) c.in-Some-2.value (names_of c.next.new.self) sorted in
    record {
      so_far = rw grown (one_more c.loop-name.inputs c.in-Some.name.now c.in-Some.value.now c.next.new.self c.in-Some-2.value _
          (sym c.in_ok-input_in.ensures ∙ c.in-Some-2.is) (rw c.in-Some.ensures.steps at c.loop-name.invariant.so_far));
      rising = rw (grown, names-one_more c.loop-name.inputs (name_of c.in-Some.name.now) c.in-Some-2.value (names_of c.next.new.self)) sorted;
    }
