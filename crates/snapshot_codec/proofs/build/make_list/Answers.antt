use Rattle.std.proofs.Common.{◌∙◌, ◌++◌, ◌∷◌, [], List, IsTrue, ap, subst, sym, refl}
use Rattle.std.specs.List.{list_all}
use Rattle.star_value.specs.declared.value.Value.{Value}
use Rattle.star_meaning.specs.State.{AList, with_new}
use Rattle.star_meaning.specs.Validity.{fits}
use Rattle.snapshot_codec.specs.Building.{with_objects}
use Rattle.snapshot_codec.proofs.build.make_list.Goals as goal

pub new_list-requires-clause-fit : goal.new_list-requires-clause-fit
new_list-requires-clause-fit c = subst (λ (items : List Value). IsTrue (list_all (fits c.args.machine.now.state.objects) items)) (sym c.new-items.ensures) refl

pub returns : goal.returns
unfolding with_new
returns c = c.in_ok-_id.ensures.ok.1 ∙ ap (λ (items : List Value). with_objects c.args.machine.now (c.args.machine.now.state.objects ++ AList items ∷ [])) c.new-items.ensures
