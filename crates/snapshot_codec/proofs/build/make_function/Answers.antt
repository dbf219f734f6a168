use Rattle.std.proofs.Common.{◌∙◌, ◌++◌, ◌∷◌, [], List, IsTrue, ap, subst, sym}
use Rattle.std.specs.List.{list_all}
use Rattle.star_value.specs.declared.value.Value.{Value}
use Rattle.star_meaning.specs.State.{AFunction, with_new}
use Rattle.star_meaning.specs.Validity.{fits}
use Rattle.snapshot_codec.specs.Building.{with_objects}
use Rattle.snapshot_codec.proofs.Building.{nones_fit}
use Rattle.snapshot_codec.proofs.build.make_function.Goals as goal

pub new_function-requires-clause-fit : goal.new_function-requires-clause-fit
new_function-requires-clause-fit c = subst (λ (items : List Value). IsTrue (list_all (fits c.args.machine.now.state.objects) items)) (sym c.in_ok-values.ensures) (nones_fit c.args.machine.now.state.objects c.args.count)

pub returns : goal.returns
unfolding with_new
returns c = c.in_ok-_id.ensures.ok.1 ∙ ap (λ (items : List Value). with_objects c.args.machine.now (c.args.machine.now.state.objects ++ AFunction c.args.cell c.args.number items ∷ [])) c.in_ok-values.ensures
