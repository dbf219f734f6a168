use Rattle.std.proofs.Common.{Option, ℕ, IsTrue, subst, sym, refl}
use Rattle.star_meaning.specs.State.{Object}
use Rattle.star_meaning.specs.Validity.{is_list}
use Rattle.snapshot_codec.proofs.Building.{list_filled}
use Rattle.snapshot_codec.proofs.build.fill_list.Goals as goal

pub list_extend-requires-clause-kind : goal.list_extend-requires-clause-kind
list_extend-requires-clause-kind c = subst (λ (o : Option (Object ℕ)). IsTrue (is_list o)) (sym c.requires.there) refl

pub returns : goal.returns
returns c = list_filled c.args.machine.now c.list_extend.new.self c.args.id c.args.items c.requires.there c.in_ok-list_extend.ensures.ok
