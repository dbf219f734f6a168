use Rattle.star_meaning.specs.Validity.{is_dict}
use Rattle.snapshot_codec.proofs.DefinedLaws.{held_none, held_some}
use Rattle.snapshot_codec.proofs.refers.is_dict.Goals as goal

pub returns-in-Some : goal.returns-in-Some
returns-in-Some c = held_some is_dict c.args.objects.now c.args.id _ _ _ c.place_of-place.ensures c.in-Some.ensures c.holds_dict.ensures

pub returns-in-None : goal.returns-in-None
returns-in-None c = held_none is_dict c.args.objects.now c.args.id _ c.place_of-place.ensures c.in-None.ensures
