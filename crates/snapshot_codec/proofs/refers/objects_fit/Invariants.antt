use Rattle.std.proofs.Common.{◌≡◌, map, drop}
use Rattle.std.specs.List.{list_all}
use Rattle.star_meaning.specs.Validity.{all_in_object, fits}
use Rattle.snapshot_codec.specs.Contents.{object_of}
use Rattle.snapshot_codec.proofs.refers.objects_fit.Given as goal

abbrev pub invariant-loop-object : goal.invariant-loop-object
invariant-loop-object l = list_all (all_in_object (fits (map object_of l.all))) (map object_of (drop l.object-index l.objects)) ≡ list_all (all_in_object (fits (map object_of l.all))) (map object_of l.objects)
