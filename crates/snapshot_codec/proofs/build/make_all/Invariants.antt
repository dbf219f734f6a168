use Rattle.std.proofs.Common.{◌≡◌, map, take}
use Rattle.snapshot_codec.specs.Building.{bare, with_objects}
use Rattle.snapshot_codec.specs.Contents.{object_of}
use Rattle.snapshot_codec.proofs.build.make_all.Given as goal

abbrev pub invariant-loop-object : goal.invariant-loop-object
invariant-loop-object l = l.machine ≡ with_objects l.fn.machine (map bare (map object_of (take l.object-index l.objects)))
