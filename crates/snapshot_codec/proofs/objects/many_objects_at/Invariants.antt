use Rattle.std.proofs.Common.{◌≡◌, ◌-◌, [], map}
use Rattle.snapshot_codec.specs.Contents.{object_of}
use Rattle.snapshot_codec.specs.Reading.{many_at, object_at}
use Rattle.snapshot_codec.proofs.objects.many_objects_at.Given as goal

abbrev pub invariant-loop : goal.invariant-loop
invariant-loop l = many_at object_at (l.count - l.counter) (map object_of l.objects) l.met l.rest ≡ many_at object_at l.count [] l.before l.bytes
