use Rattle.std.proofs.Common.{◌≡◌, [], take, drop}
use Rattle.nb_reader.specs.Manifest.{repeated_name}
use Rattle.nb_reader.proofs.manifest.distinct.Given as goal

abbrev pub invariant-loop-place : goal.invariant-loop-place
invariant-loop-place l = repeated_name (take l.place l.entries) (drop l.place l.entries) ≡ repeated_name [] l.entries
