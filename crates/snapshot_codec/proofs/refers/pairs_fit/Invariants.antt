use Rattle.std.proofs.Common.{◌≡◌, map, drop}
use Rattle.std.specs.List.{list_all}
use Rattle.star_meaning.specs.Validity.{all_in_pair, fits}
use Rattle.snapshot_codec.specs.Contents.{object_of}
use Rattle.snapshot_codec.proofs.refers.pairs_fit.Given as goal

abbrev pub invariant-loop-place : goal.invariant-loop-place
invariant-loop-place l = list_all (all_in_pair (fits (map object_of l.objects))) (drop l.place l.pairs) ≡ list_all (all_in_pair (fits (map object_of l.objects))) l.pairs
