use Rattle.std.proofs.Common.{◌≡◌, map, drop}
use Rattle.std.specs.List.{list_all}
use Rattle.star_meaning.specs.Validity.{fits}
use Rattle.snapshot_codec.specs.Contents.{object_of}
use Rattle.snapshot_codec.proofs.refers.+fits.Given as goal

-- those from here fit just where all do
abbrev pub invariant-all_fit-loop-value : goal.invariant-all_fit-loop-value
invariant-all_fit-loop-value l = list_all (fits (map object_of l.objects)) (drop l.value-index l.values) ≡ list_all (fits (map object_of l.objects)) l.values
