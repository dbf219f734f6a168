use Rattle.std.proofs.Common.{◌≡◌, map, drop}
use Rattle.std.specs.List.{list_all}
use Rattle.star_meaning.specs.Validity.{fits}
use Rattle.snapshot_codec.specs.Contents.{object_of}
use Rattle.snapshot_codec.proofs.refers.globals_fit.Given as goal

abbrev pub invariant-loop-global : goal.invariant-loop-global
invariant-loop-global l = list_all (λ global. fits (map object_of l.objects) global.1) (drop l.global-index l.globals) ≡ list_all (λ global. fits (map object_of l.objects) global.1) l.globals
