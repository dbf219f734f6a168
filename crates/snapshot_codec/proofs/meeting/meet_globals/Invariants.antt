use Rattle.std.proofs.Common.{◌≡◌}
use Rattle.std.specs.List.{flat_map}
use Rattle.star_meaning.specs.Snapshot.{references}
use Rattle.snapshot_codec.specs.Meeting.{first_references, met_with}
use Rattle.snapshot_codec.proofs.meeting.meet_globals.Given as goal

-- what is left and what was met are all
abbrev pub invariant-loop-value : goal.invariant-loop-value
invariant-loop-value l = met_with l.met.keys (flat_map (λ entry. references entry.1) l.value-iterator) ≡ met_with l.fn.met.keys (first_references l.machine)
