use Rattle.std.proofs.Common.{◌≡◌, ◌++◌}
use Rattle.std.specs.List.{filter_map}
use Rattle.star_meaning.specs.Operators.{at_int}
use Rattle.star_meaning.specs.Values.{integers_of}
use Rattle.star_value.specs.Ranges.{range_count}
use Rattle.star_builtins.specs.Taken.{taken_from}
use Rattle.star_builtins.proofs.slicing.points_at.Given as goal

abbrev pub invariant-loop-place : goal.invariant-loop-place
invariant-loop-place l = record {
  count : l.place-end ≡ range_count l.range;
  all : l.taken.items ++ taken_from l.points l.range l.place l.place-end ≡ filter_map (at_int l.points) (integers_of l.range);
}
