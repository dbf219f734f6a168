use Rattle.std.proofs.Common.{◌≡◌, ◌+◌, ◌-◌, ◌/◌, arith, subst, sym}
use Rattle.std.specs.Prelude.{◌<◌, ◌↔◌}
use Rattle.std.proofs.lemmas.Grind.{common_steps}
use Rattle.star_value.specs.Ranges.{IsGiven, range_count}
use Rattle.star_value.proofs.RangeLaws.{range_count_is}
use Rattle.star_value.proofs.range.Range.len.Goals as goal

pub returns-clause-places : goal.returns-clause-places
returns-clause-places c =
    let count : (c.abs_diff.result - 1) / c.unsigned_abs.result + 1 ≡ range_count c.args.self.now = grind (arith, common_steps) in
    λ place. subst (λ n. (place < n) ↔ IsGiven c.args.self.now place) (sym count) (range_count_is c.args.self.now place)
