use Rattle.std.proofs.Common.{◌≡◌, false, rules}
use Rattle.std.proofs.Math.Facts.{to_z-of_z}
use Rattle.star_meaning.specs.Values.{is_zero}
use Rattle.star_builtins.proofs.RangeRows.{fits_range}
use Rattle.star_builtins.proofs.functions.ranges.new_range.Goals as goal

pub returns-clause-fits : goal.returns-clause-fits
returns-clause-fits c = λ m.
    let some : is_zero c.args.step ≡ false = search rules in
    rw (to_z-of_z c.ranges.start, to_z-of_z c.ranges.stop, to_z-of_z c.ranges.step)
    (fits_range m (record { start = c.args.start; stop = c.args.stop; step = c.args.step }) c.ranges.start c.ranges.stop c.ranges.step some)
