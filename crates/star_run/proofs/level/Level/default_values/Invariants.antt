use Rattle.std.proofs.Common.{◌≡◌, map, drop, length}
use Rattle.star_builtins.specs.Reached.{AllFit}
use Rattle.star_meaning.specs.Expressions.{values, values_from}
use Rattle.star_run.specs.Fixed.{fixed, meaning}
use Rattle.star_run.specs.Running.{Goes, world}
use Rattle.star_run.proofs.level.Level.default_values.Given as goal

abbrev pub invariant-loop-named : goal.invariant-loop-named
invariant-loop-named g l = record {
  same : values_from l.values (map (λ named. meaning (fixed l.self.given) l.self.depth named.value) (drop l.named-index l.defaults)) (world l.run) ≡ values (map (λ named. meaning (fixed l.self.given) l.self.depth named.value) l.fn.defaults) (world l.fn.run);
  goes : Goes l.fn.run l.run;
  fit : AllFit l.run.machine l.values;
  count : length l.values ≡ l.named-index;
}
