use Rattle.std.proofs.Common.{◌<◌, length}
use Rattle.star_builtins.specs.Sorting.{better}
use Rattle.star_builtins.proofs.SortLemmas.{Leads}
use Rattle.star_builtins.proofs.functions.orders.best_place.Given as goal

abbrev pub invariant-loop-place : goal.invariant-loop-place
invariant-loop-place l = record { within : l.best < length l.values; leads : Leads (better l.greatest) l.values l.best l.place }
