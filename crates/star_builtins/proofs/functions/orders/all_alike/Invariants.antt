use Rattle.std.proofs.Common.{◌≡◌, drop}
use Rattle.std.specs.List.{list_all}
use Rattle.star_meaning.specs.Builtins.{are_alike}
use Rattle.star_builtins.proofs.functions.orders.all_alike.Given as goal

abbrev pub invariant-loop-value : goal.invariant-loop-value
invariant-loop-value l = list_all (are_alike l.first) (drop l.value-index l.values) ≡ list_all (are_alike l.first) l.values
