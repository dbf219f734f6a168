use Rattle.std.proofs.Common.{◌≡◌, ◌++◌}
use Rattle.star_resolver.proofs.texts.Texts.into_names.Given as goal

abbrev pub invariant-loop-text : goal.invariant-loop-text
invariant-loop-text l = l.names.items ++ l.text-iterator ≡ l.initial.text-iterator
