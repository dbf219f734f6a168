use Rattle.std.proofs.Common.{◌≡◌, drop}
use Rattle.star_meaning.specs.Statements.{given_by}
use Rattle.star_run.proofs.filling.is_given.Given as goal

abbrev pub invariant-loop-entry : goal.invariant-loop-entry
invariant-loop-entry l = given_by l.named l.name ≡ given_by (drop l.entry-index l.named) l.name
