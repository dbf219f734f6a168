use Rattle.std.proofs.Common.{◌≡◌, drop}
use Rattle.star_meaning.specs.Statements.{given_by}
use Rattle.star_run.proofs.filling.given_by.Given as goal

abbrev pub invariant-loop-place : goal.invariant-loop-place
invariant-loop-place l = given_by l.named l.name ≡ given_by (drop l.place l.named) l.name
