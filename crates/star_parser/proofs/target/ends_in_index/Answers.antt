use Rattle.std.proofs.Common.{arith}
use Rattle.std.proofs.lemmas.Grind.{common_steps}
use Rattle.star_parser.proofs.Targets.{ends_last}
use Rattle.star_parser.proofs.target.ends_in_index.Goals as goal

pub returns-in-Some-Index : goal.returns-in-Some-Index
returns-in-Some-Index c = let e = ends_last c.args.suffixes.now in grind (arith, common_steps)

pub returns-in_default : goal.returns-in_default
returns-in_default c = let e = ends_last c.args.suffixes.now in grind (arith, common_steps)
