use Rattle.star_parser.proofs.Texts.{one_tree}
use Rattle.star_parser.proofs.parser.one_tree.Goals as goal

pub returns : goal.returns
returns c = one_tree
