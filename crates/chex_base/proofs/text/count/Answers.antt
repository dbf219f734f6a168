use Rattle.std.proofs.Common.{rules}
use Rattle.std.proofs.lemmas.Str.{chars_from_encodes}
use Rattle.chex_base.proofs.text.count.Goals as goal

pub returns-clause-len : goal.returns-clause-len
returns-clause-len c = search (rules, chars_from_encodes)
