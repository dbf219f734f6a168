use Rattle.std.proofs.Common.{ap, sym, ◌∙◌, length, arith}
use Rattle.std.specs.Str.{chars}
use Rattle.std.proofs.lemmas.Str.{chars-nil}
use Rattle.chex_base.proofs.text.Text.new.Goals as goal

pub returns : goal.returns
returns c = ap chars c.new.ensures.bytes ∙ chars-nil

pub invariant_of-result : goal.invariant_of-result
invariant_of-result c = (sym (ap length (ap chars c.new.ensures.bytes ∙ chars-nil)), omega arith)
