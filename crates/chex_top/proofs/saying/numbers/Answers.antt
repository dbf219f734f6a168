use Rattle.chex_top.specs.RunTexts.{numbers_with}
use Rattle.chex_top.proofs.saying.numbers.Goals as goal

pub returns : goal.returns
unfolding numbers_with
returns c = cc
