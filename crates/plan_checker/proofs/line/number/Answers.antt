use Rattle.std.proofs.Common.{◌∙◌, sym}
use Rattle.plan_checker.proofs.Numbers.{number_cut}
use Rattle.plan_checker.proofs.line.number.Goals as goal

pub returns : goal.returns
returns c = (c.in-Some-numeral.ensures.0, number_cut c.args.bytes.now c.in-Some.end c.in-Some-numeral.number (sym c.blank.ensures ∙ c.in-Some.is) c.in-Some-numeral.ensures.1)
