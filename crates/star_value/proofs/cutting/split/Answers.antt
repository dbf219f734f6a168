use Rattle.std.proofs.Common.{◌≡◌, arith, subst, sym}
use Rattle.std.proofs.lemmas.Grind.{common_steps}
use Rattle.star_value.specs.Texts.{IsSplit, split}
use Rattle.star_value.proofs.Pieces.{split_is, split_none}
use Rattle.star_value.proofs.cutting.split.Goals as goal

pub returns-clause-cuts : goal.returns-clause-cuts
returns-clause-cuts c =
    let all : c.push-2.new.self ≡ split c.args.of.now c.args.by.now = grind (arith, common_steps, split_none) in
    subst (IsSplit c.args.of.now c.args.by.now) (sym all) (split_is _ _ c.requires)
