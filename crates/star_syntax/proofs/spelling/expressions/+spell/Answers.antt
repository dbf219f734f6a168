use Rattle.std.proofs.Common.{arith}
use Rattle.star_syntax.specs.declared.token.Mark.TheVariants as m
use Rattle.star_syntax.specs.SpellingOfParts.{expr_pair_spelling}
use Rattle.star_syntax.proofs.ListLemmas.{phrase_more}
use Rattle.star_syntax.proofs.SpellingLemmas.{spelling_laws, arguments_parts}
use Rattle.star_syntax.proofs.spelling.expressions.+spell.Goals as goal

pub arguments-returns : goal.arguments-returns
arguments-returns t c = let e = arguments_parts c.args.given.now in grind (arith, spelling_laws)

pub pairs-loop-place-preserved : goal.pairs-loop-place-preserved
pairs-loop-place-preserved t c =
    let e = phrase_more m.Comma expr_pair_spelling c.args.all.now c.loop-place.place c.index-all-place.result c.loop-place-test.true c.index-all-place.is in
    grind (arith, spelling_laws)
