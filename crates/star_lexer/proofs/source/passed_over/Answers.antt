use Rattle.std.proofs.Common.{◌≡◌, ◌-◌, ◌++◌, ◌==◌, ◌&&◌, true, length, take, drop, ap, ◌∙◌, append-nil, sym, arith}
use Rattle.std.proofs.lemmas.Grind.{common_steps}
use Rattle.star_lexer.specs.Chars.{newline, first, passed_over}
use Rattle.star_lexer.proofs.Passed.{passed_step, passed_few}
use Rattle.star_lexer.proofs.source.passed_over.Goals as goal

pub loop-left-preserved : goal.loop-left-preserved
loop-left-preserved c =
    let left = c.loop-left.left.now in
    let out = c.loop-left.text.items in
    let same : take (length left - 1) (drop 1 left) ≡ drop 1 left = grind (arith, common_steps) in
    let test : (c.c-item.result == 13 && first (drop 1 left) == newline) ≡ true = ap (λ xs. c.c-item.result == 13 && first xs == newline) (sym same) ∙ sym c.is_passed_over.ensures ∙ c.if-not-is_passed_over.false in
    ap (λ xs. out ++ passed_over xs) same ∙ ap (λ out. out ++ passed_over (drop 1 left)) (sym (append-nil out)) ∙ passed_step left out (passed_over c.args.source.now) c.c-item.result true c.in-len1-up.len_at_least c.c-item.is test c.loop-left.invariant

pub returns-clause-few : goal.returns-clause-few
returns-clause-few c = passed_few c.loop-left.text.items _ c.args.source.now c.loop-left.invariant
