use Rattle.std.proofs.Common.{sym, ap, ◌∙◌, ◌≤◌, length, arith, drop, ◌+◌, length-drop, ◌≡◌, false, Ok}
use Rattle.std.proofs.lemmas.Grind.{common_steps}
use Rattle.star_lexer.specs.Texts.{far, content, before, blamed, part_at, closes, opening}
use Rattle.star_lexer.specs.Verdict.{meant}
use Rattle.star_lexer.proofs.Contents.{literal_turn, literal_begins}
use Rattle.star_lexer.proofs.Styles.{opening_fits}
use Rattle.star_lexer.proofs.literal.literal.Goals as goal

pub loop-at-init : goal.loop-at-init
loop-at-init c = record {
  same = literal_begins _ _ _ _ c.style_at-style.ensures c.opening_len-at.ensures.value c.new-points.ensures.items;
  within = let fits = opening_fits c.args.text.now c.requires in omega (arith, fits, c.opening_len-at.ensures.value, ap (λ q. length (opening q)) c.style_at-style.ensures);
  some = omega (arith, c.opening_len-at.ensures.some);
}

pub loop-at-preserved : goal.loop-at-preserved
loop-at-preserved c =
    let l = c.loop-at in
    let q = c.style_at-style.result in
    let n = c.in-Ok.ensures.within in
    let text = c.args.text.now in
    let open_here : closes q (drop l.at text) ≡ false = grind (arith, common_steps, c.closes.ensures, c.if-closes.false) in
    let fits : c.in-Ok.len ≤ length (drop l.at text) = grind (arith, common_steps, n.1) in
    let read : part_at q (drop l.at text) ≡ Ok (meant c.in-Ok.meaning, c.in-Ok.len) = grind (arith, common_steps, c.in-Ok.ensures.value) in
    let turn = literal_turn q text l.points.items (meant c.in-Ok.meaning) l.at c.in-Ok.len l.invariant.same c.loop-at-test.true open_here n.0 fits read in
    record {
      same = turn ∙ ap (λ xs. blamed (before xs (far (l.at + c.in-Ok.len) (content q 0 (drop (l.at + c.in-Ok.len) text))))) (sym c.in_ok-add-in-Ok.ensures);
      within = omega (arith, fits, length-drop l.at text);
      some = omega (arith, l.invariant.some);
    }
