use Rattle.std.proofs.Common.{sym, ap, ◌∙◌, arith, drop, length, length-drop, ◌<◌, ◌+◌, ◌≡◌, Ok}
use Rattle.std.proofs.lemmas.Grind.{common_steps}
use Rattle.star_lexer.specs.Scan.{scan, with_prefix, turn}
use Rattle.star_lexer.specs.Layout.{start}
use Rattle.star_lexer.proofs.Scans.{loop_turn}
use Rattle.star_lexer.proofs.source.lex_chars.Goals as goal

pub loop-place-preserved : goal.loop-place-preserved
loop-place-preserved c =
    let l = c.loop-place in
    let (given, was, wrote) = c.in_ok-n.ensures.given in
    let within = c.in_ok-n.ensures.within in
    let read : turn l.layout (drop l.place c.args.text.now) ≡ Ok (record { layout = c.turn.new.layout; given = given; len = c.in_ok-n.n }) = grind (arith, common_steps, was) in
    let room : 0 < length (drop l.place c.args.text.now) = omega (arith, length-drop l.place c.args.text.now) in
    record {
      same = loop_turn start l.layout c.turn.new.layout l.out.items given l.place c.in_ok-n.n c.args.text.now l.invariant.same room within.0 read ∙ ap (λ xs. with_prefix xs (scan c.turn.new.layout 0 (drop (l.place + c.in_ok-n.n) c.args.text.now))) (sym wrote);
      within = omega (arith, length-drop l.place c.args.text.now);
      lines = omega (arith, c.in_ok-n.ensures.lines);
      columns = omega (arith, c.in_ok-n.ensures.columns);
      nested = c.in_ok-n.ensures.nested;
    }
