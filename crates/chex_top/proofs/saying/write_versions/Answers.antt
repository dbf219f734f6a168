use Rattle.std.proofs.Common.{◌++◌, [], map, refl, subst, arith, encode_utf8_all}
use Rattle.std.specs.Prelude.{zip}
use Rattle.std.proofs.lemmas.Result.{err_from_is_err_and}
use Rattle.chex_base.specs.Outside.{GrewBy, GrewByPrefix}
use Rattle.shared_run.specs.Written.{written}
use Rattle.chex_top.specs.RunTexts.{headed, versions_text}
use Rattle.chex_top.proofs.WrittenLemmas.{a_part, all_of_them, at_err, grew_none, grew_two, long_zip, on_err, one_more, pair_at, part_of_first, part_of_second, rose_later}
use Rattle.chex_top.proofs.saying.write_versions.Goals as goal

pub loop-place-init : goal.loop-place-init
loop-place-init g c = record {
  held = grew_none (g.W.Sink.held c.args.out.now);
  later = omega arith;
}

pub loop-place-preserved : goal.loop-place-preserved
loop-place-preserved g c =
    let sink = g.W.Sink in
    let texts = c.args.texts.now in
    let at = c.loop-place in
    let header = c.index-headers-place.result in
    let way = c.index-ways-place.result in
    let said = zip c.args.headers.now (map (written texts) c.args.ways.now) in
    let pair = pair_at c.args.headers.now c.args.ways.now (written texts) at.place header way c.requires.many c.loop-place-test.true c.index-headers-place.is c.index-ways-place.is in
    let nodes : GrewBy (encode_utf8_all (written texts way)) (sink.held c.write_piece.new.out) (sink.held c.write_nodes.new.out) =
    subst (λ w. GrewBy (encode_utf8_all (written texts w)) (sink.held c.write_piece.new.out) (sink.held c.write_nodes.new.out)) c.as_slice-nodes.ensures c.in_ok-write_nodes.ensures.held in
    record {
      held = one_more headed said at.place (header, written texts way) (header ++ written texts way) (sink.held c.args.out.now) (sink.held at.out) (sink.held c.write_nodes.new.out)
          pair.0 pair.1 refl at.invariant.held
          (grew_two header (written texts way) (sink.held at.out) (sink.held c.write_piece.new.out) (sink.held c.write_nodes.new.out) c.in_ok-write_piece.ensures.held nodes);
      later = omega (arith, at.invariant.later, c.in_ok-write_piece.ensures.later, c.in_ok-write_nodes.ensures.later);
    }

pub returns-in_err-write_piece-clause-held : goal.returns-in_err-write_piece-clause-held
returns-in_err-write_piece-clause-held g c =
    let sink = g.W.Sink in
    let texts = c.args.texts.now in
    let at = c.loop-place in
    let header = c.index-headers-place.result in
    let way = c.index-ways-place.result in
    let said = zip c.args.headers.now (map (written texts) c.args.ways.now) in
    let pair = pair_at c.args.headers.now c.args.ways.now (written texts) at.place header way c.requires.many c.loop-place-test.true c.index-headers-place.is c.index-ways-place.is in
    let p = err_from_is_err_and c.from_residual.result c.from_residual.ensures.1 in
    at_err c.from_residual.result p.0 (encode_utf8_all (versions_text c.args.headers.now (map (written texts) c.args.ways.now))) (sink.held c.args.out.now) (sink.held c.write_piece.new.out) p.1
    (a_part headed said at.place (header, written texts way) (header ++ written texts way) (sink.held c.args.out.now) (sink.held at.out) (sink.held c.write_piece.new.out)
    pair.0 pair.1 refl at.invariant.held
    (part_of_first header (written texts way) (sink.held at.out) (sink.held c.write_piece.new.out) c.in_err-write_piece.ensures.held))

pub returns-in_err-write_piece-clause-cause : goal.returns-in_err-write_piece-clause-cause
returns-in_err-write_piece-clause-cause g c =
    on_err c.from_residual.result (rose_later (g.W.Sink.faults c.args.out.now) (g.W.Sink.faults c.loop-place.out) (g.W.Sink.faults c.write_piece.new.out) c.loop-place.invariant.later c.in_err-write_piece.ensures.cause)

pub returns-in_err-write_nodes-clause-held : goal.returns-in_err-write_nodes-clause-held
returns-in_err-write_nodes-clause-held g c =
    let sink = g.W.Sink in
    let texts = c.args.texts.now in
    let at = c.loop-place in
    let header = c.index-headers-place.result in
    let way = c.index-ways-place.result in
    let said = zip c.args.headers.now (map (written texts) c.args.ways.now) in
    let pair = pair_at c.args.headers.now c.args.ways.now (written texts) at.place header way c.requires.many c.loop-place-test.true c.index-headers-place.is c.index-ways-place.is in
    let nodes : GrewByPrefix (encode_utf8_all (written texts way)) (sink.held c.write_piece.new.out) (sink.held c.write_nodes.new.out) =
    subst (λ w. GrewByPrefix (encode_utf8_all (written texts w)) (sink.held c.write_piece.new.out) (sink.held c.write_nodes.new.out)) c.as_slice-nodes.ensures c.in_err-write_nodes.ensures.held in
    let p = err_from_is_err_and c.from_residual-in_err-write_nodes.result c.from_residual-in_err-write_nodes.ensures.1 in
    at_err c.from_residual-in_err-write_nodes.result p.0 (encode_utf8_all (versions_text c.args.headers.now (map (written texts) c.args.ways.now))) (sink.held c.args.out.now) (sink.held c.write_nodes.new.out) p.1
    (a_part headed said at.place (header, written texts way) (header ++ written texts way) (sink.held c.args.out.now) (sink.held at.out) (sink.held c.write_nodes.new.out)
    pair.0 pair.1 refl at.invariant.held
    (part_of_second header (written texts way) (sink.held at.out) (sink.held c.write_piece.new.out) (sink.held c.write_nodes.new.out) c.in_ok-write_piece.ensures.held nodes))

pub returns-in_err-write_nodes-clause-cause : goal.returns-in_err-write_nodes-clause-cause
returns-in_err-write_nodes-clause-cause g c =
    on_err c.from_residual-in_err-write_nodes.result (rose_later (g.W.Sink.faults c.args.out.now) (g.W.Sink.faults c.write_piece.new.out) (g.W.Sink.faults c.write_nodes.new.out)
    (omega (arith, c.loop-place.invariant.later, c.in_ok-write_piece.ensures.later)) c.in_err-write_nodes.ensures.cause)

pub returns-clause-held : goal.returns-clause-held
returns-clause-held g c =
    let said = zip c.args.headers.now (map (written c.args.texts.now) c.args.ways.now) in
    all_of_them headed said c.loop-place.place ([], []) [] (g.W.Sink.held c.args.out.now) (g.W.Sink.held c.loop-place.out)
    (long_zip c.args.headers.now c.args.ways.now (written c.args.texts.now) c.loop-place.place c.loop-place-test.false) c.loop-place.invariant.held
