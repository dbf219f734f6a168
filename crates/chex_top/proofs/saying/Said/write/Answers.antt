use Rattle.std.proofs.Common.{◌++◌, map, subst, encode_utf8_all}
use Rattle.std.proofs.lemmas.Result.{err_from_is_err_and}
use Rattle.chex_base.specs.Outside.{Received}
use Rattle.shared_run.specs.Written.{written}
use Rattle.chex_top.specs.RunTexts.{versions_text}
use Rattle.chex_top.proofs.WrittenLemmas.{at_err, part_of_first, received_second}
use Rattle.chex_top.proofs.saying.Said.write.Goals as goal

pub returns-clause-held : goal.returns-clause-held
returns-clause-held g c =
    let sink = g.W.Sink in
    let inside = c.self.inside in
    let versions = versions_text inside.headers (map (written inside.texts) inside.ways) in
    subst (λ text. Received (sink.held c.args.out.now) (sink.held c.write_piece.new.out) c.write_piece.result (encode_utf8_all text)) c.self.view_is
    (received_second versions inside.last (sink.held c.args.out.now) (sink.held c.write_versions.new.out) (sink.held c.write_piece.new.out) c.write_piece.result
    (rw (← c.as_slice.ensures, ← c.as_slice-2.ensures, ← c.as_slice-3.ensures) c.in_ok-write_versions.ensures.held) c.write_piece.ensures.held)

pub returns-in_err-write_versions-clause-held : goal.returns-in_err-write_versions-clause-held
returns-in_err-write_versions-clause-held g c =
    let sink = g.W.Sink in
    let inside = c.self.inside in
    let versions = versions_text inside.headers (map (written inside.texts) inside.ways) in
    let p = err_from_is_err_and c.from_residual.result c.from_residual.ensures.1 in
    subst (λ text. Received (sink.held c.args.out.now) (sink.held c.write_versions.new.out) c.from_residual.result (encode_utf8_all text)) c.self.view_is
    (at_err c.from_residual.result p.0 (encode_utf8_all (versions ++ inside.last)) (sink.held c.args.out.now) (sink.held c.write_versions.new.out) p.1
    (part_of_first versions inside.last (sink.held c.args.out.now) (sink.held c.write_versions.new.out)
    (rw (← c.as_slice.ensures, ← c.as_slice-2.ensures, ← c.as_slice-3.ensures) c.in_err-write_versions.ensures.held)))
