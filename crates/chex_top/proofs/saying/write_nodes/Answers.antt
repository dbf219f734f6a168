use Rattle.std.proofs.Common.{◌-◌, [], ap, arith, encode_utf8_all}
use Rattle.std.proofs.lemmas.Result.{err_from_is_err_and}
use Rattle.shared_run.specs.Written.{text_in, written}
use Rattle.chex_top.proofs.WrittenLemmas.{a_part, all_of_them, at_err, grew_none, on_err, one_more, rose_later, text_at}
use Rattle.chex_top.proofs.saying.write_nodes.Goals as goal

pub loop-node-init : goal.loop-node-init
loop-node-init g c = record {
  held = grew_none (g.W.Sink.held c.args.out.now);
  later = omega arith;
}

pub loop-node-preserved : goal.loop-node-preserved
loop-node-preserved g c =
    let sink = g.W.Sink in
    let texts = c.args.texts.now in
    let nodes = c.args.nodes.now in
    let at = c.loop-node in
    let text = c.index-texts-node.result in
    let here = text_at texts nodes at.node-index c.node-item.result _ text c.requires.nodes c.loop-node-test.true c.node-item.is (ap (λ n. n - 1) c.node.view_is) c.index-texts-node.is in
    record {
      held = one_more (text_in texts) nodes at.node-index c.node-item.result text (sink.held c.args.out.now) (sink.held at.out) (sink.held c.write_if_some.new.out)
          c.loop-node-test.true c.node-item.is here at.invariant.held c.in_ok-write_if_some.ensures.held;
      later = omega (arith, at.invariant.later, c.in_ok-write_if_some.ensures.later);
    }

pub returns-in_err-write_if_some-clause-held : goal.returns-in_err-write_if_some-clause-held
returns-in_err-write_if_some-clause-held g c =
    let sink = g.W.Sink in
    let texts = c.args.texts.now in
    let nodes = c.args.nodes.now in
    let at = c.loop-node in
    let text = c.index-texts-node.result in
    let here = text_at texts nodes at.node-index c.node-item.result _ text c.requires.nodes c.loop-node-test.true c.node-item.is (ap (λ n. n - 1) c.node.view_is) c.index-texts-node.is in
    let p = err_from_is_err_and c.from_residual.result c.from_residual.ensures.1 in
    at_err c.from_residual.result p.0 (encode_utf8_all (written texts nodes)) (sink.held c.args.out.now) (sink.held c.write_if_some.new.out) p.1
    (a_part (text_in texts) nodes at.node-index c.node-item.result text (sink.held c.args.out.now) (sink.held at.out) (sink.held c.write_if_some.new.out)
    c.loop-node-test.true c.node-item.is here at.invariant.held c.in_err-write_if_some.ensures.held)

pub returns-in_err-write_if_some-clause-cause : goal.returns-in_err-write_if_some-clause-cause
returns-in_err-write_if_some-clause-cause g c =
    on_err c.from_residual.result (rose_later (g.W.Sink.faults c.args.out.now) (g.W.Sink.faults c.loop-node.out) (g.W.Sink.faults c.write_if_some.new.out) c.loop-node.invariant.later c.in_err-write_if_some.ensures.cause)

pub returns-clause-held : goal.returns-clause-held
returns-clause-held g c =
    all_of_them (text_in c.args.texts.now) c.args.nodes.now c.loop-node.node-index 0 [] (g.W.Sink.held c.args.out.now) (g.W.Sink.held c.loop-node.out) c.loop-node-test.false c.loop-node.invariant.held
