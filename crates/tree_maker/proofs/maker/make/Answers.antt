use Rattle.std.proofs.Common.{arith, refl, sym, ap, ◌∙◌, ◌+◌, length}
use Rattle.std.proofs.lemmas.List.{length_push}
use Rattle.tree_maker.specs.Generator.{made, fresh_before, copied}
use Rattle.tree_maker.proofs.Words.{no_draw, version_more, fresh_more, word_more, small_more}
use Rattle.tree_maker.proofs.maker.make.Goals as goal

pub loop-number-init : goal.loop-number-init
unfolding made fresh_before
loop-number-init c = record {
  all = c.new-all.ensures;
  many = ap length c.new-all.ensures;
  fresh = refl;
  small = omega arith;
  word = sym (no_draw c.args.seed);
}

pub loop-number-preserved : goal.loop-number-preserved
loop-number-preserved c =
    let was = c.loop-number.invariant in
    let many = ap length c.as_slice.ensures ∙ was.many in
    record {
      all = version_more c.args.seed c.args.cells c.loop-number.number c.loop-number.maker.fresh c.loop-number.maker.word c.loop-number.all c.as_slice.result.now c.add.new.self
          c.in_ok-name.name c.in_ok-sources.sources was.all was.fresh was.word c.as_slice.ensures c.in_ok-sources.ensures.sources c.in_ok-name.ensures c.in_ok-add.ensures.ok;
      many = ap length c.in_ok-add.ensures.ok ∙ length_push c.loop-number.all _ ∙ ap (λ n. n + 1) was.many;
      fresh = fresh_more c.args.seed c.args.cells c.loop-number.number c.loop-number.maker.fresh c.loop-number.maker.word (length c.as_slice.result.now) c.sources.new.self.fresh
          was.fresh was.word many c.in_ok-sources.ensures.fresh;
      small = small_more c.loop-number.number c.loop-number.maker.fresh c.args.cells (copied c.loop-number.maker.word c.args.cells (length c.as_slice.result.now)) c.sources.new.self.fresh
          was.small c.in_ok-sources.ensures.fresh;
      word = word_more c.args.seed c.args.cells c.loop-number.number c.loop-number.maker.fresh c.loop-number.maker.word (length c.as_slice.result.now) c.sources.new.self.fresh c.sources.new.self.word
          was.word many c.in_ok-sources.ensures.fresh c.in_ok-sources.ensures.word;
    }
