use Rattle.std.proofs.Common.{◌∙◌, ◌++◌, arith, ap, sym, subst, take}
use Rattle.std.proofs.KnownBytes.{Appends-trans}
use Rattle.std.proofs.Math.Seq.{take-add}
use Rattle.std.proofs.lemmas.List.{take_rest}
use Rattle.std.specs.Io.KnownBytes.{Appends}
use Rattle.chex_base.proofs.out_sink.write_whole.Goals as goal

pub loop-done-preserved : goal.loop-done-preserved
loop-done-preserved g c =
    let done = c.loop-done.done in
    let count = c.in-Ok.count in
    let piece = c.args.piece.now in
    let same = take-add done count piece ∙ ap (λ more. take done piece ++ take count more) (sym (take_rest piece done)) in
    record {
      within = search arith;
      grew = subst (Appends _ _) (sym same) (Appends-trans _ _ _ _ _ c.loop-done.invariant.grew c.in-Ok.ensures.bytes);
    }
