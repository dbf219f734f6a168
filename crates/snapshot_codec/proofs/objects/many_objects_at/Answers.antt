use Rattle.std.proofs.Common.{◌≡◌, ℕ, [], Ok, map, subst, sym, ◌∙◌}
use Rattle.std.proofs.lemmas.Result.{err_from_is_err_and}
use Rattle.std.proofs.lemmas.List.{length-map, map_push}
use Rattle.snapshot_codec.specs.Contents.{object_of}
use Rattle.snapshot_codec.specs.Reading.{Fails, many_at, numbered_object_at, object_at}
use Rattle.snapshot_codec.proofs.ReadingSteps.{ends, goes_on, is_done}
use Rattle.snapshot_codec.proofs.objects.many_objects_at.Goals as goal

pub returns-in_err-object : goal.returns-in_err-object
returns-in_err-object c =
    let p = err_from_is_err_and c.from_residual.result c.from_residual.ensures.1 in
    rw (p.1, p.2) (ends object_at c.in_err-object.field-0.0 (map object_of c.loop.objects) c.args.count c.loop.counter c.loop.met c.loop.rest.now (many_at object_at c.args.count [] c.args.before c.args.bytes.now) c.loop-test.true (subst (λ (n : ℕ). Fails c.in_err-object.field-0.0 (numbered_object_at n c.loop.met c.loop.rest.now)) (c.len-number.ensures ∙ sym (length-map c.loop.objects object_of)) c.in_err-object.ensures) c.loop.invariant)

pub loop-preserved : goal.loop-preserved
loop-preserved c =
    rw (c.in_ok-push.ensures.ok, map_push object_of c.loop.objects c.in_ok-object.object) (goes_on object_at (map object_of c.loop.objects) c.args.count c.loop.counter c.loop.met c.loop.rest.now (object_of c.in_ok-object.object) c.in_ok-object.now c.in_ok-object.after.now (many_at object_at c.args.count [] c.args.before c.args.bytes.now) c.loop-test.true (subst (λ (n : ℕ). numbered_object_at n c.loop.met c.loop.rest.now ≡ Ok (object_of c.in_ok-object.object, c.in_ok-object.now, c.in_ok-object.after.now)) (c.len-number.ensures ∙ sym (length-map c.loop.objects object_of)) c.in_ok-object.ensures) c.loop.invariant)

pub returns : goal.returns
returns c = is_done object_at (map object_of c.loop.objects) c.args.count c.loop.counter c.loop.met c.loop.rest.now (many_at object_at c.args.count [] c.args.before c.args.bytes.now) c.loop-test.false c.loop.invariant
