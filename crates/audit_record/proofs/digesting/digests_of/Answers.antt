use Rattle.std.proofs.Common.{◌≡◌, ◌<◌, ◌+◌, ◌-◌, ℕ, [], ◌∷◌, ◌++◌, take, length, get_or, sym, ap, ap₂, ◌∙◌, arith, add-one}
use Rattle.std.proofs.lemmas.List.{take_all}
use Rattle.sha2.specs.Sha256.{sha256}
use Rattle.exec_tree.specs.Keys.{key_of}
use Rattle.exec_tree.specs.Forests.{cells_of, inputs_of, parents_of}
use Rattle.audit_record.specs.Digests.{digest_at, digests, key_bytes}
use Rattle.audit_record.proofs.DigestLemmas.{digests-none, digests-step, length-digests, numbered_next}
use Rattle.audit_record.proofs.digesting.digests_of.Goals as goal

pub loop-place-init : goal.loop-place-init
loop-place-init c = c.new-digests.ensures ∙ sym digests-none

same_place : (k : ℕ) → k + 1 - 1 ≡ k
same_place k = omega arith

pub loop-place-preserved : goal.loop-place-preserved
loop-place-preserved c =
    let k = c.loop-place.place in
    let forest = c.args.forest.now in
    let made = digests (take k forest.nodes) in
    let parent = c.parent.result in
    let key = key_bytes (key_of c.inputs.result.now c.cell.result.now) in
    let within : k < length forest.nodes = omega (arith, c.loop-place-test.true, c.count-count.ensures.count) in
    let parent_is : parent ≡ get_or (parents_of forest.nodes) k 0 = c.parent.ensures.parent ∙ ap (λ n. get_or (parents_of forest.nodes) n 0) (same_place k) in
    let step = digests-step forest k parent c.cell.result.now c.inputs.result.now within parent_is (sym (numbered_next (cells_of forest) k) ∙ c.cell.ensures) (sym (numbered_next (inputs_of forest) k) ∙ c.inputs.ensures) in
    let above : c.digest_at-above.result ≡ digest_at made parent = c.digest_at-above.ensures ∙ ap (λ ds. digest_at ds parent) (c.as_slice.ensures ∙ c.loop-place.invariant) in
    let digest : c.in_ok-digest.digest ≡ sha256 (digest_at made parent ++ key) = c.in_ok-digest.ensures ∙ ap (λ a. sha256 (a ++ key)) above in
    c.in_ok-push.ensures.ok ∙ ap₂ (λ ds d. ds ++ d ∷ []) c.loop-place.invariant digest ∙ sym step ∙ ap (λ n. digests (take n forest.nodes)) (sym (add-one k))

pub returns-clause-few : goal.returns-clause-few
returns-clause-few c =
    let forest = c.args.forest.now in
    let all = take_all c.loop-place.place forest.nodes (omega (arith, c.loop-place-test.false, c.count-count.ensures.count)) in
    let same : length c.loop-place.digests ≡ length forest.nodes = ap length (c.loop-place.invariant ∙ ap digests all) ∙ length-digests forest.nodes in
    omega (arith, same, c.count-count.ensures.count, c.count-count.ensures.few)
