use Rattle.std.proofs.Common.{◌≡◌, ◌<◌, ◌≤◌, List, length, sym, ap, ◌∙◌, subst, arith}
use Rattle.plan_type.specs.declared.row.Row.{Row}
use Rattle.plan_type.specs.Costs.{IsSound}
use Rattle.exec_tree.specs.Forests.{cut}
use Rattle.audit_run.specs.Rows.{AreRows, failed_nodes}
use Rattle.audit_run.proofs.AddLemmas.{all_added, loaded_is, none_added, steps_all, steps_more}
use Rattle.audit_run.proofs.FailedLemmas.{failed_within, few_rows}
use Rattle.audit_run.proofs.SoundLemmas.{sound}
use Rattle.audit_run.proofs.WayLemmas.{some_at}
use Rattle.audit_run.proofs.auditing.audit.Goals as goal

pub loop-place-init : goal.loop-place-init
loop-place-init g c = record {
  rows = none_added c.args.versions.now c.args.allowance c.in_ok-rows.rows.items c.in_ok-rows.ensures.items;
  counted = omega (arith, c.in_ok-load.ensures.steps);
  few = omega (arith, c.in_ok-load.ensures.steps);
  loaded = loaded_is c.args.versions.now c.args.forest.now (g.K.Kernel.loaded c.load.new.kernel) c.requires.forest c.in_ok-load.ensures.loaded;
  later = c.in_ok-load.ensures.later;
}

pub add_version-requires-clause-steps : goal.add_version-requires-clause-steps
add_version-requires-clause-steps g c = omega (arith, c.loop-place.invariant.few, c.requires.steps, c.requires.versions, c.loop-place-test.true)

pub loop-place-preserved : goal.loop-place-preserved
loop-place-preserved g c =
    let versions = c.args.versions.now in
    let at = c.loop-place in
    let less : at.place < length versions = omega (arith, c.loop-place-test.true) in
    let some = some_at versions at.place less in
    record {
      rows = c.in_ok-add_version.ensures.rows;
      counted = steps_more versions c.args.allowance at.place some.0 (g.K.Kernel.steps c.args.kernel.now) (g.K.Kernel.steps at.kernel) (g.K.Kernel.steps c.add_version.new.kernel) some.1
          at.invariant.counted (c.in_ok-add_version.ensures.steps some.0 some.1);
      few = omega (arith, c.in_ok-add_version.ensures.few, at.invariant.few);
      loaded = c.in_ok-add_version.ensures.loaded ∙ at.invariant.loaded;
      later = omega (arith, c.in_ok-add_version.ensures.later, at.invariant.later);
    }

pub failed_nodes-requires : goal.failed_nodes-requires
failed_nodes-requires g c =
    let versions = c.args.versions.now in
    let rows = c.loop-place.rows.items in
    let all : AreRows versions c.args.allowance rows = all_added versions c.args.allowance c.loop-place.place rows (omega (arith, c.loop-place-test.false)) c.loop-place.invariant.rows in
    let few : length rows ≤ 512 = few_rows versions c.args.allowance c.count-count.result c.args.forest.now rows c.requires.forest c.count-count.ensures.count c.count-count.ensures.few all in
    omega (arith, few, ap length c.as_slice.ensures.value)

pub cut-requires : goal.cut-requires
cut-requires g c =
    let versions = c.args.versions.now in
    let rows = c.loop-place.rows.items in
    let all : AreRows versions c.args.allowance rows = all_added versions c.args.allowance c.loop-place.place rows (omega (arith, c.loop-place-test.false)) c.loop-place.invariant.rows in
    failed_within versions c.args.allowance c.args.forest.now rows c.in_ok-nodes.nodes.items c.as_slice-2.result.now c.requires.forest all
    (c.in_ok-nodes.ensures ∙ ap failed_nodes c.as_slice.ensures.value) c.as_slice-2.ensures.value

pub returns-clause-rows : goal.returns-clause-rows
returns-clause-rows g c =
    let versions = c.args.versions.now in
    let rows = c.loop-place.rows.items in
    let all : AreRows versions c.args.allowance rows = all_added versions c.args.allowance c.loop-place.place rows (omega (arith, c.loop-place-test.false)) c.loop-place.invariant.rows in
    subst (AreRows versions c.args.allowance) (sym c.from_vec.ensures) all

pub returns-clause-sound : goal.returns-clause-sound
returns-clause-sound g c = λ names.
    let versions = c.args.versions.now in
    let rows = c.loop-place.rows.items in
    let all : AreRows versions c.args.allowance rows = all_added versions c.args.allowance c.loop-place.place rows (omega (arith, c.loop-place-test.false)) c.loop-place.invariant.rows in
    let few : length rows ≤ 512 = few_rows versions c.args.allowance c.count-count.result c.args.forest.now rows c.requires.forest c.count-count.ensures.count c.count-count.ensures.few all in
    subst (λ (rs : List Row). IsSound (record { rows = rs })) (sym c.from_vec.ensures)
    (sound versions c.args.allowance rows c.requires.sources names c.requires.cells c.requires.allowance.0 c.requires.allowance.1 all few)

pub returns-clause-cut : goal.returns-clause-cut
returns-clause-cut g c =
    c.cut.ensures.cut
    ∙ ap (λ ns. cut ns c.args.forest.now) (c.as_slice-2.ensures.value ∙ (c.in_ok-nodes.ensures ∙ (ap failed_nodes c.as_slice.ensures.value ∙ ap failed_nodes (sym c.from_vec.ensures))))

pub returns-clause-steps : goal.returns-clause-steps
returns-clause-steps g c =
    steps_all c.args.versions.now c.args.allowance c.loop-place.place (g.K.Kernel.steps c.args.kernel.now) (g.K.Kernel.steps c.loop-place.kernel) (omega (arith, c.loop-place-test.false)) c.loop-place.invariant.counted
