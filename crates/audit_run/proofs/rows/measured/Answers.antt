use Rattle.std.proofs.Common.{◌≡◌, ◌≤◌, length, refl, ap, ◌∙◌, arith}
use Rattle.std.proofs.lemmas.List.Elements.{All-contains}
use Rattle.exec_tree.specs.declared.checked.Checked.{Checked}
use Rattle.audit_run.proofs.MeasuringLemmas.{ends, few_steps, may_run, measured_more, starts}
use Rattle.audit_run.proofs.WayLemmas.{element, same_read, there_at}
use Rattle.audit_run.proofs.rows.measured.Goals as goal

pub loop-number-init : goal.loop-number-init
loop-number-init g c = record {
  rows = λ version there.
      starts c.args.versions.now c.args.allowance version 0 (g.K.Kernel.steps c.args.kernel.now) (g.K.Kernel.steps c.args.kernel.now) (g.K.Kernel.live c.args.kernel.now) c.new-rows.result.items
      refl c.requires.started refl c.new-rows.ensures.items;
  loaded = refl;
  later = omega arith;
}

pub next_row-requires-clause-ready : goal.next_row-requires-clause-ready
next_row-requires-clause-ready g c =
    let versions = c.args.versions.now in
    let w = c.index-versions-place.result in
    let there = there_at versions c.args.place w c.requires.place c.index-versions-place.is in
    let one = element versions c.args.place w there in
    let at = c.loop-number in
    (may_run versions c.args.allowance w (g.K.Kernel.loaded at.kernel) c.args.nodes.now at.number at.parent c.index-nodes-number.result at.reached (g.K.Kernel.live at.kernel)
    (g.K.Kernel.steps c.args.kernel.now) (g.K.Kernel.steps at.kernel) at.rows.items one c.requires.sources c.requires.allowance.1
    (All-contains (λ (x : Checked). length x.cells ≤ 64) versions w c.requires.cells one) c.requires.steps (at.invariant.loaded ∙ c.requires.loaded) (c.requires.nodes w there)
    c.loop-number-test.true c.index-nodes-number.is (at.invariant.rows w there)).ready

pub next_row-requires-clause-node : goal.next_row-requires-clause-node
next_row-requires-clause-node g c =
    let versions = c.args.versions.now in
    let w = c.index-versions-place.result in
    let there = there_at versions c.args.place w c.requires.place c.index-versions-place.is in
    let one = element versions c.args.place w there in
    let at = c.loop-number in
    (may_run versions c.args.allowance w (g.K.Kernel.loaded at.kernel) c.args.nodes.now at.number at.parent c.index-nodes-number.result at.reached (g.K.Kernel.live at.kernel)
    (g.K.Kernel.steps c.args.kernel.now) (g.K.Kernel.steps at.kernel) at.rows.items one c.requires.sources c.requires.allowance.1
    (All-contains (λ (x : Checked). length x.cells ≤ 64) versions w c.requires.cells one) c.requires.steps (at.invariant.loaded ∙ c.requires.loaded) (c.requires.nodes w there)
    c.loop-number-test.true c.index-nodes-number.is (at.invariant.rows w there)).node_there

pub next_row-requires-clause-few : goal.next_row-requires-clause-few
next_row-requires-clause-few g c =
    let versions = c.args.versions.now in
    let w = c.index-versions-place.result in
    let there = there_at versions c.args.place w c.requires.place c.index-versions-place.is in
    let one = element versions c.args.place w there in
    let at = c.loop-number in
    (may_run versions c.args.allowance w (g.K.Kernel.loaded at.kernel) c.args.nodes.now at.number at.parent c.index-nodes-number.result at.reached (g.K.Kernel.live at.kernel)
    (g.K.Kernel.steps c.args.kernel.now) (g.K.Kernel.steps at.kernel) at.rows.items one c.requires.sources c.requires.allowance.1
    (All-contains (λ (x : Checked). length x.cells ≤ 64) versions w c.requires.cells one) c.requires.steps (at.invariant.loaded ∙ c.requires.loaded) (c.requires.nodes w there)
    c.loop-number-test.true c.index-nodes-number.is (at.invariant.rows w there)).few

pub next_row-requires-clause-room : goal.next_row-requires-clause-room
next_row-requires-clause-room g c =
    let versions = c.args.versions.now in
    let w = c.index-versions-place.result in
    let there = there_at versions c.args.place w c.requires.place c.index-versions-place.is in
    let one = element versions c.args.place w there in
    let at = c.loop-number in
    (may_run versions c.args.allowance w (g.K.Kernel.loaded at.kernel) c.args.nodes.now at.number at.parent c.index-nodes-number.result at.reached (g.K.Kernel.live at.kernel)
    (g.K.Kernel.steps c.args.kernel.now) (g.K.Kernel.steps at.kernel) at.rows.items one c.requires.sources c.requires.allowance.1
    (All-contains (λ (x : Checked). length x.cells ≤ 64) versions w c.requires.cells one) c.requires.steps (at.invariant.loaded ∙ c.requires.loaded) (c.requires.nodes w there)
    c.loop-number-test.true c.index-nodes-number.is (at.invariant.rows w there)).room

pub loop-number-preserved : goal.loop-number-preserved
loop-number-preserved g c = record {
  rows = λ version there.
      let versions = c.args.versions.now in
      let w = c.index-versions-place.result in
      let at = c.loop-number in
      let given : w.inputs ≡ version.inputs = ap (λ (y : Checked). y.inputs) (same_read versions c.args.place version w there c.index-versions-place.is) in
      measured_more versions c.args.allowance version (g.K.Kernel.loaded at.kernel) w.inputs c.args.nodes.now at.number at.parent c.index-nodes-number.result at.reached c.is_done-reached.result
      (g.K.Kernel.live at.kernel) (g.K.Kernel.live c.next_row.new.kernel) (g.K.Kernel.steps c.args.kernel.now) (g.K.Kernel.steps at.kernel) (g.K.Kernel.steps c.next_row.new.kernel)
      at.rows.items _ c.in_ok-row.row (element versions c.args.place version there) c.requires.sources c.requires.allowance.0 c.requires.allowance.1
      (at.invariant.loaded ∙ c.requires.loaded) given (c.requires.nodes version there) c.loop-number-test.true c.index-nodes-number.is (at.invariant.rows version there)
      c.in_ok-row.ensures.came c.in_ok-row.ensures.missed c.in_ok-row.ensures.live c.in_ok-row.ensures.steps c.is_done-reached.ensures c.in_ok-push.ensures.items;
  loaded = c.in_ok-row.ensures.loaded ∙ c.loop-number.invariant.loaded;
  later = omega (arith, c.in_ok-row.ensures.later, c.loop-number.invariant.later);
}

pub returns-clause-rows : goal.returns-clause-rows
returns-clause-rows g c = λ version there.
    let at = c.loop-number in
    (ends c.args.versions.now c.args.allowance version c.args.nodes.now at.number at.parent at.reached (g.K.Kernel.live at.kernel) (g.K.Kernel.steps c.args.kernel.now) (g.K.Kernel.steps at.kernel) at.rows.items
    (element c.args.versions.now c.args.place version there) (c.requires.nodes version there) c.loop-number-test.false (at.invariant.rows version there)).rows_are

pub returns-clause-steps : goal.returns-clause-steps
returns-clause-steps g c = λ version there.
    let at = c.loop-number in
    (ends c.args.versions.now c.args.allowance version c.args.nodes.now at.number at.parent at.reached (g.K.Kernel.live at.kernel) (g.K.Kernel.steps c.args.kernel.now) (g.K.Kernel.steps at.kernel) at.rows.items
    (element c.args.versions.now c.args.place version there) (c.requires.nodes version there) c.loop-number-test.false (at.invariant.rows version there)).counted

pub returns-clause-few : goal.returns-clause-few
returns-clause-few g c =
    let versions = c.args.versions.now in
    let w = c.index-versions-place.result in
    let there = there_at versions c.args.place w c.requires.place c.index-versions-place.is in
    let at = c.loop-number in
    few_steps versions c.args.allowance w at.number at.parent at.reached (g.K.Kernel.live at.kernel) (g.K.Kernel.steps c.args.kernel.now) (g.K.Kernel.steps at.kernel) at.rows.items
    (All-contains (λ (x : Checked). length x.cells ≤ 64) versions w c.requires.cells (element versions c.args.place w there)) (at.invariant.rows w there)
