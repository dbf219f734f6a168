use Rattle.std.proofs.Common.{◌<◌, ◌≤◌, ◌∙◌, length, arith, rules}
use Rattle.chex_top.proofs.AloneLemmas.{ended, may_run, one_more, ran_here, starts, stopped}
use Rattle.chex_top.proofs.alone.run_alone.Goals as goal

pub loop-place-init : goal.loop-place-init
loop-place-init g c = record {
  loaded = c.in_ok-load.ensures.ok.0;
  running = starts c.args.cells c.args.inputs.now c.args.allowance (g.K.Kernel.steps c.args.kernel.now) (g.K.Kernel.steps c.load.new.self) c.new-text.result (g.K.Kernel.live c.load.new.self)
      c.in_ok-load.ensures.steps c.in_ok-load.ensures.ok.1 c.new-text.ensures;
  later = c.in_ok-load.ensures.later;
}

pub run_node-requires-clause-ready : goal.run_node-requires-clause-ready
run_node-requires-clause-ready g c =
    let at = c.loop-place in
    let inside : at.place < length c.args.cells = search rules in
    (may_run c.args.cells c.args.inputs.now c.args.allowance (g.K.Kernel.loaded at.kernel) (g.K.Kernel.steps c.args.kernel.now) (g.K.Kernel.steps at.kernel) at.place at.text (g.K.Kernel.live at.kernel)
    inside c.requires.few c.requires.allowance.1 c.requires.steps at.invariant.loaded at.invariant.running).ready

pub run_node-requires-clause-node : goal.run_node-requires-clause-node
run_node-requires-clause-node g c =
    let at = c.loop-place in
    let inside : at.place < length c.args.cells = search rules in
    (may_run c.args.cells c.args.inputs.now c.args.allowance (g.K.Kernel.loaded at.kernel) (g.K.Kernel.steps c.args.kernel.now) (g.K.Kernel.steps at.kernel) at.place at.text (g.K.Kernel.live at.kernel)
    inside c.requires.few c.requires.allowance.1 c.requires.steps at.invariant.loaded at.invariant.running).node_there

pub run_node-requires-clause-few : goal.run_node-requires-clause-few
run_node-requires-clause-few g c =
    let at = c.loop-place in
    let inside : at.place < length c.args.cells = search rules in
    (may_run c.args.cells c.args.inputs.now c.args.allowance (g.K.Kernel.loaded at.kernel) (g.K.Kernel.steps c.args.kernel.now) (g.K.Kernel.steps at.kernel) at.place at.text (g.K.Kernel.live at.kernel)
    inside c.requires.few c.requires.allowance.1 c.requires.steps at.invariant.loaded at.invariant.running).few

pub run_node-requires-clause-room : goal.run_node-requires-clause-room
run_node-requires-clause-room g c =
    let at = c.loop-place in
    let inside : at.place < length c.args.cells = search rules in
    (may_run c.args.cells c.args.inputs.now c.args.allowance (g.K.Kernel.loaded at.kernel) (g.K.Kernel.steps c.args.kernel.now) (g.K.Kernel.steps at.kernel) at.place at.text (g.K.Kernel.live at.kernel)
    inside c.requires.few c.requires.allowance.1 c.requires.steps at.invariant.loaded at.invariant.running).room

pub loop-place-preserved : goal.loop-place-preserved
loop-place-preserved g c =
    let at = c.loop-place in
    let inside : at.place < length c.args.cells = search rules in
    let x = c.in_ok-made in
    record {
      loaded = x.ensures.loaded ∙ at.invariant.loaded;
      running =
          one_more c.args.cells c.args.inputs.now c.args.allowance (g.K.Kernel.steps c.args.kernel.now) (g.K.Kernel.steps at.kernel) (g.K.Kernel.steps c.run_node.new.kernel) at.place
          at.text c.push_text.new.self (g.K.Kernel.live at.kernel) (g.K.Kernel.live c.run_node.new.kernel) (g.K.Kernel.loaded at.kernel) x.made at.invariant.running
          (ran_here c.args.cells c.args.inputs.now c.args.allowance at.invariant.running.state (g.K.Kernel.live at.kernel) at.place (g.K.Kernel.steps at.kernel) (g.K.Kernel.steps c.run_node.new.kernel) at.place
          (g.K.Kernel.loaded at.kernel) x.made at.invariant.running.live_is at.invariant.loaded inside c.requires.allowance.0 c.requires.allowance.1 x.ensures.measured x.ensures.steps)
          c.in-Done.is at.invariant.loaded x.ensures.live c.in_ok-push_text.ensures.ok;
      later = omega (arith, x.ensures.later, at.invariant.later);
    }

pub returns-in_default-clause-text : goal.returns-in_default-clause-text
returns-in_default-clause-text g c =
    let at = c.loop-place in
    let inside : at.place < length c.args.cells = search rules in
    let x = c.in_ok-made in
    (stopped c.args.cells c.args.inputs.now c.args.allowance (g.K.Kernel.steps c.args.kernel.now) (g.K.Kernel.steps at.kernel) (g.K.Kernel.steps c.run_node.new.kernel) at.place
    at.text c.push_text.new.self (g.K.Kernel.live at.kernel) x.made at.invariant.running
    (ran_here c.args.cells c.args.inputs.now c.args.allowance at.invariant.running.state (g.K.Kernel.live at.kernel) at.place (g.K.Kernel.steps at.kernel) (g.K.Kernel.steps c.run_node.new.kernel) at.place
    (g.K.Kernel.loaded at.kernel) x.made at.invariant.running.live_is at.invariant.loaded inside c.requires.allowance.0 c.requires.allowance.1 x.ensures.measured x.ensures.steps)
    c.in_default.not-Done c.in_ok-push_text.ensures.ok).text_is

pub returns-in_default-clause-steps : goal.returns-in_default-clause-steps
returns-in_default-clause-steps g c =
    let at = c.loop-place in
    let inside : at.place < length c.args.cells = search rules in
    let x = c.in_ok-made in
    (stopped c.args.cells c.args.inputs.now c.args.allowance (g.K.Kernel.steps c.args.kernel.now) (g.K.Kernel.steps at.kernel) (g.K.Kernel.steps c.run_node.new.kernel) at.place
    at.text c.push_text.new.self (g.K.Kernel.live at.kernel) x.made at.invariant.running
    (ran_here c.args.cells c.args.inputs.now c.args.allowance at.invariant.running.state (g.K.Kernel.live at.kernel) at.place (g.K.Kernel.steps at.kernel) (g.K.Kernel.steps c.run_node.new.kernel) at.place
    (g.K.Kernel.loaded at.kernel) x.made at.invariant.running.live_is at.invariant.loaded inside c.requires.allowance.0 c.requires.allowance.1 x.ensures.measured x.ensures.steps)
    c.in_default.not-Done c.in_ok-push_text.ensures.ok).counted

pub returns-clause-text : goal.returns-clause-text
returns-clause-text g c =
    let at = c.loop-place in
    let past : length c.args.cells ≤ at.place = search rules in
    (ended c.args.cells c.args.inputs.now c.args.allowance (g.K.Kernel.steps c.args.kernel.now) (g.K.Kernel.steps at.kernel) at.place at.text (g.K.Kernel.live at.kernel) past at.invariant.running).text_is

pub returns-clause-steps : goal.returns-clause-steps
returns-clause-steps g c =
    let at = c.loop-place in
    let past : length c.args.cells ≤ at.place = search rules in
    (ended c.args.cells c.args.inputs.now c.args.allowance (g.K.Kernel.steps c.args.kernel.now) (g.K.Kernel.steps at.kernel) at.place at.text (g.K.Kernel.live at.kernel) past at.invariant.running).counted
