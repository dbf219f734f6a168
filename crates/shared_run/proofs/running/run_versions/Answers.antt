use Rattle.std.proofs.Common.{IsSome}
use Rattle.chex_base.specs.Outside.{Rose}
use Rattle.replayer.proofs.StopLemmas.{rose_later}
use Rattle.shared_run.proofs.AloneLemmas.{room_left}
use Rattle.shared_run.proofs.CourseLemmas.{planned_alone, planned_ends, planned_loaded, planned_many, planned_texts, planned_tree, planned_ways}
use Rattle.shared_run.proofs.running.run_versions.Goals as goal

pub carry_out-requires-clause-tree : goal.carry_out-requires-clause-tree
carry_out-requires-clause-tree g c = planned_tree c.args.versions.now c.args.budget.now c.args.allowance c.in-Ok.planned c.in-Ok.ensures.planned

pub carry_out-requires-clause-steps : goal.carry_out-requires-clause-steps
carry_out-requires-clause-steps g c =
    room_left c.args.versions.now c.args.allowance (g.K.Kernel.steps c.args.kernel.now) (g.K.Kernel.steps c.prepare.new.kernel) c.requires.allowance.0 c.requires.allowance.1 c.requires.versions c.requires.cells
    c.requires.steps c.in-Ok.ensures.steps

pub returns-clause-texts : goal.returns-clause-texts
returns-clause-texts g c =
    planned_texts c.args.versions.now c.args.budget.now c.args.allowance c.in-Ok.planned c.in-Ok.ensures.planned c.requires.sources c.requires.names (IsSome (g.S.Store.stock c.args.store.now).told)
    c.in_ok-ways.ways c.carry_out.result c.in_ok-ways.ensures.ways c.carry_out.ensures.same c.carry_out.ensures.texts

pub returns-clause-ways : goal.returns-clause-ways
returns-clause-ways g c =
    planned_ways c.args.versions.now c.args.budget.now c.args.allowance c.in-Ok.planned c.in-Ok.ensures.planned c.requires.sources c.requires.names
    c.in_ok-ways.ways c.carry_out.result c.in_ok-ways.ensures.ways c.carry_out.ensures.same c.carry_out.ensures.many

pub returns-clause-loaded : goal.returns-clause-loaded
returns-clause-loaded g c =
    planned_loaded c.args.versions.now c.args.budget.now c.args.allowance c.in-Ok.planned c.in-Ok.ensures.planned c.carry_out.result (g.K.Kernel.loaded c.carry_out.new.kernel) c.carry_out.ensures.loaded

pub returns-clause-err : goal.returns-clause-err
returns-clause-err g c =
    let begun = g.K.Kernel.faults c.args.kernel.now in
    let between = g.K.Kernel.faults c.prepare.new.kernel in
    let over = g.K.Kernel.faults c.carry_out.new.kernel in
    planned_ends c.args.versions.now c.args.budget.now c.args.allowance c.in-Ok.planned c.in-Ok.ensures.planned c.requires.sources c.requires.names (Rose begun over) (Rose between over)
    (Rose (g.S.Store.faults c.args.store.now) (g.S.Store.faults c.carry_out.new.store)) (g.S.Store.stock c.args.store.now).told c.carry_out.result (rose_later begun between over c.prepare.ensures.later)
    c.in-Ok.ensures.few c.carry_out.ensures.err

pub returns-clause-alone : goal.returns-clause-alone
returns-clause-alone g c =
    planned_alone c.args.versions.now c.args.budget.now c.args.allowance c.in-Ok.planned c.in-Ok.ensures.planned c.requires.sources c.requires.names
    c.in_ok-ways.ways c.carry_out.result c.in_ok-ways.ensures.ways c.carry_out.ensures.same

pub returns-clause-many : goal.returns-clause-many
returns-clause-many g c =
    planned_many c.args.versions.now c.args.budget.now c.args.allowance c.in-Ok.planned c.in-Ok.ensures.planned c.in_ok-ways.ways c.carry_out.result c.in_ok-ways.ensures.ways c.carry_out.ensures.same
