use Rattle.std.proofs.Common.{IsSome}
use Rattle.chex_base.specs.Outside.{Rose}
use Rattle.shared_run.proofs.ReplayLemmas.{left_alone, left_loaded, left_many, left_refuses, left_right, left_rows, left_texts, left_tree, left_ways}
use Rattle.shared_run.proofs.recorded.replay_versions.Goals as goal

pub carry_out-requires-clause-tree : goal.carry_out-requires-clause-tree
carry_out-requires-clause-tree g c =
    left_tree c.args.versions.now c.args.allowance c.args.costs c.requires.sound c.requires.fit c.requires.sources c.requires.names c.in_ok-forest.forest c.in_ok-forest.ensures.left

pub returns-clause-texts : goal.returns-clause-texts
returns-clause-texts g c =
    left_texts c.args.versions.now c.args.allowance c.args.costs c.requires.sound c.requires.fit c.requires.sources c.requires.names c.in_ok-forest.forest c.in_ok-forest.ensures.left
    c.args.budget.now c.in_ok-forest.plan c.in_ok-ways.ways (IsSome (g.S.Store.stock c.args.store.now).told) c.carry_out.result c.in_ok-ways.ensures.ways c.carry_out.ensures.same c.carry_out.ensures.texts
    c.carry_out.ensures.rows

pub returns-clause-ways : goal.returns-clause-ways
returns-clause-ways g c =
    left_ways c.args.versions.now c.args.allowance c.args.costs c.requires.sound c.requires.fit c.requires.sources c.requires.names c.in_ok-forest.forest c.in_ok-forest.ensures.left
    c.args.budget.now c.in_ok-forest.plan c.in_ok-ways.ways c.carry_out.result c.in_ok-ways.ensures.within c.carry_out.ensures.same c.carry_out.ensures.many

pub returns-clause-many : goal.returns-clause-many
returns-clause-many g c =
    left_many c.args.versions.now c.args.allowance c.args.costs c.requires.sound c.requires.fit c.requires.sources c.requires.names c.in_ok-forest.forest c.in_ok-forest.ensures.left
    c.args.budget.now c.in_ok-forest.plan c.in_ok-ways.ways c.carry_out.result c.in_ok-ways.ensures.ways c.carry_out.ensures.same

pub returns-clause-rows : goal.returns-clause-rows
returns-clause-rows g c =
    left_rows c.args.versions.now c.args.allowance c.args.costs c.requires.sound c.requires.fit c.requires.sources c.requires.names c.in_ok-forest.forest c.in_ok-forest.ensures.left
    (IsSome (g.S.Store.stock c.args.store.now).told) c.carry_out.result c.carry_out.ensures.rows

pub returns-clause-alone : goal.returns-clause-alone
returns-clause-alone g c =
    left_alone c.args.versions.now c.args.allowance c.args.costs c.requires.sound c.requires.fit c.requires.sources c.requires.names c.in_ok-forest.forest c.in_ok-forest.ensures.left
    c.args.budget.now c.in_ok-forest.plan c.in_ok-ways.ways (IsSome (g.S.Store.stock c.args.store.now).told) c.carry_out.result c.in_ok-ways.ensures.ways c.carry_out.ensures.same c.carry_out.ensures.rows

pub returns-clause-loaded : goal.returns-clause-loaded
returns-clause-loaded g c =
    left_loaded c.args.versions.now c.args.allowance c.args.costs c.requires.sound c.requires.fit c.requires.sources c.requires.names c.in_ok-forest.forest c.in_ok-forest.ensures.left
    c.carry_out.result (g.K.Kernel.loaded c.carry_out.new.kernel) c.carry_out.ensures.loaded

pub returns-clause-err : goal.returns-clause-err
returns-clause-err g c =
    left_refuses c.args.versions.now c.args.allowance c.args.costs c.requires.sound c.requires.fit c.requires.sources c.requires.names c.in_ok-forest.forest c.in_ok-forest.ensures.left
    c.args.budget.now c.in_ok-forest.plan c.in_ok-ways.ways c.in_ok-forest.ensures.least (Rose (g.K.Kernel.faults c.args.kernel.now) (g.K.Kernel.faults c.carry_out.new.kernel))
    (Rose (g.S.Store.faults c.args.store.now) (g.S.Store.faults c.carry_out.new.store)) (g.S.Store.stock c.args.store.now).told c.carry_out.result c.carry_out.ensures.err

pub returns-clause-right : goal.returns-clause-right
returns-clause-right g c =
    left_right c.args.versions.now c.args.allowance c.args.costs c.requires.sound c.requires.fit c.requires.sources c.requires.names c.in_ok-forest.forest c.in_ok-forest.ensures.left
    c.args.budget.now c.in_ok-forest.plan c.in_ok-ways.ways c.in_ok-forest.ensures.least (Rose (g.K.Kernel.faults c.args.kernel.now) (g.K.Kernel.faults c.carry_out.new.kernel))
    (Rose (g.S.Store.faults c.args.store.now) (g.S.Store.faults c.carry_out.new.store)) (g.S.Store.stock c.args.store.now).told c.carry_out.result c.carry_out.ensures.err
