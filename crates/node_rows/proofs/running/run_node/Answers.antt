use Rattle.node_rows.proofs.RowLemmas.{measured_done, measured_failed}
use Rattle.node_rows.proofs.running.run_node.Goals as goal

pub returns-in-Done-clause-measured : goal.returns-in-Done-clause-measured
returns-in-Done-clause-measured g c =
    measured_done (g.K.Kernel.loaded c.args.kernel.now) c.args.node c.args.inputs.now c.args.allowance c.args.parent c.args.number (g.K.Kernel.live c.args.kernel.now) (g.K.Kernel.live c.run.new.self) c.in_ok-ran.ran
    c.size.result c.digest-text.result c.in_ok-printed.printed c.in_ok-ran.ensures.ok c.in_ok-ran.ensures.live c.in-Done.is c.size.ensures c.in_ok-printed.ensures c.digest-text.ensures

pub returns-in-Failed-clause-measured : goal.returns-in-Failed-clause-measured
returns-in-Failed-clause-measured g c =
    measured_failed (g.K.Kernel.loaded c.args.kernel.now) c.args.node c.args.inputs.now c.args.allowance c.args.parent c.args.number (g.K.Kernel.live c.args.kernel.now) c.in_ok-ran.ran
    c.in-Failed.failure c.in-Failed.line c.digest-text.result c.in_ok-printed.printed c.in_ok-ran.ensures.ok c.in-Failed.is c.in_ok-printed.ensures c.digest-text.ensures
