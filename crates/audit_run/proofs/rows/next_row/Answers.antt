use Rattle.audit_run.proofs.RowLemmas.{row_of_measured}
use Rattle.audit_run.proofs.rows.next_row.Goals as goal

pub run_node-requires-clause-ready : goal.run_node-requires-clause-ready
run_node-requires-clause-ready g c = c.requires.ready c.if-reached.true

pub run_node-requires-clause-few : goal.run_node-requires-clause-few
run_node-requires-clause-few g c = c.requires.few c.if-reached.true

pub returns-in-Ok-clause-came : goal.returns-in-Ok-clause-came
returns-in-Ok-clause-came g c = λ going.
    row_of_measured (g.K.Kernel.loaded c.args.kernel.now) (g.K.Kernel.live c.args.kernel.now) c.args.node c.args.number c.args.parent c.args.allowance c.args.inputs.now c.in-Ok.made c.in-Ok.ensures.measured
