use Rattle.chex_top.proofs.NodeLemmas.{each_few, few_versions}
use Rattle.chex_top.proofs.TaskLemmas.{ready}
use Rattle.chex_top.proofs.task.shared.Goals as goal

pub merged-requires-clause-versions : goal.merged-requires-clause-versions
merged-requires-clause-versions c =
    rw (c.as_slice.ensures, c.from_vec-checked.ensures) (few_versions c.args.versions c.in-Ok.checked.items c.requires.few c.in-Ok.ensures.ok)

pub merged-requires-clause-cells : goal.merged-requires-clause-cells
merged-requires-clause-cells c =
    rw (c.as_slice.ensures, c.from_vec-checked.ensures) (each_few c.args.versions c.in-Ok.checked.items c.requires.small c.in-Ok.ensures.ok)

pub returns-in-Ok-merged-clause-ready : goal.returns-in-Ok-merged-clause-ready
returns-in-Ok-merged-clause-ready c = (
  rw c.from_vec-checked.ensures (ready c.args.versions c.in-Ok.checked.items c.in-Ok-merged.field-0 c.requires.few c.requires.small c.in-Ok.ensures.ok
      (rw (c.as_slice.ensures, c.from_vec-checked.ensures) at c.in-Ok-merged.ensures.ok)),
  c.requires.budget,
  c.requires.steps,
)
