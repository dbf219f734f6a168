use Rattle.std.proofs.Common.{◌∙◌, sym}
use Rattle.heap_store.proofs.Bound.{set_bound}
use Rattle.heap_store.proofs.machine.rebind.Goals as goal

pub returns-in-Some-clause-bound : goal.returns-in-Some-clause-bound
returns-in-Some-clause-bound c = λ none. (c.get_mut.follows.holds c.args.value).0 ∙ set_bound c.args.name.now c.args.value c.in-Some.held.now c.args.globals.now.entries c.get_mut.ensures.ordered (sym c.in-Some.ensures.value)
