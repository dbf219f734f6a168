use Rattle.std.proofs.Common.{sym}
use Rattle.chex_top.proofs.KnownLemmas.{found_known, added_known}
use Rattle.chex_top.proofs.known.Known.cell_of.Goals as goal

pub returns-in-Some-clause-cell : goal.returns-in-Some-clause-cell
returns-in-Some-clause-cell c =
    rw c.in_ok-copy.ensures (found_known c.self.inside.cells.entries c.args.source.now c.in-Some.cell.now c.self.invariant (sym c.in-Some.ensures.value))

pub invariant_of-self-2 : goal.invariant_of-self-2
invariant_of-self-2 c =
    rw c.in_ok-insert.ensures.entries (added_known c.self.inside.cells.entries c.in_ok-copy-2.field-0 c.in_ok-copy-3.field-0 c.self.invariant
    (rw (c.in_ok-copy-2.ensures, c.in_ok-copy-3.ensures) c.in_ok-cell.ensures.cell))
