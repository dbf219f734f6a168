use Rattle.std.proofs.Common.{rules, ◌≡◌, ℕ}
use Rattle.cell_reader.specs.declared.cell.Reason.{Reason}
use Rattle.cell_reader.specs.Cells.{IsCellOf, IsWrong}
use Rattle.chex_top.proofs.ZipLemmas.{zip_next}
use Rattle.chex_top.proofs.FirstLemmas.{first_here}
use Rattle.chex_top.proofs.checking.checked_version.Goals as goal

pub returns-in-Err-Bad-clause-refused : goal.returns-in-Err-Bad-clause-refused
returns-in-Err-Bad-clause-refused c =
    let same : c.as_slice-source-items.result.now ≡ c.args.version.sources = search rules in
    rw (← same, c.in-Err-Bad.field-0-is) (
      c.loop-place.invariant.name,
      first_here {C = Reason × ℕ} IsCellOf (λ source p. IsWrong source p.0 p.1) c.as_slice-source-items.result.now c.loop-place.place c.loop-place.cells.items c.source-item.result
          (c.in-Err-Bad.reason, c.in-Err-Bad.line) c.loop-place-test.true c.source-item.is c.loop-place.invariant.made (rw c.in-Err-Bad.field-0-is at c.in-Err-Bad.ensures.fault),
    )

pub loop-place-preserved : goal.loop-place-preserved
loop-place-preserved c = record {
  name = c.loop-place.invariant.name;
  made = rw c.in_ok-push-in-Ok.ensures.items (zip_next IsCellOf c.as_slice-source-items.result.now c.loop-place.place c.loop-place.cells.items c.source-item.result c.in-Ok.cell
      c.loop-place-test.true c.source-item.is c.loop-place.invariant.made c.in-Ok.ensures.cell);
}
