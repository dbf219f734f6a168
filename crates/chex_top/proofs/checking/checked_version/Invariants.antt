use Rattle.std.proofs.Common.{◌≡◌, take}
use Rattle.std.specs.List.{AllZip}
use Rattle.cell_reader.specs.Cells.{IsCellOf}
use Rattle.chex_top.proofs.checking.checked_version.Given as goal

abbrev pub invariant-loop-place : goal.invariant-loop-place
invariant-loop-place l = record {
  name : l.name ≡ l.fn.version.name;
  made : AllZip IsCellOf (take l.place l.source-items) l.cells.items;
}
