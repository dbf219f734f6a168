-- Which functions the cells that ran have, as a table for each node that ran.
use Rattle.std.specs.Prelude.{ℕ, Bool, true, false, ◌==◌, ◌&&◌, List, [], length, map, Option, Some, None, slice_get}
use Rattle.std.specs.List.{list_any}
use Rattle.star_syntax.specs.declared.cell.Program.{Program}
use Rattle.star_syntax.specs.CellParts.{CellParts}
use Rattle.star_syntax.specs.Cells.{functions_of, numbered}
use Rattle.star_meaning.specs.State.{Object, AList, ADict, AFunction}
use Rattle.snapshot_codec.specs.declared.refers.Defined.{Defined}

abbrev pub counts_in : Option CellParts → List ℕ
counts_in None = []
counts_in (Some cell) = map (λ def. length def.defaults) (functions_of cell.«module».statements)

-- how many defaults each function of a node's cell has, by the function's number
unfoldable pub counts_at : Program → ℕ → List ℕ
counts_at program node = counts_in (numbered program.cells node)

-- a node with the counts of its functions
abbrev pub table : ℕ → List ℕ → ℕ × List ℕ
table node counts = (node, counts)

abbrev pub tables_of : Program → List ℕ → List (ℕ × List ℕ)
tables_of program ran = map (λ node. table node (counts_at program node)) ran

abbrev pub table_of : Defined → ℕ × List ℕ
table_of d = table d.node d.counts.items

abbrev pub has_count : ℕ → Option ℕ → Bool
has_count n None = false
has_count n (Some count) = n == count

abbrev pub has_function : ℕ → ℕ → ℕ → ℕ × List ℕ → Bool
has_function cell number n table = (table.0 == cell) && has_count n (slice_get table.1 number)

abbrev pub is_defined_in : List (ℕ × List ℕ) → Object ℕ → Bool
is_defined_in tables (AList items) = true
is_defined_in tables (ADict pairs) = true
is_defined_in tables (AFunction cell number defaults) = list_any (has_function cell number (length defaults)) tables
