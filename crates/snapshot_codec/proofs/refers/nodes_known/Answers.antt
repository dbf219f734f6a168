use Rattle.std.proofs.Common.{List, ℕ, ap, ◌∙◌}
use Rattle.std.specs.Prelude.{is_some}
use Rattle.std.specs.List.{list_all}
use Rattle.star_syntax.specs.Cells.{numbered}
use Rattle.snapshot_codec.proofs.refers.nodes_known.Goals as goal

pub returns : goal.returns
returns c = c.all_known.ensures ∙ ap (λ (nodes : List ℕ). list_all (λ node. is_some (numbered c.args.program.now.cells node)) nodes) c.as_slice-ran.ensures
