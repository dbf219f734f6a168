use Rattle.std.proofs.Common.{rules, ◌≡◌, ◌∙◌, ap}
use Rattle.std.specs.Prelude.{string_bytes}
use Rattle.std.specs.Str.{chars}
use Rattle.tree_maker.specs.Generator.{cell_text}
use Rattle.tree_maker.proofs.Texts.{cell_chars}
use Rattle.tree_maker.proofs.cells.source.Goals as goal

pub returns : goal.returns
unfolding cell_text
returns c =
    let bytes : string_bytes c.in_ok-format.field-0 ≡ cell_text c.args.number c.args.size c.args.list = search rules in
    ap chars bytes ∙ cell_chars c.args.number c.args.size c.args.list (search rules) (search rules) (search rules)
