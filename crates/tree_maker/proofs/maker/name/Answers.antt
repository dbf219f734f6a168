use Rattle.std.proofs.Common.{rules, ◌≡◌, ◌∙◌, ap}
use Rattle.std.specs.Prelude.{string_bytes}
use Rattle.std.specs.Str.{chars}
use Rattle.tree_maker.specs.Generator.{name_of}
use Rattle.tree_maker.proofs.Texts.{name_chars}
use Rattle.tree_maker.proofs.maker.name.Goals as goal

pub returns : goal.returns
returns c =
    let bytes : string_bytes c.in_ok-name.name ≡ name_of c.args.number = search rules in
    let same : chars (string_bytes c.in_ok-name.name) ≡ name_of c.args.number = ap chars bytes ∙ name_chars c.args.number (search rules) in
    search (rules, same)
