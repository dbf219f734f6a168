use Rattle.std.proofs.Common.{◌≡◌, ◌∙◌, None, ap, sym, rules}
use Rattle.star_syntax.specs.Cells.{numbered}
use Rattle.snapshot_codec.specs.Defined.{counts_at, counts_in}
use Rattle.snapshot_codec.proofs.refers.counts_at.Goals as goal

pub returns-in_default : goal.returns-in_default
unfolding counts_at
returns-in_default c =
    let none : numbered c.args.program.now.cells c.args.node ≡ None = search rules in
    c.new.ensures.items ∙ ap counts_in (sym none)

pub returns : goal.returns
unfolding counts_at
returns c = c.in_ok-counts.ensures ∙ ap counts_in c.in-Some.ensures
