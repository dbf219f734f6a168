use Rattle.std.proofs.Common.{sym, ap, ◌∙◌, map}
use Rattle.tree_maker.specs.Generator.{copied, word_at_cells}
use Rattle.tree_maker.proofs.Words.{sources_are, length_map}
use Rattle.tree_maker.proofs.maker.Maker.sources.Goals as goal

pub returns-clause-sources : goal.returns-clause-sources
returns-clause-sources c =
    let same = sym (length_map c.args.earlier.now) in
    sources_are c.args.self.now.word c.add_kept.new.word c.args.self.now.fresh c.args.cells c.in_ok-kept.kept (map (λ v. v.sources) c.args.earlier.now)
    c.new-sources.result c.add_kept.new.sources c.add_fresh.new.sources
    c.new-sources.ensures c.in_ok-kept.ensures.cells
    (c.in_ok-kept.ensures.word ∙ ap (word_at_cells c.args.self.now.word) same) (c.in_ok-kept.ensures.count ∙ ap (copied c.args.self.now.word c.args.cells) same) c.in_ok-add_fresh.ensures.cells
