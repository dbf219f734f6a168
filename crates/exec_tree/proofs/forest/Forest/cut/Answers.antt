use Rattle.std.proofs.Common.{◌≡◌, ◌≤◌, length, map, ap, subst, sym, ◌∙◌, arith}
use Rattle.std.specs.List.{All}
use Rattle.std.proofs.lemmas.List.{with_items_is}
use Rattle.exec_tree.specs.Forests.{ForestParts, parents_of, is_removed, marked, moved, cut}
use Rattle.exec_tree.specs.Kept.{cleared}
use Rattle.exec_tree.proofs.CutLemmas.{AreWithin, few_cleared, kept_long, cut_kept, cut_view, cut_removes}
use Rattle.exec_tree.proofs.forest.Forest.cut.Goals as goal

pub clear-requires : goal.clear-requires
clear-requires c =
    let within = subst (λ (f : ForestParts). AreWithin c.args.failed.now (length f.nodes)) (sym c.self.view_is) c.requires in
    few_cleared c.args.failed.now (length c.self.inside.nodes.items) c.self.inside.children.items _ within (kept_long _ _ _ _ c.self.invariant) c.deref_mut-2.ensures.value

pub invariant_of-self : goal.invariant_of-self
invariant_of-self c =
    let failed = c.args.failed.now in
    let nodes = c.self.inside.nodes.items in
    let marks_long : length c.mark.new.marks ≡ c.self.inside.cut.len = omega (arith, c.mark.auto.marks, c.deref_mut.ensures.len) in
    let marks = with_items_is c.self.inside.cut c.mark.new.marks marks_long ∙ c.mark.ensures ∙ ap (marked failed) c.deref_mut.ensures.value in
    let ends_long : length c.move_ends.new.ends ≡ c.self.inside.ends.len = omega (arith, c.move_ends.auto.ends, c.deref_mut-3.ensures.len) in
    let ends =
    with_items_is c.self.inside.ends c.move_ends.new.ends ends_long
    ∙ c.move_ends.ensures.ends
    ∙ ap (λ ns. map (moved (parents_of ns) failed) c.deref_mut-3.result.now) c.deref.ensures.value
    ∙ ap (map (moved (parents_of nodes) failed)) c.deref_mut-3.ensures.value in
    let rows_long : length c.clear.new.children ≡ c.self.inside.children.len = omega (arith, c.clear.auto.children, c.deref_mut-2.ensures.len) in
    let rows = with_items_is c.self.inside.children c.clear.new.children rows_long ∙ c.clear.ensures ∙ ap (cleared failed) c.deref_mut-2.ensures.value in
    let within = subst (λ (f : ForestParts). AreWithin failed (length f.nodes)) (sym c.self.view_is) c.requires in
    let low = subst (λ ns. All (λ end. end ≤ length ns) c.move_ends.new.ends) c.deref.ensures.value c.move_ends.ensures.within in
    cut_kept nodes c.self.inside.children.items _ c.self.inside.cut.items _ c.self.inside.ends.items _ failed c.self.invariant within marks rows ends
    (subst (All (λ end. end ≤ length nodes)) (sym (with_items_is c.self.inside.ends c.move_ends.new.ends ends_long)) low)

pub returns-clause-cut : goal.returns-clause-cut
returns-clause-cut c =
    let failed = c.args.failed.now in
    let nodes = c.self.inside.nodes.items in
    let marks_long : length c.mark.new.marks ≡ c.self.inside.cut.len = omega (arith, c.mark.auto.marks, c.deref_mut.ensures.len) in
    let marks = with_items_is c.self.inside.cut c.mark.new.marks marks_long ∙ c.mark.ensures ∙ ap (marked failed) c.deref_mut.ensures.value in
    let ends_long : length c.move_ends.new.ends ≡ c.self.inside.ends.len = omega (arith, c.move_ends.auto.ends, c.deref_mut-3.ensures.len) in
    let ends =
    with_items_is c.self.inside.ends c.move_ends.new.ends ends_long
    ∙ c.move_ends.ensures.ends
    ∙ ap (λ ns. map (moved (parents_of ns) failed) c.deref_mut-3.result.now) c.deref.ensures.value
    ∙ ap (map (moved (parents_of nodes) failed)) c.deref_mut-3.ensures.value in
    cut_view nodes c.self.inside.cut.items _ c.self.inside.ends.items _ failed marks ends ∙ ap (cut failed) c.self.view_is

pub returns-clause-removed : goal.returns-clause-removed
returns-clause-removed c =
    let failed = c.args.failed.now in
    let nodes = c.self.inside.nodes.items in
    let marks_long : length c.mark.new.marks ≡ c.self.inside.cut.len = omega (arith, c.mark.auto.marks, c.deref_mut.ensures.len) in
    let marks = with_items_is c.self.inside.cut c.mark.new.marks marks_long ∙ c.mark.ensures ∙ ap (marked failed) c.deref_mut.ensures.value in
    let ends_long : length c.move_ends.new.ends ≡ c.self.inside.ends.len = omega (arith, c.move_ends.auto.ends, c.deref_mut-3.ensures.len) in
    let ends =
    with_items_is c.self.inside.ends c.move_ends.new.ends ends_long
    ∙ c.move_ends.ensures.ends
    ∙ ap (λ ns. map (moved (parents_of ns) failed) c.deref_mut-3.result.now) c.deref.ensures.value
    ∙ ap (map (moved (parents_of nodes) failed)) c.deref_mut-3.ensures.value in
    let whole = cut_view nodes c.self.inside.cut.items _ c.self.inside.ends.items _ failed marks ends ∙ ap (cut failed) c.self.view_is in
    let marked_long = subst (λ (f : ForestParts). length f.cut ≡ length f.nodes) c.self.view_is c.self.invariant.marks in
    λ n h. ap (λ f. is_removed f n) whole ∙ cut_removes failed c.args.self.now n marked_long c.requires
