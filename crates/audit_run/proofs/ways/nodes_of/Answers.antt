use Rattle.std.proofs.Common.{◌≡◌, ℕ, suc, ◌-◌, ◌<◌, List, length, get_or, sym, ap, ◌∙◌, subst, arith}
use Rattle.exec_tree.specs.declared.checked.Checked.{Checked}
use Rattle.exec_tree.specs.Prefixes.{keys_of, number_of, prefixes}
use Rattle.exec_tree.specs.Forests.{ForestParts, IsNode, forest_of, parent_of}
use Rattle.audit_run.proofs.WayLemmas.{element, end_at, ends_long, filled_more, filled_node, filled_starts, no_prefix, read_at, there_at}
use Rattle.audit_run.proofs.ways.nodes_of.Goals as goal

pub bounds-ends-place : goal.bounds-ends-place
bounds-ends-place c =
    let long : length c.ends-ends.result.now ≡ length c.args.versions.now =
    ap length (c.ends-ends.ensures.ends ∙ ap (λ (f : ForestParts). f.ends) c.requires.forest) ∙ ends_long c.args.versions.now in
    omega (arith, long, c.requires.place)

pub cells-init : goal.cells-init
cells-init c = λ version there.
    let versions = c.args.versions.now in
    let same : get_or versions c.args.place c.index-versions-place.result ≡ version = read_at versions c.args.place version c.index-versions-place.result there in
    let count : length c.as_slice-cells.result.now ≡ length version.cells = ap length (c.as_slice-cells.ensures ∙ ap (λ (v : Checked). v.cells) same) in
    let long : length c.in_ok-nodes.nodes.items ≡ length c.as_slice-cells.result.now = omega (arith, c.in_ok-nodes.ensures.len, c.in_ok-nodes.nodes.ok.0) in
    let ends : c.ends-ends.result.now ≡ (forest_of versions).ends = c.ends-ends.ensures.ends ∙ ap (λ (f : ForestParts). f.ends) c.requires.forest in
    let last : c.index-ends-place.result ≡ number_of (prefixes versions) (keys_of version) =
    c.index-ends-place.is
    ∙ (ap (λ (es : List ℕ). get_or es c.args.place c.index-ends-place.result) ends ∙ end_at versions c.args.place version c.index-ends-place.result there) in
    filled_starts versions version (length c.as_slice-cells.result.now) c.index-ends-place.result c.in_ok-nodes.nodes.items
    (element versions c.args.place version there) count long last

pub index_mut-requires : goal.index_mut-requires
index_mut-requires c =
    let w = c.index-versions-place.result in
    let filled = c.cells.invariant w (there_at c.args.versions.now c.args.place w c.requires.place c.index-versions-place.is) in
    omega (arith, filled.within, filled.long, c.cells-test.true, c.cells.nodes.ok.0)

pub parent-node-requires : goal.parent-node-requires
parent-node-requires c =
    let versions = c.args.versions.now in
    let w = c.index-versions-place.result in
    let there = there_at versions c.args.place w c.requires.place c.index-versions-place.is in
    let more : c.cells.left ≡ suc (c.cells.left - 1) = omega (arith, c.cells-test.true) in
    subst (λ (f : ForestParts). IsNode f c.cells.node) (sym c.requires.forest)
    (filled_node versions w c.cells.left (c.cells.left - 1) c.cells.node c.cells.nodes.items no_prefix (element versions c.args.place w there) more (c.cells.invariant w there))

pub cells-preserved : goal.cells-preserved
cells-preserved c = λ version there.
    let versions = c.args.versions.now in
    let more : c.cells.left ≡ suc (c.cells.left - 1) = omega (arith, c.cells-test.true) in
    let above : c.parent-node.result ≡ parent_of (forest_of versions) c.cells.node =
    c.parent-node.ensures.parent ∙ ap (λ (f : ForestParts). parent_of f c.cells.node) c.requires.forest in
    filled_more versions version c.cells.left (c.cells.left - 1) c.cells.node c.parent-node.result c.cells.nodes.items no_prefix (element versions c.args.place version there) more
    (c.cells.invariant version there) above
