-- What holds while a version's cells are added.
use Rattle.std.proofs.Common.{◌≡◌, ℕ, ◌<◌, ◌≤◌, ◌+◌, ◌*◌, List, [], ◌∷◌, ◌++◌, length, map, take, drop, refl, sym, ap, ◌∙◌, arith, subst, replicate, false, get_or, append_assoc, length-append}
use Rattle.std.proofs.lemmas.List.{append-nil, drop_more, drop_all, take_all, map_push, map_more}
use Rattle.std.proofs.lemmas.List.Elements.{All-nil, All-weaker, All-push}
use Rattle.std.specs.List.{All, flat_map}
use Rattle.star_syntax.specs.CellParts.{CellParts}
use Rattle.exec_tree.specs.Keys.{InputMap, key_of}
use Rattle.exec_tree.specs.Prefixes.{Prefix, keys_of, number_of, prefixes, prefixes_of, prefixes_below}
use Rattle.exec_tree.specs.Growths.{known, known_after, keys_at, with_prefix, grown, IsGrowth}
use Rattle.exec_tree.proofs.NumberLemmas.{grown-nil, grown-cons, grown-append, grown_keeps, grown_prefixes, keys_kept, nodes_are, ends_are}
use Rattle.exec_tree.proofs.KnownLemmas.{length-known}
use Rattle.exec_tree.specs.Forests.{ForestParts, node_of, forest_of}
use Rattle.exec_tree.specs.Merged.{AreMerged}
use Rattle.exec_tree.specs.declared.node.Node.{Node}
use Rattle.exec_tree.specs.declared.checked.Checked.{Checked}

-- after so many cells, with `rest` left, below the node `at`: what is left from here gives what all give from the start
pub record IsUnderWay (version : Checked) (rest : List CellParts) (at : ℕ) (first nodes : List Node) (children : List (List ℕ)) (hashes : List ℕ) (done : ℕ) : Type 0 where
  pub grows : IsGrowth nodes children hashes
  pub within : at ≤ length nodes
  pub left : grown (known nodes) (prefixes_below version.inputs (keys_at (known nodes) at) rest) ≡ grown (known first) (prefixes_of version)
  pub keys_left : keys_at (known nodes) at ++ map (key_of version.inputs) rest ≡ keys_of version
  pub few : length nodes ≤ length first + done

pub started : (version : Checked) (nodes : List Node) (children : List (List ℕ)) (hashes : List ℕ) → IsGrowth nodes children hashes → IsUnderWay version version.cells 0 nodes nodes children hashes 0
started version nodes children hashes grows = record { grows = grows; within = omega arith; left = refl; keys_left = refl; few = omega arith }

pub one_cell : (version : Checked) (first nodes nodes' : List Node) (children children' : List (List ℕ)) (hashes hashes' : List ℕ) (cell : CellParts) (rest rest' : List CellParts) (inputs : InputMap) (at node done : ℕ)
    → IsUnderWay version rest at first nodes children hashes done → rest ≡ cell ∷ rest' → inputs ≡ version.inputs
    → IsGrowth nodes' children' hashes' → known nodes' ≡ with_prefix (known nodes) (record { above = keys_at (known nodes) at; cell = cell; inputs = inputs })
    → node ≤ length nodes' → keys_at (known nodes') node ≡ keys_at (known nodes) at ++ key_of inputs cell ∷ [] → length nodes' ≤ length nodes + 1
    → IsUnderWay version rest' node first nodes' children' hashes' (done + 1)
unfolding prefixes_below
one_cell version first nodes nodes' children children' hashes hashes' cell rest rest' inputs at node done under rest_is inputs_is grows known_is within at_is few =
    let above = keys_at (known nodes) at in
    let key_is : key_of inputs cell ≡ key_of version.inputs cell = ap (λ i. key_of i cell) inputs_is in
    let p : Prefix = record { above = above; cell = cell; inputs = version.inputs } in
    let keys_is : keys_at (known nodes') node ≡ above ++ key_of version.inputs cell ∷ [] = at_is ∙ ap (λ k. above ++ k ∷ []) key_is in
    let more : known nodes' ≡ with_prefix (known nodes) p = known_is ∙ ap (λ i. with_prefix (known nodes) (record { above = above; cell = cell; inputs = i })) inputs_is in
    record {
      grows = grows;
      within = within;
      left =
          ap (λ all. grown all (prefixes_below version.inputs (keys_at (known nodes') node) rest')) more
          ∙ ap (λ ks. grown (with_prefix (known nodes) p) (prefixes_below version.inputs ks rest')) keys_is
          ∙ sym (grown-cons (known nodes) p (prefixes_below version.inputs (above ++ key_of version.inputs cell ∷ []) rest'))
          ∙ ap (λ cells. grown (known nodes) (prefixes_below version.inputs above cells)) (sym rest_is)
          ∙ under.left;
      keys_left =
          ap (λ ks. ks ++ map (key_of version.inputs) rest') keys_is
          ∙ append_assoc above (key_of version.inputs cell ∷ []) (map (key_of version.inputs) rest')
          ∙ ap (λ cells. above ++ map (key_of version.inputs) cells) (sym rest_is)
          ∙ under.keys_left;
      few = omega (arith, few, under.few);
    }

pub all_cells : (version : Checked) (first nodes : List Node) (children : List (List ℕ)) (hashes : List ℕ) (rest : List CellParts) (at done : ℕ)
    → IsUnderWay version rest at first nodes children hashes done → rest ≡ []
    → (known nodes ≡ grown (known first) (prefixes_of version)) × (keys_at (known nodes) at ≡ keys_of version)
unfolding prefixes_below
all_cells version first nodes children hashes rest at done under none = (
  sym (grown-nil (known nodes)) ∙ ap (λ cells. grown (known nodes) (prefixes_below version.inputs (keys_at (known nodes) at) cells)) (sym none) ∙ under.left,
  sym (append-nil (keys_at (known nodes) at)) ∙ ap (λ cells. keys_at (known nodes) at ++ map (key_of version.inputs) cells) (sym none) ∙ under.keys_left,
)

-- after so many versions
pub record IsMerging (versions : List Checked) (done : ℕ) (nodes : List Node) (children : List (List ℕ)) (hashes : List ℕ) (ends : List ℕ) : Type 0 where
  pub grows : IsGrowth nodes children hashes
  pub left : grown (known nodes) (flat_map prefixes_of (drop done versions)) ≡ prefixes versions
  pub at : map (keys_at (known nodes)) ends ≡ map keys_of (take done versions)
  pub within : All (λ end. end ≤ length nodes) ends
  pub few : length nodes ≤ 64 * done

pub merging_starts : (versions : List Checked) (nodes : List Node) (children : List (List ℕ)) (hashes ends : List ℕ) → IsGrowth nodes children hashes → nodes ≡ [] → ends ≡ [] → IsMerging versions 0 nodes children hashes ends
unfolding known_after
merging_starts versions nodes children hashes ends grows none none_ended = record {
  grows = grows;
  left = ap (λ l. grown (known l) (flat_map prefixes_of versions)) none ∙ grown_prefixes versions;
  at = ap (map (keys_at (known nodes))) none_ended;
  within = subst (All (λ end. end ≤ length nodes)) (sym none_ended) (All-nil (λ end. end ≤ length nodes));
  few = omega (arith, ap length none);
}

pub one_version : (versions : List Checked) (done : ℕ) (nodes nodes' : List Node) (children children' : List (List ℕ)) (hashes hashes' ends ends' : List ℕ) (version : Checked) (end : ℕ)
    → IsMerging versions done nodes children hashes ends → done < length versions → version ≡ get_or versions done version
    → IsGrowth nodes' children' hashes' → known nodes' ≡ grown (known nodes) (prefixes_of version) → end ≤ length nodes' → keys_at (known nodes') end ≡ keys_of version
    → length nodes' ≤ length nodes + 64 → ends' ≡ ends ++ end ∷ []
    → IsMerging versions (done + 1) nodes' children' hashes' ends'
one_version versions done nodes nodes' children children' hashes hashes' ends ends' version end merging less version_is grows known_is low at_is few ends_is =
    let rest = flat_map prefixes_of (drop (done + 1) versions) in
    let turn : drop done versions ≡ version ∷ drop (done + 1) versions = drop_more versions done version less ∙ ap (λ v. v ∷ drop (done + 1) versions) (sym version_is) in
    let kept = grown_keeps (known nodes) (prefixes_of version) in
    let longer : length nodes ≤ length nodes' =
    omega (arith, length-known nodes, length-known nodes', ap length known_is, ap length kept.1, length-append (known nodes) kept.0) in
    let within : All (λ e. e ≤ length nodes') ends = All-weaker (λ e. e ≤ length nodes) (λ e. e ≤ length nodes') (λ e most. omega (arith, most, longer)) ends merging.within in
    let known_within : All (λ e. e ≤ length (known nodes)) ends = All-weaker (λ e. e ≤ length nodes) (λ e. e ≤ length (known nodes)) (λ e most. omega (arith, most, length-known nodes)) ends merging.within in
    record {
      grows = grows;
      left =
          ap (λ all. grown all rest) known_is
          ∙ sym (grown-append (known nodes) (prefixes_of version) rest)
          ∙ ap (λ vs. grown (known nodes) (flat_map prefixes_of vs)) (sym turn)
          ∙ merging.left;
      at =
          ap (map (keys_at (known nodes'))) ends_is
          ∙ map_push (keys_at (known nodes')) ends end
          ∙ ap (λ k. map (keys_at (known nodes')) ends ++ k ∷ []) at_is
          ∙ ap (λ all. map (keys_at all) ends ++ keys_of version ∷ []) known_is
          ∙ ap (λ l. l ++ keys_of version ∷ []) (keys_kept (known nodes) (prefixes_of version) ends known_within)
          ∙ ap (λ l. l ++ keys_of version ∷ []) merging.at
          ∙ ap (λ v. map keys_of (take done versions) ++ keys_of v ∷ []) version_is
          ∙ sym (map_more keys_of versions done version less);
      within = subst (All (λ e. e ≤ length nodes')) (sym ends_is) (All-push (λ e. e ≤ length nodes') ends end within low);
      few = omega (arith, few, merging.few);
    }

pub merged : (versions : List Checked) (done : ℕ) (nodes : List Node) (children : List (List ℕ)) (hashes ends : List ℕ)
    → IsMerging versions done nodes children hashes ends → length versions ≤ done → done ≤ length versions → length versions ≤ 64 → AreMerged versions nodes children ends
unfolding forest_of
merged versions done nodes children hashes ends merging all most small =
    let known_is : known nodes ≡ prefixes versions =
    sym (grown-nil (known nodes)) ∙ ap (λ vs. grown (known nodes) (flat_map prefixes_of vs)) (sym (drop_all done versions all)) ∙ merging.left in
    let at : map (keys_at (known nodes)) ends ≡ map keys_of versions = merging.at ∙ ap (map keys_of) (take_all done versions all) in
    record {
      nodes_are = nodes_are nodes children hashes merging.grows ∙ ap (λ ps. map (node_of ps) ps) known_is;
      ends_are = ends_are nodes children hashes merging.grows versions ends at merging.within ∙ ap (λ ps. map (λ version. number_of ps (keys_of version)) versions) known_is;
      linked = record { low = merging.grows.low; children_are = merging.grows.children_are; within = merging.within };
      counted = sym (length-known nodes) ∙ ap length known_is;
      few = omega (arith, merging.few, most, small);
    }

pub merged_forest : (versions : List Checked) (nodes : List Node) (children : List (List ℕ)) (ends : List ℕ) → AreMerged versions nodes children ends
    → (let forest : ForestParts = record { nodes = nodes; cut = replicate (length nodes) false; ends = ends } in forest ≡ forest_of versions)
unfolding forest_of
merged_forest versions nodes children ends merged =
    let marks = ap (λ n. replicate n false) merged.counted in
    λ i. record { nodes = merged.nodes_are i; cut = marks i; ends = merged.ends_are i }
