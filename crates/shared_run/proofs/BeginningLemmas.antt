-- The beginnings of versions: which version a node was taken from, and what versions with equal beginnings have in common.
use Rattle.std.proofs.Common.{◌≡◌, ℕ, zero, suc, ◌+◌, ◌-◌, ◌<◌, true, List, [], ◌∷◌, ◌++◌, length, get_or, take, map, Some, refl, sym, ap, ◌∙◌, arith, append_assoc}
use Rattle.std.specs.List.{All, Contains, flat_map}
use Rattle.std.proofs.lemmas.List.{get_or-map, length-map, length-take-le}
use Rattle.std.proofs.lemmas.List.Elements.{All-append, All-head, All-nil, All-tail, Contains-get_or}
use Rattle.star_syntax.specs.CellParts.{CellParts}
use Rattle.star_syntax.specs.Cells.{numbered}
use Rattle.exec_tree.specs.declared.checked.Checked.{Checked}
use Rattle.exec_tree.specs.declared.node.Node.{Node}
use Rattle.exec_tree.specs.Keys.{InputMap, Key, key_of}
use Rattle.exec_tree.specs.Prefixes.{Prefix, keys, number_of, prefixes, prefixes_below, prefixes_of}
use Rattle.exec_tree.specs.Forests.{forest_of, inputs_of, node_of, parent_of, parents_of}
use Rattle.exec_tree.proofs.CutLemmas.{numbered_at}
use Rattle.audit_run.specs.Sources.{HaveTheirNames, HaveTheirSources}
use Rattle.audit_run.specs.Visits.{nodes_of}
use Rattle.audit_run.proofs.AgreeLemmas.{SameFirst, same_first}
use Rattle.audit_run.proofs.TreeLemmas.{all_prefixes, has, keys_there, length-prefixes_of, node_at, number_is, place, place_less, prefix_there}
use Rattle.audit_run.proofs.WayLemmas.{no_prefix}

-- ---- lists

pub any_prefix : (xs : List Prefix) (k : ℕ) (d e : Prefix) → k < length xs → get_or xs k d ≡ get_or xs k e
any_prefix [] k d e less = absurd (omega (arith, less))
any_prefix (x ∷ xs) zero d e less = refl
any_prefix (x ∷ xs) (suc k) d e less = any_prefix xs k d e (omega (arith, less))

-- ---- the keys of a version's beginnings

keys_from : (inputs : InputMap) (above : List Key) (cells : List CellParts) (k : ℕ) (d : Prefix) → k < length cells
    → keys (get_or (prefixes_below inputs above cells) k d) ≡ above ++ take (suc k) (map (key_of inputs) cells)
unfolding prefixes_below
keys_from inputs above [] k d less = absurd (omega (arith, less))
keys_from inputs above (cell ∷ cells) zero d less = refl
keys_from inputs above (cell ∷ cells) (suc k) d less =
    keys_from inputs (above ++ key_of inputs cell ∷ []) cells k d (omega (arith, less)) ∙ append_assoc above (key_of inputs cell ∷ []) (take (suc k) (map (key_of inputs) cells))

pub keys_at : (v : Checked) (k : ℕ) → k < length v.cells → keys (get_or (prefixes_of v) k no_prefix) ≡ take (suc k) (map (key_of v.inputs) v.cells)
keys_at v k less = keys_from v.inputs [] v.cells k no_prefix less

pub keys_long : (v : Checked) (k : ℕ) → k < length v.cells → length (keys (get_or (prefixes_of v) k no_prefix)) ≡ suc k
keys_long v k less =
    let all : List Key = map (key_of v.inputs) v.cells in
    let long : length all ≡ length v.cells = length-map v.cells (key_of v.inputs) in
    ap length (keys_at v k less) ∙ length-take-le (suc k) all (omega (arith, long, less))

inputs_from : (inputs : InputMap) (above : List Key) (cells : List CellParts) (k : ℕ) (d : Prefix) → k < length cells → (get_or (prefixes_below inputs above cells) k d).inputs ≡ inputs
unfolding prefixes_below
inputs_from inputs above [] k d less = absurd (omega (arith, less))
inputs_from inputs above (cell ∷ cells) zero d less = refl
inputs_from inputs above (cell ∷ cells) (suc k) d less = inputs_from inputs (above ++ key_of inputs cell ∷ []) cells k d (omega (arith, less))

-- ---- versions with equal beginnings

module _ (versions : List Checked) (sources : HaveTheirSources versions) (names : HaveTheirNames versions) where
  pub share : (v w : Checked) (j k : ℕ) → Contains versions v → Contains versions w → j < length v.cells → k < length w.cells
      → keys (get_or (prefixes_of v) j no_prefix) ≡ keys (get_or (prefixes_of w) k no_prefix) → (j ≡ k) × SameFirst v.inputs w.inputs j v.cells w.cells
  share v w j k there_v there_w less low same =
      let long : suc j ≡ suc k = sym (keys_long v j less) ∙ (ap length same ∙ keys_long w k low) in
      let is : j ≡ k = omega (arith, long) in
      let front : take (suc j) (map (key_of v.inputs) v.cells) ≡ take (suc j) (map (key_of w.inputs) w.cells) =
      sym (keys_at v j less) ∙ (same ∙ (keys_at w k low ∙ ap (λ (n : ℕ). take n (map (key_of w.inputs) w.cells)) (sym long))) in
      (is, same_first versions v w sources names there_v there_w j v.cells w.cells (λ c h. h) (λ d h. h) less (omega (arith, is, low)) front)

-- ---- the version that a beginning was taken from

pub record IsFrom (versions : List Checked) (p : Prefix) : Type 0 where
  pub version : Checked
  pub spot : ℕ
  pub there : Contains versions version
  pub within : spot < length version.cells
  pub is : p ≡ get_or (prefixes_of version) spot no_prefix

from_version : (versions : List Checked) (v : Checked) → Contains versions v → All (IsFrom versions) (prefixes_of v)
from_version versions v there k d less =
    let long : length (prefixes_of v) ≡ length v.cells = length-prefixes_of v.inputs [] v.cells in
    record { version = v; spot = k; there = there; within = omega (arith, less, long); is = any_prefix (prefixes_of v) k d no_prefix less }

from_all : (versions vs : List Checked) → All (λ (v : Checked). Contains versions v) vs → All (IsFrom versions) (flat_map prefixes_of vs)
from_all versions [] h = All-nil (IsFrom versions)
from_all versions (v ∷ vs) h =
    All-append (IsFrom versions) (prefixes_of v) (flat_map prefixes_of vs) (from_version versions v (All-head (λ (w : Checked). Contains versions w) v vs h))
    (from_all versions vs (All-tail (λ (w : Checked). Contains versions w) v vs h))

pub from_versions : (versions : List Checked) → All (IsFrom versions) (prefixes versions)
from_versions versions = all_prefixes (IsFrom versions) versions (from_all versions versions (λ k d low. Contains-get_or versions k d low))

-- ---- nodes

pub parent_at : (versions : List Checked) (i : ℕ) (d : Prefix) → i < length (prefixes versions)
    → parent_of (forest_of versions) (suc i) ≡ number_of (prefixes versions) (get_or (prefixes versions) i d).above
unfolding forest_of
parent_at versions i d less =
    let all = prefixes versions in
    let long : length (map (node_of all) all) ≡ length all = length-map all (node_of all) in
    let at : suc i - 1 ≡ i = omega arith in
    ap (λ n. get_or (parents_of (map (node_of all) all)) n 0) at
    ∙ (get_or-map (λ (node : Node). node.parent) (map (node_of all) all) i (node_of all d) 0 (omega (arith, less, long))
    ∙ ap (λ (node : Node). node.parent) (get_or-map (node_of all) all i d (node_of all d) less))

pub inputs_there : (versions : List Checked) (i : ℕ) (d : Prefix) → i < length (prefixes versions)
    → numbered (inputs_of (forest_of versions)) (suc i) ≡ Some (get_or (prefixes versions) i d).inputs
unfolding forest_of
inputs_there versions i d less =
    let all = prefixes versions in
    let q = get_or all i d in
    let long : length (map (node_of all) all) ≡ length all = length-map all (node_of all) in
    let at : suc i - 1 ≡ i = omega arith in
    let node : get_or (map (node_of all) all) (suc i - 1) (node_of all q) ≡ node_of all q =
    ap (λ n. get_or (map (node_of all) all) n (node_of all q)) at ∙ (get_or-map (node_of all) all i d (node_of all q) less) in
    numbered_at (λ (x : Node). x.inputs) (map (node_of all) all) (suc i) (suc i) (node_of all q) refl (omega arith) (omega (arith, less, long)) (sym node)

-- the version whose inputs a node of this version has, and which begins as this one does
pub record HasOwner (versions : List Checked) (v : Checked) (j : ℕ) : Type 0 where
  pub owner : Checked
  pub there : Contains versions owner
  pub inputs : numbered (inputs_of (forest_of versions)) (get_or (nodes_of (prefixes versions) v) j 0) ≡ Some owner.inputs
  pub same : SameFirst v.inputs owner.inputs j v.cells owner.cells

pub owner_of : (versions : List Checked) (v : Checked) (j : ℕ) → HaveTheirSources versions → HaveTheirNames versions → Contains versions v → j < length v.cells → HasOwner versions v j
owner_of versions v j sources names there less =
    let all = prefixes versions in
    let p : Prefix = get_or (prefixes_of v) j no_prefix in
    let known : has all p ≡ true = prefix_there versions v there j no_prefix less in
    let i : ℕ = place all p in
    let low : i < length all = place_less p all known in
    let q : Prefix = get_or all i no_prefix in
    let from : IsFrom versions q = from_versions versions i no_prefix low in
    let same : keys q ≡ keys p = ap keys (any_prefix all i no_prefix p low) ∙ keys_there all p known in
    let w : Checked = from.version in
    let number : get_or (nodes_of all v) j 0 ≡ suc i = node_at versions v there j no_prefix less ∙ (number_is all p ∙ (let plus : 1 + i ≡ suc i = omega arith in plus)) in
    let own : q.inputs ≡ w.inputs = ap (λ (x : Prefix). x.inputs) from.is ∙ inputs_from w.inputs [] w.cells from.spot no_prefix from.within in
    let begin : keys p ≡ keys (get_or (prefixes_of w) from.spot no_prefix) = sym same ∙ ap keys from.is in
    record {
      owner = w;
      there = from.there;
      inputs = ap (numbered (inputs_of (forest_of versions))) number ∙ (inputs_there versions i no_prefix low ∙ ap Some own);
      same = (share versions sources names v w j from.spot there from.there less from.within begin).1;
    }
