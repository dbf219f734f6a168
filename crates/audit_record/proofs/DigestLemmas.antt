-- The digests of a forest, one node after the other.
use Rattle.std.proofs.Common.{◌≡◌, ℕ, zero, suc, ◌+◌, ◌<◌, List, [], ◌∷◌, ◌++◌, length, take, get_or, Option, Some, None, option_map, refl, sym, ap, ◌∙◌, arith, add-one, append_assoc, length-append}
use Rattle.std.specs.Prelude.{fold}
use Rattle.std.specs.List.{slice_get}
use Rattle.std.proofs.lemmas.List.Sums.{fold-append}
use Rattle.std.proofs.lemmas.Option.{slice_get-map, get_or_from_slice_get}
use Rattle.sha2.specs.Sha256.{sha256}
use Rattle.star_syntax.specs.CellParts.{CellParts}
use Rattle.star_syntax.specs.Cells.{numbered}
use Rattle.exec_tree.specs.Keys.{InputMap, key_of}
use Rattle.exec_tree.specs.Forests.{ForestParts, cells_of, inputs_of, parents_of}
use Rattle.exec_tree.specs.declared.node.Node.{Node}
use Rattle.audit_record.specs.Digests.{digest_at, digests, key_bytes, node_digest}

abbrev pick : {X : Type 0} → X → Option X → X
pick d None = d
pick d (Some x) = x

pub some_same : {X : Type 0} (x y : X) → Some x ≡ Some y → x ≡ y
some_same x y e = ap (pick x) e

pub found : {X : Type 0} (xs : List X) (k : ℕ) → k < length xs → (x : X) × (slice_get xs k ≡ Some x)
found [] k h = absurd (omega arith)
found (x ∷ xs) zero h = (x, refl)
found (x ∷ xs) (suc k) h = found xs k (omega arith)

pub take_with : {X : Type 0} (xs : List X) (k : ℕ) (x : X) → slice_get xs k ≡ Some x → take (suc k) xs ≡ take k xs ++ x ∷ []
take_with [] k x h = absurd (cc)
take_with (y ∷ ys) zero x h = ap (λ z. z ∷ []) (some_same y x h)
take_with (y ∷ ys) (suc k) x h = ap (λ l. y ∷ l) (take_with ys k x h)

abbrev next : List (List ℕ) → Node → List (List ℕ)
next made node = made ++ node_digest (digest_at made node.parent) node ∷ []

length-fold : (made : List (List ℕ)) (nodes : List Node) → length (fold next made nodes) ≡ length made + length nodes
length-fold made [] = omega arith
length-fold made (node ∷ nodes) =
    let rest = length-fold (next made node) nodes in
    let one = length-append made (node_digest (digest_at made node.parent) node ∷ []) in
    omega (arith, rest, one)

-- there are as many digests as nodes
pub length-digests : (nodes : List Node) → length (digests nodes) ≡ length nodes
unfolding digests
length-digests nodes = let all = length-fold [] nodes in omega (arith, all)

digests-next : (nodes : List Node) (k : ℕ) (node : Node) → slice_get nodes k ≡ Some node
    → digests (take (suc k) nodes) ≡ digests (take k nodes) ++ node_digest (digest_at (digests (take k nodes)) node.parent) node ∷ []
unfolding digests
digests-next nodes k node h = ap (λ l. fold next [] l) (take_with nodes k node h) ∙ fold-append next [] (take k nodes) (node ∷ [])

pub numbered_next : {X : Type 0} (xs : List X) (k : ℕ) → numbered xs (k + 1) ≡ slice_get xs k
numbered_next xs k = rw (add-one k) refl

-- the digest of the next node, by its parent, its cell and its inputs
pub digests-step : (forest : ForestParts) (k parent : ℕ) (cell : CellParts) (inputs : InputMap) → k < length forest.nodes → parent ≡ get_or (parents_of forest.nodes) k 0
    → slice_get (cells_of forest) k ≡ Some cell → slice_get (inputs_of forest) k ≡ Some inputs
    → digests (take (suc k) forest.nodes) ≡ digests (take k forest.nodes) ++ sha256 (digest_at (digests (take k forest.nodes)) parent ++ key_bytes (key_of inputs cell)) ∷ []
digests-step forest k parent cell inputs within parent_is cell_is inputs_is =
    let here = found forest.nodes k within in
    let node = here.0 in
    let same_cell : node.cell ≡ cell = some_same _ _ (sym (slice_get-map (λ (n : Node). n.cell) forest.nodes k ∙ ap (option_map (λ (n : Node). n.cell)) here.1) ∙ cell_is) in
    let same_inputs : node.inputs ≡ inputs = some_same _ _ (sym (slice_get-map (λ (n : Node). n.inputs) forest.nodes k ∙ ap (option_map (λ (n : Node). n.inputs)) here.1) ∙ inputs_is) in
    let same_parent : node.parent ≡ parent =
    sym (parent_is ∙ get_or_from_slice_get (parents_of forest.nodes) k node.parent 0 (slice_get-map (λ (n : Node). n.parent) forest.nodes k ∙ ap (option_map (λ (n : Node). n.parent)) here.1)) in
    digests-next forest.nodes k node here.1
    ∙ rw (same_cell, same_inputs, same_parent) refl

pub digests-none : digests [] ≡ []
unfolding digests
digests-none = refl

-- bytes behind a tag
pub behind_tag : (out middle after : List ℕ) (tag : ℕ) (bytes whole : List ℕ) → middle ≡ out ++ tag ∷ [] → after ≡ middle ++ bytes → whole ≡ tag ∷ bytes → after ≡ out ++ whole
behind_tag out middle after tag bytes whole first second is =
    second ∙ ap (λ l. l ++ bytes) first ∙ append_assoc out (tag ∷ []) bytes ∙ ap (λ l. out ++ l) (sym is)
