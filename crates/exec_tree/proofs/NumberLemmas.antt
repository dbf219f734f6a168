-- From a forest that has grown to its definition.
use Rattle.std.proofs.Common.{◌≡◌, ℕ, zero, suc, ◌+◌, ◌<◌, ◌≤◌, Bool, true, false, cond, List, [], ◌∷◌, ◌++◌, length, get_or, map, refl, sym, ap, ◌∙◌, arith, add-one, append_assoc}
use Rattle.std.specs.List.{All, flat_map, position_or_len, list_any}
use Rattle.std.proofs.lemmas.List.{get_or-map, length-map, same_lists, append-nil}
use Rattle.std.proofs.lemmas.List.Elements.{All-head, All-tail}
use Rattle.std.proofs.lemmas.List.Sums.{fold-append, position_or_len_is}
use Rattle.exec_tree.specs.Keys.{Key, same_keys}
use Rattle.exec_tree.specs.KeyLaws.{same_keys-Decides}
use Rattle.exec_tree.specs.Prefixes.{Prefix, keys, keys_of, number_of, prefixes, prefixes_of, same_prefix}
use Rattle.exec_tree.specs.Forests.{parents_of, node_of}
use Rattle.exec_tree.specs.Growths.{keys_at, known, prefix_after, with_prefix, grown, IsGrowth}
use Rattle.exec_tree.specs.declared.node.Node.{Node}
use Rattle.exec_tree.specs.declared.checked.Checked.{Checked}
use Rattle.exec_tree.proofs.KnownLemmas.{keys_at-append, keys_at-at, at_known, length-known}
use Rattle.exec_tree.proofs.FirstsLemmas.{grown-firsts}

number_of-push : (all : List Prefix) (xs : List Key) (key : Key) → number_of all (xs ++ key ∷ []) ≡ 1 + position_or_len (λ p. same_keys (xs ++ key ∷ []) (keys p)) all
unfolding number_of
number_of-push all [] key = refl
number_of-push all (x ∷ xs) key = refl

fails : (t : Bool) → (t ≡ true → ⊥) → t ≡ false
fails true h = absurd (h refl)
fails false h = refl

-- the number of the keys of a node is the node's
pub number_of-at : (nodes : List Node) (children : List (List ℕ)) (hashes : List ℕ) → IsGrowth nodes children hashes → (n : ℕ) → n ≤ length nodes → number_of (known nodes) (keys_at (known nodes) n) ≡ n
unfolding number_of
number_of-at nodes children hashes grows zero most = refl
number_of-at [] children hashes grows (suc i) most = absurd (omega arith)
number_of-at (first ∷ rest) children hashes grows (suc i) most =
    let nodes = first ∷ rest in
    let all = known nodes in
    let d = prefix_after [] first in
    let long = length-known nodes in
    let p = get_or all i d in
    let own : keys_at all (suc i) ≡ keys p = ap (keys_at all) (sym (add-one i)) ∙ keys_at-at all i d (omega (arith, long, most)) in
    let test = λ (q : Prefix). same_keys (keys p) (keys q) in
    let before : (k : ℕ) → k < i → test (get_or all k d) ≡ false =
    λ k less. fails (test (get_or all k d)) (λ same.
    let twin : keys_at all (i + 1) ≡ keys_at all (k + 1) =
    keys_at-at all i d (omega (arith, long, most)) ∙ (same_keys-Decides (keys p) (keys (get_or all k d))).0 same ∙ sym (keys_at-at all k d (omega (arith, long, most, less))) in
    absurd (omega (arith, less, grows.apart (i + 1) (k + 1) (omega arith) (omega (arith, less, most)) twin))) in
    let here : position_or_len test all ≡ i =
    position_or_len_is test all i d (omega (arith, long, most)) before (λ less. (same_keys-Decides (keys p) (keys p)).1 refl) in
    ap (number_of all) own ∙ number_of-push all p.above _ ∙ ap (λ n. 1 + n) here ∙ omega arith

-- the nodes are those of their prefixes
pub nodes_are : (nodes : List Node) (children : List (List ℕ)) (hashes : List ℕ) → IsGrowth nodes children hashes → nodes ≡ map (node_of (known nodes)) (known nodes)
nodes_are nodes children hashes grows =
    let all = known nodes in
    let long = length-known nodes in
    same_lists nodes (map (node_of all) all) (sym (length-map all (node_of all) ∙ long)) (λ k d less.
    let p = prefix_after all d in
    let parent : get_or (parents_of nodes) k 0 ≡ (get_or nodes k d).parent = get_or-map (λ (node : Node). node.parent) nodes k d 0 less in
    let low : (get_or nodes k d).parent ≤ length nodes = omega (arith, parent, grows.low k less, less) in
    let right : get_or (map (node_of all) all) k d ≡ node_of all (prefix_after all (get_or nodes k d)) =
    get_or-map (node_of all) all k p d (omega (arith, long, less)) ∙ ap (node_of all) (at_known nodes k p d less grows.low) in
    sym (right ∙ ap (λ n. record { parent = n; cell = (get_or nodes k d).cell; inputs = (get_or nodes k d).inputs }) (number_of-at nodes children hashes grows (get_or nodes k d).parent low)))

-- ends that stand at the keys of versions are their numbers
pub ends_are : (nodes : List Node) (children : List (List ℕ)) (hashes : List ℕ) → IsGrowth nodes children hashes → (versions : List Checked) (ends : List ℕ)
    → map (keys_at (known nodes)) ends ≡ map keys_of versions → All (λ end. end ≤ length nodes) ends
    → ends ≡ map (λ version. number_of (known nodes) (keys_of version)) versions
ends_are nodes children hashes grows versions ends at within =
    numbered ends within ∙ ap (map (number_of (known nodes))) at ∙ twice versions
  where
    numbered : (es : List ℕ) → All (λ end. end ≤ length nodes) es → es ≡ map (number_of (known nodes)) (map (keys_at (known nodes)) es)
    numbered [] all = refl
    numbered (e ∷ es) all =
        let first = sym (number_of-at nodes children hashes grows e (All-head (λ end. end ≤ length nodes) e es all)) in
        let rest = numbered es (All-tail (λ end. end ≤ length nodes) e es all) in
        λ i. first i ∷ rest i

    twice : (vs : List Checked) → map (number_of (known nodes)) (map keys_of vs) ≡ map (λ version. number_of (known nodes) (keys_of version)) vs
    twice [] = refl
    twice (v ∷ vs) = ap (λ l. number_of (known nodes) (keys_of v) ∷ l) (twice vs)

-- ---- versions one after the other

kept_by : (t : Bool) (all : List Prefix) (p : Prefix) → (more : List Prefix) × (cond t all (all ++ p ∷ []) ≡ all ++ more)
kept_by true all p = ([], sym (append-nil all))
kept_by false all p = (p ∷ [], refl)

-- what was known stays in front
pub grown_keeps : (all more : List Prefix) → (rest : List Prefix) × (grown all more ≡ all ++ rest)
unfolding grown with_prefix
grown_keeps all [] = ([], sym (append-nil all))
grown_keeps all (p ∷ more) =
    let first = kept_by (list_any (λ q. same_prefix q p) all) all p in
    let rest = grown_keeps (all ++ first.0) more in
    (first.0 ++ rest.0, ap (λ known. grown known more) first.1 ∙ rest.1 ∙ append_assoc all first.0 rest.0)

pub grown-append : (all xs ys : List Prefix) → grown all (xs ++ ys) ≡ grown (grown all xs) ys
unfolding grown
grown-append all xs ys = fold-append with_prefix all xs ys

pub grown-nil : (all : List Prefix) → grown all [] ≡ all
unfolding grown
grown-nil all = refl

pub grown-cons : (all : List Prefix) (p : Prefix) (more : List Prefix) → grown all (p ∷ more) ≡ grown (with_prefix all p) more
unfolding grown
grown-cons all p more = refl

-- all prefixes, one after the other, from nothing
pub grown_prefixes : (versions : List Checked) → grown [] (flat_map prefixes_of versions) ≡ prefixes versions
unfolding prefixes
grown_prefixes versions = grown-firsts (flat_map prefixes_of versions)

-- numbers of nodes stay at their keys
pub keys_kept : (all more : List Prefix) (ends : List ℕ) → All (λ end. end ≤ length all) ends → map (keys_at (grown all more)) ends ≡ map (keys_at all) ends
keys_kept all more [] within = refl
keys_kept all more (e ∷ es) within =
    let kept = grown_keeps all more in
    let first : keys_at (grown all more) e ≡ keys_at all e =
    ap (λ known. keys_at known e) kept.1 ∙ keys_at-append all kept.0 e (All-head (λ end. end ≤ length all) e es within) in
    let rest = keys_kept all more es (All-tail (λ end. end ≤ length all) e es within) in
    λ i. first i ∷ rest i
