-- What nodes stand for.
use Rattle.std.proofs.Common.{◌≡◌, ℕ, zero, suc, ◌+◌, ◌-◌, ◌<◌, ◌≤◌, List, [], ◌∷◌, ◌++◌, length, get_or, map, refl, sym, ap, ◌∙◌, arith, append_assoc, add-one}
use Rattle.std.proofs.lemmas.List.{get_or_append_left, get_or_push, get_or-map, map-append, length-map, length_push, append-nil}
use Rattle.exec_tree.specs.Prefixes.{Prefix, keys}
use Rattle.exec_tree.specs.Forests.{parents_of}
use Rattle.exec_tree.specs.Growths.{keys_at, prefix_after, known_after, known, node_key, key_at}
use Rattle.exec_tree.specs.declared.node.Node.{Node}

-- ---- keys on the way

-- more prefixes change nothing at the nodes that were there
pub keys_at-append : (all more : List Prefix) (n : ℕ) → n ≤ length all → keys_at (all ++ more) n ≡ keys_at all n
keys_at-append all more zero most = refl
keys_at-append all more (suc i) most =
    ap (λ l. get_or l i []) (map-append keys all more)
    ∙ get_or_append_left (map keys all) (map keys more) [] i (omega (arith, length-map all keys))

-- the last one
pub keys_at-push : (all : List Prefix) (p : Prefix) (n : ℕ) → n ≡ length all + 1 → keys_at (all ++ p ∷ []) n ≡ keys p
keys_at-push all p zero is = absurd (omega arith)
keys_at-push all p (suc i) is =
    ap (λ l. get_or l i []) (map-append keys all (p ∷ []))
    ∙ get_or_push (map keys all) (keys p) [] i (omega (arith, length-map all keys))

pub keys_at-at : (all : List Prefix) (i : ℕ) (d : Prefix) → i < length all → keys_at all (i + 1) ≡ keys (get_or all i d)
keys_at-at all i d within = ap (keys_at all) (add-one i) ∙ get_or-map keys all i d [] within

-- ---- nodes after known prefixes

-- they come after those that were known
pub after_known : (before : List Prefix) (nodes : List Node) → (more : List Prefix) × (known_after before nodes ≡ before ++ more) × (length more ≡ length nodes)
unfolding known_after
after_known before [] = ([], sym (append-nil before), refl)
after_known before (node ∷ nodes) =
    let p = prefix_after before node in
    let rest = after_known (before ++ p ∷ []) nodes in
    (p ∷ rest.0, rest.1 ∙ append_assoc before (p ∷ []) rest.0, ap suc rest.2)

pub known_after-append : (before : List Prefix) (nodes more : List Node) → known_after before (nodes ++ more) ≡ known_after (known_after before nodes) more
unfolding known_after
known_after-append before [] more = refl
known_after-append before (node ∷ nodes) more = known_after-append (before ++ prefix_after before node ∷ []) nodes more

pub known-push : (nodes : List Node) (node : Node) → known (nodes ++ node ∷ []) ≡ known nodes ++ prefix_after (known nodes) node ∷ []
unfolding known_after
known-push nodes node = known_after-append [] nodes (node ∷ [])

pub length-known : (nodes : List Node) → length (known nodes) ≡ length nodes
length-known nodes =
    let all = after_known [] nodes in
    ap length all.1 ∙ all.2

-- a node that comes after known prefixes, and after nodes of this many
pub at_after : (before : List Prefix) (nodes : List Node) (k : ℕ) (d : Prefix) (e : Node) → k < length nodes
    → ((j : ℕ) → j < length nodes → get_or (parents_of nodes) j 0 ≤ length before + j)
    → get_or (known_after before nodes) (length before + k) d ≡ prefix_after (known_after before nodes) (get_or nodes k e)
unfolding known_after
at_after before [] k d e within low = absurd (omega arith)
at_after before (node ∷ nodes) zero d e within low =
    let p = prefix_after before node in
    let rest = after_known (before ++ p ∷ []) nodes in
    let here : length before + 0 ≡ length before = omega arith in
    let parent : node.parent ≤ length before = omega (arith, low 0 (omega arith)) in
    let whole : known_after (before ++ p ∷ []) nodes ≡ before ++ (p ∷ rest.0) = rest.1 ∙ append_assoc before (p ∷ []) rest.0 in
    ap (λ n. get_or (known_after (before ++ p ∷ []) nodes) n d) here
    ∙ ap (λ l. get_or l (length before) d) rest.1
    ∙ get_or_append_left (before ++ p ∷ []) rest.0 d (length before) (omega (arith, length_push before p))
    ∙ get_or_push before p d (length before) refl
    ∙ ap (λ above. record { above = above; cell = node.cell; inputs = node.inputs }) (sym (ap (λ l. keys_at l node.parent) whole ∙ keys_at-append before (p ∷ rest.0) node.parent parent))
at_after before (node ∷ nodes) (suc k) d e within low =
    let p = prefix_after before node in
    let long = length_push before p in
    let next : length before + suc k ≡ length (before ++ p ∷ []) + k = omega arith in
    ap (λ n. get_or (known_after (before ++ p ∷ []) nodes) n d) next
    ∙ at_after (before ++ p ∷ []) nodes k d e (omega arith) (λ j less. omega (arith, low (suc j) (omega arith)))

-- the prefix of a node is below that of its parent
pub at_known : (nodes : List Node) (k : ℕ) (d : Prefix) (e : Node) → k < length nodes
    → ((j : ℕ) → j < length nodes → get_or (parents_of nodes) j 0 ≤ j)
    → get_or (known nodes) k d ≡ prefix_after (known nodes) (get_or nodes k e)
at_known nodes k d e within low =
    let zeroed : 0 + k ≡ k = omega arith in
    ap (λ n. get_or (known nodes) n d) (sym zeroed) ∙ at_after [] nodes k d e within (λ j less. omega (arith, low j less))

-- the keys of a node are those of its parent and its own
pub keys_at-known : (nodes : List Node) (k : ℕ) → k < length nodes → ((j : ℕ) → j < length nodes → get_or (parents_of nodes) j 0 ≤ j)
    → keys_at (known nodes) (k + 1) ≡ keys_at (known nodes) (get_or (parents_of nodes) k 0) ++ key_at nodes (k + 1) ∷ []
keys_at-known [] k within low = absurd (omega arith)
keys_at-known (first ∷ rest) k within low = keys_below (first ∷ rest) first k within low
  where
    keys_below : (nodes : List Node) (e : Node) (k : ℕ) → k < length nodes → ((j : ℕ) → j < length nodes → get_or (parents_of nodes) j 0 ≤ j)
        → keys_at (known nodes) (k + 1) ≡ keys_at (known nodes) (get_or (parents_of nodes) k 0) ++ key_at nodes (k + 1) ∷ []
    keys_below nodes e k within low =
        let d = prefix_after [] e in
        let back : k + 1 - 1 ≡ k = omega arith in
        let own : key_at nodes (k + 1) ≡ node_key (get_or nodes k e) =
        ap (λ n. get_or (map node_key nodes) n ([], [])) back ∙ get_or-map node_key nodes k e ([], []) within in
        let parent : get_or (parents_of nodes) k 0 ≡ (get_or nodes k e).parent = get_or-map (λ (node : Node). node.parent) nodes k e 0 within in
        keys_at-at (known nodes) k d (omega (arith, length-known nodes))
        ∙ ap keys (at_known nodes k d e within low)
        ∙ sym (ap (λ key. keys_at (known nodes) (get_or nodes k e).parent ++ key ∷ []) own)
        ∙ sym (ap (λ n. keys_at (known nodes) n ++ key_at nodes (k + 1) ∷ []) parent)
