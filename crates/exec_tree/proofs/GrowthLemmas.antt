-- One step of a growing forest.
use Rattle.std.proofs.Common.{◌≡◌, ◌≢◌, ℕ, zero, suc, ◌+◌, ◌-◌, ◌<◌, ◌≤◌, ◌⊎◌, inl, inr, Bool, true, false, cond, eqb, List, [], ◌∷◌, ◌++◌, length, get_or, set, map, refl, sym, ap, ◌∙◌, subst, arith, add-one}
use Rattle.std.specs.List.{All, filter, range_with_len}
use Rattle.std.proofs.lemmas.Bool.{false≢true, cases_lt}
use Rattle.std.proofs.lemmas.Bool.Decides.{Decides-eqb}
use Rattle.std.proofs.lemmas.List.{get_or_append_left, get_or_push, get_or-map, length-map, length_push, map_push, same_from_push, same_lists, length-set, get_or-set_same, get_or-set_other, get_or_default, append-nil}
use Rattle.std.proofs.lemmas.List.Elements.{All-filter, All-get_or, All-from_get_or, filter_passes, filter-append}
use Rattle.std.proofs.lemmas.List.Folds.{list_any_at, list_any_none}
use Rattle.std.proofs.lemmas.List.FromFn.{length-range_with_len, get_or-range_with_len, length-map-range_with_len, get_or-map-range_with_len, map-range_with_len_more}
use Rattle.std.proofs.lemmas.List.{map-id}
use Rattle.star_syntax.specs.CellParts.{CellParts}
use Rattle.exec_tree.specs.Keys.{InputMap, Key, key_of, same_key}
use Rattle.exec_tree.specs.KeyLaws.{same_key-Decides, same_keys-Decides}
use Rattle.exec_tree.specs.Prefixes.{Prefix, keys, same_prefix}
use Rattle.exec_tree.specs.Forests.{parents_of, children_in}
use Rattle.exec_tree.specs.Growths.{keys_at, known, prefix_after, key_at, node_key, hash_of, with_prefix, IsGrowth}
use Rattle.exec_tree.specs.declared.node.Node.{Node}
use Rattle.exec_tree.proofs.KnownLemmas.{keys_at-append, keys_at-push, keys_at-known, keys_at-at, known-push, length-known}

-- ---- what a filter keeps

some_more : (x v : ℕ) (ys : List ℕ) (t : Bool) → (q : ℕ) × (q < length ys) × (get_or ys q 0 ≡ v) → (q : ℕ) × (q < length (cond t (x ∷ ys) ys)) × (get_or (cond t (x ∷ ys) ys) q 0 ≡ v)
some_more x v ys true h = (suc h.0, omega (arith, h.1), h.2)
some_more x v ys false h = h

some_here : (x : ℕ) (ys : List ℕ) (t : Bool) → t ≡ true → (q : ℕ) × (q < length (cond t (x ∷ ys) ys)) × (get_or (cond t (x ∷ ys) ys) q 0 ≡ x)
some_here x ys true h = (0, omega arith, refl)
some_here x ys false h = absurd (false≢true h)

-- a filter keeps an item that passes
pub kept : (test : ℕ → Bool) (xs : List ℕ) (k : ℕ) → k < length xs → test (get_or xs k 0) ≡ true
    → (q : ℕ) × (q < length (filter test xs)) × (get_or (filter test xs) q 0 ≡ get_or xs k 0)
kept test [] k within passes = absurd (omega arith)
kept test (x ∷ xs) zero within passes = some_here x (filter test xs) (test x) passes
kept test (x ∷ xs) (suc k) within passes = some_more x (get_or xs k 0) (filter test xs) (test x) (kept test xs k (omega arith) passes)

-- tests that agree on a range keep the same of it
pub filter_range : (p q : ℕ → Bool) (a n : ℕ) → ((m : ℕ) → a ≤ m → m < a + n → p m ≡ q m) → filter p (range_with_len a n) ≡ filter q (range_with_len a n)
filter_range p q a zero same = refl
filter_range p q a (suc n) same =
    ap (λ rest. cond (p a) (a ∷ rest) rest) (filter_range p q (a + 1) n (λ m low high. same m (omega arith) (omega arith)))
    ∙ ap (λ t. cond t (a ∷ filter q (range_with_len (a + 1) n)) (filter q (range_with_len (a + 1) n))) (same a (omega arith) (omega arith))

nothing_passes : (p : ℕ → Bool) (a n : ℕ) → ((m : ℕ) → a ≤ m → m < a + n → p m ≡ false) → filter p (range_with_len a n) ≡ []
nothing_passes p a n fails = filter_range p (λ _. false) a n fails ∙ none a n
  where
    none : (a n : ℕ) → filter (λ _. false) (range_with_len a n) ≡ []
    none a zero = refl
    none a (suc n) = none (a + 1) n

pub range_more : (a n : ℕ) → range_with_len a (n + 1) ≡ range_with_len a n ++ (a + n) ∷ []
range_more a n =
    sym (map-id (range_with_len a (n + 1)))
    ∙ map-range_with_len_more (λ m. m) a n (a + n) refl
    ∙ ap (λ l. l ++ (a + n) ∷ []) (map-id (range_with_len a n))

-- ---- children

-- each child is a node with this parent
abbrev pub IsChild : List ℕ → ℕ → ℕ → Type 0
IsChild parents n m = (1 ≤ m) × (m ≤ length parents) × (get_or parents (m - 1) 0 ≡ n)

-- a number of the list of children
pub child_at : (parents : List ℕ) (n q : ℕ) → q < length (children_in parents n) → IsChild parents n (get_or (children_in parents n) q 0)
child_at parents n q within =
    let test = λ (m : ℕ). eqb (get_or parents (m - 1) 0) n in
    let all : All (λ m. (1 ≤ m) × (m ≤ length parents)) (range_with_len 1 (length parents)) =
    All-from_get_or (λ m. (1 ≤ m) × (m ≤ length parents)) (range_with_len 1 (length parents)) 0 (λ i less.
    let at = get_or-range_with_len 1 (length parents) i 0 (omega (arith, length-range_with_len 1 (length parents), less)) in
    let long = length-range_with_len 1 (length parents) in
    (omega (arith, at), omega (arith, at, long, less))) in
    let bounds = All-get_or (λ m. (1 ≤ m) × (m ≤ length parents)) (children_in parents n) q 0 within (All-filter test (λ m. (1 ≤ m) × (m ≤ length parents)) (range_with_len 1 (length parents)) all) in
    let passes = All-get_or (λ m. test m ≡ true) (children_in parents n) q 0 within (filter_passes test (range_with_len 1 (length parents))) in
    (bounds.0, bounds.1, (Decides-eqb (get_or parents (get_or (children_in parents n) q 0 - 1) 0) n).0 passes)

-- each node with this parent is among its children
pub child_in : (parents : List ℕ) (n k : ℕ) → k < length parents → get_or parents k 0 ≡ n → (q : ℕ) × (q < length (children_in parents n)) × (get_or (children_in parents n) q 0 ≡ k + 1)
child_in parents n k within is =
    let test = λ (m : ℕ). eqb (get_or parents (m - 1) 0) n in
    let at : get_or (range_with_len 1 (length parents)) k 0 ≡ k + 1 = get_or-range_with_len 1 (length parents) k 0 within ∙ omega arith in
    let back : k + 1 - 1 ≡ k = omega arith in
    let passes : test (get_or (range_with_len 1 (length parents)) k 0) ≡ true =
    ap test at ∙ ap (λ j. eqb (get_or parents j 0) n) back ∙ (Decides-eqb (get_or parents k 0) n).1 is in
    let found = kept test (range_with_len 1 (length parents)) k (omega (arith, length-range_with_len 1 (length parents))) passes in
    (found.0, found.1, found.2 ∙ at)

-- one more node
pub children_in-push : (parents : List ℕ) (at n : ℕ) → children_in (parents ++ at ∷ []) n ≡ children_in parents n ++ cond (eqb at n) ((length parents + 1) ∷ []) []
children_in-push parents at n =
    let more = parents ++ at ∷ [] in
    let test = λ (m : ℕ). eqb (get_or more (m - 1) 0) n in
    let size = length parents in
    let long : length more ≡ size + 1 = length_push parents at in
    let back : 1 + size - 1 ≡ size = omega arith in
    let next : 1 + size ≡ size + 1 = omega arith in
    ap (λ l. filter test (range_with_len 1 l)) long
    ∙ ap (filter test) (range_more 1 size)
    ∙ filter-append test (range_with_len 1 size) ((1 + size) ∷ [])
    ∙ ap (λ l. l ++ cond (test (1 + size)) ((1 + size) ∷ []) [])
    (filter_range test (λ m. eqb (get_or parents (m - 1) 0) n) 1 size (λ m low high. ap (λ v. eqb v n) (get_or_append_left parents (at ∷ []) 0 (m - 1) (omega arith))))
    ∙ ap (λ v. children_in parents n ++ cond (eqb v n) ((1 + size) ∷ []) []) (ap (λ j. get_or more j 0) back ∙ get_or_push parents at 0 size refl)
    ∙ ap (λ v. children_in parents n ++ cond (eqb at n) (v ∷ []) []) next

-- a number above all parents has no children
no_children : (parents : List ℕ) (n : ℕ) → ((k : ℕ) → k < length parents → get_or parents k 0 ≤ k) → length parents < n → children_in parents n ≡ []
no_children parents n low above =
    nothing_passes (λ m. eqb (get_or parents (m - 1) 0) n) 1 (length parents) (λ m least most.
    differs (get_or parents (m - 1) 0) n (λ is. absurd (omega (arith, low (m - 1) (omega arith), is, least, most, above))))
  where
    differs : (a b : ℕ) → (a ≡ b → ⊥) → eqb a b ≡ false
    differs a b other = by (eqb a b) refl
      where
        by : (t : Bool) → eqb a b ≡ t → t ≡ false
        by true is = absurd (other ((Decides-eqb a b).0 is))
        by false is = refl

-- ---- a child that is there

pub found_keys : (nodes : List Node) (children : List (List ℕ)) (hashes : List ℕ) → IsGrowth nodes children hashes → (at n : ℕ) (key : Key) → (1 ≤ n) × (n ≤ length nodes) × (get_or (parents_of nodes) (n - 1) 0 ≡ at) → key_at nodes n ≡ key
    → keys_at (known nodes) n ≡ keys_at (known nodes) at ++ key ∷ []
found_keys nodes children hashes grows at n key child same =
    let long : length (parents_of nodes) ≡ length nodes = length-map nodes (λ (node : Node). node.parent) in
    let k = n - 1 in
    let is : k + 1 ≡ n = omega (arith, child.0) in
    ap (keys_at (known nodes)) (sym is)
    ∙ keys_at-known nodes k (omega (arith, child.0, child.1, long)) grows.low
    ∙ ap (λ above. keys_at (known nodes) above ++ key_at nodes (k + 1) ∷ []) child.2
    ∙ ap (λ m. keys_at (known nodes) at ++ key_at nodes m ∷ []) is
    ∙ ap (λ own. keys_at (known nodes) at ++ own ∷ []) same

-- no node stands for these keys where no child has the last of them
empty_differs : (xs : List Key) (key : Key) → [] ≡ xs ++ key ∷ [] → ⊥
empty_differs [] key is = cc
empty_differs (x ∷ xs) key is = cc

pub none_there : (nodes : List Node) (children : List (List ℕ)) (hashes : List ℕ) → IsGrowth nodes children hashes → (at : ℕ) (key : Key) → at ≤ length nodes
    → ((q : ℕ) → q < length (children_in (parents_of nodes) at) → same_key (key_at nodes (get_or (children_in (parents_of nodes) at) q 0)) key ≡ false)
    → (k : ℕ) → k ≤ length nodes → keys_at (known nodes) k ≢ (keys_at (known nodes) at ++ key ∷ [])
none_there nodes children hashes grows at key within none zero most is = empty_differs (keys_at (known nodes) at) key is
none_there nodes children hashes grows at key within none (suc k) most is =
    let long : length (parents_of nodes) ≡ length nodes = length-map nodes (λ (node : Node). node.parent) in
    let there = keys_at-known nodes k (omega arith) grows.low in
    let next : suc k ≡ k + 1 = omega arith in
    let ends = same_from_push (keys_at (known nodes) (get_or (parents_of nodes) k 0)) (keys_at (known nodes) at) (key_at nodes (k + 1)) key (sym there ∙ sym (ap (keys_at (known nodes)) next) ∙ is) in
    let parent = grows.apart (get_or (parents_of nodes) k 0) at (omega (arith, grows.low k (omega arith))) within ends.0 in
    let child = child_in (parents_of nodes) at k (omega arith) parent in
    let own : key_at nodes (get_or (children_in (parents_of nodes) at) child.0 0) ≡ key = ap (key_at nodes) child.2 ∙ ends.1 in
    false≢true (sym (none child.0 child.1) ∙ (same_key-Decides (key_at nodes (get_or (children_in (parents_of nodes) at) child.0 0)) key).1 own)

-- ---- a node that is added

-- what stands at each number before a child is added
slot : (nodes : List Node) (children : List (List ℕ)) (hashes : List ℕ) → IsGrowth nodes children hashes → (i : ℕ) (d : List ℕ) → i ≤ length nodes + 1 → get_or (children ++ [] ∷ []) i d ≡ children_in (parents_of nodes) i
slot nodes children hashes grows i d within = by (cases_lt i (length nodes + 1))
  where
    by : (i < length nodes + 1) ⊎ (length nodes + 1 ≤ i) → get_or (children ++ [] ∷ []) i d ≡ children_in (parents_of nodes) i
    by (inl less) =
        let long = length-map-range_with_len (children_in (parents_of nodes)) 0 (length nodes + 1) in
        ap (λ l. get_or (l ++ [] ∷ []) i d) grows.children_are
        ∙ get_or_append_left (map (children_in (parents_of nodes)) (range_with_len 0 (length nodes + 1))) ([] ∷ []) d i (omega (arith, long, less))
        ∙ get_or-map-range_with_len (children_in (parents_of nodes)) 0 (length nodes + 1) i i d less (omega arith)
    by (inr least) =
        let long = length-map-range_with_len (children_in (parents_of nodes)) 0 (length nodes + 1) in
        let parents_long : length (parents_of nodes) ≡ length nodes = length-map nodes (λ (node : Node). node.parent) in
        ap (λ l. get_or (l ++ [] ∷ []) i d) grows.children_are
        ∙ get_or_push (map (children_in (parents_of nodes)) (range_with_len 0 (length nodes + 1))) [] d i (omega (arith, long, least, within))
        ∙ sym (no_children (parents_of nodes) i (λ k less. grows.low k (omega (arith, parents_long, less))) (omega (arith, parents_long, least)))

pub parents-push : (nodes : List Node) (node : Node) → parents_of (nodes ++ node ∷ []) ≡ parents_of nodes ++ node.parent ∷ []
parents-push nodes node = map_push (λ (n : Node). n.parent) nodes node

children_push : (nodes : List Node) (children : List (List ℕ)) (hashes : List ℕ) → IsGrowth nodes children hashes → (node : Node) → node.parent ≤ length nodes → (was : List ℕ) → was ≡ children_in (parents_of nodes) node.parent
    → set (children ++ [] ∷ []) node.parent (was ++ (length nodes + 1) ∷ []) ≡ map (children_in (parents_of (nodes ++ node ∷ []))) (range_with_len 0 (length (nodes ++ node ∷ []) + 1))
children_push nodes children hashes grows node within was is =
    let at = node.parent in
    let value = was ++ (length nodes + 1) ∷ [] in
    let front = children ++ [] ∷ [] in
    let size = length nodes in
    let long : length front ≡ size + 2 =
    length_push children [] ∙ ap (λ n. n + 1) (ap length grows.children_are ∙ length-map-range_with_len (children_in (parents_of nodes)) 0 (size + 1)) ∙ omega arith in
    let long_set : length (set front at value) ≡ size + 2 = length-set front at value ∙ long in
    let more : length (nodes ++ node ∷ []) + 1 ≡ size + 2 = omega (arith, length_push nodes node) in
    let parents_long : length (parents_of nodes) + 1 ≡ size + 1 = ap (λ n. n + 1) (length-map nodes (λ (n : Node). n.parent)) in
    let target : (i : ℕ) → children_in (parents_of (nodes ++ node ∷ [])) i ≡ children_in (parents_of nodes) i ++ cond (eqb at i) ((size + 1) ∷ []) [] =
    λ i. ap (λ p. children_in p i) (parents-push nodes node) ∙ children_in-push (parents_of nodes) at i ∙ ap (λ n. children_in (parents_of nodes) i ++ cond (eqb at i) (n ∷ []) []) parents_long in
    same_lists (set front at value) (map (children_in (parents_of (nodes ++ node ∷ []))) (range_with_len 0 (length (nodes ++ node ∷ []) + 1)))
    (long_set ∙ sym (length-map-range_with_len (children_in (parents_of (nodes ++ node ∷ []))) 0 (length (nodes ++ node ∷ []) + 1) ∙ more))
    (λ i d less.
    let small : i < size + 2 = omega (arith, long_set, less) in
    let right : get_or (map (children_in (parents_of (nodes ++ node ∷ []))) (range_with_len 0 (length (nodes ++ node ∷ []) + 1))) i d ≡ children_in (parents_of nodes) i ++ cond (eqb at i) ((size + 1) ∷ []) [] =
    get_or-map-range_with_len (children_in (parents_of (nodes ++ node ∷ []))) 0 (length (nodes ++ node ∷ []) + 1) i i d (omega (arith, more, small)) (omega arith) ∙ target i in
    at_place nodes children hashes grows at i d was small within is (eqb at i) refl ∙ sym right)
  where
    at_place : (nodes : List Node) (children : List (List ℕ)) (hashes : List ℕ) → IsGrowth nodes children hashes → (at i : ℕ) (d : List ℕ) (was : List ℕ) → i < length nodes + 2 → at ≤ length nodes → was ≡ children_in (parents_of nodes) at
        → (t : Bool) → eqb at i ≡ t → get_or (set (children ++ [] ∷ []) at (was ++ (length nodes + 1) ∷ [])) i d ≡ children_in (parents_of nodes) i ++ cond t ((length nodes + 1) ∷ []) []
    at_place nodes children hashes grows at i d was small within is true e =
        let same = (Decides-eqb at i).0 e in
        let long : length (children ++ [] ∷ []) ≡ length nodes + 2 =
        length_push children [] ∙ ap (λ n. n + 1) (ap length grows.children_are ∙ length-map-range_with_len (children_in (parents_of nodes)) 0 (length nodes + 1)) ∙ omega arith in
        ap (λ j. get_or (set (children ++ [] ∷ []) at (was ++ (length nodes + 1) ∷ [])) j d) (sym same)
        ∙ get_or-set_same (children ++ [] ∷ []) at (was ++ (length nodes + 1) ∷ []) d (omega (arith, long, within))
        ∙ ap (λ l. l ++ (length nodes + 1) ∷ []) (is ∙ ap (children_in (parents_of nodes)) same)
    at_place nodes children hashes grows at i d was small within is false e =
        let other : i ≢ at = λ same. false≢true (sym e ∙ (Decides-eqb at i).1 (sym same)) in
        get_or-set_other (children ++ [] ∷ []) at i (was ++ (length nodes + 1) ∷ []) d other
        ∙ slot nodes children hashes grows i d (omega (arith, small))
        ∙ sym (append-nil (children_in (parents_of nodes) i))

known_old : (nodes : List Node) (node : Node) (k : ℕ) → k ≤ length nodes → keys_at (known (nodes ++ node ∷ [])) k ≡ keys_at (known nodes) k
known_old nodes node k most = ap (λ all. keys_at all k) (known-push nodes node) ∙ keys_at-append (known nodes) (prefix_after (known nodes) node ∷ []) k (omega (arith, length-known nodes))

pub known_last : (nodes : List Node) (node : Node) → keys_at (known (nodes ++ node ∷ [])) (length nodes + 1) ≡ keys_at (known nodes) node.parent ++ node_key node ∷ []
known_last nodes node =
    ap (λ all. keys_at all (length nodes + 1)) (known-push nodes node)
    ∙ keys_at-push (known nodes) (prefix_after (known nodes) node) (length nodes + 1) (omega (arith, length-known nodes))

pub one_more : (nodes : List Node) (children : List (List ℕ)) (hashes : List ℕ) → IsGrowth nodes children hashes → (node : Node) (hash : ℕ) → node.parent ≤ length nodes → hash ≡ hash_of node.cell.source
    → ((k : ℕ) → k ≤ length nodes → keys_at (known nodes) k ≢ (keys_at (known nodes) node.parent ++ node_key node ∷ []))
    → (was : List ℕ) → was ≡ get_or (children ++ [] ∷ []) node.parent was
    → IsGrowth (nodes ++ node ∷ []) (set (children ++ [] ∷ []) node.parent (was ++ (length nodes + 1) ∷ [])) (hashes ++ hash ∷ [])
one_more nodes children hashes grows node hash within hashed other was read =
    record {
      low = λ k less. low_at k less (cases_lt k (length nodes));
      apart = λ j k least most same. apart_at j k least most same (cases_lt j (length nodes + 1)) (cases_lt k (length nodes + 1));
      children_are = children_push nodes children hashes grows node within was (read ∙ slot nodes children hashes grows node.parent was (omega (arith, within)));
      hashes_are = ap (λ l. l ++ hash ∷ []) grows.hashes_are ∙ ap (λ h. map (λ (n : Node). hash_of n.cell.source) nodes ++ h ∷ []) hashed ∙ sym (map_push (λ (n : Node). hash_of n.cell.source) nodes node);
    }
  where
    long : length (parents_of nodes) ≡ length nodes
    long = length-map nodes (λ (n : Node). n.parent)

    low_at : (k : ℕ) → k < length (nodes ++ node ∷ []) → (k < length nodes) ⊎ (length nodes ≤ k) → get_or (parents_of (nodes ++ node ∷ [])) k 0 ≤ k
    low_at k less (inl old) =
        let is : get_or (parents_of (nodes ++ node ∷ [])) k 0 ≡ get_or (parents_of nodes) k 0 =
        ap (λ l. get_or l k 0) (parents-push nodes node) ∙ get_or_append_left (parents_of nodes) (node.parent ∷ []) 0 k (omega (arith, long, old)) in
        omega (arith, is, grows.low k old)
    low_at k less (inr last) =
        let size = length_push nodes node in
        let is : get_or (parents_of (nodes ++ node ∷ [])) k 0 ≡ node.parent =
        ap (λ l. get_or l k 0) (parents-push nodes node) ∙ get_or_push (parents_of nodes) node.parent 0 k (omega (arith, long, last, less, size)) in
        omega (arith, is, within, last)

    last_is : (k : ℕ) → k ≤ length (nodes ++ node ∷ []) → length nodes + 1 ≤ k → keys_at (known (nodes ++ node ∷ [])) k ≡ keys_at (known nodes) node.parent ++ node_key node ∷ []
    last_is k most last =
        let is : k ≡ length nodes + 1 = omega (arith, most, last, length_push nodes node) in
        ap (keys_at (known (nodes ++ node ∷ []))) is ∙ known_last nodes node

    apart_at : (j k : ℕ) → j ≤ length (nodes ++ node ∷ []) → k ≤ length (nodes ++ node ∷ []) → keys_at (known (nodes ++ node ∷ [])) j ≡ keys_at (known (nodes ++ node ∷ [])) k
        → (j < length nodes + 1) ⊎ (length nodes + 1 ≤ j) → (k < length nodes + 1) ⊎ (length nodes + 1 ≤ k) → j ≡ k
    apart_at j k least most same (inl old) (inl old2) =
        grows.apart j k (omega arith) (omega arith) (sym (known_old nodes node j (omega arith)) ∙ same ∙ known_old nodes node k (omega arith))
    apart_at j k least most same (inl old) (inr last) =
        absurd (other j (omega arith) (sym (known_old nodes node j (omega arith)) ∙ same ∙ last_is k most last))
    apart_at j k least most same (inr last) (inl old) =
        absurd (other k (omega arith) (sym (known_old nodes node k (omega arith)) ∙ sym same ∙ last_is j least last))
    apart_at j k least most same (inr last) (inr last2) = omega (arith, length_push nodes node)

-- ---- what is known after a step

-- a prefix that a node stands for is known
pub known_stays : (nodes : List Node) (p : Prefix) (n : ℕ) → n ≤ length nodes → keys_at (known nodes) n ≡ keys p → with_prefix (known nodes) p ≡ known nodes
unfolding with_prefix
known_stays nodes p zero most is = absurd (empty_differs p.above _ is)
known_stays nodes p (suc i) most is =
    let within : i < length (known nodes) = omega (arith, most, length-known nodes) in
    let here : keys (get_or (known nodes) i p) ≡ keys p = sym (keys_at-at (known nodes) i p within) ∙ ap (keys_at (known nodes)) (add-one i) ∙ is in
    ap (λ t. cond t (known nodes) (known nodes ++ p ∷ []))
    (list_any_at (λ q. same_prefix q p) (known nodes) i p within ((same_keys-Decides (keys (get_or (known nodes) i p)) (keys p)).1 here))

-- and one that none stands for is added
pub known_grows : (nodes : List Node) (p : Prefix) → ((k : ℕ) → k ≤ length nodes → keys_at (known nodes) k ≢ keys p) → with_prefix (known nodes) p ≡ known nodes ++ p ∷ []
unfolding with_prefix
known_grows nodes p other =
    ap (λ t. cond t (known nodes) (known nodes ++ p ∷ [])) (list_any_none (λ q. same_prefix q p) (known nodes) (All-from_get_or (λ q. same_prefix q p ≡ false) (known nodes) p (λ i less. fails i less (same_prefix (get_or (known nodes) i p) p) refl)))
  where
    fails : (i : ℕ) → i < length (known nodes) → (t : Bool) → same_prefix (get_or (known nodes) i p) p ≡ t → t ≡ false
    fails i less true e = absurd (other (i + 1) (omega (arith, less, length-known nodes)) (keys_at-at (known nodes) i p less ∙ (same_keys-Decides (keys (get_or (known nodes) i p)) (keys p)).0 e))
    fails i less false e = refl

-- ---- what the code reads

-- where hashes differ, so do the keys
pub other_hash : (nodes : List Node) (children : List (List ℕ)) (hashes : List ℕ) → IsGrowth nodes children hashes → (n m : ℕ) (e : Node) (h hash : ℕ) (key : Key) → m ≡ n - 1 → n - 1 < length nodes
    → h ≡ get_or hashes m h → hash ≡ hash_of key.0 → (h ≡ hash → ⊥) → eqb h hash ≡ same_key (key_at nodes n) key
other_hash nodes children hashes grows n m e h hash key is within read hashed other =
    let own : h ≡ hash_of (key_at nodes n).0 =
    read
    ∙ ap (λ k. get_or hashes k h) is
    ∙ ap (λ l. get_or l (n - 1) h) grows.hashes_are
    ∙ get_or-map (λ (node : Node). hash_of node.cell.source) nodes (n - 1) e h within
    ∙ sym (ap (λ (k : Key). hash_of k.0) (get_or-map node_key nodes (n - 1) e ([], []) within)) in
    fails (eqb h hash) (λ t. other ((Decides-eqb h hash).0 t))
    ∙ sym (fails (same_key (key_at nodes n) key) (λ t. other (own ∙ ap (λ (k : Key). hash_of k.0) ((same_key-Decides (key_at nodes n) key).0 t) ∙ sym hashed)))
  where
    fails : (t : Bool) → (t ≡ true → ⊥) → t ≡ false
    fails true h = absurd (h refl)
    fails false h = refl

pub children_long : (nodes : List Node) (children : List (List ℕ)) (hashes : List ℕ) → IsGrowth nodes children hashes → length children ≡ length nodes + 1
children_long nodes children hashes grows = ap length grows.children_are ∙ length-map-range_with_len (children_in (parents_of nodes)) 0 (length nodes + 1)

-- the list that stands at a number
pub row_at : (nodes : List Node) (children : List (List ℕ)) (hashes : List ℕ) → IsGrowth nodes children hashes → (at m : ℕ) (row : List ℕ) → m ≡ at → at ≤ length nodes → row ≡ get_or children m row → row ≡ children_in (parents_of nodes) at
row_at nodes children hashes grows at m row is within read =
    read
    ∙ ap (λ k. get_or children k row) is
    ∙ ap (λ l. get_or l at row) grows.children_are
    ∙ get_or-map-range_with_len (children_in (parents_of nodes)) 0 (length nodes + 1) at at row (omega arith) (omega arith)

pub child_read : (nodes : List Node) (at : ℕ) (row : List ℕ) → row ≡ children_in (parents_of nodes) at → (q x : ℕ) → q < length row → x ≡ get_or row q x
    → (1 ≤ x) × (x ≤ length nodes) × (get_or (parents_of nodes) (x - 1) 0 ≡ at)
child_read nodes at row is q x within read =
    let here : x ≡ get_or (children_in (parents_of nodes) at) q 0 = read ∙ get_or_default row q x 0 within ∙ ap (λ l. get_or l q 0) is in
    let child = child_at (parents_of nodes) at q (subst (λ l. q < length l) is within) in
    let long = length-map nodes (λ (node : Node). node.parent) in
    (omega (arith, here, child.0), omega (arith, here, child.1, long), ap (λ k. get_or (parents_of nodes) (k - 1) 0) here ∙ child.2)

pub none_in : (nodes : List Node) (children : List (List ℕ)) (hashes : List ℕ) → IsGrowth nodes children hashes → (at : ℕ) (key : Key) → at ≤ length nodes → (row : List ℕ) (i : ℕ) → row ≡ children_in (parents_of nodes) at
    → ((q : ℕ) → q < i → same_key (key_at nodes (get_or row q 0)) key ≡ false) → length row ≤ i
    → (k : ℕ) → k ≤ length nodes → keys_at (known nodes) k ≢ (keys_at (known nodes) at ++ key ∷ [])
none_in nodes children hashes grows at key within row i is none all =
    none_there nodes children hashes grows at key within (λ q less.
    ap (λ l. same_key (key_at nodes (get_or l q 0)) key) (sym is) ∙ none q (omega (arith, all, less, ap length is)))

-- what the writes of an added node leave
pub added : (nodes : List Node) (children : List (List ℕ)) (hashes : List ℕ) → IsGrowth nodes children hashes
    → (nodes' : List Node) (children' : List (List ℕ)) (hashes' : List ℕ) (cell : CellParts) (inputs : InputMap) (at m hash last : ℕ) (row was now : List ℕ)
    → at ≤ length nodes → hash ≡ hash_of cell.source
    → ((k : ℕ) → k ≤ length nodes → keys_at (known nodes) k ≢ (keys_at (known nodes) at ++ key_of inputs cell ∷ []))
    → nodes' ≡ nodes ++ record { parent = at; cell = cell; inputs = inputs } ∷ [] → hashes' ≡ hashes ++ hash ∷ [] → children' ≡ children ++ row ∷ [] → row ≡ []
    → m ≡ at → was ≡ get_or children' m was → now ≡ was ++ last ∷ [] → last ≡ length nodes'
    → IsGrowth nodes' (set children' m now) hashes'
added nodes children hashes grows nodes' children' hashes' cell inputs at m hash last row was now within hashed other nodes_is hashes_is children_is row_is at_is read now_is last_is =
    let node : Node = record { parent = at; cell = cell; inputs = inputs } in
    let front : children' ≡ children ++ [] ∷ [] = children_is ∙ ap (λ r. children ++ r ∷ []) row_is in
    let there : was ≡ get_or (children ++ [] ∷ []) at was = read ∙ ap (λ k. get_or children' k was) at_is ∙ ap (λ l. get_or l at was) front in
    let counted : last ≡ length nodes + 1 = last_is ∙ ap length nodes_is ∙ length_push nodes node in
    let row' : set children' m now ≡ set (children ++ [] ∷ []) at (was ++ (length nodes + 1) ∷ []) =
    ap (λ l. set l m now) front ∙ ap (λ k. set (children ++ [] ∷ []) k now) at_is ∙ ap (set (children ++ [] ∷ []) at) (now_is ∙ ap (λ n. was ++ n ∷ []) counted) in
    let whole = one_more nodes children hashes grows node hash within hashed other was there in
    subst (λ n. IsGrowth n (set children' m now) hashes') (sym nodes_is)
    (subst (λ l. IsGrowth (nodes ++ node ∷ []) l hashes') (sym row')
    (subst (λ h. IsGrowth (nodes ++ node ∷ []) (set (children ++ [] ∷ []) at (was ++ (length nodes + 1) ∷ [])) h) (sym hashes_is) whole))

-- what is known once a node is added
pub known_added : (nodes nodes' : List Node) (cell : CellParts) (inputs : InputMap) (at : ℕ) → nodes' ≡ nodes ++ record { parent = at; cell = cell; inputs = inputs } ∷ []
    → ((k : ℕ) → k ≤ length nodes → keys_at (known nodes) k ≢ (keys_at (known nodes) at ++ key_of inputs cell ∷ []))
    → known nodes' ≡ with_prefix (known nodes) (record { above = keys_at (known nodes) at; cell = cell; inputs = inputs })
known_added nodes nodes' cell inputs at is other =
    let node : Node = record { parent = at; cell = cell; inputs = inputs } in
    ap known is ∙ known-push nodes node ∙ sym (known_grows nodes (prefix_after (known nodes) node) other)

pub keys_added : (nodes nodes' : List Node) (cell : CellParts) (inputs : InputMap) (at last : ℕ) → nodes' ≡ nodes ++ record { parent = at; cell = cell; inputs = inputs } ∷ [] → last ≡ length nodes + 1
    → keys_at (known nodes') last ≡ keys_at (known nodes) at ++ key_of inputs cell ∷ []
keys_added nodes nodes' cell inputs at last is last_is =
    let node : Node = record { parent = at; cell = cell; inputs = inputs } in
    ap (λ l. keys_at (known l) last) is ∙ ap (keys_at (known (nodes ++ node ∷ []))) last_is ∙ known_last nodes node

pub other_under : (nodes : List Node) (cell : CellParts) (inputs inputs' : InputMap) (at : ℕ) → inputs' ≡ inputs
    → ((k : ℕ) → k ≤ length nodes → keys_at (known nodes) k ≢ (keys_at (known nodes) at ++ key_of inputs' cell ∷ []))
    → (k : ℕ) → k ≤ length nodes → keys_at (known nodes) k ≢ (keys_at (known nodes) at ++ key_of inputs cell ∷ [])
other_under nodes cell inputs inputs' at is other k most same = other k most (same ∙ ap (λ i. keys_at (known nodes) at ++ key_of i cell ∷ []) (sym is))
