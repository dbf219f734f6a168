-- What a cut does.
use Rattle.std.proofs.Common.{◌≡◌, ◌≢◌, ℕ, zero, suc, ◌+◌, ◌-◌, ◌<◌, ◌≤◌, Bool, true, false, cond, eqb, ◌||◌, List, [], ◌∷◌, ◌++◌, length, get_or, set, map, fold, replicate, Option, Some, None, refl, sym, ap, ◌∙◌, subst, arith, append_assoc, add-one, take, drop}
use Rattle.std.specs.List.{All, list_any, find, range_with_len, slice_get}
use Rattle.std.specs.Option.{unwrap_or}
use Rattle.std.proofs.lemmas.Bool.{false≢true}
use Rattle.std.proofs.lemmas.Bool.Decides.{Decides-eqb}
use Rattle.std.proofs.lemmas.List.{get_or_append_left, get_or_push, length_push, length-set, get_or-set_same, get_or-set_other, append-nil, same_lists, length-replicate, length-map, get_or-map, drop_more, map_more, set_at, get_or_at, length-take-le}
use Rattle.std.proofs.lemmas.List.Elements.{All-head, All-tail}
use Rattle.std.proofs.lemmas.List.FromFn.{length-map-range_with_len, get_or-map-range_with_len}
use Rattle.exec_tree.specs.Forests.{ForestParts, parents_of, parents, parent_of, paths, path, is_cut, is_removed, is_among, children_in, children_of, marked, moved, cut}
use Rattle.star_syntax.specs.Cells.{numbered}
use Rattle.exec_tree.specs.Kept.{cleared, AreLinked, IsKept}
use Rattle.exec_tree.specs.declared.node.Node.{Node}

-- ---- paths

abbrev with_path : List (List ℕ) → ℕ → List (List ℕ)
with_path made parent = made ++ (length made ∷ get_or made parent []) ∷ []

after_made : (made : List (List ℕ)) (ps : List ℕ) → (more : List (List ℕ)) × (fold with_path made ps ≡ made ++ more)
after_made made [] = ([], sym (append-nil made))
after_made made (p ∷ ps) =
    let own = length made ∷ get_or made p [] in
    let rest = after_made (made ++ own ∷ []) ps in
    (own ∷ rest.0, rest.1 ∙ append_assoc made (own ∷ []) rest.0)

path_at : (made : List (List ℕ)) (ps : List ℕ) (k : ℕ) → k < length ps → ((j : ℕ) → j < length ps → get_or ps j 0 < length made + j)
    → get_or (fold with_path made ps) (length made + k) [] ≡ (length made + k) ∷ get_or (fold with_path made ps) (get_or ps k 0) []
path_at made [] k within low = absurd (omega arith)
path_at made (p ∷ ps) zero within low =
    let own = length made ∷ get_or made p [] in
    let rest = after_made (made ++ own ∷ []) ps in
    let here : length made + 0 ≡ length made = omega arith in
    let parent : p < length made = omega (arith, low 0 (omega arith)) in
    let whole : fold with_path (made ++ own ∷ []) ps ≡ made ++ (own ∷ rest.0) = rest.1 ∙ append_assoc made (own ∷ []) rest.0 in
    ap (λ n. get_or (fold with_path (made ++ own ∷ []) ps) n []) here
    ∙ ap (λ l. get_or l (length made) []) rest.1
    ∙ get_or_append_left (made ++ own ∷ []) rest.0 [] (length made) (omega (arith, length_push made own))
    ∙ get_or_push made own [] (length made) refl
    ∙ ap (λ n. n ∷ get_or made p []) (sym here)
    ∙ ap (λ l. (length made + 0) ∷ l) (sym (ap (λ l. get_or l p []) whole ∙ get_or_append_left made (own ∷ rest.0) [] p parent))
path_at made (p ∷ ps) (suc k) within low =
    let own = length made ∷ get_or made p [] in
    let long = length_push made own in
    let next : length made + suc k ≡ length (made ++ own ∷ []) + k = omega arith in
    let rest = path_at (made ++ own ∷ []) ps k (omega arith) (λ j less. omega (arith, low (suc j) (omega arith))) in
    ap (λ n. get_or (fold with_path (made ++ own ∷ []) ps) n []) next
    ∙ rest
    ∙ ap (λ n. n ∷ get_or (fold with_path (made ++ own ∷ []) ps) (get_or ps k 0) []) (sym next)

-- above number 0 stands nothing
pub path_none : (ps : List ℕ) → path ps 0 ≡ []
unfolding paths
path_none ps =
    let all = after_made ([] ∷ []) ps in
    ap (λ l. get_or l 0 []) all.1

-- a node, and what stands above its parent with it
pub path_node : (ps : List ℕ) (n : ℕ) → 1 ≤ n → n ≤ length ps → ((j : ℕ) → j < length ps → get_or ps j 0 ≤ j) → path ps n ≡ n ∷ path ps (get_or ps (n - 1) 0)
unfolding paths
path_node ps n least most low =
    let is : 1 + (n - 1) ≡ n = omega arith in
    ap (λ m. get_or (fold with_path ([] ∷ []) ps) m []) (sym is)
    ∙ path_at ([] ∷ []) ps (n - 1) (omega arith) (λ j less. omega (arith, low j less))
    ∙ ap (λ m. m ∷ get_or (fold with_path ([] ∷ []) ps) (get_or ps (n - 1) 0) []) is

-- ---- moved ends

abbrev pub nearest : List ℕ → List ℕ → ℕ → Option ℕ
nearest ps failed n = find (is_among failed) (path ps n)

pub moved_is : (ps failed : List ℕ) (end : ℕ) → moved ps failed end ≡ unwrap_or (nearest ps failed end) end
unfolding moved
moved_is ps failed end = refl

pub nearest_none : (ps failed : List ℕ) → nearest ps failed 0 ≡ None
nearest_none ps failed = ap (find (is_among failed)) (path_none ps)

pub nearest_here : (ps failed : List ℕ) (n : ℕ) → 1 ≤ n → n ≤ length ps → ((j : ℕ) → j < length ps → get_or ps j 0 ≤ j) → is_among failed n ≡ true → nearest ps failed n ≡ Some n
nearest_here ps failed n least most low here =
    ap (find (is_among failed)) (path_node ps n least most low)
    ∙ ap (λ t. cond t (Some n) (find (is_among failed) (path ps (get_or ps (n - 1) 0)))) here

pub nearest_above : (ps failed : List ℕ) (n : ℕ) → 1 ≤ n → n ≤ length ps → ((j : ℕ) → j < length ps → get_or ps j 0 ≤ j) → is_among failed n ≡ false → nearest ps failed n ≡ nearest ps failed (get_or ps (n - 1) 0)
nearest_above ps failed n least most low other =
    ap (find (is_among failed)) (path_node ps n least most low)
    ∙ ap (λ t. cond t (Some n) (find (is_among failed) (path ps (get_or ps (n - 1) 0)))) other

-- ---- marks

or_true : (t : Bool) → (t || true) ≡ true
or_true true = refl
or_true false = refl

or_false : (t : Bool) → (t || false) ≡ t
or_false true = refl
or_false false = refl

or_assoc : (a b c : Bool) → ((a || b) || c) ≡ (a || (b || c))
or_assoc true b c = refl
or_assoc false b c = refl

abbrev pub AreWithin : List ℕ → ℕ → Type 0
AreWithin failed count = All (λ n. (1 ≤ n) × (n ≤ count)) failed

-- one mark
mark_at : (marks : List Bool) (n i : ℕ) → 1 ≤ n → n ≤ length marks → (t : Bool) → eqb n (i + 1) ≡ t → get_or (set marks (n - 1) true) i false ≡ (get_or marks i false || t)
mark_at marks n i least most true e =
    let same = (Decides-eqb n (i + 1)).0 e in
    let at : n - 1 ≡ i = omega (arith, same) in
    ap (λ k. get_or (set marks k true) i false) at ∙ get_or-set_same marks i true false (omega (arith, same, most)) ∙ sym (or_true (get_or marks i false))
mark_at marks n i least most false e =
    let other : i ≢ (n - 1) = λ same. false≢true (sym e ∙ (Decides-eqb n (i + 1)).1 (omega (arith, same, least))) in
    get_or-set_other marks (n - 1) i true false other ∙ sym (or_false (get_or marks i false))

pub length-marked : (failed : List ℕ) (marks : List Bool) → length (marked failed marks) ≡ length marks
unfolding marked
length-marked [] marks = refl
length-marked (n ∷ failed) marks = length-marked failed (set marks (n - 1) true) ∙ length-set marks (n - 1) true

pub marked_at : (failed : List ℕ) (marks : List Bool) (i : ℕ) → AreWithin failed (length marks) → get_or (marked failed marks) i false ≡ (get_or marks i false || is_among failed (i + 1))
unfolding marked
marked_at [] marks i within = sym (or_false (get_or marks i false))
marked_at (n ∷ failed) marks i within =
    let first = All-head (λ n. (1 ≤ n) × (n ≤ length marks)) n failed within in
    let rest = All-tail (λ n. (1 ≤ n) × (n ≤ length marks)) n failed within in
    let size = length-set marks (n - 1) true in
    marked_at failed (set marks (n - 1) true) i (subst (AreWithin failed) (sym size) rest)
    ∙ ap (λ t. t || is_among failed (i + 1)) (mark_at marks n i first.0 first.1 (eqb n (i + 1)) refl)
    ∙ or_assoc (get_or marks i false) (eqb n (i + 1)) (is_among failed (i + 1))

differs : (a b : ℕ) → (a ≡ b → ⊥) → eqb a b ≡ false
differs a b other = by (eqb a b) refl
  where
    by : (t : Bool) → eqb a b ≡ t → t ≡ false
    by true is = absurd (other ((Decides-eqb a b).0 is))
    by false is = refl

none_zero : (failed : List ℕ) (count : ℕ) → AreWithin failed count → is_among failed 0 ≡ false
none_zero [] count within = refl
none_zero (n ∷ failed) count within =
    let first = All-head (λ n. (1 ≤ n) × (n ≤ count)) n failed within in
    ap (λ t. t || is_among failed 0) (differs n 0 (λ is. absurd (omega (arith, is, first.0)))) ∙ none_zero failed count (All-tail (λ n. (1 ≤ n) × (n ≤ count)) n failed within)

-- a node is cut where it was or where it failed
pub cut_is_cut : (failed : List ℕ) (forest : ForestParts) (n : ℕ) → length forest.cut ≡ length forest.nodes → AreWithin failed (length forest.nodes) → is_cut (cut failed forest) n ≡ (is_cut forest n || is_among failed n)
unfolding cut
cut_is_cut failed forest zero marks within = sym (none_zero failed (length forest.nodes) within)
cut_is_cut failed forest (suc i) marks within =
    marked_at failed forest.cut i (subst (AreWithin failed) (sym marks) within)
    ∙ ap (λ k. get_or forest.cut i false || is_among failed k) (add-one i)

any_or : (p q r : ℕ → Bool) → ((n : ℕ) → r n ≡ (p n || q n)) → (xs : List ℕ) → list_any r xs ≡ (list_any p xs || list_any q xs)
any_or p q r both [] = refl
any_or p q r both (x ∷ xs) =
    ap (λ t. t || list_any r xs) (both x) ∙ ap (λ t. (p x || q x) || t) (any_or p q r both xs) ∙ shuffle (p x) (q x) (list_any p xs) (list_any q xs)
  where
    shuffle : (a b c d : Bool) → ((a || b) || (c || d)) ≡ ((a || c) || (b || d))
    shuffle true b c d = refl
    shuffle false true true d = refl
    shuffle false true false d = refl
    shuffle false false c d = refl

-- what is removed was removed before, or stands below a failed node
pub cut_removes : (failed : List ℕ) (forest : ForestParts) (n : ℕ) → length forest.cut ≡ length forest.nodes → AreWithin failed (length forest.nodes)
    → is_removed (cut failed forest) n ≡ (is_removed forest n || list_any (is_among failed) (path (parents forest) (parent_of forest n)))
unfolding is_removed cut
cut_removes failed forest n marks within =
    any_or (is_cut forest) (is_among failed) (is_cut (cut failed forest)) (λ m. cut_is_cut failed forest m marks within) (path (parents forest) (parent_of forest n))

-- ---- children

clear_at : (children : List (List ℕ)) (n i : ℕ) (d : List ℕ) → n < length children → (t : Bool) → eqb n i ≡ t → get_or (set children n []) i d ≡ cond t [] (get_or children i d)
clear_at children n i d within true e =
    let same = (Decides-eqb n i).0 e in
    ap (λ k. get_or (set children n []) k d) (sym same) ∙ get_or-set_same children n [] d within
clear_at children n i d within false e =
    get_or-set_other children n i [] d (λ same. false≢true (sym e ∙ (Decides-eqb n i).1 (sym same)))

pub length-cleared : (failed : List ℕ) (children : List (List ℕ)) → length (cleared failed children) ≡ length children
unfolding cleared
length-cleared [] children = refl
length-cleared (n ∷ failed) children = length-cleared failed (set children n []) ∙ length-set children n []

cond_or : (a b : Bool) (xs : List ℕ) → cond b [] (cond a [] xs) ≡ cond (a || b) [] xs
cond_or true true xs = refl
cond_or true false xs = refl
cond_or false b xs = refl

cleared_at : (failed : List ℕ) (children : List (List ℕ)) (i : ℕ) (d : List ℕ) → All (λ n. n < length children) failed → get_or (cleared failed children) i d ≡ cond (is_among failed i) [] (get_or children i d)
unfolding cleared
cleared_at [] children i d within = refl
cleared_at (n ∷ failed) children i d within =
    let first = All-head (λ n. n < length children) n failed within in
    let rest = All-tail (λ n. n < length children) n failed within in
    let size = length-set children n [] in
    cleared_at failed (set children n []) i d (subst (λ m. All (λ n. n < m) failed) (sym size) rest)
    ∙ ap (λ l. cond (is_among failed i) [] l) (clear_at children n i d first (eqb n i) refl)
    ∙ cond_or (eqb n i) (is_among failed i) (get_or children i d)

-- the children of a forest that is cut
pub children_cut : (failed : List ℕ) (forest : ForestParts) (children : List (List ℕ)) → length forest.cut ≡ length forest.nodes → AreWithin failed (length forest.nodes)
    → children ≡ map (children_of forest) (range_with_len 0 (length forest.nodes + 1))
    → cleared failed children ≡ map (children_of (cut failed forest)) (range_with_len 0 (length forest.nodes + 1))
unfolding children_of cut
children_cut failed forest children marks within are =
    let count = length forest.nodes + 1 in
    let long : length children ≡ count = ap length are ∙ length-map-range_with_len (children_of forest) 0 count in
    same_lists (cleared failed children) (map (children_of (cut failed forest)) (range_with_len 0 count))
    (length-cleared failed children ∙ long ∙ sym (length-map-range_with_len (children_of (cut failed forest)) 0 count))
    (λ i d less.
    let small : i < count = omega (arith, less, long, length-cleared failed children) in
    cleared_at failed children i d (few failed within)
    ∙ ap (λ l. cond (is_among failed i) [] l) (ap (λ l. get_or l i d) are ∙ get_or-map-range_with_len (children_of forest) 0 count i i d small (omega arith))
    ∙ cond_or (is_cut forest i) (is_among failed i) (children_in (parents forest) i)
    ∙ ap (λ t. cond t [] (children_in (parents forest) i)) (sym (cut_is_cut failed forest i marks within))
    ∙ sym (get_or-map-range_with_len (children_of (cut failed forest)) 0 count i i d small (omega arith)))
  where
    few : (fs : List ℕ) → AreWithin fs (length forest.nodes) → All (λ n. n < length children) fs
    few fs all k d less = omega (arith, (all k d less).1, ap length are, length-map-range_with_len (children_of forest) 0 (length forest.nodes + 1))

-- a forest in which nothing is cut
fresh : (n i : ℕ) → get_or (replicate n false) i false ≡ false
fresh zero i = refl
fresh (suc n) zero = refl
fresh (suc n) (suc i) = fresh n i

not_cut : (nodes : List Node) (ends : List ℕ) (n : ℕ) → children_in (parents_of nodes) n ≡ children_of (record { nodes = nodes; cut = replicate (length nodes) false; ends = ends }) n
unfolding children_of
not_cut nodes ends zero = refl
not_cut nodes ends (suc i) = ap (λ t. cond t [] (children_in (parents_of nodes) (suc i))) (sym (fresh (length nodes) i))

pub fresh_children : (nodes : List Node) (ends : List ℕ) (numbers : List ℕ)
    → map (children_in (parents_of nodes)) numbers ≡ map (children_of (record { nodes = nodes; cut = replicate (length nodes) false; ends = ends })) numbers
fresh_children nodes ends [] = refl
fresh_children nodes ends (n ∷ numbers) =
    let first = not_cut nodes ends n in
    let rest = fresh_children nodes ends numbers in
    λ i. first i ∷ rest i

-- ---- what a forest keeps

pub fresh_kept : (nodes : List Node) (children : List (List ℕ)) (ends : List ℕ) → AreLinked nodes children ends → length nodes ≤ 512 → IsKept nodes children (replicate (length nodes) false) ends
fresh_kept nodes children ends linked few = record {
  low = linked.low;
  children_are = linked.children_are ∙ fresh_children nodes ends (range_with_len 0 (length nodes + 1));
  within = linked.within;
  marks = length-replicate (length nodes) false;
  few = few;
}

pub cut_kept : (nodes : List Node) (children children' : List (List ℕ)) (cuts cuts' : List Bool) (ends ends' failed : List ℕ) → IsKept nodes children cuts ends → AreWithin failed (length nodes)
    → cuts' ≡ marked failed cuts → children' ≡ cleared failed children → ends' ≡ map (moved (parents_of nodes) failed) ends → All (λ end. end ≤ length nodes) ends'
    → IsKept nodes children' cuts' ends'
unfolding cut
cut_kept nodes children children' cuts cuts' ends ends' failed kept within cuts_are children_are ends_are low = record {
  low = kept.low;
  children_are =
      children_are
      ∙ children_cut failed (record { nodes = nodes; cut = cuts; ends = ends }) children kept.marks within kept.children_are
      ∙ ap (λ c. map (children_of (record { nodes = nodes; cut = c; ends = map (moved (parents_of nodes) failed) ends })) (range_with_len 0 (length nodes + 1))) (sym cuts_are)
      ∙ ap (λ e. map (children_of (record { nodes = nodes; cut = cuts'; ends = e })) (range_with_len 0 (length nodes + 1))) (sym ends_are);
  within = low;
  marks = ap length cuts_are ∙ length-marked failed cuts ∙ kept.marks;
  few = kept.few;
}

-- ---- what the code reads

abbrev pub AreLow : List Node → Type 0
AreLow nodes = (k : ℕ) → k < length nodes → get_or (parents_of nodes) k 0 ≤ k

low_parents : (nodes : List Node) → AreLow nodes → (j : ℕ) → j < length (parents_of nodes) → get_or (parents_of nodes) j 0 ≤ j
low_parents nodes low j less = low j (omega (arith, less, length-map nodes (λ (node : Node). node.parent)))

pub parent_is : (nodes : List Node) (n m : ℕ) (e : Node) → m ≡ n → 1 ≤ n → n ≤ length nodes → get_or (parents_of nodes) (n - 1) 0 ≡ (get_or nodes (m - 1) e).parent
parent_is nodes n m e is least most =
    get_or-map (λ (node : Node). node.parent) nodes (n - 1) e 0 (omega (arith, least, most)) ∙ ap (λ k. (get_or nodes (k - 1) e).parent) (sym is)

pub parent_low : (nodes : List Node) (n m : ℕ) (e : Node) → AreLow nodes → m ≡ n → 1 ≤ n → n ≤ length nodes → (get_or nodes (m - 1) e).parent < n
parent_low nodes n m e low is least most = omega (arith, parent_is nodes n m e is least most, low (n - 1) (omega (arith, least, most)), least)

pub moved_here : (nodes : List Node) (failed : List ℕ) (at end : ℕ) → AreLow nodes → 1 ≤ at → at ≤ length nodes → is_among failed at ≡ true
    → nearest (parents_of nodes) failed at ≡ nearest (parents_of nodes) failed end → at ≡ moved (parents_of nodes) failed end
moved_here nodes failed at end low least most here same =
    let ps = parents_of nodes in
    let found = nearest_here ps failed at least (omega (arith, most, length-map nodes (λ (node : Node). node.parent))) (low_parents nodes low) here in
    sym (moved_is ps failed end ∙ ap (λ o. unwrap_or o end) (sym same ∙ found))

pub moved_nowhere : (nodes : List Node) (failed : List ℕ) (at end : ℕ) → at ≡ 0 → nearest (parents_of nodes) failed at ≡ nearest (parents_of nodes) failed end → end ≡ moved (parents_of nodes) failed end
moved_nowhere nodes failed at end none same =
    let ps = parents_of nodes in
    sym (moved_is ps failed end ∙ ap (λ o. unwrap_or o end) (sym same ∙ ap (nearest ps failed) none ∙ nearest_none ps failed))

pub moved_up : (nodes : List Node) (failed : List ℕ) (at m end : ℕ) (e : Node) → AreLow nodes → m ≡ at → 1 ≤ at → at ≤ length nodes → at ≤ end → is_among failed at ≡ false
    → nearest (parents_of nodes) failed at ≡ nearest (parents_of nodes) failed end
    → ((get_or nodes (m - 1) e).parent ≤ end) × (nearest (parents_of nodes) failed (get_or nodes (m - 1) e).parent ≡ nearest (parents_of nodes) failed end)
moved_up nodes failed at m end e low is least most under other same =
    let ps = parents_of nodes in
    let above = nearest_above ps failed at least (omega (arith, most, length-map nodes (λ (node : Node). node.parent))) (low_parents nodes low) other in
    (omega (arith, parent_low nodes at m e low is least most, under), ap (nearest ps failed) (sym (parent_is nodes at m e is least most)) ∙ sym above ∙ same)

pub one_moved : (f : ℕ → ℕ) (all ends : List ℕ) (i item value : ℕ) → ends ≡ map f (take i all) ++ drop i all → i < length all → item ≡ get_or ends i item → value ≡ f item
    → set ends i value ≡ map f (take (i + 1) all) ++ drop (i + 1) all
one_moved f all ends i item value are less read value_is =
    let x = get_or all i 0 in
    let front = map f (take i all) in
    let behind = drop (i + 1) all in
    let long : length front ≡ i = length-map (take i all) f ∙ length-take-le i all (omega (arith, less)) in
    let split : ends ≡ front ++ (x ∷ behind) = are ∙ ap (λ l. front ++ l) (drop_more all i 0 less) in
    let item_is : item ≡ x = read ∙ ap (λ l. get_or l i item) split ∙ get_or_at front x behind item i long in
    ap (λ l. set l i value) split
    ∙ set_at front x behind value i long
    ∙ ap (λ v. front ++ (v ∷ behind)) (value_is ∙ ap f item_is)
    ∙ sym (append_assoc front (f x ∷ []) behind)
    ∙ ap (λ l. l ++ behind) (sym (map_more f all i 0 less))

pub numbered_at : {X : Type 0} (f : Node → X) (nodes : List Node) (n m : ℕ) (e : Node) → m ≡ n → 1 ≤ n → n ≤ length nodes → e ≡ get_or nodes (m - 1) e → numbered (map f nodes) n ≡ Some (f e)
numbered_at f nodes zero m e is least most read = absurd (omega arith)
numbered_at f nodes (suc i) m e is least most read =
    let back : m - 1 ≡ i = omega (arith, is) in
    placed f nodes i e (omega arith) ∙ ap (λ (x : Node). Some (f x)) (ap (λ k. get_or nodes k e) (sym back) ∙ sym read)
  where
    placed : {X : Type 0} (f : Node → X) (nodes : List Node) (i : ℕ) (e : Node) → i < length nodes → slice_get (map f nodes) i ≡ Some (f (get_or nodes i e))
    placed f [] i e less = absurd (omega arith)
    placed f (node ∷ nodes) zero e less = refl
    placed f (node ∷ nodes) (suc i) e less = placed f nodes i e (omega arith)

pub kept_long : (nodes : List Node) (children : List (List ℕ)) (cuts : List Bool) (ends : List ℕ) → IsKept nodes children cuts ends → length children ≡ length nodes + 1
kept_long nodes children cuts ends kept =
    ap length kept.children_are ∙ length-map-range_with_len (children_of (record { nodes = nodes; cut = cuts; ends = ends })) 0 (length nodes + 1)

pub kept_row : (nodes : List Node) (children : List (List ℕ)) (cuts : List Bool) (ends : List ℕ) → IsKept nodes children cuts ends → (n m : ℕ) (row : List ℕ) → m ≡ n → n ≤ length nodes → row ≡ get_or children m row
    → row ≡ children_of (record { nodes = nodes; cut = cuts; ends = ends }) n
kept_row nodes children cuts ends kept n m row is most read =
    read
    ∙ ap (λ k. get_or children k row) is
    ∙ ap (λ l. get_or l n row) kept.children_are
    ∙ get_or-map-range_with_len (children_of (record { nodes = nodes; cut = cuts; ends = ends })) 0 (length nodes + 1) n n row (omega arith) (omega arith)

pub few_cleared : (failed : List ℕ) (count : ℕ) (children row : List (List ℕ)) → AreWithin failed count → length children ≡ count + 1 → row ≡ children → All (λ n. n < length row) failed
few_cleared failed count children row within long is k d less = omega (arith, (within k d less).1, long, ap length is)

pub cut_view : (nodes : List Node) (cuts cuts' : List Bool) (ends ends' failed : List ℕ) → cuts' ≡ marked failed cuts → ends' ≡ map (moved (parents_of nodes) failed) ends
    → (let was : ForestParts = record { nodes = nodes; cut = cuts; ends = ends } in let is : ForestParts = record { nodes = nodes; cut = cuts'; ends = ends' } in is ≡ cut failed was)
unfolding cut
cut_view nodes cuts cuts' ends ends' failed cuts_are ends_are = λ i. record { nodes = nodes; cut = cuts_are i; ends = ends_are i }
