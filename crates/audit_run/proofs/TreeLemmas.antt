-- How the beginnings of versions stand in their tree.
use Rattle.std.proofs.Common.{◌≡◌, ℕ, zero, suc, ◌+◌, ◌-◌, ◌<◌, ◌≤◌, Bool, true, false, not, ◌||◌, cond, List, [], ◌∷◌, ◌++◌, length, get_or, map, Option, Some, None, refl, sym, ap, ◌∙◌, subst, arith, append_assoc, IsTrue}
use Rattle.std.specs.List.{All, Contains, flat_map, list_any, position_or_len}
use Rattle.std.proofs.lemmas.Bool.{false≢true}
use Rattle.std.proofs.lemmas.List.{append-nil, get_or-map, length-map}
use Rattle.std.proofs.lemmas.List.Elements.{All-append, All-cons, All-head, All-nil, All-push, All-tail, Contains-append_left, Contains-append_right, Contains-get_or}
use Rattle.std.proofs.lemmas.List.Folds.{list_any-append}
use Rattle.std.proofs.lemmas.List.Sums.{passes_at_first}
use Rattle.star_syntax.specs.CellParts.{CellParts}
use Rattle.star_syntax.specs.Cells.{numbered}
use Rattle.exec_tree.specs.declared.checked.Checked.{Checked}
use Rattle.exec_tree.specs.declared.node.Node.{Node}
use Rattle.exec_tree.specs.Keys.{InputMap, Key, key_of, same_keys}
use Rattle.exec_tree.specs.KeyLaws.{same_keys-Decides}
use Rattle.exec_tree.specs.Prefixes.{Prefix, keys, keys_of, last_key, number_of, prefixes, prefixes_below, prefixes_of, same_prefix}
use Rattle.exec_tree.specs.Forests.{cells_of, forest_of, node_of, parent_of, parents_of}
use Rattle.exec_tree.specs.Growths.{grown, with_prefix}
use Rattle.exec_tree.proofs.CutLemmas.{numbered_at}
use Rattle.exec_tree.proofs.NumberLemmas.{grown-cons, grown-nil, grown_prefixes}
use Rattle.audit_run.specs.Sources.{HaveTheirSources}
use Rattle.audit_run.specs.Visits.{nodes_of, program_of}

-- ---- each prefix is among the distinct ones

-- whether one with these keys is among them
abbrev pub has : List Prefix → Prefix → Bool
has all p = list_any (λ q. same_prefix q p) all

itself : (p : Prefix) → same_prefix p p ≡ true
itself p = (same_keys-Decides (keys p) (keys p)).1 refl

or_left : (a b : Bool) → a ≡ true → (a || b) ≡ true
or_left true b h = refl
or_left false b h = absurd (false≢true h)

or_right : (a b : Bool) → b ≡ true → (a || b) ≡ true
or_right true b h = refl
or_right false b h = h

there_at : (all : List Prefix) (p x : Prefix) (t : Bool) → (has all p || has (x ∷ []) p) ≡ true → (t ≡ true → has all p ≡ true) → has (cond t all (all ++ x ∷ [])) p ≡ true
there_at all p x true h k = k refl
there_at all p x false h k = list_any-append (λ q. same_prefix q p) all (x ∷ []) ∙ h

pub has_added : (all : List Prefix) (p : Prefix) → has (with_prefix all p) p ≡ true
unfolding with_prefix
has_added all p = there_at all p p (has all p) (or_right (has all p) (has (p ∷ []) p) (or_left (same_prefix p p) false (itself p))) (λ h. h)

has_kept : (all : List Prefix) (p x : Prefix) → has all p ≡ true → has (with_prefix all x) p ≡ true
unfolding with_prefix
has_kept all p x h = there_at all p x (has all x) (or_left (has all p) (has (x ∷ []) p) h) (λ same. h)

has_grown : (all more : List Prefix) (p : Prefix) → has all p ≡ true → has (grown all more) p ≡ true
has_grown all [] p h = ap (λ known. has known p) (grown-nil all) ∙ h
has_grown all (x ∷ more) p h = ap (λ known. has known p) (grown-cons all x more) ∙ has_grown (with_prefix all x) more p (has_kept all p x h)

has_each : (all more : List Prefix) (k : ℕ) (d : Prefix) → k < length more → has (grown all more) (get_or more k d) ≡ true
has_each all [] k d less = absurd (omega (arith, less))
has_each all (x ∷ more) zero d less = ap (λ known. has known x) (grown-cons all x more) ∙ has_grown (with_prefix all x) more x (has_added all x)
has_each all (x ∷ more) (suc k) d less =
    ap (λ known. has known (get_or more k d)) (grown-cons all x more) ∙ has_each (with_prefix all x) more k d (omega (arith, less))

pub has_prefix : (versions : List Checked) (p : Prefix) → Contains (flat_map prefixes_of versions) p → has (prefixes versions) p ≡ true
has_prefix versions p there =
    ap (λ known. has known p) (sym (grown_prefixes versions))
    ∙ (ap (has (grown [] (flat_map prefixes_of versions))) (sym there.2) ∙ has_each [] (flat_map prefixes_of versions) there.0 p there.1)

-- ---- what holds of each prefix holds of the distinct ones

module _ (P : Prefix → Type 0) where
  all_at : (all : List Prefix) (x : Prefix) (t : Bool) → All P all → P x → All P (cond t all (all ++ x ∷ []))
  all_at all x true h k = h
  all_at all x false h k = All-push P all x h k

  all_added : (all : List Prefix) (x : Prefix) → All P all → P x → All P (with_prefix all x)
  unfolding with_prefix
  all_added all x h k = all_at all x (has all x) h k

  all_grown : (all more : List Prefix) → All P all → All P more → All P (grown all more)
  all_grown all [] h k = subst (All P) (sym (grown-nil all)) h
  all_grown all (x ∷ more) h k =
      subst (All P) (sym (grown-cons all x more)) (all_grown (with_prefix all x) more (all_added all x h (All-head P x more k)) (All-tail P x more k))

  pub all_prefixes : (versions : List Checked) → All P (flat_map prefixes_of versions) → All P (prefixes versions)
  all_prefixes versions h = subst (All P) (grown_prefixes versions) (all_grown [] (flat_map prefixes_of versions) (All-nil P) h)

-- ---- where a prefix stands

-- its place among the distinct ones, from 0 on
abbrev pub place : List Prefix → Prefix → ℕ
place all p = position_or_len (λ q. same_keys (keys p) (keys q)) all

same_back : (p q : Prefix) → same_prefix q p ≡ true → same_keys (keys p) (keys q) ≡ true
same_back p q h = (same_keys-Decides (keys p) (keys q)).1 (sym ((same_keys-Decides (keys q) (keys p)).0 h))

place_here : (n len : ℕ) (t s rest : Bool) → (s ≡ true → t ≡ true) → (rest ≡ true → n < len) → (s || rest) ≡ true → cond (not t) (1 + n) 0 < suc len
place_here n len true s rest back there h = omega arith
place_here n len false true rest back there h = absurd (false≢true (back refl))
place_here n len false false rest back there h = let less : n < len = there h in omega (arith, less)

pub place_less : (p : Prefix) (all : List Prefix) → has all p ≡ true → place all p < length all
place_less p [] h = absurd (false≢true h)
place_less p (q ∷ all) h = place_here (place all p) (length all) (same_keys (keys p) (keys q)) (same_prefix q p) (has all p) (same_back p q) (place_less p all) h

number_push : (all : List Prefix) (xs : List Key) (key : Key) → number_of all (xs ++ key ∷ []) ≡ 1 + position_or_len (λ q. same_keys (xs ++ key ∷ []) (keys q)) all
unfolding number_of
number_push all [] key = refl
number_push all (x ∷ xs) key = refl

-- its number, from 1 on
pub number_is : (all : List Prefix) (p : Prefix) → number_of all (keys p) ≡ 1 + place all p
number_is all p = number_push all p.above (last_key p)

-- the one that stands there has the same keys
pub keys_there : (all : List Prefix) (p : Prefix) → has all p ≡ true → keys (get_or all (place all p) p) ≡ keys p
keys_there all p h =
    sym ((same_keys-Decides (keys p) (keys (get_or all (place all p) p))).0 (passes_at_first (λ q. same_keys (keys p) (keys q)) all p (place_less p all h)))

-- ---- the last of a list, and those before it

abbrev before_last : {X : Type 0} → List X → List X
before_last [] = []
before_last (x ∷ []) = []
before_last (x ∷ (y ∷ ys)) = x ∷ before_last (y ∷ ys)

abbrev last_of : {X : Type 0} → X → List X → X
last_of d [] = d
last_of d (x ∷ xs) = last_of x xs

before_last-push : {X : Type 0} (xs : List X) (x : X) → before_last (xs ++ x ∷ []) ≡ xs
before_last-push [] x = refl
before_last-push (a ∷ []) x = refl
before_last-push (a ∷ (b ∷ xs)) x = ap (λ l. a ∷ l) (before_last-push (b ∷ xs) x)

last_of-push : {X : Type 0} (d x : X) (xs : List X) → last_of d (xs ++ x ∷ []) ≡ x
last_of-push d x [] = refl
last_of-push d x (a ∷ xs) = last_of-push a x xs

-- prefixes with the same keys stand below the same cells, and end in cells of one key
above_same : (p q : Prefix) → keys q ≡ keys p → q.above ≡ p.above
above_same p q same = sym (before_last-push q.above (last_key q)) ∙ (ap before_last same ∙ before_last-push p.above (last_key p))

last_same : (p q : Prefix) → keys q ≡ keys p → last_key q ≡ last_key p
last_same p q same = sym (last_of-push (last_key p) (last_key q) q.above) ∙ (ap (last_of (last_key p)) same ∙ last_of-push (last_key p) (last_key p) p.above)

-- ---- the node of a prefix

-- the node is one of the tree
pub is_node : (versions : List Checked) (p : Prefix) → has (prefixes versions) p ≡ true
    → (1 ≤ number_of (prefixes versions) (keys p)) × (number_of (prefixes versions) (keys p) ≤ length (forest_of versions).nodes)
unfolding forest_of
is_node versions p h =
    let all = prefixes versions in
    let less : place all p < length all = place_less p all h in
    let number : number_of all (keys p) ≡ 1 + place all p = number_is all p in
    let long : length (map (node_of all) all) ≡ length all = length-map all (node_of all) in
    (omega (arith, number), omega (arith, number, less, long))

-- above it stands the prefix without the last cell
pub parent_is : (versions : List Checked) (p : Prefix) → has (prefixes versions) p ≡ true
    → parent_of (forest_of versions) (number_of (prefixes versions) (keys p)) ≡ number_of (prefixes versions) p.above
unfolding forest_of
parent_is versions p h =
    let all = prefixes versions in
    let i = place all p in
    let less : i < length all = place_less p all h in
    let long : length (map (node_of all) all) ≡ length all = length-map all (node_of all) in
    let at : number_of all (keys p) - 1 ≡ i = omega (arith, number_is all p) in
    ap (λ n. get_or (parents_of (map (node_of all) all)) n 0) at
    ∙ (get_or-map (λ (node : Node). node.parent) (map (node_of all) all) i (node_of all p) 0 (omega (arith, less, long))
    ∙ (ap (λ (node : Node). node.parent) (get_or-map (node_of all) all i p (node_of all p) less)
    ∙ ap (number_of all) (above_same p (get_or all i p) (keys_there all p h))))

-- a cell of one of the versions
abbrev pub IsCellOf : List Checked → CellParts → Type 0
IsCellOf versions cell = (version : Checked) × Contains versions version × Contains version.cells cell

-- it has the prefix's cell, where cells of one source are one cell
pub cell_is : (versions : List Checked) (p : Prefix) → HaveTheirSources versions → All (λ (q : Prefix). IsCellOf versions q.cell) (flat_map prefixes_of versions)
    → IsCellOf versions p.cell → has (prefixes versions) p ≡ true
    → numbered (program_of versions).cells (number_of (prefixes versions) (keys p)) ≡ Some p.cell
unfolding forest_of
cell_is versions p sources each own h =
    let all = prefixes versions in
    let i = place all p in
    let less : i < length all = place_less p all h in
    let q = get_or all i p in
    let other : IsCellOf versions q.cell = all_prefixes (λ (x : Prefix). IsCellOf versions x.cell) versions each i p less in
    let source : q.cell.source ≡ p.cell.source = ap (λ (key : Key). key.0) (last_same p q (keys_there all p h)) in
    let same : q.cell ≡ p.cell = sources other.0 own.0 q.cell p.cell other.1 own.1 other.2 own.2 source in
    let n = number_of all (keys p) in
    let number : n ≡ 1 + i = number_is all p in
    let long : length (map (node_of all) all) ≡ length all = length-map all (node_of all) in
    let at : n - 1 ≡ i = omega (arith, number) in
    let node : get_or (map (node_of all) all) (n - 1) (node_of all q) ≡ node_of all q =
    ap (λ k. get_or (map (node_of all) all) k (node_of all q)) at ∙ get_or-map (node_of all) all i p (node_of all q) less in
    numbered_at (λ (x : Node). x.cell) (map (node_of all) all) n n (node_of all q) refl (omega (arith, number)) (omega (arith, number, less, long)) (sym node) ∙ ap Some same

-- ---- the cells of a version

-- each prefix of a version ends in a cell of it
each_below : (inputs : InputMap) (above : List Key) (cells : List CellParts) → All (λ (p : Prefix). Contains cells p.cell) (prefixes_below inputs above cells)
unfolding prefixes_below
each_below inputs above [] = All-nil (λ (p : Prefix). Contains [] p.cell)
each_below inputs above (cell ∷ cells) =
    let more = prefixes_below inputs (above ++ key_of inputs cell ∷ []) cells in
    let rest = each_below inputs (above ++ key_of inputs cell ∷ []) cells in
    All-cons (λ (p : Prefix). Contains (cell ∷ cells) p.cell) (record { above = above; cell = cell; inputs = inputs }) more
    (Contains-get_or (cell ∷ cells) 0 cell (omega arith))
    (λ k d less. Contains-append_right (cell ∷ []) cells (get_or more k d).cell (rest k d less))

each_cell : (versions vs : List Checked) → All (λ (v : Checked). Contains versions v) vs → All (λ (q : Prefix). IsCellOf versions q.cell) (flat_map prefixes_of vs)
each_cell versions [] h = All-nil (λ (q : Prefix). IsCellOf versions q.cell)
each_cell versions (v ∷ vs) h =
    All-append (λ (q : Prefix). IsCellOf versions q.cell) (prefixes_of v) (flat_map prefixes_of vs)
    (λ k d less. (v, All-head (λ (w : Checked). Contains versions w) v vs h, each_below v.inputs [] v.cells k d less))
    (each_cell versions vs (All-tail (λ (w : Checked). Contains versions w) v vs h))

pub cells_of_versions : (versions : List Checked) → All (λ (q : Prefix). IsCellOf versions q.cell) (flat_map prefixes_of versions)
cells_of_versions versions = each_cell versions versions (λ k d less. Contains-get_or versions k d less)

-- a version's prefixes are prefixes of the versions
in_flat_map : (vs : List Checked) (i : ℕ) (v : Checked) (p : Prefix) → i < length vs → get_or vs i v ≡ v → Contains (prefixes_of v) p → Contains (flat_map prefixes_of vs) p
in_flat_map [] i v p less is h = absurd (omega (arith, less))
in_flat_map (w ∷ vs) zero v p less is h =
    Contains-append_left (prefixes_of w) (flat_map prefixes_of vs) p (subst (λ (x : Checked). Contains (prefixes_of x) p) (sym is) h)
in_flat_map (w ∷ vs) (suc i) v p less is h =
    Contains-append_right (prefixes_of w) (flat_map prefixes_of vs) p (in_flat_map vs i v p (omega (arith, less)) is h)

pub of_versions : (versions : List Checked) (v : Checked) (p : Prefix) → Contains versions v → Contains (prefixes_of v) p → has (prefixes versions) p ≡ true
of_versions versions v p there h = has_prefix versions p (in_flat_map versions there.0 v p there.1 there.2 h)

pub length-prefixes_of : (inputs : InputMap) (above : List Key) (cells : List CellParts) → length (prefixes_below inputs above cells) ≡ length cells
unfolding prefixes_below
length-prefixes_of inputs above [] = refl
length-prefixes_of inputs above (cell ∷ cells) = ap suc (length-prefixes_of inputs (above ++ key_of inputs cell ∷ []) cells)

-- the cell of each
pub cell_at : (inputs : InputMap) (above : List Key) (cells : List CellParts) (k : ℕ) (d : Prefix) (c : CellParts) → k < length cells
    → (get_or (prefixes_below inputs above cells) k d).cell ≡ get_or cells k c
unfolding prefixes_below
cell_at inputs above [] k d c less = absurd (omega (arith, less))
cell_at inputs above (cell ∷ cells) zero d c less = refl
cell_at inputs above (cell ∷ cells) (suc k) d c less = cell_at inputs (above ++ key_of inputs cell ∷ []) cells k d c (omega (arith, less))

-- the number of each
abbrev pub numbers : List Prefix → List Prefix → List ℕ
numbers all ps = map (λ (p : Prefix). number_of all (keys p)) ps

-- below each stands the one before it
above_at : (all : List Prefix) (inputs : InputMap) (above : List Key) (cells : List CellParts) (k : ℕ) (d : Prefix) → k < length cells
    → number_of all (get_or (prefixes_below inputs above cells) k d).above ≡ get_or (number_of all above ∷ numbers all (prefixes_below inputs above cells)) k 0
unfolding prefixes_below
above_at all inputs above [] k d less = absurd (omega (arith, less))
above_at all inputs above (cell ∷ cells) zero d less = refl
above_at all inputs above (cell ∷ cells) (suc k) d less = above_at all inputs (above ++ key_of inputs cell ∷ []) cells k d (omega (arith, less))

end_at : (all : List Prefix) (inputs : InputMap) (above : List Key) (cells : List CellParts)
    → number_of all (above ++ map (key_of inputs) cells) ≡ get_or (number_of all above ∷ numbers all (prefixes_below inputs above cells)) (length cells) 0
unfolding prefixes_below
end_at all inputs above [] = ap (number_of all) (append-nil above)
end_at all inputs above (cell ∷ cells) =
    ap (number_of all) (sym (append_assoc above (key_of inputs cell ∷ []) (map (key_of inputs) cells))) ∙ end_at all inputs (above ++ key_of inputs cell ∷ []) cells

pub number_none : (all : List Prefix) → number_of all [] ≡ 0
unfolding number_of
number_none all = refl

-- ---- a version's nodes, for the versions' tree

module _ (versions : List Checked) (v : Checked) (there : Contains versions v) where
  -- the last of them is the version's end
  pub ends_there : number_of (prefixes versions) (keys_of v) ≡ get_or (0 ∷ nodes_of (prefixes versions) v) (length v.cells) 0
  ends_there =
      end_at (prefixes versions) v.inputs [] v.cells
      ∙ ap (λ n. get_or (n ∷ nodes_of (prefixes versions) v) (length v.cells) 0) (number_none (prefixes versions))

  pub length-nodes_of : length (nodes_of (prefixes versions) v) ≡ length v.cells
  length-nodes_of = length-map (prefixes_of v) (λ (p : Prefix). number_of (prefixes versions) (keys p)) ∙ length-prefixes_of v.inputs [] v.cells

  pub prefix_there : (k : ℕ) (d : Prefix) → k < length v.cells → has (prefixes versions) (get_or (prefixes_of v) k d) ≡ true
  prefix_there k d less =
      let long : length (prefixes_of v) ≡ length v.cells = length-prefixes_of v.inputs [] v.cells in
      of_versions versions v (get_or (prefixes_of v) k d) there (Contains-get_or (prefixes_of v) k d (omega (arith, long, less)))

  pub node_at : (k : ℕ) (d : Prefix) → k < length v.cells → get_or (nodes_of (prefixes versions) v) k 0 ≡ number_of (prefixes versions) (keys (get_or (prefixes_of v) k d))
  node_at k d less =
      let long : length (prefixes_of v) ≡ length v.cells = length-prefixes_of v.inputs [] v.cells in
      get_or-map (λ (p : Prefix). number_of (prefixes versions) (keys p)) (prefixes_of v) k d 0 (omega (arith, long, less))

  -- each is a node of the tree
  pub nodes_within : (k : ℕ) (d : Prefix) → k < length v.cells
      → (1 ≤ get_or (nodes_of (prefixes versions) v) k 0) × (get_or (nodes_of (prefixes versions) v) k 0 ≤ length (forest_of versions).nodes)
  nodes_within k d less =
      subst (λ n. (1 ≤ n) × (n ≤ length (forest_of versions).nodes)) (sym (node_at k d less)) (is_node versions (get_or (prefixes_of v) k d) (prefix_there k d less))

  -- and stands below the one before it
  pub parent_before : (k : ℕ) (d : Prefix) → k < length v.cells
      → parent_of (forest_of versions) (get_or (nodes_of (prefixes versions) v) k 0) ≡ get_or (0 ∷ nodes_of (prefixes versions) v) k 0
  parent_before k d less =
      ap (parent_of (forest_of versions)) (node_at k d less)
      ∙ (parent_is versions (get_or (prefixes_of v) k d) (prefix_there k d less)
      ∙ (above_at (prefixes versions) v.inputs [] v.cells k d less
      ∙ ap (λ n. get_or (n ∷ nodes_of (prefixes versions) v) k 0) (number_none (prefixes versions))))

  -- its cell is the version's
  pub cell_there : (k : ℕ) (d : Prefix) (c : CellParts) → HaveTheirSources versions → k < length v.cells
      → numbered (program_of versions).cells (get_or (nodes_of (prefixes versions) v) k 0) ≡ Some (get_or v.cells k c)
  cell_there k d c sources less =
      let p = get_or (prefixes_of v) k d in
      let long : length (prefixes_of v) ≡ length v.cells = length-prefixes_of v.inputs [] v.cells in
      let own : IsCellOf versions p.cell = (v, there, each_below v.inputs [] v.cells k d (omega (arith, long, less))) in
      ap (numbered (program_of versions).cells) (node_at k d less)
      ∙ (cell_is versions p sources (cells_of_versions versions) own (prefix_there k d less)
      ∙ ap Some (cell_at v.inputs [] v.cells k d c less))

  -- the number of the cells above it
  pub above_of : (k : ℕ) (d : Prefix) → k < length v.cells → number_of (prefixes versions) (get_or (prefixes_of v) k d).above ≡ get_or (0 ∷ nodes_of (prefixes versions) v) k 0
  above_of k d less =
      above_at (prefixes versions) v.inputs [] v.cells k d less
      ∙ ap (λ n. get_or (n ∷ nodes_of (prefixes versions) v) k 0) (number_none (prefixes versions))
