-- The nodes of a version, which are found from the last one up.
use Rattle.std.proofs.Common.{◌≡◌, ℕ, zero, suc, ◌+◌, ◌-◌, ◌<◌, ◌≤◌, List, [], ◌∷◌, length, get_or, drop, set, map, Some, slice_get, refl, sym, ap, ◌∙◌, subst, arith}
use Rattle.std.specs.List.{Contains}
use Rattle.std.proofs.lemmas.List.{get_or-map, length-map, length-set}
use Rattle.std.proofs.lemmas.Option.{slice_get-get_or}
use Rattle.star_meaning.specs.Validity.{no_cell}
use Rattle.exec_tree.specs.declared.checked.Checked.{Checked}
use Rattle.exec_tree.specs.Prefixes.{Prefix, keys_of, number_of, prefixes}
use Rattle.exec_tree.specs.Forests.{IsNode, forest_of, parent_of}
use Rattle.audit_run.specs.Visits.{nodes_of}
use Rattle.audit_run.proofs.TreeLemmas.{ends_there, length-nodes_of, nodes_within, parent_before}

-- from this place on the nodes are the version's, and this node stands before them
pub record Filled (all : List Prefix) (v : Checked) (left node : ℕ) (nodes : List ℕ) : Type 0 where
  pub within : left ≤ length v.cells
  pub long : length nodes ≡ length v.cells
  pub node_is : node ≡ get_or (0 ∷ nodes_of all v) left 0
  pub filled : drop left nodes ≡ drop left (nodes_of all v)

gone : (xs : List ℕ) (n : ℕ) → length xs ≤ n → drop n xs ≡ []
gone [] zero short = refl
gone [] (suc n) short = refl
gone (x ∷ xs) zero short = absurd (omega (arith, short))
gone (x ∷ xs) (suc n) short = gone xs n (omega (arith, short))

drop_set : (xs : List ℕ) (j x : ℕ) → j < length xs → drop j (set xs j x) ≡ x ∷ drop (suc j) xs
drop_set [] j x less = absurd (omega (arith, less))
drop_set (a ∷ xs) zero x less = refl
drop_set (a ∷ xs) (suc j) x less = drop_set xs j x (omega (arith, less))

drop_at : (xs : List ℕ) (j : ℕ) → j < length xs → drop j xs ≡ get_or xs j 0 ∷ drop (suc j) xs
drop_at [] j less = absurd (omega (arith, less))
drop_at (a ∷ xs) zero less = refl
drop_at (a ∷ xs) (suc j) less = drop_at xs j (omega (arith, less))

-- an element of a list
pub element : {X : Type 0} (xs : List X) (k : ℕ) (x : X) → slice_get xs k ≡ Some x → Contains xs x
element [] k x is = cc
element (a ∷ xs) zero x is = let same : a ≡ x = cc in (0, omega arith, same)
element (a ∷ xs) (suc k) x is = let rest = element xs k x is in (suc rest.0, (let less : rest.0 < length xs = rest.1 in omega (arith, less)), rest.2)

-- something stands at each place of a list
pub some_at : {X : Type 0} (xs : List X) (k : ℕ) → k < length xs → (x : X) × (slice_get xs k ≡ Some x)
some_at [] k less = absurd (omega (arith, less))
some_at (x ∷ xs) zero less = (x, refl)
some_at (x ∷ xs) (suc k) less = some_at xs k (omega (arith, less))

-- what is read at a place stands there
pub there_at : {X : Type 0} (xs : List X) (k : ℕ) (x : X) → k < length xs → x ≡ get_or xs k x → slice_get xs k ≡ Some x
there_at xs k x less is = slice_get-get_or xs k x less ∙ ap Some (sym is)

pub read_at : {X : Type 0} (xs : List X) (k : ℕ) (x d : X) → slice_get xs k ≡ Some x → get_or xs k d ≡ x
read_at [] k x d is = cc
read_at (a ∷ xs) zero x d is = cc
read_at (a ∷ xs) (suc k) x d is = read_at xs k x d is

-- what is read at the place of an element is that element
pub same_read : {X : Type 0} (xs : List X) (k : ℕ) (x y : X) → slice_get xs k ≡ Some x → y ≡ get_or xs k y → y ≡ x
same_read xs k x y there is = is ∙ read_at xs k x y there

-- some beginning, where one is asked for that does not matter
abbrev pub no_prefix : Prefix
no_prefix = record { above = []; cell = no_cell; inputs = [] }

-- the ends of the versions
pub ends_long : (versions : List Checked) → length (forest_of versions).ends ≡ length versions
unfolding forest_of
ends_long versions = length-map versions (λ (v : Checked). number_of (prefixes versions) (keys_of v))

end_in : (all : List Prefix) (vs : List Checked) (k : ℕ) (v : Checked) (d : ℕ) → slice_get vs k ≡ Some v → get_or (map (λ (w : Checked). number_of all (keys_of w)) vs) k d ≡ number_of all (keys_of v)
end_in all [] k v d is = cc
end_in all (w ∷ vs) zero v d is = let same : w ≡ v = cc in ap (λ (x : Checked). number_of all (keys_of x)) same
end_in all (w ∷ vs) (suc k) v d is = end_in all vs k v d is

pub end_at : (versions : List Checked) (k : ℕ) (v : Checked) (d : ℕ) → slice_get versions k ≡ Some v → get_or (forest_of versions).ends k d ≡ number_of (prefixes versions) (keys_of v)
unfolding forest_of
end_at versions k v d is = end_in (prefixes versions) versions k v d is

pub filled_starts : (versions : List Checked) (v : Checked) (left node : ℕ) (nodes : List ℕ) → Contains versions v → left ≡ length v.cells → length nodes ≡ left
    → node ≡ number_of (prefixes versions) (keys_of v) → Filled (prefixes versions) v left node nodes
filled_starts versions v left node nodes there is long end =
    let all = prefixes versions in
    record {
      within = omega (arith, is);
      long = long ∙ is;
      node_is = end ∙ (ends_there versions v there ∙ ap (λ n. get_or (0 ∷ nodes_of all v) n 0) (sym is));
      filled = gone nodes left (omega (arith, long)) ∙ sym (gone (nodes_of all v) left (omega (arith, is, length-nodes_of versions v there)));
    }

pub filled_node : (versions : List Checked) (v : Checked) (left j node : ℕ) (nodes : List ℕ) (d : Prefix) → Contains versions v → left ≡ suc j
    → Filled (prefixes versions) v left node nodes → IsNode (forest_of versions) node
filled_node versions v left j node nodes d there is filled =
    let at : node ≡ get_or (nodes_of (prefixes versions) v) j 0 = filled.node_is ∙ ap (λ n. get_or (0 ∷ nodes_of (prefixes versions) v) n 0) is in
    subst (IsNode (forest_of versions)) (sym at) (nodes_within versions v there j d (omega (arith, is, filled.within)))

pub filled_more : (versions : List Checked) (v : Checked) (left j node parent : ℕ) (nodes : List ℕ) (d : Prefix) → Contains versions v → left ≡ suc j
    → Filled (prefixes versions) v left node nodes → parent ≡ parent_of (forest_of versions) node → Filled (prefixes versions) v j parent (set nodes j node)
filled_more versions v left j node parent nodes d there is filled above =
    let all = prefixes versions in
    let ns = nodes_of all v in
    let at : node ≡ get_or ns j 0 = filled.node_is ∙ ap (λ n. get_or (0 ∷ ns) n 0) is in
    let less : j < length v.cells = omega (arith, is, filled.within) in
    let own : length ns ≡ length v.cells = length-nodes_of versions v there in
    record {
      within = omega (arith, less);
      long = length-set nodes j node ∙ filled.long;
      node_is = above ∙ (ap (parent_of (forest_of versions)) at ∙ parent_before versions v there j d less);
      filled =
          drop_set nodes j node (omega (arith, less, filled.long))
          ∙ (ap (λ n. n ∷ drop (suc j) nodes) at
          ∙ (ap (λ l. get_or ns j 0 ∷ l) (sym (ap (λ n. drop n nodes) is) ∙ (filled.filled ∙ ap (λ n. drop n ns) is))
          ∙ sym (drop_at ns j (omega (arith, less, own)))));
    }
