-- For each node of the versions' tree, the first version's cell that stands there.
use Rattle.std.proofs.Common.{◌≡◌, ℕ, suc, ◌<◌, Bool, not, List, [], ◌∷◌, length, get_or, Some, None, slice_get, sym, ap, ◌∙◌, arith}
use Rattle.std.specs.List.{All, Contains, filter, flat_map}
use Rattle.std.proofs.lemmas.List.{get_or-map, length-map}
use Rattle.std.proofs.lemmas.List.Elements.{All-append, All-cons, All-filter, All-head, All-nil, All-tail, Contains-get_or}
use Rattle.std.proofs.lemmas.Option.{slice_get-get_or}
use Rattle.star_meaning.specs.Validity.{nothing_ran}
use Rattle.exec_tree.specs.declared.checked.Checked.{Checked}
use Rattle.exec_tree.specs.Prefixes.{Prefix, firsts, keys, number_of, prefixes, prefixes_of}
use Rattle.exec_tree.specs.Forests.{forest_of, parent_of}
use Rattle.audit_run.specs.Visits.{Visit, nodes_of, same_node, visit_at, visits, visits_of}
use Rattle.audit_run.proofs.AddLemmas.{visits_prefixes}
use Rattle.audit_run.proofs.MeasuringLemmas.{visit_there, visits_long}
use Rattle.audit_run.proofs.PlacedLemmas.{StandsAt, prefixes_ordered}
use Rattle.audit_run.proofs.TreeLemmas.{node_at}
use Rattle.audit_run.proofs.WayLemmas.{no_prefix}
use Rattle.shared_run.proofs.BeginningLemmas.{parent_at}

abbrev pub no_visit : Visit
no_visit = record { number = 0; prefix = no_prefix; ran = None; state = nothing_ran }

all_firsts : {X : Type 0} (P : X → Type 0) (same : X → X → Bool) (xs : List X) → All P xs → All P (firsts same xs)
unfolding firsts
all_firsts P same [] h = All-nil P
all_firsts P same (x ∷ xs) h =
    All-cons P x (filter (λ y. not (same x y)) (firsts same xs)) (All-head P x xs h)
    (All-filter (λ y. not (same x y)) P (firsts same xs) (all_firsts P same xs (All-tail P x xs h)))

module _ (versions : List Checked) (allowance : ℕ) where
  -- it is that of a version's cell
  pub record IsVisit (x : Visit) : Type 0 where
    pub version : Checked
    pub spot : ℕ
    pub there : Contains versions version
    pub within : spot < length version.cells
    pub is : x ≡ visit_at versions allowance version (spot, get_or (prefixes_of version) spot no_prefix)

  of_version : (v : Checked) → Contains versions v → All IsVisit (visits_of versions allowance v)
  of_version v there k d less =
      let own : k < length v.cells = omega (arith, less, visits_long versions allowance v) in
      record { version = v; spot = k; there = there; within = own; is = visit_there versions allowance v k d no_prefix own }

  of_all : (vs : List Checked) → All (λ (v : Checked). Contains versions v) vs → All IsVisit (flat_map (visits_of versions allowance) vs)
  of_all [] h = All-nil IsVisit
  of_all (v ∷ vs) h =
      All-append IsVisit (visits_of versions allowance v) (flat_map (visits_of versions allowance) vs) (of_version v (All-head (λ (w : Checked). Contains versions w) v vs h))
      (of_all vs (All-tail (λ (w : Checked). Contains versions w) v vs h))

  -- the visit of node i + 1, and the beginning that ends there
  abbrev pub visit : ℕ → Visit
  visit i = get_or (visits versions allowance) i no_visit

  abbrev prefix : ℕ → Prefix
  prefix i = get_or (prefixes versions) i no_prefix

  pub visits_many : length (visits versions allowance) ≡ length (prefixes versions)
  visits_many = sym (length-map (visits versions allowance) (λ (x : Visit). x.prefix)) ∙ ap length (visits_prefixes versions allowance)

  pub visit_of : (i : ℕ) → i < length (prefixes versions) → IsVisit (visit i)
  visit_of i less =
      all_firsts IsVisit same_node (flat_map (visits_of versions allowance) versions) (of_all versions (λ k d low. Contains-get_or versions k d low)) i
      no_visit (omega (arith, less, visits_many))

  pub visit_is : (i : ℕ) → i < length (prefixes versions) → slice_get (visits versions allowance) i ≡ Some (visit i)
  visit_is i less = slice_get-get_or (visits versions allowance) i no_visit (omega (arith, less, visits_many))

  prefix_is : (i : ℕ) → i < length (prefixes versions) → (visit i).prefix ≡ prefix i
  prefix_is i less =
      sym (get_or-map (λ (x : Visit). x.prefix) (visits versions allowance) i no_visit no_prefix (omega (arith, less, visits_many)))
      ∙ ap (λ (l : List Prefix). get_or l i no_prefix) (visits_prefixes versions allowance)

  -- what stands above it is the node's parent
  pub above_is : (i : ℕ) → i < length (prefixes versions) → number_of (prefixes versions) (visit i).prefix.above ≡ parent_of (forest_of versions) (suc i)
  above_is i less = ap (λ (p : Prefix). number_of (prefixes versions) p.above) (prefix_is i less) ∙ sym (parent_at versions i no_prefix less)

  -- the cell has the node's number among those of its version
  pub number_there : (i : ℕ) → i < length (prefixes versions) → (x : IsVisit (visit i)) → get_or (nodes_of (prefixes versions) x.version) x.spot 0 ≡ suc i
  number_there i less x =
      let stands : StandsAt (prefixes versions) i (prefix i) = prefixes_ordered versions i no_prefix less in
      node_at versions x.version x.there x.spot no_prefix x.within
      ∙ (ap (λ (p : Prefix). number_of (prefixes versions) (keys p)) (ap (λ (y : Visit). y.prefix) (sym x.is) ∙ prefix_is i less)
      ∙ stands.own)
