-- The tree of versions as sound rows leave it: the reached nodes are those that are not removed.
use Rattle.std.proofs.Common.{◌≡◌, ℕ, zero, suc, ◌+◌, ◌<◌, ◌≤◌, ◌==◌, ◌⊎◌, inl, inr, Bool, true, false, not, ◌||◌, cond, List, [], ◌∷◌, length, get_or, replicate, map, Some, refl, sym, ap, ◌∙◌, subst, arith, eq-zero-or-pos}
use Rattle.std.specs.List.{All, filter, list_any, range_with_len}
use Rattle.std.proofs.lemmas.Bool.{false≢true}
use Rattle.std.proofs.lemmas.Bool.Decides.{Decides-eqb}
use Rattle.std.proofs.lemmas.List.{length-map, length-replicate}
use Rattle.std.proofs.lemmas.List.Elements.{All-cons, All-filter, All-nil, All-weaker}
use Rattle.star_syntax.specs.Cells.{numbered}
use Rattle.plan_type.specs.declared.costs.Costs.{Costs}
use Rattle.plan_type.specs.declared.row.Row.{Row}
use Rattle.plan_type.specs.declared.row.Reach.{Reach}
use Rattle.plan_type.specs.declared.row.Reach.TheVariants as reach
use Rattle.plan_type.specs.Costs.{IsReached, IsSound, is_dead_end, is_reached, is_reached_in, is_unreached, parent_in, row_of}
use Rattle.plan_type.specs.Costs as costs_spec
use Rattle.exec_tree.specs.declared.checked.Checked.{Checked}
use Rattle.exec_tree.specs.Forests.{ForestParts, IsNode, cut, forest_of, inputs_of, is_among, is_cut, is_removed, moved, node_of, parent_of, parents, path}
use Rattle.exec_tree.specs.Prefixes.{prefixes}
use Rattle.exec_tree.proofs.CutLemmas.{AreWithin, cut_is_cut, path_none}
use Rattle.audit_run.specs.Rows.{failed_nodes, has_failed, is_failed}
use Rattle.audit_run.specs.Visits as visits
use Rattle.audit_run.proofs.WayLemmas.{ends_long, some_at}
use Rattle.replayer.specs.Nodes.{program_of}
use Rattle.replayer.specs.Trees.{IsTreeOf}
use Rattle.replayer.proofs.PathLemmas.{path_step}
use Rattle.replayer.proofs.RowLemmas.{row_there}
use Rattle.replayer.proofs.TreeLemmas.{row_within, some_number}
use Rattle.shared_run.specs.Trees.{FitTree, tree_left}
use Rattle.shared_run.specs.Written.{way_to}

-- ---- what a cut leaves as it is

module _ (versions : List Checked) (rows : List Row) where
  pub count_left : length (tree_left versions rows).nodes ≡ length (forest_of versions).nodes
  unfolding cut
  count_left = refl

  pub parents_left : parents (tree_left versions rows) ≡ parents (forest_of versions)
  unfolding cut
  parents_left = refl

  pub parent_left : (v : ℕ) → parent_of (tree_left versions rows) v ≡ parent_of (forest_of versions) v
  unfolding cut
  parent_left v = refl

  pub inputs_left : inputs_of (tree_left versions rows) ≡ inputs_of (forest_of versions)
  unfolding cut
  inputs_left = refl

  pub ends_left : length (tree_left versions rows).ends ≡ length versions
  unfolding cut
  ends_left = length-map (forest_of versions).ends (moved (parents (forest_of versions)) (failed_nodes rows)) ∙ ends_long versions

  -- there is a way for each version
  pub ways_many : (forest : ForestParts) → forest ≡ tree_left versions rows → length (map (way_to (parents forest)) forest.ends) ≡ length versions
  ways_many forest is = length-map forest.ends (way_to (parents forest)) ∙ (ap (λ (f : ForestParts). length f.ends) is ∙ ends_left)

  pub program_left : program_of (tree_left versions rows) ≡ visits.program_of versions
  unfolding cut
  program_left = refl

-- ---- lists of numbers

not_same : (a b : ℕ) → (a ≡ b → ⊥) → (a == b) ≡ false
not_same a b h = by (a == b) refl
  where
    by : (t : Bool) → (a == b) ≡ t → t ≡ false
    by true is = absurd (h ((Decides-eqb a b).0 is))
    by false is = refl

among_before : (p : ℕ → Bool) (k s u : ℕ) → u < s → is_among (filter p (range_with_len s k)) u ≡ false
among_before p zero s u less = refl
among_before p (suc k) s u less = by (p s) (among_before p k (s + 1) u (omega (arith, less)))
  where
    by : (t : Bool) → is_among (filter p (range_with_len (s + 1) k)) u ≡ false → is_among (cond t (s ∷ filter p (range_with_len (s + 1) k)) (filter p (range_with_len (s + 1) k))) u ≡ false
    by true rest = ap (λ b. b || is_among (filter p (range_with_len (s + 1) k)) u) (not_same s u (λ is. absurd (omega (arith, is, less)))) ∙ rest
    by false rest = rest

-- a number of a range is among those that pass a test exactly where it passes
among_range : (p : ℕ → Bool) (k s u : ℕ) → s ≤ u → u < s + k → is_among (filter p (range_with_len s k)) u ≡ p u
among_range p zero s u low high = absurd (omega (arith, low, high))
among_range p (suc k) s u low high = by (s == u) refl (p s) refl (λ l h. among_range p k (s + 1) u l h)
  where
    by : (e : Bool) → (s == u) ≡ e → (t : Bool) → p s ≡ t → (s + 1 ≤ u → u < s + 1 + k → is_among (filter p (range_with_len (s + 1) k)) u ≡ p u)
        → is_among (cond t (s ∷ filter p (range_with_len (s + 1) k)) (filter p (range_with_len (s + 1) k))) u ≡ p u
    by true e true t rest = ap (λ b. b || is_among (filter p (range_with_len (s + 1) k)) u) e ∙ sym (sym (ap p ((Decides-eqb s u).0 e)) ∙ t)
    by true e false t rest = let same : s ≡ u = (Decides-eqb s u).0 e in among_before p k (s + 1) u (omega (arith, same)) ∙ sym (sym (ap p same) ∙ t)
    by false e true t rest =
        let other : s ≡ u → ⊥ = λ same. false≢true (sym e ∙ (Decides-eqb s u).1 same) in
        ap (λ b. b || is_among (filter p (range_with_len (s + 1) k)) u) e ∙ rest (omega (arith, other, low)) (omega (arith, high))
    by false e false t rest =
        let other : s ≡ u → ⊥ = λ same. false≢true (sym e ∙ (Decides-eqb s u).1 same) in rest (omega (arith, other, low)) (omega (arith, high))

in_range : (a n : ℕ) → All (λ m. (a ≤ m) × (m < a + n)) (range_with_len a n)
in_range a zero = All-nil (λ m. (a ≤ m) × (m < a + 0))
in_range a (suc n) =
    All-cons (λ m. (a ≤ m) × (m < a + suc n)) a (range_with_len (a + 1) n) (omega arith, omega arith)
    (All-weaker (λ m. (a + 1 ≤ m) × (m < a + 1 + n)) (λ m. (a ≤ m) × (m < a + suc n)) (λ m h. let low : a + 1 ≤ m = h.0 in let high : m < a + 1 + n = h.1 in (omega (arith, low), omega (arith, high)))
    (range_with_len (a + 1) n) (in_range (a + 1) n))

-- ---- nodes that failed

failed_among : (rows : List Row) (n : ℕ) → 1 ≤ n → n ≤ length rows → is_among (failed_nodes rows) n ≡ has_failed (numbered rows n)
failed_among rows n least most = among_range (λ m. has_failed (numbered rows m)) (length rows) 1 n least (omega (arith, most))

pub failed_within : (rows : List Row) (count : ℕ) → length rows ≡ count → AreWithin (failed_nodes rows) count
failed_within rows count many =
    All-weaker (λ m. (1 ≤ m) × (m < 1 + length rows)) (λ m. (1 ≤ m) × (m ≤ count)) (λ m h. let low : 1 ≤ m = h.0 in let high : m < 1 + length rows = h.1 in (low, omega (arith, high, many)))
    (failed_nodes rows)
    (All-filter (λ m. has_failed (numbered rows m)) (λ m. (1 ≤ m) × (m < 1 + length rows)) (range_with_len 1 (length rows)) (in_range 1 (length rows)))

none_cut : (k i : ℕ) → get_or (replicate k false) i false ≡ false
none_cut zero i = refl
none_cut (suc k) zero = refl
none_cut (suc k) (suc i) = none_cut k i

not_cut : (versions : List Checked) (n : ℕ) → is_cut (forest_of versions) n ≡ false
unfolding forest_of
not_cut versions zero = refl
not_cut versions (suc i) = none_cut (length (prefixes versions)) i

marks_long : (versions : List Checked) → length (forest_of versions).cut ≡ length (forest_of versions).nodes
unfolding forest_of
marks_long versions =
    length-replicate (length (prefixes versions)) false ∙ sym (length-map (prefixes versions) (node_of (prefixes versions)))

-- ---- how rows end

-- a row that ended so
abbrev ended : Reach → Row
ended e = record { parent = 0; end = e; steps = 0; bytes = 0; text = [] }

dead_by : (e : Reach) → is_dead_end (Some (ended e)) ≡ (is_failed e || is_unreached e)
dead_by reach.Done = refl
dead_by reach.Failed = refl
dead_by reach.Unreached = refl

pub dead_is : (row : Row) → is_dead_end (Some row) ≡ (is_failed row.end || is_unreached row.end)
dead_is row = dead_by row.end

pub reached_not : (e : Reach) → is_reached e ≡ not (is_unreached e)
reached_not reach.Done = refl
reached_not reach.Failed = refl
reached_not reach.Unreached = refl

look : (costs : Costs) (n : ℕ) → numbered costs.rows n ≡ row_of costs n
look costs zero = refl
look costs (suc i) = refl

pub row_at : (costs : Costs) (n : ℕ) → 1 ≤ n → n ≤ length costs.rows → (row : Row) × (row_of costs n ≡ Some row)
row_at costs zero least most = absurd (omega (arith, least))
row_at costs (suc i) least most = some_at costs.rows i (omega (arith, most))

-- a node failed exactly where its row says so
pub failed_is : (costs : Costs) (n : ℕ) (row : Row) → 1 ≤ n → n ≤ length costs.rows → row_of costs n ≡ Some row → is_among (failed_nodes costs.rows) n ≡ is_failed row.end
failed_is costs n row least most at = failed_among costs.rows n least most ∙ ap has_failed (look costs n ∙ at)

-- ---- nodes that were removed

removed_none : (forest : ForestParts) (n : ℕ) → parent_of forest n ≡ 0 → is_removed forest n ≡ false
unfolding is_removed
removed_none forest n none = ap (λ u. list_any (is_cut forest) (path (parents forest) u)) none ∙ ap (list_any (is_cut forest)) (path_none (parents forest))

removed_step : (forest : ForestParts) (n u : ℕ) → parent_of forest n ≡ u → 1 ≤ u → u ≤ length forest.nodes → parent_of forest u < u → is_removed forest n ≡ (is_cut forest u || is_removed forest u)
unfolding is_removed
removed_step forest n u is least most low =
    ap (λ w. list_any (is_cut forest) (path (parents forest) w)) is ∙ ap (list_any (is_cut forest)) (path_step forest u least most low)

module _ (versions : List Checked) (costs : Costs) (sound : IsSound costs) (fit : FitTree versions costs) where
  abbrev left : ForestParts
  left = tree_left versions costs.rows

  pub within_left : (n : ℕ) → n ≤ length costs.rows → n ≤ length left.nodes
  within_left n most = omega (arith, most, fit.many, count_left versions costs.rows)

  pub low_left : (n : ℕ) → 1 ≤ n → n ≤ length costs.rows → parent_of left n < n
  low_left n least most =
      let found = row_at costs n least most in
      let up : found.0.parent ≡ parent_of left n = fit.parents n found.0 found.1 ∙ sym (parent_left versions costs.rows n) in
      subst (λ u. u < n) up (sound.rows n found.0 found.1).parent

  cut_at : (u : ℕ) (row : Row) → 1 ≤ u → u ≤ length costs.rows → row_of costs u ≡ Some row → is_cut left u ≡ is_failed row.end
  cut_at u row least most at =
      cut_is_cut (failed_nodes costs.rows) (forest_of versions) u (marks_long versions) (failed_within costs.rows (length (forest_of versions).nodes) fit.many)
      ∙ (ap (λ t. t || is_among (failed_nodes costs.rows) u) (not_cut versions u)
      ∙ failed_is costs u row least most at)

  -- a node was removed exactly where its row is unreached
  removed_is : (fuel n : ℕ) (row : Row) → n ≤ fuel → 1 ≤ n → n ≤ length costs.rows → row_of costs n ≡ Some row → is_removed left n ≡ is_unreached row.end
  removed_is zero n row le least most at = absurd (omega (arith, le, least))
  removed_is (suc fuel) n row le least most at = by (eq-zero-or-pos (parent_of left n)) (λ u above l k m is. removed_is fuel u above l k m is)
    where
      up : row.parent ≡ parent_of left n
      up = fit.parents n row at ∙ sym (parent_left versions costs.rows n)

      by : (parent_of left n ≡ 0) ⊎ (0 < parent_of left n)
          → ((u : ℕ) (above : Row) → u ≤ fuel → 1 ≤ u → u ≤ length costs.rows → row_of costs u ≡ Some above → is_removed left u ≡ is_unreached above.end) → is_removed left n ≡ is_unreached row.end
      by (inl none) again =
          removed_none left n none
          ∙ sym ((sound.rows n row at).unreached ∙ ap (λ u. is_dead_end (row_of costs u)) (up ∙ none))
      by (inr some) again =
          let u : ℕ = parent_of left n in
          let low : u < n = low_left n least most in
          let found = row_at costs u (omega (arith, some)) (omega (arith, low, most)) in
          let high : u ≤ length costs.rows = omega (arith, low, most) in
          let over : parent_of left u < u = low_left u (omega (arith, some)) high in
          let rest : is_removed left u ≡ is_unreached found.0.end = again u found.0 (omega (arith, low, le)) (omega (arith, some)) high found.1 in
          removed_step left n u refl (omega (arith, some)) (within_left u high) over
          ∙ (ap (λ t. t || is_removed left u) (cut_at u found.0 (omega (arith, some)) high found.1)
          ∙ (ap (λ t. is_failed found.0.end || t) rest
          ∙ (sym (dead_is found.0)
          ∙ (sym (ap is_dead_end found.1)
          ∙ sym ((sound.rows n row at).unreached ∙ ap (λ w. is_dead_end (row_of costs w)) up)))))

  removed_row : (n : ℕ) (row : Row) → 1 ≤ n → n ≤ length costs.rows → row_of costs n ≡ Some row → is_removed left n ≡ is_unreached row.end
  removed_row n row least most at = removed_is n n row (omega arith) least most at

  reached_by : (e : Reach) → is_unreached e ≡ false → is_reached e ≡ true
  reached_by e h = reached_not e ∙ ap not h

  unreached_by : (e : Reach) → is_reached e ≡ true → is_unreached e ≡ false
  unreached_by reach.Done h = refl
  unreached_by reach.Failed h = refl
  unreached_by reach.Unreached h = absurd (false≢true h)

  -- where the row of a node is unreached, and where it is not
  pub reached_at : (n : ℕ) (row : Row) → row_of costs n ≡ Some row → is_unreached row.end ≡ false → IsReached costs n
  reached_at n row at h = ap is_reached_in at ∙ reached_by row.end h

  kept : (v : ℕ) → IsReached costs v → IsNode left v × (is_removed left v ≡ false)
  kept v reached =
      let found = row_there costs v reached in
      let some : 0 < v = some_number costs v reached in
      let most : v ≤ length costs.rows = row_within costs v found.0 found.1 in
      let runs : is_reached found.0.end ≡ true = sym (ap is_reached_in found.1) ∙ reached in
      ((omega (arith, some), within_left v most), removed_row v found.0 (omega (arith, some)) most found.1 ∙ unreached_by found.0.end runs)

  stays : (v : ℕ) → IsNode left v × (is_removed left v ≡ false) → IsReached costs v
  stays v h =
      let least : 1 ≤ v = h.0.0 in
      let high : v ≤ length left.nodes = h.0.1 in
      let most : v ≤ length costs.rows = omega (arith, high, fit.many, count_left versions costs.rows) in
      let found = row_at costs v least most in
      reached_at v found.0 found.1 (sym (removed_row v found.0 least most found.1) ∙ h.1)

  above : (v : ℕ) → IsReached costs v → costs_spec.parent_of costs v ≡ Some (parent_of left v)
  above v reached =
      let found = row_there costs v reached in ap parent_in found.1 ∙ ap Some (fit.parents v found.0 found.1 ∙ sym (parent_left versions costs.rows v))

  pub left_is_tree : IsTreeOf costs left
  left_is_tree = record { nodes = λ v. (kept v, stays v); parents = above }
