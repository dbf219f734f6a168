-- What is written of a version's nodes is what the version prints by itself.
use Rattle.std.proofs.Common.{◌≡◌, ℕ, zero, suc, ◌+◌, ◌-◌, ◌<◌, ◌≤◌, ◌⊎◌, inl, inr, true, false, ◌||◌, List, [], ◌∷◌, ◌++◌, length, get_or, take, drop, map, Option, Some, None, slice_get, refl, sym, ap, ◌∙◌, subst, arith, eq-zero-or-pos}
use Rattle.std.specs.List.{All, Contains, flat_map}
use Rattle.std.specs.Option.{unwrap_or}
use Rattle.std.proofs.lemmas.Bool.{false≢true}
use Rattle.std.proofs.lemmas.List.{length-map, length-take-le}
use Rattle.std.proofs.lemmas.List.Elements.{All-cons, All-head, All-nil, All-tail, Contains-get_or}
use Rattle.std.proofs.lemmas.Option.{none-some, slice_get_within}
use Rattle.star_value.specs.declared.failure.Failure.{Failure}
use Rattle.star_meaning.specs.declared.ran.End.{End}
use Rattle.star_meaning.specs.declared.ran.End.TheVariants as end
use Rattle.star_meaning.specs.declared.ran.Ran.{Ran}
use Rattle.star_meaning.specs.Cells.{cell_text, runs, text, texts_from}
use Rattle.star_meaning.specs.Validity.{MachineState}
use Rattle.plan_type.specs.declared.costs.Costs.{Costs}
use Rattle.plan_type.specs.declared.row.Row.{Row}
use Rattle.plan_type.specs.declared.row.Reach.{Reach}
use Rattle.plan_type.specs.declared.row.Reach.TheVariants as reach
use Rattle.plan_type.specs.Costs.{IsSound, is_dead_end, is_unreached, row_of}
use Rattle.exec_tree.specs.declared.checked.Checked.{Checked}
use Rattle.exec_tree.specs.declared.node.Node.{Node}
use Rattle.exec_tree.specs.Forests.{ForestParts, cut, forest_of, is_among, moved, parent_of, parents}
use Rattle.exec_tree.specs.Prefixes.{keys_of, number_of, prefixes}
use Rattle.exec_tree.proofs.CutLemmas.{moved_is, nearest, nearest_above, nearest_here, nearest_none}
use Rattle.node_rows.specs.Rows.{HasEnd}
use Rattle.audit_run.specs.Rows.{failed_nodes, is_failed}
use Rattle.audit_run.specs.Sources.{HaveTheirNames, HaveTheirSources}
use Rattle.audit_run.proofs.RunLemmas.{no_place}
use Rattle.audit_run.proofs.TreeLemmas.{ends_there, length-nodes_of}
use Rattle.audit_run.proofs.WayLemmas.{some_at}
use Rattle.replayer.specs.Nodes.{depth_at, result_at, state_at}
use Rattle.replayer.specs.Trees.{AreRecorded, AreTexts}
use Rattle.shared_run.specs.Trees.{FitTree, tree_left}
use Rattle.shared_run.specs.Written.{AreWays, text_in, texts_alone, way_to, written}
use Rattle.shared_run.proofs.AloneLemmas.{few_results, first_is, here, none_after, nothing_after, one_after, result_is, results}
use Rattle.shared_run.proofs.AlongLemmas.{depth_along, node_least, node_most, node_up, own, result_along, way_along}
use Rattle.shared_run.proofs.LeftLemmas.{dead_is, failed_is, low_left, parent_left, parents_left, reached_at, row_at}

-- ---- how rows end

abbrev pub end_of : End → Reach
end_of end.Done = reach.Done
end_of (end.Failed failure line) = reach.Failed

abbrev pub ended : Option Ran → Reach
ended None = reach.Unreached
ended (Some r) = end_of r.end

pub row_ends : (e : End) (m : MachineState) (row : Row) → HasEnd e m row → row.end ≡ end_of e
row_ends end.Done m row h = h.0
row_ends (end.Failed failure line) m row h = h.0

pub end_reached : (e : End) → is_unreached (end_of e) ≡ false
end_reached end.Done = refl
end_reached (end.Failed failure line) = refl

unreached_is : (e : Reach) → is_unreached e ≡ true → e ≡ reach.Unreached
unreached_is reach.Done h = absurd (false≢true h)
unreached_is reach.Failed h = absurd (false≢true h)
unreached_is reach.Unreached h = refl

-- ---- texts of nodes, one after another

joined : (f : ℕ → List ℕ) (ns : List ℕ) (rs : List Ran) (number : ℕ) → length ns ≡ length rs
    → ((j : ℕ) (r : Ran) → slice_get rs j ≡ Some r → f (get_or ns j 0) ≡ cell_text (number + j) r) → flat_map f ns ≡ texts_from number rs
joined f [] [] number long each = refl
joined f [] (r ∷ rs) number long each = absurd (omega (arith, long))
joined f (n ∷ ns) [] number long each = absurd (omega (arith, long))
joined f (n ∷ ns) (r ∷ rs) number long each =
    let none : number + 0 ≡ number = omega arith in
    let first : f n ≡ cell_text number r = each 0 r refl ∙ ap (λ (k : ℕ). cell_text k r) none in
    let rest : flat_map f ns ≡ texts_from (number + 1) rs =
    joined f ns rs (number + 1) (omega (arith, long)) (λ j q is. let shift : number + suc j ≡ number + 1 + j = omega arith in each (suc j) q is ∙ ap (λ (k : ℕ). cell_text k q) shift) in
    ap (λ (t : List ℕ). t ++ flat_map f ns) first ∙ ap (λ (t : List ℕ). cell_text number r ++ t) rest

pub get_take : (xs : List ℕ) (n j : ℕ) → j < n → get_or (take n xs) j 0 ≡ get_or xs j 0
get_take xs zero j less = absurd (omega (arith, less))
get_take [] (suc n) j less = refl
get_take (x ∷ xs) (suc n) zero less = refl
get_take (x ∷ xs) (suc n) (suc j) less = get_take xs n j (omega (arith, less))

long_at : {X : Type 0} (xs : List X) (k : ℕ) → drop k xs ≡ [] → length xs ≤ k
long_at [] k is = omega arith
long_at (x ∷ xs) zero is = absurd (let n : length (x ∷ xs) ≡ 0 = ap length is in omega (arith, n))
long_at (x ∷ xs) (suc k) is = let rest = long_at xs k is in omega (arith, rest)

past_none : {X : Type 0} (xs : List X) (k : ℕ) → length xs ≤ k → slice_get xs k ≡ None
past_none [] k le = refl
past_none (x ∷ xs) zero le = absurd (omega (arith, le))
past_none (x ∷ xs) (suc k) le = past_none xs k (omega (arith, le))

take_within : (P : ℕ → Type 0) (xs : List ℕ) (n : ℕ) → ((j : ℕ) → j < n → P (get_or xs j 0)) → n ≤ length xs → All P (take n xs)
take_within P xs zero each le = All-nil P
take_within P [] (suc n) each le = absurd (omega (arith, le))
take_within P (x ∷ xs) (suc n) each le = All-cons P x (take n xs) (each 0 (omega arith)) (take_within P xs n (λ j less. each (suc j) (omega (arith, less))) (omega (arith, le)))

-- ---- a version

module _ (versions : List Checked) (allowance : ℕ) (costs : Costs) (sound : IsSound costs) (fit : FitTree versions costs)
    (sources : HaveTheirSources versions) (names : HaveTheirNames versions) (recorded : AreRecorded (tree_left versions costs.rows) costs allowance)
    (v : Checked) (there : Contains versions v) where
  abbrev pub tree : ForestParts
  tree = tree_left versions costs.rows

  abbrev pub all : List Ran
  all = results versions allowance sources v there

  abbrev pub many : ℕ
  many = length v.cells

  abbrev pub ns : List ℕ
  ns = own versions allowance costs sound fit sources names v there

  abbrev pub at : ℕ → ℕ
  at j = get_or ns j 0

  pub least : (j : ℕ) → j < many → 1 ≤ at j
  least j less = node_least versions allowance costs sound fit sources names v there j less

  pub most : (j : ℕ) → j < many → at j ≤ length costs.rows
  most j less = node_most versions allowance costs sound fit sources names v there j less

  -- the result of a reached node is the version's
  pub result_there : (j : ℕ) (r : Ran) → j < many → slice_get all j ≡ Some r → result_at tree allowance (at j) ≡ r
  result_there j r less is =
      result_along versions allowance costs sound fit sources names v there j less ∙ sym (result_is versions allowance sources v there j r less is)

  reached_ends : (j : ℕ) (row : Row) (r : Ran) → j < many → row_of costs (at j) ≡ Some row → slice_get all j ≡ Some r → is_unreached row.end ≡ false → row.end ≡ ended (slice_get all j)
  reached_ends j row r less is comes runs =
      let says = recorded (at j) (reached_at versions costs sound fit (at j) row is runs) row is in
      row_ends (result_at tree allowance (at j)).end (state_at tree allowance (at j)) row says.0
      ∙ (ap (λ (q : Ran). end_of q.end) (result_there j r less comes) ∙ sym (ap ended comes))

  -- a row is reached exactly where the row above it ran to its end
  comes_first : (row : Row) → 0 < many → row_of costs (at 0) ≡ Some row → is_unreached row.end ≡ false
  comes_first row some is =
      (sound.rows (at 0) row is).unreached
      ∙ ap (λ (u : ℕ). is_dead_end (row_of costs u)) (fit.parents (at 0) row is ∙ (sym (parent_left versions costs.rows (at 0)) ∙ node_up versions allowance costs sound fit sources names v there 0 some))

  comes_next : (j : ℕ) (above row : Row) → suc j < many → row_of costs (at j) ≡ Some above → row_of costs (at (suc j)) ≡ Some row
      → is_unreached row.end ≡ (is_failed above.end || is_unreached above.end)
  comes_next j above row less over is =
      (sound.rows (at (suc j)) row is).unreached
      ∙ (ap (λ (u : ℕ). is_dead_end (row_of costs u))
      (fit.parents (at (suc j)) row is ∙ (sym (parent_left versions costs.rows (at (suc j))) ∙ node_up versions allowance costs sound fit sources names v there (suc j) less))
      ∙ (ap is_dead_end over ∙ dead_is above))

  -- the rows of a version end as its cells do
  follow : (j : ℕ) (above row : Row) (o : Option Ran) → suc j < many → row_of costs (at j) ≡ Some above → row_of costs (at (suc j)) ≡ Some row → slice_get all j ≡ o
      → above.end ≡ ended o → row.end ≡ ended (slice_get all (suc j))
  follow j above row None less over is comes ends =
      let none : slice_get all (suc j) ≡ None = (no_place all (suc j) (nothing_after versions allowance sources v there j (omega (arith, less)) comes)).0 in
      let gone : is_unreached row.end ≡ true = comes_next j above row less over is ∙ ap (λ (e : Reach). is_failed e || is_unreached e) ends in
      unreached_is row.end gone ∙ sym (ap ended none)
  follow j above row (Some r) less over is comes ends = by r.end refl
    where
      by : (e : End) → r.end ≡ e → row.end ≡ ended (slice_get all (suc j))
      by end.Done done =
          let next : slice_get all (suc j) ≡ Some (here versions allowance sources v there (suc j)) = one_after versions allowance sources v there j r less comes done in
          let runs : is_unreached row.end ≡ false = comes_next j above row less over is ∙ ap (λ (e : Reach). is_failed e || is_unreached e) (ends ∙ ap end_of done) in
          reached_ends (suc j) row (here versions allowance sources v there (suc j)) less is next runs
      by (end.Failed f line) failed =
          let none : slice_get all (suc j) ≡ None = (no_place all (suc j) (none_after versions allowance sources v there j r f line (omega (arith, less)) comes failed)).0 in
          let gone : is_unreached row.end ≡ true = comes_next j above row less over is ∙ ap (λ (e : Reach). is_failed e || is_unreached e) (ends ∙ ap end_of failed) in
          unreached_is row.end gone ∙ sym (ap ended none)

  pub row_ends_at : (j : ℕ) (row : Row) → j < many → row_of costs (at j) ≡ Some row → row.end ≡ ended (slice_get all j)
  row_ends_at zero row less is = reached_ends 0 row (here versions allowance sources v there 0) less is (first_is versions allowance sources v there less) (comes_first row less is)
  row_ends_at (suc j) row less is =
      let low : j < many = omega (arith, less) in
      let above = row_at costs (at j) (least j low) (most j low) in
      follow j above.0 row (slice_get all j) less above.1 is refl (row_ends_at j above.0 low above.1)

  -- ---- where the version's way ends

  abbrev failed : List ℕ
  failed = failed_nodes costs.rows

  abbrev ps : List ℕ
  ps = parents (forest_of versions)

  fails_at : (j : ℕ) → j < many → is_among failed (at j) ≡ is_failed (ended (slice_get all j))
  fails_at j less =
      let found = row_at costs (at j) (least j less) (most j less) in
      failed_is costs (at j) found.0 (least j less) (most j less) found.1 ∙ ap is_failed (row_ends_at j found.0 less found.1)

  ps_long : length ps ≡ length costs.rows
  ps_long = length-map (forest_of versions).nodes (λ (n : Node). n.parent) ∙ sym fit.many

  ps_low : (k : ℕ) → k < length ps → get_or ps k 0 ≤ k
  ps_low k less =
      let up : parent_of tree (suc k) < suc k = low_left versions costs sound fit (suc k) (omega arith) (omega (arith, less, ps_long)) in
      let same : parent_of tree (suc k) ≡ parent_of (forest_of versions) (suc k) = parent_left versions costs.rows (suc k) in
      let at_k : suc k - 1 ≡ k = omega arith in
      let read : parent_of (forest_of versions) (suc k) ≡ get_or ps k 0 = ap (λ (n : ℕ). get_or ps n 0) at_k in
      omega (arith, up, same, read)

  up_is : (j : ℕ) → j < many → get_or ps (at j - 1) 0 ≡ get_or (0 ∷ ns) j 0
  up_is j less = sym (parent_left versions costs.rows (at j)) ∙ node_up versions allowance costs sound fit sources names v there j less

  near_above : (j : ℕ) → j < many → is_among failed (at j) ≡ false → nearest ps failed (at j) ≡ nearest ps failed (get_or (0 ∷ ns) j 0)
  near_above j less other =
      nearest_above ps failed (at j) (least j less) (let high = most j less in omega (arith, high, ps_long)) ps_low other ∙ ap (nearest ps failed) (up_is j less)

  -- above the last result nothing has failed
  climbs : (gap t : ℕ) → t + gap ≤ many → length all ≤ t → nearest ps failed (get_or (0 ∷ ns) (t + gap) 0) ≡ nearest ps failed (get_or (0 ∷ ns) t 0)
  climbs zero t within past = let same : t + 0 ≡ t = omega arith in ap (λ (n : ℕ). nearest ps failed (get_or (0 ∷ ns) n 0)) same
  climbs (suc gap) t within past =
      let next : t + suc gap ≡ suc (t + gap) = omega arith in
      let less : t + gap < many = omega (arith, within) in
      let none : slice_get all (t + gap) ≡ None = past_none all (t + gap) (omega (arith, past)) in
      ap (λ (n : ℕ). nearest ps failed (get_or (0 ∷ ns) n 0)) next
      ∙ (near_above (t + gap) less (fails_at (t + gap) less ∙ ap (λ (o : Option Ran). is_failed (ended o)) none)
      ∙ climbs gap t (omega (arith, within)) past)

  done_at : (j : ℕ) (o : Option Ran) → suc j < many → slice_get all j ≡ o → (q : Ran) → slice_get all (suc j) ≡ Some q → is_failed (ended o) ≡ false
  done_at j None less is q next = refl
  done_at j (Some r) less is q next = by r.end refl
    where
      by : (e : End) → r.end ≡ e → is_failed (end_of r.end) ≡ false
      by end.Done e = ap (λ (x : End). is_failed (end_of x)) e
      by (end.Failed f line) e = absurd (none-some q (sym (no_place all (suc j) (none_after versions allowance sources v there j r f line (omega (arith, less)) is e)).0 ∙ next))

  -- before it neither
  none_failed : (t : ℕ) → t < many → ((j : ℕ) → j < suc t → is_among failed (at j) ≡ false) → nearest ps failed (at t) ≡ None
  none_failed zero less each = near_above 0 less (each 0 (omega arith)) ∙ nearest_none ps failed
  none_failed (suc t) less each = near_above (suc t) less (each (suc t) (omega arith)) ∙ none_failed t (omega (arith, less)) (λ j low. each j (omega (arith, low)))

  abbrev end_node : ℕ
  end_node = get_or (0 ∷ ns) many 0

  abbrev Ends : Type 0
  Ends = moved ps failed end_node ≡ get_or (0 ∷ ns) (length all) 0

  up_to : (t : ℕ) → length all ≤ t → t ≤ many → nearest ps failed end_node ≡ nearest ps failed (get_or (0 ∷ ns) t 0)
  up_to t past within =
      let whole : t + (many - t) ≡ many = omega (arith, within) in
      ap (λ (n : ℕ). nearest ps failed (get_or (0 ∷ ns) n 0)) (sym whole) ∙ climbs (many - t) t (omega (arith, whole)) past

  few : length all ≤ many
  few = few_results v.cells v.inputs allowance

  ends_none : length all ≡ 0 → Ends
  ends_none none = by (eq-zero-or-pos many)
    where
      by : (many ≡ 0) ⊎ (0 < many) → Ends
      by (inl empty) =
          let last : end_node ≡ 0 = ap (λ (n : ℕ). get_or (0 ∷ ns) n 0) empty in
          moved_is ps failed end_node
          ∙ (ap (λ (o : Option ℕ). unwrap_or o end_node) (ap (nearest ps failed) last ∙ nearest_none ps failed)
          ∙ (last ∙ sym (ap (λ (n : ℕ). get_or (0 ∷ ns) n 0) none)))
      by (inr some) = let within = slice_get_within all 0 (here versions allowance sources v there 0) (first_is versions allowance sources v there some) in absurd (omega (arith, within, none))

  ends_failed : (t : ℕ) (r : Ran) (f : Failure) (line : ℕ) → length all ≡ suc t → slice_get all t ≡ Some r → r.end ≡ end.Failed f line → Ends
  ends_failed t r f line long last over =
      let less : t < many = omega (arith, long, few) in
      let fails : is_among failed (at t) ≡ true = fails_at t less ∙ (ap (λ (o : Option Ran). is_failed (ended o)) last ∙ ap (λ (e : End). is_failed (end_of e)) over) in
      moved_is ps failed end_node
      ∙ (ap (λ (o : Option ℕ). unwrap_or o end_node)
      (up_to (suc t) (omega (arith, long)) (omega (arith, less)) ∙ nearest_here ps failed (at t) (least t less) (let high = most t less in omega (arith, high, ps_long)) ps_low fails)
      ∙ sym (ap (λ (n : ℕ). get_or (0 ∷ ns) n 0) long))

  ends_done : (t : ℕ) (r : Ran) → length all ≡ suc t → slice_get all t ≡ Some r → r.end ≡ end.Done → Ends
  ends_done t r long last over =
      let less : t < many = omega (arith, long, few) in
      let whole : suc t ≡ many = by (eq-zero-or-pos (many - suc t)) less in
      let each = λ (j : ℕ) (low : j < suc t). clear j low less in
      moved_is ps failed end_node
      ∙ (ap (λ (o : Option ℕ). unwrap_or o end_node) (up_to (suc t) (omega (arith, long)) (omega (arith, less)) ∙ none_failed t less each)
      ∙ ap (λ (n : ℕ). get_or (0 ∷ ns) n 0) (sym whole ∙ sym long))
    where
      by : (many - suc t ≡ 0) ⊎ (0 < many - suc t) → t < many → suc t ≡ many
      by (inl none) less = omega (arith, none, less)
      by (inr more) less =
          let next = one_after versions allowance sources v there t r (omega (arith, more)) last over in
          let within = slice_get_within all (suc t) (here versions allowance sources v there (suc t)) next in absurd (omega (arith, within, long))

      clear : (j : ℕ) → j < suc t → t < many → is_among failed (at j) ≡ false
      clear j low less = pick (eq-zero-or-pos (t - j))
        where
          pick : (t - j ≡ 0) ⊎ (0 < t - j) → is_among failed (at j) ≡ false
          pick (inl none) =
              let same : j ≡ t = omega (arith, none, low) in
              ap (λ (n : ℕ). is_among failed (at n)) same ∙ (fails_at t less ∙ (ap (λ (o : Option Ran). is_failed (ended o)) last ∙ ap (λ (e : End). is_failed (end_of e)) over))
          pick (inr more) =
              let next = some_at all (suc j) (omega (arith, more, long)) in
              fails_at j (omega (arith, low, less)) ∙ done_at j (slice_get all j) (omega (arith, more, less)) refl next.0 next.1

  ends_at : (n : ℕ) → length all ≡ n → Ends
  ends_at zero long = ends_none long
  ends_at (suc t) long = let last = some_at all t (omega (arith, long)) in by last.0 last.1 last.0.end refl
    where
      by : (r : Ran) → slice_get all t ≡ Some r → (e : End) → r.end ≡ e → Ends
      by r is end.Done over = ends_done t r long is over
      by r is (end.Failed f line) over = ends_failed t r f line long is over

  -- the nodes whose texts are the version's are those of its results
  pub way_is : way_to ps (moved ps failed (number_of (prefixes versions) (keys_of v))) ≡ take (length all) ns
  way_is =
      ap (λ (n : ℕ). way_to ps (moved ps failed n)) (ends_there versions v there)
      ∙ (ap (way_to ps) (ends_at (length all) refl)
      ∙ (ap (λ (l : List ℕ). way_to l (get_or (0 ∷ ns) (length all) 0)) (sym (parents_left versions costs.rows))
      ∙ way_along versions allowance costs sound fit sources names v there (length all) few))

  pub way_within : All (λ (n : ℕ). (1 ≤ n) × (n ≤ length costs.rows)) (take (length all) ns)
  way_within =
      let long : length ns ≡ many = length-nodes_of versions v there in
      take_within (λ (n : ℕ). (1 ≤ n) × (n ≤ length costs.rows)) ns (length all)
      (λ j less. (least j (omega (arith, less, few)), most j (omega (arith, less, few)))) (omega (arith, long, few))

  -- ---- texts

  module _ (texts : List (List ℕ)) (are : AreTexts tree costs allowance texts) where
    text_there : (j : ℕ) (r : Ran) → slice_get all j ≡ Some r → text_in texts (at j) ≡ cell_text (1 + j) r
    text_there j r is =
        let within : j < length all = slice_get_within all j r is in
        let less : j < many = omega (arith, within, few) in
        let found = row_at costs (at j) (least j less) (most j less) in
        let runs : is_unreached found.0.end ≡ false = ap is_unreached (row_ends_at j found.0 less found.1) ∙ (ap (λ (o : Option Ran). is_unreached (ended o)) is ∙ end_reached r.end) in
        let depth : depth_at tree (at j) ≡ suc j = depth_along versions allowance costs sound fit sources names v there (suc j) (omega (arith, less)) in
        let plus : suc j ≡ 1 + j = omega arith in
        ap (λ (o : Option (List ℕ)). unwrap_or o []) (are.reached (at j) (reached_at versions costs sound fit (at j) found.0 found.1 runs))
        ∙ (ap (λ (q : Ran). cell_text (depth_at tree (at j)) q) (result_there j r less is)
        ∙ ap (λ (n : ℕ). cell_text n r) (depth ∙ plus))

    pub text_is : written texts (take (length all) ns) ≡ text v.cells v.inputs allowance
    unfolding text
    text_is =
        let long : length ns ≡ many = length-nodes_of versions v there in
        joined (text_in texts) (take (length all) ns) all 1 (length-take-le (length all) ns (omega (arith, long, few)))
        (λ j r is. ap (text_in texts) (get_take ns (length all) j (slice_get_within all j r is)) ∙ text_there j r is)

-- ---- all versions

module _ (versions : List Checked) (allowance : ℕ) (costs : Costs) (sound : IsSound costs) (fit : FitTree versions costs)
    (sources : HaveTheirSources versions) (names : HaveTheirNames versions) (recorded : AreRecorded (tree_left versions costs.rows) costs allowance) where
  abbrev pub top : List ℕ
  top = parents (forest_of versions)

  abbrev pub ways : List Checked → List (List ℕ)
  ways vs = map (way_to top) (map (moved top (failed_nodes costs.rows)) (map (λ (v : Checked). number_of (prefixes versions) (keys_of v)) vs))

  ways_within : (vs : List Checked) → All (λ (v : Checked). Contains versions v) vs → AreWays (length costs.rows) (ways vs)
  ways_within [] h = All-nil (All (λ n. (1 ≤ n) × (n ≤ length costs.rows)))
  ways_within (v ∷ vs) h =
      let there : Contains versions v = All-head (λ (w : Checked). Contains versions w) v vs h in
      let way : List ℕ = way_to top (moved top (failed_nodes costs.rows) (number_of (prefixes versions) (keys_of v))) in
      All-cons (All (λ n. (1 ≤ n) × (n ≤ length costs.rows))) way (ways vs)
      (subst (All (λ n. (1 ≤ n) × (n ≤ length costs.rows))) (sym (way_is versions allowance costs sound fit sources names recorded v there)) (way_within versions allowance costs sound fit sources names recorded v there))
      (ways_within vs (All-tail (λ (w : Checked). Contains versions w) v vs h))

  texts_from_ways : (texts : List (List ℕ)) → AreTexts (tree_left versions costs.rows) costs allowance texts → (vs : List Checked) → All (λ (v : Checked). Contains versions v) vs
      → map (written texts) (ways vs) ≡ texts_alone vs allowance
  texts_from_ways texts are [] h = refl
  texts_from_ways texts are (v ∷ vs) h =
      let there : Contains versions v = All-head (λ (w : Checked). Contains versions w) v vs h in
      let first : written texts (way_to top (moved top (failed_nodes costs.rows) (number_of (prefixes versions) (keys_of v)))) ≡ text v.cells v.inputs allowance =
      ap (written texts) (way_is versions allowance costs sound fit sources names recorded v there) ∙ text_is versions allowance costs sound fit sources names recorded v there texts are in
      let rest = texts_from_ways texts are vs (All-tail (λ (w : Checked). Contains versions w) v vs h) in
      ap (λ (t : List ℕ). t ∷ map (written texts) (ways vs)) first ∙ ap (λ (l : List (List ℕ)). text v.cells v.inputs allowance ∷ l) rest

  pub ways_are : map (way_to (parents (tree_left versions costs.rows))) (tree_left versions costs.rows).ends ≡ ways versions
  unfolding cut forest_of
  ways_are = refl

  each : All (λ (v : Checked). Contains versions v) versions
  each k d low = Contains-get_or versions k d low

  pub all_ways : (count : ℕ) (forest : ForestParts) (given : List (List ℕ)) → count ≡ length costs.rows → forest ≡ tree_left versions costs.rows
      → given ≡ map (way_to (parents forest)) forest.ends → AreWays count given
  all_ways count forest given same is made =
      subst (λ (n : ℕ). AreWays n given) (sym same)
      (subst (AreWays (length costs.rows)) (sym (made ∙ (ap (λ (f : ForestParts). map (way_to (parents f)) f.ends) is ∙ ways_are))) (ways_within versions each))

  pub all_texts : (texts : List (List ℕ)) (forest : ForestParts) (given : List (List ℕ)) → AreTexts forest costs allowance texts → forest ≡ tree_left versions costs.rows
      → given ≡ map (way_to (parents forest)) forest.ends → map (written texts) given ≡ texts_alone versions allowance
  all_texts texts forest given are is made =
      ap (map (written texts)) (made ∙ (ap (λ (f : ForestParts). map (way_to (parents f)) f.ends) is ∙ ways_are))
      ∙ texts_from_ways texts (subst (λ (f : ForestParts). AreTexts f costs allowance texts) is are) versions each
