-- The plan that is built for a node.
use Rattle.std.proofs.Common.{◌≡◌, ◌∙◌, ℕ, zero, suc, ◌+◌, ◌*◌, ◌<◌, ◌≤◌, List, [], ◌∷◌, ◌++◌, map, take, length, get_or, Bool, true, false, not, ◌&&◌, refl, sym, ap, subst, arith, Some}
use Rattle.std.specs.Prelude.{if◌then◌else◌, IsPermutation}
use Rattle.std.specs.List.{AllByRecursion}
use Rattle.std.proofs.lemmas.List.{take_more}
use Rattle.std.proofs.lemmas.Bool.Decides.{nat_tests}
use Rattle.std.proofs.lemmas.List.Sorted.{All-permutation, IsPermutation-sym}
use Rattle.std.proofs.lemmas.List.Elements.{recursion_from_All}
use Rattle.plan_type.specs.declared.costs.Costs.{Costs}
use Rattle.plan_type.specs.declared.plan.Plan.{Plan}
use Rattle.plan_type.specs.declared.plan.Entry.{Entry}
use Rattle.plan_type.specs.Costs.{IsSound, parent_of, tree_of, children_of, steps_of, blocks_of}
use Rattle.plan_type.specs.Plan.{named, entries_of, IsPlanOf, HoldsNone, greatest, peak_at}
use Rattle.plan_type.specs.Prices.{prices_of, listed_cost, cost_at}
use Rattle.plan_type.specs.Choices.{Choice, can_hold}
use Rattle.plan_type.proofs.PlanParts.{rest_cost, cost_parts, rest_peak, peak_parts}
use Rattle.plan_type.proofs.Sound.{grows}
use Rattle.plan_type.proofs.Tested.{plan_seen}
use Rattle.plan_optimum.specs.declared.planner.Planner.{Planner}
use Rattle.plan_optimum.specs.declared.standing.Standing.{Standing}
use Rattle.plan_optimum.specs.Entries.{IsReady, IsStanding, under, standing_way, value_at, choice_at, may_hold}
use Rattle.plan_optimum.specs.Chosen.{Pick, cost_by, return_by, IsChosen}
use Rattle.plan_optimum.specs.Built.{IsBuilt, IsEntry, bare}
use Rattle.plan_optimum.proofs.Deeper.{value_next}
use Rattle.plan_optimum.proofs.SiteLemmas.{site_of, way_free, way_held, free_value, held_value}

-- ---- lists

all_at : {X : Type 0} (P : Entry X → Type 0) (es : List (Entry X)) (i : ℕ) (e : Entry X) → AllByRecursion P es → i < length es → e ≡ get_or es i e → P e
all_at P [] i e h lt at = absurd (omega (arith, lt))
all_at P (x ∷ es) zero e h lt at = subst P (sym at) h.0
all_at P (x ∷ es) (suc i) e h lt at = all_at P es i e h.1 (omega (arith, lt)) at

named_at : {X : Type 0} (P : ℕ → Type 0) (es : List (Entry X)) (i : ℕ) (e : Entry X) → AllByRecursion P (named es) → i < length es → e ≡ get_or es i e → P e.child
named_at P [] i e h lt at = absurd (omega (arith, lt))
named_at P (x ∷ es) zero e h lt at = subst (λ y. P y.child) (sym at) h.0
named_at P (x ∷ es) (suc i) e h lt at = named_at P es i e h.1 (omega (arith, lt)) at

pub all_push : (P : Entry Plan → Type 0) (es : List (Entry Plan)) (e : Entry Plan) → AllByRecursion P es → P e → AllByRecursion P (es ++ e ∷ [])
all_push P [] e h one = (one, tt)
all_push P (x ∷ es) e h one = (h.0, all_push P es e h.1 one)

bare_push : (es : List (Entry Plan)) (e : Entry Plan) → map bare (es ++ e ∷ []) ≡ map bare es ++ bare e ∷ []
bare_push [] e = refl
bare_push (x ∷ es) e = ap (λ l. bare x ∷ l) (bare_push es e)

pub picks_more : (es now : List (Entry Plan)) (e : Entry Plan) (picks : List Pick) (i : ℕ) (pick : Pick) → now ≡ es ++ e ∷ [] → map bare es ≡ take i picks → i < length picks → pick ≡ get_or picks i pick → bare e ≡ pick → map bare now ≡ take (i + 1) picks
picks_more es now e picks i pick are so lt at is =
    ap (map bare) are ∙ bare_push es e ∙ ap (λ l. l ++ bare e ∷ []) so ∙ ap (λ x. take i picks ++ x ∷ []) (is ∙ at) ∙ sym (take_more picks i pick lt)

named_bare : (es : List (Entry Plan)) → named (map bare es) ≡ named es
named_bare [] = refl
named_bare (e ∷ es) = ap (λ l. e.child ∷ l) (named_bare es)

-- ---- picks

pub pick_child : (costs : Costs) (u : ℕ) (es : List Pick) (i : ℕ) (e : Pick) → IsSound costs → IsPermutation (children_of costs u) (named es) → i < length es → e ≡ get_or es i e → parent_of costs e.child ≡ Some u
unfolding tree_of
pick_child costs u es i e sound moved lt at =
    let g = grows costs 1 sound in
    named_at (λ v. parent_of costs v ≡ Some u) es i e (recursion_from_All (λ v. parent_of costs v ≡ Some u) (named es) (All-permutation (λ v. parent_of costs v ≡ Some u) (children_of costs u) (named es) moved (g.parents u))) lt at

pub pick_may : (c : Choice) (can : Bool) (vs : List ℕ) (es : List Pick) (i : ℕ) (e : Pick) → IsChosen c can vs es → i < length es → e ≡ get_or es i e → e.hold ≡ true → can ≡ true
pick_may c can vs es i e chosen lt at = all_at (λ e. e.hold ≡ true → can ≡ true) es i e chosen.may lt at

-- ---- costs

same_cost : (each : Entry Plan → ℕ) (by : Pick → ℕ) (save : ℕ) (return : Bool → ℕ) (held : Bool) (es : List (Entry Plan)) → AllByRecursion (λ e. each e ≡ by (bare e)) es → listed_cost each save return held es ≡ listed_cost by save return held (map bare es)
same_cost each by save return held [] h = refl
same_cost each by save return held (e ∷ []) h = ap (λ n. n + (if e.hold && not held then save else 0) + 0 + 0) h.0
same_cost each by save return held (e ∷ f ∷ es) h =
    let i = same_cost each by save return e.hold (f ∷ es) h.1 in let a = h.0 in omega (arith, a, i)

module _ (costs : Costs) (p : Planner) (s : Standing) (sound : IsSound costs) (ready : IsReady costs 0 p) (stands : IsStanding costs p s) where
  abbrev c : Choice
  c = choice_at costs p s

  abbrev each : Entry Plan → ℕ
  each = rest_cost (tree_of costs p.budget.block) (prices_of p.budget) s.node (standing_way p s).back (standing_way p s).again

  -- an entry costs what its child costs with its flag
  each_is : (e : Entry Plan) → IsEntry costs p s e → each e ≡ cost_by c (bare e)
  unfolding rest_cost tree_of
  each_is e entry = by e.hold entry.may entry.rest.cost
    where
      by : (hold : Bool) → (hold ≡ true → may_hold costs p s ≡ true)
          → cost_at (tree_of costs p.budget.block) (prices_of p.budget) e.rest e.child (standing_way p (under p s e.child hold)).back (standing_way p (under p s e.child hold)).again ≡ value_at costs p (under p s e.child hold)
          → steps_of costs e.child + (if hold then cost_at (tree_of costs p.budget.block) (prices_of p.budget) e.rest e.child (steps_of costs e.child) (p.budget.load * blocks_of costs p.budget.block s.node)
          else cost_at (tree_of costs p.budget.block) (prices_of p.budget) e.rest e.child ((standing_way p s).back + steps_of costs e.child) (standing_way p s).again)
          ≡ (if hold then c.held e.child else c.free e.child)
      by true may h =
          let w = way_held costs 0 p s e.child sound ready stands entry.child (may refl) in
          let v = held_value costs 0 p s e.child sound ready stands entry.child (may refl) in
          let k = ap (λ w. cost_at (tree_of costs p.budget.block) (prices_of p.budget) e.rest e.child w.back w.again) w in
          omega (arith, h, v, k)
      by false may h =
          let w = way_free costs 0 p s e.child sound ready stands entry.child in
          let v = free_value costs 0 p s e.child sound ready stands entry.child in
          let k = ap (λ w. cost_at (tree_of costs p.budget.block) (prices_of p.budget) e.rest e.child w.back w.again) w in
          omega (arith, h, v, k)

  all_are : (es : List (Entry Plan)) → AllByRecursion (IsEntry costs p s) es → AllByRecursion (λ e. each e ≡ cost_by c (bare e)) es
  all_are [] h = tt
  all_are (e ∷ es) h = (each_is e h.0, all_are es h.1)

  all_plans : (es : List (Entry Plan)) → AllByRecursion (IsEntry costs p s) es → AllByRecursion (λ e. IsPlanOf (children_of costs) e.child e.rest) es
  all_plans [] h = tt
  all_plans (e ∷ es) h = (h.0.rest.orders, all_plans es h.1)

  all_fit : (es : List (Entry Plan)) → AllByRecursion (IsEntry costs p s) es → greatest (rest_peak (blocks_of costs p.budget.block) s.node s.used) s.used es ≤ p.budget.most
  unfolding rest_peak
  all_fit [] h = stands.used
  all_fit (e ∷ es) h =
      let i = all_fit es h.1 in let f = h.0.rest.fits in
      let b = (site_of costs 0 s.node p ready stands.node).blocks in
      let k = ap (λ n. peak_at (blocks_of costs p.budget.block) e.rest e.child (if e.hold then s.used + n else s.used)) b in
      omega (arith, i, f, k)

  none_held : s.node ≡ 0 → (es : List (Entry Plan)) → AllByRecursion (IsEntry costs p s) es → HoldsNone es
  none_held root [] h = tt
  none_held root (e ∷ es) h = (off e.hold h.0.may, none_held root es h.1)
    where
      never : (n : ℕ) → n ≡ 0 → can_hold (tree_of costs p.budget.block) p.budget.most n s.used ≡ true → ⊥
      never n z on = grind (arith, nat_tests)

      off : (hold : Bool) → (hold ≡ true → may_hold costs p s ≡ true) → hold ≡ false
      off false may = refl
      off true may = absurd (never s.node root (may refl))

  -- from entries that were chosen, each built
  pub built : (plan : Plan) (es : List (Entry Plan)) (picks : List Pick) → entries_of plan ≡ es → map bare es ≡ picks → AllByRecursion (IsEntry costs p s) es → IsChosen c (may_hold costs p s) (children_of costs s.node) picks → IsBuilt costs p s plan
  unfolding tree_of
  built plan es picks are same entries chosen =
      let tree = tree_of costs p.budget.block in
      let prices = prices_of p.budget in
      let names : named picks ≡ named es = sym (ap named same) ∙ named_bare es in
      let order : IsPermutation (named es) (children_of costs s.node) = IsPermutation-sym (children_of costs s.node) (named es) (subst (IsPermutation (children_of costs s.node)) names chosen.orders) in
      let parts = cost_parts tree prices plan s.node (standing_way p s).back (standing_way p s).again in
      let list = ap (listed_cost each (prices.save * tree.blocks s.node) (return_by c) false) are in
      let sum = same_cost each (cost_by c) (prices.save * tree.blocks s.node) (return_by c) false es (all_are es entries) in
      let picked = ap (listed_cost (cost_by c) (prices.save * tree.blocks s.node) (return_by c) false) same in
      let next = value_next costs p.budget s.node (standing_way p s) s.used sound stands.node in
      let peak = peak_parts (blocks_of costs p.budget.block) plan s.node s.used in
      let top = ap (greatest (rest_peak (blocks_of costs p.budget.block) s.node s.used) s.used) are in
      let fit = all_fit es entries in
      record {
        orders = plan_seen (children_of costs) s.node plan (children_of costs s.node) (rw are (all_plans es entries)) (rw are order) refl;
        fits = omega (arith, peak, top, fit);
        cost = parts ∙ list ∙ sum ∙ picked ∙ chosen.cost ∙ sym next;
        root = λ root. rw are (none_held root es entries);
      }

pub taken_all : {X : Type 0} (xs : List X) (i : ℕ) → length xs ≤ i → take i xs ≡ xs
taken_all [] zero le = refl
taken_all [] (suc i) le = refl
taken_all (x ∷ xs) zero le = absurd (omega (arith, le))
taken_all (x ∷ xs) (suc i) le = ap (λ l. x ∷ l) (taken_all xs i (omega (arith, le)))
