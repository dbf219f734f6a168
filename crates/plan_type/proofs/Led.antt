-- Each reached node is led to from 0 by reached children.
use Rattle.std.proofs.Common.{◌≡◌, ◌∙◌, ℕ, zero, suc, ◌+◌, ◌-◌, ◌<◌, ◌≤◌, ◌⊎◌, List, [], ◌∷◌, ◌++◌, Bool, true, false, cond, ◌&&◌, Option, Some, None, length, get_or, refl, sym, ap, subst, arith, inl, inr}
use Rattle.std.specs.Prelude.{◌==◌}
use Rattle.std.specs.List.{Contains, filter, range_with_len, slice_get}
use Rattle.std.proofs.lemmas.Bool.Decides.{nat_tests}
use Rattle.std.proofs.lemmas.Option.{slice_get_within, slice_get_cases}
use Rattle.std.proofs.lemmas.List.FromFn.{length-range_with_len}
use Rattle.plan_type.specs.declared.costs.Costs.{Costs}
use Rattle.plan_type.specs.declared.row.Row.{Row}
use Rattle.plan_type.specs.declared.row.Reach.{Reach}
use Rattle.plan_type.specs.declared.row.Reach.TheVariants.{Done, Failed, Unreached}
use Rattle.plan_type.specs.Costs.{row_of, children_of, is_child_in, is_reached, is_reached_in, is_unreached, is_dead_end, IsReached, IsSound}

-- v is reached from u by children, through these nodes and v
abbrev pub Leads : (ℕ → List ℕ) → ℕ → List ℕ → ℕ → Type 0
Leads children u [] v = u ≡ v
Leads children u (w ∷ ws) v = Contains (children u) w × Leads children w ws v

leads_on : (children : ℕ → List ℕ) (u : ℕ) (ws : List ℕ) (v x : ℕ) → Leads children u ws v → Contains (children v) x → Leads children u (ws ++ x ∷ []) x
leads_on children u [] v x is child = (subst (λ n. Contains (children n) x) (sym is) child, refl)
leads_on children u (w ∷ ws) v x leads child = (leads.0, leads_on children w ws v x leads.1 child)

range_at : (a n k : ℕ) → k < n → slice_get (range_with_len a n) k ≡ Some (a + k)
range_at a zero k lt = absurd (omega arith)
range_at a (suc n) zero lt = ap (λ x. Some x) (let e : a ≡ a + 0 = omega arith in e)
range_at a (suc n) (suc k) lt = range_at (a + 1) n k (omega arith) ∙ ap (λ x. Some x) (let e : a + 1 + k ≡ a + suc k = omega arith in e)

kept_in : (p : ℕ → Bool) (xs : List ℕ) (k x : ℕ) → k < length xs → slice_get xs k ≡ Some x → p x ≡ true → Contains (filter p xs) x
kept_in p [] k x lt at is = absurd (omega arith)
kept_in p (y ∷ ys) zero x lt at is = by (p y) (let e : y ≡ x = cc in subst (λ n. p n ≡ true) (sym e) is)
  where
    by : (b : Bool) → b ≡ true → Contains (cond b (y ∷ filter p ys) (filter p ys)) x
    by true h = (0, omega arith, (cc))
    by false h = absurd (cc)
kept_in p (y ∷ ys) (suc k) x lt at is = by (p y) (kept_in p ys k x (omega arith) at is)
  where
    by : (b : Bool) → Contains (filter p ys) x → Contains (cond b (y ∷ filter p ys) (filter p ys)) x
    by true (j, l, a) = (suc j, omega arith, a)
    by false h = h

same : (u : ℕ) → (u == u) ≡ true
same u = grind (arith, nat_tests)

child_of_parent : (row : Row) → is_reached row.end ≡ true → is_child_in row.parent (Some row) ≡ true
child_of_parent row h = ap (λ b. b && is_reached row.end) (same row.parent) ∙ h

-- a reached end is no unreached one, and what is neither failed nor unreached is reached
reached_end : (end : Reach) → is_reached end ≡ true → is_unreached end ≡ false
reached_end Done h = refl
reached_end Failed h = refl
reached_end Unreached h = absurd (cc)

pub row_within : (costs : Costs) (v : ℕ) (row : Row) → row_of costs v ≡ Some row → v ≤ length costs.rows
row_within costs zero row is = absurd (cc)
row_within costs (suc i) row is = let w = slice_get_within costs.rows i row is in omega (arith, w)

row_there : (costs : Costs) (v : ℕ) → 0 < v → v ≤ length costs.rows → (row : Row) × (row_of costs v ≡ Some row)
row_there costs zero some le = absurd (omega arith)
row_there costs (suc i) some le = by (slice_get_cases costs.rows i).1
  where
    by : ((x : Row) × (i < length costs.rows) × (slice_get costs.rows i ≡ Some x) × (get_or costs.rows i x ≡ x)) ⊎ ((length costs.rows ≤ i) × (slice_get costs.rows i ≡ None)) → (row : Row) × (slice_get costs.rows i ≡ Some row)
    by (inl h) = (h.0, h.2)
    by (inr h) = let past = h.0 in absurd (omega arith)

-- what is neither failed nor unreached is reached
open_row : (row : Row) → is_dead_end (Some row) ≡ false → is_reached row.end ≡ true
open_row row h = by row.end refl
  where
    by : (end : Reach) → row.end ≡ end → is_reached end ≡ true
    by Done is = refl
    by Failed is = absurd (let e = ap (λ x. is_dead_end (Some (record row { end = x }))) is in cc)
    by Unreached is = absurd (let e = ap (λ x. is_dead_end (Some (record row { end = x }))) is in cc)

module _ (costs : Costs) (sound : IsSound costs) where
  Led : ℕ → Type 0
  Led v = (w : ℕ) × (ws : List ℕ) × Leads (children_of costs) 0 (w ∷ ws) v

  is_child : (v : ℕ) (row : Row) → row_of costs v ≡ Some row → row.parent < v → is_reached row.end ≡ true → Contains (children_of costs row.parent) v
  is_child v row is below reach =
      let within = row_within costs v row is in
      let number : 1 + (v - 1) ≡ v = omega arith in
      let lt : v - 1 < length costs.rows = omega arith in
      kept_in (λ x. is_child_in row.parent (row_of costs x)) (range_with_len 1 (length costs.rows)) (v - 1) v (rw (length-range_with_len 1 (length costs.rows)) lt)
      (range_at 1 (length costs.rows) (v - 1) lt ∙ ap (λ n. Some n) number) (ap (is_child_in row.parent) is ∙ child_of_parent row reach)

  extend : (u v : ℕ) → Led u → Contains (children_of costs u) v → Led v
  unfolding Led
  extend u v (w, ws, leads) child = (w, ws ++ v ∷ [], leads_on (children_of costs) 0 (w ∷ ws) u v leads child)

  -- from what is known of the parent
  step : (u v : ℕ) → u < v → Contains (children_of costs u) v → is_dead_end (row_of costs u) ≡ false → v ≤ length costs.rows → (IsReached costs u → Led u) → Led v
  unfolding Led
  step zero v below child clear within more = (v, [], (child, refl))
  step (suc i) v below child clear within more =
      let (row, is) = row_there costs (suc i) (omega arith) (omega arith) in
      let reach : is_reached_in (row_of costs (suc i)) ≡ true = ap is_reached_in is ∙ open_row row (sym (ap is_dead_end is) ∙ clear) in
      extend (suc i) v (more reach) child

  led_at : (fuel v : ℕ) → v ≤ fuel → (o : Option Row) → row_of costs v ≡ o → is_reached_in o ≡ true → ((u : ℕ) → u < v → IsReached costs u → Led u) → Led v
  led_at fuel v le None is h more = absurd (cc)
  led_at fuel v le (Some row) is h more =
      let s = sound.rows v row is in
      let below = s.parent in
      let clear : is_dead_end (row_of costs row.parent) ≡ false = sym s.unreached ∙ reached_end row.end h in
      step row.parent v below (is_child v row is below h) clear (row_within costs v row is) (more row.parent below)

  led_to : (fuel v : ℕ) → v ≤ fuel → IsReached costs v → Led v
  led_to zero v le reach = led_at zero v le (row_of costs v) refl reach (λ u lt r. absurd (omega arith))
  led_to (suc fuel) v le reach = led_at (suc fuel) v le (row_of costs v) refl reach (λ u lt r. led_to fuel u (omega arith) r)

  pub led : (v : ℕ) → IsReached costs v → (w : ℕ) × (ws : List ℕ) × Leads (children_of costs) 0 (w ∷ ws) v
  unfolding Led
  led v reach = led_to v v (omega arith) reach
