-- Before a plan's operations compute a node, they have computed the node above it.
use Rattle.std.proofs.Common.{◌≡◌, ◌⊎◌, inl, inr, ℕ, Bool, true, false, ◌||◌, List, [], ◌∷◌, ◌++◌, Option, Some, None, refl, ap, ◌∙◌, subst}
use Rattle.std.specs.Prelude.{◌==◌, if◌then◌else◌}
use Rattle.std.proofs.lemmas.Bool.{false≢true}
use Rattle.std.proofs.lemmas.Bool.Decides.{Decides-eqb}
use Rattle.std.proofs.lemmas.Option.{none-some}
use Rattle.plan_type.specs.declared.budget.Budget.{Budget}
use Rattle.plan_type.specs.declared.costs.Costs.{Costs}
use Rattle.plan_type.specs.declared.plan.Plan.{Plan}
use Rattle.plan_type.specs.declared.operations.Operation.{Operation}
use Rattle.plan_type.specs.declared.operations.Operation.TheVariants.{Reset, Compute, Checkpoint, Restore, Evict}
use Rattle.plan_type.specs.Costs.{IsSound, Tree, parent_of, tree_of}
use Rattle.plan_type.specs.Operations.{IsLive, Legal, LegalAll, Machine, Ops, after, computes, computes_one, operations_of, start, stores, without}
use Rattle.plan_type.specs.Plan.{Serves}
use Rattle.plan_type.specs.Prices.{Prices, prices_of}
use Rattle.plan_type.proofs.Reached.{carries_out}

or_left : (a b : Bool) → a ≡ true → (a || b) ≡ true
or_left a b h = ap (λ t. t || b) h

or_right : (a b : Bool) → b ≡ true → (a || b) ≡ true
or_right true b h = refl
or_right false b h = h

or_cases : (a b : Bool) → (a || b) ≡ true → (a ≡ true) ⊎ (b ≡ true)
or_cases true b h = inl refl
or_cases false b h = inr h

or_map : (a b c : Bool) → (b ≡ true → c ≡ true) → (a || b) ≡ true → (a || c) ≡ true
or_map true b c f h = refl
or_map false b c f h = f h

still : (xs : List ℕ) (v u : ℕ) → stores (without xs v) u ≡ true → stores xs u ≡ true
still [] v u h = h
still (x ∷ xs) v u h = by (x == v) (still xs v u) h
  where
    by : (t : Bool) → (stores (without xs v) u ≡ true → stores xs u ≡ true) → stores (if t then xs else x ∷ without xs v) u ≡ true → ((x == u) || stores xs u) ≡ true
    by true again k = or_right (x == u) (stores xs u) k
    by false again k = or_map (x == u) (stores (without xs v) u) (stores xs u) again k

some_same : (a b : ℕ) → Some a ≡ Some b → a ≡ b
some_same a b is = cc

module _ (tree : Tree) (prices : Prices) (most : ℕ) where
  -- the live node and the stored ones are among these
  record Knows (P : ℕ → Type 0) (m : Machine) : Type 0 where
    live : (u : ℕ) → m.live ≡ Some u → P u
    stored : (u : ℕ) → stores m.stored u ≡ true → P u

  abbrev With : (ℕ → Type 0) → Operation → ℕ → Type 0
  With P o u = P u ⊎ (computes_one o u ≡ true)

  abbrev Or : (ℕ → Type 0) → Ops → ℕ → Type 0
  Or P os u = P u ⊎ (computes os u ≡ true)

  knows_after : (o : Operation) (P : ℕ → Type 0) (m : Machine) → P 0 → Knows P m → Legal tree most o m → Knows (With P o) (after tree prices o m)
  knows_after Reset P m zero knows legal = record { live = λ u is. inl (subst P (some_same 0 u is) zero); stored = λ u h. inl (knows.stored u h) }
  knows_after (Compute w n) P m zero knows legal = record { live = λ u is. inr ((Decides-eqb w u).1 (some_same w u is)); stored = λ u h. inl (knows.stored u h) }
  knows_after (Checkpoint w b) P m zero knows legal = record { live = λ u is. inl (knows.live u is); stored = λ u h. inl (by u (or_cases (w == u) (stores m.stored u) h)) }
    where
      by : (u : ℕ) → ((w == u) ≡ true) ⊎ (stores m.stored u ≡ true) → P u
      by u (inl e) = subst P ((Decides-eqb w u).0 e) (knows.live w legal.0)
      by u (inr e) = knows.stored u e
  knows_after (Restore w) P m zero knows legal = record { live = λ u is. inl (subst P (some_same w u is) (knows.stored w legal)); stored = λ u h. inl (knows.stored u h) }
  knows_after (Evict w) P m zero knows legal = record { live = λ u is. inl (knows.live u is); stored = λ u h. inl (knows.stored u (still m.stored w u h)) }

  live_above : (P : ℕ → Type 0) (m : Machine) → Knows P m → (o : Option ℕ) → IsLive m o → (u : ℕ) → o ≡ Some u → P u
  live_above P m knows None l u is = absurd l
  live_above P m knows (Some t) l u is = subst P (some_same t u is) (knows.live t l)

  own_above : (o : Operation) (P : ℕ → Type 0) (m : Machine) → Knows P m → Legal tree most o m → (w u : ℕ) → computes_one o w ≡ true → tree.parent w ≡ Some u → P u
  own_above Reset P m knows legal w u h is = absurd (false≢true h)
  own_above (Compute v n) P m knows legal w u h is = live_above P m knows (tree.parent v) legal.0 u (ap tree.parent ((Decides-eqb v w).0 h) ∙ is)
  own_above (Checkpoint v b) P m knows legal w u h is = absurd (false≢true h)
  own_above (Restore v) P m knows legal w u h is = absurd (false≢true h)
  own_above (Evict v) P m knows legal w u h is = absurd (false≢true h)

  -- what stands above a computed node, and above the one that is computed next, is among these or was computed
  record Above (P : ℕ → Type 0) (done : Ops) (v : ℕ) : Type 0 where
    here : (u : ℕ) → tree.parent v ≡ Some u → Or P done u
    others : (w u : ℕ) → computes done w ≡ true → tree.parent w ≡ Some u → Or P done u

  regroup : (P : ℕ → Type 0) (o : Operation) (done : Ops) (u : ℕ) → Or (With P o) done u → Or P (o ∷ done) u
  regroup P o done u (inl (inl p)) = inl p
  regroup P o done u (inl (inr e)) = inr (or_left (computes_one o u) (computes done u) e)
  regroup P o done u (inr e) = inr (or_right (computes_one o u) (computes done u) e)

  walk : (done : Ops) (v n : ℕ) (rest : Ops) (P : ℕ → Type 0) (m : Machine) → P 0 → Knows P m → LegalAll tree prices most (done ++ Compute v n ∷ rest) m → Above P done v
  walk [] v n rest P m zero knows legal =
      record { here = λ u is. inl (live_above P m knows (tree.parent v) legal.0.0 u is); others = λ w u h is. absurd (false≢true h) }
  walk (o ∷ done) v n rest P m zero knows legal = grow (walk done v n rest (With P o) (after tree prices o m) (inl zero) (knows_after o P m zero knows legal.0) legal.1)
    where
      grow : Above (With P o) done v → Above P (o ∷ done) v
      grow more = record { here = λ u is. regroup P o done u (more.here u is); others = λ w u h is. by w u (or_cases (computes_one o w) (computes done w) h) is }
        where
          by : (w u : ℕ) → (computes_one o w ≡ true) ⊎ (computes done w ≡ true) → tree.parent w ≡ Some u → Or P (o ∷ done) u
          by w u (inl e) is = inl (own_above o P m knows legal.0 w u e is)
          by w u (inr e) is = regroup P o done u (more.others w u e is)

  from_start : Knows (λ u. u ≡ 0) start
  from_start = record { live = λ u is. absurd (none-some u is); stored = λ u h. absurd (false≢true h) }

-- the node above one that was computed, or that comes next, is none or was computed
pub record IsClosed (costs : Costs) (done : Ops) (v : ℕ) : Type 0 where
  pub here : (u : ℕ) → parent_of costs v ≡ Some u → (u ≡ 0) ⊎ (computes done u ≡ true)
  pub others : (w u : ℕ) → computes done w ≡ true → parent_of costs w ≡ Some u → (u ≡ 0) ⊎ (computes done u ≡ true)

pub closed : (costs : Costs) (budget : Budget) (plan : Plan) → IsSound costs → Serves costs budget plan → (done : Ops) (v n : ℕ) (rest : Ops)
    → operations_of costs budget plan ≡ done ++ Compute v n ∷ rest → IsClosed costs done v
unfolding tree_of
closed costs budget plan sound serves done v n rest is =
    let tree : Tree = tree_of costs budget.block in
    let legal : LegalAll tree (prices_of budget) budget.most (operations_of costs budget plan) start = (carries_out costs budget plan sound serves.plan serves.fits).legal in
    let above = walk tree (prices_of budget) budget.most done v n rest (λ u. u ≡ 0) start refl (from_start tree (prices_of budget) budget.most)
    (subst (λ (os : Ops). LegalAll tree (prices_of budget) budget.most os start) is legal) in
    record { here = above.here; others = above.others }
