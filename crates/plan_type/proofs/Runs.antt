-- A plan's operations are legal, end with what was stored, and pay its cost.
use Rattle.std.proofs.Common.{◌≡◌, ◌∙◌, ℕ, ◌+◌, ◌*◌, ◌<◌, ◌≤◌, List, [], ◌∷◌, ◌++◌, map, max, Bool, true, false, not, ◌&&◌, refl, sym, ap, subst, arith, inl, inr, ◌⊎◌, Option, None, Some, eq-zero-or-pos}
use Rattle.std.specs.Prelude.{if◌then◌else◌, ◌==◌}
use Rattle.std.specs.List.{AllByRecursion, sum_by}
use Rattle.std.proofs.lemmas.List.Sums.{sum_by-cons, sum_by_push}
use Rattle.std.proofs.lemmas.List.Sorted.{All-permutation}
use Rattle.std.proofs.lemmas.List.Elements.{recursion_from_All}
use Rattle.std.proofs.lemmas.Bool.Decides.{nat_tests}
use Rattle.plan_type.specs.declared.plan.Plan.{Plan, every-Plan}
use Rattle.plan_type.specs.declared.plan.Entry.{Entry}
use Rattle.plan_type.specs.declared.operations.Operation.TheVariants.{Reset, Compute, Checkpoint, Restore, Evict}
use Rattle.plan_type.specs.Costs.{Tree}
use Rattle.plan_type.proofs.Sound.{Grows}
use Rattle.plan_type.specs.Plan.{named, entries_of, Orders, LayerOrders, IsPlanOf, HoldsNone, greatest, peak_at}
use Rattle.plan_type.specs.Prices.{Prices, listed_cost, cost_at}
use Rattle.plan_type.specs.Operations.{Ops, before, listed_ops, ops_at, way_back, Machine, stores, IsLive, after, after_all, LegalAll}
use Rattle.plan_type.proofs.PlanParts.{rest_cost, cost_parts, rest_peak, peak_parts, rest_ops, ops_parts, induct, under_parts, peak_above}

same : (u : ℕ) → (u == u) ≡ true
same u = grind (arith, nat_tests)

not_stored : (u : ℕ) (st : List ℕ) → AllByRecursion (λ x. x < u) st → stores st u ≡ false
not_stored u [] h = refl
not_stored u (x ∷ xs) (b, h) = let e : (x == u) ≡ false = grind (arith, nat_tests) in rw (e, not_stored u xs h) refl

live_by : (m : Machine) (o : Option ℕ) (u : ℕ) → o ≡ Some u → m.live ≡ Some u → IsLive m o
live_by m None u is live = absurd (cc)
live_by m (Some w) u is live = live ∙ sym is

module _ (tree : Tree) (prices : Prices) (most above : ℕ) (grows : Grows tree above) where
  pub record Passes (os : Ops) (m n : Machine) : Type 0 where
    pub legal : LegalAll tree prices most os m
    pub to : after_all tree prices os m ≡ n

  passes_append : (os bs : Ops) (m n k : Machine) → Passes os m n → Passes bs n k → Passes (os ++ bs) m k
  passes_append [] bs m n k a b = subst (λ x. Passes bs x k) (sym a.to) b
  passes_append (o ∷ os) bs m n k a b =
      let i = passes_append os bs (after tree prices o m) n k (record { legal = a.legal.1; to = a.to }) b in
      record { legal = (a.legal.0, i.legal); to = i.to }

  -- the operations run from m; they leave these stored, pay this much, and reach this many blocks
  pub record Plays (os : Ops) (m : Machine) (st : List ℕ) (paid reach : ℕ) : Type 0 where
    pub end : Machine
    pub passes : Passes os m end
    pub stored : end.stored ≡ st
    pub pays : end.paid ≡ m.paid + paid
    pub reaches : end.greatest ≡ max m.greatest reach

  -- and come to u
  record Moves (os : Ops) (m : Machine) (u : ℕ) (st : List ℕ) (paid reach : ℕ) : Type 0 where
    plays : Plays os m st paid reach
    live : plays.end.live ≡ Some u

  plays_as : (os : Ops) (m : Machine) (st : List ℕ) (p p' g g' : ℕ) → Plays os m st p g → p ≡ p' → max m.greatest g ≡ max m.greatest g' → Plays os m st p' g'
  plays_as os m st p p' g g' a e f =
      let x = a.pays in let y = a.reaches in
      record { end = a.end; passes = a.passes; stored = a.stored; pays = omega (arith, x); reaches = y ∙ f }

  plays_then : (os bs : Ops) (m : Machine) (s t : List ℕ) (p q g h : ℕ) (a : Plays os m s p g) → Plays bs a.end t q h → Plays (os ++ bs) m t (p + q) (max g h)
  plays_then os bs m s t p q g h a b =
      let x = a.pays in let y = b.pays in let v = a.reaches in let w = b.reaches in
      record {
        end = b.end;
        passes = passes_append os bs m a.end b.end a.passes b.passes;
        stored = b.stored;
        pays = omega (arith, x, y);
        reaches = omega (arith, v, w);
      }

  -- ---- the pieces

  change : (u : ℕ) (held hold : Bool) (st : List ℕ) (m : Machine) → m.live ≡ Some u → (held ≡ false → hold ≡ true → m.fresh ≡ true) → m.stored ≡ (if held then u ∷ st else st) → stores st u ≡ false
      → (if held then sum_by tree.blocks st + tree.blocks u else sum_by tree.blocks st) ≤ m.greatest
      → (if hold then sum_by tree.blocks st + tree.blocks u else sum_by tree.blocks st) ≤ most
      → Moves (before u (tree.blocks u) held hold) m u (if hold then u ∷ st else st) (if hold && not held then prices.save * tree.blocks u else 0)
      (if hold then sum_by tree.blocks st + tree.blocks u else sum_by tree.blocks st)
  change u true true st m live new stored fresh used fits =
      record { plays = record { end = m; passes = record { legal = tt; to = refl }; stored = stored; pays = omega arith; reaches = omega arith }; live = live }
  change u false false st m live new stored fresh used fits =
      record { plays = record { end = m; passes = record { legal = tt; to = refl }; stored = stored; pays = omega arith; reaches = omega arith }; live = live }
  change u false true st m live new stored fresh used fits =
      let s = ap (sum_by tree.blocks) stored in
      record {
        plays = record {
          end = after tree prices (Checkpoint u (tree.blocks u)) m;
          passes = record { legal = ((live, new refl refl, rw stored fresh, refl, omega (arith, s)), tt); to = refl };
          stored = ap (λ l. u ∷ l) stored;
          pays = refl;
          reaches = ap (λ n. max m.greatest (n + tree.blocks u)) s;
        };
        live = live;
      }
  change u true false st m live new stored fresh used fits =
      record {
        plays = record {
          end = after tree prices (Evict u) m;
          passes = record { legal = (rw stored (rw (same u) refl), tt); to = refl };
          stored = rw stored (rw (same u) refl);
          pays = omega arith;
          reaches = omega arith;
        };
        live = live;
      }

  -- from a node down a way to another
  abbrev pub Chain : ℕ → List ℕ → ℕ → Type 0
  Chain a [] u = a ≡ u
  Chain a (w ∷ ws) u = (tree.parent w ≡ Some a) × Chain w ws u

  chain_push : (a : ℕ) (ws : List ℕ) (u v : ℕ) → Chain a ws u → tree.parent v ≡ Some u → Chain a (ws ++ v ∷ []) v
  chain_push a [] u v c p = (p ∙ ap (λ x. Some x) (sym c), refl)
  chain_push a (w ∷ ws) u v c p = (c.0, chain_push w ws u v c.1 p)

  down : (a : ℕ) (ws : List ℕ) (u : ℕ) (m : Machine) → m.live ≡ Some a → Chain a ws u
      → Moves (map (λ v. Compute v (tree.steps v)) ws) m u m.stored (sum_by tree.steps ws) 0
  down a [] u m live chain =
      record { plays = record { end = m; passes = record { legal = tt; to = refl }; stored = refl; pays = omega arith; reaches = omega arith }; live = live ∙ ap (λ x. Some x) chain }
  down a (w ∷ ws) u m live chain =
      let next = after tree prices (Compute w (tree.steps w)) m in
      let i = down w ws u next refl chain.1 in
      let s = sum_by-cons tree.steps w ws in
      let x = i.plays.pays in
      record {
        plays = record {
          end = i.plays.end;
          passes = record { legal = ((live_by m (tree.parent w) a chain.0 live, refl), i.plays.passes.legal); to = i.plays.passes.to };
          stored = i.plays.stored;
          pays = omega (arith, x, s);
          reaches = i.plays.reaches;
        };
        live = i.live;
      }

  -- what making a node again from an ancestor pays in loads
  abbrev pub loads : ℕ → ℕ
  loads anchor = if anchor == 0 then 0 else prices.load * tree.blocks anchor

  -- where a plan's operations begin: the nearest held ancestor is stored, and the way leads from it to the node
  pub record Stands (u anchor : ℕ) (way : List ℕ) (back again : ℕ) (st : List ℕ) : Type 0 where
    pub below : AllByRecursion (λ x. x < u) st
    pub anchored : (anchor ≡ 0) ⊎ (stores st anchor ≡ true)
    pub chain : Chain anchor way u
    pub backs : sum_by tree.steps way ≡ back
    pub agains : loads anchor ≡ again

  remade_by : (b : Bool) (u anchor : ℕ) (way : List ℕ) (st : List ℕ) (m : Machine) → (anchor == 0) ≡ b → (anchor ≡ 0) ⊎ (stores st anchor ≡ true) → Chain anchor way u → m.stored ≡ st
      → Moves ((if b then Reset else Restore anchor) ∷ map (λ v. Compute v (tree.steps v)) way) m u st (sum_by tree.steps way + (if b then 0 else prices.load * tree.blocks anchor)) 0
  remade_by true u anchor way st m is anchored chain stored =
      let none : anchor ≡ 0 = grind (arith, nat_tests) in
      let i = down anchor way u (after tree prices Reset m) (ap (λ x. Some x) (sym none)) chain in
      let x = i.plays.pays in
      record { plays = record { end = i.plays.end; passes = record { legal = (tt, i.plays.passes.legal); to = i.plays.passes.to }; stored = i.plays.stored ∙ stored; pays = omega (arith, x); reaches = i.plays.reaches }; live = i.live }
  remade_by false u anchor way st m is anchored chain stored =
      let i = down anchor way u (after tree prices (Restore anchor) m) refl chain in
      let x = i.plays.pays in
      let there : stores st anchor ≡ true = elim anchored [ inl none ↦ absurd (let e : (anchor == 0) ≡ true = grind (arith, nat_tests) in cc) | inr h ↦ h ] in
      record { plays = record { end = i.plays.end; passes = record { legal = (rw stored there, i.plays.passes.legal); to = i.plays.passes.to }; stored = i.plays.stored ∙ stored; pays = omega (arith, x); reaches = i.plays.reaches }; live = i.live }

  abbrev returns : ℕ → ℕ → ℕ → Bool → ℕ
  returns u back again hold = if hold then prices.load * tree.blocks u else back + again

  remade : (u anchor : ℕ) (way : List ℕ) (back again : ℕ) (st : List ℕ) (hold : Bool) (m : Machine) → Stands u anchor way back again st → m.stored ≡ (if hold then u ∷ st else st)
      → Moves (way_back tree.steps u anchor way hold) m u (if hold then u ∷ st else st) (returns u back again hold) 0
  unfolding plays_as
  remade u anchor way back again st true m stands stored =
      record {
        plays = record {
          end = after tree prices (Restore u) m;
          passes = record { legal = (rw stored (rw (same u) refl), tt); to = refl };
          stored = stored;
          pays = refl;
          reaches = omega arith;
        };
        live = refl;
      }
  remade u anchor way back again st false m stands stored =
      let i = remade_by (anchor == 0) u anchor way st m refl stands.anchored stands.chain stored in
      let a = stands.backs in let b = stands.agains in
      record { plays = plays_as _ m st _ (back + again) 0 0 i.plays (omega (arith, a, b)) refl; live = i.live }

  -- ---- what was just computed

  computed_fresh : (w : ℕ) (ws : List ℕ) (m : Machine) → (after_all tree prices (map (λ v. Compute v (tree.steps v)) (w ∷ ws)) m).fresh ≡ true
  computed_fresh w [] m = refl
  computed_fresh w (x ∷ ws) m = computed_fresh x ws (after tree prices (Compute w (tree.steps w)) m)

  -- a node that is made again is computed, unless it is 0
  back_fresh : (u anchor : ℕ) (way : List ℕ) (back again : ℕ) (st : List ℕ) (hold : Bool) (m end : Machine) → Stands u anchor way back again st → after_all tree prices (way_back tree.steps u anchor way hold) m ≡ end
      → hold ≡ false → 0 < u → end.fresh ≡ true
  back_fresh u anchor way back again st true m end stands to off some = absurd (cc)
  back_fresh u anchor way back again st false m end stands to off some = by way stands.chain to
    where
      by : (way : List ℕ) → Chain anchor way u → after_all tree prices (way_back tree.steps u anchor way false) m ≡ end → end.fresh ≡ true
      by [] chain to = absurd (elim stands.anchored [
        | inl none ↦ omega (arith, none, chain, some)
        | inr there ↦ let not = not_stored u st stands.below in let here : stores st u ≡ true = subst (λ x. stores st x ≡ true) chain there in cc
      ])
      by (w ∷ ws) chain to = ap (λ x. x.fresh) (sym to) ∙ computed_fresh w ws (after tree prices (if anchor == 0 then Reset else Restore anchor) m)

  -- ---- a plan

  unfoldable pub Played : Plan → Type 0
  Played p = (u anchor : ℕ) (way : List ℕ) (back again : ℕ) (st : List ℕ) (m : Machine) → IsPlanOf tree.children u p → (u ≡ 0 → HoldsNone (entries_of p))
      → Stands u anchor way back again st → m.live ≡ Some u → (0 < u → m.fresh ≡ true) → m.stored ≡ st → sum_by tree.blocks st ≤ m.greatest
      → peak_at tree.blocks p u (sum_by tree.blocks st) ≤ most
      → Plays (ops_at tree p u anchor way) m st (cost_at tree prices p u back again) (peak_at tree.blocks p u (sum_by tree.blocks st))

  plays_compute : (u v : ℕ) (m : Machine) (os : Ops) (st : List ℕ) (p g : ℕ) → m.live ≡ Some u → tree.parent v ≡ Some u → Plays os (after tree prices (Compute v (tree.steps v)) m) st p g
      → Plays (Compute v (tree.steps v) ∷ os) m st (tree.steps v + p) g
  plays_compute u v m os st p g live parent a =
      let x = a.pays in
      record { end = a.end; passes = record { legal = ((live_by m (tree.parent v) u parent live, refl), a.passes.legal); to = a.passes.to }; stored = a.stored; pays = omega (arith, x); reaches = a.reaches }

  weaker : (u v : ℕ) (st : List ℕ) → u < v → AllByRecursion (λ x. x < u) st → AllByRecursion (λ x. x < v) st
  weaker u v [] lt h = tt
  weaker u v (x ∷ xs) lt (b, h) = (omega arith, weaker u v xs lt h)

  loads_of : (u : ℕ) → 0 < u → loads u ≡ prices.load * tree.blocks u
  loads_of u some = let e : (u == 0) ≡ false = grind (arith, nat_tests) in rw e refl

  -- a child, computed, and its plan
  turn : (u anchor : ℕ) (way : List ℕ) (back again : ℕ) (st : List ℕ) (hold : Bool) (v : ℕ) (rest : Plan) (m : Machine) → Played rest
      → (hold ≡ true → 0 < u) → u < v → tree.parent v ≡ Some u → IsPlanOf tree.children v rest → Stands u anchor way back again st → m.live ≡ Some u → m.stored ≡ (if hold then u ∷ st else st)
      → (if hold then sum_by tree.blocks st + tree.blocks u else sum_by tree.blocks st) ≤ m.greatest
      → peak_at tree.blocks rest v (if hold then sum_by tree.blocks st + tree.blocks u else sum_by tree.blocks st) ≤ most
      → Plays (Compute v (tree.steps v) ∷ (if hold then ops_at tree rest v u (v ∷ []) else ops_at tree rest v anchor (way ++ v ∷ []))) m (if hold then u ∷ st else st)
      (tree.steps v + (if hold then cost_at tree prices rest v (tree.steps v) (prices.load * tree.blocks u) else cost_at tree prices rest v (back + tree.steps v) again))
      (peak_at tree.blocks rest v (if hold then sum_by tree.blocks st + tree.blocks u else sum_by tree.blocks st))
  unfolding Played
  turn u anchor way back again st true v rest m played some below parent order stands live stored used fits =
      let next = after tree prices (Compute v (tree.steps v)) m in
      let more : sum_by tree.blocks (u ∷ st) ≡ sum_by tree.blocks st + tree.blocks u = let a = sum_by-cons tree.blocks u st in omega (arith, a) in
      let here : Stands v u (v ∷ []) (tree.steps v) (prices.load * tree.blocks u) (u ∷ st) = record {
        below = (below, weaker u v st below stands.below);
        anchored = inr (rw (same u) refl);
        chain = (parent, refl);
        backs = omega arith;
        agains = loads_of u (some refl);
      } in
      plays_compute u v m (ops_at tree rest v u (v ∷ [])) (u ∷ st) _ _ live parent
      (subst (λ n. Plays (ops_at tree rest v u (v ∷ [])) next (u ∷ st) (cost_at tree prices rest v (tree.steps v) (prices.load * tree.blocks u)) (peak_at tree.blocks rest v n)) more
      (played v u (v ∷ []) (tree.steps v) (prices.load * tree.blocks u) (u ∷ st) next order (λ z. absurd (omega arith)) here refl (λ _. refl) stored (omega (arith, more)) (subst (λ n. peak_at tree.blocks rest v n ≤ most) (sym more) fits)))
  turn u anchor way back again st false v rest m played some below parent order stands live stored used fits =
      let next = after tree prices (Compute v (tree.steps v)) m in
      let here : Stands v anchor (way ++ v ∷ []) (back + tree.steps v) again st = record {
        below = weaker u v st below stands.below;
        anchored = stands.anchored;
        chain = chain_push anchor way u v stands.chain parent;
        backs = let a = sum_by_push tree.steps way v in let b = stands.backs in omega (arith, a, b);
        agains = stands.agains;
      } in
      plays_compute u v m (ops_at tree rest v anchor (way ++ v ∷ [])) st _ _ live parent
      (played v anchor (way ++ v ∷ []) (back + tree.steps v) again st next order (λ z. absurd (omega arith)) here refl (λ _. refl) stored used fits)

  -- after the last entry
  close : (u : ℕ) (hold : Bool) (st : List ℕ) (m : Machine) → m.stored ≡ (if hold then u ∷ st else st)
      → (if hold then sum_by tree.blocks st + tree.blocks u else sum_by tree.blocks st) ≤ m.greatest
      → Plays (before u (tree.blocks u) hold false) m st 0 (sum_by tree.blocks st)
  close u true st m stored used =
      record { end = after tree prices (Evict u) m; passes = record { legal = (rw stored (rw (same u) refl), tt); to = refl }; stored = rw stored (rw (same u) refl); pays = omega arith; reaches = omega arith }
  close u false st m stored used =
      record { end = m; passes = record { legal = tt; to = refl }; stored = stored; pays = omega arith; reaches = omega arith }

  -- the entries from one on
  played_list : (u anchor : ℕ) (way : List ℕ) (back again : ℕ) (st : List ℕ) → Stands u anchor way back again st → (held : Bool) (es : List (Entry Plan)) (m : Machine)
      → AllByRecursion (λ v. u < v) (named es) → AllByRecursion (λ v. tree.parent v ≡ Some u) (named es)
      → AllByRecursion (λ e. Orders tree.children e.child (entries_of e.rest)) es → AllByRecursion (λ e. every-Plan (LayerOrders tree.children) e.rest) es → AllByRecursion (λ e. Played e.rest) es
      → AllByRecursion (λ e. e.hold ≡ true → 0 < u) es
      → m.live ≡ Some u → (held ≡ false → 0 < u → m.fresh ≡ true) → m.stored ≡ (if held then u ∷ st else st) → (if held then sum_by tree.blocks st + tree.blocks u else sum_by tree.blocks st) ≤ m.greatest
      → greatest (rest_peak tree.blocks u (sum_by tree.blocks st)) (sum_by tree.blocks st) es ≤ most
      → Plays (listed_ops (rest_ops tree u anchor way) (before u (tree.blocks u)) (way_back tree.steps u anchor way) held es) m st
      (listed_cost (rest_cost tree prices u back again) (prices.save * tree.blocks u) (returns u back again) held es)
      (greatest (rest_peak tree.blocks u (sum_by tree.blocks st)) (sum_by tree.blocks st) es)
  unfolding rest_ops rest_cost rest_peak
  played_list u anchor way back again st stands held [] m below parents orders under played some live fresh stored used fits = close u held st m stored used
  played_list u anchor way back again st stands held (e ∷ []) m below parents orders under played some live fresh stored used fits =
      let w : ℕ = if e.hold then sum_by tree.blocks st + tree.blocks u else sum_by tree.blocks st in
      let top : w ≤ peak_at tree.blocks e.rest e.child w = peak_above tree.blocks e.rest e.child w in
      let c = change u held e.hold st m live (λ off on. fresh off (some.0 on)) stored (not_stored u st stands.below) used (omega (arith, top)) in
      let x = c.plays.reaches in
      let t = turn u anchor way back again st e.hold e.child e.rest c.plays.end played.0 some.0 below.0 parents.0 (record { here = orders.0; under = under.0 }) stands c.live c.plays.stored (omega (arith, x)) (omega arith) in
      let y = t.reaches in
      let d = close u e.hold st t.end t.stored (omega (arith, x, y)) in
      plays_as _ m st _ _ _ _ (plays_then _ _ m _ st _ _ _ _ c.plays (plays_then _ _ c.plays.end _ st _ _ _ _ t d)) (omega arith) (omega (arith, top))
  played_list u anchor way back again st stands held (e ∷ f ∷ es) m below parents orders under played some live fresh stored used fits =
      let w : ℕ = if e.hold then sum_by tree.blocks st + tree.blocks u else sum_by tree.blocks st in
      let top : w ≤ peak_at tree.blocks e.rest e.child w = peak_above tree.blocks e.rest e.child w in
      let c = change u held e.hold st m live (λ off on. fresh off (some.0 on)) stored (not_stored u st stands.below) used (omega (arith, top)) in
      let x = c.plays.reaches in
      let t = turn u anchor way back again st e.hold e.child e.rest c.plays.end played.0 some.0 below.0 parents.0 (record { here = orders.0; under = under.0 }) stands c.live c.plays.stored (omega (arith, x)) (omega arith) in
      let y = t.reaches in
      let r = remade u anchor way back again st e.hold t.end stands t.stored in
      let z = r.plays.reaches in
      let d = played_list u anchor way back again st stands e.hold (f ∷ es) r.plays.end below.1 parents.1 orders.1 under.1 played.1 some.1 r.live (back_fresh u anchor way back again st e.hold t.end r.plays.end stands r.plays.passes.to) r.plays.stored (omega (arith, x, y, z)) (omega arith) in
      plays_as _ m st _ _ _ _ (plays_then _ _ m _ st _ _ _ _ c.plays (plays_then _ _ c.plays.end _ st _ _ _ _ t (plays_then _ _ t.end _ st _ _ _ _ r.plays d))) (omega arith) (omega (arith, top))

  some_above : (u : ℕ) (es : List (Entry Plan)) → (u ≡ 0 → HoldsNone es) → AllByRecursion (λ e. e.hold ≡ true → 0 < u) es
  some_above u [] none = tt
  some_above u (e ∷ es) none = (by (eq-zero-or-pos u), some_above u es (λ z. (none z).1))
    where
      by : (u ≡ 0) ⊎ (0 < u) → e.hold ≡ true → 0 < u
      by (inl z) on = let off = (none z).0 in absurd (cc)
      by (inr lt) on = lt

  played_by : (p : Plan) → AllByRecursion (λ e. Played e.rest) (entries_of p) → Played p
  unfolding Played
  played_by p played u anchor way back again st m order none stands live fresh stored used fits =
      let below = recursion_from_All (λ v. u < v) (named (entries_of p)) (All-permutation (λ v. u < v) (tree.children u) (named (entries_of p)) order.here (grows.above u)) in
      let parents = recursion_from_All (λ v. tree.parent v ≡ Some u) (named (entries_of p)) (All-permutation (λ v. tree.parent v ≡ Some u) (tree.children u) (named (entries_of p)) order.here (grows.parents u)) in
      let (orders, under) = under_parts tree.children p order.under in
      let top = rw (peak_parts tree.blocks p u (sum_by tree.blocks st)) at fits in
      rw (ops_parts tree p u anchor way, cost_parts tree prices p u back again, peak_parts tree.blocks p u (sum_by tree.blocks st))
      (played_list u anchor way back again st stands false (entries_of p) m below parents orders under played (some_above u (entries_of p) none) live (λ off some. fresh some) stored used top)

  pub plays : (p : Plan) → Played p
  plays = induct Played played_by
