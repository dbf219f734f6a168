-- The entries that are chosen are the children in an order, and cost the least.
use Rattle.std.proofs.Common.{◌≡◌, ◌∙◌, ℕ, zero, suc, ◌+◌, ◌-◌, ◌*◌, ◌<◌, ◌≤◌, List, [], ◌∷◌, ◌++◌, map, length, get_or, min, cond, Bool, true, false, not, refl, sym, ap, subst, arith, inl, inr, ◌⊎◌, append_assoc}
use Rattle.std.specs.Prelude.{if◌then◌else◌, IsPermutation, nat_lt, sum_by, IfOk, Result, Ok, Err}
use Rattle.std.specs.List.{AllByRecursion, filter, remove}
use Rattle.std.proofs.lemmas.Bool.Decides.{nat_tests}
use Rattle.std.proofs.lemmas.List.Sums.{sum_by-cons, sum_by-remove}
use Rattle.std.proofs.lemmas.List.Sorted.{IsPermutation-refl, IsPermutation-remove, IsPermutation-to_front, IsPermutation-trans, IsPermutation-sym, IsPermutation-cons, IsPermutation-middle, IsPermutation-map, sum_by-IsPermutation}
use Rattle.plan_type.specs.declared.offer.Offer.{Offer}
use Rattle.plan_type.specs.declared.offer.Fees.{Fees}
use Rattle.plan_type.specs.Plan.{named, HoldsNone}
use Rattle.plan_type.specs.Prices.{listed_cost}
use Rattle.plan_type.specs.Choices.{Choice, local, all_free}
use Rattle.plan_type.specs.Offers.{no_offer, offer_at, fees_at, offer_last, offer_other, offer_saving, most_saved, offers_free, offers_held}
use Rattle.plan_type.proofs.OfferLemmas.{sum_mapped, local_offers, free_all, any_default}
use Rattle.plan_type.proofs.Orders.{local_lower}
use Rattle.plan_optimum.specs.Chosen.{Pick, pick_of, free_pick, other_pick, last_pick, flagged, cost_by, return_by, IsChosen}
use Rattle.plan_optimum.proofs.Grouped.{spent, front_free, one_free, last_holds, last_free, spread}

times : (n r : ℕ) → (suc (suc n) - 1) * r ≡ r + (suc n - 1) * r
times n r = let a : suc (suc n) - 1 ≡ suc n = omega arith in let b : suc n - 1 ≡ n = omega arith in rw (a, b) (omega arith)

-- ---- entries by their flags

flagged_not : (hold : Bool) (e : Pick) → flagged (not hold) e ≡ not (flagged hold e)
flagged_not true e = refl
flagged_not false e = twice e.hold
  where
    twice : (b : Bool) → b ≡ not (not b)
    twice true = refl
    twice false = refl

apart : (hold : Bool) (es : List Pick) → IsPermutation es (filter (flagged (not hold)) es ++ filter (flagged hold) es)
apart hold [] = IsPermutation-refl []
apart hold (e ∷ es) = by (flagged hold e) (flagged (not hold) e) (flagged_not hold e) (apart hold es)
  where
    by : (b d : Bool) → d ≡ not b → IsPermutation es (filter (flagged (not hold)) es ++ filter (flagged hold) es)
        → IsPermutation (e ∷ es) (cond d (e ∷ filter (flagged (not hold)) es) (filter (flagged (not hold)) es) ++ cond b (e ∷ filter (flagged hold) es) (filter (flagged hold) es))
    by false true is i = IsPermutation-cons e es _ i
    by true false is i =
        IsPermutation-trans (e ∷ es) (e ∷ (filter (flagged (not hold)) es ++ filter (flagged hold) es)) _ (IsPermutation-cons e es _ i)
        (IsPermutation-sym _ _ (IsPermutation-middle (filter (flagged (not hold)) es) e (filter (flagged hold) es)))
    by true true is i = absurd (cc)
    by false false is i = absurd (cc)

none_held : (es : List Pick) → HoldsNone (filter (flagged false) es)
none_held [] = tt
none_held (e ∷ es) = by e.hold refl (none_held es)
  where
    by : (b : Bool) → e.hold ≡ b → HoldsNone (filter (flagged false) es) → HoldsNone (cond (not b) (e ∷ filter (flagged false) es) (filter (flagged false) es))
    by true is i = i
    by false is i = (is, i)

all_held : (es : List Pick) → AllByRecursion (λ e. e.hold ≡ true) (filter (flagged true) es)
all_held [] = tt
all_held (e ∷ es) = by e.hold refl (all_held es)
  where
    by : (b : Bool) → e.hold ≡ b → AllByRecursion (λ e. e.hold ≡ true) (filter (flagged true) es) → AllByRecursion (λ e. e.hold ≡ true) (cond b (e ∷ filter (flagged true) es) (filter (flagged true) es))
    by true is i = (is, i)
    by false is i = i

-- where none of them holds, all are free
all_free_where : (es : List Pick) → filter (flagged true) es ≡ [] → HoldsNone es
all_free_where [] none = tt
all_free_where (e ∷ es) none = by e.hold refl none (all_free_where es)
  where
    by : (b : Bool) → e.hold ≡ b → cond b (e ∷ filter (flagged true) es) (filter (flagged true) es) ≡ [] → (filter (flagged true) es ≡ [] → HoldsNone es) → HoldsNone (e ∷ es)
    by true is none i = absurd (cc)
    by false is none i = (is, i none)

sum_append : (f : Pick → ℕ) (xs ys : List Pick) → sum_by f (xs ++ ys) ≡ sum_by f xs + sum_by f ys
sum_append f [] ys = omega arith
sum_append f (x ∷ xs) ys = let a = sum_by-cons f x (xs ++ ys) in let b = sum_by-cons f x xs in let i = sum_append f xs ys in omega (arith, a, b, i)

named_push : (os : List Pick) (z : Pick) → named (os ++ z ∷ []) ≡ named os ++ z.child ∷ []
named_push [] z = refl
named_push (e ∷ os) z = ap (λ l. e.child ∷ l) (named_push os z)

-- ---- the node is never held

module _ (c : Choice) (can : Bool) where
  abbrev frees : List ℕ → List Pick
  frees vs = map free_pick (map (offer_at c can) vs)

  named_free : (vs : List ℕ) → named (frees vs) ≡ vs
  named_free [] = refl
  named_free (v ∷ vs) = ap (λ l. v ∷ l) (named_free vs)

  may_free : (vs : List ℕ) → AllByRecursion (λ e. e.hold ≡ true → can ≡ true) (frees vs)
  may_free [] = tt
  may_free (v ∷ vs) = ((λ on. absurd (cc)), may_free vs)

  free_cost : (vs : List ℕ) → listed_cost (cost_by c) c.save (return_by c) false (frees vs) ≡ all_free c vs
  free_cost [] = omega arith
  free_cost (v ∷ []) = let a = sum_by-cons c.free v [] in omega (arith, a)
  free_cost (v ∷ w ∷ vs) = let i = free_cost (w ∷ vs) in let a = sum_by-cons c.free v (w ∷ vs) in let t = times (length vs) c.return in omega (arith, i, a, t)

  pub chosen_free : (vs : List ℕ) (fees : Fees) (os : List Offer) (es : List Pick) → os ≡ map (offer_at c can) vs → fees ≡ fees_at c can → nat_lt (offers_held fees os) (offers_free fees os) ≡ false → es ≡ map free_pick os → IsChosen c can vs es
  chosen_free vs fees os es are is less picked =
      let picks : es ≡ frees vs = picked ∙ ap (map free_pick) are in
      let low : nat_lt (offers_held (fees_at c can) (map (offer_at c can) vs)) (offers_free (fees_at c can) (map (offer_at c can) vs)) ≡ false = subst (λ f. nat_lt (offers_held f (map (offer_at c can) vs)) (offers_free f (map (offer_at c can) vs)) ≡ false) is (subst (λ l. nat_lt (offers_held fees l) (offers_free fees l) ≡ false) are less) in
      let le = not_less (offers_held (fees_at c can) (map (offer_at c can) vs)) (offers_free (fees_at c can) (map (offer_at c can) vs)) low in
      let l = local_offers c can vs in let f = free_all c can vs in
      let cost : all_free c vs ≡ local c can vs = omega (arith, le, l, f) in
      subst (IsChosen c can vs) (sym picks) (record {
        orders = subst (IsPermutation vs) (sym (named_free vs)) (IsPermutation-refl vs);
        may = may_free vs;
        cost = free_cost vs ∙ cost;
      })
    where
      not_less : (a b : ℕ) → nat_lt a b ≡ false → b ≤ a
      not_less a b is = grind (arith, nat_tests)

-- ---- the node is held for some

-- where it may not be held, holding is not cheaper
never : (c : Choice) (vs : List ℕ) → offers_free (fees_at c false) (map (offer_at c false) vs) ≤ offers_held (fees_at c false) (map (offer_at c false) vs)
never c vs = let l = local_offers c false vs in let f = free_all c false vs in omega (arith, l, f)

module _ (c : Choice) where
  abbrev fees : Fees
  fees = fees_at c true

  abbrev offer : ℕ → Offer
  offer = offer_at c true

  abbrev f : ℕ → ℕ
  f v = offer_other fees (offer v)

  other_cost : (v : ℕ) → spent (cost_by c) c.save (return_by c) (other_pick fees (offer v)) ≡ f v
  other_cost v = by (nat_lt (c.held v + c.load) (c.free v + c.return)) refl
    where
      by : (b : Bool) → nat_lt (c.held v + c.load) (c.free v + c.return) ≡ b → (if b then c.held v else c.free v) + (if b then c.load else c.return) ≡ min (c.free v + c.return) (c.held v + c.load)
      by true is = let lt : c.held v + c.load < c.free v + c.return = grind (arith, nat_tests) in omega (arith, lt)
      by false is = let le : c.free v + c.return ≤ c.held v + c.load = grind (arith, nat_tests) in omega (arith, le)

  last_cost : (v : ℕ) → cost_by c (last_pick (offer v)) ≡ offer_last (offer v)
  last_cost v = by (nat_lt (c.held v) (c.free v)) refl
    where
      by : (b : Bool) → nat_lt (c.held v) (c.free v) ≡ b → (if b then c.held v else c.free v) ≡ min (c.free v) (c.held v)
      by true is = let lt : c.held v < c.free v = grind (arith, nat_tests) in omega (arith, lt)
      by false is = let le : c.free v ≤ c.held v = grind (arith, nat_tests) in omega (arith, le)

  abbrev others : List ℕ → List Pick
  others us = map (other_pick fees) (map offer us)

  named_others : (us : List ℕ) → named (others us) ≡ us
  named_others [] = refl
  named_others (v ∷ vs) = ap (λ l. v ∷ l) (named_others vs)

  sum_others : (us : List ℕ) → sum_by (spent (cost_by c) c.save (return_by c)) (others us) ≡ sum_by f us
  sum_others [] = refl
  sum_others (v ∷ vs) =
      let a = sum_by-cons (spent (cost_by c) c.save (return_by c)) (other_pick fees (offer v)) (others vs) in let b = sum_by-cons f v vs in let i = sum_others vs in let o = other_cost v in omega (arith, a, b, i, o)

  any_may : (es : List Pick) → AllByRecursion (λ e. e.hold ≡ true → true ≡ true) es
  any_may [] = tt
  any_may (e ∷ es) = ((λ on. refl), any_may es)

  -- the entries, and one last, cost a save, the others and the last
  module _ (vs us : List ℕ) (v : ℕ) (moved : IsPermutation vs (named (others us ++ last_pick (offer v) ∷ []))) (less : offers_held fees (map offer vs) < offers_free fees (map offer vs))
      (sum : sum_by f us + offer_last (offer v) ≡ sum_by (offer_other fees) (map offer vs) - most_saved fees (map offer vs)) where
    abbrev z : Pick
    z = last_pick (offer v)

    abbrev total : List Pick → ℕ
    total = listed_cost (cost_by c) c.save (return_by c) false

    -- one of them holds
    some_held : HoldsNone (others us) → z.hold ≡ false → ⊥
    some_held none off =
        let low : all_free c vs ≤ total (others us ++ z ∷ []) = local_lower c (cost_by c) false vs (others us ++ z ∷ []) moved (above (others us ++ z ∷ [])) (inl (none_all (others us) none)) in
        let a = front_free (cost_by c) c.save (return_by c) (others us) z [] none in
        let b = one_free (cost_by c) c.save (return_by c) z off in
        let s = sum_others us in let l = last_cost v in let g = free_all c true vs in
        omega (arith, low, a, b, s, l, g, less, sum)
      where
        none_all : (es : List Pick) → HoldsNone es → HoldsNone (es ++ z ∷ [])
        none_all [] h = (off, tt)
        none_all (e ∷ es) h = (h.0, none_all es h.1)

        above : (es : List Pick) → AllByRecursion (λ e. cost_by c e ≤ cost_by c e) es
        above [] = tt
        above (e ∷ es) = (omega arith, above es)

    parts : (hold : Bool) → sum_by (spent (cost_by c) c.save (return_by c)) (filter (flagged (not hold)) (others us)) + sum_by (spent (cost_by c) c.save (return_by c)) (filter (flagged hold) (others us)) ≡ sum_by f us
    parts hold =
        let a = sum_append (spent (cost_by c) c.save (return_by c)) (filter (flagged (not hold)) (others us)) (filter (flagged hold) (others us)) in
        let b = sum_by-IsPermutation (spent (cost_by c) c.save (return_by c)) (others us) _ (apart hold (others us)) in
        let s = sum_others us in omega (arith, a, b, s)

    grouped : (hold : Bool) → z.hold ≡ hold → total ((filter (flagged (not hold)) (others us) ++ filter (flagged hold) (others us)) ++ z ∷ []) ≡ c.save + (sum_by f us + offer_last (offer v))
    grouped true on =
        let h = last_holds (cost_by c) c.save (return_by c) (filter (flagged false) (others us)) (filter (flagged true) (others us)) z (none_held (others us)) (all_held (others us)) on in
        let p = parts true in let l = last_cost v in
        ap total (append_assoc (filter (flagged false) (others us)) (filter (flagged true) (others us)) (z ∷ [])) ∙ omega (arith, h, p, l)
    grouped false off = by (filter (flagged true) (others us)) refl
      where
        by : (hs : List Pick) → filter (flagged true) (others us) ≡ hs → total ((filter (flagged true) (others us) ++ filter (flagged false) (others us)) ++ z ∷ []) ≡ c.save + (sum_by f us + offer_last (offer v))
        by [] is = absurd (some_held (all_free_where (others us) is) off)
        by (h ∷ hs) is =
            let k = last_free (cost_by c) c.save (return_by c) h hs (filter (flagged false) (others us)) z (subst (AllByRecursion (λ e. e.hold ≡ true)) is (all_held (others us))) (none_held (others us)) off in
            let p = parts false in let l = last_cost v in
            let q = ap (sum_by (spent (cost_by c) c.save (return_by c))) is in
            ap total (append_assoc (filter (flagged true) (others us)) (filter (flagged false) (others us)) (z ∷ []))
            ∙ ap (λ hs. total (hs ++ (filter (flagged false) (others us) ++ z ∷ []))) is ∙ omega (arith, k, p, l, q)

    in_order : c.save ≡ 0 → total (others us ++ z ∷ []) ≡ c.save + (sum_by f us + offer_last (offer v))
    in_order nothing = let h = spread (cost_by c) c.save (return_by c) (others us) z false nothing in let s = sum_others us in let l = last_cost v in omega (arith, h, s, l, nothing)

    least : c.save + (sum_by f us + offer_last (offer v)) ≡ local c true vs
    least = let l = local_offers c true vs in omega (arith, l, less, sum)

    regrouped : (hold : Bool) → IsPermutation vs (named ((filter (flagged (not hold)) (others us) ++ filter (flagged hold) (others us)) ++ z ∷ []))
    regrouped hold =
        IsPermutation-trans vs (named (others us ++ z ∷ [])) _ moved
        (IsPermutation-map (λ e. e.child) (others us ++ z ∷ []) _ (with_last (apart hold (others us))))
      where
        with_last : {ys : List Pick} → IsPermutation (others us) ys → IsPermutation (others us ++ z ∷ []) (ys ++ z ∷ [])
        with_last {ys} p = IsPermutation-trans (others us ++ z ∷ []) (z ∷ others us) (ys ++ z ∷ []) (IsPermutation-to_front (others us) z)
            (IsPermutation-trans (z ∷ others us) (z ∷ ys) (ys ++ z ∷ []) (IsPermutation-cons z (others us) ys p) (IsPermutation-sym _ _ (IsPermutation-to_front ys z)))

    pub chosen_by : (priced hold : Bool) (arr : List Pick) → (priced ≡ true) ⊎ (c.save ≡ 0) → z.hold ≡ hold → arr ≡ (if priced then filter (flagged (not hold)) (others us) ++ filter (flagged hold) (others us) else others us) → IsChosen c true vs (arr ++ z ∷ [])
    chosen_by true hold arr any on is = subst (λ l. IsChosen c true vs (l ++ z ∷ [])) (sym is) (record { orders = regrouped hold; may = any_may _; cost = grouped hold on ∙ least })
    chosen_by false hold arr (inl some) on is = absurd (cc)
    chosen_by false hold arr (inr nothing) on is = subst (λ l. IsChosen c true vs (l ++ z ∷ [])) (sym is) (record { orders = moved; may = any_may _; cost = in_order nothing ∙ least })

remove_mapped : {X : Type 0} (g : ℕ → X) (vs : List ℕ) (i : ℕ) → i < length vs → remove (map g vs) i ≡ map g (remove vs i)
remove_mapped g [] i lt = absurd (omega arith)
remove_mapped g (v ∷ vs) zero lt = refl
remove_mapped g (v ∷ vs) (suc i) lt = ap (λ l. g v ∷ l) (remove_mapped g vs i (omega (arith, lt)))

at_mapped : {X : Type 0} (g : ℕ → X) (vs : List ℕ) (i d : ℕ) (o : X) → i < length vs → get_or (map g vs) i o ≡ g (get_or vs i d)
at_mapped g [] i d o lt = absurd (omega arith)
at_mapped g (v ∷ vs) zero d o lt = refl
at_mapped g (v ∷ vs) (suc i) d o lt = at_mapped g vs i d o (omega (arith, lt))

length_mapped : {X : Type 0} (g : ℕ → X) (vs : List ℕ) → length (map g vs) ≡ length vs
length_mapped g [] = refl
length_mapped g (v ∷ vs) = ap suc (length_mapped g vs)

-- one of the children last, and the others before it
pub chosen_held : (c : Choice) (can : Bool) (vs : List ℕ) (fees : Fees) (os us : List Offer) (place : ℕ) (last : Offer) (priced hold : Bool) (others arr es : List Pick) → os ≡ map (offer_at c can) vs → fees ≡ fees_at c can
    → nat_lt (offers_held fees os) (offers_free fees os) ≡ true → place < length os → offer_saving fees (get_or os place no_offer) ≡ most_saved fees os → last ≡ get_or os place last → us ≡ remove os place
    → hold ≡ nat_lt last.held last.free → others ≡ map (other_pick fees) us → arr ≡ (if priced then filter (flagged (not hold)) others ++ filter (flagged hold) others else others)
    → (priced ≡ true) ⊎ (fees.save ≡ 0) → es ≡ arr ++ pick_of last.child hold ∷ [] → IsChosen c can vs es
chosen_held c false vs fees os us place last priced hold others arr es are is less within saved at rest holds oth arranged any all =
    absurd (let n = never c vs in
    let low : nat_lt (offers_held (fees_at c false) (map (offer_at c false) vs)) (offers_free (fees_at c false) (map (offer_at c false) vs)) ≡ true = subst (λ f. nat_lt (offers_held f (map (offer_at c false) vs)) (offers_free f (map (offer_at c false) vs)) ≡ true) is (subst (λ l. nat_lt (offers_held fees l) (offers_free fees l) ≡ true) are less) in
    clash (offers_held (fees_at c false) (map (offer_at c false) vs)) (offers_free (fees_at c false) (map (offer_at c false) vs)) low n)
  where
    clash : (a b : ℕ) → nat_lt a b ≡ true → b ≤ a → ⊥
    clash a b lt le = grind (arith, nat_tests)
chosen_held c true vs fees os us place last priced hold others arr es are is less within saved at rest holds oth arranged any all =
    let g = offer_at c true in
    let fee = fees_at c true in
    let n = length_mapped g vs in let m = ap length are in
    let lt : place < length vs = omega (arith, within, n, m) in
    let v = get_or vs place 0 in
    let own : last ≡ g v = at ∙ ap (λ l. get_or l place last) are ∙ at_mapped g vs place 0 last lt in
    let rests : us ≡ map g (remove vs place) = rest ∙ ap (λ l. remove l place) are ∙ remove_mapped g vs place lt in
    let picks : others ≡ map (other_pick fee) (map g (remove vs place)) = oth ∙ ap (λ h. map (other_pick h) us) is ∙ ap (map (other_pick fee)) rests in
    let flag : (last_pick (g v)).hold ≡ hold = sym (holds ∙ ap (λ o. nat_lt o.held o.free) own) in
    let saving : offer_saving fee (g v) ≡ most_saved fee (map g vs) =
    sym (ap (offer_saving fee) (at_mapped g vs place 0 no_offer lt)) ∙ ap (λ l. offer_saving fee (get_or l place no_offer)) (sym are) ∙ ap (λ h. offer_saving h (get_or os place no_offer)) (sym is) ∙ saved ∙ ap (λ h. most_saved h os) is ∙ ap (most_saved fee) are in
    let lower : offers_held fee (map g vs) < offers_free fee (map g vs) =
    lt_of (offers_held fee (map g vs)) (offers_free fee (map g vs)) (subst (λ f. nat_lt (offers_held f (map g vs)) (offers_free f (map g vs)) ≡ true) is (subst (λ l. nat_lt (offers_held fees l) (offers_free fees l) ≡ true) are less)) in
    let r = sum_by-remove (λ v. offer_other fee (g v)) vs place 0 lt in
    let s = sum_mapped (offer_other fee) g (λ v. offer_other fee (g v)) (λ v. refl) vs in
    let sum : sum_by (λ v. offer_other fee (g v)) (remove vs place) + offer_last (g v) ≡ sum_by (offer_other fee) (map g vs) - most_saved fee (map g vs) = omega (arith, r, s, saving) in
    let out = IsPermutation-remove vs place v lt (any_default vs place 0 v lt) in
    let back = IsPermutation-sym _ _ (IsPermutation-to_front (named (map (other_pick fee) (map g (remove vs place)))) v) in
    let name = named_others c (remove vs place) in
    let moved : IsPermutation vs (named (map (other_pick fee) (map g (remove vs place)) ++ last_pick (g v) ∷ [])) =
    subst (IsPermutation vs) (sym (named_push (map (other_pick fee) (map g (remove vs place))) (last_pick (g v))))
    (IsPermutation-trans vs (v ∷ remove vs place) _ out (subst (λ l. IsPermutation (v ∷ l) (named (map (other_pick fee) (map g (remove vs place))) ++ v ∷ [])) name back)) in
    let end : pick_of last.child hold ≡ last_pick (g v) = ap (λ o. pick_of o.child hold) own ∙ ap (pick_of v) (sym flag) in
    subst (IsChosen c true vs) (sym (all ∙ ap (λ z. arr ++ z ∷ []) end))
    (chosen_by c vs (remove vs place) v moved lower sum priced hold arr (elim any [ inl on ↦ inl on | inr nothing ↦ inr (sym (ap (λ f. f.save) is) ∙ nothing) ]) flag
    (arranged ∙ ap (λ l. if priced then filter (flagged (not hold)) l ++ filter (flagged hold) l else l) picks))
  where
    lt_of : (a b : ℕ) → nat_lt a b ≡ true → a < b
    lt_of a b is = grind (arith, nat_tests)

pub if_ok : {A E : Type 0} {P Q : A → Type 0} (r : Result A E) → ((x : A) → P x → Q x) → IfOk r P → IfOk r Q
if_ok (Ok x) f h = f x h
if_ok (Err e) f h = h
