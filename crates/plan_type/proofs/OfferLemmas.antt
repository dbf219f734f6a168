-- Sums and savings over offers, and that the local value over them is the one over the children.
use Rattle.std.proofs.Common.{◌≡◌, ◌∙◌, ℕ, zero, suc, ◌+◌, ◌-◌, ◌*◌, ◌<◌, ◌≤◌, List, [], ◌∷◌, ◌++◌, map, length, max, take, get_or, refl, sym, ap, arith, Bool, true, false, sum_by}
use Rattle.std.specs.List.{AllByRecursion}
use Rattle.std.proofs.lemmas.List.{take_more}
use Rattle.std.proofs.lemmas.List.Sums.{sum_by-cons, sum_by_more_le_part}
use Rattle.plan_type.specs.declared.offer.Offer.{Offer}
use Rattle.plan_type.specs.declared.offer.Fees.{Fees}
use Rattle.plan_type.specs.Offers.{no_offer, offer_at, fees_at, offer_free, offer_other, offer_saving, most_saved, offers_free, offers_local}
use Rattle.plan_type.specs.Choices.{Choice, local, last, other, least_by, all_free}

pub other_room : (fees : Fees) (os : List Offer) (i : ℕ) (d : Offer) → i < length os
    → sum_by (offer_other fees) (take i os) + offer_other fees (get_or os i d) ≤ sum_by (offer_free fees) os
other_room fees os i d lt =
    let a = sum_by_more_le_part (offer_other fees) (offer_free fees) os i d lt (λ o. omega arith) in omega (arith, a)

pub free_room : (fees : Fees) (os : List Offer) (i : ℕ) (d : Offer) → i < length os
    → sum_by (offer_free fees) (take i os) + offer_free fees (get_or os i d) ≤ sum_by (offer_free fees) os
free_room fees os i d lt =
    let a = sum_by_more_le_part (offer_free fees) (offer_free fees) os i d lt (λ o. omega arith) in omega (arith, a)

pub any_default : {X : Type 0} (xs : List X) (i : ℕ) (d e : X) → i < length xs → get_or xs i d ≡ get_or xs i e
any_default [] i d e lt = absurd (omega arith)
any_default (x ∷ xs) zero d e lt = refl
any_default (x ∷ xs) (suc i) d e lt = any_default xs i d e (omega arith)

-- one offer is a part of them all
pub part : (f : Offer → ℕ) (os : List Offer) (i : ℕ) (d : Offer) → i < length os → f (get_or os i d) ≤ sum_by f os
part f [] i d lt = absurd (omega arith)
part f (o ∷ os) zero d lt = let a = sum_by-cons f o os in omega (arith, a)
part f (o ∷ os) (suc i) d lt = let a = sum_by-cons f o os in let h = part f os i d (omega arith) in omega (arith, a, h)

saved_push : (fees : Fees) (os : List Offer) (o : Offer) → most_saved fees (os ++ o ∷ []) ≡ max (most_saved fees os) (offer_saving fees o)
saved_push fees [] o = omega arith
saved_push fees (x ∷ os) o = let i = saved_push fees os o in omega (arith, i)

pub saved_more : (fees : Fees) (os : List Offer) (i : ℕ) (d : Offer) → i < length os → most_saved fees (take (i + 1) os) ≡ max (most_saved fees (take i os)) (offer_saving fees (get_or os i d))
saved_more fees os i d lt = ap (most_saved fees) (take_more os i d lt) ∙ saved_push fees (take i os) (get_or os i d)

-- the place that the walk has found so far
pub record Found (fees : Fees) (os : List Offer) (i place most : ℕ) : Type 0 where
  pub is : most ≡ most_saved fees (take i os)
  pub first : i ≡ 0 → place ≡ 0
  pub at : 0 < i → (place < i) × (offer_saving fees (get_or os place no_offer) ≡ most)

pub found_none : (fees : Fees) (os : List Offer) → Found fees os 0 0 0
found_none fees os = record { is = refl; first = λ _. refl; at = λ lt. absurd (omega arith) }

pub found_here : (fees : Fees) (os : List Offer) (i place most saving : ℕ) → Found fees os i place most → i < length os → saving ≡ offer_saving fees (get_or os i no_offer) → most ≤ saving → Found fees os (i + 1) i saving
found_here fees os i place most saving found lt is le = record {
  is = let s = saved_more fees os i no_offer lt in let m = found.is in omega (arith, s, m, is, le);
  first = λ z. absurd (omega arith);
  at = λ _. (omega arith, sym is);
}

pub found_before : (fees : Fees) (os : List Offer) (i place most saving : ℕ) → Found fees os i place most → i < length os → saving ≡ offer_saving fees (get_or os i no_offer) → saving < most → Found fees os (i + 1) place most
found_before fees os i place most saving found lt is less = record {
  is = let s = saved_more fees os i no_offer lt in let m = found.is in omega (arith, s, m, is, less);
  first = λ z. absurd (omega arith);
  at = λ _. (let a = found.at (some i (ap (λ n. most_saved fees (take n os))) found.is less) in (let b = a.0 in omega (arith, b), a.1));
}
  where
    some : (i : ℕ) → ((e : i ≡ 0) → most_saved fees (take i os) ≡ most_saved fees (take 0 os)) → most ≡ most_saved fees (take i os) → saving < most → 0 < i
    some zero same m less = absurd (omega (arith, m, less))
    some (suc i) same m less = omega arith

-- what the one that stands last saves is in the sum, which is in that of returns after all
pub saving_in : (fees : Fees) (os : List Offer) → (most_saved fees os ≤ sum_by (offer_other fees) os) × (sum_by (offer_other fees) os ≤ sum_by (offer_free fees) os)
saving_in fees [] = (omega arith, omega arith)
saving_in fees (o ∷ os) =
    let a = sum_by-cons (offer_other fees) o os in let b = sum_by-cons (offer_free fees) o os in let (i, j) = saving_in fees os in (omega (arith, a, i), omega (arith, a, b, j))

-- ---- the value over offers is the value over children

pub sum_mapped : {X : Type 0} (f : X → ℕ) (g : ℕ → X) (h : ℕ → ℕ) → ((v : ℕ) → f (g v) ≡ h v) → (vs : List ℕ) → sum_by f (map g vs) ≡ sum_by h vs
sum_mapped f g h same [] = refl
sum_mapped f g h same (v ∷ vs) =
    let a = sum_by-cons f (g v) (map g vs) in let b = sum_by-cons h v vs in let i = sum_mapped f g h same vs in let e = same v in omega (arith, a, b, i, e)

times : (n r : ℕ) → suc n * r ≡ r + n * r
times n r = omega arith

-- a number that is added to each
pub each_more : (f : ℕ → ℕ) (more : ℕ) (vs : List ℕ) → sum_by (λ v. f v + more) vs ≡ sum_by f vs + length vs * more
each_more f more [] = omega arith
each_more f more (v ∷ vs) =
    let a = sum_by-cons (λ v. f v + more) v vs in let b = sum_by-cons f v vs in let i = each_more f more vs in let t = times (length vs) more in omega (arith, a, b, i, t)

module _ (c : Choice) where
  -- the least with one of these last, and the most that one of them saves
  least_saved : (total : ℕ) (v : ℕ) (vs : List ℕ) → AllByRecursion (λ z. other c z ≤ total) (v ∷ vs)
      → least_by (λ z. last c z + (total - other c z)) (v ∷ vs) ≡ total - most_saved (fees_at c true) (map (offer_at c true) (v ∷ vs))
  least_saved total v [] (h, _) = omega (arith, h)
  least_saved total v (w ∷ vs) (h, more) = let i = least_saved total w vs more in omega (arith, i, h)

  parts : (vs : List ℕ) → AllByRecursion (λ z. other c z ≤ sum_by (other c) vs) vs
  parts [] = tt
  parts (v ∷ vs) = let a = sum_by-cons (other c) v vs in (omega (arith, a), weaker vs (sum_by (other c) vs) (sum_by (other c) (v ∷ vs)) (omega (arith, a)) (parts vs))
    where
      weaker : (xs : List ℕ) (m n : ℕ) → m ≤ n → AllByRecursion (λ z. other c z ≤ m) xs → AllByRecursion (λ z. other c z ≤ n) xs
      weaker [] m n le h = tt
      weaker (x ∷ xs) m n le (h, more) = (omega arith, weaker xs m n le more)

  pub free_all : (can : Bool) (vs : List ℕ) → offers_free (fees_at c can) (map (offer_at c can) vs) ≡ all_free c vs
  free_all can [] = omega arith
  free_all can (v ∷ vs) =
      let s = sum_mapped (offer_free (fees_at c can)) (offer_at c can) (λ v. c.free v + c.return) (λ v. refl) (v ∷ vs) in
      let e = each_more c.free c.return (v ∷ vs) in
      let t = times (length vs) c.return in
      let n : suc (length vs) - 1 ≡ length vs = omega arith in let m = ap (λ k. k * c.return) n in omega (arith, s, e, t, m)

  -- where the node may not be held, holding is offered at the price of not holding
  frees : (v : ℕ) (vs : List ℕ) → (sum_by (offer_other (fees_at c false)) (map (offer_at c false) (v ∷ vs)) ≡ sum_by (offer_free (fees_at c false)) (map (offer_at c false) (v ∷ vs))) × (most_saved (fees_at c false) (map (offer_at c false) (v ∷ vs)) ≡ c.return)
  frees v [] =
      let a = sum_by-cons (offer_other (fees_at c false)) (offer_at c false v) [] in let b = sum_by-cons (offer_free (fees_at c false)) (offer_at c false v) [] in (omega (arith, a, b), omega arith)
  frees v (w ∷ vs) =
      let (i, j) = frees w vs in
      let a = sum_by-cons (offer_other (fees_at c false)) (offer_at c false v) (map (offer_at c false) (w ∷ vs)) in
      let b = sum_by-cons (offer_free (fees_at c false)) (offer_at c false v) (map (offer_at c false) (w ∷ vs)) in
      (omega (arith, i, a, b), omega (arith, j))

  pub local_offers : (can : Bool) (vs : List ℕ) → offers_local (fees_at c can) (map (offer_at c can) vs) ≡ local c can vs
  local_offers true [] = omega arith
  local_offers false [] = omega arith
  local_offers true (v ∷ vs) =
      let f = free_all true (v ∷ vs) in
      let s = sum_mapped (offer_other (fees_at c true)) (offer_at c true) (other c) (λ v. refl) (v ∷ vs) in
      let l = least_saved (sum_by (other c) (v ∷ vs)) v vs (parts (v ∷ vs)) in
      omega (arith, f, s, l)
  local_offers false (v ∷ vs) =
      let f = free_all false (v ∷ vs) in
      let (i, j) = frees v vs in omega (arith, f, i, j)
