-- What stays of objects: nothing done, one thing after another, and the single changes.
use Rattle.std.proofs.Common.{ℕ, zero, suc, List, [], ◌∷◌, ◌++◌, Bool, true, false, IsTrue, refl, sym, arith, subst, ◌∙◌}
use Rattle.std.specs.Prelude.{◌&&◌, Option, Some, None, slice_get, slice_set}
use Rattle.std.specs.List.{list_all}
use Rattle.star_value.specs.declared.key.Key.{Key}
use Rattle.star_value.specs.declared.value.Value.{Value}
use Rattle.star_meaning.specs.State.{Object, AList, ADict, AFunction}
use Rattle.star_meaning.specs.Growing.{IsKept, IsMade, Grown}
use Rattle.star_meaning.specs.Renaming.{has_good}

module _ {C : Type 0} (here : C) where
  kept_same : (o : Object C) → IsKept o o
  kept_same (AList items) = tt
  kept_same (ADict pairs) = tt
  kept_same (AFunction cell number defaults) = refl

  pub grown_same : (os : List (Object C)) → Grown here os os
  grown_same [] = tt
  grown_same (o ∷ os) = (kept_same o, grown_same os)

  kept_then : (a b c : Object C) → IsKept a b → IsKept b c → IsKept a c
  kept_then a b (AList items) h k = tt
  kept_then a b (ADict pairs) h k = tt
  kept_then (AFunction x n ds) (AFunction y m es) (AFunction z l fs) h k = k ∙ h
  kept_then (AList xs) (AFunction y m es) (AFunction z l fs) h k = absurd h
  kept_then (ADict xs) (AFunction y m es) (AFunction z l fs) h k = absurd h
  kept_then a (AList xs) (AFunction z l fs) h k = absurd k
  kept_then a (ADict xs) (AFunction z l fs) h k = absurd k

  made_then : (b c : Object C) → IsMade here b → IsKept b c → IsMade here c
  made_then b (AList items) h k = tt
  made_then b (ADict pairs) h k = tt
  made_then (AFunction y m es) (AFunction z l fs) h k = k ∙ h
  made_then (AList xs) (AFunction z l fs) h k = absurd k
  made_then (ADict xs) (AFunction z l fs) h k = absurd k

  pub grown_then : (xs bs cs : List (Object C)) → Grown here xs bs → Grown here bs cs → Grown here xs cs
  grown_then [] [] cs h k = k
  grown_then [] (b ∷ bs) (c ∷ cs) h k = (made_then b c h.0 k.0, grown_then [] bs cs h.1 k.1)
  grown_then (a ∷ xs) (b ∷ bs) (c ∷ cs) h k = (kept_then a b c h.0 k.0, grown_then xs bs cs h.1 k.1)
  grown_then [] (b ∷ bs) [] h k = absurd k
  grown_then (a ∷ xs) (b ∷ bs) [] h k = absurd k
  grown_then (a ∷ xs) [] cs h k = absurd h

  pub grown_list : (os : List (Object C)) (id : ℕ) (items : List Value) → Grown here os (slice_set os id (AList items))
  grown_list [] id items = tt
  grown_list (o ∷ os) zero items = (tt, grown_same os)
  grown_list (o ∷ os) (suc id) items = (kept_same o, grown_list os id items)

  pub grown_dict : (os : List (Object C)) (id : ℕ) (pairs : List (Key × Value)) → Grown here os (slice_set os id (ADict pairs))
  grown_dict [] id pairs = tt
  grown_dict (o ∷ os) zero pairs = (tt, grown_same os)
  grown_dict (o ∷ os) (suc id) pairs = (kept_same o, grown_dict os id pairs)

  pub grown_new : (os : List (Object C)) (o : Object C) → IsMade here o → Grown here os (os ++ o ∷ [])
  grown_new [] o h = (h, tt)
  grown_new (x ∷ os) o h = (kept_same x, grown_new os o h)

and_parts : (b c : Bool) → IsTrue (b && c) → IsTrue b × IsTrue c
and_parts true true h = (refl, refl)
and_parts true false h = (refl, h)
and_parts false c h = (h, absurd (grind (arith, h)))

and_both : (b c : Bool) → IsTrue b → IsTrue c → IsTrue (b && c)
and_both true c h k = k
and_both false c h k = h

-- functions of some cells stay functions of these cells
module _ {C : Type 0} (here : C) (good : C → Bool) (here_good : IsTrue (good here)) where
  kept_good : (b o : Object C) → IsKept b o → IsTrue (has_good good b) → IsTrue (has_good good o)
  kept_good b (AList items) h k = refl
  kept_good b (ADict pairs) h k = refl
  kept_good (AFunction c n ds) (AFunction cell number defaults) h k = subst (λ x. IsTrue (good x)) (sym h) k
  kept_good (AList xs) (AFunction cell number defaults) h k = absurd h
  kept_good (ADict xs) (AFunction cell number defaults) h k = absurd h

  made_good : (o : Object C) → IsMade here o → IsTrue (has_good good o)
  made_good (AList items) h = refl
  made_good (ADict pairs) h = refl
  made_good (AFunction cell number defaults) h = subst (λ x. IsTrue (good x)) (sym h) here_good

  pub good_grown : (bs os : List (Object C)) → Grown here bs os → IsTrue (list_all (has_good good) bs) → IsTrue (list_all (has_good good) os)
  good_grown [] [] h k = k
  good_grown [] (o ∷ os) h k = and_both (has_good good o) (list_all (has_good good) os) (made_good o h.0) (good_grown [] os h.1 k)
  good_grown (b ∷ bs) (o ∷ os) h k =
      let parts = and_parts (has_good good b) (list_all (has_good good) bs) k in and_both (has_good good o) (list_all (has_good good) os) (kept_good b o h.0 parts.0) (good_grown bs os h.1 parts.1)
  good_grown (b ∷ bs) [] h k = absurd h

-- the object of a number, if it is a function, is one of some cell
abbrev pub good_if : {C : Type 0} → (C → Bool) → Option (Object C) → Bool
good_if good None = true
good_if good (Some o) = has_good good o

pub good_found : {C : Type 0} (good : C → Bool) (os : List (Object C)) (id : ℕ) → IsTrue (list_all (has_good good) os) → IsTrue (good_if good (slice_get os id))
good_found good [] id h = refl
good_found good (o ∷ os) zero h = (and_parts (has_good good o) (list_all (has_good good) os) h).0
good_found good (o ∷ os) (suc id) h = good_found good os id (and_parts (has_good good o) (list_all (has_good good) os) h).1
