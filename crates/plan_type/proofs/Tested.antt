-- What a walk over the entries of a plan has seen.
use Rattle.std.proofs.Common.{◌≡◌, ◌∙◌, ℕ, ◌+◌, ◌<◌, List, [], ◌∷◌, ◌++◌, take, get_or, length, refl, sym, ap, subst}
use Rattle.std.specs.Prelude.{IsPermutation}
use Rattle.std.specs.List.{AllByRecursion}
use Rattle.std.proofs.lemmas.List.{take_more}
use Rattle.std.proofs.lemmas.List.Sorted.{IsPermutation-sym}
use Rattle.plan_type.specs.declared.plan.Plan.{Plan, every-Plan}
use Rattle.plan_type.specs.declared.plan.Entry.{Entry}
use Rattle.plan_type.specs.Plan.{named, entries_of, Orders, LayerOrders, IsPlanOf}
use Rattle.plan_type.proofs.PlanParts.{every_from}

pub seen_more : (P : Entry Plan → Type 0) (es : List (Entry Plan)) (i : ℕ) (e : Entry Plan) → AllByRecursion P (take i es) → i < length es → e ≡ get_or es i e → P e → AllByRecursion P (take (i + 1) es)
seen_more P es i e seen lt at one = subst (AllByRecursion P) (sym (take_more es i e lt)) (push (take i es) (get_or es i e) seen (subst P at one))
  where
    push : (xs : List (Entry Plan)) (y : Entry Plan) → AllByRecursion P xs → P y → AllByRecursion P (xs ++ y ∷ [])
    push [] y h one = (one, tt)
    push (x ∷ xs) y h one = (h.0, push xs y h.1 one)

pub named_more : (es : List (Entry Plan)) (i : ℕ) (e : Entry Plan) (now before : List ℕ) → before ≡ named (take i es) → now ≡ before ++ e.child ∷ [] → i < length es → e ≡ get_or es i e → now ≡ named (take (i + 1) es)
named_more es i e now before so is lt at =
    is ∙ ap (λ l. l ++ e.child ∷ []) so ∙ ap (λ x. named (take i es) ++ x.child ∷ []) at ∙ sym (ap named (take_more es i e lt) ∙ push (take i es) (get_or es i e))
  where
    push : (xs : List (Entry Plan)) (y : Entry Plan) → named (xs ++ y ∷ []) ≡ named xs ++ y.child ∷ []
    push [] y = refl
    push (x ∷ xs) y = ap (λ l. x.child ∷ l) (push xs y)

pub plan_seen : (children : ℕ → List ℕ) (u : ℕ) (p : Plan) (sorted : List ℕ) → AllByRecursion (λ e. IsPlanOf children e.child e.rest) (entries_of p) → IsPermutation (named (entries_of p)) sorted → sorted ≡ children u → IsPlanOf children u p
plan_seen children u p sorted seen moved is = record {
  here = IsPermutation-sym (named (entries_of p)) (children u) (subst (IsPermutation (named (entries_of p))) is moved);
  under = every_from (LayerOrders children) p (here (entries_of p) seen) (under (entries_of p) seen);
}
  where
    here : (es : List (Entry Plan)) → AllByRecursion (λ e. IsPlanOf children e.child e.rest) es → AllByRecursion (λ e. Orders children e.child (entries_of e.rest)) es
    here [] h = tt
    here (e ∷ es) h = (h.0.here, here es h.1)

    under : (es : List (Entry Plan)) → AllByRecursion (λ e. IsPlanOf children e.child e.rest) es → AllByRecursion (λ e. every-Plan (LayerOrders children) e.rest) es
    under [] h = tt
    under (e ∷ es) h = (h.0.under, under es h.1)
