-- Over all orders and flags of a node's children, a list of entries costs at least the local bound.
use Rattle.std.proofs.Common.{◌≡◌, ◌∙◌, ℕ, suc, ◌+◌, ◌-◌, ◌*◌, ◌≤◌, List, [], ◌∷◌, length, min, Bool, true, false, not, ◌&&◌, refl, sym, ap, arith, inl, inr, ◌⊎◌}
use Rattle.std.specs.Prelude.{if◌then◌else◌, IsPermutation}
use Rattle.std.specs.List.{AllByRecursion, sum_by}
use Rattle.std.proofs.lemmas.List.Sums.{sum_by-cons}
use Rattle.std.proofs.lemmas.List.Sorted.{sum_by-IsPermutation, length_permutation, All-permutation}
use Rattle.std.proofs.lemmas.List.Elements.{All-from_recursion, recursion_from_All}
use Rattle.plan_type.specs.declared.plan.Entry.{Entry}
use Rattle.plan_type.specs.Plan.{named, HoldsNone}
use Rattle.plan_type.specs.Prices.{listed_cost}
use Rattle.plan_type.specs.Choices.{Choice, last, other, with_last, least_by, all_free, some_held, local}

times : (n r : ℕ) → (suc (suc n) - 1) * r ≡ r + (suc n - 1) * r
times n r = let a : suc (suc n) - 1 ≡ suc n = omega arith in let b : suc n - 1 ≡ n = omega arith in rw (a, b) (omega arith)

module _ (c : Choice) where
  -- one entry, by its flag
  step_free : (hold held : Bool) (child x r s l : ℕ) → hold ≡ false → (if hold then c.held child else c.free child) ≤ x
      → (c.free child ≤ x + (if hold && not held then s else 0) + 0) × (c.free child + r ≤ x + (if hold && not held then s else 0) + (if hold then l else r))
  step_free false held child x r s l off h = (omega arith, omega arith)
  step_free true held child x r s l off h = absurd (cc)

  step_last : (hold held : Bool) (child x s : ℕ) → (if hold then c.held child else c.free child) ≤ x
      → last c child + (if (if hold then true else false) && not held then s else 0) ≤ x + (if hold && not held then s else 0) + 0 + 0
  step_last false held child x s h = omega arith
  step_last true false child x s h = omega arith
  step_last true true child x s h = omega arith

  step_other : (hold held any : Bool) (child x s rest all : ℕ) → (if hold then c.held child else c.free child) ≤ x
      → rest + (if any && not hold then s else 0) ≤ all
      → other c child + rest + (if (if hold then true else any) && not held then s else 0) ≤ x + (if hold && not held then s else 0) + (if hold then c.load else c.return) + all
  step_other false held false child x s rest all h g = omega arith
  step_other false false true child x s rest all h g = omega arith
  step_other false true true child x s rest all h g = omega arith
  step_other true false any child x s rest all h g = let e : (if any && false then s else 0) ≡ 0 = off any s in omega arith
    where
      off : (any : Bool) (s : ℕ) → (if any && false then s else 0) ≡ 0
      off true s = refl
      off false s = refl
  step_other true true any child x s rest all h g = omega arith

  module _ {X : Type 0} (each : Entry X → ℕ) where
    -- what an entry costs is at least what its child costs with its flag
    abbrev pub Above : Entry X → Type 0
    Above e = (if e.hold then c.held e.child else c.free e.child) ≤ each e

    abbrev pub total : Bool → List (Entry X) → ℕ
    total = listed_cost each c.save (λ hold. if hold then c.load else c.return)

    -- ---- where none holds

    free_lower : (es : List (Entry X)) (held : Bool) → HoldsNone es → AllByRecursion Above es
        → sum_by c.free (named es) + (length es - 1) * c.return ≤ total held es
    free_lower [] held none above = omega arith
    free_lower (e ∷ []) held (off, none) (h, above) = let s = step_free e.hold held e.child (each e) 0 c.save c.load off h in omega (arith, s.0)
    free_lower (e ∷ f ∷ es) held (off, none) (h, above) =
        let s = step_free e.hold held e.child (each e) c.return c.save c.load off h in
        let i = free_lower (f ∷ es) e.hold none above in
        let a = sum_by-cons c.free e.child (named (f ∷ es)) in
        let m = times (length es) c.return in
        omega (arith, s.1, i, a, m)

    -- ---- where one holds

    abbrev any_holds : List (Entry X) → Bool
    any_holds [] = false
    any_holds (e ∷ es) = if e.hold then true else any_holds es

    -- each but the last as one that does not stand last
    abbrev chosen : List (Entry X) → ℕ
    chosen [] = 0
    chosen (e ∷ []) = last c e.child
    chosen (e ∷ f ∷ es) = other c e.child + chosen (f ∷ es)

    held_lower : (es : List (Entry X)) (held : Bool) → AllByRecursion Above es
        → chosen es + (if any_holds es && not held then c.save else 0) ≤ total held es
    held_lower [] held above = omega arith
    held_lower (e ∷ []) held (h, above) = step_last e.hold held e.child (each e) c.save h
    held_lower (e ∷ f ∷ es) held (h, above) =
        step_other e.hold held (any_holds (f ∷ es)) e.child (each e) c.save (chosen (f ∷ es)) (total e.hold (f ∷ es)) h (held_lower (f ∷ es) e.hold above)

    none_or_any : (es : List (Entry X)) → HoldsNone es ⊎ (any_holds es ≡ true)
    none_or_any [] = inl tt
    none_or_any (e ∷ es) = by e.hold refl (none_or_any es)
      where
        by : (b : Bool) → e.hold ≡ b → HoldsNone es ⊎ (any_holds es ≡ true) → HoldsNone (e ∷ es) ⊎ (any_holds (e ∷ es) ≡ true)
        by true is _ = inr (ap (λ b. if b then true else any_holds es) is)
        by false is (inl none) = inl (is, none)
        by false is (inr some) = inr (ap (λ b. if b then true else any_holds es) is ∙ some)

    -- the entry that stands last
    record Ending (P : ℕ → Type 0) (es : List (Entry X)) : Type 0 where
      z : ℕ
      holds : P z
      enough : other c z ≤ sum_by (other c) (named es)
      is : last c z + sum_by (other c) (named es) ≡ chosen es + other c z

    ending : (P : ℕ → Type 0) (e : Entry X) (es : List (Entry X)) → AllByRecursion P (named (e ∷ es)) → Ending P (e ∷ es)
    ending P e [] (h, _) = record { z = e.child; holds = h; enough = omega arith; is = omega arith }
    ending P e (f ∷ es) (_, h) =
        let i = ending P f es h in
        let a = sum_by-cons (other c) e.child (named (f ∷ es)) in
        record { z = i.z; holds = i.holds; enough = omega (arith, i.enough, a); is = omega (arith, i.is, a) }

  least_below : (f : ℕ → ℕ) (vs : List ℕ) → AllByRecursion (λ z. least_by f vs ≤ f z) vs
  least_below f [] = tt
  least_below f (v ∷ []) = (omega arith, tt)
  least_below f (v ∷ w ∷ vs) = (omega arith, lower (w ∷ vs) (least_below f (w ∷ vs)))
    where
      lower : (xs : List ℕ) → AllByRecursion (λ z. least_by f (w ∷ vs) ≤ f z) xs → AllByRecursion (λ z. min (f v) (least_by f (w ∷ vs)) ≤ f z) xs
      lower [] h = tt
      lower (x ∷ xs) (h, g) = (omega arith, lower xs g)

  module _ {X : Type 0} (each : Entry X → ℕ) where
    free_first : (vs : List ℕ) (es : List (Entry X)) → IsPermutation vs (named es) → HoldsNone es → AllByRecursion (Above each) es → all_free c vs ≤ total each false es
    free_first vs es orders none above =
        let a = sum_by-IsPermutation c.free vs (named es) orders in
        let b = length_permutation vs (named es) orders in
        let l : length es ≡ length vs = sym (named_length es) ∙ b in
        let g = free_lower each es false none above in
        let m = ap (λ n. (n - 1) * c.return) l in
        omega (arith, a, g, m)
      where
        named_length : (es : List (Entry X)) → length (named es) ≡ length es
        named_length [] = refl
        named_length (e ∷ es) = ap suc (named_length es)

    some_first : (vs : List ℕ) (es : List (Entry X)) → IsPermutation vs (named es) → any_holds each es ≡ true → AllByRecursion (Above each) es → some_held c vs ≤ total each false es
    some_first vs [] orders some above = absurd (cc)
    some_first vs (e ∷ es) orders some above =
        let all = recursion_from_All (λ z. least_by (with_last c vs) vs ≤ with_last c vs z) (named (e ∷ es)) (All-permutation (λ z. least_by (with_last c vs) vs ≤ with_last c vs z) vs (named (e ∷ es)) orders (All-from_recursion (λ z. least_by (with_last c vs) vs ≤ with_last c vs z) vs (least_below (with_last c vs) vs))) in
        let i = ending each (λ z. least_by (with_last c vs) vs ≤ with_last c vs z) e es all in
        let s = sum_by-IsPermutation (other c) vs (named (e ∷ es)) orders in
        let g = held_lower each (e ∷ es) false above in
        let on : (if any_holds each (e ∷ es) && true then c.save else 0) ≡ c.save = ap (λ b. if b && true then c.save else 0) some in
        omega (arith, s, i.holds, i.enough, i.is, g, on)

    pub local_lower : (can : Bool) (vs : List ℕ) (es : List (Entry X)) → IsPermutation vs (named es) → AllByRecursion (Above each) es
        → HoldsNone es ⊎ (can ≡ true) → local c can vs ≤ total each false es
    local_lower true vs es orders above may = elim (none_or_any each es) [
      | inl none ↦ let h = free_first vs es orders none above in omega (arith, h)
      | inr some ↦ let h = some_first vs es orders some above in omega (arith, h)
    ]
    local_lower false vs es orders above (inl none) = free_first vs es orders none above
    local_lower false vs es orders above (inr can) = absurd (cc)
