-- A plan that no line brings past the budget fits; and the text that its lines spell is its own.
use Rattle.std.proofs.Common.{◌≡◌, ◌∙◌, ℕ, ◌+◌, ◌-◌, ◌<◌, ◌≤◌, List, [], ◌∷◌, ◌++◌, Bool, true, false, ◌&&◌, Some, None, refl, sym, ap, subst, arith, append_assoc}
use Rattle.std.specs.Prelude.{◌==◌, if◌then◌else◌, nat_lt}
use Rattle.std.specs.List.{AllByRecursion, flat_map}
use Rattle.std.proofs.lemmas.Bool.Decides.{nat_tests}
use Rattle.plan_type.specs.declared.plan.Plan.{Plan}
use Rattle.plan_type.specs.declared.plan.Entry.{Entry}
use Rattle.plan_type.specs.Plan.{entries_of, greatest, peak_at}
use Rattle.plan_type.specs.PlanText.{line_of, lines_at, text_of}
use Rattle.plan_type.proofs.PlanParts.{induct, rest_peak, peak_parts}
use Rattle.plan_type.proofs.Lines.{rest_lines, lines_parts}
use Rattle.plan_checker.specs.declared.line.Line.{Line}
use Rattle.plan_checker.specs.Lines.{spelled, head}
use Rattle.plan_checker.specs.PlanLines.{lines_of}
use Rattle.plan_checker.specs.Refusals.{last_at, parent_at, held_at, first_over}
use Rattle.plan_checker.proofs.Tables.{onto}
use Rattle.plan_checker.proofs.Built.{rest_listed, listed_parts}
use Rattle.plan_checker.proofs.Owners.{Deep, deep_listed, last_past, same_node}

module _ (blocks : ℕ → ℕ) (most : ℕ) where
  abbrev Unpassed : List Line → List Line → Type 0
  Unpassed before [] = Unit {0}
  Unpassed before (line ∷ lines) = (line.hold ≡ true → held_at blocks line.depth (line ∷ before) ≤ most) × Unpassed (line ∷ before) lines

  unpassed : (before lines : List Line) → first_over blocks most before lines ≡ None → Unpassed before lines
  unpassed before [] none = tt
  unpassed before (l ∷ ls) none = by (l.hold && nat_lt most (held_at blocks l.depth (l ∷ before))) refl none (unpassed (l ∷ before) ls)
    where
      low : (h : Bool) (s : ℕ) → (h && nat_lt most s) ≡ false → h ≡ true → s ≤ most
      low true s good h = grind (arith, nat_tests)
      low false s good h = absurd (cc)

      by : (b : Bool) → (l.hold && nat_lt most (held_at blocks l.depth (l ∷ before))) ≡ b
          → (if b then Some (parent_at l before, held_at blocks l.depth (l ∷ before)) else first_over blocks most (l ∷ before) ls) ≡ None → (first_over blocks most (l ∷ before) ls ≡ None → Unpassed (l ∷ before) ls) → Unpassed before (l ∷ ls)
      by true is h more = absurd (cc)
      by false is h more = (low l.hold (held_at blocks l.depth (l ∷ before)) is, more h)

  unpassed_front : (before xs ys : List Line) → Unpassed before (xs ++ ys) → Unpassed before xs
  unpassed_front before [] ys u = tt
  unpassed_front before (x ∷ xs) ys u = (u.0, unpassed_front (x ∷ before) xs ys u.1)

  unpassed_after : (before xs ys : List Line) → Unpassed before (xs ++ ys) → Unpassed (onto xs before) ys
  unpassed_after before [] ys u = u
  unpassed_after before (x ∷ xs) ys u = unpassed_after (x ∷ before) xs ys u.1

  held_past : (at depth : ℕ) (xs before : List Line) → Deep depth xs → at < depth → held_at blocks at (onto xs before) ≡ held_at blocks at before
  held_past at depth [] before deep lt = refl
  held_past at depth (x ∷ xs) before deep lt =
      held_past at depth xs (x ∷ before) deep.1 lt
      ∙ ap (λ b. if b then (if x.hold then blocks (parent_at x before) else 0) + held_at blocks (at - 1) before else held_at blocks at before) (let h = deep.0 in other x.depth at (omega (arith, h)))
    where
      other : (d k : ℕ) → k < d → (d == k) ≡ false
      other d k lt = grind (arith, nat_tests)

  Fitting : Plan → Type 0
  Fitting p = (u depth used : ℕ) (before : List Line) → 1 ≤ depth → last_at (depth - 1) before ≡ u → held_at blocks (depth - 1) before ≡ used → used ≤ most → Unpassed before (lines_of p depth) → peak_at blocks p u used ≤ most

  -- what is held under an entry
  held_here : (u depth used : ℕ) (before : List Line) (e : Entry Plan) → last_at (depth - 1) before ≡ u → held_at blocks (depth - 1) before ≡ used
      → held_at blocks depth (record { depth = depth; node = e.child; hold = e.hold } ∷ before) ≡ (if e.hold then used + blocks u else used)
  held_here u depth used before e last held =
      ap (λ b. if b then (if e.hold then blocks (last_at (depth - 1) before) else 0) + held_at blocks (depth - 1) before else held_at blocks depth before) (same_node depth) ∙ by e.hold
    where
      by : (hold : Bool) → (if hold then blocks (last_at (depth - 1) before) else 0) + held_at blocks (depth - 1) before ≡ (if hold then used + blocks u else used)
      by true = let a = ap blocks last in omega (arith, a, held)
      by false = omega (arith, held)

  each_fits : (u depth used : ℕ) (es : List (Entry Plan)) → AllByRecursion (λ e. Fitting e.rest) es → (before : List Line) → 1 ≤ depth → last_at (depth - 1) before ≡ u → held_at blocks (depth - 1) before ≡ used → used ≤ most
      → Unpassed before (flat_map (rest_listed depth) es) → greatest (rest_peak blocks u used) used es ≤ most
  unfolding Fitting rest_listed rest_peak
  each_fits u depth used [] h before some last held le free = le
  each_fits u depth used (e ∷ es) h before some last held le free =
      let line : Line = record { depth = depth; node = e.child; hold = e.hold } in
      let more = flat_map (rest_listed depth) es in
      let under = held_here u depth used before e last held in
      let here : held_at blocks (depth + 1 - 1) (line ∷ before) ≡ (if e.hold then used + blocks u else used) = ap (λ n. held_at blocks n (line ∷ before)) (let s : depth + 1 - 1 ≡ depth = omega arith in s) ∙ under in
      let first = h.0 e.child (depth + 1) (if e.hold then used + blocks u else used) (line ∷ before) (omega arith) (ap (λ n. last_at n (line ∷ before)) (let s : depth + 1 - 1 ≡ depth = omega arith in s) ∙ ap (λ b. if b then e.child else last_at depth before) (same_node depth))
      here (low e.hold (λ is. subst (λ n. n ≤ most) under (free.0 is)) le) (unpassed_front (line ∷ before) (lines_of e.rest (depth + 1)) more free.1) in
      let later = each_fits u depth used es h.1 (onto (rest_listed depth e) before) some (last_past (depth - 1) depth (rest_listed depth e) before (deep_listed depth e) (omega arith) ∙ last)
      (held_past (depth - 1) depth (rest_listed depth e) before (deep_listed depth e) (omega arith) ∙ held) le (unpassed_after before (rest_listed depth e) more free) in
      omega (arith, first, later)
    where
      low : (hold : Bool) → (hold ≡ true → (if hold then used + blocks u else used) ≤ most) → used ≤ most → (if hold then used + blocks u else used) ≤ most
      low true free le = free refl
      low false free le = le

  fits_by : (p : Plan) → AllByRecursion (λ e. Fitting e.rest) (entries_of p) → Fitting p
  unfolding Fitting
  fits_by p h u depth used before some last held le free =
      rw (peak_parts blocks p u used) (each_fits u depth used (entries_of p) h before some last held le (subst (Unpassed before) (listed_parts p depth) free))

  pub fits_top : (p : Plan) → first_over blocks most [] (lines_of p 1) ≡ None → peak_at blocks p 0 0 ≤ most
  unfolding Fitting
  fits_top p none = induct Fitting fits_by p 0 1 0 [] (omega arith) refl refl (omega arith) (unpassed [] (lines_of p 1) none)

-- ---- the text

Spells : Plan → Type 0
Spells p = (depth : ℕ) → lines_at p depth ≡ flat_map spelled (lines_of p depth)

spelled_append : (xs ys : List Line) → flat_map spelled (xs ++ ys) ≡ flat_map spelled xs ++ flat_map spelled ys
spelled_append [] ys = refl
spelled_append (x ∷ xs) ys = ap (λ l. spelled x ++ l) (spelled_append xs ys) ∙ sym (append_assoc (spelled x) (flat_map spelled xs) (flat_map spelled ys))

each_spells : (depth : ℕ) (es : List (Entry Plan)) → AllByRecursion (λ e. Spells e.rest) es → flat_map (rest_lines depth) es ≡ flat_map spelled (flat_map (rest_listed depth) es)
unfolding Spells rest_lines rest_listed
each_spells depth [] h = refl
each_spells depth (e ∷ es) h =
    ap (λ l. (line_of depth e.child e.hold ++ l) ++ flat_map (rest_lines depth) es) (h.0 (depth + 1)) ∙ ap (λ l. flat_map spelled (rest_listed depth e) ++ l) (each_spells depth es h.1)
    ∙ sym (spelled_append (rest_listed depth e) (flat_map (rest_listed depth) es))

spells_by : (p : Plan) → AllByRecursion (λ e. Spells e.rest) (entries_of p) → Spells p
unfolding Spells
spells_by p h depth = lines_parts p depth ∙ each_spells depth (entries_of p) h ∙ ap (flat_map spelled) (sym (listed_parts p depth))

pub text_top : (p : Plan) → text_of p ≡ head ++ flat_map spelled (lines_of p 1)
unfolding text_of head Spells
text_top p = ap (λ l. head ++ l) (induct Spells spells_by p 1)
