-- Lists of entries with one last: where those that hold stand together one save is paid, and where a save costs nothing the order does not matter.
use Rattle.std.proofs.Common.{◌≡◌, ℕ, ◌+◌, List, [], ◌∷◌, ◌++◌, Bool, true, false, not, ◌&&◌, refl, ap, arith}
use Rattle.std.specs.Prelude.{if◌then◌else◌, sum_by}
use Rattle.std.specs.List.{AllByRecursion}
use Rattle.std.proofs.lemmas.List.Sums.{sum_by-cons}
use Rattle.plan_type.specs.declared.plan.Entry.{Entry}
use Rattle.plan_type.specs.Plan.{is_none, HoldsNone}
use Rattle.plan_type.specs.Prices.{listed_cost}

module _ {X : Type 0} (each : Entry X → ℕ) (save : ℕ) (return : Bool → ℕ) where
  abbrev pub spent : Entry X → ℕ
  spent e = each e + return e.hold

  abbrev pub total : Bool → List (Entry X) → ℕ
  total = listed_cost each save return

  abbrev pub HoldsAll : List (Entry X) → Type 0
  HoldsAll = AllByRecursion (λ e. e.hold ≡ true)

  not_none : (es : List (Entry X)) (z : Entry X) (rest : List (Entry X)) → is_none (es ++ z ∷ rest) ≡ false
  not_none [] z rest = refl
  not_none (e ∷ es) z rest = refl

  paid : (hold held : Bool) (b : Bool) → hold ≡ b → (if hold && not held then save else 0) ≡ (if b && not held then save else 0)
  paid hold held b is = ap (λ x. if x && not held then save else 0) is

  -- free entries before another
  pub front_free : (es : List (Entry X)) (z : Entry X) (rest : List (Entry X)) → HoldsNone es → total false (es ++ z ∷ rest) ≡ sum_by spent es + total false (z ∷ rest)
  front_free [] z rest none = omega arith
  front_free (e ∷ es) z rest (off, none) =
      let i = front_free es z rest none in let a = sum_by-cons spent e es in
      let n = ap (λ b. if b then 0 else return e.hold) (not_none es z rest) in let p = paid e.hold false false off in
      let h = ap (λ b. total b (es ++ z ∷ rest)) off in omega (arith, i, a, n, p, h)

  -- entries that hold, where the node is stored
  front_held : (es : List (Entry X)) (z : Entry X) (rest : List (Entry X)) → HoldsAll es → total true (es ++ z ∷ rest) ≡ sum_by spent es + total true (z ∷ rest)
  front_held [] z rest all = omega arith
  front_held (e ∷ es) z rest (on, all) =
      let i = front_held es z rest all in let a = sum_by-cons spent e es in
      let n = ap (λ b. if b then 0 else return e.hold) (not_none es z rest) in let p = paid e.hold true true on in
      let h = ap (λ b. total b (es ++ z ∷ rest)) on in omega (arith, i, a, n, p, h)

  -- the first of them pays the save
  first_held : (e : Entry X) (rest : List (Entry X)) → e.hold ≡ true → total false (e ∷ rest) ≡ save + total true (e ∷ rest)
  first_held e rest on = let p = paid e.hold false true on in let q = paid e.hold true true on in omega (arith, p, q)

  -- a free entry does not ask whether the node is stored
  first_free : (e : Entry X) (rest : List (Entry X)) → e.hold ≡ false → total true (e ∷ rest) ≡ total false (e ∷ rest)
  first_free e rest off = let p = paid e.hold true false off in let q = paid e.hold false false off in omega (arith, p, q)

  one : (z : Entry X) → z.hold ≡ true → total true (z ∷ []) ≡ each z
  one z on = let p = paid z.hold true true on in omega (arith, p)

  pub one_free : (z : Entry X) → z.hold ≡ false → total false (z ∷ []) ≡ each z
  one_free z off = let p = paid z.hold false false off in omega (arith, p)

  -- the last holds: the free ones, then those that hold, then it
  pub last_holds : (frees helds : List (Entry X)) (z : Entry X) → HoldsNone frees → HoldsAll helds → z.hold ≡ true
      → total false (frees ++ (helds ++ z ∷ [])) ≡ save + (sum_by spent frees + sum_by spent helds + each z)
  last_holds frees [] z none all on =
      let a = front_free frees z [] none in let b = first_held z [] on in let d = one z on in omega (arith, a, b, d)
  last_holds frees (e ∷ es) z none all on =
      let a = front_free frees e (es ++ z ∷ []) none in let b = first_held e (es ++ z ∷ []) all.0 in
      let d = front_held (e ∷ es) z [] all in let f = one z on in omega (arith, a, b, d, f)

  -- the last is free: those that hold, then the free ones, then it
  pub last_free : (e : Entry X) (helds frees : List (Entry X)) (z : Entry X) → HoldsAll (e ∷ helds) → HoldsNone frees → z.hold ≡ false
      → total false ((e ∷ helds) ++ (frees ++ z ∷ [])) ≡ save + (sum_by spent (e ∷ helds) + sum_by spent frees + each z)
  last_free e helds [] z all none off =
      let a = first_held e (helds ++ z ∷ []) all.0 in let b = front_held (e ∷ helds) z [] all in
      let d = first_free z [] off in let f = one_free z off in omega (arith, a, b, d, f)
  last_free e helds (f ∷ fs) z all none off =
      let a = first_held e (helds ++ (f ∷ fs) ++ z ∷ []) all.0 in let b = front_held (e ∷ helds) f (fs ++ z ∷ []) all in
      let d = first_free f (fs ++ z ∷ []) none.0 in let g = front_free (f ∷ fs) z [] none in let h = one_free z off in omega (arith, a, b, d, g, h)

  saves : (hold held : Bool) → save ≡ 0 → (if hold && not held then save else 0) ≡ 0
  saves true true z = refl
  saves true false z = z
  saves false held z = refl

  -- in any order, where a save costs nothing
  pub spread : (os : List (Entry X)) (z : Entry X) (held : Bool) → save ≡ 0 → total held (os ++ z ∷ []) ≡ sum_by spent os + each z
  spread [] z held nothing = let s = saves z.hold held nothing in omega (arith, s)
  spread (e ∷ os) z held nothing =
      let s = saves e.hold held nothing in
      let n = ap (λ b. if b then 0 else return e.hold) (not_none os z []) in
      let i = spread os z e.hold nothing in
      let a = sum_by-cons spent e os in
      omega (arith, s, n, i, a)
