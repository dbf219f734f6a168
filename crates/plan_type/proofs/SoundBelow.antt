-- The rows up to a node, and the lengths of their paths.
use Rattle.std.proofs.Common.{◌≡◌, ◌≢◌, ◌∙◌, ℕ, zero, suc, ◌+◌, ◌<◌, ◌≤◌, ◌⊎◌, List, [], ◌∷◌, set, get_or, length, Option, Some, None, refl, sym, ap, subst, arith, inl, inr}
use Rattle.std.specs.List.{slice_get}
use Rattle.std.proofs.lemmas.Option.{slice_get_read}
use Rattle.std.proofs.lemmas.List.{get_or-set_same, get_or-set_other, length-set}
use Rattle.plan_type.specs.declared.costs.Costs.{Costs}
use Rattle.plan_type.specs.declared.row.Row.{Row}
use Rattle.plan_type.specs.Costs.{row_of, parent_in, parent_of, Climbs, IsSoundRow, IsSound}
use Rattle.plan_type.proofs.Led.{row_within}

pub item_row : (costs : Costs) (rows : List Row) (i : ℕ) (row : Row) → rows ≡ costs.rows → i < length rows → row ≡ get_or rows i row → row_of costs (i + 1) ≡ Some row
item_row costs rows i row are lt at =
    let next : i + 1 ≡ suc i = omega arith in
    ap (row_of costs) next ∙ ap (λ l. slice_get l i) (sym are) ∙ slice_get_read rows (length rows) i row refl lt at

-- the path of a node has this length, which is allowed
pub record HasLength (costs : Costs) (v n : ℕ) : Type 0 where
  pub way : List ℕ
  pub climbs : Climbs costs v way
  pub is : length way ≡ n
  pub short : n ≤ 64

-- all rows up to a node are sound, and the table has the lengths of their paths
pub record SoundBelow (costs : Costs) (k : ℕ) (lengths : List ℕ) : Type 0 where
  pub rows : (v : ℕ) (row : Row) → v ≤ k → row_of costs v ≡ Some row → IsSoundRow costs v row
  pub table : (v : ℕ) → v ≤ k → HasLength costs v (get_or lengths v 0)
  pub room : length lengths ≡ 513

-- a path is the only one of its node
one_way : (costs : Costs) (v : ℕ) (us ws : List ℕ) → Climbs costs v us → Climbs costs v ws → length us ≡ length ws
one_way costs v [] [] a b = refl
one_way costs v [] (w ∷ ws) a b = absurd (let e : parent_of costs 0 ≡ Some w = subst (λ n. parent_of costs n ≡ Some w) a b.0 in cc)
one_way costs v (u ∷ us) [] a b = absurd (let e : parent_of costs 0 ≡ Some u = subst (λ n. parent_of costs n ≡ Some u) b a.0 in cc)
one_way costs v (u ∷ us) (w ∷ ws) a b =
    let same : w ≡ u = (let e = sym b.0 ∙ a.0 in cc) in
    let i = one_way costs u us ws a.1 (subst (λ n. Climbs costs n ws) same b.1) in omega (arith, i)

pub below_none : (costs : Costs) (lengths : List ℕ) → get_or lengths 0 0 ≡ 0 → length lengths ≡ 513 → SoundBelow costs 0 lengths
below_none costs lengths none room = record {
  room = room;
  rows = λ v row le is. absurd (no_row v row (omega arith) is);
  table = λ v le. subst (λ n. HasLength costs n (get_or lengths n 0)) (let e : 0 ≡ v = omega arith in e) (record { way = []; climbs = refl; is = sym none; short = omega arith });
}
  where
    no_row : (v : ℕ) (row : Row) → v ≡ 0 → row_of costs v ≡ Some row → ⊥
    no_row zero row z is = cc
    no_row (suc i) row z is = omega arith

pub upto : (costs : Costs) (k n : ℕ) (lengths : List ℕ) → SoundBelow costs k lengths → n ≤ k → SoundBelow costs n lengths
upto costs k n lengths below le = record { rows = λ v row low is. below.rows v row (omega arith) is; table = λ v low. below.table v (omega arith); room = below.room }

last_or_below : (v k : ℕ) → v ≤ k + 1 → (v ≡ k + 1) ⊎ (v ≤ k)
last_or_below v k le = grind arith

pub below_more : (costs : Costs) (k : ℕ) (lengths : List ℕ) (row : Row) (above : ℕ) → SoundBelow costs k lengths → row_of costs (k + 1) ≡ Some row → IsSoundRow costs (k + 1) row
    → above ≡ get_or lengths row.parent 0 → above ≢ 64 → k < 512 → SoundBelow costs (k + 1) (set lengths (k + 1) (above + 1))
below_more costs k lengths row above below is sound at more low = record { rows = rows; table = table; room = length-set lengths (k + 1) (above + 1) ∙ below.room }
  where
    rows : (v : ℕ) (r : Row) → v ≤ k + 1 → row_of costs v ≡ Some r → IsSoundRow costs v r
    rows v r le here = elim (last_or_below v k le) [
      | inl e ↦ (let same : row ≡ r = (let a = sym is ∙ ap (row_of costs) (sym e) ∙ here in cc) in
          subst (λ n. IsSoundRow costs n r) (sym e) (subst (IsSoundRow costs (k + 1)) same sound))
      | inr low ↦ below.rows v r low here
    ]

    table : (v : ℕ) → v ≤ k + 1 → HasLength costs v (get_or (set lengths (k + 1) (above + 1)) v 0)
    table v le = elim (last_or_below v k le) [
      | inl e ↦ (let p = sound.parent in
          let up = below.table row.parent (omega arith) in
          let i = up.is in let s = up.short in
          subst (λ n. HasLength costs n (get_or (set lengths (k + 1) (above + 1)) n 0)) (sym e)
          (subst (HasLength costs (k + 1)) (sym (get_or-set_same lengths (k + 1) (above + 1) 0 (let r = below.room in omega (arith, r))))
          (record { way = row.parent ∷ up.way; climbs = (ap parent_in is, up.climbs); is = omega (arith, i); short = omega (arith, s) })))
      | inr low ↦ (let other : v ≢ k + 1 = (λ e. omega arith) in
          subst (HasLength costs v) (sym (get_or-set_other lengths (k + 1) v (above + 1) 0 other)) (below.table v low))
    ]

pub below_all : (costs : Costs) (lengths : List ℕ) → length costs.rows ≤ 512 → SoundBelow costs (length costs.rows) lengths → IsSound costs
below_all costs lengths few below = record {
  few = few;
  rows = λ v row is. below.rows v row (row_within costs v row is) is;
  paths = paths;
}
  where
    up_to : (v u : ℕ) → parent_of costs v ≡ Some u → v ≤ length costs.rows
    up_to v u is = by (row_of costs v) refl is
      where
        by : (o : Option Row) → row_of costs v ≡ o → parent_in o ≡ Some u → v ≤ length costs.rows
        by None at h = absurd (cc)
        by (Some row) at h = row_within costs v row at

    paths : (v : ℕ) (us : List ℕ) → Climbs costs v us → length us ≤ 64
    paths v [] climbs = omega arith
    paths v (u ∷ us) climbs =
        let has = below.table v (up_to v u climbs.0) in
        let i = has.is in let s = has.short in let o = one_way costs v (u ∷ us) has.way climbs has.climbs in omega (arith, i, s, o)

-- a path that is longer than 64
pub too_long : (costs : Costs) (k : ℕ) (lengths : List ℕ) (row : Row) (above : ℕ) → SoundBelow costs k lengths → row_of costs (k + 1) ≡ Some row → row.parent < k + 1
    → above ≡ get_or lengths row.parent 0 → above ≡ 64 → IsSound costs → ⊥
too_long costs k lengths row above below is low at long sound =
    let up = below.table row.parent (omega arith) in
    let i = up.is in
    let p = sound.paths (k + 1) (row.parent ∷ up.way) (ap parent_in is, up.climbs) in omega (arith, i, p)
