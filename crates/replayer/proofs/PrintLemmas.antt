-- What operations print, one after another.
use Rattle.std.proofs.Common.{◌≡◌, ◌≢◌, ℕ, zero, suc, ◌+◌, ◌-◌, ◌<◌, ◌≤◌, ◌⊎◌, inl, inr, Bool, true, false, ◌||◌, List, [], ◌∷◌, ◌++◌, length, get_or, set, replicate, Option, Some, None, refl, sym, ap, ◌∙◌, subst, arith}
use Rattle.std.specs.Prelude.{◌==◌}
use Rattle.std.specs.List.{AllByRecursion, slice_get}
use Rattle.std.proofs.lemmas.Bool.{false≢true}
use Rattle.std.proofs.lemmas.Bool.Decides.{Decides-eqb}
use Rattle.std.proofs.lemmas.List.{get_or-replicate, get_or-set_other, get_or-set_same, length-replicate, length-set}
use Rattle.std.proofs.lemmas.Option.{slice_get-get_or, slice_get_past}
use Rattle.star_syntax.specs.Cells.{numbered}
use Rattle.exec_tree.specs.Forests.{ForestParts}
use Rattle.plan_type.specs.declared.costs.Costs.{Costs}
use Rattle.plan_type.specs.declared.operations.Operation.{Operation}
use Rattle.plan_type.specs.declared.operations.Operation.TheVariants.{Reset, Compute, Checkpoint, Restore, Evict}
use Rattle.plan_type.specs.Costs.{IsReached, is_reached_in, row_of}
use Rattle.plan_type.specs.Operations.{Ops, computes, computes_one}
use Rattle.replayer.specs.Nodes.{text_at}
use Rattle.replayer.specs.Trees.{AreRecorded, AreTexts, IsRecorded}
use Rattle.replayer.specs.Machines.{IsFine, PrintsSo}
use Rattle.replayer.specs.Courses.{Printed}
use Rattle.replayer.proofs.RowLemmas.{row_there}
use Rattle.replayer.proofs.TreeLemmas.{row_within, some_number}

-- ---- numbered items

cases : (a b : ℕ) → (a < b) ⊎ (b ≤ a)
cases a b = grind arith

set_same : {X : Type 0} (xs : List X) (j k : ℕ) (x : X) → j ≡ k → k < length xs → slice_get (set xs j x) k ≡ Some x
set_same xs j k x is within =
    let long = length-set xs j x in
    slice_get-get_or (set xs j x) k x (omega (arith, long, within))
    ∙ ap Some (ap (λ i. get_or (set xs i x) k x) is ∙ get_or-set_same xs k x x within)

set_other : {X : Type 0} (xs : List X) (j k : ℕ) (x : X) → k ≢ j → slice_get (set xs j x) k ≡ slice_get xs k
set_other xs j k x other = by (cases k (length xs))
  where
    by : (k < length xs) ⊎ (length xs ≤ k) → slice_get (set xs j x) k ≡ slice_get xs k
    by (inl within) =
        let long = length-set xs j x in
        slice_get-get_or (set xs j x) k x (omega (arith, long, within)) ∙ ap Some (get_or-set_other xs j k x x other) ∙ sym (slice_get-get_or xs k x within)
    by (inr past) =
        let long = length-set xs j x in
        slice_get_past (set xs j x) k (omega (arith, long, past)) ∙ sym (slice_get_past xs k past)

numbered_same : {X : Type 0} (xs : List X) (v : ℕ) (x : X) → 0 < v → v ≤ length xs → numbered (set xs (v - 1) x) v ≡ Some x
numbered_same xs zero x some within = absurd (omega arith)
numbered_same xs (suc k) x some within = set_same xs (suc k - 1) k x (omega arith) (omega arith)

numbered_other : {X : Type 0} (xs : List X) (v w : ℕ) (x : X) → 0 < w → v ≢ w → numbered (set xs (w - 1) x) v ≡ numbered xs v
numbered_other xs zero w x some other = refl
numbered_other xs (suc k) w x some other = set_other xs (w - 1) k x (λ same. other (omega (arith, same, some)))

numbered_none : (many v : ℕ) → 1 ≤ v → v ≤ many → numbered {X = List ℕ} (replicate many []) v ≡ Some []
numbered_none many zero some within = absurd (omega arith)
numbered_none many (suc k) some within =
    let long = length-replicate {A = List ℕ} many [] in
    slice_get-get_or (replicate many []) k [] (omega (arith, long, within)) ∙ ap Some (get_or-replicate many k [] [] (omega arith))

-- ---- what is computed

or_none : (a : Bool) → (a || false) ≡ a
or_none true = refl
or_none false = refl

or_assoc : (a b c : Bool) → (a || (b || c)) ≡ ((a || b) || c)
or_assoc true b c = refl
or_assoc false b c = refl

or_left : (a b : Bool) → (a || b) ≡ false → a ≡ false
or_left true b h = h
or_left false b h = refl

or_right : (a b : Bool) → (a || b) ≡ false → b ≡ false
or_right true b h = absurd (false≢true (sym h))
or_right false b h = h

computes_push : (os : Ops) (o : Operation) (v : ℕ) → computes (os ++ o ∷ []) v ≡ (computes os v || computes_one o v)
computes_push [] o v = or_none (computes_one o v)
computes_push (p ∷ os) o v = ap (λ b. computes_one p v || b) (computes_push os o v) ∙ or_assoc (computes_one p v) (computes os v) (computes_one o v)

apart : (w v : ℕ) → (w == v) ≡ false → v ≢ w
apart w v is same = false≢true (sym is ∙ (Decides-eqb w v).1 (sym same))

-- ---- one operation more

module _ (forest : ForestParts) (costs : Costs) (allowance : ℕ) where
  -- nothing was computed
  pub printed_none : (texts : List (List ℕ)) → texts ≡ replicate (length costs.rows) [] → Printed forest costs allowance [] texts
  printed_none texts is = record {
    computed = λ v never. absurd (false≢true never);
    others = λ v some within none. ap (λ all. numbered all v) is ∙ numbered_none (length costs.rows) v some within;
  }

  same_texts : (done : Ops) (o : Operation) (before now : List (List ℕ)) → ((v : ℕ) → computes_one o v ≡ false) → now ≡ before → Printed forest costs allowance done before
      → Printed forest costs allowance (done ++ o ∷ []) now
  same_texts done o before now none is p = record {
    computed = λ v h.
        let old : computes done v ≡ true = sym (computes_push done o v ∙ ap (λ b. computes done v || b) (none v) ∙ or_none (computes done v)) ∙ h in
        let c = p.computed v old in (ap (λ all. numbered all v) is ∙ c.0, c.1);
    others = λ v some within h. ap (λ all. numbered all v) is ∙ p.others v some within (or_left (computes done v) (computes_one o v) (sym (computes_push done o v) ∙ h));
  }

  new_text : (done : Ops) (w n : ℕ) (before now : List (List ℕ)) → 0 < w → w ≤ length before → now ≡ set before (w - 1) (text_at forest allowance w) → IsRecorded forest costs allowance w
      → Printed forest costs allowance done before → Printed forest costs allowance (done ++ Compute w n ∷ []) now
  new_text done w n before now some within is own p = record {
    computed = λ v h. by v (w == v) refl (sym (computes_push done (Compute w n) v) ∙ h);
    others = λ v least most h.
        let off = sym (computes_push done (Compute w n) v) ∙ h in
        ap (λ all. numbered all v) is
        ∙ numbered_other before v w (text_at forest allowance w) some (apart w v (or_right (computes done v) (w == v) off))
        ∙ p.others v least most (or_left (computes done v) (w == v) off);
  }
    where
      by : (v : ℕ) (b : Bool) → (w == v) ≡ b → (computes done v || (w == v)) ≡ true → (numbered now v ≡ Some (text_at forest allowance v)) × IsRecorded forest costs allowance v
      by v true same h =
          let e : w ≡ v = (Decides-eqb w v).0 same in
          subst (λ x. (numbered now x ≡ Some (text_at forest allowance x)) × IsRecorded forest costs allowance x) e
          (ap (λ all. numbered all w) is ∙ numbered_same before w (text_at forest allowance w) some within, own)
      by v false other h =
          let old : computes done v ≡ true = sym (ap (λ b. computes done v || b) other ∙ or_none (computes done v)) ∙ h in
          let c = p.computed v old in
          (ap (λ all. numbered all v) is ∙ numbered_other before v w (text_at forest allowance w) some (apart w v other) ∙ c.0, c.1)

  pub printed_more : (done : Ops) (o : Operation) (before now : List (List ℕ)) → length before ≡ length costs.rows → IsFine costs o → Printed forest costs allowance done before
      → PrintsSo forest costs allowance o before now → Printed forest costs allowance (done ++ o ∷ []) now
  printed_more done Reset before now many fine p h = same_texts done Reset before now (λ v. refl) h p
  printed_more done (Checkpoint w b) before now many fine p h = same_texts done (Checkpoint w b) before now (λ v. refl) h p
  printed_more done (Restore w) before now many fine p h = same_texts done (Restore w) before now (λ v. refl) h p
  printed_more done (Evict w) before now many fine p h = same_texts done (Evict w) before now (λ v. refl) h p
  printed_more done (Compute w n) before now many fine p h =
      let (row, at) = row_there costs w fine in
      let within = row_within costs w row at in
      new_text done w n before now (some_number costs w fine) (omega (arith, many, within)) h.0 h.1 p

  -- ---- what is computed is reached

  fine_one : (o : Operation) (v : ℕ) → IsFine costs o → computes_one o v ≡ true → IsReached costs v
  fine_one Reset v fine h = absurd (false≢true h)
  fine_one (Compute w n) v fine h = let e : w ≡ v = (Decides-eqb w v).0 h in subst (IsReached costs) e fine
  fine_one (Checkpoint w b) v fine h = absurd (false≢true h)
  fine_one (Restore w) v fine h = absurd (false≢true h)
  fine_one (Evict w) v fine h = absurd (false≢true h)

  fine_or : (o : Operation) (os : Ops) (v : ℕ) (b : Bool) → computes_one o v ≡ b → IsFine costs o → (computes os v ≡ true → IsReached costs v) → (b || computes os v) ≡ true → IsReached costs v
  fine_or o os v true is fine more h = fine_one o v fine is
  fine_or o os v false is fine more h = more h

  fine_computes : (os : Ops) (v : ℕ) → AllByRecursion (IsFine costs) os → computes os v ≡ true → IsReached costs v
  fine_computes [] v fine never = absurd (false≢true never)
  fine_computes (o ∷ os) v fine h = fine_or o os v (computes_one o v) refl fine.0 (fine_computes os v fine.1) h

  not_computed : (os : Ops) (v : ℕ) (b : Bool) → computes os v ≡ b → AllByRecursion (IsFine costs) os → is_reached_in (row_of costs v) ≡ false → b ≡ false
  not_computed os v true is fine none = absurd (false≢true (sym none ∙ fine_computes os v fine is))
  not_computed os v false is fine none = refl

  -- where all reached nodes were computed, the texts are theirs, and all of them are as recorded
  pub all_texts : (os : Ops) (texts : List (List ℕ)) → length texts ≡ length costs.rows → AllByRecursion (IsFine costs) os → ((v : ℕ) → IsReached costs v → computes os v ≡ true)
      → Printed forest costs allowance os texts → AreTexts forest costs allowance texts × AreRecorded forest costs allowance
  all_texts os texts many fine all p = (
    record {
      many = many;
      reached = λ v reached. (p.computed v (all v reached)).0;
      others = λ v some within none. p.others v some within (not_computed os v (computes os v) refl fine none);
    },
    λ v reached. (p.computed v (all v reached)).1,
  )
