-- Of sound costs: children have higher numbers, and the numbers are small.
use Rattle.std.proofs.Common.{◌≡◌, ℕ, zero, suc, ◌+◌, ◌<◌, ◌≤◌, ◌∷◌, Bool, true, false, cond, ◌&&◌, length, refl, ap, arith, Option, Some, None}
use Rattle.std.specs.Prelude.{◌==◌}
use Rattle.std.specs.List.{All, AllByRecursion, filter, range_with_len}
use Rattle.std.proofs.lemmas.List.Elements.{All-from_recursion}
use Rattle.std.proofs.lemmas.Bool.Decides.{nat_tests}
use Rattle.plan_type.specs.declared.costs.Costs.{Costs}
use Rattle.plan_type.specs.declared.row.Row.{Row}
use Rattle.plan_type.specs.declared.row.Reach.{Reach}
use Rattle.plan_type.specs.declared.row.Reach.TheVariants.{Done, Failed, Unreached}
use Rattle.plan_type.specs.Costs.{Tree, IsSound, tree_of, row_of, parent_in, parent_of, steps_in, steps_of, is_child_in, is_reached, children_of, NumbersFit}

-- children have higher numbers, and none is at or past the end
pub record Grows (tree : Tree) (end : ℕ) : Type 0 where
  pub above : (u : ℕ) → All (λ v. u < v) (tree.children u)
  pub parents : (u : ℕ) → All (λ v. tree.parent v ≡ Some u) (tree.children u)
  pub below : (u : ℕ) → All (λ v. v < end) (tree.children u)

kept : (P : ℕ → Type 0) (p : ℕ → Bool) (a n : ℕ) → ((x : ℕ) → a ≤ x → x < a + n → p x ≡ true → P x) → AllByRecursion P (filter p (range_with_len a n))
kept P p a zero h = tt
kept P p a (suc n) h = by (p a) refl (kept P p (a + 1) n (λ x low high is. h x (omega arith) (omega arith) is))
  where
    by : (b : Bool) → p a ≡ b → AllByRecursion P (filter p (range_with_len (a + 1) n)) → AllByRecursion P (cond b (a ∷ filter p (range_with_len (a + 1) n)) (filter p (range_with_len (a + 1) n)))
    by true is rest = (h a (omega arith) (omega arith) is, rest)
    by false is rest = rest

pub child_parent : (u : ℕ) (row : Option Row) → is_child_in u row ≡ true → parent_in row ≡ Some u
child_parent u None h = absurd (cc)
child_parent u (Some row) h = by (row.parent == u) refl
  where
    by : (b : Bool) → (row.parent == u) ≡ b → parent_in (Some row) ≡ Some u
    by true is = let e : row.parent ≡ u = grind (arith, nat_tests) in ap (λ x. Some x) e
    by false is = absurd (let e = ap (λ b. b && is_reached row.end) is in cc)

-- a parent is below its node
pub parent_below : (costs : Costs) → IsSound costs → (u v : ℕ) → parent_of costs v ≡ Some u → u < v
parent_below costs sound u v is = by (row_of costs v) refl is
  where
    by : (o : Option Row) → row_of costs v ≡ o → parent_in o ≡ Some u → u < v
    by None at h = absurd (cc)
    by (Some row) at h = let s = (sound.rows v row at).parent in let e : row.parent ≡ u = cc in omega (arith, s, e)

pub steps_small : (costs : Costs) → IsSound costs → (v : ℕ) → steps_of costs v ≤ 1000000
steps_small costs sound v = by (row_of costs v) refl
  where
    of_end : (end : Reach) (row : Row) → NumbersFit end row → row.steps ≤ 1000000
    of_end Done row h = h.1
    of_end Failed row h = h.1
    of_end Unreached row h = let e = h.0 in omega (arith, e)

    by : (o : Option Row) → row_of costs v ≡ o → steps_in o ≤ 1000000
    by None at = omega arith
    by (Some row) at = of_end row.end row (sound.rows v row at).numbers_fit

pub grows : (costs : Costs) (block : ℕ) → IsSound costs → Grows (tree_of costs block) (length costs.rows + 1)
unfolding tree_of
grows costs block sound = record {
  above = λ u. All-from_recursion _ (children_of costs u) (kept (λ v. u < v) (λ v. is_child_in u (row_of costs v)) 1 (length costs.rows) (λ x low high is. parent_below costs sound u x (child_parent u (row_of costs x) is)));
  parents = λ u. All-from_recursion _ (children_of costs u) (kept (λ v. parent_of costs v ≡ Some u) (λ v. is_child_in u (row_of costs v)) 1 (length costs.rows) (λ x low high is. child_parent u (row_of costs x) is));
  below = λ u. All-from_recursion _ (children_of costs u) (kept (λ v. v < length costs.rows + 1) (λ v. is_child_in u (row_of costs v)) 1 (length costs.rows) (λ x low high is. omega arith));
}
