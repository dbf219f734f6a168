-- A row that says what a node does agrees with each other one in all that is compared.
use Rattle.std.proofs.Common.{◌≡◌, ℕ, List, [], ◌∷◌, ◌++◌, Option, Some, None, IsSome, refl, sym, ◌∙◌, subst}
use Rattle.std.specs.List.{AllByRecursion}
use Rattle.std.proofs.lemmas.Bool.{false≢true}
use Rattle.star_meaning.specs.declared.ran.End.{End}
use Rattle.star_meaning.specs.declared.ran.End.TheVariants as end
use Rattle.star_meaning.specs.declared.ran.Ran.{Ran}
use Rattle.star_meaning.specs.Alike.{AlikeMachines}
use Rattle.star_meaning.specs.Snapshot.{IsBytesOf}
use Rattle.star_meaning.specs.Validity.{MachineState}
use Rattle.plan_type.specs.declared.budget.Budget.{Budget}
use Rattle.plan_type.specs.declared.costs.Costs.{Costs}
use Rattle.plan_type.specs.declared.plan.Plan.{Plan}
use Rattle.plan_type.specs.declared.row.Row.{Row}
use Rattle.plan_type.specs.declared.operations.Operation.TheVariants.{Compute}
use Rattle.plan_type.specs.Costs.{IsReached, IsSound}
use Rattle.plan_type.specs.Operations.{operations_of}
use Rattle.plan_type.specs.Plan.{IsPlan}
use Rattle.exec_tree.specs.Forests.{ForestParts, parents, path}
use Rattle.node_rows.specs.Rows.{HasEnd, HasResult}
use Rattle.replayer.specs.declared.difference.Difference.{Difference}
use Rattle.replayer.specs.declared.difference.Difference.TheVariants as field
use Rattle.replayer.specs.Courses.{IsFirstToDiffer}
use Rattle.replayer.specs.Differences.{IsDifference}
use Rattle.replayer.specs.Machines.{IsFine}
use Rattle.replayer.specs.Nodes.{depth_at, inputs_at, program_of, result_at, state_at, state_over}
use Rattle.replayer.specs.Trees.{AreRecorded}
use Rattle.replayer.proofs.AlikeLemmas.{nothing_alike, runs_alike}
use Rattle.replayer.proofs.FineLemmas.{all_fine}
use Rattle.shared_run.proofs.CanonLemmas.{has_snapshot}

-- ---- two rows of one result, and of a state that has a snapshot

module _ (number : ℕ) (r : Ran) (m : MachineState) (there : (bytes : List ℕ) × IsBytesOf m bytes) where
  same_end : (e : End) (a b : Row) → HasEnd e m a → HasEnd e m b → a.end ≡ b.end
  same_end end.Done a b h k = h.0 ∙ sym k.0
  same_end (end.Failed failure line) a b h k = h.0 ∙ sym k.0

  same_bytes : (e : End) (a b : Row) → HasEnd e m a → HasEnd e m b → a.bytes ≡ b.bytes
  same_bytes end.Done a b h k = h.1 there.0 there.1 ∙ sym (k.1 there.0 there.1)
  same_bytes (end.Failed failure line) a b h k = h.1 ∙ sym k.1

  pub no_difference : (a b : Row) (d : Difference) → HasResult number (Some r) m a → HasResult number (Some r) m b → IsDifference a b d → ⊥
  no_difference a b (field.End x y) h k differ = differ.2 (same_end r.end a b h.0 k.0)
  no_difference a b (field.Steps x y) h k differ = differ.3 (h.1 ∙ sym k.1)
  no_difference a b (field.Bytes x y) h k differ = differ.4 (same_bytes r.end a b h.0 k.0)
  no_difference a b (field.Text x y) h k differ = differ.5 (h.2 ∙ sym k.2)

-- ---- the states of a tree

self_alike : (forest : ForestParts) (allowance : ℕ) (vs : List ℕ) → AlikeMachines (state_over forest allowance vs) (state_over forest allowance vs)
self_alike forest allowance [] = nothing_alike
self_alike forest allowance (v ∷ above) =
    let m = state_over forest allowance above in (runs_alike (program_of forest) m m v (inputs_at forest v) allowance (self_alike forest allowance above)).1

-- each has a snapshot
pub state_told : (forest : ForestParts) (allowance v : ℕ) → (bytes : List ℕ) × IsBytesOf (state_at forest allowance v) bytes
unfolding state_at
state_told forest allowance v = has_snapshot (state_at forest allowance v) (self_alike forest allowance (path (parents forest) v))

-- ---- operations

in_middle : {X : Type 0} (P : X → Type 0) (xs : List X) (y : X) (ys : List X) → AllByRecursion P (xs ++ y ∷ ys) → P y
in_middle P [] y ys h = h.0
in_middle P (x ∷ xs) y ys h = in_middle P xs y ys h.1

-- so over a store that tells its bytes no row differs from one that says what its node does
pub never_differs : (forest : ForestParts) (costs : Costs) (budget : Budget) (plan : Plan) (allowance : ℕ) (told : Option (List (ℕ × List ℕ))) (v : ℕ) (d : Difference)
    → IsSound costs → IsPlan costs plan → AreRecorded forest costs allowance → IsFirstToDiffer forest costs allowance told (operations_of costs budget plan) v d → IsSome told → ⊥
never_differs forest costs budget plan allowance None v d sound class recorded first some = false≢true some
never_differs forest costs budget plan allowance (Some files) v d sound class recorded first some =
    let fine : AllByRecursion (IsFine costs) (first.done ++ Compute v first.steps ∷ first.rest) = subst (AllByRecursion (IsFine costs)) first.here (all_fine costs sound budget plan class) in
    let reached : IsReached costs v = in_middle (IsFine costs) first.done (Compute v first.steps) first.rest fine in
    let differs = first.differs in
    no_difference (depth_at forest v) (result_at forest allowance v) (state_at forest allowance v) (state_told forest allowance v) differs.0 differs.1 d
    (recorded v reached differs.0 differs.2) (differs.4 files refl) differs.3
