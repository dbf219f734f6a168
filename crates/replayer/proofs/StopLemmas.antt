-- Why operations stop.
use Rattle.std.proofs.Common.{◌≡◌, ℕ, ◌+◌, ◌-◌, ◌^◌, ◌<◌, ◌≤◌, min, List, [], ◌∷◌, ◌++◌, Option, Some, None, Result, Ok, Err, refl, sym, ap, ◌∙◌, subst, arith}
use Rattle.std.specs.Prelude.{IfErr, IfSome, OnOk, MatchOption}
use Rattle.chex_base.specs.Outside.{Rose}
use Rattle.star_syntax.specs.declared.cell.Program.{Program}
use Rattle.star_meaning.specs.Validity.{MachineState}
use Rattle.kernel_api.specs.Stock.{Stock, at}
use Rattle.exec_tree.specs.Forests.{ForestParts}
use Rattle.exec_tree.specs.Forests as tree
use Rattle.plan_type.specs.declared.costs.Costs.{Costs}
use Rattle.plan_type.specs.declared.row.Row.{Row}
use Rattle.plan_type.specs.declared.operations.Operation.{Operation}
use Rattle.plan_type.specs.declared.operations.Operation.TheVariants.{Reset, Compute, Checkpoint, Restore, Evict}
use Rattle.plan_type.specs.Costs.{IsReached, IsSound, tree_of}
use Rattle.plan_type.specs.Operations.{Legal, Machine}
use Rattle.replayer.specs.declared.difference.Difference.{Difference}
use Rattle.replayer.specs.declared.fault.ReplayFault.{ReplayFault}
use Rattle.replayer.specs.declared.fault.ReplayFault.TheVariants as fault
use Rattle.replayer.specs.Nodes.{depth_at, program_of}
use Rattle.replayer.specs.Trees.{IsRowAt, IsTreeOf}
use Rattle.replayer.specs.Machines.{DiffersBy, IsDamaged, IsRowIn, Tells}
use Rattle.replayer.specs.Faults.{LeavesOff, StopsAt, StopsSo}
use Rattle.replayer.proofs.StandLemmas.{live_above}
use Rattle.replayer.proofs.TellLemmas.{Hurt, alike_live, row_at, told_whole}

-- ---- counts

pub rose_later : (a b c : ℕ) → a ≤ b → Rose b c → Rose a c
rose_later a b c le rose = omega (arith, le, rose)

pub rose_more : (a b c : ℕ) → Rose a b → b ≤ c → Rose a c
rose_more a b c rose le = omega (arith, rose, le)

-- ---- answers

pub stops_as : (K K' S S' : Type 0) (D D' : ℕ → Difference → Type 0) (M M' : ℕ → Type 0) → (K → K') → (S → S') → ((v : ℕ) (d : Difference) → D v d → D' v d) → ((v : ℕ) → M v → M' v)
    → (e : ReplayFault) → StopsSo K S D M e → StopsSo K' S' D' M' e
stops_as K K' S S' D D' M M' k s d m fault.KernelFailed h = k h
stops_as K K' S S' D D' M M' k s d m fault.StoreFailed h = s h
stops_as K K' S S' D D' M M' k s d m (fault.Differs v x) h = d v x h
stops_as K K' S S' D D' M M' k s d m (fault.Damaged v) h = m v h
stops_as K K' S S' D D' M M' k s d m fault.NoMemory h = tt

pub err_as : {T : Type 0} (K K' S S' : Type 0) (D D' : ℕ → Difference → Type 0) (M M' : ℕ → Type 0) → (K → K') → (S → S') → ((v : ℕ) (d : Difference) → D v d → D' v d) → ((v : ℕ) → M v → M' v)
    → (r : Result T ReplayFault) (e : ReplayFault) → r ≡ Err e → IfErr r (StopsSo K S D M) → StopsSo K' S' D' M' e
err_as K K' S S' D D' M M' k s d m r e is h = stops_as K K' S S' D D' M M' k s d m e (subst (λ x. IfErr x (StopsSo K S D M)) is h)

-- the same of a whole answer
pub result_as : {T : Type 0} (K K' S S' : Type 0) (D D' : ℕ → Difference → Type 0) (M M' : ℕ → Type 0) → (K → K') → (S → S') → ((v : ℕ) (d : Difference) → D v d → D' v d) → ((v : ℕ) → M v → M' v)
    → (r : Result T ReplayFault) → IfErr r (StopsSo K S D M) → IfErr r (StopsSo K' S' D' M')
result_as K K' S S' D D' M M' k s d m (Ok x) h = tt
result_as K K' S S' D D' M M' k s d m (Err e) h = stops_as K K' S S' D D' M M' k s d m e h

module _ {T : Type 0} (K S : Type 0) (D : ℕ → Difference → Type 0) (M : ℕ → Type 0) (r : Result T ReplayFault) where
  pub by_kernel : IfErr r (StopsSo K S D M) → r ≡ Err fault.KernelFailed → K
  by_kernel h is = subst (λ x. IfErr x (StopsSo K S D M)) is h

  pub by_store : IfErr r (StopsSo K S D M) → r ≡ Err fault.StoreFailed → S
  by_store h is = subst (λ x. IfErr x (StopsSo K S D M)) is h

  pub by_difference : IfErr r (StopsSo K S D M) → (v : ℕ) (d : Difference) → r ≡ Err (fault.Differs v d) → D v d
  by_difference h v d is = subst (λ x. IfErr x (StopsSo K S D M)) is h

  pub by_damage : IfErr r (StopsSo K S D M) → (v : ℕ) → r ≡ Err (fault.Damaged v) → M v
  by_damage h v is = subst (λ x. IfErr x (StopsSo K S D M)) is h

-- ---- differences

pub differs_as : (costs : Costs) (v w : ℕ) (d : Difference) (P Q : Row → Type 0) → w ≡ v → ((row : Row) → P row → Q row) → DiffersBy costs w d P → DiffersBy costs v d Q
differs_as costs v w d P Q same f h =
    let x : DiffersBy costs v d P = subst (λ n. DiffersBy costs n d P) same h in
    (x.0, x.1, x.2, x.3, f x.1 x.4)

-- ---- one operation

module _ (costs : Costs) (forest : ForestParts) (allowance : ℕ) (live : Option MachineState) (stock : Stock) (o : Operation) where
  abbrev pub Differing : ℕ → Difference → Type 0
  Differing v d = ((n : ℕ) × (o ≡ Compute v n)) × DiffersBy costs v d (λ row. (m : Machine) → Tells forest allowance live stock.told m.live
      → Legal (tree_of costs stock.block) stock.most o m → IsRowAt forest allowance v row)

  abbrev pub Damaging : ℕ → Type 0
  Damaging v = (o ≡ Restore v) × ((m : Machine) → Tells forest allowance live stock.told m.live → ⊥)

  pub compute_differs : IsSound costs → IsTreeOf costs forest → (node n : ℕ) → o ≡ Compute node n → IsReached costs node → (v : ℕ) (d : Difference)
      → (v ≡ node) × DiffersBy costs node d (λ row. (s : MachineState) → live ≡ Some s → IsRowIn forest allowance node s row) → Differing v d
  compute_differs sound is_tree node n is reached v d h =
      let here : o ≡ Compute v n = is ∙ ap (λ x. Compute x n) (sym h.0) in
      let reached_v : IsReached costs v = subst (IsReached costs) (sym h.0) reached in (
        (n, here),
        differs_as costs v node d (λ row. (s : MachineState) → live ≡ Some s → IsRowIn forest allowance node s row)
            (λ row. (m : Machine) → Tells forest allowance live stock.told m.live → Legal (tree_of costs stock.block) stock.most o m → IsRowAt forest allowance v row)
            (sym h.0)
            (λ row p m t legal.
            let a = alike_live forest allowance live (tree.parent_of forest v) m.live (live_above costs forest live stock m o sound is_tree v n here reached_v legal) t.live_is in
            row_at forest allowance costs sound is_tree v reached_v a.0 row a.2 (subst (λ x. IsRowIn forest allowance x a.0 row) (sym h.0) (p a.0 a.1)))
            h.1,
      )

  pub restore_damages : (program : Program) → program ≡ program_of forest → (node : ℕ) → o ≡ Restore node → (v : ℕ)
      → (v ≡ node) × IfSome stock.told (Hurt program (depth_at forest node) node) → Damaging v
  restore_damages program loaded node is v h = (
    is ∙ ap Restore (sym h.0),
    λ m t. told_whole forest allowance node live stock.told m.live
        (subst (λ p. IfSome stock.told (Hurt p (depth_at forest node) node)) loaded h.1) t,
  )

  -- a fault of a part is one of the operation
  pub compute_stops : IsSound costs → IsTreeOf costs forest → (node n a b x y : ℕ) → o ≡ Compute node n → IsReached costs node → (e : ReplayFault)
      → StopsSo (Rose a b) ⊥ (λ v d. (v ≡ node) × DiffersBy costs node d (λ row. (s : MachineState) → live ≡ Some s → IsRowIn forest allowance node s row)) (λ v. ⊥) e
      → StopsSo (Rose a b) (Rose x y) Differing Damaging e
  compute_stops sound is_tree node n a b x y is reached e h =
      stops_as (Rose a b) (Rose a b) ⊥ (Rose x y)
      (λ v d. (v ≡ node) × DiffersBy costs node d (λ row. (s : MachineState) → live ≡ Some s → IsRowIn forest allowance node s row)) Differing (λ v. ⊥) Damaging
      (λ k. k) (λ never. absurd never) (compute_differs sound is_tree node n is reached) (λ v never. absurd never) e h

  pub checkpoint_stops : (a b x y : ℕ) {T : Type 0} (r : Result T ReplayFault) → IfErr r (StopsSo (Rose a b) (Rose x y) (λ v d. ⊥) (λ v. ⊥)) → IfErr r (StopsSo (Rose a b) (Rose x y) Differing Damaging)
  checkpoint_stops a b x y r h =
      result_as (Rose a b) (Rose a b) (Rose x y) (Rose x y) (λ v d. ⊥) Differing (λ v. ⊥) Damaging (λ k. k) (λ k. k) (λ v d never. absurd never) (λ v never. absurd never) r h

  pub restore_stops : (program : Program) → program ≡ program_of forest → (node a b x y : ℕ) → o ≡ Restore node → {T : Type 0} (r : Result T ReplayFault)
      → IfErr r (StopsSo (Rose a b) (Rose x y) (λ v d. ⊥) (λ v. (v ≡ node) × IfSome stock.told (Hurt program (depth_at forest node) node)))
      → IfErr r (StopsSo (Rose a b) (Rose x y) Differing Damaging)
  restore_stops program loaded node a b x y is r h =
      result_as (Rose a b) (Rose a b) (Rose x y) (Rose x y) (λ v d. ⊥) Differing (λ v. (v ≡ node) × IfSome stock.told (Hurt program (depth_at forest node) node)) Damaging
      (λ k. k) (λ k. k) (λ v d never. absurd never) (restore_damages program loaded node is) r h

-- ---- what was not done

pub leaves_off : (o : Operation) (rest : List Operation) (e : ReplayFault) (K S : Type 0) (P : ℕ → Difference → Type 0) (Q : ℕ → Type 0)
    → StopsSo K S (λ v d. ((n : ℕ) × (o ≡ Compute v n)) × P v d) (λ v. (o ≡ Restore v) × Q v) e → StopsAt e (o ∷ rest)
leaves_off o rest fault.KernelFailed K S P Q h = tt
leaves_off o rest fault.StoreFailed K S P Q h = tt
leaves_off o rest (fault.Differs v d) K S P Q h = (h.0.0, rest, ap (λ x. x ∷ rest) h.0.1)
leaves_off o rest (fault.Damaged v) K S P Q h = (rest, ap (λ x. x ∷ rest) h.0)
leaves_off o rest fault.NoMemory K S P Q h = tt
