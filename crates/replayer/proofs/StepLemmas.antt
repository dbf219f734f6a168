-- What each operation makes of a store that tells its bytes, and of the texts; and its steps.
use Rattle.std.proofs.Common.{◌≡◌, ℕ, ◌+◌, ◌-◌, ◌^◌, ◌<◌, List, length, Option, Some, refl, sym, ap, ◌∙◌, subst, arith}
use Rattle.std.specs.Prelude.{IfSome, slice_set}
use Rattle.star_syntax.specs.declared.cell.Program.{Program}
use Rattle.star_meaning.specs.Snapshot.{IsBytesOf}
use Rattle.star_meaning.specs.Validity.{IsValid, MachineState, nothing_ran}
use Rattle.kernel_api.specs.Live.{PutsSnapshot}
use Rattle.kernel_api.specs.Stock.{Stock, at, with_evict, with_put}
use Rattle.exec_tree.specs.Forests.{ForestParts}
use Rattle.plan_type.specs.declared.costs.Costs.{Costs}
use Rattle.plan_type.specs.declared.operations.Operation.{Operation}
use Rattle.plan_type.specs.declared.operations.Operation.TheVariants.{Reset, Compute, Checkpoint, Restore, Evict}
use Rattle.plan_type.specs.Costs.{IsReached, IsSound, Tree, steps_of, tree_of}
use Rattle.plan_type.specs.Operations.{Legal, Machine, after}
use Rattle.plan_type.specs.Prices.{Prices}
use Rattle.replayer.specs.Nodes.{program_of}
use Rattle.replayer.specs.Trees.{IsTreeOf}
use Rattle.replayer.specs.Machines.{PrintsSo, RanSo, Tells, steps_in}
use Rattle.replayer.proofs.StandLemmas.{live_above}
use Rattle.replayer.proofs.TellLemmas.{Got, told_compute, told_evict, told_put, told_reset, told_restore}

module _ (costs : Costs) (forest : ForestParts) (allowance : ℕ) (live : Option MachineState) (stock : Stock) (m : Machine) (prices : Prices) (o : Operation) where
  abbrev After : Option MachineState → Stock → List (List ℕ) → List (List ℕ) → Operation → Type 0
  After now stock_now texts texts_now p =
      Tells forest allowance now stock_now.told (after (tree_of costs stock.block) prices p m).live × PrintsSo forest costs allowance p texts texts_now

  pub reset_tells : (now : Option MachineState) (texts : List (List ℕ)) → o ≡ Reset → now ≡ Some nothing_ran → Tells forest allowance live stock.told m.live
      → Tells forest allowance now stock.told (after (tree_of costs stock.block) prices o m).live × PrintsSo forest costs allowance o texts texts
  reset_tells now texts is empty t = subst (After now stock texts texts) (sym is) (told_reset forest allowance live now stock.told m.live empty t, refl)

  pub compute_tells : IsSound costs → IsTreeOf costs forest → (v n : ℕ) (now : Option MachineState) (text : List ℕ) (texts texts_now : List (List ℕ)) → o ≡ Compute v n → IsReached costs v
      → ((s : MachineState) → live ≡ Some s → RanSo forest costs allowance v s now text) → texts_now ≡ slice_set texts (v - 1) text
      → Tells forest allowance live stock.told m.live → Legal (tree_of costs stock.block) stock.most o m
      → Tells forest allowance now stock.told (after (tree_of costs stock.block) prices o m).live × PrintsSo forest costs allowance o texts texts_now
  compute_tells sound is_tree v n now text texts texts_now is reached ran set t legal =
      subst (After now stock texts texts_now) (sym is)
      (told_compute forest allowance costs sound is_tree v reached live now stock.told m.live text n texts texts_now (live_above costs forest live stock m o sound is_tree v n is reached legal) ran set t)

  pub checkpoint_tells : (v b : ℕ) (now : Option MachineState) (stock_now : Stock) (texts : List (List ℕ)) (program : Program) → o ≡ Checkpoint v b → program ≡ program_of forest → IfSome live (IsValid program) → now ≡ live
      → ((s : MachineState) → live ≡ Some s → PutsSnapshot s v stock stock_now) → Tells forest allowance live stock.told m.live → Legal (tree_of costs stock.block) stock.most o m
      → Tells forest allowance now stock_now.told (after (tree_of costs stock.block) prices o m).live × PrintsSo forest costs allowance o texts texts
  checkpoint_tells v b now stock_now texts program is loaded valid same put t legal =
      let l : Legal (tree_of costs stock.block) stock.most (Checkpoint v b) m = subst (λ x. Legal (tree_of costs stock.block) stock.most x m) is legal in
      subst (After now stock_now texts texts) (sym is)
      (told_put forest allowance v live now stock stock_now m.live l.0 (subst (λ p. IfSome live (IsValid p)) loaded valid) same put t, refl)

  pub restore_tells : (v : ℕ) (now : Option MachineState) (stock_now : Stock) (texts : List (List ℕ)) (program : Program) → o ≡ Restore v → program ≡ program_of forest → stock_now ≡ stock
      → IfSome stock.told (Got program now v)
      → Tells forest allowance live stock.told m.live
      → Tells forest allowance now stock_now.told (after (tree_of costs stock.block) prices o m).live × PrintsSo forest costs allowance o texts texts
  restore_tells v now stock_now texts program is loaded same got t =
      subst (After now stock_now texts texts) (sym is) (
        subst (λ (k : Stock). Tells forest allowance now k.told (Some v)) (sym same)
            (told_restore forest allowance v live now stock.told m.live
            (subst (λ p. IfSome stock.told (Got p now v)) loaded got) t),
        refl,
      )

  pub evict_tells : (v : ℕ) (stock_now : Stock) (texts : List (List ℕ)) → o ≡ Evict v → stock_now ≡ with_evict v stock → Tells forest allowance live stock.told m.live
      → Tells forest allowance live stock_now.told (after (tree_of costs stock.block) prices o m).live × PrintsSo forest costs allowance o texts texts
  evict_tells v stock_now texts is gone t = subst (After live stock_now texts texts) (sym is) (told_evict forest allowance v live stock stock_now m.live gone t, refl)

-- ---- steps

pub no_steps : (o p : Operation) (before now : ℕ) → o ≡ p → steps_in p ≡ 0 → now ≡ before → now ≡ before + steps_in o
no_steps o p before now is none same = let e = ap steps_in is in omega (arith, e, none, same)

pub own_steps : (costs : Costs) (block most : ℕ) (m : Machine) (o : Operation) (v n before now : ℕ) → o ≡ Compute v n → Legal (tree_of costs block) most o m → now ≡ before + steps_of costs v → now ≡ before + steps_in o
unfolding tree_of
own_steps costs block most m o v n before now is legal rose =
    let l : Legal (tree_of costs block) most (Compute v n) m = subst (λ x. Legal (tree_of costs block) most x m) is legal in
    let e = ap steps_in is in
    let own : n ≡ steps_of costs v = l.1 in
    omega (arith, e, own, rose)

-- ---- limits

pub put_limits : (live : Option MachineState) (s : MachineState) (v : ℕ) (stock stock_now : Stock) → live ≡ Some s → IfSome live (λ m. PutsSnapshot m v stock stock_now) → (stock_now.block ≡ stock.block) × (stock_now.most ≡ stock.most)
put_limits live s v stock stock_now is put =
    let (bytes, told, gone) = subst (λ o. IfSome o (λ m. PutsSnapshot m v stock stock_now)) is put in
    (ap (λ (k : Stock). k.block) gone, ap (λ (k : Stock). k.most) gone)
