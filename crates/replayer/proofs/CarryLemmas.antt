-- Why a list of operations stops, and its steps.
use Rattle.std.proofs.Common.{◌≡◌, ℕ, ◌+◌, ◌<◌, ◌≤◌, List, [], ◌∷◌, ◌++◌, length, get_or, take, drop, Option, Some, refl, sym, ap, ◌∙◌, subst, arith}
use Rattle.chex_base.specs.Outside.{Rose}
use Rattle.star_meaning.specs.Validity.{MachineState}
use Rattle.kernel_api.specs.Stock.{Stock}
use Rattle.exec_tree.specs.Forests.{ForestParts}
use Rattle.plan_type.specs.declared.costs.Costs.{Costs}
use Rattle.plan_type.specs.declared.row.Row.{Row}
use Rattle.plan_type.specs.declared.operations.Operation.{Operation}
use Rattle.plan_type.specs.declared.operations.Operation.TheVariants.{Compute, Restore}
use Rattle.plan_type.specs.Costs.{tree_of}
use Rattle.plan_type.specs.Operations.{Legal, Machine, Ops}
use Rattle.plan_type.specs.Prices.{Prices}
use Rattle.replayer.specs.declared.difference.Difference.{Difference}
use Rattle.replayer.specs.declared.fault.ReplayFault.{ReplayFault}
use Rattle.replayer.specs.Trees.{IsRowAt}
use Rattle.replayer.specs.Courses.{IsFirstToDiffer}
use Rattle.replayer.specs.Faults.{StopsAt, StopsSo}
use Rattle.replayer.specs.Machines.{DiffersBy, Tells, steps_in, steps_in_all}
use Rattle.replayer.proofs.GoingLemmas.{Going, legal_at, next_is, parts_are, steps_next}
use Rattle.replayer.proofs.StopLemmas.{Damaging, Differing, differs_as, leaves_off, rose_later, stops_as}

module _ (forest : ForestParts) (costs : Costs) (allowance block most : ℕ) (prices : Prices) (ops : Ops) (told : Option (List (ℕ × List ℕ)))
    (i : ℕ) (o : Operation) (live : Option MachineState) (stock : Stock) (texts : List (List ℕ)) (within : i < length ops) (is : o ≡ get_or ops i o)
    (g : Going forest costs allowance block most prices ops told i live stock texts) where
  legal : Legal (tree_of costs stock.block) stock.most o g.m
  legal = legal_at forest costs allowance block most prices ops told i o live stock texts within is g

  first_to_differ : (v : ℕ) (d : Difference) → Differing costs forest allowance live stock o v d → IsFirstToDiffer forest costs allowance told ops v d
  first_to_differ v d h = record {
    done = take i ops;
    steps = h.0.0;
    rest = drop (i + 1) ops;
    here = parts_are ops i ∙ ap (λ rest. take i ops ++ rest) (next_is ops i o within is ∙ ap (λ x. x ∷ drop (i + 1) ops) h.0.1);
    before = λ files has w done. ((g.tells files has).1.computed w done).1;
    differs = differs_as costs v v d
        (λ row. (m : Machine) → Tells forest allowance live stock.told m.live → Legal (tree_of costs stock.block) stock.most o m → IsRowAt forest allowance v row)
        (λ row. (files : List (ℕ × List ℕ)) → told ≡ Some files → IsRowAt forest allowance v row)
        refl (λ row p files has. p g.m (g.tells files has).0 legal) h.1;
  }

  never_damaged : (v : ℕ) → Damaging costs forest allowance live stock o v → (files : List (ℕ × List ℕ)) → told ≡ Some files → ⊥
  never_damaged v h files has = h.1 g.m (g.tells files has).0

  pub stops : (a b c x y z : ℕ) → a ≤ b → x ≤ y → (e : ReplayFault)
      → StopsSo (Rose b c) (Rose y z) (Differing costs forest allowance live stock o) (Damaging costs forest allowance live stock o) e
      → StopsSo (Rose a c) (Rose x z) (λ v d. IsFirstToDiffer forest costs allowance told ops v d) (λ v. (files : List (ℕ × List ℕ)) → told ≡ Some files → ⊥) e
  stops a b c x y z low low_store e h =
      stops_as (Rose b c) (Rose a c) (Rose y z) (Rose x z) (Differing costs forest allowance live stock o) (λ v d. IsFirstToDiffer forest costs allowance told ops v d)
      (Damaging costs forest allowance live stock o) (λ v. (files : List (ℕ × List ℕ)) → told ≡ Some files → ⊥)
      (rose_later a b c low) (rose_later x y z low_store) first_to_differ never_damaged e h

  pub leaves : (a b x y : ℕ) (e : ReplayFault) → StopsSo (Rose a b) (Rose x y) (Differing costs forest allowance live stock o) (Damaging costs forest allowance live stock o) e → StopsAt e (drop i ops)
  leaves a b x y e h =
      subst (StopsAt e) (sym (next_is ops i o within is))
      (leaves_off o (drop (i + 1) ops) e (Rose a b) (Rose x y)
      (λ v d. DiffersBy costs v d (λ row. (m : Machine) → Tells forest allowance live stock.told m.live → Legal (tree_of costs stock.block) stock.most o m → IsRowAt forest allowance v row))
      (λ v. (m : Machine) → Tells forest allowance live stock.told m.live → ⊥) h)

  pub steps_on : (before old now : ℕ) → old + steps_in_all (drop i ops) ≡ before + steps_in_all ops → ((m : Machine) → Legal (tree_of costs stock.block) stock.most o m → now ≡ old + steps_in o)
      → now + steps_in_all (drop (i + 1) ops) ≡ before + steps_in_all ops
  steps_on before old now sum rose =
      let r = rose g.m legal in
      let n = steps_next ops i o within is in
      omega (arith, sum, r, n)
