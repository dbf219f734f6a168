-- A plan that is carried out over a store that began anew.
use Rattle.std.proofs.Common.{◌≡◌, ℕ, ◌+◌, ◌^◌, ◌<◌, ◌≤◌, ◌⊎◌, inl, inr, Bool, true, false, List, [], ◌∷◌, ◌++◌, length, Option, Some, None, Result, Ok, Err, refl, sym, ap, ◌∙◌, subst, arith}
use Rattle.std.specs.Prelude.{IfErr, IsSome, is_some, option_map}
use Rattle.std.proofs.lemmas.Bool.{false≢true}
use Rattle.star_syntax.specs.declared.cell.Program.{Program}
use Rattle.star_syntax.specs.CellParts.{CellParts}
use Rattle.star_meaning.specs.Validity.{MachineState}
use Rattle.kernel_api.specs.Stock.{IsStock, Stock, begun}
use Rattle.exec_tree.specs.Forests.{ForestParts, cells_of}
use Rattle.plan_type.specs.declared.budget.Budget.{Budget}
use Rattle.plan_type.specs.declared.costs.Costs.{Costs}
use Rattle.plan_type.specs.declared.plan.Plan.{Plan}
use Rattle.plan_type.specs.declared.row.Row.{Row}
use Rattle.plan_type.specs.Costs.{IsSound, blocks_of, tree_of}
use Rattle.plan_type.specs.Operations.{CarriesOut, Machine, Ops, after_all, operations_of, ran, start}
use Rattle.plan_type.specs.Plan.{IsPlan, peak, work}
use Rattle.plan_type.specs.Prices.{prices_of}
use Rattle.replayer.specs.declared.difference.Difference.{Difference}
use Rattle.replayer.specs.declared.fault.ReplayFault.{ReplayFault}
use Rattle.replayer.specs.declared.fault.ReplayFault.TheVariants as fault
use Rattle.replayer.specs.Nodes.{program_of}
use Rattle.replayer.specs.Trees.{AreRecorded, AreTexts, IsRowAt}
use Rattle.replayer.specs.Courses.{IsFirstToDiffer, Printed}
use Rattle.replayer.specs.Faults.{StopsAt, StopsSo}
use Rattle.replayer.specs.Machines.{DiffersBy, IsAlikeAt, IsFine, Stands, Tells, pairs_of, steps_in_all}
use Rattle.std.specs.List.{AllByRecursion}
use Rattle.replayer.proofs.FineLemmas.{all_fine}
use Rattle.replayer.proofs.PrintLemmas.{all_texts}
use Rattle.replayer.proofs.StopLemmas.{differs_as}
use Rattle.replayer.proofs.WorkLemmas.{work_fits, work_is}

-- the program of a forest is the one with its cells
pub program_is : (program : Program) (cells : List CellParts) → program.cells ≡ cells → program ≡ record { cells = cells }
program_is program cells is = ap (λ c. record { cells = c }) is

-- ---- a store that began

module _ (block most : ℕ) (before stock : Stock) (is : stock ≡ begun block most before) where
  pub begun_stands : (forest : ForestParts) (costs : Costs) (live : Option MachineState) → Stands forest costs live stock start
  begun_stands forest costs live =
      subst (λ k. Stands forest costs live k start) (sym is) (record { live_is = tt; held_is = refl; peak_is = refl; once = tt })

  pub begun_limits : (stock.block ≡ block) × (stock.most ≡ most)
  begun_limits = (ap (λ (k : Stock). k.block) is, ap (λ (k : Stock). k.most) is)

  told_by : (told : Option (List (ℕ × List ℕ))) (files : List (ℕ × List ℕ)) → option_map (λ x. []) told ≡ Some files → files ≡ []
  told_by None files never = cc
  told_by (Some x) files here = cc

  pub begun_told : (files : List (ℕ × List ℕ)) → stock.told ≡ Some files → files ≡ []
  begun_told files here = told_by before.told files (sym (ap (λ (k : Stock). k.told) is) ∙ here)

  -- it tells where it told before
  pub told_still : (files : List (ℕ × List ℕ)) → before.told ≡ Some files → stock.told ≡ Some []
  told_still files has = ap (λ (k : Stock). k.told) is ∙ ap (option_map (λ x. [])) has

some_by : (told : Option (List (ℕ × List ℕ))) → is_some told ≡ true → (files : List (ℕ × List ℕ)) × (told ≡ Some files)
some_by None never = absurd (false≢true never)
some_by (Some files) some = (files, refl)

pub told_some : (block most : ℕ) (before stock : Stock) → stock ≡ begun block most before → IsSome before.told → stock.told ≡ Some []
told_some block most before stock is some = let (files, has) = some_by before.told some in told_still block most before stock is files has

-- ---- what a plan's operations are

module _ (costs : Costs) (budget : Budget) (plan : Plan) (sound : IsSound costs) (class : IsPlan costs plan) (ops : Ops) (list : ops ≡ operations_of costs budget plan) (carries : CarriesOut costs budget plan ops) where
  pub plan_fine : AllByRecursion (IsFine costs) ops
  plan_fine = subst (AllByRecursion (IsFine costs)) (sym list) (all_fine costs sound budget plan class)

  pub plan_work : steps_in_all ops ≡ work costs plan
  plan_work = work_is costs budget plan ops carries

  pub plan_room : (before old allowance : ℕ) → before ≤ 2 ^ 63 + 2 ^ 40 → old ≡ before → allowance ≤ 1000000 → old + steps_in_all ops + allowance < 2 ^ 64
  plan_room before old allowance low same few = let w = plan_work in let f = work_fits costs sound plan class in omega (arith, low, same, few, w, f)

  pub work_steps : (before old now : ℕ) → old ≡ before → now ≡ old + steps_in_all ops → now ≡ before + work costs plan
  work_steps before old now same rose = let w = plan_work in omega (arith, same, rose, w)

  pub plan_texts : (forest : ForestParts) (allowance : ℕ) (texts : List (List ℕ)) → length texts ≡ length costs.rows → Printed forest costs allowance ops texts → AreTexts forest costs allowance texts × AreRecorded forest costs allowance
  plan_texts forest allowance texts many printed = all_texts forest costs allowance ops texts many plan_fine carries.reached printed

  pub plan_live : (forest : ForestParts) (allowance : ℕ) (live : Option MachineState) (told : Option (List (ℕ × List ℕ)))
      → Tells forest allowance live told (after_all (tree_of costs budget.block) (prices_of budget) ops start).live → IsAlikeAt forest allowance live (ran costs budget (operations_of costs budget plan)).live
  plan_live forest allowance live told t = subst (λ os. IsAlikeAt forest allowance live (ran costs budget os).live) list t.live_is

  -- nothing is stored in the end, and the peak is the plan's
  pub plan_stock : (forest : ForestParts) (live : Option MachineState) (stock : Stock) → Stands forest costs live stock (after_all (tree_of costs budget.block) (prices_of budget) ops start)
      → (stock.held ≡ []) × (stock.peak ≡ peak costs budget plan)
  plan_stock forest live stock s = (s.held_is ∙ ap (pairs_of (blocks_of costs stock.block)) carries.stored, s.peak_is ∙ carries.greatest)

-- ---- the bound

pub bounded : (before now : Stock) (block most : ℕ) → IsStock now → (now.block ≡ block) × (now.most ≡ most) → (now ≡ before) ⊎ ((now.block ≡ block) × (now.most ≡ most) × (now.peak ≤ most))
bounded before now block most stocked limits = let b = stocked.bounded in let m = limits.1 in inr (limits.0, limits.1, omega (arith, b, m))

-- ---- why it stops

pub first_as : (forest : ForestParts) (costs : Costs) (allowance : ℕ) (told before : Option (List (ℕ × List ℕ))) (os all : Ops) (v : ℕ) (d : Difference)
    → ((files : List (ℕ × List ℕ)) → before ≡ Some files → told ≡ Some []) → os ≡ all → IsFirstToDiffer forest costs allowance told os v d → IsFirstToDiffer forest costs allowance before all v d
first_as forest costs allowance told before os all v d still list f = record {
  done = f.done;
  steps = f.steps;
  rest = f.rest;
  here = sym list ∙ f.here;
  before = λ files has w done. f.before [] (still files has) w done;
  differs = differs_as costs v v d
      (λ row. (files : List (ℕ × List ℕ)) → told ≡ Some files → IsRowAt forest allowance v row)
      (λ row. (files : List (ℕ × List ℕ)) → before ≡ Some files → IsRowAt forest allowance v row)
      refl (λ row p files has. p [] (still files has)) f.differs;
}

pub not_told : (told before : Option (List (ℕ × List ℕ))) → ((files : List (ℕ × List ℕ)) → before ≡ Some files → told ≡ Some []) → ((files : List (ℕ × List ℕ)) → told ≡ Some files → ⊥) → before ≡ None
not_told told None still never = refl
not_told told (Some files) still never = absurd (never [] (still files refl))

-- before an operation nothing was done
pub begin_leaves : (K S : Type 0) (e : ReplayFault) (ops : Ops) → StopsSo K S (λ v d. ⊥) (λ v. ⊥) e → StopsAt e ops
begin_leaves K S fault.KernelFailed ops h = tt
begin_leaves K S fault.StoreFailed ops h = tt
begin_leaves K S (fault.Differs v d) ops h = absurd h
begin_leaves K S (fault.Damaged v) ops h = absurd h
begin_leaves K S fault.NoMemory ops h = tt

pub none_leaves : (e : ReplayFault) (ops : Ops) → e ≡ fault.NoMemory → StopsAt e ops
none_leaves e ops is = subst (λ x. StopsAt x ops) (sym is) tt

module _ {T : Type 0} (e : ReplayFault) where
  -- the answer of a part, as that of the whole
  pub part_kernel : (K L S : Type 0) (D : ℕ → Difference → Type 0) (M : ℕ → Type 0) → (K → L) → StopsSo K S D M e → ◌≡◌ {A = Result T ReplayFault} (Err e) (Err fault.KernelFailed) → L
  part_kernel K L S D M f h is = f (subst (λ (x : Result T ReplayFault). IfErr x (StopsSo K S D M)) is h)

  pub part_store : (K S L : Type 0) (D : ℕ → Difference → Type 0) (M : ℕ → Type 0) → (S → L) → StopsSo K S D M e → ◌≡◌ {A = Result T ReplayFault} (Err e) (Err fault.StoreFailed) → L
  part_store K S L D M f h is = f (subst (λ (x : Result T ReplayFault). IfErr x (StopsSo K S D M)) is h)

  pub part_differs : (K S : Type 0) (D E : ℕ → Difference → Type 0) (M : ℕ → Type 0) → ((v : ℕ) (d : Difference) → D v d → E v d) → StopsSo K S D M e
      → (v : ℕ) (d : Difference) → ◌≡◌ {A = Result T ReplayFault} (Err e) (Err (fault.Differs v d)) → E v d
  part_differs K S D E M f h v d is = f v d (subst (λ (x : Result T ReplayFault). IfErr x (StopsSo K S D M)) is h)

  pub part_damaged : (K S : Type 0) (D : ℕ → Difference → Type 0) (M N : ℕ → Type 0) → ((v : ℕ) → M v → N v) → StopsSo K S D M e → (v : ℕ) → ◌≡◌ {A = Result T ReplayFault} (Err e) (Err (fault.Damaged v)) → N v
  part_damaged K S D M N f h v is = f v (subst (λ (x : Result T ReplayFault). IfErr x (StopsSo K S D M)) is h)
