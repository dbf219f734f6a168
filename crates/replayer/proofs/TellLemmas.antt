-- A store that tells its bytes, beside the states of nodes.
use Rattle.std.proofs.Common.{◌≡◌, ◌≢◌, ℕ, ◌+◌, ◌-◌, ◌^◌, ◌<◌, Bool, true, false, cond, List, [], ◌∷◌, ◌++◌, length, nat_eq, Option, Some, None, refl, sym, ap, ap₂, ◌∙◌, subst, ◌⊎◌, inl, inr}
use Rattle.std.specs.Prelude.{IfSome, option_map, slice_set}
use Rattle.std.specs.List.{AllByRecursion}
use Rattle.std.proofs.lemmas.Bool.Decides.{Decides-eqb}
use Rattle.star_syntax.specs.declared.cell.Program.{Program}
use Rattle.star_meaning.specs.Alike.{AlikeMachines}
use Rattle.star_meaning.specs.Cells.{cell_text}
use Rattle.star_meaning.specs.Snapshot.{IsBytesOf, IsSnapshot}
use Rattle.star_meaning.specs.Validity.{IsValid, MachineState, nothing_ran}
use Rattle.kernel_api.specs.Live.{PutsSnapshot}
use Rattle.kernel_api.specs.Stock.{Stock, at, with_evict, with_put}
use Rattle.kernel_api.specs.Stock.{without as without_pair}
use Rattle.exec_tree.specs.Forests.{ForestParts}
use Rattle.exec_tree.specs.Forests as tree
use Rattle.plan_type.specs.declared.costs.Costs.{Costs}
use Rattle.plan_type.specs.declared.row.Row.{Row}
use Rattle.plan_type.specs.declared.operations.Operation.{Operation}
use Rattle.plan_type.specs.declared.operations.Operation.TheVariants.{Reset, Compute, Checkpoint, Restore, Evict}
use Rattle.plan_type.specs.Costs.{IsReached, IsSound, row_of, tree_of}
use Rattle.plan_type.specs.Operations.{Legal, Machine, after}
use Rattle.plan_type.specs.Prices.{Prices}
use Rattle.replayer.specs.Nodes.{depth_at, inputs_at, program_of, result_at, state_at, text_at}
use Rattle.replayer.specs.Trees.{IsRecorded, IsRowAt, IsTreeOf}
use Rattle.replayer.specs.Machines.{IsAlikeAt, IsDamaged, IsRowIn, IsTaken, PrintsSo, RanSo, Tells, ran_in, state_in}
use Rattle.replayer.proofs.AlikeLemmas.{nothing_alike, over, result_alike, runs_alike, told_alike}
use Rattle.replayer.proofs.PathLemmas.{result_is, state_none, state_ran, state_step}
use Rattle.replayer.proofs.StandLemmas.{live_above}
use Rattle.replayer.proofs.TreeLemmas.{depth_of, low_of, node_of}

-- ---- files

module _ {X : Type 0} (P : X → Type 0) where
  pub all_push : (xs : List X) (x : X) → AllByRecursion P xs → P x → AllByRecursion P (xs ++ x ∷ [])
  all_push [] x all own = (own, tt)
  all_push (y ∷ ys) x all own = (all.0, all_push ys x all.1 own)

module _ (P : ℕ → List ℕ → Type 0) where
  abbrev Each : List (ℕ × List ℕ) → Type 0
  Each = AllByRecursion (λ file. P file.0 file.1)

  each_left : (b : Bool) (file : ℕ × List ℕ) (files left : List (ℕ × List ℕ)) → P file.0 file.1 → Each files → Each left → Each (cond b files (file ∷ left))
  each_left true file files left own all more = all
  each_left false file files left own all more = (own, more)

  pub each_without : (v : ℕ) (files : List (ℕ × List ℕ)) → AllByRecursion (λ file. P file.0 file.1) files → AllByRecursion (λ file. P file.0 file.1) (without_pair v files)
  each_without v [] all = tt
  each_without v (file ∷ files) all = each_left (nat_eq v file.0) file files (without_pair v files) all.0 all.1 (each_without v files all.1)

  at_here : (v : ℕ) (b : Bool) (file : ℕ × List ℕ) (bytes : List ℕ) (found : Option (List ℕ)) → nat_eq v file.0 ≡ b → P file.0 file.1 → (found ≡ Some bytes → P v bytes)
      → cond b (Some file.1) found ≡ Some bytes → P v bytes
  at_here v true file bytes found is own more there =
      let spot : v ≡ file.0 = (Decides-eqb v file.0).0 is in
      let same : file.1 ≡ bytes = cc in
      subst (λ x. P v x) same (subst (λ n. P n file.1) (sym spot) own)
  at_here v false file bytes found is own more there = more there

  pub each_at : (v : ℕ) (files : List (ℕ × List ℕ)) (bytes : List ℕ) → AllByRecursion (λ file. P file.0 file.1) files → at v files ≡ Some bytes → P v bytes
  each_at v [] bytes all never = absurd (cc)
  each_at v (file ∷ files) bytes all there = at_here v (nat_eq v file.0) file bytes (at v files) refl all.0 (each_at v files bytes all.1) there

-- ---- what a store gave

-- a state was restored from the bytes of a node
abbrev pub Got : Program → Option MachineState → ℕ → List (ℕ × List ℕ) → Type 0
Got program now v files = (s : MachineState) × (bytes : List ℕ) × (now ≡ Some s) × IsValid program s × IsBytesOf s bytes × (length bytes < 2 ^ 64) × (at v files ≡ Some bytes)

-- the bytes of a node are damaged
abbrev pub Hurt : Program → ℕ → ℕ → List (ℕ × List ℕ) → Type 0
Hurt program depth v files = (bytes : List ℕ) × (at v files ≡ Some bytes) × IsDamaged program depth bytes

-- ---- before and after an operation

module _ (forest : ForestParts) (allowance : ℕ) where
  -- the live state of a node
  pub alike_live : (live : Option MachineState) (u : ℕ) (spot : Option ℕ) → spot ≡ Some u → IsAlikeAt forest allowance live spot → (s : MachineState) × (live ≡ Some s) × AlikeMachines s (state_at forest allowance u)
  alike_live live u spot is h = subst (IsAlikeAt forest allowance live) is h

  pub told_reset : (live now : Option MachineState) (told : Option (List (ℕ × List ℕ))) (spot : Option ℕ) → now ≡ Some nothing_ran → Tells forest allowance live told spot → Tells forest allowance now told (Some 0)
  told_reset live now told spot is t = record {
    files = t.files;
    told_is = t.told_is;
    taken = t.taken;
    live_is = (nothing_ran, is, subst (λ s. AlikeMachines nothing_ran s) (sym (state_none forest allowance)) nothing_alike);
  }

  some_same : {A : Type 0} (a b : A) → Some a ≡ Some b → a ≡ b
  some_same a b is = cc

  pub told_put : (v : ℕ) (live now : Option MachineState) (stock stock_now : Stock) (spot : Option ℕ) → spot ≡ Some v → IfSome live (IsValid (program_of forest)) → now ≡ live
      → ((s : MachineState) → live ≡ Some s → PutsSnapshot s v stock stock_now) → Tells forest allowance live stock.told spot → Tells forest allowance now stock_now.told spot
  told_put v live now stock stock_now spot is valid same put t =
      let (s, at, alike) = alike_live live v spot is t.live_is in
      let (bytes, told, gone) = put s at in
      let own : IsTaken forest allowance v bytes = (s, subst (λ x. IfSome x (IsValid (program_of forest))) at valid, alike, told) in
      record {
        files = t.files ++ (v, bytes) ∷ [];
        told_is = ap (λ (k : Stock). k.told) gone ∙ ap (option_map (λ files. files ++ (v, bytes) ∷ [])) t.told_is;
        taken = all_push (λ file. IsTaken forest allowance file.0 file.1) t.files (v, bytes) t.taken own;
        live_is = subst (λ x. IsAlikeAt forest allowance x spot) (sym same) t.live_is;
      }

  pub told_evict : (v : ℕ) (live : Option MachineState) (stock stock_now : Stock) (spot : Option ℕ) → stock_now ≡ with_evict v stock → Tells forest allowance live stock.told spot → Tells forest allowance live stock_now.told spot
  told_evict v live stock stock_now spot gone t = record {
    files = without_pair v t.files;
    told_is = ap (λ (k : Stock). k.told) gone ∙ ap (option_map (without_pair v)) t.told_is;
    taken = each_without (IsTaken forest allowance) v t.files t.taken;
    live_is = t.live_is;
  }

  -- what a restored state must be
  pub told_restore : (v : ℕ) (live now : Option MachineState) (told : Option (List (ℕ × List ℕ))) (spot : Option ℕ)
      → IfSome told (Got (program_of forest) now v)
      → Tells forest allowance live told spot → Tells forest allowance now told (Some v)
  told_restore v live now told spot got t =
      let (s, bytes, is, valid, is_bytes, small, found) = subst (λ o. IfSome o (Got (program_of forest) now v)) t.told_is got in
      let (a, valid_a, alike, told_a) = each_at (IsTaken forest allowance) v t.files bytes t.taken found in
      record {
        files = t.files;
        told_is = t.told_is;
        taken = t.taken;
        live_is = (s, is, over s a (state_at forest allowance v) (told_alike (program_of forest) s a bytes valid valid_a small is_bytes told_a) alike);
      }

  -- what was put for a node is never damaged
  pub told_whole : (v : ℕ) (live : Option MachineState) (told : Option (List (ℕ × List ℕ))) (spot : Option ℕ)
      → IfSome told (Hurt (program_of forest) (depth_at forest v) v) → Tells forest allowance live told spot → ⊥
  told_whole v live told spot got t =
      let (bytes, found, damaged) = subst (λ o. IfSome o (Hurt (program_of forest) (depth_at forest v) v)) t.told_is got in
      let (a, valid_a, alike, told_a) = each_at (IsTaken forest allowance) v t.files bytes t.taken found in
      by bytes a valid_a alike told_a damaged
    where
      by : (bytes : List ℕ) (a : MachineState) → IsValid (program_of forest) a → AlikeMachines a (state_at forest allowance v) → IsBytesOf a bytes → IsDamaged (program_of forest) (depth_at forest v) bytes → ⊥
      by bytes a valid_a alike told_a (inl none) = none (a, valid_a, told_a)
      by bytes a valid_a alike told_a (inr (s, valid, told_s, small, other)) =
          let same = told_alike (program_of forest) s a bytes valid valid_a small told_s told_a in
          other (ap length same.ran ∙ ap length alike.ran ∙ state_ran forest allowance v)

  -- ---- a node that ran

  module _ (costs : Costs) (sound : IsSound costs) (is_tree : IsTreeOf costs forest) (v : ℕ) (reached : IsReached costs v) where
    state_is : state_at forest allowance v ≡ state_in forest allowance v (state_at forest allowance (tree.parent_of forest v))
    state_is = let n = node_of costs forest sound is_tree v reached in state_step forest allowance v n.0 n.1 (low_of costs forest sound is_tree v reached)

    deep : (s : MachineState) → AlikeMachines s (state_at forest allowance (tree.parent_of forest v)) → length s.ran + 1 ≡ depth_at forest v
    deep s alike =
        ap (λ n. n + 1) (ap length alike.ran ∙ state_ran forest allowance (tree.parent_of forest v))
        ∙ sym (depth_of costs forest sound is_tree v reached)

    -- from a state that is alike to its parent's it does what the node does
    pub row_at : (s : MachineState) (row : Row) → AlikeMachines s (state_at forest allowance (tree.parent_of forest v)) → IsRowIn forest allowance v s row → IsRowAt forest allowance v row
    row_at s row alike h =
        let u = state_at forest allowance (tree.parent_of forest v) in
        let runs = runs_alike (program_of forest) s u v (inputs_at forest v) allowance alike in
        result_alike (length s.ran + 1) (depth_at forest v) (ran_in forest allowance v s) (result_at forest allowance v) (state_in forest allowance v s) (state_at forest allowance v) row
        (deep s alike) (sym runs.0 ∙ sym (result_is forest allowance v)) (subst (λ x. AlikeMachines (state_in forest allowance v s) x) (sym state_is) runs.1) h

    pub told_compute : (live now : Option MachineState) (told : Option (List (ℕ × List ℕ))) (spot : Option ℕ) (text : List ℕ) (n : ℕ) (before after : List (List ℕ)) → spot ≡ Some (tree.parent_of forest v)
        → ((s : MachineState) → live ≡ Some s → RanSo forest costs allowance v s now text) → after ≡ slice_set before (v - 1) text → Tells forest allowance live told spot
        → Tells forest allowance now told (Some v) × PrintsSo forest costs allowance (Compute v n) before after
    told_compute live now told spot text n before after is ran set t =
        let (s, at, alike) = alike_live live (tree.parent_of forest v) spot is t.live_is in
        let did = ran s at in
        let u = state_at forest allowance (tree.parent_of forest v) in
        let runs = runs_alike (program_of forest) s u v (inputs_at forest v) allowance alike in
        let same : ran_in forest allowance v s ≡ result_at forest allowance v = sym runs.0 ∙ sym (result_is forest allowance v) in
        let prints : text ≡ text_at forest allowance v = did.text_is ∙ ap₂ cell_text (deep s alike) same in (
          record {
            files = t.files;
            told_is = t.told_is;
            taken = t.taken;
            live_is = (state_in forest allowance v s, did.live_is, subst (λ x. AlikeMachines (state_in forest allowance v s) x) (sym state_is) runs.1);
          },
          (set ∙ ap (slice_set before (v - 1)) prints, λ row at. row_at s row alike (did.row_is row at)),
        )
