-- A kernel and a store that stand where the machine of operations does.
use Rattle.std.proofs.Common.{◌≡◌, ℕ, ◌+◌, ◌-◌, ◌^◌, ◌<◌, ◌≤◌, min, max, Bool, true, false, List, [], ◌∷◌, ◌++◌, length, Option, Some, None, refl, sym, ap, ap₂, ◌∙◌, subst, arith}
use Rattle.std.specs.Int.{div_ceil}
use Rattle.std.specs.List.{sum_by}
use Rattle.std.proofs.lemmas.Bool.{false≢true}
use Rattle.star_meaning.specs.Snapshot.{IsBytesOf}
use Rattle.star_meaning.specs.Validity.{MachineState, nothing_ran}
use Rattle.kernel_api.specs.Live.{IsSizeOf, PutsSnapshot, SnapshotPasses}
use Rattle.kernel_api.specs.Stock.{IsStock, Stock, blocks_held, holds, with_evict, with_put}
use Rattle.kernel_api.specs.Stock.{without as without_pair}
use Rattle.exec_tree.specs.Forests.{ForestParts}
use Rattle.exec_tree.specs.Forests as tree
use Rattle.plan_type.specs.declared.costs.Costs.{Costs}
use Rattle.plan_type.specs.declared.row.Row.{Row}
use Rattle.plan_type.specs.declared.operations.Operation.{Operation}
use Rattle.plan_type.specs.declared.operations.Operation.TheVariants.{Reset, Compute, Checkpoint, Restore, Evict}
use Rattle.plan_type.specs.Costs.{IsReached, IsSound, blocks_of, bytes_in, parent_of, row_of, tree_of}
use Rattle.plan_type.specs.Operations.{IsLive, Legal, Machine, after, stores}
use Rattle.plan_type.specs.Prices.{Prices}
use Rattle.replayer.specs.Nodes.{depth_at, inputs_at, program_of}
use Rattle.replayer.specs.Trees.{IsDone, IsTreeOf}
use Rattle.replayer.specs.Machines.{HasItsSize, RanSo, Stands, StandsLive, pairs_of, ran_in, state_in}
use Rattle.replayer.proofs.HeldLemmas.{blocks_pairs, holds_pairs, once_without, without_pairs}
use Rattle.replayer.proofs.PathLemmas.{depth_none, ran_more}
use Rattle.replayer.proofs.RowLemmas.{size_of_result}
use Rattle.replayer.proofs.SizeLemmas.{size_is}
use Rattle.replayer.proofs.TreeLemmas.{depth_of, few_above}

live_parent : (m : Machine) (u : ℕ) (p : Option ℕ) → IsLive m p → p ≡ Some u → m.live ≡ Some u
live_parent m u None h is = absurd h
live_parent m u (Some w) h is = h ∙ is

own_room : (sum b blocks due most : ℕ) → b ≡ blocks → blocks ≡ due → sum + b ≤ most → due ≤ most
own_room sum b blocks due most x y fits = omega (arith, x, y, fits)

module _ (costs : Costs) (forest : ForestParts) (live : Option MachineState) (stock : Stock) (m : Machine) (o : Operation) where
  legal_as : (p : Operation) → o ≡ p → Legal (tree_of costs stock.block) stock.most o m → Legal (tree_of costs stock.block) stock.most p m
  legal_as p is legal = subst (λ x. Legal (tree_of costs stock.block) stock.most x m) is legal

  -- ---- reset

  pub reset_stands : (prices : Prices) (now : Option MachineState) → o ≡ Reset → now ≡ Some nothing_ran → Stands forest costs live stock m
      → Stands forest costs now stock (after (tree_of costs stock.block) prices o m)
  reset_stands prices now is empty s =
      subst (λ x. Stands forest costs now stock (after (tree_of costs stock.block) prices x m)) (sym is)
      (record {
        live_is = (nothing_ran, empty, sym (depth_none forest), λ never. absurd (false≢true never));
        held_is = s.held_is;
        peak_is = s.peak_is;
        once = s.once;
      })

  -- ---- compute

  module _ (sound : IsSound costs) (is_tree : IsTreeOf costs forest) where
    -- the parent is live
    pub live_above : (v n : ℕ) → o ≡ Compute v n → IsReached costs v → Legal (tree_of costs stock.block) stock.most o m → m.live ≡ Some (tree.parent_of forest v)
    unfolding tree_of
    live_above v n is reached legal = live_parent m (tree.parent_of forest v) (parent_of costs v) (legal_as (Compute v n) is legal).0 (is_tree.parents v reached)

    pub at_compute : (v n : ℕ) → o ≡ Compute v n → IsReached costs v → Stands forest costs live stock m → Legal (tree_of costs stock.block) stock.most o m
        → (s : MachineState) × (live ≡ Some s) × (length s.ran + 1 ≡ depth_at forest v)
    at_compute v n is reached s legal =
        let l : StandsLive forest costs live (Some (tree.parent_of forest v)) m.fresh = subst (λ x. StandsLive forest costs live x m.fresh) (live_above v n is reached legal) s.live_is in
        let d = depth_of costs forest sound is_tree v reached in
        let e = l.2 in
        (l.0, l.1, omega (arith, d, e))

    pub few_at_compute : (v n : ℕ) → o ≡ Compute v n → IsReached costs v → Stands forest costs live stock m → Legal (tree_of costs stock.block) stock.most o m
        → (s : MachineState) × (live ≡ Some s) × (length s.ran < 64)
    few_at_compute v n is reached s legal =
        let here = at_compute v n is reached s legal in
        let d = here.2 in
        let f = few_above costs forest sound is_tree v reached in
        (here.0, here.1, omega (arith, d, f))

    pub compute_stands : (v n allowance : ℕ) (prices : Prices) (now : Option MachineState) (text : List ℕ) → o ≡ Compute v n → IsReached costs v
        → ((s : MachineState) → live ≡ Some s → RanSo forest costs allowance v s now text) → Stands forest costs live stock m → Legal (tree_of costs stock.block) stock.most o m
        → Stands forest costs now stock (after (tree_of costs stock.block) prices o m)
    compute_stands v n allowance prices now text is reached ran s legal =
        let here = at_compute v n is reached s legal in
        let did = ran here.0 here.1 in
        let more = ran_more (program_of forest) here.0 v (inputs_at forest v) allowance in
        let deep = here.2 in
        subst (λ x. Stands forest costs now stock (after (tree_of costs stock.block) prices x m)) (sym is)
        (record {
          live_is = (
            state_in forest allowance v here.0,
            did.live_is,
            omega (arith, more, deep),
            λ fresh row at done. size_of_result (length here.0.ran + 1) (ran_in forest allowance v here.0) (state_in forest allowance v here.0) row (did.row_is row at) done,
          );
          held_is = s.held_is;
          peak_is = s.peak_is;
          once = s.once;
        })

  -- ---- checkpoint

  pub not_held : (v b : ℕ) → o ≡ Checkpoint v b → Stands forest costs live stock m → Legal (tree_of costs stock.block) stock.most o m → holds v stock.held ≡ false
  not_held v b is s legal = ap (holds v) s.held_is ∙ holds_pairs (blocks_of costs stock.block) v m.stored ∙ (legal_as (Checkpoint v b) is legal).2

  -- what is live was just computed
  just_computed : (v b : ℕ) → o ≡ Checkpoint v b → Stands forest costs live stock m → Legal (tree_of costs stock.block) stock.most o m
      → (s : MachineState) × (live ≡ Some s) × HasItsSize costs v s
  just_computed v b is s legal =
      let l = legal_as (Checkpoint v b) is legal in
      let here : StandsLive forest costs live (Some v) m.fresh = subst (λ x. StandsLive forest costs live x m.fresh) l.0 s.live_is in
      (here.0, here.1, here.3 l.1)

  -- its bytes take the blocks of its row
  blocks_are : (v b : ℕ) → o ≡ Checkpoint v b → IsStock stock → IsDone costs v → Legal (tree_of costs stock.block) stock.most o m
      → (s : MachineState) → HasItsSize costs v s → (bytes : List ℕ) → IsBytesOf s bytes → div_ceil (length bytes) stock.block ≡ blocks_of costs stock.block v
  unfolding tree_of
  blocks_are v b is stocked (row, at, done) legal s sized bytes told =
      let l = legal_as (Checkpoint v b) is legal in
      let own : b ≡ blocks_of costs stock.block v = l.3 in
      let room : sum_by (blocks_of costs stock.block) m.stored + b ≤ stock.most = l.4 in
      let by_row : blocks_of costs stock.block v ≡ div_ceil row.bytes stock.block = ap (λ r. div_ceil (bytes_in r) stock.block) at in
      let low = stocked.small in let high = stocked.large in let few = stocked.few in
      let size : row.bytes ≡ length bytes = size_is (length bytes) row.bytes stock.block stock.most (sized row at done bytes told) (own_room (sum_by (blocks_of costs stock.block) m.stored) b (blocks_of costs stock.block v) (div_ceil row.bytes stock.block) stock.most own by_row room) few (omega (arith, low)) high in
      ap (λ n. div_ceil n stock.block) (sym size) ∙ sym by_row

  held_sum : Stands forest costs live stock m → blocks_held stock.held ≡ sum_by (blocks_of costs stock.block) m.stored
  held_sum s = ap blocks_held s.held_is ∙ blocks_pairs (blocks_of costs stock.block) m.stored

  no_room : (most a b c d e : ℕ) → a ≡ b → c ≡ d → e ≡ d → b + e ≤ most → most < a + c → ⊥
  no_room most a b c d e x y z fits passes = omega (arith, x, y, z, fits, passes)

  -- there is room for it
  pub room_there : (v b : ℕ) → o ≡ Checkpoint v b → IsStock stock → IsDone costs v → Stands forest costs live stock m → Legal (tree_of costs stock.block) stock.most o m
      → (s : MachineState) × (live ≡ Some s) × (SnapshotPasses s stock → ⊥)
  unfolding tree_of
  room_there v b is stocked done s legal =
      let here = just_computed v b is s legal in
      let l = legal_as (Checkpoint v b) is legal in (
        here.0,
        here.1,
        λ passes. no_room stock.most (blocks_held stock.held) (sum_by (blocks_of costs stock.block) m.stored) (div_ceil (length passes.0) stock.block) (blocks_of costs stock.block v) b
            (held_sum s) (blocks_are v b is stocked done legal here.0 here.2 passes.0 passes.1) l.3 l.4 passes.2,
      )

  pub put_stands : (v b : ℕ) (prices : Prices) (now : Option MachineState) (stock_now : Stock) → o ≡ Checkpoint v b → IsStock stock → IsDone costs v
      → ((s : MachineState) → live ≡ Some s → PutsSnapshot s v stock stock_now) → now ≡ live → Stands forest costs live stock m → Legal (tree_of costs stock.block) stock.most o m
      → Stands forest costs now stock_now (after (tree_of costs stock.block) prices o m)
  unfolding tree_of
  put_stands v b prices now stock_now is stocked done put same s legal =
      let here = just_computed v b is s legal in
      let l = legal_as (Checkpoint v b) is legal in
      let (bytes, told, gone) = put here.0 here.1 in
      let blocks : div_ceil (length bytes) stock.block ≡ blocks_of costs stock.block v = blocks_are v b is stocked done legal here.0 here.2 bytes told in
      let own : b ≡ blocks_of costs stock.block v = l.3 in
      let sum = held_sum s in
      let used : blocks_held stock.held + div_ceil (length bytes) stock.block ≡ sum_by (blocks_of costs stock.block) m.stored + b = ap₂ (λ x y. x + y) sum (blocks ∙ sym own) in
      subst (λ x. Stands forest costs now stock_now (after (tree_of costs stock.block) prices x m)) (sym is)
      (subst (λ k. Stands forest costs now k (after (tree_of costs stock.block) prices (Checkpoint v b) m)) (sym gone)
      (record {
        live_is = subst (λ x. StandsLive forest costs x m.live m.fresh) (sym same) s.live_is;
        held_is = ap₂ (λ all n. all ++ (v, n) ∷ []) s.held_is blocks;
        peak_is = ap₂ max s.peak_is used;
        once = (l.2, s.once);
      }))

  -- ---- restore and evict

  pub held_at_restore : (v : ℕ) → o ≡ Restore v → Stands forest costs live stock m → Legal (tree_of costs stock.block) stock.most o m → holds v stock.held ≡ true
  held_at_restore v is s legal = ap (holds v) s.held_is ∙ holds_pairs (blocks_of costs stock.block) v m.stored ∙ legal_as (Restore v) is legal

  pub held_at_evict : (v : ℕ) → o ≡ Evict v → Stands forest costs live stock m → Legal (tree_of costs stock.block) stock.most o m → holds v stock.held ≡ true
  held_at_evict v is s legal = ap (holds v) s.held_is ∙ holds_pairs (blocks_of costs stock.block) v m.stored ∙ legal_as (Evict v) is legal

  pub restore_stands : (v : ℕ) (prices : Prices) (now : Option MachineState) (stock_now : Stock) → o ≡ Restore v
      → (s : MachineState) × (now ≡ Some s) × (length s.ran ≡ depth_at forest v) → stock_now ≡ stock → Stands forest costs live stock m
      → Stands forest costs now stock_now (after (tree_of costs stock.block) prices o m)
  restore_stands v prices now stock_now is went same s =
      subst (λ x. Stands forest costs now stock_now (after (tree_of costs stock.block) prices x m)) (sym is)
      (subst (λ k. Stands forest costs now k (after (tree_of costs stock.block) prices (Restore v) m)) (sym same)
      (record {
        live_is = (went.0, went.1, went.2, λ never. absurd (false≢true never));
        held_is = s.held_is;
        peak_is = s.peak_is;
        once = s.once;
      }))

  pub evict_stands : (v : ℕ) (prices : Prices) (stock_now : Stock) → o ≡ Evict v → stock_now ≡ with_evict v stock → Stands forest costs live stock m → Legal (tree_of costs stock.block) stock.most o m
      → Stands forest costs live stock_now (after (tree_of costs stock.block) prices o m)
  evict_stands v prices stock_now is gone s legal =
      subst (λ x. Stands forest costs live stock_now (after (tree_of costs stock.block) prices x m)) (sym is)
      (subst (λ k. Stands forest costs live k (after (tree_of costs stock.block) prices (Evict v) m)) (sym gone)
      (record {
        live_is = s.live_is;
        held_is = ap (without_pair v) s.held_is ∙ without_pairs (blocks_of costs stock.block) v m.stored s.once (legal_as (Evict v) is legal);
        peak_is = s.peak_is;
        once = once_without v m.stored s.once;
      }))
