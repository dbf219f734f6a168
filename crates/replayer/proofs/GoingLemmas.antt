-- A list of operations that is being carried out.
use Rattle.std.proofs.Common.{◌≡◌, ℕ, zero, suc, ◌+◌, ◌^◌, ◌<◌, ◌≤◌, List, [], ◌∷◌, ◌++◌, length, get_or, take, drop, replicate, Option, Some, None, refl, sym, ap, ◌∙◌, subst, arith}
use Rattle.std.specs.List.{AllByRecursion}
use Rattle.std.proofs.lemmas.List.{drop_more, drop_all, length-replicate, take_more, take_all}
use Rattle.star_meaning.specs.Validity.{MachineState}
use Rattle.kernel_api.specs.Stock.{Stock}
use Rattle.exec_tree.specs.Forests.{ForestParts}
use Rattle.plan_type.specs.declared.costs.Costs.{Costs}
use Rattle.plan_type.specs.declared.operations.Operation.{Operation}
use Rattle.plan_type.specs.Costs.{IsSound, tree_of}
use Rattle.plan_type.specs.Operations.{Legal, LegalAll, Machine, Ops, after, after_all, start}
use Rattle.plan_type.specs.Prices.{Prices}
use Rattle.tap_list.specs.Listeners.{Listener, Tells as TellsOne}
use Rattle.replayer.specs.Courses.{Printed}
use Rattle.replayer.specs.Listening.{TellsAll}
use Rattle.replayer.specs.Machines.{IsFine, PrintsSo, Stands, Tells, steps_in, steps_in_all}
use Rattle.replayer.proofs.PrintLemmas.{printed_more, printed_none}

-- ---- the next operation

pub next_is : (ops : Ops) (i : ℕ) (o : Operation) → i < length ops → o ≡ get_or ops i o → drop i ops ≡ o ∷ drop (i + 1) ops
next_is ops i o within is = drop_more ops i o within ∙ ap (λ x. x ∷ drop (i + 1) ops) (sym is)

pub done_is : (ops : Ops) (i : ℕ) (o : Operation) → i < length ops → o ≡ get_or ops i o → take (i + 1) ops ≡ take i ops ++ o ∷ []
done_is ops i o within is = take_more ops i o within ∙ ap (λ x. take i ops ++ x ∷ []) (sym is)

-- the operations are those that were done, and the others
pub parts_are : (ops : Ops) (i : ℕ) → ops ≡ take i ops ++ drop i ops
parts_are ops zero = refl
parts_are [] (suc i) = refl
parts_are (o ∷ ops) (suc i) = ap (λ rest. o ∷ rest) (parts_are ops i)

-- the steps that are left
pub steps_next : (ops : Ops) (i : ℕ) (o : Operation) → i < length ops → o ≡ get_or ops i o → steps_in_all (drop i ops) ≡ steps_in o + steps_in_all (drop (i + 1) ops)
steps_next ops i o within is = ap steps_in_all (next_is ops i o within is)

pub steps_none : (ops : Ops) (i : ℕ) → length ops ≤ i → steps_in_all (drop i ops) ≡ 0
steps_none ops i past = ap steps_in_all (drop_all i ops past)

-- ---- listeners

-- one operation more is told
pub tells_more : (os : Ops) (o : Operation) (live retired between gone live_now retired_now : List Listener) → TellsAll os live retired between gone → TellsOne o between gone live_now retired_now
    → TellsAll (os ++ o ∷ []) live retired live_now retired_now
tells_more [] o live retired between gone live_now retired_now h k =
    (live_now, retired_now, subst (λ x. TellsOne o x retired live_now retired_now) h.0 (subst (λ x. TellsOne o between x live_now retired_now) h.1 k), (refl, refl))
tells_more (p ∷ os) o live retired between gone live_now retired_now (next, left, one, all) k =
    (next, left, one, tells_more os o next left between gone live_now retired_now all k)

pub tells_next : (ops : Ops) (i : ℕ) (o : Operation) → i < length ops → o ≡ get_or ops i o → (live retired between gone live_now retired_now : List Listener) → TellsAll (take i ops) live retired between gone
    → TellsOne o between gone live_now retired_now → TellsAll (take (i + 1) ops) live retired live_now retired_now
tells_next ops i o within is live retired between gone live_now retired_now h k =
    subst (λ os. TellsAll os live retired live_now retired_now) (sym (done_is ops i o within is)) (tells_more (take i ops) o live retired between gone live_now retired_now h k)

-- ---- where it stands

module _ (forest : ForestParts) (costs : Costs) (allowance block most : ℕ) (prices : Prices) (ops : Ops) (told : Option (List (ℕ × List ℕ))) where
  -- so many operations were done
  pub record Going (i : ℕ) (live : Option MachineState) (stock : Stock) (texts : List (List ℕ)) : Type 0 where
    pub m : Machine
    pub stands : Stands forest costs live stock m
    pub legal : LegalAll (tree_of costs block) prices most (drop i ops) m
    pub ends : after_all (tree_of costs block) prices (drop i ops) m ≡ after_all (tree_of costs block) prices ops start
    pub tells : (files : List (ℕ × List ℕ)) → told ≡ Some files → Tells forest allowance live stock.told m.live × Printed forest costs allowance (take i ops) texts
    pub fine : AllByRecursion (IsFine costs) (drop i ops)
    pub block_is : stock.block ≡ block
    pub most_is : stock.most ≡ most
    pub many : length texts ≡ length costs.rows

  pub begins : (live : Option MachineState) (stock : Stock) (texts : List (List ℕ)) → stock.told ≡ told → Stands forest costs live stock start → ((files : List (ℕ × List ℕ)) → told ≡ Some files → files ≡ [])
      → LegalAll (tree_of costs block) prices most ops start → AllByRecursion (IsFine costs) ops → stock.block ≡ block → stock.most ≡ most → texts ≡ replicate (length costs.rows) []
      → length texts ≡ length costs.rows → Going 0 live stock texts
  begins live stock texts same stands none legal fine block_is most_is texts_are many = record {
    m = start;
    stands = stands;
    legal = legal;
    ends = refl;
    tells = λ files is. (
      record { files = []; told_is = same ∙ is ∙ ap Some (none files is); taken = tt; live_is = tt },
      printed_none forest costs allowance texts texts_are,
    );
    fine = fine;
    block_is = block_is;
    most_is = most_is;
    many = many;
  }

  pub legal_at : (i : ℕ) (o : Operation) (live : Option MachineState) (stock : Stock) (texts : List (List ℕ)) → i < length ops → o ≡ get_or ops i o → (g : Going i live stock texts)
      → Legal (tree_of costs stock.block) stock.most o g.m
  legal_at i o live stock texts within is g =
      let all : LegalAll (tree_of costs block) prices most (o ∷ drop (i + 1) ops) g.m = subst (λ os. LegalAll (tree_of costs block) prices most os g.m) (next_is ops i o within is) g.legal in
      subst (λ b. Legal (tree_of costs b) stock.most o g.m) (sym g.block_is) (subst (λ k. Legal (tree_of costs block) k o g.m) (sym g.most_is) all.0)

  -- the next operation may come
  pub may_come : (i : ℕ) (o : Operation) (live : Option MachineState) (stock : Stock) (texts : List (List ℕ)) → i < length ops → o ≡ get_or ops i o → Going i live stock texts
      → (m : Machine) × Stands forest costs live stock m × Legal (tree_of costs stock.block) stock.most o m
  may_come i o live stock texts within is g = (g.m, g.stands, legal_at i o live stock texts within is g)

  pub is_fine : (i : ℕ) (o : Operation) (live : Option MachineState) (stock : Stock) (texts : List (List ℕ)) → i < length ops → o ≡ get_or ops i o → Going i live stock texts → IsFine costs o
  is_fine i o live stock texts within is g =
      let all : AllByRecursion (IsFine costs) (o ∷ drop (i + 1) ops) = subst (AllByRecursion (IsFine costs)) (next_is ops i o within is) g.fine in all.0

  -- what an operation makes of it
  pub record Stepped (o : Operation) (live now : Option MachineState) (stock stock_now : Stock) (texts texts_now : List (List ℕ)) : Type 0 where
    pub stands : (m : Machine) (prices : Prices) → Stands forest costs live stock m → Legal (tree_of costs stock.block) stock.most o m
        → Stands forest costs now stock_now (after (tree_of costs stock.block) prices o m)
    pub telling : (m : Machine) (prices : Prices) → Tells forest allowance live stock.told m.live → Legal (tree_of costs stock.block) stock.most o m
        → Tells forest allowance now stock_now.told (after (tree_of costs stock.block) prices o m).live × PrintsSo forest costs allowance o texts texts_now
    pub texts_many : length texts_now ≡ length texts
    pub block_is : stock_now.block ≡ stock.block
    pub most_is : stock_now.most ≡ stock.most

  pub goes : (i : ℕ) (o : Operation) (live now : Option MachineState) (stock stock_now : Stock) (texts texts_now : List (List ℕ)) → i < length ops → o ≡ get_or ops i o → Going i live stock texts
      → Stepped o live now stock stock_now texts texts_now → Going (i + 1) now stock_now texts_now
  goes i o live now stock stock_now texts texts_now within is g s =
      let next = next_is ops i o within is in
      let all : LegalAll (tree_of costs block) prices most (o ∷ drop (i + 1) ops) g.m = subst (λ os. LegalAll (tree_of costs block) prices most os g.m) next g.legal in
      let fines : AllByRecursion (IsFine costs) (o ∷ drop (i + 1) ops) = subst (AllByRecursion (IsFine costs)) next g.fine in
      let legal = legal_at i o live stock texts within is g in
      record {
        m = after (tree_of costs block) prices o g.m;
        stands = subst (λ b. Stands forest costs now stock_now (after (tree_of costs b) prices o g.m)) g.block_is (s.stands g.m prices g.stands legal);
        legal = all.1;
        ends = sym (ap (λ os. after_all (tree_of costs block) prices os g.m) next) ∙ g.ends;
        tells = λ files has.
            let old = g.tells files has in
            let new = s.telling g.m prices old.0 legal in (
              subst (λ b. Tells forest allowance now stock_now.told (after (tree_of costs b) prices o g.m).live) g.block_is new.0,
              subst (λ os. Printed forest costs allowance os texts_now) (sym (done_is ops i o within is))
                  (printed_more forest costs allowance (take i ops) o texts texts_now g.many fines.0 old.1 new.1),
            );
        fine = fines.1;
        block_is = s.block_is ∙ g.block_is;
        most_is = s.most_is ∙ g.most_is;
        many = s.texts_many ∙ g.many;
      }

  -- all are done
  end_machine : (i : ℕ) (live : Option MachineState) (stock : Stock) (texts : List (List ℕ)) → length ops ≤ i → (g : Going i live stock texts) → g.m ≡ after_all (tree_of costs block) prices ops start
  end_machine i live stock texts past g = sym (ap (λ os. after_all (tree_of costs block) prices os g.m) (drop_all i ops past)) ∙ g.ends

  pub ends_standing : (i : ℕ) (live : Option MachineState) (stock : Stock) (texts : List (List ℕ)) → length ops ≤ i → Going i live stock texts
      → Stands forest costs live stock (after_all (tree_of costs block) prices ops start)
  ends_standing i live stock texts past g = subst (Stands forest costs live stock) (end_machine i live stock texts past g) g.stands

  pub ends_telling : (i : ℕ) (live : Option MachineState) (stock : Stock) (texts : List (List ℕ)) → length ops ≤ i → Going i live stock texts
      → (files : List (ℕ × List ℕ)) → told ≡ Some files → Tells forest allowance live stock.told (after_all (tree_of costs block) prices ops start).live × Printed forest costs allowance ops texts
  ends_telling i live stock texts past g files has =
      let t = g.tells files has in (
        subst (λ (m : Machine). Tells forest allowance live stock.told m.live) (end_machine i live stock texts past g) t.0,
        subst (λ os. Printed forest costs allowance os texts) (take_all i ops past) t.1,
      )

-- ---- numbers

pub le_then : (a b c : ℕ) → a ≤ b → b ≤ c → a ≤ c
le_then a b c low high = omega (arith, low, high)

pub room_left : (before now left all allowance : ℕ) → now + left ≡ before + all → before + all + allowance < 2 ^ 64 → now + allowance < 2 ^ 64
room_left before now left all allowance sum room = omega (arith, sum, room)

pub steps_end : (ops : Ops) (i before now : ℕ) → length ops ≤ i → now + steps_in_all (drop i ops) ≡ before + steps_in_all ops → now ≡ before + steps_in_all ops
steps_end ops i before now past sum = let e = steps_none ops i past in omega (arith, sum, e)

pub texts_many : (costs : Costs) (texts : List (List ℕ)) → texts ≡ replicate (length costs.rows) [] → length texts ≡ length costs.rows
texts_many costs texts is = ap length is ∙ length-replicate {A = List ℕ} (length costs.rows) []
