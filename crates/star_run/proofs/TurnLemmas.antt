-- The loops of a comprehension that are under way: what is left of them, and what each step leaves of that.
use Rattle.std.proofs.Common.{◌≡◌, ℕ, zero, suc, ◌+◌, ◌*◌, ◌-◌, ◌<◌, ◌≤◌, Bool, true, false, List, [], ◌∷◌, ◌++◌, map, length, drop, get_or, Option, Some, None, IsTrue, slice_get, refl, sym, ap, ◌∙◌, subst, arith, append_assoc, append-nil}
use Rattle.std.specs.Prelude.{Result, Ok, Err, IsSomeAnd, MatchOption, option_map, unwrap_or}
use Rattle.star_syntax.specs.declared.expression.Clause.{Clause}
use Rattle.star_syntax.specs.declared.expression.Expr.{Expr}
use Rattle.star_value.specs.declared.failure.Failure.{Failure}
use Rattle.star_value.specs.declared.failure.Failure.TheVariants as failure
use Rattle.star_value.specs.declared.stop.Stop.{Stop}
use Rattle.star_value.specs.declared.stop.Stop.TheVariants as stop
use Rattle.star_value.specs.declared.value.Value.{Value}
use Rattle.star_meaning.specs.Growing.{IsBack, Later}
use Rattle.star_meaning.specs.State.{State}
use Rattle.star_meaning.specs.Steps.{Outcome, Went, Failed, Store, and_then}
use Rattle.star_meaning.specs.Validity.{MachineState, fits}
use Rattle.star_meaning.specs.Values.{items_in}
use Rattle.star_meaning.specs.World.{World, lock_of, turns, unlocked}
use Rattle.star_meaning.proofs.Keeping.{IsHeld, has_after, items_stay}
use Rattle.star_meaning.proofs.LaterLemmas.{later_fewer}
use Rattle.star_builtins.specs.Reached.{Fits}
use Rattle.std.proofs.lemmas.List.{drop_all}
use Rattle.star_run.specs.declared.gathered.Element.{Element}
use Rattle.star_run.specs.declared.gathered.Gathered.{Gathered}
use Rattle.star_run.specs.declared.loops.Loop.{Loop}
use Rattle.star_run.specs.declared.loops.Reached.{Reached}
use Rattle.star_run.specs.Fixed.{Fixed}
use Rattle.star_run.specs.Gathers.{GivesMade}
use Rattle.star_run.specs.Loops.{IfFailed, IfReached, IsFor, IsReached, Reaches, Stays, loop_at, turn_at}
use Rattle.star_run.specs.Running.{Goes, IsPaid, Running, world}
use Rattle.star_run.proofs.OverLemmas.{counted_items, locked_is_there, locking_world, over_is, over_nothing}
use Rattle.star_run.proofs.WaitLemmas.{goes_same, goes_then}

-- ---- what is locked

-- what loops have locked, the outermost first
unfoldable pub locks : List Loop → List ℕ
locks [] = []
locks (at ∷ inner) = lock_of at.of ++ locks inner

locks_push : (loops : List Loop) (at : Loop) → locks (loops ++ at ∷ []) ≡ locks loops ++ lock_of at.of
unfolding locks
locks_push [] at = append-nil (lock_of at.of)
locks_push (x ∷ loops) at = ap (λ ids. lock_of x.of ++ ids) (locks_push loops at) ∙ sym (append_assoc (lock_of x.of) (locks loops) (lock_of at.of))

-- ---- loops that may go on

-- a loop may go on in a machine
pub record Stands (all : List (Clause Expr)) (m : MachineState) (at : Loop) : Type 0 where
  pub clause : IsFor all at.clause
  pub fits : Fits m at.of
  pub counted : option_map length (items_in m.state at.of) ≡ Some at.count
  pub within : at.place ≤ at.count

unfoldable pub AllStand : List (Clause Expr) → MachineState → List Loop → Type 0
AllStand all m [] = Unit {0}
AllStand all m (at ∷ inner) = Stands all m at × AllStand all m inner

module _ (all : List (Clause Expr)) (m : MachineState) where
  none_stand : AllStand all m []
  unfolding AllStand
  none_stand = tt

  stand_push : (loops : List Loop) (at : Loop) → AllStand all m loops → Stands all m at → AllStand all m (loops ++ at ∷ [])
  unfolding AllStand
  stand_push [] at h k = (k, tt)
  stand_push (x ∷ loops) at h k = (h.0, stand_push loops at h.1 k)

  stand_front : (loops : List Loop) (at : Loop) → AllStand all m (loops ++ at ∷ []) → AllStand all m loops
  unfolding AllStand
  stand_front [] at h = tt
  stand_front (x ∷ loops) at h = (h.0, stand_front loops at h.1)

  stand_last : (loops : List Loop) (at : Loop) → AllStand all m (loops ++ at ∷ []) → Stands all m at
  unfolding AllStand
  stand_last [] at h = h.0
  stand_last (x ∷ loops) at h = stand_last loops at h.1

-- ---- what is iterated over stays

-- the loops iterate over the same items
unfoldable pub AllSame : State ℕ → State ℕ → List Loop → Type 0
AllSame s t [] = Unit {0}
AllSame s t (at ∷ inner) = (items_in t at.of ≡ items_in s at.of) × AllSame s t inner

same_here : (here : ℕ) (base : List ℕ) (a b : Running) (at : Loop) → Fits a.machine at.of → Later here (base ++ lock_of at.of) (world a).store (world b).store → items_in b.machine.state at.of ≡ items_in a.machine.state at.of
same_here here base a b at fit later =
    let held : IsHeld here (base ++ lock_of at.of) a.machine.state (lock_of at.of) = λ id h. (has_after base (lock_of at.of) id h, locked_is_there a.machine.state at.of fit.references id h) in
    items_stay here (base ++ lock_of at.of) (world a).store (world b).store later at.of held

all_same : (here : ℕ) (base : List ℕ) (all : List (Clause Expr)) (a b : Running) (loops : List Loop) → Later here (base ++ locks loops) (world a).store (world b).store → AllStand all a.machine loops
    → AllSame a.machine.state b.machine.state loops
unfolding locks AllStand AllSame
all_same here base all a b [] later h = tt
all_same here base all a b (at ∷ loops) later h =
    let more : Later here ((base ++ lock_of at.of) ++ locks loops) (world a).store (world b).store = subst (λ ids. Later here ids (world a).store (world b).store) (sym (append_assoc base (lock_of at.of) (locks loops))) later in
    (same_here here base a b at h.0.fits (later_fewer here (base ++ lock_of at.of) (locks loops) (world a).store (world b).store more), all_same here (base ++ lock_of at.of) all a b loops more h.1)

stand_later : (all : List (Clause Expr)) (a b : Running) (loops : List Loop) → Goes a b → AllSame a.machine.state b.machine.state loops → AllStand all a.machine loops → AllStand all b.machine loops
unfolding AllStand AllSame
stand_later all a b [] goes same h = tt
stand_later all a b (at ∷ loops) goes same h =
    (record { clause = h.0.clause; fits = goes.fit at.of h.0.fits; counted = ap (λ (o : Option (List Value)). option_map length o) same.0 ∙ h.0.counted; within = h.0.within }, stand_later all a b loops goes same.1 h.1)

-- ---- the items that are left

drop_at : {X : Type 0} (xs : List X) (i : ℕ) (x : X) → slice_get xs i ≡ Some x → drop i xs ≡ x ∷ drop (i + 1) xs
drop_at [] i x h = absurd (cc)
drop_at (y ∷ ys) zero x h = let same : y ≡ x = cc in ap (λ z. z ∷ ys) same
drop_at (y ∷ ys) (suc i) x h = drop_at ys i x h ∙ ap (λ n. x ∷ drop n (y ∷ ys)) (after i)
  where
    after : (n : ℕ) → suc (n + 1) ≡ suc n + 1
    after n = omega arith

-- the items of a loop that are left
abbrev left_of : State ℕ → Loop → List Value
left_of s at = drop at.place (unwrap_or (items_in s at.of) [])

left_none : (o : Option (List Value)) (count place : ℕ) → option_map length o ≡ Some count → place ≡ count → drop place (unwrap_or o []) ≡ []
left_none None count place h is = absurd (cc)
left_none (Some items) count place h is = let same : length items ≡ count = cc in drop_all place items (omega (arith, same, is))

left_some : (o : Option (List Value)) (items : List Value) (place : ℕ) → o ≡ Some items → drop place (unwrap_or o []) ≡ drop place items
left_some o items place is = ap (λ p. drop place (unwrap_or p [])) is

-- ---- what is left of loops

module _ (g : Fixed) (depth : ℕ) (all : List (Clause Expr)) (of : Element) where
  -- the turns of a loop that are left, after its turn that is under way
  abbrev after_turn : State ℕ → Loop → Outcome (World ℕ) Failure Gathered → Outcome (World ℕ) Failure Gathered
  after_turn s at o = and_then o (turns (turn_at g depth all of at.clause) (left_of s at))

  -- what is left of loops, the outermost first, after the turn of the innermost that is under way
  unfoldable pub rest_of : State ℕ → List ℕ → List Loop → Outcome (World ℕ) Failure Gathered → Outcome (World ℕ) Failure Gathered
  rest_of s locked [] o = o
  rest_of s locked (at ∷ inner) o = unlocked locked (after_turn s at (rest_of s (locked ++ lock_of at.of) inner o))

  rest_push : (s : State ℕ) (base : List ℕ) (loops : List Loop) (at : Loop) (o : Outcome (World ℕ) Failure Gathered)
      → rest_of s base (loops ++ at ∷ []) o ≡ rest_of s base loops (unlocked (base ++ locks loops) (after_turn s at o))
  unfolding rest_of locks
  rest_push s base [] at o = ap (λ ids. unlocked ids (after_turn s at o)) (sym (append-nil base))
  rest_push s base (x ∷ loops) at o =
      ap (λ p. unlocked base (after_turn s x p)) (rest_push s (base ++ lock_of x.of) loops at o)
      ∙ ap (λ ids. unlocked base (after_turn s x (rest_of s (base ++ lock_of x.of) loops (unlocked ids (after_turn s at o))))) (append_assoc base (lock_of x.of) (locks loops))

  rest_failed : (s : State ℕ) (base : List ℕ) (loops : List Loop) (e : Failure) (w : World ℕ) → rest_of s base loops (Failed e w) ≡ Failed e w
  unfolding rest_of
  rest_failed s base [] e w = refl
  rest_failed s base (x ∷ loops) e w = ap (λ p. unlocked base (after_turn s x p)) (rest_failed s (base ++ lock_of x.of) loops e w)

  rest_none : (s : State ℕ) (base : List ℕ) (o : Outcome (World ℕ) Failure Gathered) → rest_of s base [] o ≡ o
  unfolding rest_of
  rest_none s base o = refl

  rest_same : (s t : State ℕ) (base : List ℕ) (loops : List Loop) (o : Outcome (World ℕ) Failure Gathered) → AllSame s t loops → rest_of t base loops o ≡ rest_of s base loops o
  unfolding rest_of AllSame
  rest_same s t base [] o h = refl
  rest_same s t base (x ∷ loops) o h =
      ap (λ p. unlocked base (after_turn t x p)) (rest_same s t (base ++ lock_of x.of) loops o h.1)
      ∙ ap (λ found. unlocked base (and_then (rest_of s (base ++ lock_of x.of) loops o) (turns (turn_at g depth all of x.clause) (drop x.place (unwrap_or found []))))) h.0

  -- loops are under way since a run began them, where what is left of them is the whole
  pub record Under (first : Running) (whole : Outcome (World ℕ) Failure Gathered) (now : Running) (loops : List Loop) (o : Outcome (World ℕ) Failure Gathered) : Type 0 where
    pub same : rest_of now.machine.state first.frame.locked loops o ≡ whole
    pub stand : AllStand all now.machine loops
    pub locked : now.frame.locked ≡ first.frame.locked ++ locks loops
    pub goes : Goes first now

  -- none are under way yet
  pub unbegun : (first : Running) (whole : Outcome (World ℕ) Failure Gathered) → Under first whole first [] whole
  unfolding locks
  unbegun first whole = record { same = rest_none first.machine.state first.frame.locked whole; stand = none_stand all first.machine; locked = sym (append-nil first.frame.locked); goes = goes_same first }

  -- none are under way any more
  pub all_ended : {first now : Running} {whole o : Outcome (World ℕ) Failure Gathered} → Under first whole now [] o → whole ≡ o
  all_ended {first} {now} {whole} {o} u = sym u.same ∙ rest_none now.machine.state first.frame.locked o

  -- a failure is that of the whole
  pub all_failed : {first now : Running} {whole o : Outcome (World ℕ) Failure Gathered} {loops : List Loop} (e : Failure) (w : World ℕ) → Under first whole now loops o → o ≡ Failed e w → whole ≡ Failed e w
  all_failed {first} {now} {whole} {o} {loops} e w u is =
      sym u.same ∙ ap (rest_of now.machine.state first.frame.locked loops) is ∙ rest_failed now.machine.state first.frame.locked loops e w

  -- the turn that is under way comes to the same
  pub comes_to : {first now : Running} {whole o : Outcome (World ℕ) Failure Gathered} {loops : List Loop} (p : Outcome (World ℕ) Failure Gathered) → Under first whole now loops o → o ≡ p → Under first whole now loops p
  comes_to {first} {now} {whole} {o} {loops} p u is = record { same = ap (rest_of now.machine.state first.frame.locked loops) (sym is) ∙ u.same; stand = u.stand; locked = u.locked; goes = u.goes }

  -- after steps of the turn that is under way
  pub later_under : {first a b : Running} {whole o : Outcome (World ℕ) Failure Gathered} {loops : List Loop} (here : ℕ) → Under first whole a loops o → Stays here a b → Goes a b → Under first whole b loops o
  later_under {first} {a} {b} {whole} {o} {loops} here u stays goes =
      let later : Later here (first.frame.locked ++ locks loops) (world a).store (world b).store = subst (λ ids. Later here ids (world a).store (world b).store) u.locked stays.later in
      let same : AllSame a.machine.state b.machine.state loops = all_same here first.frame.locked all a b loops later u.stand in
      record {
        same = rest_same a.machine.state b.machine.state first.frame.locked loops o same ∙ u.same;
        stand = stand_later all a b loops goes same u.stand;
        locked = stays.back.locked ∙ u.locked;
        goes = goes_then first a b u.goes goes;
      }

  -- the innermost loop ends
  ended : (a b : Running) (base : List ℕ) (loops : List Loop) (at : Loop) (made : Gathered) → option_map length (items_in a.machine.state at.of) ≡ Some at.count → at.place ≡ at.count
      → b ≡ record a { frame = record a.frame { locked = base ++ locks loops } }
      → rest_of a.machine.state base (loops ++ at ∷ []) (Went made (world a)) ≡ rest_of b.machine.state base loops (Went made (world b))
  ended a b base loops at made counted done is =
      rest_push a.machine.state base loops at (Went made (world a))
      ∙ ap (λ xs. rest_of a.machine.state base loops (unlocked (base ++ locks loops) (turns (turn_at g depth all of at.clause) xs made (world a)))) (left_none (items_in a.machine.state at.of) at.count at.place counted done)
      ∙ sym (ap (λ (r : Running). rest_of r.machine.state base loops (Went made (world r))) is)

  locked_inside : (a first : Running) (loops : List Loop) (at : Loop) → a.frame.locked ≡ first.frame.locked ++ locks (loops ++ at ∷ []) → a.frame.locked ≡ (first.frame.locked ++ locks loops) ++ lock_of at.of
  locked_inside a first loops at is = is ∙ ap (λ ids. first.frame.locked ++ ids) (locks_push loops at) ∙ sym (append_assoc first.frame.locked (locks loops) (lock_of at.of))

  pub loop_ends : {first a b : Running} {whole : Outcome (World ℕ) Failure Gathered} {made : Gathered} (before loops : List Loop) (at : Loop) → Under first whole a before (Went made (world a)) → before ≡ loops ++ at ∷ [] → at.place ≡ at.count
      → ((ids : List ℕ) → a.frame.locked ≡ ids ++ lock_of at.of → b ≡ record a { frame = record a.frame { locked = ids } }) → Goes a b → Under first whole b loops (Went made (world b))
  loop_ends {first} {a} {b} {whole} {made} before loops at u is done unlocks goes =
      let here : Under first whole a (loops ++ at ∷ []) (Went made (world a)) = subst (λ ls. Under first whole a ls (Went made (world a))) is u in
      let freed : b ≡ record a { frame = record a.frame { locked = first.frame.locked ++ locks loops } } = unlocks (first.frame.locked ++ locks loops) (locked_inside a first loops at here.locked) in
      let last : Stands all a.machine at = stand_last all a.machine loops at here.stand in
      record {
        same = sym (ended a b first.frame.locked loops at made last.counted done freed) ∙ here.same;
        stand = subst (λ (r : Running). AllStand all r.machine loops) (sym freed) (stand_front all a.machine loops at here.stand);
        locked = ap (λ (r : Running). r.frame.locked) freed;
        goes = goes_then first a b u.goes goes;
      }

  -- the next turn of the innermost loop
  next_left : (s : State ℕ) (base : List ℕ) (loops : List Loop) (at : Loop) (items : List Value) (x : Value) (made : Gathered) (w : World ℕ) → items_in s at.of ≡ Some items → slice_get items at.place ≡ Some x
      → rest_of s base (loops ++ at ∷ []) (Went made w) ≡ rest_of s base (loops ++ (record at { place = at.place + 1 }) ∷ []) (turn_at g depth all of at.clause x made w)
  next_left s base loops at items x made w is here =
      rest_push s base loops at (Went made w)
      ∙ ap (λ xs. rest_of s base loops (unlocked (base ++ locks loops) (turns (turn_at g depth all of at.clause) xs made w))) (left_some (items_in s at.of) items at.place is ∙ drop_at items at.place x here)
      ∙ ap (λ xs. rest_of s base loops (unlocked (base ++ locks loops) (and_then (turn_at g depth all of at.clause x made w) (turns (turn_at g depth all of at.clause) xs)))) (sym (left_some (items_in s at.of) items (at.place + 1) is))
      ∙ sym (rest_push s base loops (record at { place = at.place + 1 }) (turn_at g depth all of at.clause x made w))

  pub turn_begins : {first a : Running} {whole : Outcome (World ℕ) Failure Gathered} {made : Gathered} (before loops after : List Loop) (at : Loop) (x : Value) → Under first whole a before (Went made (world a)) → before ≡ loops ++ at ∷ [] → at.place < at.count
      → ((items : List Value) → items_in a.machine.state at.of ≡ Some items → slice_get items at.place ≡ Some x) → after ≡ loops ++ (record at { place = at.place + 1 }) ∷ []
      → Under first whole a after (turn_at g depth all of at.clause x made (world a))
  turn_begins {first} {a} {whole} {made} before loops after at x u is more item pushed =
      let here : Under first whole a (loops ++ at ∷ []) (Went made (world a)) = subst (λ ls. Under first whole a ls (Went made (world a))) is u in
      let last : Stands all a.machine at = stand_last all a.machine loops at here.stand in
      let items = counted_items (items_in a.machine.state at.of) at.count last.counted in
      let moved : Loop = record at { place = at.place + 1 } in
      let next : Stands all a.machine moved = record { clause = last.clause; fits = last.fits; counted = last.counted; within = omega (arith, more) } in
      let inside : Under first whole a (loops ++ moved ∷ []) (turn_at g depth all of at.clause x made (world a)) = record {
        same = sym (next_left a.machine.state first.frame.locked loops at items.0 x made (world a) items.1.0 (item items.0 items.1.0)) ∙ here.same;
        stand = stand_push all a.machine loops moved (stand_front all a.machine loops at here.stand) next;
        locked = here.locked ∙ ap (λ ids. first.frame.locked ++ ids) (locks_push loops at ∙ sym (locks_push loops moved));
        goes = here.goes;
      } in
      subst (λ ls. Under first whole a ls (turn_at g depth all of at.clause x made (world a))) (sym pushed) inside

  -- a loop begins inside the others
  first_left : (base : List ℕ) (loops : List Loop) (at : Loop) (items : List Value) (made : Gathered) (w : World ℕ) → items_in w.store.state at.of ≡ Some items → at.place ≡ 0 → w.frame.locked ≡ base ++ locks loops
      → rest_of w.store.state base loops (loop_at g depth all of at.clause at.of made w) ≡ rest_of w.store.state base (loops ++ at ∷ []) (Went made (locking_world at.of w))
  first_left base loops at items made w is first locked =
      ap (rest_of w.store.state base loops) (over_is (turn_at g depth all of at.clause) at.of items made w is)
      ∙ ap (λ ids. rest_of w.store.state base loops (unlocked ids (turns (turn_at g depth all of at.clause) items made (locking_world at.of w)))) locked
      ∙ ap (λ xs. rest_of w.store.state base loops (unlocked (base ++ locks loops) (turns (turn_at g depth all of at.clause) xs made (locking_world at.of w))))
      (sym (left_some (items_in w.store.state at.of) items at.place is ∙ ap (λ n. drop n items) first))
      ∙ sym (rest_push w.store.state base loops at (Went made (locking_world at.of w)))

  pub loop_begins : {first a b : Running} {whole : Outcome (World ℕ) Failure Gathered} {made : Gathered} (loops after : List Loop) (next : Reached) (at : Loop) → Under first whole a loops (loop_at g depth all of next.clause next.of made (world a))
      → IsReached all a.machine next → at ≡ record { clause = next.clause; of = next.of; count = at.count; place = 0 } → option_map length (items_in a.machine.state next.of) ≡ Some at.count
      → b ≡ record a { frame = record a.frame { locked = a.frame.locked ++ lock_of next.of } } → Goes a b → after ≡ loops ++ at ∷ [] → Under first whole b after (Went made (world b))
  loop_begins {first} {a} {b} {whole} {made} loops after next at u reached begins counted locks_it goes pushed =
      let items = counted_items (items_in a.machine.state next.of) at.count counted in
      let new : Loop = record { clause = next.clause; of = next.of; count = at.count; place = 0 } in
      let stands : Stands all a.machine new = record { clause = reached.clause; fits = reached.fits; counted = counted; within = omega arith } in
      let held : Running = record a { frame = record a.frame { locked = a.frame.locked ++ lock_of next.of } } in
      let inside : Under first whole held (loops ++ new ∷ []) (Went made (world held)) = record {
        same = sym (first_left first.frame.locked loops new items.0 made (world a) items.1.0 refl u.locked) ∙ u.same;
        stand = stand_push all a.machine loops new u.stand stands;
        locked = ap (λ ids. ids ++ lock_of next.of) u.locked ∙ append_assoc first.frame.locked (locks loops) (lock_of next.of) ∙ ap (λ ids. first.frame.locked ++ ids) (sym (locks_push loops new));
        goes = goes_then first a held u.goes (subst (λ (r : Running). Goes a r) locks_it goes);
      } in
      let named : Under first whole held (loops ++ at ∷ []) (Went made (world held)) = subst (λ (l : Loop). Under first whole held (loops ++ l ∷ []) (Went made (world held))) (sym begins) inside in
      let listed : Under first whole held after (Went made (world held)) = subst (λ ls. Under first whole held ls (Went made (world held))) (sym pushed) named in
      subst (λ (r : Running). Under first whole r after (Went made (world r))) (sym locks_it) listed

  -- a value that cannot be iterated over
  pub loop_fails : {first a : Running} {whole : Outcome (World ℕ) Failure Gathered} {loops : List Loop} (next : Reached) (made : Gathered) (e : Failure) → Under first whole a loops (loop_at g depth all of next.clause next.of made (world a))
      → e ≡ failure.WrongType → items_in a.machine.state next.of ≡ None → whole ≡ Failed e (world a)
  loop_fails {first} {a} {whole} {loops} next made e u wrong none =
      all_failed e (world a) u (over_nothing (turn_at g depth all of next.clause) next.of made (world a) none ∙ ap (λ f. Failed f (world a)) (sym wrong))

  pub begun_fails : {first a : Running} {whole : Outcome (World ℕ) Failure Gathered} {loops : List Loop} (now : Running) (next : Reached) (made other : Gathered) (e : Stop) → Under first whole a loops (loop_at g depth all of next.clause next.of made (world a))
      → IfFailed {A = Loop} (Err e) (λ f. (f ≡ failure.WrongType) × (items_in a.machine.state next.of ≡ None) × (now ≡ a)) → GivesMade whole (Err e) other (world now)
  begun_fails {first} {a} {whole} {loops} now next made other (stop.Failure f) u h = loop_fails next made f u h.0 h.1 ∙ sym (ap (λ (r : Running). Failed f (world r)) h.2)
  begun_fails {first} {a} {whole} {loops} now next made other stop.NoMemory u h = tt

  -- what the clauses of a turn reach
  pub reaches_none : (next : Option Reached) (p : Outcome (World ℕ) Failure Gathered) (made : Gathered) (w : World ℕ) → next ≡ None → Reaches g depth all of p (Ok next) made w → p ≡ Went made w
  reaches_none None p made w is h = h
  reaches_none (Some n) p made w is h = absurd (cc)

  pub reaches_some : (next : Option Reached) (n : Reached) (p : Outcome (World ℕ) Failure Gathered) (made : Gathered) (w : World ℕ) → next ≡ Some n → Reaches g depth all of p (Ok next) made w → p ≡ loop_at g depth all of n.clause n.of made w
  reaches_some None n p made w is h = absurd (cc)
  reaches_some (Some m) n p made w is h = let same : m ≡ n = cc in h ∙ ap (λ (x : Reached). loop_at g depth all of x.clause x.of made w) same

pub reached_some : (next : Option Reached) (n : Reached) (P : Reached → Type 0) → next ≡ Some n → IfReached (Ok next) P → P n
reached_some None n P is h = absurd (cc)
reached_some (Some m) n P is h = let same : m ≡ n = cc in subst P same h

pub popped_none : (r : Option Loop) (A B : Type 0) (Q : Loop → Type 0) → r ≡ None → MatchOption r (A × B) Q → A
popped_none None A B Q is h = h.0
popped_none (Some x) A B Q is h = absurd (cc)

-- ---- what the measure of the loops is

-- twice what may still be made or spent, and the number of loops
unfoldable pub steps_of : Running → List Loop → ℕ
steps_of r loops = 2 * (length r.machine.state.objects + r.left) + length loops

longer : (loops : List Loop) (at : Loop) → length (loops ++ at ∷ []) ≡ length loops + 1
longer [] at = refl
longer (x ∷ loops) at = ap suc (longer loops at) ∙ after (length loops)
  where
    after : (n : ℕ) → suc (n + 1) ≡ suc n + 1
    after n = omega arith

pub fewer_ended : (a b : Running) (before loops : List Loop) (at : Loop) → before ≡ loops ++ at ∷ [] → Goes a b → steps_of b loops < steps_of a before
unfolding steps_of
fewer_ended a b before loops at is goes = omega (arith, goes.few, ap (λ (ls : List Loop). length ls) is ∙ longer loops at)

pub fewer_turned : (a b : Running) (before loops after : List Loop) (at next : Loop) → before ≡ loops ++ at ∷ [] → after ≡ loops ++ next ∷ [] → IsPaid a b → steps_of b after < steps_of a before
unfolding steps_of
fewer_turned a b before loops after at next is pushed paid = omega (arith, paid, ap (λ (ls : List Loop). length ls) is ∙ longer loops at, ap (λ (ls : List Loop). length ls) pushed ∙ longer loops next)

pub fewer_begun : (a b c : Running) (before loops after all : List Loop) (at next new : Loop) → before ≡ loops ++ at ∷ [] → after ≡ loops ++ next ∷ [] → IsPaid a b → Goes b c → all ≡ after ++ new ∷ [] → steps_of c all < steps_of a before
unfolding steps_of
fewer_begun a b c before loops after all at next new is pushed paid goes begun =
    omega (arith, paid, goes.few, ap (λ (ls : List Loop). length ls) is ∙ longer loops at, ap (λ (ls : List Loop). length ls) pushed ∙ longer loops next, ap (λ (ls : List Loop). length ls) begun ∙ longer after new)

-- the innermost loop may go on
pub stands_last : (all : List (Clause Expr)) (m : MachineState) (loops before : List Loop) (at : Loop) → AllStand all m before → before ≡ loops ++ at ∷ [] → Stands all m at
stands_last all m loops before at h is = stand_last all m loops at (subst (λ ls. AllStand all m ls) is h)

-- an item that is asked for is there
pub asked_within : (o : Option (List Value)) (count place : ℕ) → option_map length o ≡ Some count → place < count → IsSomeAnd (option_map length o) (λ n. place < n)
asked_within None count place h less = absurd (cc)
asked_within (Some items) count place h less = let same : length items ≡ count = cc in omega (arith, same, less)
