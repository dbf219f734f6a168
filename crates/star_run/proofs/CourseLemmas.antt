-- Statements one after another, branches and turns: what is left of them at a place, and what a failure makes of the whole.
use Rattle.std.proofs.Common.{◌≡◌, ℕ, suc, ◌+◌, ◌-◌, ◌<◌, ◌≤◌, Bool, true, false, List, [], ◌∷◌, ◌++◌, length, length-drop, drop, get_or, Option, Some, None, IsTrue, slice_get, refl, sym, ap, subst, ◌∙◌, arith}
use Rattle.std.specs.Prelude.{Result, Ok, Err, if◌then◌else◌, ◌&&◌, ◌==◌, IsSomeAnd, option_map}
use Rattle.std.proofs.lemmas.Bool.Decides.{nat_tests}
use Rattle.std.proofs.lemmas.List.{drop_all}
use Rattle.star_syntax.specs.declared.expression.Expr.{Expr}
use Rattle.star_syntax.specs.declared.expression.Expr.TheVariants as e
use Rattle.star_syntax.specs.declared.expression.Suffix.{Suffix}
use Rattle.star_syntax.specs.declared.operator.BinaryOp.{BinaryOp}
use Rattle.star_syntax.specs.declared.statement.Block.{Block}
use Rattle.star_syntax.specs.declared.statement.Block.TheVariants as blocks
use Rattle.star_syntax.specs.declared.statement.Branch.{Branch}
use Rattle.star_syntax.specs.declared.statement.SmallKind.{SmallKind}
use Rattle.star_syntax.specs.declared.statement.SmallKind.TheVariants as small
use Rattle.star_syntax.specs.declared.statement.Statement.{Statement}
use Rattle.star_value.specs.declared.failure.Failure.{Failure}
use Rattle.star_value.specs.declared.failure.Failure.TheVariants as failure
use Rattle.star_value.specs.declared.stop.Stop.{Stop}
use Rattle.star_value.specs.declared.stop.Stop.TheVariants as stop
use Rattle.star_value.specs.declared.value.Value.{Value}
use Rattle.star_meaning.specs.declared.flow.Flow.{Flow}
use Rattle.star_meaning.specs.declared.flow.Flow.TheVariants as flow
use Rattle.star_meaning.specs.Steps.{Outcome, Went, Failed, Steps, Gives, and_then, charge, given_or, pure, ◌>>=◌, ◌>>◌}
use Rattle.star_meaning.specs.Validity.{MachineState, fits}
use Rattle.star_meaning.specs.Values.{has, is_empty, items_in, items_of}
use Rattle.star_meaning.specs.World.{Course, Fault, Work, World, acting, located, located_at, lock_of, locking, operate, unlocked, with_frame, with_store}
use Rattle.star_meaning.specs.Operators.{index}
use Rattle.star_meaning.specs.Expressions.{Callee, Setting, next_item, store_at}
use Rattle.star_meaning.specs.Growing.{IsBack, Later, Leads}
use Rattle.star_meaning.specs.Statements.{after_turn, body_of, condition_of, for_turns, go_on, in_sequence, iterated, kind_of, repeated, returned}
use Rattle.star_meaning.proofs.Alone.{LeadsOn, located_leads, next_leads}
use Rattle.star_meaning.proofs.Keeping.{IsHeld, has_after, items_stay}
use Rattle.star_meaning.proofs.Leading.{body_leads, next_item_leads}
use Rattle.star_run.specs.declared.halt.Halt.{Halt}
use Rattle.star_run.specs.declared.halt.Halt.TheVariants as halt
use Rattle.star_run.specs.Bodies.{branches_from, in_block, iterated_at, next_at, operated, otherwise, turn_end}
use Rattle.star_run.specs.Fixed.{Fixed, callee, meaning, setting}
use Rattle.star_run.specs.Halts.{FlowFits, Halts, at_line}
use Rattle.star_run.specs.Parts as parts
use Rattle.star_run.specs.Parts.{meanings, tests}
use Rattle.star_run.specs.Running.{Goes, Running, world}
use Rattle.star_run.proofs.ExpressionCases.{update_primary}
use Rattle.star_run.proofs.LoopLemmas.{left_here}
use Rattle.star_run.proofs.OverLemmas.{drop_at, locked_is_there, locking_world}

-- ---- failures

-- what stops first stops the whole
pub halts_then : {A B : Type 0} (o : Outcome (World ℕ) Fault A) (f : A → Course ℕ B) (e : Halt) (v : World ℕ) → Halts {A = A} o (Err e) v → Halts {A = B} (and_then o f) (Err e) v
halts_then o f (halt.Failed e line) v h = ap (λ x. and_then x f) h
halts_then o f halt.NoMemory v h = tt

-- the same steps with a line at a failure
pub located_stops : {A : Type 0} (line : ℕ) (o : Outcome (World ℕ) Failure A) (why : Stop) (e : Halt) (v : World ℕ) → e ≡ at_line line why → Gives {A = A} o (Err why) v → Halts {A = A} (located_at line o) (Err e) v
located_stops {A} line o (stop.Failure f) e v is h = subst (λ x. Halts {A = A} (located_at line o) (Err x) v) (sym is) (ap (located_at line) h)
located_stops {A} line o stop.NoMemory e v is h = subst (λ x. Halts {A = A} (located_at line o) (Err x) v) (sym is) tt

pub located_goes : {A : Type 0} (line : ℕ) (o : Outcome (World ℕ) Failure A) (a : A) (v : World ℕ) → o ≡ Went a v → located_at line o ≡ Went a v
located_goes line o a v h = ap (located_at line) h

abbrev unlocated : {W A : Type 0} → Outcome W Fault A → Outcome W Failure A
unlocated (Went a w) = Went a w
unlocated (Failed e w) = Failed e.0 w

pub located_went : {A : Type 0} (line : ℕ) (o : Outcome (World ℕ) Failure A) (a : A) (v : World ℕ) → located_at line o ≡ Went a v → o ≡ Went a v
located_went line (Went b w) a v h = ap unlocated h
located_went line (Failed e w) a v h = ap unlocated h

-- and what comes after them with the same line
pub located_then : {A B : Type 0} (line : ℕ) (o : Outcome (World ℕ) Failure A) (f : A → Work ℕ B) (e : Halt) (v : World ℕ) → Halts {A = A} (located_at line o) (Err e) v → Halts {A = B} (located_at line (and_then o f)) (Err e) v
located_then line (Went a w) f (halt.Failed e at) v h = ap (λ o. and_then o (λ b u. located_at line (f b u))) h
located_then line (Failed d w) f (halt.Failed e at) v h = ap (λ o. and_then o (λ b u. located_at line (f b u))) h
located_then line o f halt.NoMemory v h = tt

pub ruleset located_rules = (located_stops, located_goes)

-- ---- what is returned still fits

pub flow_later : (a b : Running) (f : Flow) → Goes a b → FlowFits a.machine f → FlowFits b.machine f
flow_later a b flow.On goes h = tt
flow_later a b flow.Break goes h = tt
flow_later a b flow.Continue goes h = tt
flow_later a b (flow.Return v) goes h = goes.fit v h

-- ---- one after another

goes_out : (rest : Course ℕ Flow) (f : Flow) (v : World ℕ) → (f ≡ flow.On → ⊥) → go_on rest f v ≡ Went f v
goes_out rest flow.On v h = absurd (h refl)
goes_out rest flow.Break v h = refl
goes_out rest flow.Continue v h = refl
goes_out rest (flow.Return x) v h = refl

module _ {S : Type 0} (run : Bool → S → Course ℕ Flow) (last : Bool) (ss : List S) (i : ℕ) (s : S) (b : Bool) (within : i < length ss) (here : s ≡ get_or ss i s) (is : b ≡ (last && is_empty (drop (i + 1) ss))) where
  left_of_sequence : (w : World ℕ) → in_sequence run last (drop i ss) w ≡ and_then (run b s w) (go_on (in_sequence run last (drop (i + 1) ss)))
  left_of_sequence w = ap (λ xs. in_sequence run last xs w) (left_here ss i s within here) ∙ ap (λ c. and_then (run c s w) (go_on (in_sequence run last (drop (i + 1) ss)))) (sym is)

  pub sequence_on : (w v : World ℕ) (f : Flow) → run b s w ≡ Went f v → f ≡ flow.On → in_sequence run last (drop i ss) w ≡ in_sequence run last (drop (i + 1) ss) v
  sequence_on w v f gave on =
      left_of_sequence w ∙ ap (λ o. and_then o (go_on (in_sequence run last (drop (i + 1) ss)))) gave ∙ ap (λ g. go_on (in_sequence run last (drop (i + 1) ss)) g v) on

  pub sequence_out : (w v : World ℕ) (f : Flow) → run b s w ≡ Went f v → (f ≡ flow.On → ⊥) → in_sequence run last (drop i ss) w ≡ Went f v
  sequence_out w v f gave out =
      left_of_sequence w ∙ ap (λ o. and_then o (go_on (in_sequence run last (drop (i + 1) ss)))) gave ∙ goes_out (in_sequence run last (drop (i + 1) ss)) f v out

  pub sequence_stops : (w v : World ℕ) (e : Halt) → Halts {A = Flow} (run b s w) (Err e) v → Halts {A = Flow} (in_sequence run last (drop i ss) w) (Err e) v
  sequence_stops w v e h = subst (λ o. Halts {A = Flow} o (Err e) v) (sym (left_of_sequence w)) (halts_then (run b s w) (go_on (in_sequence run last (drop (i + 1) ss))) e v h)

pub sequence_ends : {S : Type 0} (run : Bool → S → Course ℕ Flow) (last : Bool) (ss : List S) (i : ℕ) (w : World ℕ) → length ss ≤ i → in_sequence run last (drop i ss) w ≡ Went flow.On w
sequence_ends run last ss i w past = ap (λ xs. in_sequence run last xs w) (drop_all i ss past)

-- whether something is the last one, by its place
empty_test : {S : Type 0} (xs : List S) (n m : ℕ) → n ≤ m → length xs ≡ m - n → is_empty xs ≡ (n == m)
empty_test [] n m le h = let same : n ≡ m = omega (arith, h) in grind (arith, nat_tests)
empty_test (x ∷ xs) n m le h = grind (arith, nat_tests)

pub last_is : {S : Type 0} (last : Bool) (ss : List S) (i : ℕ) → i < length ss → (last && (i + 1 == length ss)) ≡ (last && is_empty (drop (i + 1) ss))
last_is last ss i within = ap (λ b. last && b) (sym (empty_test (drop (i + 1) ss) (i + 1) (length ss) (omega (arith, within)) (length-drop (i + 1) ss)))

-- ---- branches

module _ (set : Setting ℕ) (call : Callee ℕ) (at : ℕ) (other : Option (Block Statement)) (more : List (Branch Statement)) (i : ℕ) where
  module _ (b : Branch Statement) (within : i < length more) (here : b ≡ get_or more i b) where
    left_of_branches : (w : World ℕ)
        → branches_from set call at (drop i more) other w ≡ and_then (condition_of set call at b.condition w) (λ t. if t then body_of set call b.body else branches_from set call at (drop (i + 1) more) other)
    left_of_branches w = ap (λ bs. branches_from set call at bs other w) (left_here more i b within here)

    pub branch_went : (w v : World ℕ) (t : Bool) → condition_of set call at b.condition w ≡ Went t v
        → branches_from set call at (drop i more) other w ≡ (if t then body_of set call b.body else branches_from set call at (drop (i + 1) more) other) v
    branch_went w v t gave = left_of_branches w ∙ ap (λ o. and_then o (λ t. if t then body_of set call b.body else branches_from set call at (drop (i + 1) more) other)) gave

    pub branch_taken : (w v : World ℕ) (t : Bool) → condition_of set call at b.condition w ≡ Went t v → t ≡ true → branches_from set call at (drop i more) other w ≡ body_of set call b.body v
    branch_taken w v t gave is = branch_went w v t gave ∙ ap (λ c. (if c then body_of set call b.body else branches_from set call at (drop (i + 1) more) other) v) is

    pub branch_passed : (w v : World ℕ) (t : Bool) → condition_of set call at b.condition w ≡ Went t v → t ≡ false → branches_from set call at (drop i more) other w ≡ branches_from set call at (drop (i + 1) more) other v
    branch_passed w v t gave is = branch_went w v t gave ∙ ap (λ c. (if c then body_of set call b.body else branches_from set call at (drop (i + 1) more) other) v) is

    pub branch_stops : (w v : World ℕ) (e : Halt) → Halts {A = Bool} (condition_of set call at b.condition w) (Err e) v → Halts {A = Flow} (branches_from set call at (drop i more) other w) (Err e) v
    branch_stops w v e h =
        subst (λ o. Halts {A = Flow} o (Err e) v) (sym (left_of_branches w))
        (halts_then (condition_of set call at b.condition w) (λ t. if t then body_of set call b.body else branches_from set call at (drop (i + 1) more) other) e v h)

  pub branches_end : (w : World ℕ) → length more ≤ i → branches_from set call at (drop i more) other w ≡ otherwise set call other w
  branches_end w past = ap (λ bs. branches_from set call at bs other w) (drop_all i more past)

-- ---- turns

after_none : (rest : Course ℕ Flow) (f : Flow) (v : World ℕ) → turn_end f ≡ None → after_turn rest f v ≡ rest v
after_none rest flow.On v is = refl
after_none rest flow.Continue v is = refl
after_none rest flow.Break v is = absurd (cc)
after_none rest (flow.Return x) v is = absurd (cc)

after_end : (rest : Course ℕ Flow) (f e : Flow) (v : World ℕ) → turn_end f ≡ Some e → after_turn rest f v ≡ Went e v
after_end rest flow.On e v is = absurd (cc)
after_end rest flow.Continue e v is = absurd (cc)
after_end rest flow.Break e v is = let same : flow.On ≡ e = cc in ap (λ f. Went f v) same
after_end rest (flow.Return x) e v is = let same : flow.Return x ≡ e = cc in ap (λ f. Went f v) same

pub ended_fits : (m : MachineState) (f e : Flow) → turn_end f ≡ Some e → FlowFits m f → FlowFits m e
ended_fits m flow.On e is h = absurd (cc)
ended_fits m flow.Continue e is h = absurd (cc)
ended_fits m flow.Break e is h = let same : flow.On ≡ e = cc in subst (λ f. FlowFits m f) same tt
ended_fits m (flow.Return x) e is h = let same : flow.Return x ≡ e = cc in subst (λ f. FlowFits m f) same h

module _ (next : Value → Course ℕ (Unit {0})) (body : Course ℕ Flow) (items : List Value) (i : ℕ) where
  module _ (x : Value) (here : slice_get items i ≡ Some x) where
    left_of_turns : (w : World ℕ) → for_turns next body (drop i items) w ≡ and_then (and_then (next x w) (λ done. body)) (after_turn (for_turns next body (drop (i + 1) items)))
    left_of_turns w =
        let after : suc i ≡ i + 1 = omega arith in
        ap (λ xs. for_turns next body xs w) (drop_at items i x here ∙ ap (λ j. x ∷ drop j items) after)

    turn_went : (w v : World ℕ) (f g : Flow) → and_then (next x w) (λ done. body) ≡ Went f v → f ≡ g → for_turns next body (drop i items) w ≡ after_turn (for_turns next body (drop (i + 1) items)) g v
    turn_went w v f g gave is =
        left_of_turns w ∙ ap (λ o. and_then o (after_turn (for_turns next body (drop (i + 1) items)))) gave ∙ ap (λ h. after_turn (for_turns next body (drop (i + 1) items)) h v) is

    pub turn_passed : (w v : World ℕ) (f : Flow) → and_then (next x w) (λ done. body) ≡ Went f v → turn_end f ≡ None → for_turns next body (drop i items) w ≡ for_turns next body (drop (i + 1) items) v
    turn_passed w v f gave is = turn_went w v f f gave refl ∙ after_none (for_turns next body (drop (i + 1) items)) f v is

    pub turn_ended : (w v : World ℕ) (f e : Flow) → and_then (next x w) (λ done. body) ≡ Went f v → turn_end f ≡ Some e → for_turns next body (drop i items) w ≡ Went e v
    turn_ended w v f e gave is = turn_went w v f f gave refl ∙ after_end (for_turns next body (drop (i + 1) items)) f e v is

    pub turn_stops : (w v : World ℕ) (e : Halt) → Halts {A = Flow} (and_then (next x w) (λ done. body)) (Err e) v → Halts {A = Flow} (for_turns next body (drop i items) w) (Err e) v
    turn_stops w v e h =
        subst (λ o. Halts {A = Flow} o (Err e) v) (sym (left_of_turns w))
        (halts_then (and_then (next x w) (λ done. body)) (after_turn (for_turns next body (drop (i + 1) items))) e v h)

  pub turns_end : (w : World ℕ) → length items ≤ i → for_turns next body (drop i items) w ≡ Went flow.On w
  turns_end w past = ap (λ xs. for_turns next body xs w) (drop_all i items past)

-- ---- steps leave what is iterated over

module _ {E A : Type 0} (here : ℕ) (p : Steps (World ℕ) E A) (leads : LeadsOn here p) where
  gone : (w v : World ℕ) (b : A) → p w ≡ Went b v → Later here w.frame.locked w.store v.store × IsBack w.frame v.frame
  gone w v b is = let there : Leads {E = E} here w (Went b v) = subst (λ o. Leads here w o) is (leads w) in (there.later, there.back)

  pub held_on : (of : Value) (items : List Value) (before : List ℕ) (w v : World ℕ) (b : A) → p w ≡ Went b v → IsTrue (fits w.store.state.objects of) → w.frame.locked ≡ before ++ lock_of of
      → items_in w.store.state of ≡ Some items → items_in v.store.state of ≡ Some items
  held_on of items before w v b is fit locked held =
      let there = gone w v b is in
      let held_by : IsHeld here w.frame.locked w.store.state (lock_of of) = λ id h. (subst (λ ids. IsTrue (has ids id)) (sym locked) (has_after before (lock_of of) id h), locked_is_there w.store.state of fit id h) in
      items_stay here w.frame.locked w.store v.store there.0 of held_by ∙ held

  pub locked_on : (w v : World ℕ) (b : A) → p w ≡ Went b v → v.frame.locked ≡ w.frame.locked
  locked_on w v b is = (gone w v b is).1.locked

module _ (g : Fixed) (depth : ℕ) (at : ℕ) (targets : List Expr) (body : Block Statement) where
  -- a turn of a `for`
  abbrev pub turn_of : Value → Course ℕ Flow
  turn_of x = next_at g depth at targets x >> body_of (setting g) (callee g depth) body

  pub turn_leads : (x : Value) → LeadsOn g.node (turn_of x)
  turn_leads x = next_leads g.node _ _ (located_leads g.node at _ (next_item_leads (setting g) depth targets x)) (λ done. body_leads (setting g) depth body)

  pub turn_held : (x of : Value) (items : List Value) (before : List ℕ) (w v : Running) (f : Flow) → turn_of x (world w) ≡ Went f (world v) → IsTrue (fits w.machine.state.objects of) → w.frame.locked ≡ before ++ lock_of of
      → items_in w.machine.state of ≡ Some items → items_in v.machine.state of ≡ Some items
  turn_held x of items before w v f is fit locked held = held_on g.node (turn_of x) (turn_leads x) of items before (world w) (world v) f is fit locked held

  pub turn_locked : (x : Value) (w v : Running) (f : Flow) → turn_of x (world w) ≡ Went f (world v) → v.frame.locked ≡ w.frame.locked
  turn_locked x w v f is = locked_on g.node (turn_of x) (turn_leads x) (world w) (world v) f is

-- ---- the whole loop

then_then : {W E A B C : Type 0} (o : Outcome W E A) (f : A → Steps W E B) (h : B → Steps W E C) → and_then (and_then o f) h ≡ and_then o (λ a w. and_then (f a w) h)
then_then (Went a w) f h = refl
then_then (Failed e w) f h = refl

items_given : (v : Value) (items : List Value) (u : World ℕ) → items_in u.store.state v ≡ Some items → acting (items_of v) u ≡ Went items u
unfolding acting items_of
items_given v items u is = ap (λ o. with_store u (given_or failure.WrongType o u.store)) is

items_missing : (v : Value) (u : World ℕ) → items_in u.store.state v ≡ None → acting (items_of v) u ≡ Failed failure.WrongType u
unfolding acting items_of
items_missing v u is = ap (λ o. with_store u (given_or failure.WrongType o u.store)) is

module _ (g : Fixed) (depth : ℕ) (at : ℕ) (targets over : List Expr) (body : Block Statement) where
  -- a step, and what a `for` goes over
  abbrev pub operand : World ℕ → Outcome (World ℕ) Failure Value
  operand w = and_then (acting (charge 1) w) (λ paid. tests g depth over)

  abbrev with_items : Value → Work ℕ (Value × List Value)
  with_items v = acting (items_of v) >>= (λ items. pure (v, items))

  abbrev pub turns_of : List Value → Course ℕ Flow
  turns_of = for_turns (next_at g depth at targets) (body_of (setting g) (callee g depth) body)

  abbrev whole : World ℕ → Outcome (World ℕ) Fault Flow
  whole w = and_then (iterated_at (setting g) (callee g depth) at over w) (repeated (setting g) (callee g depth) at targets (body_of (setting g) (callee g depth) body))

  operand_then : (w : World ℕ) → (acting (charge 1) >> iterated (setting g) (callee g depth) over) w ≡ and_then (operand w) with_items
  operand_then w = sym (then_then (acting (charge 1) w) (λ paid. tests g depth over) with_items)

  repeat_found : (of : Value) (items : List Value) (w u : World ℕ) → located_at at (operand w) ≡ Went of u → items_in u.store.state of ≡ Some items → whole w ≡ unlocked u.frame.locked (turns_of items (locking_world of u))
  unfolding located locking repeated
  repeat_found of items w u gave has =
      ap (λ o. and_then (located_at at o) (repeated (setting g) (callee g depth) at targets (body_of (setting g) (callee g depth) body)))
      (operand_then w ∙ ap (λ o. and_then o with_items) (located_went at (operand w) of u gave) ∙ ap (λ o. and_then o (λ items. pure (of, items))) (items_given of items u has))

  pub repeat_stops : (w v : World ℕ) (e : Halt) → Halts {A = Value} (located_at at (operand w)) (Err e) v → Halts {A = Flow} (whole w) (Err e) v
  unfolding located
  repeat_stops w v e h =
      halts_then (located_at at ((acting (charge 1) >> iterated (setting g) (callee g depth) over) w)) (repeated (setting g) (callee g depth) at targets (body_of (setting g) (callee g depth) body)) e v
      (subst (λ o. Halts {A = Value × List Value} (located_at at o) (Err e) v) (sym (operand_then w)) (located_then at (operand w) with_items e v h))

  pub repeat_nothing : (of : Value) (w u : World ℕ) → located_at at (operand w) ≡ Went of u → items_in u.store.state of ≡ None → whole w ≡ Failed (failure.WrongType, at) u
  unfolding located
  repeat_nothing of w u gave has =
      ap (λ o. and_then (located_at at o) (repeated (setting g) (callee g depth) at targets (body_of (setting g) (callee g depth) body)))
      (operand_then w ∙ ap (λ o. and_then o with_items) (located_went at (operand w) of u gave) ∙ ap (λ o. and_then o (λ items. pure (of, items))) (items_missing of u has))

  module _ (of : Value) (items : List Value) (w : World ℕ) (u l : Running) (gave : located_at at (operand w) ≡ Went of (world u)) (has : items_in u.machine.state of ≡ Some items)
      (lock : l ≡ record u { frame = record u.frame { locked = u.frame.locked ++ lock_of of } }) where
    repeat_locked : whole w ≡ unlocked u.frame.locked (turns_of items (world l))
    repeat_locked = repeat_found of items w (world u) gave has ∙ ap (λ (r : Running). unlocked u.frame.locked (turns_of items (world r))) (sym lock)

    pub repeat_went : (a z : Running) (f : Flow) → turns_of items (world l) ≡ Went f (world a) → z ≡ record a { frame = record a.frame { locked = u.frame.locked } } → whole w ≡ Went f (world z)
    repeat_went a z f turned unlock = repeat_locked ∙ ap (unlocked u.frame.locked) turned ∙ ap (λ (r : Running). Went f (world r)) (sym unlock)

    stays_stopped : (o : Outcome (World ℕ) Fault Flow) (v : World ℕ) (e : Halt) → Halts {A = Flow} o (Err e) v → Halts {A = Flow} (unlocked u.frame.locked o) (Err e) v
    stays_stopped o v (halt.Failed e line) h = ap (unlocked u.frame.locked) h
    stays_stopped o v halt.NoMemory h = tt

    pub repeat_halts : (v : World ℕ) (e : Halt) → Halts {A = Flow} (turns_of items (world l)) (Err e) v → Halts {A = Flow} (whole w) (Err e) v
    repeat_halts v e h = subst (λ o. Halts {A = Flow} o (Err e) v) (sym repeat_locked) (stays_stopped (turns_of items (world l)) v e h)

-- ---- what is returned

pub returned_is : (g : Fixed) (depth : ℕ) (ts : List Expr) → 0 < length ts → returned (setting g) (callee g depth) (meanings g depth ts) ≡ tests g depth ts
returned_is g depth [] some = absurd (omega (arith, some))
returned_is g depth (t ∷ ts) some = refl

-- ---- blocks

pub indented : (set : Setting ℕ) (call : Callee ℕ) (body : Block Statement) (all xs : List Statement) (w v : World ℕ) (r : Result Flow Halt) → body ≡ blocks.Indented all → xs ≡ all
    → Halts {A = Flow} (in_block set call xs w) r v → Halts {A = Flow} (body_of set call body w) r v
indented set call body all xs w v r is same h = subst (λ b. Halts {A = Flow} (body_of set call b w) r v) (sym (is ∙ ap blocks.Indented (sym same))) h

-- ---- small statements

pub gives_then : {A B : Type 0} (o : Outcome (World ℕ) Failure A) (f : A → Work ℕ B) (e : Stop) (v : World ℕ) → Gives {A = A} o (Err e) v → Gives {A = B} (and_then o f) (Err e) v
gives_then o f (stop.Failure e) v h = ap (λ x. and_then x f) h
gives_then o f stop.NoMemory v h = tt

module _ (g : Fixed) (depth : ℕ) (last : Bool) where
  pub kind_assigned : (k : SmallKind) (targets es ts us : List Expr) (w : World ℕ) → k ≡ small.Assign targets es → ts ≡ targets → us ≡ es
      → kind_of (setting g) (callee g depth) last k w ≡ and_then (and_then (tests g depth us w) (parts.targets g depth ts)) (λ done. pure flow.On)
  unfolding kind_of
  kind_assigned k targets es ts us w is a b = ap (λ x. kind_of (setting g) (callee g depth) last x w) (is ∙ ap (λ xs. small.Assign xs es) (sym a) ∙ ap (small.Assign ts) (sym b))

  pub kind_augmented : (k : SmallKind) (target : Expr) (op : BinaryOp) (es us : List Expr) (w : World ℕ) → k ≡ small.Augmented target op es → us ≡ es
      → kind_of (setting g) (callee g depth) last k w ≡ and_then ((meaning g depth target).update (operated g depth op us) w) (λ done. pure flow.On)
  unfolding kind_of
  kind_augmented k target op es us w is b = ap (λ x. kind_of (setting g) (callee g depth) last x w) (is ∙ ap (small.Augmented target op) (sym b))

pub kind_stops : (whole : Outcome (World ℕ) Failure Flow) (o : Outcome (World ℕ) Failure (Unit {0})) (e : Stop) (v : World ℕ) → whole ≡ and_then o (λ done. pure flow.On) → Gives {A = Unit {0}} o (Err e) v → Gives {A = Flow} whole (Err e) v
kind_stops whole o e v is h = subst (λ x. Gives {A = Flow} x (Err e) v) (sym is) (gives_then o (λ done. pure flow.On) e v h)

pub kind_goes : (whole : Outcome (World ℕ) Failure Flow) (o : Outcome (World ℕ) Failure (Unit {0})) (v : World ℕ) → whole ≡ and_then o (λ done. pure flow.On) → o ≡ Went tt v → whole ≡ Went flow.On v
kind_goes whole o v is h = is ∙ ap (λ x. and_then x (λ done. pure flow.On)) h

-- an augmented place
pub augmented_at : (g : Fixed) (depth : ℕ) (target head h : Expr) (all xs : List (Suffix Expr)) (op : BinaryOp) (ts : List Expr) (w v : World ℕ) (r : Result (Unit {0}) Stop) → target ≡ e.Primary head all → h ≡ head → xs ≡ all
    → Gives {A = Unit {0}} (and_then (parts.place_of g depth h xs w) (λ at u. and_then (operate (index at.0 at.1) u) (λ old t. and_then (operated g depth op ts old t) (λ new. store_at at.0 at.1 new)))) r v
    → Gives {A = Unit {0}} ((meaning g depth target).update (operated g depth op ts) w) r v
augmented_at g depth target head h all xs op ts w v r is a b gave =
    let there : target ≡ e.Primary h xs = is ∙ ap (λ y. e.Primary y all) (sym a) ∙ ap (e.Primary h) (sym b) in
    subst (λ y. Gives {A = Unit {0}} ((meaning g depth y).update (operated g depth op ts) w) r v) (sym there)
    (subst (λ o. Gives {A = Unit {0}} o r v) (sym (update_primary (setting g) (callee g depth) h xs (operated g depth op ts) w)) gave)

-- ---- items by place

pub place_within : (o : Option (List Value)) (items : List Value) (place : ℕ) → o ≡ Some items → place < length items → IsSomeAnd (option_map length o) (λ count. place < count)
place_within o items place is within = subst (λ p. IsSomeAnd (option_map length p) (λ count. place < count)) (sym is) within

-- all places are past
pub items_end : (o : Option (List Value)) (items : List Value) (count place : ℕ) → option_map length o ≡ Some count → o ≡ Some items → count ≤ place → length items ≤ place
items_end o items count place counted is past = let same : Some (length items) ≡ Some count = ap (option_map length) (sym is) ∙ counted in let here : length items ≡ count = cc in omega (arith, here, past)
