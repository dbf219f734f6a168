-- What the steps of a run need: what stays sound, and how an operation is made of its charges and its own steps.
use Rattle.std.proofs.Common.{◌≡◌, ℕ, ◌+◌, ◌-◌, ◌*◌, ◌≤◌, ◌<◌, Bool, true, false, List, [], ◌∷◌, ◌++◌, length, Option, Some, None, refl, sym, ap, subst, ◌∙◌, IsTrue, arith}
use Rattle.std.specs.Prelude.{Result, Ok, Err, IfOk, min, ◌^◌, nat_lt, ◌&&◌, if◌then◌else◌, bytes_eq, option_map, is_some}
use Rattle.std.specs.BTreeMap.{insert_entry, is_at}
use Rattle.std.specs.Ordering.{match_ordering}
use Rattle.std.specs.declared.cmp.Ordering.{Ordering}
use Rattle.std.specs.declared.cmp.Ordering.TheVariants.{Less, Equal, Greater}
use Rattle.star_builtins.specs.Shows.{Shows, onto}
use Rattle.std.specs.Map.{lookup}
use Rattle.chex_base.specs.TextOrder.{text_cmp}
use Rattle.star_value.specs.Charge.{charged}
use Rattle.star_value.specs.declared.builtin.Builtin.{Builtin}
use Rattle.star_value.specs.declared.failure.Failure.TheVariants as failure
use Rattle.star_value.specs.declared.value.Value.TheVariants as value
use Rattle.star_meaning.specs.State.{global, set_global}
use Rattle.star_meaning.specs.Values.{builtin_of, named_in}
use Rattle.star_meaning.proofs.Equations.{weight_builtin}
use Rattle.star_builtins.specs.Taken.{GivesCharged}
use Rattle.star_run.proofs.ChargeLemmas.{nothing_charged}
use Rattle.star_run.proofs.ConstantLemmas.{builtin_fits}
use Rattle.std.specs.List.{list_all}
use Rattle.std.specs.Option.{option_copied}
use Rattle.std.proofs.Common.{Bor}
use Rattle.std.proofs.Common.{inl, inr}
use Rattle.std.proofs.lemmas.Bool.Decides.{nat_tests}
use Rattle.std.proofs.lemmas.Bool.{cases_Bool}
use Rattle.heap_store.proofs.Tested.{and_left, and_right, and_both, all_mono, all_push}
use Rattle.star_value.specs.declared.failure.Failure.{Failure}
use Rattle.star_value.specs.declared.stop.Stop.{Stop}
use Rattle.star_value.specs.declared.stop.Stop.TheVariants as stop
use Rattle.star_value.specs.declared.value.Value.{Value}
use Rattle.star_value.specs.Weight.{weight}
use Rattle.star_meaning.specs.Steps.{Outcome, Went, Failed, Steps, Store, Action, Gives, and_then, charge, given_or, paid, pure, ◌>>=◌, ◌>>◌}
use Rattle.star_meaning.specs.Growing.{reached}
use Rattle.star_meaning.specs.Validity.{MachineState, IsMachine, all_in, all_in_object, fits, is_proper}
use Rattle.star_meaning.specs.World.{Block, Frame, Work, World, acting, bind, binding, bound_in, first_some, look_up, rebound, slot_of, value_in, operate, operation, with_store, write}
use Rattle.star_meaning.specs.Expressions.{call_written, compared}
use Rattle.star_meaning.proofs.Keeping.{charge_keeps, compare_keeps}
use Rattle.star_syntax.specs.declared.operator.CompareOp.{CompareOp}
use Rattle.star_meaning.specs.Comparing.{compare}
use Rattle.star_builtins.specs.Reached.{AllFit, Fits, Follows, GivesWeighed, store, weighed}
use Rattle.star_builtins.specs.Calling.{GivesWritten}
use Rattle.star_run.specs.Running.{Running, IsSound, Goes, HasCredit, IsPaid, Makes, block_fits, blocks_fit, bound_fits, slot_fits, world}
use Rattle.star_run.specs.Settled.{Spends, left_after, made_of, placed, settled}

-- ---- values in blocks

pub fit_of : (m : MachineState) (v : Value) → IsTrue (bound_fits m (Some v)) → Fits m v
fit_of m v h = record { references = and_left (fits m.state.objects v) (is_proper v) h; proper = and_right (fits m.state.objects v) (is_proper v) h }

pub bound_of : (m : MachineState) (v : Value) → Fits m v → IsTrue (bound_fits m (Some v))
bound_of m v h = and_both (fits m.state.objects v) (is_proper v) h.references h.proper

module _ (before after : MachineState) (fit : (v : Value) → Fits before v → Fits after v) where
  bound_stays : (b : Option Value) → IsTrue (bound_fits before b) → IsTrue (bound_fits after b)
  bound_stays None h = refl
  bound_stays (Some v) h = bound_of after v (fit v (fit_of before v h))

  block_stays : (block : Block) → IsTrue (block_fits before block) → IsTrue (block_fits after block)
  unfolding block_fits
  block_stays block h = all_mono (slot_fits before) (slot_fits after) (λ slot. bound_stays slot.1) block h

  pub blocks_stay : (blocks : List Block) → IsTrue (blocks_fit before blocks) → IsTrue (blocks_fit after blocks)
  blocks_stay blocks h = all_mono (block_fits before) (block_fits after) block_stays blocks h

-- ---- what stays sound

-- the machine after an operation that was paid before
pub sound_follows : (r : Running) (m : MachineState) → IsSound r → Follows r.machine m → HasCredit r → IsSound (record r { machine = m })
sound_follows r m sound follows credit = record {
  proper = follows.proper sound.proper;
  slots = blocks_stay r.machine m follows.fit r.frame.blocks sound.slots;
  room = rw follows.ran (omega (arith, follows.few, credit));
}

-- fewer steps
pub sound_left : (r : Running) (left : ℕ) → IsSound r → left ≤ r.left → IsSound (record r { left = left })
sound_left r left sound less = record { proper = sound.proper; slots = sound.slots; room = omega (arith, sound.room, less) }

-- ---- what steps leave

pub goes_same : (r : Running) → Goes r r
goes_same r = record { ran = refl; fit = λ v h. h; valid = λ program h. h; few = omega arith }

pub goes_then : (a b c : Running) → Goes a b → Goes b c → Goes a c
goes_then a b c h k = record {
  ran = k.ran ∙ h.ran;
  fit = λ v f. k.fit v (h.fit v f);
  valid = λ program v. k.valid program (h.valid program v);
  few = omega (arith, h.few, k.few);
}

-- fewer steps are left, and all else is the same
pub goes_left : (r : Running) (left : ℕ) → left ≤ r.left → Goes r (record r { left = left })
goes_left r left less = record { ran = refl; fit = λ v h. h; valid = λ program h. h; few = omega (arith, less) }

-- an operation for which a step was taken
pub goes_through : (a b c : Running) (m : MachineState) → Goes a b → IsPaid a b → Follows b.machine m → Goes (record b { machine = m }) c → Goes a c
goes_through a b c m h paid follows k = record {
  ran = k.ran ∙ follows.ran ∙ h.ran;
  fit = λ v f. k.fit v (follows.fit v (h.fit v f));
  valid = λ program v. k.valid program (follows.valid program (h.valid program v));
  few = omega (arith, k.few, follows.few, paid);
}

-- a step was taken before, or later
pub paid_later : (a b c : Running) → IsPaid a b → Goes b c → IsPaid a c
paid_later a b c h k = omega (arith, h, k.few)

pub made_later : (a b c : Running) → Goes a b → IsPaid a b → Makes b c → Goes a c
made_later a b c h paid k = record {
  ran = k.ran ∙ h.ran;
  fit = λ v f. k.fit v (h.fit v f);
  valid = λ program v. k.valid program (h.valid program v);
  few = omega (arith, h.few, paid, k.few);
}

pub credit_later : (a b : Running) → Goes a b → HasCredit a → HasCredit b
credit_later a b h credit = rw h.ran (omega (arith, h.few, credit))

-- ---- operations

with_store_is : {A : Type 0} (w : World ℕ) (o : Outcome (Store ℕ) Failure A) → with_store w o ≡ placed w.frame w.out o
with_store_is w (Went a s) = refl
with_store_is w (Failed e s) = refl

pub acting_is : {A : Type 0} (p : Action ℕ A) (w : World ℕ) → acting p w ≡ placed w.frame w.out (p w.store)
unfolding acting
acting_is p w = with_store_is w (p w.store)

placed_then : {A : Type 0} (frame : Frame) (out : List ℕ) (o : Outcome (Store ℕ) Failure (Unit {0})) (a : A)
    → placed frame out (and_then o (λ done. pure a)) ≡ and_then (placed frame out o) (λ done. pure a)
placed_then frame out (Went done s) a = refl
placed_then frame out (Failed e s) a = refl

-- the failure of an operation with the charge of its result
pub settled_is : (frame : Frame) (out : List ℕ) (o : Outcome (Store ℕ) Failure Value) → settled frame out o ≡ placed frame out (weighed o)
settled_is frame out (Went v s) =
    ap (λ x. and_then x (λ done. pure v)) (acting_is (charge (weight v - 1)) (record { store = s; frame = frame; out = out }))
    ∙ sym (placed_then frame out (charge (weight v - 1) s) v)
settled_is frame out (Failed e s) = refl

-- an operation is its first step, and the rest
pub operated : (p : Action ℕ Value) (w v : World ℕ) (r : Result Value Stop) (after : World ℕ)
    → acting (charge 1) w ≡ Went tt v → Gives (settled v.frame v.out (p v.store)) r after → Gives (operate p w) r after
unfolding operation
operated p w v r after paid gives = rw (paid, acting_is p v) gives

pub operate_failed : (p : Action ℕ Value) (w v : World ℕ) (e : Failure) → acting (charge 1) w ≡ Failed e v → operate p w ≡ Failed e v
unfolding operation
operate_failed p w v e failed = rw failed refl

-- ---- steps are only spent

then_pure_left : {A : Type 0} (o : Outcome (Store ℕ) Failure (Unit {0})) (a : A) → (reached (and_then o (λ done. pure a))).left ≡ (reached o).left
then_pure_left (Went done s) a = refl
then_pure_left (Failed e s) a = refl

weighed_spends : (o : Outcome (Store ℕ) Failure Value) → (reached (weighed o)).left ≤ (reached o).left
weighed_spends (Went v s) = rw (then_pure_left (charge (weight v - 1) s) v) ((charge_keeps 0 [] (weight v - 1) s).spent)
weighed_spends (Failed e s) = omega arith

reached_went : {A : Type 0} (o : Outcome (Store ℕ) Failure A) (a : A) (s : Store ℕ) → o ≡ Went a s → reached o ≡ s
reached_went o a s is = ap reached is

reached_failed : {A : Type 0} (o : Outcome (Store ℕ) Failure A) (e : Failure) (s : Store ℕ) → o ≡ Failed e s → reached o ≡ s
reached_failed o e s is = ap reached is

pub spends_weighed : (o : Outcome (Store ℕ) Failure Value) (before : ℕ) (r : Result Value Stop) (new : Store ℕ) → (reached o).left ≤ before → GivesWeighed o r new → Spends r new.left before
spends_weighed o before (Ok v) new spent is = let same = ap (λ s. s.left) (reached_went o v new is) in omega (arith, spent, same)
spends_weighed o before (Err (stop.Failure e)) new spent is =
    let same = ap (λ s. s.left) (reached_failed (weighed o) e new is) in omega (arith, spent, same, weighed_spends o)
spends_weighed o before (Err stop.NoMemory) new spent is = tt

pub spends : {A : Type 0} (o : Outcome (Store ℕ) Failure A) (before : ℕ) (r : Result A Stop) (new : Store ℕ) → (reached o).left ≤ before → Gives o r new → Spends r new.left before
spends o before (Ok a) new spent is = let same = ap (λ s. s.left) (reached_went o a new is) in omega (arith, spent, same)
spends o before (Err (stop.Failure e)) new spent is = let same = ap (λ s. s.left) (reached_failed o e new is) in omega (arith, spent, same)
spends o before (Err stop.NoMemory) new spent is = tt

cut_at : (left n sum : ℕ) → left < 64000000 → sum ≡ min n (2 ^ 64 - 1) → charged left sum ≡ charged left n
cut_at left n sum low is = elim (cases_Bool (nat_lt left n)) [
  | inl past ↦ let h : left < n = grind (arith, nat_tests) in let k : left < sum = omega arith in grind (arith, nat_tests)
  | inr within ↦ let h : n ≤ left = grind (arith, nat_tests) in let e : sum ≡ n = omega arith in ap (charged left) e
]

-- ---- the methods of a run: `b` is the run as its fields are, and `v` the value that it had before

pub sound_operation : (b v : Running) (m : MachineState) → b ≡ v → IsSound b → Follows b.machine m → HasCredit v → IsSound (record b { machine = m })
sound_operation b v m is sound follows credit = sound_follows b m sound follows (subst HasCredit (sym is) credit)

pub operation_gives : (p : Action ℕ Value) (a b v : Running) (r : Result Value Stop) (after : World ℕ) → b ≡ v → acting (charge 1) (world a) ≡ Went tt (world v)
    → Gives (settled b.frame b.out (p (store b.machine b.left))) r after → Gives (operate p (world a)) r after
operation_gives p a b v r after is paid gives = operated p (world a) (world b) r after (paid ∙ ap (λ x. Went tt (world x)) (sym is)) gives

pub operation_goes : (a b v c : Running) (m : MachineState) → b ≡ v → Goes a v → IsPaid a v → Follows b.machine m → Goes (record b { machine = m }) c → Goes a c
operation_goes a b v c m is h paid follows k = goes_through a b c m (subst (Goes a) (sym is) h) (subst (IsPaid a) (sym is) paid) follows k

-- the charge of an operation fails
pub charge_stops : (p : Action ℕ Value) (w v : World ℕ) (e : Stop) → Gives (acting (charge 1) w) (Err e) v → Gives (operate p w) (Err e) v
charge_stops p w v (stop.Failure e) h = operate_failed p w v e h
charge_stops p w v stop.NoMemory h = tt

pub settle_goes : (b v : Running) (left : ℕ) → b ≡ v → left ≤ v.left → Goes v (record b { left = left })
settle_goes b v left is less = subst (λ x. Goes x (record b { left = left })) is (goes_left b left (subst (λ x. left ≤ x.left) (sym is) less))

-- the end of an operation that fails
pub finish_failed : (before after : Running) (answer : Result Value Stop) (left : ℕ) (e : Stop) → answer ≡ Err e → after ≡ record before { left = left_after answer left before.left }
    → (o : Outcome (Store ℕ) Failure Value) → GivesWeighed o answer (store before.machine left) → Gives (settled before.frame before.out o) (Err e) (world after)
finish_failed before after (Ok v) left e is same o h = absurd (cc)
finish_failed before after (Err (stop.Failure f)) left e is same o h =
    let this : stop.Failure f ≡ e = cc in
    subst (λ x. Gives (settled before.frame before.out o) (Err x) (world after)) this
    (settled_is before.frame before.out o ∙ ap (placed before.frame before.out) h ∙ sym (ap (λ r. Failed f (world r)) same))
finish_failed before after (Err stop.NoMemory) left e is same o h =
    let this : stop.NoMemory ≡ e = cc in subst (λ x. Gives (settled before.frame before.out o) (Err x) (world after)) this tt

-- a call of which 1 was paid before, or that pays for nothing
pub settled_gives : {A : Type 0} (p : Action ℕ A) (b : Running) (m : MachineState) (left : ℕ) (answer : Result A Stop) (after : Running)
    → Gives (p (store b.machine b.left)) answer (store m left) → after ≡ record b { machine = m; left = left_after answer left b.left } → Gives (acting p (world b)) answer (world after)
settled_gives p b m left (Ok a) after h same = acting_is p (world b) ∙ ap (placed b.frame b.out) h ∙ sym (ap (λ r. Went a (world r)) same)
settled_gives p b m left (Err (stop.Failure e)) after h same = acting_is p (world b) ∙ ap (placed b.frame b.out) h ∙ sym (ap (λ r. Failed e (world r)) same)
settled_gives p b m left (Err stop.NoMemory) after h same = tt

pub written_gives : (p : Action ℕ (Value × List ℕ)) (b : Running) (m : MachineState) (left : ℕ) (out : List ℕ) (answer : Result Value Stop) (after : Running)
    → GivesWritten b.out (p (store b.machine b.left)) answer (store m left) out → after ≡ record b { machine = m; out = out; left = left_after answer left b.left } → Gives (call_written p (world b)) answer (world after)
unfolding write
written_gives p b m left out (Ok v) after h same =
    ap (λ o. and_then o (λ answer. write answer.1 >> pure answer.0)) (acting_is p (world b) ∙ ap (placed b.frame b.out) h.1)
    ∙ ap (λ o. Went v (record { store = store m left; frame = b.frame; out = o })) (sym h.2) ∙ sym (ap (λ r. Went v (world r)) same)
written_gives p b m left out (Err (stop.Failure e)) after h same =
    ap (λ o. and_then o (λ answer. write answer.1 >> pure answer.0)) (acting_is p (world b) ∙ ap (placed b.frame b.out) h.0)
    ∙ ap (λ o. Failed e (record { store = store m left; frame = b.frame; out = o })) (sym h.1) ∙ sym (ap (λ r. Failed e (world r)) same)
written_gives p b m left out (Err stop.NoMemory) after h same = tt

pub spends_written : (o : Outcome (Store ℕ) Failure (Value × List ℕ)) (before : ℕ) (out : List ℕ) (r : Result Value Stop) (new : Store ℕ) (after : List ℕ)
    → (reached o).left ≤ before → GivesWritten out o r new after → Spends r new.left before
spends_written o before out (Ok v) new after spent is = let same = ap (λ s. s.left) (reached_went o (v, is.0) new is.1) in omega (arith, spent, same)
spends_written o before out (Err (stop.Failure e)) new after spent is = let same = ap (λ s. s.left) (reached_failed o e new is.0) in omega (arith, spent, same)
spends_written o before out (Err stop.NoMemory) new after spent is = tt

pub makes_through : (a b c : Running) (m : MachineState) (out : List ℕ) → b ≡ a → Follows b.machine m → Goes (record b { machine = m; out = out }) c → Makes a c
makes_through a b c m out is follows k = subst (λ x. Makes x c) is (record {
  ran = k.ran ∙ follows.ran;
  fit = λ v f. k.fit v (follows.fit v f);
  valid = λ program v. k.valid program (follows.valid program v);
  few = omega (arith, k.few, follows.few);
})

-- a call that makes no object
pub store_through : (a b c : Running) (m : MachineState) → b ≡ a → Follows b.machine m → length m.state.objects ≡ length b.machine.state.objects → Goes (record b { machine = m }) c → Goes a c
store_through a b c m is follows count k = subst (λ x. Goes x c) is (record {
  ran = k.ran ∙ follows.ran;
  fit = λ v f. k.fit v (follows.fit v f);
  valid = λ program v. k.valid program (follows.valid program v);
  few = omega (arith, k.few, count);
})

pub sound_stored : (b : Running) (m : MachineState) → IsSound b → Follows b.machine m → length m.state.objects ≡ length b.machine.state.objects → IsSound (record b { machine = m })
sound_stored b m sound follows count = record {
  proper = follows.proper sound.proper;
  slots = blocks_stay b.machine m follows.fit b.frame.blocks sound.slots;
  room = rw (follows.ran, count) sound.room;
}

pub sound_out : (b : Running) (m : MachineState) (out : List ℕ) → IsSound (record b { machine = m }) → IsSound (record b { machine = m; out = out })
sound_out b m out sound = record { proper = sound.proper; slots = sound.slots; room = sound.room }

-- a call that takes over what a call has left
pub settled_method : {A : Type 0} (p : Action ℕ A) (b v : Running) (m : MachineState) (left : ℕ) (answer r : Result A Stop) (after : Running) → b ≡ v
    → Gives (p (store b.machine b.left)) answer (store m left) → r ≡ answer → after ≡ record b { machine = m; left = left_after answer left b.left } → Gives (acting p (world v)) r (world after)
settled_method p b v m left answer r after is h same end =
    subst (λ x. Gives (acting p (world x)) r (world after)) is (subst (λ x. Gives (acting p (world b)) x (world after)) (sym same) (settled_gives p b m left answer after h end))

pub written_method : (p : Action ℕ (Value × List ℕ)) (b v : Running) (m : MachineState) (left : ℕ) (out : List ℕ) (answer r : Result Value Stop) (after : Running) → b ≡ v
    → GivesWritten b.out (p (store b.machine b.left)) answer (store m left) out → r ≡ answer → after ≡ record b { machine = m; out = out; left = left_after answer left b.left } → Gives (call_written p (world v)) r (world after)
written_method p b v m left out answer r after is h same end =
    subst (λ x. Gives (call_written p (world x)) r (world after)) is (subst (λ x. Gives (call_written p (world b)) x (world after)) (sym same) (written_gives p b m left out answer after h end))

store_again : {B : Type 0} (w : World ℕ) (s : Store ℕ) (o : Outcome (Store ℕ) Failure B) → with_store w o ≡ with_store (record w { store = s }) o
store_again w s (Went b t) = refl
store_again w s (Failed e t) = refl

acting_at : {A B : Type 0} (f : A → Action ℕ B) (w : World ℕ) (o : Outcome (Store ℕ) Failure A) → with_store w (and_then o f) ≡ and_then (with_store w o) (λ a v. with_store v (f a v.store))
acting_at f w (Went a s) = store_again w s (f a s)
acting_at f w (Failed e s) = refl

-- one operation after another
pub acting_then : {A B : Type 0} (p : Action ℕ A) (f : A → Action ℕ B) (w : World ℕ) → acting (p >>= f) w ≡ and_then (acting p w) (λ a. acting (f a))
unfolding acting
acting_then p f w = acting_at f w (p w.store)

-- an object that is made
pub made_gives : {A : Type 0} (p : Action ℕ A) (b v : Running) (m : MachineState) (answer : Result A Stop) → b ≡ v → Gives (p (store b.machine b.left)) answer (store m b.left) → Gives (acting p (world v)) answer (world (record b { machine = m }))
made_gives p b v m (Ok a) is h = ap (λ x. acting p (world x)) (sym is) ∙ acting_is p (world b) ∙ ap (placed b.frame b.out) h
made_gives p b v m (Err (stop.Failure e)) is h = ap (λ x. acting p (world x)) (sym is) ∙ acting_is p (world b) ∙ ap (placed b.frame b.out) h
made_gives p b v m (Err stop.NoMemory) is h = tt

pub made_makes : (a b : Running) (m : MachineState) → b ≡ a → Follows b.machine m → Makes a (record b { machine = m })
made_makes a b m is follows = subst (λ x. Makes x (record b { machine = m })) is (record { ran = follows.ran; fit = follows.fit; valid = follows.valid; few = omega (arith, follows.few) })

-- the steps of a failing call
pub spends_failed : {A : Type 0} (answer : Result A Stop) (e : Failure) (left before : ℕ) → answer ≡ Err (stop.Failure e) → Spends answer left before → left ≤ before
spends_failed answer e left before is h = subst (λ x. Spends x left before) is h

-- a sum of weights that is cut off
pub charge_cut : (r : Running) (n sum : ℕ) → IsMachine r.machine → IsSound r → sum ≡ min n (2 ^ 64 - 1) → acting (charge sum) (world r) ≡ acting (charge n) (world r)
unfolding charge
charge_cut r n sum kept sound is =
    let low : r.left < 64000000 = omega (arith, sound.room, kept.few) in
    acting_is (charge sum) (world r) ∙ ap (λ x. placed r.frame r.out (paid r.machine.state x)) (cut_at r.left n sum low is) ∙ sym (acting_is (charge n) (world r))

-- ---- names

charge_is : (b : Running) (n : ℕ) (r : Result (Unit {0}) Failure) (left : ℕ) → charged b.left n ≡ (r, left) → acting (charge n) (world b) ≡ placed b.frame b.out (paid b.machine.state (r, left))
unfolding charge
charge_is b n r left h = acting_is (charge n) (world b) ∙ ap (λ x. placed b.frame b.out (paid b.machine.state x)) h

-- the value of a name that is bound
pub name_held : (name : List ℕ) (a b v : Running) (held : Value) (answer : Result Value Stop) (left : ℕ) → b ≡ v → acting (charge 1) (world a) ≡ Went tt (world v)
    → value_in b.machine.state name (slot_of b.frame.blocks name) ≡ Some held → GivesCharged (charged b.left (weight held - 1)) held answer left
    → Gives (operation (look_up name) (world a)) answer (world (record b { left = left }))
unfolding operation look_up
name_held name a b v held (Ok given) left is paid found h =
    ap (λ o. and_then o (λ done. look_up name >>= (λ x. acting (charge (weight x - 1)) >> pure x))) (paid ∙ ap (λ x. Went tt (world x)) (sym is))
    ∙ ap (λ o. and_then (given_or failure.Unbound o (world b)) (λ x. acting (charge (weight x - 1)) >> pure x)) found
    ∙ ap (λ o. and_then o (λ done. pure held)) (charge_is b (weight held - 1) (Ok tt) left h.0)
    ∙ ap (λ x. Went x (world (record b { left = left }))) (sym h.1)
name_held name a b v held (Err (stop.Failure e)) left is paid found h =
    ap (λ o. and_then o (λ done. look_up name >>= (λ x. acting (charge (weight x - 1)) >> pure x))) (paid ∙ ap (λ x. Went tt (world x)) (sym is))
    ∙ ap (λ o. and_then (given_or failure.Unbound o (world b)) (λ x. acting (charge (weight x - 1)) >> pure x)) found
    ∙ ap (λ o. and_then o (λ done. pure held)) (charge_is b (weight held - 1) (Err e) left h)
name_held name a b v held (Err stop.NoMemory) left is paid found h = tt

same_left : (b : Running) → charged b.left 0 ≡ (Ok tt, b.left)
same_left b = nothing_charged b.left

-- a built-in function
pub name_builtin : (name : List ℕ) (a b v : Running) (which : Builtin) → b ≡ v → acting (charge 1) (world a) ≡ Went tt (world v)
    → value_in b.machine.state name (slot_of b.frame.blocks name) ≡ Some (value.Builtin which) → operation (look_up name) (world a) ≡ Went (value.Builtin which) (world v)
unfolding operation look_up
name_builtin name a b v which is paid found =
    ap (λ o. and_then o (λ done. look_up name >>= (λ x. acting (charge (weight x - 1)) >> pure x))) (paid ∙ ap (λ x. Went tt (world x)) (sym is))
    ∙ ap (λ o. and_then (given_or failure.Unbound o (world b)) (λ x. acting (charge (weight x - 1)) >> pure x)) found
    ∙ ap (λ n. and_then (acting (charge (n - 1)) (world b)) (λ done. pure (value.Builtin which))) (weight_builtin which)
    ∙ ap (λ o. and_then o (λ done. pure (value.Builtin which))) (charge_is b 0 (Ok tt) b.left (same_left b))
    ∙ ap (λ x. Went (value.Builtin which) (world x)) is

-- a name that is not bound
pub name_unbound : (name : List ℕ) (a b v : Running) → b ≡ v → acting (charge 1) (world a) ≡ Went tt (world v)
    → value_in b.machine.state name (slot_of b.frame.blocks name) ≡ None → operation (look_up name) (world a) ≡ Failed failure.Unbound (world v)
unfolding operation look_up
name_unbound name a b v is paid found =
    ap (λ o. and_then o (λ done. look_up name >>= (λ x. acting (charge (weight x - 1)) >> pure x))) (paid ∙ ap (λ x. Went tt (world x)) (sym is))
    ∙ ap (λ o. and_then (given_or failure.Unbound o (world b)) (λ x. acting (charge (weight x - 1)) >> pure x)) found
    ∙ ap (λ x. Failed failure.Unbound (world x)) is

pub name_stops : (p : Work ℕ Value) (w v : World ℕ) (e : Stop) → Gives (acting (charge 1) w) (Err e) v → Gives (operation p w) (Err e) v
unfolding operation
name_stops p w v (stop.Failure e) h = ap (λ o. and_then o (λ done. p >>= (λ x. acting (charge (weight x - 1)) >> pure x))) h
name_stops p w v stop.NoMemory h = tt

pub sound_paid : (b : Running) (left : ℕ) → IsSound b → left ≤ b.left → IsSound (record b { left = left })
sound_paid b left sound less = sound_left b left sound less

pub paid_goes : (a b v : Running) (left : ℕ) → b ≡ v → Goes a v → left ≤ b.left → Goes a (record b { left = left })
paid_goes a b v left is h less = goes_then a b (record b { left = left }) (subst (Goes a) (sym is) h) (goes_left b left less)

-- what stands in a block, and what a global name has, may stand in the machine
slot_here : (m : MachineState) (slot : List ℕ × Option Value) (slots : Block) (name : List ℕ) (o : Option Value) (b : Bool) → bytes_eq name slot.0 ≡ b → IsTrue (slot_fits m slot)
    → (named_in slots name ≡ Some o → IsTrue (bound_fits m o)) → named_in (slot ∷ slots) name ≡ Some o → IsTrue (bound_fits m o)
slot_here m slot slots name o true same h rest is =
    let this : Some slot.1 ≡ Some o = ap (λ c. if c then Some slot.1 else named_in slots name) (sym same) ∙ is in
    let equal : slot.1 ≡ o = cc in
    subst (λ x. IsTrue (bound_fits m x)) equal h
slot_here m slot slots name o false other h rest is = rest (ap (λ c. if c then Some slot.1 else named_in slots name) (sym other) ∙ is)

slot_stands : (m : MachineState) (block : Block) (name : List ℕ) (o : Option Value) → IsTrue (list_all (slot_fits m) block) → named_in block name ≡ Some o → IsTrue (bound_fits m o)
slot_stands m [] name o h is = absurd (cc)
slot_stands m (slot ∷ slots) name o h is =
    slot_here m slot slots name o (bytes_eq name slot.0) refl (and_left (slot_fits m slot) (list_all (slot_fits m) slots) h)
    (λ at. slot_stands m slots name o (and_right (slot_fits m slot) (list_all (slot_fits m) slots) h) at) is

block_here : (m : MachineState) (block : Block) (blocks : List Block) (name : List ℕ) (o : Option Value) (found : Option (Option Value)) → named_in block name ≡ found → IsTrue (list_all (slot_fits m) block)
    → (slot_of blocks name ≡ Some o → IsTrue (bound_fits m o)) → slot_of (block ∷ blocks) name ≡ Some o → IsTrue (bound_fits m o)
block_here m block blocks name o (Some p) at h rest is =
    let this : Some p ≡ Some o = ap (λ x. first_some x (slot_of blocks name)) (sym at) ∙ is in
    let equal : p ≡ o = cc in
    slot_stands m block name o h (at ∙ ap Some equal)
block_here m block blocks name o None at h rest is = rest (ap (λ x. first_some x (slot_of blocks name)) (sym at) ∙ is)

block_stands : (m : MachineState) (blocks : List Block) (name : List ℕ) (o : Option Value) → IsTrue (blocks_fit m blocks) → slot_of blocks name ≡ Some o → IsTrue (bound_fits m o)
unfolding block_fits
block_stands m [] name o h is = absurd (cc)
block_stands m (block ∷ blocks) name o h is =
    block_here m block blocks name o (named_in block name) refl (and_left (block_fits m block) (blocks_fit m blocks) h)
    (λ at. block_stands m blocks name o (and_right (block_fits m block) (blocks_fit m blocks) h) at) is

look_here : (test : Value → Bool) (test_at : List ℕ → Bool) (g : List ℕ × Value) (gs : List (List ℕ × Value)) (v : Value) (b : Bool) → test_at g.0 ≡ b → IsTrue (test g.1)
    → (lookup test_at gs ≡ Some v → IsTrue (test v)) → lookup test_at (g ∷ gs) ≡ Some v → IsTrue (test v)
look_here test test_at g gs v true same h rest is =
    let this : Some g.1 ≡ Some v = ap (λ c. if c then Some g.1 else lookup test_at gs) (sym same) ∙ is in
    let equal : g.1 ≡ v = cc in subst (λ x. IsTrue (test x)) equal h
look_here test test_at g gs v false other h rest is = rest (ap (λ c. if c then Some g.1 else lookup test_at gs) (sym other) ∙ is)

looked_passes : (test : Value → Bool) (test_at : List ℕ → Bool) (entries : List (List ℕ × Value)) (v : Value) → IsTrue (list_all (λ g. test g.1) entries) → lookup test_at entries ≡ Some v → IsTrue (test v)
looked_passes test test_at [] v h is = absurd (cc)
looked_passes test test_at (g ∷ gs) v h is =
    look_here test test_at g gs v (test_at g.0) refl (and_left (test g.1) (list_all (λ x. test x.1) gs) h)
    (λ at. looked_passes test test_at gs v (and_right (test g.1) (list_all (λ x. test x.1) gs) h) at) is

pub held_fits : (m : MachineState) (v : Value) (charge : Result (Unit {0}) Failure × ℕ) (answer : Result Value Stop) (left : ℕ) → GivesCharged charge v answer left → Fits m v → IfOk answer (λ x. Fits m x)
held_fits m v charge (Ok x) left h fit = subst (Fits m) (sym h.1) fit
held_fits m v charge (Err e) left h fit = tt

pub name_fits : (b : Running) (name : List ℕ) (v : Value) → IsMachine b.machine → IsSound b → value_in b.machine.state name (slot_of b.frame.blocks name) ≡ Some v → Fits b.machine v
unfolding global
name_fits b name v kept sound is = at_slot (slot_of b.frame.blocks name) refl
  where
    at_slot : (slot : Option (Option Value)) → slot_of b.frame.blocks name ≡ slot → Fits b.machine v
    at_slot (Some o) at =
        let this : o ≡ Some v = ap (value_in b.machine.state name) (sym at) ∙ is in
        fit_of b.machine v (subst (λ x. IsTrue (bound_fits b.machine x)) this (block_stands b.machine b.frame.blocks name o sound.slots at))
    at_slot None at = at_global (global b.machine.state name) refl
      where
        at_global : (found : Option Value) → global b.machine.state name ≡ found → Fits b.machine v
        at_global (Some g) here =
            let this : Some g ≡ Some v = ap (λ x. first_some x (option_map value.Builtin (builtin_of name))) (sym here) ∙ ap (value_in b.machine.state name) (sym at) ∙ is in
            let equal : g ≡ v = cc in
            record {
              references = looked_passes (fits b.machine.state.objects) (is_at (text_cmp name)) b.machine.state.globals v (and_left (list_all (λ x. fits b.machine.state.objects x.1) b.machine.state.globals) (list_all (all_in_object (fits b.machine.state.objects)) b.machine.state.objects) kept.references) (here ∙ ap Some equal);
              proper = looked_passes is_proper (is_at (text_cmp name)) b.machine.state.globals v (and_left (list_all (λ x. is_proper x.1) b.machine.state.globals) (list_all (all_in_object is_proper) b.machine.state.objects) sound.proper) (here ∙ ap Some equal);
            }
        at_global None here = at_builtin (builtin_of name) (ap (λ x. first_some x (option_map value.Builtin (builtin_of name))) (sym here) ∙ ap (value_in b.machine.state name) (sym at) ∙ is)
          where
            at_builtin : (which : Option Builtin) → option_map value.Builtin which ≡ Some v → Fits b.machine v
            at_builtin (Some w) h = let equal : value.Builtin w ≡ v = cc in subst (Fits b.machine) equal (builtin_fits b.machine w)
            at_builtin None h = absurd (cc)

truth_spends : (o : Outcome (Store ℕ) Failure Bool) → (reached (and_then o (λ b. pure (value.Bool b)))).left ≡ (reached o).left
truth_spends (Went b s) = refl
truth_spends (Failed e s) = refl

pub compared_keeps : (op : CompareOp) (x y : Value) (s : Store ℕ) → (reached (compared op x y s)).left ≤ s.left
compared_keeps op x y s = rw (truth_spends (compare op x y s)) ((compare_keeps 0 [] op x y s).spent)

-- ---- what is bound

bound_step : (m : MachineState) (name : List ℕ) (v : Value) (slot : List ℕ × Option Value) (slots : Block) (b : Bool) → Fits m v → IsTrue (slot_fits m slot) → IsTrue (list_all (slot_fits m) slots) → IsTrue (list_all (slot_fits m) (bound_in slots name v))
    → IsTrue (list_all (slot_fits m) (if b then (slot.0, Some v) ∷ slots else slot ∷ bound_in slots name v))
bound_step m name v slot slots true fit here there rest = and_both (bound_fits m (Some v)) (list_all (slot_fits m) slots) (bound_of m v fit) there
bound_step m name v slot slots false fit here there rest = and_both (slot_fits m slot) (list_all (slot_fits m) (bound_in slots name v)) here rest

bound_in_fit : (m : MachineState) (name : List ℕ) (v : Value) (block : Block) → Fits m v → IsTrue (list_all (slot_fits m) block) → IsTrue (list_all (slot_fits m) (bound_in block name v))
bound_in_fit m name v [] fit h = refl
bound_in_fit m name v (slot ∷ slots) fit h =
    bound_step m name v slot slots (bytes_eq name slot.0) fit (and_left (slot_fits m slot) (list_all (slot_fits m) slots) h) (and_right (slot_fits m slot) (list_all (slot_fits m) slots) h)
    (bound_in_fit m name v slots fit (and_right (slot_fits m slot) (list_all (slot_fits m) slots) h))

rebound_step : (m : MachineState) (name : List ℕ) (v : Value) (block : Block) (blocks : List Block) (b : Bool) → Fits m v → IsTrue (block_fits m block) → IsTrue (blocks_fit m blocks) → IsTrue (blocks_fit m (rebound blocks name v))
    → IsTrue (blocks_fit m (if b then bound_in block name v ∷ blocks else block ∷ rebound blocks name v))
unfolding block_fits
rebound_step m name v block blocks true fit here there rest = and_both (list_all (slot_fits m) (bound_in block name v)) (blocks_fit m blocks) (bound_in_fit m name v block fit here) there
rebound_step m name v block blocks false fit here there rest = and_both (block_fits m block) (blocks_fit m (rebound blocks name v)) here rest

rebound_fit : (m : MachineState) (name : List ℕ) (v : Value) (blocks : List Block) → Fits m v → IsTrue (blocks_fit m blocks) → IsTrue (blocks_fit m (rebound blocks name v))
rebound_fit m name v [] fit h = refl
rebound_fit m name v (block ∷ blocks) fit h =
    rebound_step m name v block blocks (is_some (named_in block name)) fit (and_left (block_fits m block) (blocks_fit m blocks) h) (and_right (block_fits m block) (blocks_fit m blocks) h)
    (rebound_fit m name v blocks fit (and_right (block_fits m block) (blocks_fit m blocks) h))

pub sound_rebound : (b v : Running) (name : List ℕ) (held : Value) (blocks : List Block) → b ≡ v → IsSound b → Fits v.machine held → blocks ≡ rebound b.frame.blocks name held → IsSound (record b { frame = record b.frame { blocks = blocks } })
sound_rebound b v name held blocks is sound fit same = record {
  proper = sound.proper;
  slots = rw same (rebound_fit b.machine name held b.frame.blocks (subst (λ x. Fits x.machine held) (sym is) fit) sound.slots);
  room = sound.room;
}

entry_proper : (name : List ℕ) (v : Value) (g : List ℕ × Value) (gs more : List (List ℕ × Value)) (o : Ordering) → IsTrue (is_proper v) → IsTrue (list_all (λ x. is_proper x.1) (g ∷ gs)) → IsTrue (list_all (λ x. is_proper x.1) more)
    → IsTrue (list_all (λ x. is_proper x.1) (match_ordering o ((name, v) ∷ g ∷ gs) ((g.0, v) ∷ gs) (g ∷ more)))
entry_proper name v g gs more Less fine h k = and_both (is_proper v) (list_all (λ x. is_proper x.1) (g ∷ gs)) fine h
entry_proper name v g gs more Equal fine h k = and_both (is_proper v) (list_all (λ x. is_proper x.1) gs) fine (and_right (is_proper g.1) (list_all (λ x. is_proper x.1) gs) h)
entry_proper name v g gs more Greater fine h k = and_both (is_proper g.1) (list_all (λ x. is_proper x.1) more) (and_left (is_proper g.1) (list_all (λ x. is_proper x.1) gs) h) k

entries_proper : (name : List ℕ) (v : Value) (gs : List (List ℕ × Value)) → IsTrue (is_proper v) → IsTrue (list_all (λ x. is_proper x.1) gs) → IsTrue (list_all (λ x. is_proper x.1) (insert_entry text_cmp gs name v))
entries_proper name v [] fine h = and_both (is_proper v) true fine refl
entries_proper name v (g ∷ gs) fine h =
    entry_proper name v g gs (insert_entry text_cmp gs name v) (text_cmp name g.0) fine h
    (entries_proper name v gs fine (and_right (is_proper g.1) (list_all (λ x. is_proper x.1) gs) h))

-- the machine with this value at a global name
abbrev pub with_global : MachineState → List ℕ → Value → MachineState
with_global m name v = record m { state = set_global m.state name v }

global_proper : (m : MachineState) (name : List ℕ) (v : Value) → Fits m v → IsTrue (all_in is_proper m.state) → IsTrue (all_in is_proper (with_global m name v).state)
unfolding set_global
global_proper m name v fit h =
    and_both (list_all (λ x. is_proper x.1) (insert_entry text_cmp m.state.globals name v)) (list_all (all_in_object is_proper) m.state.objects)
    (entries_proper name v m.state.globals fit.proper (and_left (list_all (λ x. is_proper x.1) m.state.globals) (list_all (all_in_object is_proper) m.state.objects) h))
    (and_right (list_all (λ x. is_proper x.1) m.state.globals) (list_all (all_in_object is_proper) m.state.objects) h)

global_fit : (m : MachineState) (name : List ℕ) (v w : Value) → Fits m w → Fits (with_global m name v) w
unfolding set_global
global_fit m name v w h = record { references = h.references; proper = h.proper }

pub global_follows : (m after : MachineState) (name : List ℕ) (v : Value) → after ≡ with_global m name v → IsMachine after → Fits m v → Follows m after
unfolding set_global
global_follows m after name v same kept fit = subst (Follows m) (sym same) (record {
  ran = refl;
  fit = global_fit m name v;
  few = omega arith;
  proper = global_proper m name v fit;
  valid = λ program valid. record { kept = subst IsMachine same kept; values = global_proper m name v fit valid.values; nodes = valid.nodes; functions = valid.functions };
})

pub global_count : (m after : MachineState) (name : List ℕ) (v : Value) → after ≡ with_global m name v → length after.state.objects ≡ length m.state.objects
unfolding set_global
global_count m after name v same = ap (λ x. length x.state.objects) same

pub sound_global : (b v : Running) (after : MachineState) (name : List ℕ) (held : Value) → b ≡ v → IsSound b → Fits v.machine held → IsMachine after → after ≡ with_global b.machine name held → IsSound (record b { machine = after })
sound_global b v after name held is sound fit kept same =
    let here = subst (λ (x : Running). Fits x.machine held) (sym is) fit in
    sound_stored b after sound (global_follows b.machine after name held same kept here) (global_count b.machine after name held same)

pub goes_global : (b v : Running) (after : MachineState) (name : List ℕ) (held : Value) → b ≡ v → Fits v.machine held → IsMachine after → after ≡ with_global b.machine name held → Goes v (record b { machine = after })
goes_global b v after name held is fit kept same =
    let here = subst (λ (x : Running). Fits x.machine held) (sym is) fit in
    store_through v b (record b { machine = after }) after is (global_follows b.machine after name held same kept here) (global_count b.machine after name held same) (goes_same (record b { machine = after }))

-- ---- what is shown

shown_spends : (o : Outcome (Store ℕ) Failure (List ℕ)) → (reached (and_then o (λ text. pure ([] ++ text)))).left ≡ (reached o).left
shown_spends (Went text s) = refl
shown_spends (Failed e s) = refl

onto_nothing : (o : Outcome (Store ℕ) Failure (List ℕ)) → and_then o (λ text. pure ([] ++ text)) ≡ o
onto_nothing (Went text s) = refl
onto_nothing (Failed e s) = refl

-- a text that is written behind nothing
pub shown_gives : (p : Action ℕ (List ℕ)) (s new : Store ℕ) (answer : Result (Unit {0}) Stop) (text : List ℕ) → Shows (onto [] p s) answer new text → Gives (p s) (made_of answer text) new
unfolding onto
shown_gives p s new (Ok done) text h = sym (onto_nothing (p s)) ∙ h
shown_gives p s new (Err (stop.Failure e)) text h = sym (onto_nothing (p s)) ∙ h
shown_gives p s new (Err stop.NoMemory) text h = tt

pub spends_shown : (answer : Result (Unit {0}) Stop) (text : List ℕ) (left before : ℕ) → Spends (made_of answer text) left before → Spends answer left before
spends_shown (Ok done) text left before h = h
spends_shown (Err (stop.Failure e)) text left before h = h
spends_shown (Err stop.NoMemory) text left before h = tt

pub all_fit_push : (m : MachineState) (values : List Value) (v : Value) → AllFit m values → Fits m v → AllFit m (values ++ v ∷ [])
all_fit_push m values v all fit = record { references = all_push (fits m.state.objects) values v all.references fit.references; proper = all_push is_proper values v all.proper fit.proper }

pub slot_none : (found : Option (Bor (Option Value))) (o : Option (Option Value)) → option_copied found ≡ o → is_some found ≡ false → o ≡ None
slot_none None o h k = sym h
slot_none (Some x) o h k = absurd (cc)

pub bind_global : (name : List ℕ) (v : Value) (a after : Running) → slot_of a.frame.blocks name ≡ None → after ≡ record a { machine = with_global a.machine name v } → bind name v (world a) ≡ Went tt (world after)
unfolding bind
bind_global name v a after none same = ap (λ o. Went tt (binding o name v (world a))) none ∙ sym (ap (λ r. Went tt (world r)) same)
