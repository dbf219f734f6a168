-- The turns over a value, whose items are asked for by place.
use Rattle.std.proofs.Common.{◌≡◌, ℕ, suc, zero, ◌+◌, Bool, false, List, [], ◌∷◌, ◌++◌, length, drop, Option, Some, None, IsTrue, slice_get, refl, sym, ap, ◌∙◌, subst, arith}
use Rattle.std.specs.Prelude.{◌==◌, ◌||◌, is_some, option_map}
use Rattle.std.proofs.lemmas.Bool.Decides.{nat_tests}
use Rattle.star_value.specs.declared.failure.Failure.{Failure}
use Rattle.star_value.specs.declared.failure.Failure.TheVariants as failure
use Rattle.star_value.specs.declared.value.Value.{Value, out-Value, roll-Value, roll-out-Value, fold-roll-Value}
use Rattle.star_value.specs.declared.value.Value.TheOpen.{Value-F}
use Rattle.star_meaning.specs.State.{Object, State, object}
use Rattle.star_meaning.specs.Steps.{Outcome, Went, Failed, and_then, given_or}
use Rattle.star_meaning.specs.Validity.{fits, fits_step, is_dict, is_list}
use Rattle.star_meaning.specs.Values.{has, items_in, items_of}
use Rattle.star_meaning.specs.World.{Work, World, acting, lock_at, lock_of, locking, turns, unlocked, with_frame, with_store}
use Rattle.star_meaning.specs.Expressions.{loop_over}
use Rattle.star_meaning.specs.Growing.{IsBack, Later, Leads}
use Rattle.star_meaning.proofs.Alone.{LeadsOn}
use Rattle.star_meaning.proofs.Keeping.{IsHeld, has_after, items_stay}

-- ---- a value that is locked is there

same_id : (a b : ℕ) → IsTrue ((a == b) || false) → a ≡ b
same_id a b h = grind (arith, nat_tests)

list_there : {C : Type 0} (o : Option (Object C)) → IsTrue (is_list o) → IsTrue (is_some o)
list_there (Some o) h = refl
list_there None h = absurd (cc)

dict_there : {C : Type 0} (o : Option (Object C)) → IsTrue (is_dict o) → IsTrue (is_some o)
dict_there (Some o) h = refl
dict_there None h = absurd (cc)

there_at : (s : State ℕ) (x : Value-F Value) → IsTrue (fits s.objects (roll-Value x)) → (id : ℕ) → IsTrue (has (lock_at x) id) → IsTrue (is_some (object s id))
unfolding fits object
there_at s (Value-F.List at) h id k =
    subst (λ i. IsTrue (is_some (slice_get s.objects i))) (same_id at id k) (list_there (slice_get s.objects at) (rw (fold-roll-Value Bool (fits_step s.objects)) at h))
there_at s (Value-F.Dict at) h id k =
    subst (λ i. IsTrue (is_some (slice_get s.objects i))) (same_id at id k) (dict_there (slice_get s.objects at) (rw (fold-roll-Value Bool (fits_step s.objects)) at h))
there_at s _ h id k = absurd (cc)

pub locked_is_there : (s : State ℕ) (v : Value) → IsTrue (fits s.objects v) → (id : ℕ) → IsTrue (has (lock_of v) id) → IsTrue (is_some (object s id))
locked_is_there s v h id k = there_at s (out-Value v) (subst (λ u. IsTrue (fits s.objects u)) (sym (roll-out-Value v)) h) id k

-- ---- a turn leaves what is iterated over

module _ (here : ℕ) {A : Type 0} (turn : Value → A → Work ℕ A) (leads : (x : Value) (a : A) → LeadsOn here (turn x a)) where
  gone : (w v : World ℕ) (b : A) (o : Outcome (World ℕ) Failure A) → o ≡ Went b v → Leads here w o → Later here w.frame.locked w.store v.store × IsBack w.frame v.frame
  gone w v b o is l = let there : Leads here w (Went b v) = subst (λ r. Leads here w r) is l in (there.later, there.back)

  pub items_held_on : (of x : Value) (items : List Value) (before : List ℕ) (a b : A) (w v : World ℕ) → turn x a w ≡ Went b v → IsTrue (fits w.store.state.objects of) → w.frame.locked ≡ before ++ lock_of of
      → items_in w.store.state of ≡ Some items → items_in v.store.state of ≡ Some items
  items_held_on of x items before a b w v is fit locked held =
      let there = gone w v b (turn x a w) is (leads x a w) in
      let held_by : IsHeld here w.frame.locked w.store.state (lock_of of) = λ id h. (subst (λ ids. IsTrue (has ids id)) (sym locked) (has_after before (lock_of of) id h), locked_is_there w.store.state of fit id h) in
      items_stay here w.frame.locked w.store v.store there.0 of held_by ∙ held

  pub locked_on : (x : Value) (a b : A) (w v : World ℕ) → turn x a w ≡ Went b v → v.frame.locked ≡ w.frame.locked
  locked_on x a b w v is = (gone w v b (turn x a w) is (leads x a w)).1.locked

-- ---- what is left of the turns

pub drop_at : {X : Type 0} (xs : List X) (i : ℕ) (x : X) → slice_get xs i ≡ Some x → drop i xs ≡ x ∷ drop (suc i) xs
drop_at [] i x h = absurd (cc)
drop_at (y ∷ ys) zero x h = let same : y ≡ x = cc in ap (λ z. z ∷ ys) same
drop_at (y ∷ ys) (suc i) x h = drop_at ys i x h

pub next_of_turns : {A : Type 0} (turn : Value → A → Work ℕ A) (items : List Value) (i : ℕ) (x : Value) (a b : A) (w v : World ℕ) → slice_get items i ≡ Some x → turn x a w ≡ Went b v
    → turns turn (drop i items) a w ≡ turns turn (drop (i + 1) items) b v
next_of_turns turn items i x a b w v here gave =
    let left : drop i items ≡ x ∷ drop (suc i) items = drop_at items i x here in
    let after : suc i ≡ i + 1 = omega arith in
    ap (λ xs. turns turn xs a w) left ∙ ap (λ o. and_then o (turns turn (drop (suc i) items))) gave ∙ ap (λ j. turns turn (drop j items) b v) after

pub failed_turn : {A : Type 0} (turn : Value → A → Work ℕ A) (items : List Value) (i : ℕ) (x : Value) (a : A) (e : Failure) (w v : World ℕ) → slice_get items i ≡ Some x → turn x a w ≡ Failed e v
    → turns turn (drop i items) a w ≡ Failed e v
failed_turn turn items i x a e w v here gave =
    let left : drop i items ≡ x ∷ drop (suc i) items = drop_at items i x here in
    ap (λ xs. turns turn xs a w) left ∙ ap (λ o. and_then o (turns turn (drop (suc i) items))) gave

drop_all : {X : Type 0} (xs : List X) (i : ℕ) → i ≡ length xs → drop i xs ≡ []
drop_all xs i is = ap (λ j. drop j xs) is ∙ all xs
  where
    all : {Y : Type 0} (ys : List Y) → drop (length ys) ys ≡ []
    all [] = refl
    all (y ∷ ys) = all ys

pub last_of_turns : {A : Type 0} (turn : Value → A → Work ℕ A) (items : List Value) (i : ℕ) (a : A) (w : World ℕ) → i ≡ length items → turns turn (drop i items) a w ≡ Went a w
last_of_turns turn items i a w is = ap (λ xs. turns turn xs a w) (drop_all items i is)

-- ---- the whole loop

-- the world in which a value is locked
abbrev pub locking_world : Value → World ℕ → World ℕ
locking_world of w = with_frame (record w.frame { locked = w.frame.locked ++ lock_of of }) w

pub over_is : {A : Type 0} (turn : Value → A → Work ℕ A) (of : Value) (items : List Value) (a : A) (w : World ℕ) → items_in w.store.state of ≡ Some items
    → loop_over turn of a w ≡ unlocked w.frame.locked (turns turn items a (locking_world of w))
unfolding loop_over locking acting items_of
over_is turn of items a w is = ap (λ o. and_then (with_store w (given_or failure.WrongType o w.store)) (λ xs. locking (lock_of of) (turns turn xs a))) is

pub over_ends : {A : Type 0} (turn : Value → A → Work ℕ A) (of : Value) (items : List Value) (a b : A) (w v : World ℕ) → items_in w.store.state of ≡ Some items
    → turns turn items a (locking_world of w) ≡ Went b v → loop_over turn of a w ≡ Went b (with_frame (record v.frame { locked = w.frame.locked }) v)
over_ends turn of items a b w v is gave = over_is turn of items a w is ∙ ap (unlocked w.frame.locked) gave

pub over_fails : {A : Type 0} (turn : Value → A → Work ℕ A) (of : Value) (items : List Value) (a : A) (e : Failure) (w v : World ℕ) → items_in w.store.state of ≡ Some items
    → turns turn items a (locking_world of w) ≡ Failed e v → loop_over turn of a w ≡ Failed e v
over_fails turn of items a e w v is gave = over_is turn of items a w is ∙ ap (unlocked w.frame.locked) gave

pub over_nothing : {A : Type 0} (turn : Value → A → Work ℕ A) (of : Value) (a : A) (w : World ℕ) → items_in w.store.state of ≡ None → loop_over turn of a w ≡ Failed failure.WrongType w
unfolding loop_over acting items_of
over_nothing turn of a w is = ap (λ o. and_then (with_store w (given_or failure.WrongType o w.store)) (λ xs. locking (lock_of of) (turns turn xs a))) is

-- ---- how many items there are

pub counted_items : (o : Option (List Value)) (count : ℕ) → option_map length o ≡ Some count → (items : List Value) × ((o ≡ Some items) × (length items ≡ count))
counted_items None count h = absurd (cc)
counted_items (Some items) count h = (items, (refl, cc))

pub no_items : (o : Option (List Value)) → option_map length o ≡ None → o ≡ None
no_items None h = refl
no_items (Some items) h = absurd (cc)
