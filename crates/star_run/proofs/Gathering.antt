-- Clauses of a comprehension over what holds one of several things that are gathered do what they do over the one alone.
use Rattle.std.proofs.Common.{◌≡◌, ℕ, List, [], ◌∷◌, ◌++◌, Bool, true, false, refl, ap, ◌∙◌}
use Rattle.std.specs.Prelude.{if◌then◌else◌}
use Rattle.std.specs.List.{flat_map}
use Rattle.star_syntax.specs.declared.expression.Clause.{Clause}
use Rattle.star_syntax.specs.declared.expression.Clause.TheVariants as clause
use Rattle.star_value.specs.declared.failure.Failure.{Failure}
use Rattle.star_value.specs.declared.value.Value.{Value}
use Rattle.star_meaning.specs.Steps.{Outcome, Went, Failed, and_then, charge, pure}
use Rattle.star_meaning.specs.Values.{is_true, items_of}
use Rattle.star_meaning.specs.World.{Block, Work, World, acting, distinct, in_block, left_block, lock_of, locking, turns, unbound, unlocked, with_frame}
use Rattle.star_meaning.specs.Expressions.{Meant, clause_names, clauses_from, comprehension, loop_over, next_item}

module _ {C A B : Type 0} (up : A → B) where
  -- an outcome with its result in the larger thing
  abbrev pub lifted : Outcome (World C) Failure A → Outcome (World C) Failure B
  lifted o = and_then o (λ a. pure (up a))

  -- steps over the larger thing do what these do
  abbrev pub Lifts : (A → Work C A) → (B → Work C B) → Type 0
  Lifts inner outer = (a : A) (w : World C) → outer (up a) w ≡ lifted (inner a w)

  next_lifted : {X : Type 0} (o : Outcome (World C) Failure X) (f : X → Work C A) (g : X → Work C B) → ((x : X) (w : World C) → g x w ≡ lifted (f x w)) → and_then o g ≡ lifted (and_then o f)
  next_lifted (Went x w) f g h = h x w
  next_lifted (Failed e w) f g h = refl

  over_lifted : (o : Outcome (World C) Failure A) (f : A → Work C A) (g : B → Work C B) → Lifts f g → and_then (lifted o) g ≡ lifted (and_then o f)
  over_lifted (Went a w) f g h = h a w
  over_lifted (Failed e w) f g h = refl

  unlocked_lifted : (ids : List ℕ) (o : Outcome (World C) Failure A) → unlocked ids (lifted o) ≡ lifted (unlocked ids o)
  unlocked_lifted ids (Went a w) = refl
  unlocked_lifted ids (Failed e w) = refl

  left_lifted : (o : Outcome (World C) Failure A) → left_block (lifted o) ≡ lifted (left_block o)
  left_lifted (Went a w) = refl
  left_lifted (Failed e w) = refl

  turns_lifted : (f : Value → A → Work C A) (g : Value → B → Work C B) → ((x : Value) → Lifts (f x) (g x)) → (xs : List Value) (a : A) (w : World C) → turns g xs (up a) w ≡ lifted (turns f xs a w)
  turns_lifted f g h [] a w = refl
  turns_lifted f g h (x ∷ xs) a w = ap (λ o. and_then o (turns g xs)) (h x a w) ∙ over_lifted (f x a w) (turns f xs) (turns g xs) (turns_lifted f g h xs)

  locking_lifted : (ids : List ℕ) (p : Work C A) (q : Work C B) → ((w : World C) → q w ≡ lifted (p w)) → (w : World C) → locking ids q w ≡ lifted (locking ids p w)
  unfolding locking
  locking_lifted ids p q h w =
      ap (unlocked w.frame.locked) (h (with_frame (record w.frame { locked = w.frame.locked ++ ids }) w)) ∙ unlocked_lifted w.frame.locked (p (with_frame (record w.frame { locked = w.frame.locked ++ ids }) w))

  in_block_lifted : (block : Block) (p : Work C A) (q : Work C B) → ((w : World C) → q w ≡ lifted (p w)) → (w : World C) → in_block block q w ≡ lifted (in_block block p w)
  unfolding in_block
  in_block_lifted block p q h w =
      ap left_block (h (with_frame (record w.frame { blocks = block ∷ w.frame.blocks }) w)) ∙ left_lifted (p (with_frame (record w.frame { blocks = block ∷ w.frame.blocks }) w))

  loop_lifted : (f : Value → A → Work C A) (g : Value → B → Work C B) → ((x : Value) → Lifts (f x) (g x)) → (v : Value) → Lifts (loop_over f v) (loop_over g v)
  unfolding loop_over
  loop_lifted f g h v a w =
      next_lifted (acting (items_of v) w) (λ items. locking (lock_of v) (turns f items a)) (λ items. locking (lock_of v) (turns g items (up a)))
      (λ items u. locking_lifted (lock_of v) (turns f items a) (turns g items (up a)) (turns_lifted f g h items a) u)

  module _ (inner : A → Work C A) (outer : B → Work C B) (h : Lifts inner outer) where
    abbrev turn : List (Meant C) → List (Clause (Meant C)) → Value → A → Work C A
    turn targets more x a = λ w. and_then (next_item targets x w) (λ done. clauses_from more inner a)

    abbrev turn_outside : List (Meant C) → List (Clause (Meant C)) → Value → B → Work C B
    turn_outside targets more x b = λ w. and_then (next_item targets x w) (λ done. clauses_from more outer b)

    chosen_lifted : (t : Bool) (more : List (Clause (Meant C))) → Lifts (clauses_from more inner) (clauses_from more outer) → (a : A) (w : World C)
        → (if t then clauses_from more outer (up a) else pure (up a)) w ≡ lifted ((if t then clauses_from more inner a else pure a) w)
    chosen_lifted true more k a w = k a w
    chosen_lifted false more k a w = refl

    turn_lifted : (targets : List (Meant C)) (more : List (Clause (Meant C))) → Lifts (clauses_from more inner) (clauses_from more outer) → (x : Value) → Lifts (turn targets more x) (turn_outside targets more x)
    turn_lifted targets more k x a w = next_lifted (next_item targets x w) (λ done. clauses_from more inner a) (λ done. clauses_from more outer (up a)) (λ done u. k a u)

    pub clauses_lifted : (cs : List (Clause (Meant C))) → Lifts (clauses_from cs inner) (clauses_from cs outer)
    clauses_lifted [] a w = h a w
    clauses_lifted (clause.If condition ∷ more) a w =
        next_lifted (condition.value w) (λ v u. (if is_true u.store.state v then clauses_from more inner a else pure a) u) (λ v u. (if is_true u.store.state v then clauses_from more outer (up a) else pure (up a)) u)
        (λ v u. chosen_lifted (is_true u.store.state v) more (clauses_lifted more) a u)
    clauses_lifted (clause.For targets over ∷ more) a w =
        next_lifted (over.value w) (λ v. loop_over (turn targets more) v a) (λ v. loop_over (turn_outside targets more) v (up a))
        (λ v u. loop_lifted (turn targets more) (turn_outside targets more) (turn_lifted targets more (clauses_lifted more)) v a u)

    abbrev block_of : List (Meant C) → Meant C → List (Clause (Meant C)) → Block
    block_of targets over more = unbound (distinct (flat_map clause_names (clause.For targets over ∷ more)))

    -- a comprehension
    pub comprehension_lifted : (cs : List (Clause (Meant C))) → Lifts (comprehension cs inner) (comprehension cs outer)
    comprehension_lifted [] a w = next_lifted (acting (charge 1) w) (λ paid. pure a) (λ paid. pure (up a)) (λ paid u. refl)
    comprehension_lifted (clause.If condition ∷ more) a w = next_lifted (acting (charge 1) w) (λ paid. pure a) (λ paid. pure (up a)) (λ paid u. refl)
    comprehension_lifted (clause.For targets over ∷ more) a w =
        next_lifted (over.value w)
        (λ v u. and_then (acting (charge 1) u) (λ paid. in_block (block_of targets over more) (loop_over (turn targets more) v a)))
        (λ v u. and_then (acting (charge 1) u) (λ paid. in_block (block_of targets over more) (loop_over (turn_outside targets more) v (up a))))
        (λ v u. next_lifted (acting (charge 1) u)
        (λ paid. in_block (block_of targets over more) (loop_over (turn targets more) v a))
        (λ paid. in_block (block_of targets over more) (loop_over (turn_outside targets more) v (up a)))
        (λ paid t. in_block_lifted (block_of targets over more) (loop_over (turn targets more) v a) (loop_over (turn_outside targets more) v (up a))
        (λ s. loop_lifted (turn targets more) (turn_outside targets more) (turn_lifted targets more (clauses_lifted more)) v a s) t))

-- what a result in the larger thing is without the rest
pub lowered : {C A B : Type 0} (up : A → B) (down : B → A) → ((a : A) → down (up a) ≡ a) → (o : Outcome (World C) Failure A) (b : B) (w : World C) → lifted up o ≡ Went b w → o ≡ Went (down b) w
lowered up down h (Went a v) b w k = cc (h a)
lowered up down h (Failed e v) b w k = cc

pub lowered_failure : {C A B : Type 0} (up : A → B) (o : Outcome (World C) Failure A) (e : Failure) (w : World C) → lifted up o ≡ Failed e w → o ≡ Failed e w
lowered_failure up (Went a v) e w k = cc
lowered_failure up (Failed f v) e w k = cc
