-- Steps of expressions and statements do the same whatever the names of cells.
use Rattle.std.proofs.Common.{◌≡◌, ℕ, List, [], ◌∷◌, ◌++◌, refl, sym, ap, subst, ◌∙◌}
use Rattle.std.specs.Prelude.{Option, Some, None, ◌-◌}
use Rattle.star_value.specs.declared.failure.Failure.{Failure}
use Rattle.star_value.specs.declared.failure.Failure.TheVariants as failure
use Rattle.star_value.specs.declared.value.Value.{Value}
use Rattle.star_value.specs.Weight.{weight}
use Rattle.star_meaning.specs.State.{State, global, set_global}
use Rattle.star_meaning.specs.Steps.{Outcome, Went, Failed, Steps, Store, Action, and_then, ◌>>=◌, pure, fail, given_or, charge}
use Rattle.star_meaning.specs.World.{Block, Frame, World, Work, acting, bind, binding, in_block, in_function, left_block, located, located_at, locking, look_up, operate, operation, put_back, reading, slot_of, turns, unlocked, value_in, with_frame, with_store, write}
use Rattle.star_meaning.specs.Renaming.{AreGood, Names, state_as, store_as, under, world_as, outcome_as, Same, SameAt, SameSteps}
use Rattle.star_meaning.specs.Growing.{IsBack, Later, Leads, reached}
use Rattle.star_meaning.proofs.GrownLemmas.{good_grown}
use Rattle.star_meaning.proofs.LaterLemmas.{later_fewer, later_global, later_same, leads_failed, leads_on, leads_same}
use Rattle.star_meaning.proofs.Renamed.{same_charge}

-- ---- what outcomes lead to

module _ {C : Type 0} (here : C) where
  leads_unlocked : {E A : Type 0} (ids : List ℕ) (w : World C) (o : Outcome (World C) E A) → Leads here (with_frame (record w.frame { locked = w.frame.locked ++ ids }) w) o
      → Leads here w (unlocked w.frame.locked o)
  leads_unlocked ids w (Went a v) h = record { later = later_fewer here w.frame.locked ids w.store v.store h.later; back = record { active = h.back.active; locked = refl } }
  leads_unlocked ids w (Failed e v) h = record { later = later_fewer here w.frame.locked ids w.store v.store h.later; back = tt }

  leads_stored : {A : Type 0} (w : World C) (o : Outcome (Store C) Failure A) → Later here w.frame.locked w.store (reached o) → Leads here w (with_store w o)
  leads_stored w (Went a s) h = record { later = h; back = record { active = refl; locked = refl } }
  leads_stored w (Failed e s) h = record { later = h; back = tt }

  leads_given : (o : Option Value) (w : World C) → Leads here w (given_or failure.Unbound o w)
  leads_given None w = leads_failed here failure.Unbound w
  leads_given (Some v) w = leads_same here v w

  leads_binding : (o : Option (Option Value)) (n : List ℕ) (v : Value) (w : World C) → Leads {E = Failure} {A = Unit {0}} here w (Went tt (binding o n v w))
  leads_binding None n v w = record { later = later_global here w.frame.locked w.store n v; back = record { active = refl; locked = refl } }
  leads_binding (Some slot) n v w = record { later = later_same here w.frame.locked w.store; back = record { active = refl; locked = refl } }

  leads_put_back : {E A : Type 0} (blocks : List Block) (active : List ℕ) (w : World C) (o : Outcome (World C) E A)
      → Leads here (with_frame (record { blocks = blocks; active = active; locked = w.frame.locked }) w) o → Leads here w (put_back w.frame o)
  leads_put_back blocks active w (Went a v) h = record { later = h.later; back = record { active = refl; locked = refl } }
  leads_put_back blocks active w (Failed e v) h = record { later = h.later; back = tt }

  leads_left : {E A : Type 0} (blocks : List Block) (w : World C) (o : Outcome (World C) E A) → Leads here (with_frame (record w.frame { blocks = blocks }) w) o → Leads here w (left_block o)
  leads_left blocks w (Went a v) h = record { later = h.later; back = record { active = h.back.active; locked = h.back.locked } }
  leads_left blocks w (Failed e v) h = record { later = h.later; back = tt }

  leads_located : {A : Type 0} (line : ℕ) (w : World C) (o : Outcome (World C) Failure A) → Leads here w o → Leads here w (located_at line o)
  leads_located line w (Went a v) h = record { later = h.later; back = h.back }
  leads_located line w (Failed e v) h = record { later = h.later; back = tt }

module _ {C D : Type 0} (name : Names C D) where
  module _ {E : Type 0} where
    -- functions keep their cells in what steps lead to
    good_then : {A : Type 0} (w v : World C) (a : A) → Leads {E = E} name.here w (Went a v) → AreGood name w.store.state → AreGood name v.store.state
    good_then w v a l h = good_grown name.here name.good name.here_good w.store.state.objects v.store.state.objects l.later.grown h

    next_at : {A B : Type 0} (w : World C) (o : Outcome (World C) E A) (g : A → Steps (World C) E B) (h : A → Steps (World D) E B) → AreGood name w.store.state → Leads name.here w o
        → ((a : A) (v : World C) → IsBack w.frame v.frame → AreGood name v.store.state → SameAt name (g a) (h a) v) → and_then (outcome_as (world_as name.to) o) h ≡ outcome_as (world_as name.to) (and_then o g)
    next_at w (Went a v) g h good l k = (k a v l.back (good_then w v a l good)).holds
    next_at w (Failed e v) g h good l k = refl

    leads_at : {A B : Type 0} (w : World C) (o : Outcome (World C) E A) (g : A → Steps (World C) E B) (h : A → Steps (World D) E B) → AreGood name w.store.state → Leads name.here w o
        → ((a : A) (v : World C) → IsBack w.frame v.frame → AreGood name v.store.state → SameAt name (g a) (h a) v) → Leads name.here w (and_then o g)
    leads_at w (Went a v) g h good l k = leads_on name.here a w v (g a v) l (k a v l.back (good_then w v a l good)).leads
    leads_at w (Failed e v) g h good l k = record { later = l.later; back = tt }

    -- steps after steps from a world; where the later ones begin, the same lists and dicts are iterated over
    pub same_next_at : {A B : Type 0} (p : Steps (World C) E A) (q : Steps (World D) E A) (g : A → Steps (World C) E B) (h : A → Steps (World D) E B) (w : World C) → AreGood name w.store.state
        → SameAt name p q w → ((a : A) (v : World C) → IsBack w.frame v.frame → AreGood name v.store.state → SameAt name (g a) (h a) v) → SameAt name (p >>= g) (q >>= h) w
    same_next_at p q g h w good k l = record {
      holds = ap (λ o. and_then o h) k.holds ∙ next_at w (p w) g h good k.leads l;
      leads = leads_at w (p w) g h good k.leads l;
    }

    pub same_next : {A B : Type 0} (p : Steps (World C) E A) (q : Steps (World D) E A) (g : A → Steps (World C) E B) (h : A → Steps (World D) E B)
        → SameSteps name p q → ((a : A) → SameSteps name (g a) (h a)) → SameSteps name (p >>= g) (q >>= h)
    same_next p q g h k l = record { at = λ w good. same_next_at p q g h w good (k.at w good) (λ a v b. (l a).at v) }

    pub same_going : {A : Type 0} (a : A) → SameSteps {E = E} name (pure a) (pure a)
    same_going a = record { at = λ w good. record { holds = refl; leads = leads_same name.here a w } }

    pub same_failing : {A : Type 0} (e : E) → SameSteps {A = A} name (fail e) (fail e)
    same_failing e = record { at = λ w good. record { holds = refl; leads = leads_failed name.here e w } }

    unlocked_at : {A : Type 0} (locked : List ℕ) (o : Outcome (World C) E A) → unlocked locked (outcome_as (world_as name.to) o) ≡ outcome_as (world_as name.to) (unlocked locked o)
    unlocked_at locked (Went a w) = refl
    unlocked_at locked (Failed e w) = refl

    pub same_locking : {A : Type 0} (ids : List ℕ) (p : Steps (World C) E A) (q : Steps (World D) E A) → SameSteps name p q → SameSteps name (locking ids p) (locking ids q)
    unfolding locking
    same_locking ids p q h = record {
      at = λ w good. let v = with_frame (record w.frame { locked = w.frame.locked ++ ids }) w in record {
        holds = ap (unlocked w.frame.locked) (h.at v good).holds ∙ unlocked_at w.frame.locked (p v);
        leads = leads_unlocked name.here ids w (p v) (h.at v good).leads;
      };
    }

  stored_at : {A : Type 0} (w : World C) (o : Outcome (Store C) Failure A) → with_store (world_as name.to w) (outcome_as (store_as name.to) o) ≡ outcome_as (world_as name.to) (with_store w o)
  stored_at w (Went a s) = refl
  stored_at w (Failed e s) = refl

  pub same_acting_at : {A : Type 0} (p : Action C A) (q : Action D A) (w : World C) → Same (under name w.frame.locked) p q → SameAt name (acting p) (acting q) w
  unfolding acting
  same_acting_at p q w h = record { holds = ap (with_store (world_as name.to w)) (h.holds w.store) ∙ stored_at w (p w.store); leads = leads_stored name.here w (p w.store) (h.keeps w.store) }

  pub same_acting : {A : Type 0} (p : Action C A) (q : Action D A) → ((locked : List ℕ) → Same (under name locked) p q) → SameSteps name (acting p) (acting q)
  same_acting p q h = record { at = λ w good. same_acting_at p q w (h w.frame.locked) }

  pub same_reading : {A : Type 0} (of : State C → A) (other : State D → A) → ((s : State C) → other (state_as name.to s) ≡ of s) → SameSteps name (reading of) (reading other)
  same_reading of other k = record { at = λ w good. record { holds = ap (λ a. Went a (world_as name.to w)) (k w.store.state); leads = leads_same name.here (of w.store.state) w } }

  pub same_charging : (n : ℕ) → SameSteps name (acting (charge n)) (acting (charge n))
  same_charging n = same_acting _ _ (λ locked. same_charge (under name locked) n)

  same_weighed : (v : Value) → SameSteps name (acting (charge (weight v - 1)) >>= (λ _. pure v)) (acting (charge (weight v - 1)) >>= (λ _. pure v))
  same_weighed v = same_next _ _ _ _ (same_charging (weight v - 1)) (λ _. same_going v)

  pub same_operation : (p : Work C Value) (q : Work D Value) → SameSteps name p q → SameSteps name (operation p) (operation q)
  unfolding operation
  same_operation p q h = same_next _ _ _ _ (same_charging 1) (λ _. same_next _ _ _ _ h same_weighed)

  pub same_operate : (p : Action C Value) (q : Action D Value) → ((locked : List ℕ) → Same (under name locked) p q) → SameSteps name (operate p) (operate q)
  same_operate p q h = same_operation _ _ (same_acting p q h)

  -- an operation that hangs on what is iterated over
  pub same_operate_at : (p : Action C Value) (q : Action D Value) (w : World C) → AreGood name w.store.state → Same (under name w.frame.locked) p q → SameAt name (operate p) (operate q) w
  unfolding operation
  same_operate_at p q w good h =
      same_next_at _ _ _ _ w good ((same_charging 1).at w good) (λ _ v b kept. same_next_at _ _ _ _ v kept (same_acting_at p q v (subst (λ locked. Same (under name locked) p q) (sym b.locked) h))
      (λ x u _. (same_weighed x).at u))

  pub same_write : (text : List ℕ) → SameSteps name (write text) (write text)
  unfolding write
  same_write text = record { at = λ w good. record { holds = refl; leads = record { later = later_same name.here w.frame.locked w.store; back = record { active = refl; locked = refl } } } }

  global_as : (s : State C) (n : List ℕ) → global (state_as name.to s) n ≡ global s n
  unfolding global
  global_as s n = refl

  value_as : (s : State C) (n : List ℕ) (o : Option (Option Value)) → value_in (state_as name.to s) n o ≡ value_in s n o
  unfolding global
  value_as s n None = refl
  value_as s n (Some slot) = refl

  given_as : (o : Option Value) (w : World C) → given_or failure.Unbound o (world_as name.to w) ≡ outcome_as (world_as name.to) (given_or failure.Unbound o w)
  given_as None w = refl
  given_as (Some v) w = refl

  pub same_look_up : (n : List ℕ) → SameSteps name (look_up n) (look_up n)
  unfolding look_up
  same_look_up n = record {
    at = λ w good. let o = value_in w.store.state n (slot_of w.frame.blocks n) in record {
      holds = ap (λ o. given_or failure.Unbound o (world_as name.to w)) (value_as w.store.state n (slot_of w.frame.blocks n)) ∙ given_as o w;
      leads = leads_given name.here o w;
    };
  }

  bound_as : (o : Option (Option Value)) (n : List ℕ) (v : Value) (w : World C) → binding o n v (world_as name.to w) ≡ world_as name.to (binding o n v w)
  unfolding set_global
  bound_as None n v w = refl
  bound_as (Some slot) n v w = refl

  pub same_bind : (n : List ℕ) (v : Value) → SameSteps name (bind n v) (bind n v)
  unfolding bind
  same_bind n v = record { at = λ w good. record { holds = ap (Went tt) (bound_as (slot_of w.frame.blocks n) n v w); leads = leads_binding name.here (slot_of w.frame.blocks n) n v w } }

  put_back_at : {E A : Type 0} (f : Frame) (o : Outcome (World C) E A) → put_back f (outcome_as (world_as name.to) o) ≡ outcome_as (world_as name.to) (put_back f o)
  put_back_at f (Went a w) = refl
  put_back_at f (Failed e w) = refl

  left_block_at : {E A : Type 0} (o : Outcome (World C) E A) → left_block (outcome_as (world_as name.to) o) ≡ outcome_as (world_as name.to) (left_block o)
  left_block_at (Went a w) = refl
  left_block_at (Failed e w) = refl

  pub same_in_block : {A : Type 0} (block : Block) (p : Work C A) (q : Work D A) → SameSteps name p q → SameSteps name (in_block block p) (in_block block q)
  unfolding in_block
  same_in_block block p q h = record {
    at = λ w good. let v = with_frame (record w.frame { blocks = block ∷ w.frame.blocks }) w in record {
      holds = ap left_block (h.at v good).holds ∙ left_block_at (p v);
      leads = leads_left name.here (block ∷ w.frame.blocks) w (p v) (h.at v good).leads;
    };
  }

  pub same_in_function : {A : Type 0} (id : ℕ) (block : Block) (p : Work C A) (q : Work D A) → SameSteps name p q → SameSteps name (in_function id block p) (in_function id block q)
  unfolding in_function
  same_in_function id block p q h = record {
    at = λ w good. let v = with_frame (record { blocks = block ∷ []; active = w.frame.active ++ id ∷ []; locked = w.frame.locked }) w in record {
      holds = ap (put_back w.frame) (h.at v good).holds ∙ put_back_at w.frame (p v);
      leads = leads_put_back name.here (block ∷ []) (w.frame.active ++ id ∷ []) w (p v) (h.at v good).leads;
    };
  }

  pub same_turns : {A : Type 0} (f : Value → A → Work C A) (g : Value → A → Work D A) → ((v : Value) (a : A) → SameSteps name (f v a) (g v a)) → (xs : List Value) (a : A) → SameSteps name (turns f xs a) (turns g xs a)
  same_turns f g h [] a = same_going a
  same_turns f g h (x ∷ xs) a = same_next _ _ _ _ (h x a) (same_turns f g h xs)

  located_as : {A : Type 0} (line : ℕ) (o : Outcome (World C) Failure A) → located_at line (outcome_as (world_as name.to) o) ≡ outcome_as (world_as name.to) (located_at line o)
  located_as line (Went a w) = refl
  located_as line (Failed e w) = refl

  pub same_located : {A : Type 0} (line : ℕ) (p : Work C A) (q : Work D A) → SameSteps name p q → SameSteps name (located line p) (located line q)
  unfolding located
  same_located line p q h = record { at = λ w good. record { holds = ap (located_at line) (h.at w good).holds ∙ located_as line (p w); leads = leads_located name.here line w (p w) (h.at w good).leads } }
