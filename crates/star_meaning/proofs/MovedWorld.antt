-- Steps of expressions and statements do the same with other numbers of objects.
use Rattle.std.proofs.Common.{◌≡◌, ◌≤◌, ℕ, List, [], ◌∷◌, ◌++◌, map, Bool, true, false, cond, refl, sym, ap, arith, subst, ◌∙◌}
use Rattle.std.proofs.lemmas.List.{map-append}
use Rattle.std.specs.BTreeMap.{insert_entry, is_at}
use Rattle.std.specs.Map.{lookup}
use Rattle.std.specs.Ordering.{match_ordering}
use Rattle.std.specs.declared.cmp.Ordering.{Ordering}
use Rattle.std.specs.declared.cmp.Ordering.TheVariants as ordering
use Rattle.std.specs.Prelude.{Option, Some, None, option_map, ◌-◌, if◌then◌else◌, bytes_eq, is_some}
use Rattle.chex_base.specs.TextOrder.{text_cmp}
use Rattle.star_value.specs.declared.builtin.Builtin.{Builtin}
use Rattle.star_value.specs.declared.failure.Failure.{Failure}
use Rattle.star_value.specs.declared.failure.Failure.TheVariants as failure
use Rattle.star_value.specs.declared.value.Value.{Value}
use Rattle.star_value.specs.declared.value.Value.TheOpen.{Value-F}
use Rattle.star_value.specs.declared.value.Value.TheVariants as value
use Rattle.star_value.specs.Weight.{weight}
use Rattle.star_meaning.specs.State.{State, global, object, set_global}
use Rattle.star_meaning.specs.Steps.{Outcome, Went, Failed, Steps, Store, Action, ◌>>=◌, pure, fail, charge}
use Rattle.star_meaning.specs.Values.{builtin_of, named_in}
use Rattle.star_meaning.specs.World.{Block, Frame, World, Work, acting, bind, binding, bound_in, entered, first_some, in_block, in_function, left_block, located, located_at, lock_at, lock_of, locking, look_up, operate, operation, put_back, reading, rebound, slot_of, turns, unbound, unlocked, value_in, with_frame, with_store, without_first, write}
use Rattle.star_meaning.proofs.MovedValues.{Moving, by_out, entry_to, layer, moved, moved_builtin, weight_moved}
use Rattle.star_meaning.proofs.Moved.{Acts, Lands, Moves, View, Within, act_charge, act_charge_is, count, moves_fail, moves_given_or, moves_if, moves_pure, moves_then, of_store, reaches}
use Rattle.star_meaning.proofs.MovedComparing.{act_charge_weight}

module _ (mv : Moving) where
  abbrev pub slot_to : List ℕ × Option Value → List ℕ × Option Value
  slot_to slot = (slot.0, option_map (moved mv) slot.1)

  abbrev pub block_to : Block → Block
  block_to block = map slot_to block

  abbrev pub frame_to : Frame → Frame
  frame_to f = record { blocks = map block_to f.blocks; active = map mv.to f.active; locked = map mv.to f.locked }

  abbrev pub of_world : {C : Type 0} → View C (World C)
  of_world = record { state = λ w. w.store.state; moved = λ w t. record { store = record { state = t; left = w.store.left }; frame = frame_to w.frame; out = w.out } }

  -- ---- names

  slot_if : (o : Option (Option Value)) (p : Option (Option Value)) → first_some (option_map (option_map (moved mv)) o) (option_map (option_map (moved mv)) p) ≡ option_map (option_map (moved mv)) (first_some o p)
  slot_if None p = refl
  slot_if (Some slot) p = refl

  named_if : (b : Bool) (o : Option Value) (p q : Option (Option Value)) → p ≡ option_map (option_map (moved mv)) q → (if b then Some (option_map (moved mv) o) else p) ≡ option_map (option_map (moved mv)) (if b then Some o else q)
  named_if true o p q h = refl
  named_if false o p q h = h

  named_moved : (block : Block) (n : List ℕ) → named_in (block_to block) n ≡ option_map (option_map (moved mv)) (named_in block n)
  named_moved [] n = refl
  named_moved (slot ∷ block) n = named_if (bytes_eq n slot.0) slot.1 _ _ (named_moved block n)

  slot_moved : (blocks : List Block) (n : List ℕ) → slot_of (map block_to blocks) n ≡ option_map (option_map (moved mv)) (slot_of blocks n)
  slot_moved [] n = refl
  slot_moved (block ∷ blocks) n = (λ j. first_some (named_moved block n j) (slot_moved blocks n j)) ∙ slot_if (named_in block n) (slot_of blocks n)

  bound_if : (b : Bool) (slot : List ℕ × Option Value) (slots more rest : Block) (v : Value) → rest ≡ block_to more
      → (if b then (slot.0, Some (moved mv v)) ∷ block_to slots else slot_to slot ∷ rest) ≡ block_to (if b then (slot.0, Some v) ∷ slots else slot ∷ more)
  bound_if true slot slots more rest v h = refl
  bound_if false slot slots more rest v h = ap (λ r. slot_to slot ∷ r) h

  bound_moved : (block : Block) (n : List ℕ) (v : Value) → bound_in (block_to block) n (moved mv v) ≡ block_to (bound_in block n v)
  bound_moved [] n v = refl
  bound_moved (slot ∷ slots) n v = bound_if (bytes_eq n slot.0) slot slots (bound_in slots n v) _ v (bound_moved slots n v)

  some_slot : (o : Option (Option Value)) → is_some (option_map (option_map (moved mv)) o) ≡ is_some o
  some_slot None = refl
  some_slot (Some slot) = refl

  rebound_if : (b : Bool) (block bound : Block) (blocks more rest : List Block) (other : Block) → other ≡ block_to bound → rest ≡ map block_to more
      → (if b then other ∷ map block_to blocks else block_to block ∷ rest) ≡ map block_to (if b then bound ∷ blocks else block ∷ more)
  rebound_if true block bound blocks more rest other h k = ap (λ x. x ∷ map block_to blocks) h
  rebound_if false block bound blocks more rest other h k = ap (λ r. block_to block ∷ r) k

  rebound_moved : (blocks : List Block) (n : List ℕ) (v : Value) → rebound (map block_to blocks) n (moved mv v) ≡ map block_to (rebound blocks n v)
  rebound_moved [] n v = refl
  rebound_moved (block ∷ blocks) n v =
      ap (λ b. if b then bound_in (block_to block) n (moved mv v) ∷ map block_to blocks else block_to block ∷ rebound (map block_to blocks) n (moved mv v)) (ap is_some (named_moved block n) ∙ some_slot (named_in block n))
      ∙ rebound_if (is_some (named_in block n)) block (bound_in block n v) blocks (rebound blocks n v) _ _ (bound_moved block n v) (rebound_moved blocks n v)

  lookup_if : (b : Bool) (v : Value) (o p : Option Value) → o ≡ option_map (moved mv) p → cond b (Some (moved mv v)) o ≡ option_map (moved mv) (cond b (Some v) p)
  lookup_if true v o p h = refl
  lookup_if false v o p h = h

  lookup_moved : (test : List ℕ → Bool) (es : List (List ℕ × Value)) → lookup test (map (entry_to mv) es) ≡ option_map (moved mv) (lookup test es)
  lookup_moved test [] = refl
  lookup_moved test (e ∷ es) = lookup_if (test e.0) e.1 _ _ (lookup_moved test es)

  inserted_if : (o : Ordering) (n : List ℕ) (v : Value) (e : List ℕ × Value) (es more rest : List (List ℕ × Value)) → rest ≡ map (entry_to mv) more
      → match_ordering o ((n, moved mv v) ∷ entry_to mv e ∷ map (entry_to mv) es) ((e.0, moved mv v) ∷ map (entry_to mv) es) (entry_to mv e ∷ rest)
      ≡ map (entry_to mv) (match_ordering o ((n, v) ∷ e ∷ es) ((e.0, v) ∷ es) (e ∷ more))
  inserted_if ordering.Less n v e es more rest h = refl
  inserted_if ordering.Equal n v e es more rest h = refl
  inserted_if ordering.Greater n v e es more rest h = ap (λ r. entry_to mv e ∷ r) h

  inserted_moved : (es : List (List ℕ × Value)) (n : List ℕ) (v : Value) → insert_entry text_cmp (map (entry_to mv) es) n (moved mv v) ≡ map (entry_to mv) (insert_entry text_cmp es n v)
  inserted_moved [] n v = refl
  inserted_moved (e ∷ es) n v = inserted_if (text_cmp n e.0) n v e es (insert_entry text_cmp es n v) _ (inserted_moved es n v)

  builtin_moved : (o : Option Builtin) → option_map value.Builtin o ≡ option_map (moved mv) (option_map value.Builtin o)
  builtin_moved None = refl
  builtin_moved (Some which) = ap Some (sym (moved_builtin mv which))

  first_moved : (o p : Option Value) → first_some (option_map (moved mv) o) (option_map (moved mv) p) ≡ option_map (moved mv) (first_some o p)
  first_moved None p = refl
  first_moved (Some v) p = refl

  pub unbound_moved : (names : List (List ℕ)) → block_to (unbound names) ≡ unbound names
  unbound_moved [] = refl
  unbound_moved (n ∷ names) = ap (λ r. (n, None) ∷ r) (unbound_moved names)

  lock_layer : (x : Value-F Value) → lock_at (layer mv x) ≡ map mv.to (lock_at x)
  lock_layer (Value-F.List id) = refl
  lock_layer _ = refl

  pub lock_moved : (v : Value) → lock_of (moved mv v) ≡ map mv.to (lock_of v)
  lock_moved v = by_out mv (λ x y. lock_at y ≡ map mv.to (lock_at x)) lock_layer v

  without_moved : (blocks : List Block) → without_first (map block_to blocks) ≡ map block_to (without_first blocks)
  without_moved [] = refl
  without_moved (block ∷ blocks) = refl

module _ {C : Type 0} (mv : Moving) where
  -- two steps do the same but for the numbers
  abbrev pub Goes : {E A : Type 0} → (A → A) → Steps (World C) E A → Steps (World C) E A → Type 0
  Goes f p q = Moves (of_world mv) mv f p q

  abbrev pub Goes_value : Work C Value → Work C Value → Type 0
  Goes_value p q = Goes (moved mv) p q

  abbrev pub Goes_same : {E A : Type 0} → Steps (World C) E A → Steps (World C) E A → Type 0
  Goes_same p q = Goes (λ a. a) p q

  module _ {E : Type 0} where
    pub go_then : {A B : Type 0} {f : A → A} {g : B → B} {p q : Steps (World C) E A} {h : A → Steps (World C) E B} (k : A → Steps (World C) E B) → Goes f p q → ((a : A) → Goes g (h a) (k (f a))) → Goes g (p >>= h) (q >>= k)
    go_then {f = f} {g = g} {p = p} {q = q} {h = h} k m l = moves_then (of_world mv) mv f g p q h k m l

    pub go_pure : {A : Type 0} {f : A → A} {a b : A} → b ≡ f a → Goes {E = E} f (pure a) (pure b)
    go_pure {f = f} {a = a} {b = b} e = moves_pure (of_world mv) mv f a b e

    pub go_fail : {A : Type 0} {f : A → A} {e : E} → Goes f (fail e) (fail e)
    go_fail {f = f} {e = e} = moves_fail (of_world mv) mv f e

    pub go_if : {A : Type 0} {f : A → A} {b c : Bool} {p x q y : Steps (World C) E A} → c ≡ b → Goes f p q → Goes f x y → Goes f (if b then p else x) (if c then q else y)
    go_if {f = f} {b = b} {c = c} {p = p} {x = x} {q = q} {y = y} h m n = moves_if (of_world mv) mv f b c p x q y h m n

  -- steps that look at the frame first
  pub go_by_frame : {E A : Type 0} (f : A → A) (p q : Frame → Steps (World C) E A) → ((frame : Frame) → Goes f (p frame) (q (frame_to mv frame))) → Goes f (λ w. p w.frame w) (λ w. q w.frame w)
  go_by_frame f p q h = record { grows = λ w. (h w.frame).grows w; at = λ w t i b. (h w.frame).at w t i b }

  -- ---- operations

  stored_reaches : {A : Type 0} (w : World C) (o : Outcome (Store C) Failure A) → reaches (of_world mv) (with_store w o) ≡ reaches of_store o
  stored_reaches w (Went a s) = refl
  stored_reaches w (Failed e s) = refl

  stored_lands : {A : Type 0} (f : A → A) (w : World C) (t : State C) (o q : Outcome (Store C) Failure A) → Lands of_store mv f o q
      → Lands (of_world mv) mv f (with_store w o) (with_store (record { store = record { state = t; left = w.store.left }; frame = frame_to mv w.frame; out = w.out }) q)
  stored_lands f w t (Went a s) q r = record { to = r.to; within = r.within; is = ap (with_store (record { store = record { state = t; left = w.store.left }; frame = frame_to mv w.frame; out = w.out })) r.is }
  stored_lands f w t (Failed e s) q r = record { to = r.to; within = r.within; is = ap (with_store (record { store = record { state = t; left = w.store.left }; frame = frame_to mv w.frame; out = w.out })) r.is }

  pub go_acting : {A : Type 0} {f : A → A} {p q : Action C A} → Acts mv f p q → Goes f (acting p) (acting q)
  unfolding acting
  go_acting {f = f} {p = p} {q = q} m = record {
    grows = λ w. let same = stored_reaches w (p w.store) in omega (arith, same, m.grows w.store);
    at = λ w t i b.
        let room : reaches of_store (p w.store) ≤ mv.bound = omega (arith, stored_reaches w (p w.store)) in
        stored_lands f w t (p w.store) (q (record { state = t; left = w.store.left })) (m.at w.store t i room);
  }

  pub go_reading : {A : Type 0} (f : A → A) (of other : State C → A) → ((s t : State C) → Within mv s t → other t ≡ f (of s)) → Goes {E = Failure} f (reading of) (reading other)
  go_reading f of other h = record {
    grows = λ w. omega arith;
    at = λ w t i b. record { to = t; within = i; is = ap (λ a. Went a (record { store = record { state = t; left = w.store.left }; frame = frame_to mv w.frame; out = w.out })) (h w.store.state t i) };
  }

  pub go_charging : (n : ℕ) → Goes_same (acting (charge n)) (acting (charge n))
  go_charging n = go_acting (act_charge mv n)

  pub go_weight : (v : Value) → Goes_same (acting (charge (weight v))) (acting (charge (weight (moved mv v))))
  go_weight v = go_acting (act_charge_weight mv _)

  go_weighed : (v : Value) → Goes_value (acting (charge (weight v - 1)) >>= (λ _. pure v)) (acting (charge (weight (moved mv v) - 1)) >>= (λ _. pure (moved mv v)))
  go_weighed v = go_then _ (go_acting (act_charge_is mv (ap (λ n. n - 1) (weight_moved mv v)))) (λ _. go_pure refl)

  pub go_operation : {p q : Work C Value} → Goes_value p q → Goes_value (operation p) (operation q)
  unfolding operation
  go_operation h = go_then _ (go_charging 1) (λ _. go_then _ h go_weighed)

  pub go_operate : {p q : Action C Value} → Acts mv (moved mv) p q → Goes_value (operate p) (operate q)
  go_operate h = go_operation (go_acting h)

  pub go_write : (text : List ℕ) → Goes_same (write text) (write text)
  unfolding write
  go_write text = record { grows = λ w. omega arith; at = λ w t i b. record { to = t; within = i; is = refl } }

  -- ---- names

  value_moved : (s t : State C) → Within mv s t → (n : List ℕ) (o : Option (Option Value)) → value_in t n (option_map (option_map (moved mv)) o) ≡ option_map (moved mv) (value_in s n o)
  unfolding global
  value_moved s t i n (Some slot) = refl
  value_moved s t i n None =
      (λ j. first_some (lookup (is_at (text_cmp n)) (i.globals j)) (builtin_moved mv (builtin_of n) j)) ∙ ap (λ o. first_some o (option_map (moved mv) (option_map value.Builtin (builtin_of n)))) (lookup_moved mv (is_at (text_cmp n)) s.globals)
      ∙ first_moved mv (lookup (is_at (text_cmp n)) s.globals) (option_map value.Builtin (builtin_of n))

  pub go_look_up : (n : List ℕ) → Goes_value (look_up n) (look_up n)
  unfolding look_up
  go_look_up n = record {
    grows = λ w. (moves_given_or (of_world mv) mv (moved mv) failure.Unbound (value_in w.store.state n (slot_of w.frame.blocks n)) _ refl).grows w;
    at = λ w t i b.
        (moves_given_or (of_world mv) mv (moved mv) failure.Unbound (value_in w.store.state n (slot_of w.frame.blocks n)) (value_in t n (slot_of (map (block_to mv) w.frame.blocks) n))
        (ap (value_in t n) (slot_moved mv w.frame.blocks n) ∙ value_moved w.store.state t i n (slot_of w.frame.blocks n))).at w t i b;
  }

  binding_count : (o : Option (Option Value)) (n : List ℕ) (v : Value) (w : World C) → count (binding o n v w).store.state ≡ count w.store.state
  unfolding set_global
  binding_count None n v w = refl
  binding_count (Some slot) n v w = refl

  binding_lands : (o : Option (Option Value)) (n : List ℕ) (v : Value) (w : World C) (t : State C) → Within mv w.store.state t
      → Lands {E = Failure} {A = Unit {0}} (of_world mv) mv (λ a. a) (Went tt (binding o n v w)) (Went tt (binding (option_map (option_map (moved mv)) o) n (moved mv v) (record { store = record { state = t; left = w.store.left }; frame = frame_to mv w.frame; out = w.out })))
  unfolding set_global object
  binding_lands None n v w t i = record {
    to = set_global t n (moved mv v);
    within = record { globals = ap (λ es. insert_entry text_cmp es n (moved mv v)) i.globals ∙ inserted_moved mv w.store.state.globals n v; objects = i.objects; next = i.next };
    is = refl;
  }
  binding_lands (Some slot) n v w t i = record {
    to = t;
    within = i;
    is =
        ap (λ blocks. Went tt (record { store = record { state = t; left = w.store.left }; frame = record { blocks = blocks; active = map mv.to w.frame.active; locked = map mv.to w.frame.locked }; out = w.out }))
        (rebound_moved mv w.frame.blocks n v);
  }

  pub go_bind : (n : List ℕ) (v : Value) → Goes_same (bind n v) (bind n (moved mv v))
  unfolding bind
  go_bind n v = record {
    grows = λ w. omega (arith, binding_count (slot_of w.frame.blocks n) n v w);
    at = λ w t i b.
        let v' : World C = record { store = record { state = t; left = w.store.left }; frame = frame_to mv w.frame; out = w.out } in
        subst (λ o. Lands {E = Failure} {A = Unit {0}} (of_world mv) mv (λ a. a) (Went tt (binding (slot_of w.frame.blocks n) n v w)) (Went tt (binding o n (moved mv v) v'))) (sym (slot_moved mv w.frame.blocks n))
        (binding_lands (slot_of w.frame.blocks n) n v w t i);
  }

  -- ---- a part of a frame for the time of some steps

  module _ {E A : Type 0} (f : A → A) where
    left_reaches : (o : Outcome (World C) E A) → reaches (of_world mv) (left_block o) ≡ reaches (of_world mv) o
    left_reaches (Went a w) = refl
    left_reaches (Failed e w) = refl

    left_lands : (o q : Outcome (World C) E A) → Lands (of_world mv) mv f o q → Lands (of_world mv) mv f (left_block o) (left_block q)
    left_lands (Went a w) q r = record {
      to = r.to;
      within = r.within;
      is =
          ap left_block r.is
          ∙ ap (λ blocks. Went (f a) (record { store = record { state = r.to; left = w.store.left }; frame = record { blocks = blocks; active = map mv.to w.frame.active; locked = map mv.to w.frame.locked }; out = w.out }))
          (without_moved mv w.frame.blocks);
    }
    left_lands (Failed e w) q r = record { to = r.to; within = r.within; is = ap left_block r.is }

    back_reaches : (frame : Frame) (o : Outcome (World C) E A) → reaches (of_world mv) (put_back frame o) ≡ reaches (of_world mv) o
    back_reaches frame (Went a w) = refl
    back_reaches frame (Failed e w) = refl

    back_lands : (frame : Frame) (o q : Outcome (World C) E A) → Lands (of_world mv) mv f o q → Lands (of_world mv) mv f (put_back frame o) (put_back (frame_to mv frame) q)
    back_lands frame (Went a w) q r = record { to = r.to; within = r.within; is = ap (put_back (frame_to mv frame)) r.is }
    back_lands frame (Failed e w) q r = record { to = r.to; within = r.within; is = ap (put_back (frame_to mv frame)) r.is }

    free_reaches : (locked : List ℕ) (o : Outcome (World C) E A) → reaches (of_world mv) (unlocked locked o) ≡ reaches (of_world mv) o
    free_reaches locked (Went a w) = refl
    free_reaches locked (Failed e w) = refl

    free_lands : (locked : List ℕ) (o q : Outcome (World C) E A) → Lands (of_world mv) mv f o q → Lands (of_world mv) mv f (unlocked locked o) (unlocked (map mv.to locked) q)
    free_lands locked (Went a w) q r = record { to = r.to; within = r.within; is = ap (unlocked (map mv.to locked)) r.is }
    free_lands locked (Failed e w) q r = record { to = r.to; within = r.within; is = ap (unlocked (map mv.to locked)) r.is }

  pub go_in_block : {A : Type 0} (f : A → A) (block : Block) (p q : Work C A) → Goes f p q → Goes f (in_block block p) (in_block (block_to mv block) q)
  unfolding in_block
  go_in_block f block p q h = record {
    grows = λ w.
        let v = with_frame (record w.frame { blocks = block ∷ w.frame.blocks }) w in
        let same = left_reaches f (p v) in let more = h.grows v in omega (arith, same, more);
    at = λ w t i b.
        let v = with_frame (record w.frame { blocks = block ∷ w.frame.blocks }) w in
        let room : reaches (of_world mv) (p v) ≤ mv.bound = omega (arith, left_reaches f (p v)) in
        left_lands f (p v) _ (h.at v t i room);
  }

  pub go_locking : {E A : Type 0} (f : A → A) (ids : List ℕ) (p q : Steps (World C) E A) → Goes f p q → Goes f (locking ids p) (locking (map mv.to ids) q)
  unfolding locking
  go_locking f ids p q h = record {
    grows = λ w.
        let v = with_frame (record w.frame { locked = w.frame.locked ++ ids }) w in
        let same = free_reaches f w.frame.locked (p v) in let more = h.grows v in omega (arith, same, more);
    at = λ w t i b.
        let v = with_frame (record w.frame { locked = w.frame.locked ++ ids }) w in
        let room : reaches (of_world mv) (p v) ≤ mv.bound = omega (arith, free_reaches f w.frame.locked (p v)) in
        subst (λ ids'. Lands (of_world mv) mv f (unlocked w.frame.locked (p v)) (unlocked (map mv.to w.frame.locked)
        (q (record { store = record { state = t; left = w.store.left }; frame = record { blocks = map (block_to mv) w.frame.blocks; active = map mv.to w.frame.active; locked = ids' }; out = w.out }))))
        (map-append mv.to w.frame.locked ids) (free_lands f w.frame.locked (p v) _ (h.at v t i room));
  }

  pub go_in_function : {A : Type 0} (f : A → A) (id : ℕ) (block : Block) (p q : Work C A) → Goes f p q → Goes f (in_function id block p) (in_function (mv.to id) (block_to mv block) q)
  unfolding in_function
  go_in_function f id block p q h = record {
    grows = λ w.
        let v = with_frame (entered id block w.frame) w in
        let same = back_reaches f w.frame (p v) in let more = h.grows v in omega (arith, same, more);
    at = λ w t i b.
        let v = with_frame (entered id block w.frame) w in
        let room : reaches (of_world mv) (p v) ≤ mv.bound = omega (arith, back_reaches f w.frame (p v)) in
        subst (λ active. Lands (of_world mv) mv f (put_back w.frame (p v)) (put_back (frame_to mv w.frame)
        (q (record { store = record { state = t; left = w.store.left }; frame = record { blocks = block_to mv block ∷ []; active = active; locked = map mv.to w.frame.locked }; out = w.out }))))
        (map-append mv.to w.frame.active (id ∷ [])) (back_lands f w.frame (p v) _ (h.at v t i room));
  }

  pub go_turns : {A : Type 0} (g : A → A) (f k : Value → A → Work C A) → ((v : Value) (a : A) → Goes g (f v a) (k (moved mv v) (g a))) → (xs : List Value) (a : A) → Goes g (turns f xs a) (turns k (map (moved mv) xs) (g a))
  go_turns g f k h [] a = go_pure refl
  go_turns g f k h (x ∷ xs) a = go_then _ (h x a) (λ b. go_turns g f k h xs b)

  located_reaches : {A : Type 0} (line : ℕ) (o : Outcome (World C) Failure A) → reaches (of_world mv) (located_at line o) ≡ reaches (of_world mv) o
  located_reaches line (Went a w) = refl
  located_reaches line (Failed e w) = refl

  located_lands : {A : Type 0} (f : A → A) (line : ℕ) (o q : Outcome (World C) Failure A) → Lands (of_world mv) mv f o q → Lands (of_world mv) mv f (located_at line o) (located_at line q)
  located_lands f line (Went a w) q r = record { to = r.to; within = r.within; is = ap (located_at line) r.is }
  located_lands f line (Failed e w) q r = record { to = r.to; within = r.within; is = ap (located_at line) r.is }

  pub go_located : {A : Type 0} {f : A → A} (line : ℕ) {p q : Work C A} → Goes f p q → Goes f (located line p) (located line q)
  unfolding located
  go_located {f = f} line {p = p} {q = q} h = record {
    grows = λ w. let same = located_reaches line (p w) in let more = h.grows w in omega (arith, same, more);
    at = λ w t i b.
        let room : reaches (of_world mv) (p w) ≤ mv.bound = omega (arith, located_reaches line (p w)) in located_lands f line (p w) _ (h.at w t i room);
  }
