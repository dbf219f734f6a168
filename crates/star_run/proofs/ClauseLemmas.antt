-- The clauses of a comprehension, and a turn of it: what each step makes of the rest.
use Rattle.std.proofs.Common.{◌≡◌, ℕ, zero, suc, ◌+◌, ◌-◌, ◌<◌, ◌≤◌, Bool, true, false, List, [], ◌∷◌, ◌++◌, map, length, drop, get_or, Option, Some, None, IsTrue, slice_get, refl, sym, ap, ◌∙◌, subst, arith}
use Rattle.std.specs.Borrow.{Bor}
use Rattle.std.specs.Prelude.{OnOk, Result, Ok, Err, nat_lt, if◌then◌else◌}
use Rattle.std.specs.List.{flat_map, list_all}
use Rattle.std.proofs.lemmas.Bool.Decides.{nat_tests}
use Rattle.std.proofs.lemmas.List.{drop_all}
use Rattle.std.proofs.lemmas.Option.{slice_get_within}
use Rattle.star_syntax.specs.declared.expression.Clause.{Clause}
use Rattle.star_syntax.specs.declared.expression.Clause.TheVariants as form
use Rattle.star_syntax.specs.declared.expression.Expr.{Expr}
use Rattle.star_value.specs.Charge.{charged}
use Rattle.star_value.specs.Weight.{weight, weight_step}
use Rattle.star_value.specs.declared.failure.Failure.{Failure}
use Rattle.star_value.specs.declared.failure.Failure.TheVariants as failure
use Rattle.star_value.specs.declared.key.Key.{Key}
use Rattle.star_value.specs.declared.stop.Stop.{Stop}
use Rattle.star_value.specs.declared.stop.Stop.TheVariants as stop
use Rattle.star_value.specs.declared.value.Value.{Value, fold-roll-Value, map-Value, out-Value, roll-Value, roll-out-Value}
use Rattle.star_value.specs.declared.value.Value.TheOpen.{Value-F}
use Rattle.star_meaning.specs.Growing.{IsBack, Later, Leads, reached}
use Rattle.star_meaning.specs.Steps.{Outcome, Went, Failed, Gives, and_then, charge, paid, pure}
use Rattle.star_meaning.specs.Validity.{MachineState}
use Rattle.star_meaning.specs.Values.{is_true}
use Rattle.star_meaning.specs.World.{Block, Work, World, acting, distinct, in_block, left_block, unbound, with_store, without_block}
use Rattle.star_meaning.specs.Expressions.{clause_names, dict_turn, list_turn, loop_over, next_item, target_names}
use Rattle.star_meaning.proofs.Alone.{LeadsOn}
use Rattle.star_meaning.proofs.LaterLemmas.{later_same, later_then}
use Rattle.star_meaning.proofs.Leading.{next_item_leads, value_leads}
use Rattle.star_meaning.proofs.TargetNames.{targets_are}
use Rattle.star_run.specs.declared.gathered.Element.{Element}
use Rattle.star_run.specs.declared.gathered.Element.TheVariants as element
use Rattle.star_run.specs.declared.gathered.Gathered.{Gathered}
use Rattle.star_run.specs.Entries.{put_entry}
use Rattle.star_run.specs.Fixed.{Fixed, callee, meaning, setting}
use Rattle.star_run.specs.Gathers.{GivesMade, clauses, gather, gathering, turn}
use Rattle.star_run.specs.Locals.{clause_bound}
use Rattle.star_run.specs.Loops.{IsFor, Reaches, Stays, loop_at, targets_of, turn_at}
use Rattle.star_run.specs.Parts.{clause_meaning, meanings, targets}
use Rattle.star_run.specs.Running.{Goes, IsPaid, Running, block_fits, slot_fits, world}
use Rattle.star_run.proofs.GatherLemmas.{gather_leads}
use Rattle.star_run.proofs.LoopLemmas.{left_here}

-- ---- what stands at a place

pub found_here : {X : Type 0} (xs : List X) (i : ℕ) (x : X) → i < length xs → x ≡ get_or xs i x → slice_get xs i ≡ Some x
found_here [] i x within here = absurd (omega (arith, within))
found_here (y ∷ ys) zero x within here = ap Some (sym here)
found_here (y ∷ ys) (suc i) x within here = found_here ys i x (omega (arith, within)) here

pub for_within : (all : List (Clause Expr)) (i : ℕ) → IsFor all i → i < length all
for_within all i h = slice_get_within all i (form.For h.0 h.1) h.2

pub for_first : (all : List (Clause Expr)) (x : Clause Expr) (ts : List Expr) (over : Expr) → 1 ≤ length all → x ≡ get_or all 0 x → x ≡ form.For ts over → slice_get all 0 ≡ Some (form.For ts over)
for_first all x ts over some here is = found_here all 0 x (omega (arith, some)) here ∙ ap Some is

-- the first clause is no `for`
abbrev pub NoFor : List (Clause Expr) → Type 0
NoFor all = (ts : List Expr) (over : Expr) → slice_get all 0 ≡ Some (form.For ts over) → ⊥

pub none_first : (all : List (Clause Expr)) → length all < 1 → NoFor all
none_first [] few ts over is = cc
none_first (x ∷ xs) few ts over is = absurd (omega (arith, few))

pub other_first : (all : List (Clause Expr)) (x : Clause Expr) → 1 ≤ length all → x ≡ get_or all 0 x → ((ts : List Expr) (over : Expr) → x ≡ form.For ts over → ⊥) → NoFor all
other_first all x some here other ts over is =
    let found : slice_get all 0 ≡ Some x = found_here all 0 x (omega (arith, some)) here in
    let same : x ≡ form.For ts over = cc in
    other ts over same

pub no_if : (all : List (Clause Expr)) (i : ℕ) (x : Clause Expr) (condition : Expr) → IsFor all i → i < length all → x ≡ get_or all i x → x ≡ form.If condition → ⊥
no_if all i x condition h within here is =
    let found : slice_get all i ≡ Some (form.If condition) = found_here all i x within here ∙ ap Some is in
    let other : slice_get all i ≡ Some (form.For h.0 h.1) = h.2 in
    cc

-- ---- what the failure of a part makes of the whole

module _ {A B : Type 0} (o : Outcome (World ℕ) Failure A) (p : Outcome (World ℕ) Failure B) (w : World ℕ) (fails : (f : Failure) → o ≡ Failed f w → p ≡ Failed f w) where
  pub fails_as : (e : Stop) → Gives o (Err e) w → Gives p (Err e) w
  fails_as (stop.Failure f) h = fails f h
  fails_as stop.NoMemory h = tt

  pub fails_made : (e : Stop) (made : B) → Gives o (Err e) w → GivesMade p (Err e) made w
  fails_made (stop.Failure f) made h = fails f h
  fails_made stop.NoMemory made h = tt

  pub made_fails : (e : Stop) (made : A) (other : B) → GivesMade o (Err e) made w → GivesMade p (Err e) other w
  made_fails (stop.Failure f) made other h = fails f h
  made_fails stop.NoMemory made other h = tt

  pub made_fails_as : (e : Stop) (made : A) → GivesMade o (Err e) made w → Gives p (Err e) w
  made_fails_as (stop.Failure f) made h = fails f h
  made_fails_as stop.NoMemory made h = tt

module _ {A : Type 0} (g : Fixed) (depth : ℕ) (all : List (Clause Expr)) (of : Element) (o : Outcome (World ℕ) Failure A) (p : Outcome (World ℕ) Failure Gathered) (w : World ℕ) (fails : (f : Failure) → o ≡ Failed f w → p ≡ Failed f w) where
  pub fails_reach : (e : Stop) (made : Gathered) → Gives o (Err e) w → Reaches g depth all of p (Err e) made w
  fails_reach (stop.Failure f) made h = fails f h
  fails_reach stop.NoMemory made h = tt

  pub made_fails_reach : (e : Stop) (made : A) (other : Gathered) → GivesMade o (Err e) made w → Reaches g depth all of p (Err e) other w
  made_fails_reach (stop.Failure f) made other h = fails f h
  made_fails_reach stop.NoMemory made other h = tt

module _ (g : Fixed) (depth : ℕ) (all : List (Clause Expr)) (of : Element) (o p : Outcome (World ℕ) Failure Gathered) (w : World ℕ) (fails : (f : Failure) → o ≡ Failed f w → p ≡ Failed f w) where
  pub reach_fails_made : (e : Stop) (made other : Gathered) → Reaches g depth all of o (Err e) made w → GivesMade p (Err e) other w
  reach_fails_made (stop.Failure f) made other h = fails f h
  reach_fails_made stop.NoMemory made other h = tt

-- ---- what holds where a call went

pub ok_then : {A E : Type 0} (r : Result A E) (P Q : Type 0) → (P → Q) → OnOk r P → OnOk r Q
ok_then (Ok a) P Q f h = f h
ok_then (Err e) P Q f h = h

pub ok_always : {A E : Type 0} (r : Result A E) (P : Type 0) → P → OnOk r P
ok_always (Ok a) P h = h
ok_always (Err e) P h = tt

-- ---- what stays

module _ (here : ℕ) where
  pub stays_same : (a : Running) → Stays here a a
  stays_same a = record { later = later_same here a.frame.locked (world a).store; back = record { active = refl; locked = refl } }

  pub stays_then : (a b c : Running) → Stays here a b → Stays here b c → Stays here a c
  stays_then a b c h k = record {
    later = later_then here a.frame.locked (world a).store (world b).store (world c).store h.later (subst (λ ids. Later here ids (world b).store (world c).store) h.back.locked k.later);
    back = record { active = k.back.active ∙ h.back.active; locked = k.back.locked ∙ h.back.locked };
  }

  stays_by : {A : Type 0} (p : Work ℕ A) (r : A) (a b : Running) → LeadsOn here p → p (world a) ≡ Went r (world b) → Stays here a b
  stays_by {A} p r a b leads is =
      let there : Leads here (world a) (Went r (world b)) = subst (λ (o : Outcome (World ℕ) Failure A). Leads here (world a) o) is (leads (world a)) in
      record { later = there.later; back = there.back }

module _ (g : Fixed) (depth : ℕ) where
  pub value_stays : (e : Expr) (v : Value) (a b : Running) → (meaning g depth e).value (world a) ≡ Went v (world b) → Stays g.node a b
  value_stays e v a b is = stays_by g.node (meaning g depth e).value v a b (value_leads (setting g) depth e) is

  pub gather_stays : (of : Element) (made next : Gathered) (a b : Running) → gather g depth of made (world a) ≡ Went next (world b) → Stays g.node a b
  gather_stays of made next a b is = stays_by g.node (gather g depth of made) next a b (gather_leads g depth of made) is

  pub item_stays : (ts : List Expr) (x : Value) (a b c : Running) → acting (charge (weight x)) (world a) ≡ Went tt (world b) → targets g depth ts x (world b) ≡ Went tt (world c) → Stays g.node a c
  unfolding next_item
  item_stays ts x a b c charges stores =
      stays_by g.node (next_item (meanings g depth ts) x) tt a c (next_item_leads (setting g) depth ts x) (ap (λ o. and_then o (λ done. targets g depth ts x)) charges ∙ stores)

-- ---- the element of a turn

module _ (g : Fixed) (depth : ℕ) (of : Element) (made : Gathered) (w : World ℕ) where
  module _ (e : Bor Expr) (is : of ≡ element.Item e) where
    pub item_fails : (u : World ℕ) (f : Failure) → (meaning g depth e.now).value w ≡ Failed f u → gather g depth of made w ≡ Failed f u
    unfolding list_turn
    item_fails u f gave = rw (is, gave) refl

    pub item_gathered : (u : World ℕ) (v : Value) (items : List Value) → (meaning g depth e.now).value w ≡ Went v u → items ≡ made.items ++ v ∷ [] → gather g depth of made w ≡ Went (record { items = items; pairs = made.pairs }) u
    unfolding list_turn
    item_gathered u v items gave pushed = rw (is, gave, pushed) refl

  module _ (k x : Bor Expr) (is : of ≡ element.Pair k x) where
    pub key_fails : (u : World ℕ) (f : Failure) → (meaning g depth k.now).value w ≡ Failed f u → gather g depth of made w ≡ Failed f u
    unfolding dict_turn
    key_fails u f gave = rw (is, gave) refl

    module _ (u : World ℕ) (key : Value) (gave : (meaning g depth k.now).value w ≡ Went key u) where
      pub entry_fails : (t : World ℕ) (f : Failure) → (meaning g depth x.now).value u ≡ Failed f t → gather g depth of made w ≡ Failed f t
      unfolding dict_turn
      entry_fails t f valued = rw (is, gave, valued) refl

      entry_is : (t : World ℕ) (v : Value) → (meaning g depth x.now).value u ≡ Went v t → gather g depth of made w ≡ and_then (put_entry key v made.pairs t) (λ pairs. pure (record made { pairs = pairs }))
      unfolding dict_turn
      entry_is t v valued = rw (is, gave, valued) refl

      pub entry_gathered : (t s : World ℕ) (v : Value) (r : Result (Unit {0}) Stop) (pairs : List (Key × Value)) → (meaning g depth x.now).value u ≡ Went v t → GivesMade (put_entry key v made.pairs t) r pairs s
          → GivesMade (gather g depth of made w) r (record { items = made.items; pairs = pairs }) s
      entry_gathered t s v (Ok done) pairs valued put = entry_is t v valued ∙ ap (λ o. and_then o (λ ps. pure (record made { pairs = ps }))) put
      entry_gathered t s v (Err (stop.Failure f)) pairs valued put = entry_is t v valued ∙ ap (λ o. and_then o (λ ps. pure (record made { pairs = ps }))) put
      entry_gathered t s v (Err stop.NoMemory) pairs valued put = tt

-- ---- clauses

module _ (g : Fixed) (depth : ℕ) (all : List (Clause Expr)) (of : Element) where
  module _ (i : ℕ) (x : Clause Expr) (within : i < length all) (here : x ≡ get_or all i x) where
    left_is : (y : Clause Expr) → x ≡ y → drop i all ≡ y ∷ drop (i + 1) all
    left_is y is = left_here all i x within here ∙ ap (λ z. z ∷ drop (i + 1) all) is

    module _ (condition : Expr) (is : x ≡ form.If condition) (made : Gathered) (w u : World ℕ) where
      pub if_holds : (v : Value) → (meaning g depth condition).value w ≡ Went v u → is_true u.store.state v ≡ true → clauses g depth (drop i all) of made w ≡ clauses g depth (drop (i + 1) all) of made u
      if_holds v gave test =
          let more : drop i all ≡ form.If condition ∷ drop (i + 1) all = left_is (form.If condition) is in
          rw (more, gave, test) refl

      pub if_stops : (v : Value) → (meaning g depth condition).value w ≡ Went v u → is_true u.store.state v ≡ false → clauses g depth (drop i all) of made w ≡ Went made u
      if_stops v gave test =
          let more : drop i all ≡ form.If condition ∷ drop (i + 1) all = left_is (form.If condition) is in
          rw (more, gave, test) refl

      pub if_fails : (e : Failure) → (meaning g depth condition).value w ≡ Failed e u → clauses g depth (drop i all) of made w ≡ Failed e u
      if_fails e gave =
          let more : drop i all ≡ form.If condition ∷ drop (i + 1) all = left_is (form.If condition) is in
          rw (more, gave) refl

    module _ (ts : List Expr) (over : Expr) (is : x ≡ form.For ts over) (made : Gathered) (w u : World ℕ) where
      pub for_is : IsFor all i
      for_is = (ts, over, found_here all i x within here ∙ ap Some is)

      pub for_reached : (v : Value) → (meaning g depth over).value w ≡ Went v u → clauses g depth (drop i all) of made w ≡ loop_at g depth all of i v made u
      for_reached v gave =
          ap (λ cs. clauses g depth cs of made w) (left_is (form.For ts over) is)
          ∙ ap (λ o. and_then o (λ y. loop_over (turn g depth ts (drop (i + 1) all) of) y made)) gave
          ∙ ap (λ found. loop_over (turn g depth (targets_of found) (drop (i + 1) all) of) v made u) (sym (found_here all i x within here ∙ ap Some is))

      pub for_fails : (e : Failure) → (meaning g depth over).value w ≡ Failed e u → clauses g depth (drop i all) of made w ≡ Failed e u
      for_fails e gave =
          ap (λ cs. clauses g depth cs of made w) (left_is (form.For ts over) is)
          ∙ ap (λ o. and_then o (λ y. loop_over (turn g depth ts (drop (i + 1) all) of) y made)) gave

  pub all_done : (i : ℕ) (made : Gathered) (w : World ℕ) → length all ≤ i → clauses g depth (drop i all) of made w ≡ gather g depth of made w
  all_done i made w past = ap (λ cs. clauses g depth cs of made w) (drop_all i all past)

  -- ---- a turn

  module _ (i : ℕ) (c : Clause Expr) (within : i < length all) (here : c ≡ get_or all i c) (ts : List Expr) (over : Expr) (is : c ≡ form.For ts over) (x : Value) (made : Gathered) (w u : World ℕ) where
    turn_is : turn_at g depth all of i x made w ≡ turn g depth ts (drop (i + 1) all) of x made w
    turn_is = ap (λ found. turn g depth (targets_of found) (drop (i + 1) all) of x made w) (found_here all i c within here ∙ ap Some is)

    after_charge : Outcome (World ℕ) Failure (Unit {0}) → Outcome (World ℕ) Failure Gathered
    after_charge o = and_then (and_then o (λ done. targets g depth ts x)) (λ done. clauses g depth (drop (i + 1) all) of made)

    turn_charges : turn_at g depth all of i x made w ≡ after_charge (acting (charge (weight x)) w)
    unfolding next_item after_charge
    turn_charges = turn_is

    pub turn_unpaid : (e : Failure) → acting (charge (weight x)) w ≡ Failed e u → turn_at g depth all of i x made w ≡ Failed e u
    unfolding after_charge
    turn_unpaid e charges = turn_charges ∙ ap after_charge charges

    pub turn_unstored : (v : World ℕ) (e : Failure) → acting (charge (weight x)) w ≡ Went tt u → targets g depth ts x u ≡ Failed e v → turn_at g depth all of i x made w ≡ Failed e v
    unfolding after_charge
    turn_unstored v e charges stores = turn_charges ∙ ap after_charge charges ∙ ap (λ o. and_then o (λ done. clauses g depth (drop (i + 1) all) of made)) stores

    pub turn_stored : (v : World ℕ) → acting (charge (weight x)) w ≡ Went tt u → targets g depth ts x u ≡ Went tt v → turn_at g depth all of i x made w ≡ clauses g depth (drop (i + 1) all) of made v
    unfolding after_charge
    turn_stored v charges stores = turn_charges ∙ ap after_charge charges ∙ ap (λ o. and_then o (λ done. clauses g depth (drop (i + 1) all) of made)) stores

-- ---- a turn takes a step

weighs_some : (x : Value-F ℕ) → 1 ≤ weight_step x
weighs_some (Value-F.Text points) = omega arith
weighs_some (Value-F.Tuple weights) = omega arith
weighs_some _ = omega arith

weighs : (v : Value) → 1 ≤ weight v
weighs v =
    subst (λ n. 1 ≤ n) (sym (ap weight (sym (roll-out-Value v)) ∙ fold-roll-Value ℕ weight_step (out-Value v))) (weighs_some (map-Value Value ℕ weight (out-Value v)))

charge_at : (a b : Running) (n : ℕ) (t : Bool) → nat_lt a.left n ≡ t → with_store (world a) (paid a.machine.state (if t then (Err failure.StepLimit, 0) else (Ok tt, a.left - n))) ≡ Went tt (world b) → b.left + n ≤ a.left
charge_at a b n true is h = absurd (cc)
charge_at a b n false is h =
    let left : a.left - n ≡ b.left = ap (λ (o : Outcome (World ℕ) Failure (Unit {0})). (reached o).store.left) h in
    let enough : n ≤ a.left = grind (arith, nat_tests) in
    omega (arith, left, enough)

charge_takes : (a b : Running) (n : ℕ) → acting (charge n) (world a) ≡ Went tt (world b) → b.left + n ≤ a.left
unfolding acting charge
charge_takes a b n h = charge_at a b n (nat_lt a.left n) refl h

pub weight_paid : (a b : Running) (v : Value) → acting (charge (weight v)) (world a) ≡ Went tt (world b) → b ≡ record a { left = b.left } → IsPaid a b
weight_paid a b v charges same = omega (arith, weighs v, charge_takes a b (weight v) charges, ap (λ (r : Running). length r.machine.state.objects) same)

-- ---- the whole

unbound_fit : (m : MachineState) (names : List (List ℕ)) → IsTrue (list_all (slot_fits m) (unbound names))
unbound_fit m [] = refl
unbound_fit m (name ∷ names) = unbound_fit m names

pub unbound_fits : (m : MachineState) (block : Block) (names : List (List ℕ)) → block ≡ unbound names → IsTrue (block_fits m block)
unfolding block_fits
unbound_fits m block names is = subst (λ b. IsTrue (list_all (slot_fits m) b)) (sym is) (unbound_fit m names)

module _ (g : Fixed) (depth : ℕ) (of : Element) where
  bound_are : (xs : List (Clause Expr)) → flat_map clause_names (map (clause_meaning g depth) xs) ≡ flat_map clause_bound xs
  bound_are [] = refl
  bound_are (form.For ts over ∷ xs) = ap (λ ns. ns ++ flat_map clause_names (map (clause_meaning g depth) xs)) (targets_are (setting g) (callee g depth) ts) ∙ ap (λ ns. flat_map target_names ts ++ ns) (bound_are xs)
  bound_are (form.If condition ∷ xs) = bound_are xs

  -- the block and the turns, once the first operand is known
  begun_at : List (Clause Expr) → List (List ℕ) → Gathered → Outcome (World ℕ) Failure Value → Outcome (World ℕ) Failure Gathered
  begun_at all names made o = and_then o (λ v u. and_then (acting (charge 1) u) (λ done. in_block (unbound (distinct names)) (loop_at g depth all of 0 v made)))

  first_is : (ts : List Expr) (over : Expr) (xs : List (Clause Expr)) (made : Gathered) (w : World ℕ)
      → gathering g depth (form.For ts over ∷ xs) of made w ≡ begun_at (form.For ts over ∷ xs) (flat_map clause_bound (form.For ts over ∷ xs)) made ((meaning g depth over).value w)
  unfolding begun_at
  first_is ts over xs made w = ap (λ names. begun_at (form.For ts over ∷ xs) names made ((meaning g depth over).value w)) (bound_are (form.For ts over ∷ xs))

  gathering_is : (all : List (Clause Expr)) (ts : List Expr) (over : Expr) (made : Gathered) (w : World ℕ) → slice_get all 0 ≡ Some (form.For ts over)
      → gathering g depth all of made w ≡ begun_at all (flat_map clause_bound all) made ((meaning g depth over).value w)
  gathering_is [] ts over made w is = absurd (cc)
  gathering_is (x ∷ xs) ts over made w is =
      let same : x ≡ form.For ts over = cc in
      subst (λ y. gathering g depth (y ∷ xs) of made w ≡ begun_at (y ∷ xs) (flat_map clause_bound (y ∷ xs)) made ((meaning g depth over).value w)) (sym same) (first_is ts over xs made w)

  -- a first clause that is no `for` makes no turns
  no_turns : (all : List (Clause Expr)) (made : Gathered) (w : World ℕ) → NoFor all → gathering g depth all of made w ≡ and_then (acting (charge 1) w) (λ done. pure made)
  no_turns [] made w none = refl
  no_turns (form.If condition ∷ xs) made w none = refl
  no_turns (form.For ts over ∷ xs) made w none = absurd (none ts over refl)

  pub only_charged : (all : List (Clause Expr)) (made : Gathered) (w u : World ℕ) (r : Result (Unit {0}) Stop) → NoFor all → Gives (acting (charge 1) w) r u → GivesMade (gathering g depth all of made w) r made u
  only_charged all made w u (Ok done) none charges = no_turns all made w none ∙ ap (λ o. and_then o (λ done. pure made)) charges
  only_charged all made w u (Err (stop.Failure e)) none charges = no_turns all made w none ∙ ap (λ o. and_then o (λ done. pure made)) charges
  only_charged all made w u (Err stop.NoMemory) none charges = tt

  module _ (all : List (Clause Expr)) (ts : List Expr) (over : Expr) (is : slice_get all 0 ≡ Some (form.For ts over)) (made : Gathered) (w u : World ℕ) where
    pub first_fails : (e : Failure) → (meaning g depth over).value w ≡ Failed e u → gathering g depth all of made w ≡ Failed e u
    unfolding begun_at
    first_fails e gave = gathering_is all ts over made w is ∙ ap (begun_at all (flat_map clause_bound all) made) gave

    module _ (v : Value) (gave : (meaning g depth over).value w ≡ Went v u) where
      then_charged : gathering g depth all of made w ≡ and_then (acting (charge 1) u) (λ done. in_block (unbound (distinct (flat_map clause_bound all))) (loop_at g depth all of 0 v made))
      unfolding begun_at
      then_charged = gathering_is all ts over made w is ∙ ap (begun_at all (flat_map clause_bound all) made) gave

      pub unpaid : (e : Failure) (t : World ℕ) → acting (charge 1) u ≡ Failed e t → gathering g depth all of made w ≡ Failed e t
      unpaid e t charges = then_charged ∙ ap (λ o. and_then o (λ done. in_block (unbound (distinct (flat_map clause_bound all))) (loop_at g depth all of 0 v made))) charges

      module _ (a b : Running) (block : Block) (charges : acting (charge 1) u ≡ Went tt (world a)) (names : block ≡ unbound (distinct (flat_map clause_bound all)))
          (entered : b ≡ record a { frame = record a.frame { blocks = block ∷ a.frame.blocks } }) where
        in_its_block : gathering g depth all of made w ≡ left_block (loop_at g depth all of 0 v made (world b))
        unfolding in_block
        in_its_block =
            then_charged
            ∙ ap (λ o. and_then o (λ done. in_block (unbound (distinct (flat_map clause_bound all))) (loop_at g depth all of 0 v made))) charges
            ∙ ap (λ block. in_block block (loop_at g depth all of 0 v made) (world a)) (sym names)
            ∙ sym (ap (λ (r : Running). left_block (loop_at g depth all of 0 v made (world r))) entered)

        pub turns_fail : (e : Failure) (t : World ℕ) → loop_at g depth all of 0 v made (world b) ≡ Failed e t → gathering g depth all of made w ≡ Failed e t
        turns_fail e t turned = in_its_block ∙ ap left_block turned

        pub turns_end : (next : Gathered) (c d : Running) → loop_at g depth all of 0 v made (world b) ≡ Went next (world c) → d ≡ record c { frame = without_block c.frame } → gathering g depth all of made w ≡ Went next (world d)
        turns_end next c d turned left = in_its_block ∙ ap left_block turned ∙ sym (ap (λ (r : Running). Went next (world r)) left)
