-- Steps of expressions and statements end alike from worlds that are alike.
use Rattle.std.proofs.Common.{◌≡◌, ◌≤◌, ◌<◌, ◌+◌, ◌-◌, ℕ, zero, suc, List, [], ◌∷◌, map, length, IsTrue, refl, sym, ap, arith, subst, ◌∙◌}
use Rattle.std.proofs.lemmas.List.{length-map}
use Rattle.std.proofs.lemmas.Option.{none-some, slice_get_past, slice_get_within}
use Rattle.std.specs.Prelude.{◌==◌, ◌&&◌, Option, Some, None, option_map, slice_get}
use Rattle.star_value.specs.KeyOrder.{all_hold}
use Rattle.star_meaning.specs.State.{Object, AList, State, object}
use Rattle.star_meaning.specs.Steps.{Outcome, Went, Failed, Steps}
use Rattle.star_meaning.specs.World.{World}
use Rattle.star_meaning.specs.Alike.{EndAlike, Extends, IsAlike, IsAlikeWorld, LikeFound, LikeOutcomes, Pairs, is_pair, like_global}
use Rattle.star_meaning.specs.Growing.{reached}
use Rattle.star_meaning.proofs.MovedValues.{Moving, entry_to, object_to}
use Rattle.star_meaning.proofs.Moved.{Lands, Within, count, outcome_to}
use Rattle.star_meaning.proofs.MovedWorld.{Goes, frame_to, of_world}
use Rattle.star_meaning.proofs.AlikeFrames.{frame_placed, frame_reach}
use Rattle.star_meaning.proofs.AlikeNumbers.{Side, at_beyond, at_or, at_same, at_within, back, below_is, firsts, firsts_apart, fresh, fresh_low, fresh_next, has_first, has_second, in_or_second, is_below, moving_apart, pair_at, pairs_below, places, seconds, seconds_apart, side}
use Rattle.star_meaning.proofs.AlikeValues.{globals_placed, globals_reach, object_placed, object_reach}

pub some_within : {A : Type 0} (xs : List A) (n : ℕ) → n < length xs → slice_get xs n ≡ None → ⊥
some_within [] n l h = omega arith
some_within (x ∷ xs) zero l h = none-some x (sym h)
some_within (x ∷ xs) (suc n) l h = some_within xs n (omega arith) h

module _ {C : Type 0} (pairs : Pairs) (s t : State C) where
  pub found_below : (a b : ℕ) (o p : Option (Object C)) → object s a ≡ o → object t b ≡ p → LikeFound pairs o p → (a < count s) × (b < count t)
  unfolding object
  found_below a b (Some o) (Some p) e f h = (slice_get_within s.objects a o e, slice_get_within t.objects b p f)
  found_below a b None None e f h = absurd h
  found_below a b None (Some p) e f h = absurd h
  found_below a b (Some o) None e f h = absurd h

-- ---- what two alike states have in common

module _ {C : Type 0} (pairs : Pairs) (s : State C) where
  -- numbers are places of the first state's
  abbrev pub places_of : Moving
  places_of = back (firsts pairs)

  abbrev pub put : Option (Object C) → Object C
  put None = AList []
  put (Some o) = object_to places_of o

  -- the first state's globals, and the objects of the pairs
  abbrev pub common : State C
  common = record { globals = map (entry_to places_of) s.globals; objects = map (λ pair. put (object s pair.0)) pairs }

  pub common_count : count common ≡ length pairs
  common_count = length-map pairs (λ pair. put (object s pair.0))

  pub objects_held : (mv : Moving) (x : State C) (pick : ℕ × ℕ → ℕ) (f : ℕ → ℕ) → ((n : ℕ) → count x ≤ f n) → (ps : Pairs)
      → ((p : ℕ × ℕ) → IsTrue (is_pair ps p.0 p.1) → object x (pick p) ≡ Some (object_to mv (put (object s p.0)))) → (id : ℕ)
      → object x (at_or f (map pick ps) id) ≡ option_map (object_to mv) (slice_get (map (λ pair. put (object s pair.0)) ps) id)
  unfolding object
  objects_held mv x pick f low [] h id = slice_get_past x.objects (f id) (low id)
  objects_held mv x pick f low (p ∷ ps) h zero = h p (pair_at f (p ∷ ps) 0 (omega arith))
  objects_held mv x pick f low (p ∷ ps) h (suc id) = objects_held mv x pick f low ps (λ q k. h q (in_or_second ((p.0 == q.0) && (p.1 == q.1)) (is_pair ps q.0 q.1) k)) id

-- the world of a state over places
abbrev pub common_world : {C : Type 0} → Pairs → World C → World C
common_world pairs w = record { store = record { state = common pairs w.store.state; left = w.store.left }; frame = frame_to (places_of pairs w.store.state) w.frame; out = w.out }

module _ {C E A : Type 0} (pairs : Pairs) (w v : World C) (h : IsAlikeWorld pairs w v) (pu : Steps (World C) E A) where
  abbrev pub s : State C
  s = w.store.state

  abbrev pub t : State C
  t = v.store.state

  below : (a b : ℕ) → IsTrue (is_pair pairs a b) → (a < count s) × (b < count t)
  below a b k = found_below pairs s t a b (object s a) (object t b) refl refl (h.state.objects a b k)

  pub first_side : Side (firsts pairs) (count s)
  first_side = record { once = h.state.first_once; below = λ n k. let p = has_first pairs n k in (below n p.0 p.1).0 }

  pub second_side : Side (seconds pairs) (count t)
  second_side = record { once = h.state.second_once; below = λ n k. let p = has_second pairs n k in (below p.0 n p.1).1 }

  -- what the steps do in the common world, and how many objects there are then
  abbrev pub uw : World C
  uw = common_world pairs w

  abbrev pub result : Outcome (World C) E A
  result = pu uw

  abbrev pub all : ℕ
  all = count (reached result).store.state

  abbrev pub many : ℕ
  many = all - length pairs

  abbrev pub one : (far : ℕ) → count s ≤ far → Moving
  one far l = side (firsts pairs) (count s) many far l first_side

  abbrev pub two : Moving
  two = side (seconds pairs) (count t) many (count t) (omega arith) second_side

  firsts_long : length (firsts pairs) ≡ length pairs
  firsts_long = length-map pairs (λ pair. pair.0)

  seconds_long : length (seconds pairs) ≡ length pairs
  seconds_long = length-map pairs (λ pair. pair.1)

  pub first_back : (far : ℕ) (l : count s ≤ far) (a b : ℕ) → IsTrue (is_pair pairs a b) → (one far l).to ((places_of pairs s).to a) ≡ a
  first_back far l a b k = let p = places pairs h.state.first_once a b k in ap (at_or (fresh (count s) many far) (firsts pairs)) p.2 ∙ p.3 (fresh (count s) many far)

  pub second_back : (a b : ℕ) → IsTrue (is_pair pairs a b) → two.to ((places_of pairs s).to a) ≡ b
  second_back a b k = let p = places pairs h.state.first_once a b k in ap (at_or (fresh (count t) many (count t)) (seconds pairs)) p.2 ∙ p.4 (fresh (count t) many (count t))

  module _ (far : ℕ) (l : count s ≤ far) where
    both_put : (o p : Option (Object C)) → LikeFound pairs o p → (o ≡ Some (object_to (one far l) (put pairs s o))) × (p ≡ Some (object_to two (put pairs s o)))
    both_put (Some o) (Some p) k =
        let found = object_placed pairs (places_of pairs s) (one far l) two (first_back far l) second_back o p k in (ap Some (sym found.0), ap Some (sym found.1))
    both_put None None k = absurd k
    both_put None (Some p) k = absurd k
    both_put (Some o) None k = absurd k

    globals_held : (map (entry_to (one far l)) uw.store.state.globals ≡ s.globals) × (map (entry_to two) uw.store.state.globals ≡ t.globals)
    globals_held = globals_placed pairs (places_of pairs s) (one far l) two (first_back far l) second_back s.globals t.globals h.state.globals

    frames_held : (frame_to (one far l) uw.frame ≡ w.frame) × (frame_to two uw.frame ≡ v.frame)
    frames_held = frame_placed pairs (places_of pairs s) (one far l) two (first_back far l) second_back w.frame v.frame h.frame

    first_within : Within (one far l) uw.store.state s
    unfolding object
    first_within = record {
      globals = sym globals_held.0;
      objects =
          objects_held pairs s (one far l) s (λ p. p.0) (fresh (count s) many far) (λ n. fresh_low (count s) many far n l) pairs
          (λ p k. (both_put (object s p.0) (object t p.1) (h.state.objects p.0 p.1 k)).0);
      next = λ i r.
          let long : count uw.store.state + i ≡ length (firsts pairs) + i = omega (arith, common_count pairs s, firsts_long) in
          let few : i < many = omega (arith, common_count pairs s, firsts_long) in
          ap (at_or (fresh (count s) many far) (firsts pairs)) long ∙ at_beyond (fresh (count s) many far) (firsts pairs) i ∙ fresh_next (count s) many far i few;
    }

    first_lands : (f : A → A) (ps : Steps (World C) E A) → Goes (one far l) f pu ps → Lands (of_world (one far l)) (one far l) f result (ps w)
    first_lands f ps goes =
        subst (λ x. Lands (of_world (one far l)) (one far l) f result (ps (record { store = w.store; frame = x; out = w.out }))) frames_held.0
        (goes.at uw s first_within (let same = firsts_long in omega (arith, same)))

  abbrev pub near : count s ≤ count s
  near = omega arith

  abbrev pub next : count s ≤ suc (count s)
  next = omega arith

  second_within : Within two uw.store.state t
  unfolding object
  second_within = record {
    globals = sym (globals_held (count s) near).1;
    objects =
        objects_held pairs s two t (λ p. p.1) (fresh (count t) many (count t)) (λ n. fresh_low (count t) many (count t) n (omega arith)) pairs
        (λ p k. (both_put (count s) near (object s p.0) (object t p.1) (h.state.objects p.0 p.1 k)).1);
    next = λ i r.
        let long : count uw.store.state + i ≡ length (seconds pairs) + i = omega (arith, common_count pairs s, seconds_long) in
        let few : i < many = omega (arith, common_count pairs s, seconds_long) in
        ap (at_or (fresh (count t) many (count t)) (seconds pairs)) long ∙ at_beyond (fresh (count t) many (count t)) (seconds pairs) i ∙ fresh_next (count t) many (count t) i few;
  }

  second_lands : (f : A → A) (pt : Steps (World C) E A) → Goes two f pu pt → Lands (of_world two) two f result (pt v)
  second_lands f pt goes =
      subst (λ x. Lands (of_world two) two f result (pt (record { store = v.store; frame = x; out = v.out }))) (frames_held (count s) near).1
      (subst (λ x. Lands (of_world two) two f result (pt (record { store = record { state = t; left = x }; frame = frame_to two uw.frame; out = v.out }))) (sym h.left)
      (subst (λ x. Lands (of_world two) two f result (pt (record { store = record { state = t; left = w.store.left }; frame = frame_to two uw.frame; out = x }))) (sym h.out)
      (goes.at uw t second_within (let same = seconds_long in omega (arith, same)))))

  abbrev pub first : Moving
  first = one (count s) near

  abbrev pub farther : Moving
  farther = one (suc (count s)) next

  abbrev pub more : Pairs
  more = pairs_below first.to two.to all

  -- ---- the worlds that are reached

  module _ (f : Moving → A → A) (ps pt : Steps (World C) E A) (goes : (far : ℕ) (l : count s ≤ far) → Goes (one far l) (f (one far l)) pu ps) (goes_two : Goes two (f two) pu pt) where
    more_all : length pairs ≤ all
    more_all = let larger = (goes (count s) near).grows uw in let same = common_count pairs s in omega (arith, larger, same)

    pub reach : (id : ℕ) → first.to id ≡ farther.to id → IsTrue (is_pair more (first.to id) (two.to id))
    reach id e =
        let within = at_within (count s) many (count s) (firsts pairs) id e in
        let there : id < all = omega (arith, within, firsts_long, more_all) in is_below first.to two.to all id there

    like_found : (x : Option (Object C)) → (x ≡ None → ⊥) → option_map (object_to first) x ≡ option_map (object_to farther) x → LikeFound more (option_map (object_to first) x) (option_map (object_to two) x)
    like_found None k e = absurd (k refl)
    like_found (Some o) k e = let same : object_to first o ≡ object_to farther o = cc in object_reach more first farther two reach o same

    -- a state that holds another one by the first numbers, also where the far ones differ, and one that does by the second ones
    states_alike : (u x y : State C) → count u ≡ all → Within first u x → Within farther u x → Within two u y → IsAlike more x y
    unfolding object
    states_alike u x y c a b d = record {
      first_once = firsts_apart first.to two.to (moving_apart first) all;
      second_once = seconds_apart first.to two.to (moving_apart two) all;
      globals =
          subst (λ gs. IsTrue (all_hold (map (like_global more) gs) y.globals)) (sym a.globals)
          (subst (λ hs. IsTrue (all_hold (map (like_global more) (map (entry_to first) u.globals)) hs)) (sym d.globals) (globals_reach more first farther two reach u.globals (sym a.globals ∙ b.globals)));
      objects = λ m n k.
          let i = below_is first.to two.to all m n k in
          let long : i.0 < length (firsts pairs) + many = omega (arith, i.1, firsts_long) in
          let there : i.0 < length u.objects = omega (arith, i.1, c) in
          let number = at_same (count s) many (count s) (firsts pairs) i.0 long in
          subst (λ z. LikeFound more (object x z) (object y n)) i.2
          (subst (λ z. LikeFound more (object x (first.to i.0)) (object y z)) i.3
          (subst (λ z. LikeFound more z (object y (two.to i.0))) (sym (a.objects i.0))
          (subst (λ z. LikeFound more (option_map (object_to first) (object u i.0)) z) (sym (d.objects i.0))
          (like_found (object u i.0) (some_within u.objects i.0 there) (sym (a.objects i.0) ∙ ap (object x) number ∙ b.objects i.0)))));
    }

    extends : Extends pairs more
    extends a b k =
        let p = places pairs h.state.first_once a b k in
        let there : p.0 < all = omega (arith, p.1, more_all) in
        subst (λ x. IsTrue (is_pair more x b)) (p.3 (fresh (count s) many (count s)))
        (subst (λ x. IsTrue (is_pair more (first.to p.0) x)) (p.4 (fresh (count t) many (count t))) (is_below first.to two.to all p.0 there))

    module _ (R : Pairs → A → A → Type 0) (results : (a : A) → f first a ≡ f farther a → R more (f first a) (f two a)) where
      outcomes_alike : (o : Outcome (World C) E A) → count (reached o).store.state ≡ all → (q r : Outcome (World C) E A) → Lands (of_world first) first (f first) o q → Lands (of_world farther) farther (f farther) o q
          → Lands (of_world two) two (f two) o r → LikeOutcomes R more q r
      outcomes_alike (Went a x) c q r one_way other_way second =
          let both : outcome_to (of_world first) (f first) one_way.to (Went a x) ≡ outcome_to (of_world farther) (f farther) other_way.to (Went a x) = sym one_way.is ∙ other_way.is in
          let value : f first a ≡ f farther a = cc in
          let world : (of_world first).moved x one_way.to ≡ (of_world farther).moved x other_way.to = cc in
          let state : one_way.to ≡ other_way.to = ap (λ y. y.store.state) world in
          let frame : frame_to first x.frame ≡ frame_to farther x.frame = ap (λ y. y.frame) world in
          subst (λ y. LikeOutcomes R more y r) (sym one_way.is)
          (subst (λ y. LikeOutcomes R more (outcome_to (of_world first) (f first) one_way.to (Went a x)) y) (sym second.is) (
            results a value,
            record {
              state = states_alike x.store.state one_way.to second.to c one_way.within (subst (λ y. Within farther x.store.state y) (sym state) other_way.within) second.within;
              left = refl;
              frame = frame_reach more first farther two reach x.frame frame;
              out = refl;
            },
          ))
      outcomes_alike (Failed e x) c q r one_way other_way second =
          let both : outcome_to (of_world first) (f first) one_way.to (Failed e x) ≡ outcome_to (of_world farther) (f farther) other_way.to (Failed e x) = sym one_way.is ∙ other_way.is in
          let world : (of_world first).moved x one_way.to ≡ (of_world farther).moved x other_way.to = cc in
          let state : one_way.to ≡ other_way.to = ap (λ y. y.store.state) world in
          let frame : frame_to first x.frame ≡ frame_to farther x.frame = ap (λ y. y.frame) world in
          subst (λ y. LikeOutcomes R more y r) (sym one_way.is)
          (subst (λ y. LikeOutcomes R more (outcome_to (of_world first) (f first) one_way.to (Failed e x)) y) (sym second.is) (
            refl,
            record {
              state = states_alike x.store.state one_way.to second.to c one_way.within (subst (λ y. Within farther x.store.state y) (sym state) other_way.within) second.within;
              left = refl;
              frame = frame_reach more first farther two reach x.frame frame;
              out = refl;
            },
          ))

      pub steps_end_alike : EndAlike R pairs (ps w) (pt v)
      steps_end_alike =
          (more, extends, outcomes_alike result refl (ps w) (pt v) (first_lands (count s) near (f first) ps (goes (count s) near)) (first_lands (suc (count s)) next (f farther) ps (goes (suc (count s)) next)) (second_lands (f two) pt goes_two))
