-- The rows of the methods over what the code has found out.
use Rattle.std.proofs.Common.{◌≡◌, ℕ, suc, zero, ◌+◌, ◌<◌, ◌≤◌, Bool, true, false, List, [], ◌∷◌, ◌++◌, length, refl, sym, ap, ◌∙◌, subst, arith, IsTrue, Option, Some, None, slice_get, ℤ, pos, negsuc}
use Rattle.std.proofs.Math.Facts.{to_z-of_z}
use Rattle.std.specs.Int.{w128}
use Rattle.std.specs.Prelude.{FitsSigned, Result, Ok, Err, option_and_then, unwrap_or, ◌≤ℤ◌}
use mir.Val.{of_z, to_z}
use Rattle.std.specs.List.{insert, remove}
use Rattle.std.proofs.lemmas.Int.{ints}
use Rattle.std.proofs.lemmas.Bool.Decides.{nat_tests}
use Rattle.std.proofs.lemmas.List.Edits.{insert_end}
use Rattle.star_value.specs.declared.failure.Failure.{Failure}
use Rattle.star_value.specs.declared.failure.Failure.TheVariants as failure
use Rattle.star_value.specs.declared.stop.Stop.{Stop}
use Rattle.star_value.specs.declared.value.Value.{Value}
use Rattle.star_value.specs.declared.value.Value.TheVariants as value
use Rattle.star_meaning.specs.Builtins.{as_int_or}
use Rattle.star_meaning.specs.Comparing.{equal, search_from, search_in, stop_or}
use Rattle.star_meaning.specs.Methods as spec
use Rattle.star_meaning.specs.Operators.{check_unlocked, item_at}
use Rattle.star_meaning.specs.State.{list, with_list}
use Rattle.star_meaning.specs.Steps.{Outcome, Went, Failed, Action, Gives, Store, and_then, given_or, ◌>>=◌, ◌>>◌}
use Rattle.star_meaning.specs.Validity.{MachineState}
use Rattle.star_meaning.specs.Values.{clamped, int_in, place_of, times}
use Rattle.star_builtins.specs.MethodRows as rows
use Rattle.star_builtins.specs.Reached.{store}
use Rattle.star_builtins.proofs.RowLemmas.{as_int_went, same_gives}

-- ---- a place that is found is one of the list's

module _ (wanted : Value) where
  found_at : (place : ℕ) (x : Value) (xs : List Value) (p : ℕ) (t : Store ℕ) (o : Outcome (Store ℕ) Failure Bool)
      → ((s : Store ℕ) → search_from (place + 1) wanted xs s ≡ Went (Some p) t → p < place + 1 + length xs)
      → and_then o (λ found. stop_or found place (search_from (place + 1) wanted xs)) ≡ Went (Some p) t → p < place + suc (length xs)
  found_at place x xs p t (Went true w) more h = let same : place ≡ p = cc in omega arith
  found_at place x xs p t (Went false w) more h = let later : p < place + 1 + length xs = more w h in omega arith
  found_at place x xs p t (Failed e w) more h = absurd (cc)

  found_from : (place : ℕ) (xs : List Value) (p : ℕ) (s t : Store ℕ) → search_from place wanted xs s ≡ Went (Some p) t → p < place + length xs
  found_from place [] p s t h = absurd (cc)
  found_from place (x ∷ xs) p s t h = found_at place x xs p t (equal wanted x s) (λ w is. found_from (place + 1) xs p w t is) h

  pub found_within : (xs : List Value) (p : ℕ) (s t : Store ℕ) → search_in wanted xs s ≡ Went (Some p) t → p < length xs
  unfolding search_in
  found_within xs p s t h = let within : p < 0 + length xs = found_from 0 xs p s t h in omega arith

  module _ (id : ℕ) (xs : List Value) (s t : Store ℕ) (same : xs ≡ list s.state id) where
    looked : (o : Outcome (Store ℕ) Failure (Option ℕ)) → search_in wanted xs s ≡ o → spec.place_in id wanted s ≡ and_then o (given_or failure.NoElement)
    looked o is = ap (λ o. and_then o (given_or failure.NoElement)) (ap (λ ys. search_in wanted ys s) (sym same) ∙ is)

    pub place_went : (p : ℕ) → search_in wanted xs s ≡ Went (Some p) t → spec.place_in id wanted s ≡ Went p t
    place_went p is = looked (Went (Some p) t) is

    pub place_none : search_in wanted xs s ≡ Went None t → spec.place_in id wanted s ≡ Failed failure.NoElement t
    place_none is = looked (Went None t) is

    pub place_failed : (e : Failure) → search_in wanted xs s ≡ Failed e t → spec.place_in id wanted s ≡ Failed e t
    place_failed e is = looked (Failed e t) is

    pub place_within : (p : ℕ) → search_in wanted xs s ≡ Went (Some p) t → p < length (list s.state id)
    place_within p is = subst (λ ys. p < length ys) same (found_within xs p s t is)

pub ruleset placing = (place_went, place_none, place_failed, place_within)

-- ---- a place at which a value is put

pub clamped_low : (count : ℕ) (z : ℤ) → pos 0 ≤ℤ clamped (pos 0) (pos count) z
clamped_low count z = grind (arith, nat_tests, ints)

pub clamped_high : (count : ℕ) (z : ℤ) → clamped (pos 0) (pos count) z ≤ℤ pos count
clamped_high count z = grind (arith, nat_tests, ints)

pub times_of : (z : ℤ) (n : ℕ) → pos n ≡ z → n ≡ times z
times_of z n is = ap times is

-- ---- what an unlocked list becomes

module _ (m after : MachineState) (locked : List ℕ) (id left : ℕ) (free : (s : Store ℕ) → check_unlocked locked id s ≡ Went tt s) where
  pub appended : (x : Value) → after ≡ record m { state = with_list m.state id (insert (list m.state id) (length (list m.state id)) x) } → rows.append_value locked id x (store m left) ≡ Went value.None (store after left)
  appended x is = rw (free (store m left), is, insert_end (list m.state id) x) refl

  pub inserted : (z : ℤ) (place : ℕ) (x : Value) → place ≡ spec.insert_place z (length (list m.state id)) → after ≡ record m { state = with_list m.state id (insert (list m.state id) place x) } → rows.insert_number locked id z x (store m left) ≡ Went value.None (store after left)
  inserted z place x at is = rw (free (store m left), is, at) refl

  pub cleared : after ≡ record m { state = with_list m.state id [] } → rows.clear_items locked id (store m left) ≡ Went value.None (store after left)
  cleared is = rw (free (store m left), is) refl

  pub popped : (z : ℤ) (place : ℕ) (x : Value) → Some place ≡ place_of z (length (list m.state id)) → slice_get (list m.state id) place ≡ Some x → after ≡ record m { state = with_list m.state id (remove (list m.state id) place) } → rows.pop_number locked id z (store m left) ≡ Went x (store after left)
  popped z place x at got is = rw (free (store m left), ← at, got, is) refl

  pub unpopped : (z : ℤ) → None ≡ place_of z (length (list m.state id)) → rows.pop_number locked id z (store m left) ≡ Failed failure.BadIndex (store m left)
  unpopped z at = rw (free (store m left), ← at) refl

pub removed : (m after : MachineState) (locked : List ℕ) (id left rest : ℕ) (wanted : Value) (place : ℕ) → ((s : Store ℕ) → check_unlocked locked id s ≡ Went tt s) → spec.place_in id wanted (store m left) ≡ Went place (store m rest)
    → after ≡ record m { state = with_list m.state id (remove (list m.state id) place) } → rows.remove_value locked id wanted (store m left) ≡ Went value.None (store after rest)
removed m after locked id left rest wanted place free at is = rw (free (store m left), at, is) refl

pub ruleset lists = (appended, inserted, cleared, popped, unpopped, removed)

-- ---- integers that are arguments

module _ (locked : List ℕ) (id : ℕ) (z : ℤ) (s t : Store ℕ) (r : Result Value Stop) (fit : FitsSigned w128 z) where
  pub pop_given : (i : Option Value) → as_int_or (negsuc 0) i s ≡ Went z s → Gives (rows.pop_number locked id (to_z w128 (of_z w128 z)) s) r t → Gives (rows.pop_at locked id i s) r t
  pop_given i is h = same_gives _ _ r t (ap (λ o. and_then o (λ y. rows.pop_number locked id y)) is) (subst (λ y. Gives (rows.pop_number locked id y s) r t) (to_z-of_z fit) h)

  pub insert_given : (i x : Value) → int_in i ≡ Some z → Gives (rows.insert_number locked id (to_z w128 (of_z w128 z)) x s) r t → Gives (rows.insert_value locked id i x s) r t
  insert_given i x is h = same_gives _ _ r t (as_int_went i z (λ y. rows.insert_number locked id y x) s is) (subst (λ y. Gives (rows.insert_number locked id y x s) r t) (to_z-of_z fit) h)
