-- What waits while other code runs still fits.
use Rattle.std.proofs.Common.{◌≡◌, ℕ, Bool, List, [], ◌∷◌, ◌++◌, map, refl, sym, ap, ◌∙◌, subst, arith, IsTrue}
use Rattle.std.specs.Prelude.{◌&&◌}
use Rattle.std.specs.List.{list_all}
use Rattle.heap_store.proofs.Tested.{all_push, and_both, and_left, and_right}
use Rattle.star_value.specs.Keys.{value_of}
use Rattle.star_value.specs.declared.key.Key.{Key}
use Rattle.star_value.specs.declared.value.Value.{Value, fold-roll-Value}
use Rattle.star_value.specs.declared.value.Value.TheVariants as value
use Rattle.star_value.specs.Weight.{depth_step}
use Rattle.star_meaning.specs.Validity.{MachineState, all_in_pair, fits, fits_step, is_proper, proper_step}
use Rattle.star_builtins.specs.Changes.{PairsFit}
use Rattle.star_builtins.specs.Reached.{AllFit, Fits}
use Rattle.star_builtins.proofs.FitLemmas.{fits_int, fits_text}
use Rattle.star_run.specs.Running.{Goes, Running}

-- ---- values without others in them

pub fits_bool : (m : MachineState) (b : Bool) → Fits m (value.Bool b)
unfolding fits is_proper
fits_bool m b = record {
  references = rw (← value.rolls-Bool b, fold-roll-Value Bool (fits_step m.state.objects)) refl;
  proper = rw (← value.rolls-Bool b, fold-roll-Value ℕ depth_step, fold-roll-Value Bool proper_step) refl;
}

pub fits_none : (m : MachineState) → Fits m value.None
unfolding fits is_proper
fits_none m = record {
  references = rw (← value.rolls-None, fold-roll-Value Bool (fits_step m.state.objects)) refl;
  proper = rw (← value.rolls-None, fold-roll-Value ℕ depth_step, fold-roll-Value Bool proper_step) refl;
}

-- ---- what steps leave

pub goes_then : (a b c : Running) → Goes a b → Goes b c → Goes a c
goes_then a b c h k = record {
  ran = k.ran ∙ h.ran;
  fit = λ v f. k.fit v (h.fit v f);
  valid = λ program v. k.valid program (h.valid program v);
  few = omega (arith, h.few, k.few);
}

pub goes_same : (a : Running) → Goes a a
goes_same a = record { ran = refl; fit = λ v f. f; valid = λ program v. v; few = omega arith }

pub fits_later : {a b : Running} (v : Value) → Goes a b → Fits a.machine v → Fits b.machine v
fits_later v goes h = goes.fit v h

pub first_fits : (m : MachineState) (v : Value) (vs : List Value) → AllFit m (v ∷ vs) → Fits m v
first_fits m v vs h = record { references = and_left (fits m.state.objects v) (list_all (fits m.state.objects) vs) h.references; proper = and_left (is_proper v) (list_all is_proper vs) h.proper }

pub more_fit : (m : MachineState) (v : Value) (vs : List Value) → AllFit m (v ∷ vs) → AllFit m vs
more_fit m v vs h = record { references = and_right (fits m.state.objects v) (list_all (fits m.state.objects) vs) h.references; proper = and_right (is_proper v) (list_all is_proper vs) h.proper }

all_fit : (m : MachineState) (v : Value) (vs : List Value) → Fits m v → AllFit m vs → AllFit m (v ∷ vs)
all_fit m v vs h k = record {
  references = and_both (fits m.state.objects v) (list_all (fits m.state.objects) vs) h.references k.references;
  proper = and_both (is_proper v) (list_all is_proper vs) h.proper k.proper;
}

all_stay : (a b : Running) (vs : List Value) → Goes a b → AllFit a.machine vs → AllFit b.machine vs
all_stay a b [] goes h = record { references = refl; proper = refl }
all_stay a b (v ∷ vs) goes h = all_fit b.machine v vs (goes.fit v (first_fits a.machine v vs h)) (all_stay a b vs goes (more_fit a.machine v vs h))

pub all_fit_later : {a b : Running} (vs : List Value) → Goes a b → AllFit a.machine vs → AllFit b.machine vs
all_fit_later {a} {b} vs goes h = all_stay a b vs goes h

pub none_fit : (m : MachineState) → AllFit m []
none_fit m = record { references = refl; proper = refl }

push_fits : (m : MachineState) (vs : List Value) (v : Value) → AllFit m vs → Fits m v → AllFit m (vs ++ v ∷ [])
push_fits m vs v h k = record { references = all_push (fits m.state.objects) vs v h.references k.references; proper = all_push is_proper vs v h.proper k.proper }

-- one more value behind those that waited
pub all_fit_push : (a b : Running) (vs after : List Value) (v : Value) → after ≡ vs ++ v ∷ [] → Goes a b → AllFit a.machine vs → Fits b.machine v → AllFit b.machine after
all_fit_push a b vs after v is goes h k = subst (λ all. AllFit b.machine all) (sym is) (push_fits b.machine vs v (all_stay a b vs goes h) k)

-- the same behind a name
pub named_fit_push : (a b : Running) (done after : List (List ℕ × Value)) (name : List ℕ) (v : Value) → after ≡ done ++ (name, v) ∷ [] → Goes a b → AllFit a.machine (map (λ entry. entry.1) done) → Fits b.machine v
    → AllFit b.machine (map (λ entry. entry.1) after)
named_fit_push a b done after name v is goes h k = all_fit_push a b (map (λ entry. entry.1) done) (map (λ entry. entry.1) after) v (ap (map (λ (entry : List ℕ × Value). entry.1)) is ∙ last_named done name v) goes h k
  where
    last_named : (xs : List (List ℕ × Value)) (n : List ℕ) (x : Value) → map (λ entry. entry.1) (xs ++ (n, x) ∷ []) ≡ map (λ entry. entry.1) xs ++ x ∷ []
    last_named [] n x = refl
    last_named (y ∷ ys) n x = ap (λ r. y.1 ∷ r) (last_named ys n x)

-- ---- pairs

key_stays : (a b : Running) (k : Key) → Goes a b → IsTrue (fits a.machine.state.objects (value_of k)) → IsTrue (is_proper (value_of k)) → Fits b.machine (value_of k)
key_stays a b k goes h p = goes.fit (value_of k) (record { references = h; proper = p })

pairs_stay : (a b : Running) (pairs : List (Key × Value)) → Goes a b → PairsFit a.machine pairs → PairsFit b.machine pairs
pairs_stay a b [] goes h = record { references = refl; proper = refl }
pairs_stay a b (pair ∷ pairs) goes h =
    let test = fits a.machine.state.objects in
    let here : IsTrue (test (value_of pair.0) && test pair.1) = and_left (all_in_pair test pair) (list_all (all_in_pair test) pairs) h.references in
    let proper : IsTrue (is_proper (value_of pair.0) && is_proper pair.1) = and_left (all_in_pair is_proper pair) (list_all (all_in_pair is_proper) pairs) h.proper in
    let key = goes.fit (value_of pair.0) (record { references = and_left (test (value_of pair.0)) (test pair.1) here; proper = and_left (is_proper (value_of pair.0)) (is_proper pair.1) proper }) in
    let value = goes.fit pair.1 (record { references = and_right (test (value_of pair.0)) (test pair.1) here; proper = and_right (is_proper (value_of pair.0)) (is_proper pair.1) proper }) in
    let rest = pairs_stay a b pairs goes (record { references = and_right (all_in_pair test pair) (list_all (all_in_pair test) pairs) h.references; proper = and_right (all_in_pair is_proper pair) (list_all (all_in_pair is_proper) pairs) h.proper }) in
    let after = fits b.machine.state.objects in
    record {
      references = and_both (all_in_pair after pair) (list_all (all_in_pair after) pairs) (and_both (after (value_of pair.0)) (after pair.1) key.references value.references) rest.references;
      proper = and_both (all_in_pair is_proper pair) (list_all (all_in_pair is_proper) pairs) proper rest.proper;
    }

pub pairs_fit_later : {a b : Running} (pairs : List (Key × Value)) → Goes a b → PairsFit a.machine pairs → PairsFit b.machine pairs
pairs_fit_later {a} {b} pairs goes h = pairs_stay a b pairs goes h

pub no_pairs_fit : (m : MachineState) → PairsFit m []
no_pairs_fit m = record { references = refl; proper = refl }

pub ruleset waiting = (fits_later, all_fit_later, pairs_fit_later, goes_then)

pub ruleset constants = (fits_bool, fits_none, fits_int, fits_text, fits_later, goes_then)
