-- A simple command, and what a parse of it says.
use Rattle.std.proofs.Common.{◌≡◌, List, [], ◌∷◌, true, Some, None, refl, ap, sym, inl, inr}
use Rattle.clap.specs.Words.{App, Text, HasKind, HasMatchesOf, Kinds, fault_of, found_of, first_value, is_simple, is_simple_and_free, kind_of, matches_of, rows_of}
use Rattle.clap.specs.declared.error.Error.{Error}
use Rattle.clap.specs.declared.error.kind.ErrorKind.TheVariants.{OutOfMemory}
use Rattle.clap.specs.declared.parser.matches.ArgMatches.{ArgMatches}
use Rattle.clap.specs.declared.parser.matches.Found.{Found}
use Rattle.clap.proofs.WalkLemmas.{first_value-rows}
use Rattle.chex_words.specs.Apps.{solo_app, run_app, audit_app, replay_app, plan_app, check_app, make_app}
use Rattle.chex_words.specs.Taken.{taken, value_at}

pub solo_is_simple : is_simple solo_app ≡ true
unfolding solo_app
solo_is_simple = refl

pub solo_is_free : is_simple_and_free solo_app ≡ true
unfolding solo_app
solo_is_free = refl

pub run_is_simple : is_simple run_app ≡ true
unfolding run_app
run_is_simple = refl

pub run_is_free : is_simple_and_free run_app ≡ true
unfolding run_app
run_is_free = refl

pub plan_is_simple : is_simple plan_app ≡ true
unfolding plan_app
plan_is_simple = refl

pub plan_is_free : is_simple_and_free plan_app ≡ true
unfolding plan_app
plan_is_free = refl

pub first_value_at : (f : Found) (id : Text) → first_value f id ≡ value_at id (rows_of f)
unfolding value_at
first_value_at f id = first_value-rows f id

pub rows_taken : (a : App) (words : List Text) (m : ArgMatches) → is_simple a ≡ true → is_simple_and_free a ≡ true → HasMatchesOf a words m
    → (is_simple_and_free a ≡ true → fault_of a words ≡ []) → taken a words ≡ Some (rows_of (found_of m))
unfolding taken
rows_taken a words m simple free matches faults =
    let none : fault_of a words ≡ [] = faults free in
    let rows : rows_of (found_of m) ≡ matches_of a words = (matches simple).0 in
    rw none (ap Some (sym rows))

some_kind : (a : App) (kinds : Kinds) (e : Error) (words : List Text) → fault_of a words ≡ kinds → HasKind kinds e → (kind_of e ≡ OutOfMemory → ⊥) → taken a words ≡ None
unfolding taken
some_kind a [] e words is kind other = absurd (elim kind [ inl memory ↦ other memory | inr none ↦ none ])
some_kind a (k ∷ ks) e words is kind other = rw is refl

pub none_taken : (a : App) (words : List Text) (e : Error) → is_simple_and_free a ≡ true → (is_simple_and_free a ≡ true → HasKind (fault_of a words) e)
    → (kind_of e ≡ OutOfMemory → ⊥) → taken a words ≡ None
none_taken a words e free kinds other = some_kind a (fault_of a words) e words refl (kinds free) other

pub audit_is_simple : is_simple audit_app ≡ true
unfolding audit_app
audit_is_simple = refl

pub audit_is_free : is_simple_and_free audit_app ≡ true
unfolding audit_app
audit_is_free = refl

pub replay_is_simple : is_simple replay_app ≡ true
unfolding replay_app
replay_is_simple = refl

pub replay_is_free : is_simple_and_free replay_app ≡ true
unfolding replay_app
replay_is_free = refl

pub check_is_simple : is_simple check_app ≡ true
unfolding check_app
check_is_simple = refl

pub check_is_free : is_simple_and_free check_app ≡ true
unfolding check_app
check_is_free = refl

pub make_is_simple : is_simple make_app ≡ true
unfolding make_app
make_is_simple = refl

pub make_is_free : is_simple_and_free make_app ≡ true
unfolding make_app
make_is_free = refl
