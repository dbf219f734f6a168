-- The arguments of a call.
use Rattle.std.proofs.Common.{◌≡◌, ℕ, Bool, true, List, [], ◌∷◌, ◌++◌, ◌<◌, ◌≤◌, length, refl, sym, ap, ◌∙◌, subst, arith, IsTrue, Option, Some, None}
use Rattle.std.specs.Prelude.{◌&&◌, bytes_eq, false}
use Rattle.std.specs.List.{list_all}
use Rattle.std.proofs.lemmas.List.Folds.{list_all-append}
use Rattle.heap_store.proofs.Tested.{and_left, and_right}
use Rattle.star_value.specs.declared.failure.Failure.TheVariants as failure
use Rattle.star_value.specs.declared.value.Value.{Value}
use Rattle.star_meaning.specs.Builtins as spec
use Rattle.star_meaning.specs.Methods as methods
use Rattle.star_meaning.specs.Steps.{Action, fail}
use Rattle.star_meaning.specs.Validity.{MachineState, fits, is_proper}
use Rattle.star_builtins.specs.Reached.{Fits, AllFit}

pub unnamed_given : (named : spec.ByName) (p : Action ℕ Value) → named ≡ [] → spec.unnamed named p ≡ p
unnamed_given [] p h = refl
unnamed_given (x ∷ xs) p h = absurd (cc)

pub unnamed_refused : (named : spec.ByName) (p : Action ℕ Value) → (named ≡ [] → ⊥) → spec.unnamed named p ≡ fail failure.WrongArguments
unnamed_refused [] p h = absurd (h refl)
unnamed_refused (x ∷ xs) p h = refl

pub none_given : (values : List Value) (p : Action ℕ Value) → values ≡ [] → methods.with_none p values ≡ p
none_given [] p h = refl
none_given (x ∷ xs) p h = absurd (cc)

pub none_refused : (values : List Value) (p : Action ℕ Value) → (values ≡ [] → ⊥) → methods.with_none p values ≡ fail failure.WrongArguments
none_refused [] p h = absurd (h refl)
none_refused (x ∷ xs) p h = refl

pub one_refused : (f : Value → Action ℕ Value) (values : List Value) → (length values ≡ 1 → ⊥) → spec.with_one f values ≡ fail failure.WrongArguments
one_refused f [] h = refl
one_refused f (x ∷ []) h = absurd (h refl)
one_refused f (x ∷ y ∷ more) h = refl

one_last : (f : Value → Action ℕ Value) (front : List Value) (v : Value) → length (front ++ v ∷ []) ≡ 1 → spec.with_one f (front ++ v ∷ []) ≡ f v
one_last f [] v h = refl
one_last f (x ∷ []) v h = absurd (omega (arith, h))
one_last f (x ∷ y ∷ front) v h = absurd (omega (arith, h))

pub one_given : (f : Value → Action ℕ Value) (values front : List Value) (v : Value) → values ≡ front ++ v ∷ [] → length values ≡ 1 → spec.with_one f values ≡ f v
one_given f values front v is h = rw is (one_last f front v (ap length (sym is) ∙ h))

pub optional_none : (f : Option Value → Action ℕ Value) (values : List Value) → values ≡ [] → spec.with_optional f values ≡ f None
optional_none f [] h = refl
optional_none f (x ∷ xs) h = absurd (cc)

pub optional_refused : (f : Option Value → Action ℕ Value) (values : List Value) → 1 < length values → spec.with_optional f values ≡ fail failure.WrongArguments
optional_refused f [] h = absurd (omega arith)
optional_refused f (x ∷ []) h = absurd (omega (arith, h))
optional_refused f (x ∷ y ∷ more) h = refl

optional_last : (f : Option Value → Action ℕ Value) (front : List Value) (v : Value) → length (front ++ v ∷ []) ≤ 1 → spec.with_optional f (front ++ v ∷ []) ≡ f (Some v)
optional_last f [] v h = refl
optional_last f (x ∷ []) v h = absurd (omega (arith, h))
optional_last f (x ∷ y ∷ front) v h = absurd (omega (arith, h))

pub optional_given : (f : Option Value → Action ℕ Value) (values front : List Value) (v : Value) → values ≡ front ++ v ∷ [] → length values ≤ 1 → spec.with_optional f values ≡ f (Some v)
optional_given f values front v is h = rw is (optional_last f front v (subst (λ n. n ≤ 1) (ap length is) h))

pub one_of_two : (f : Value → Option Value → Action ℕ Value) (values : List Value) → (length values ≡ 2 → ⊥) → spec.with_one_or_two f values ≡ spec.with_one (λ x. f x None) values
one_of_two f [] h = refl
one_of_two f (x ∷ []) h = refl
one_of_two f (x ∷ y ∷ []) h = absurd (h refl)
one_of_two f (x ∷ y ∷ z ∷ more) h = refl

pub two_of_two : (f : Value → Option Value → Action ℕ Value) (values : List Value) → length values ≡ 2 → spec.with_one_or_two f values ≡ methods.with_two (λ x y. f x (Some y)) values
two_of_two f [] h = absurd (omega (arith, h))
two_of_two f (x ∷ []) h = absurd (omega (arith, h))
two_of_two f (x ∷ y ∷ []) h = refl
two_of_two f (x ∷ y ∷ z ∷ more) h = absurd (omega (arith, h))

pub two_refused : (f : Value → Value → Action ℕ Value) (values : List Value) → (length values ≡ 2 → ⊥) → methods.with_two f values ≡ fail failure.WrongArguments
two_refused f [] h = refl
two_refused f (x ∷ []) h = refl
two_refused f (x ∷ y ∷ []) h = absurd (h refl)
two_refused f (x ∷ y ∷ z ∷ more) h = refl

two_last : (f : Value → Value → Action ℕ Value) (front : List Value) (v : Value) → length (front ++ v ∷ []) ≡ 2 → methods.with_two f (front ++ v ∷ []) ≡ spec.with_one (λ x. f x v) front
two_last f [] v h = absurd (omega (arith, h))
two_last f (x ∷ []) v h = refl
two_last f (x ∷ y ∷ []) v h = absurd (omega (arith, h))
two_last f (x ∷ y ∷ z ∷ front) v h = absurd (omega (arith, h))

pub two_given : (f : Value → Value → Action ℕ Value) (values front : List Value) (v : Value) → values ≡ front ++ v ∷ [] → length values ≡ 2 → methods.with_two f values ≡ spec.with_one (λ x. f x v) front
two_given f values front v is h = rw is (two_last f front v (ap length (sym is) ∙ h))

-- ---- they fit

all_front : (test : Value → Bool) (front : List Value) (v : Value) → IsTrue (list_all test (front ++ v ∷ [])) → IsTrue (list_all test front && list_all test (v ∷ []))
all_front test front v h = sym (list_all-append test front (v ∷ [])) ∙ h

pub last_fits : (m : MachineState) (values front : List Value) (v : Value) → values ≡ front ++ v ∷ [] → AllFit m values → Fits m v
last_fits m values front v is fit = record {
  references = and_left (fits m.state.objects v) true (and_right (list_all (fits m.state.objects) front) (list_all (fits m.state.objects) (v ∷ [])) (all_front (fits m.state.objects) front v (subst (λ vs. IsTrue (list_all (fits m.state.objects) vs)) is fit.references)));
  proper = and_left (is_proper v) true (and_right (list_all is_proper front) (list_all is_proper (v ∷ [])) (all_front is_proper front v (subst (λ vs. IsTrue (list_all is_proper vs)) is fit.proper)));
}

pub front_fits : (m : MachineState) (values front : List Value) (v : Value) → values ≡ front ++ v ∷ [] → AllFit m values → AllFit m front
front_fits m values front v is fit = record {
  references = and_left (list_all (fits m.state.objects) front) (list_all (fits m.state.objects) (v ∷ [])) (all_front (fits m.state.objects) front v (subst (λ vs. IsTrue (list_all (fits m.state.objects) vs)) is fit.references));
  proper = and_left (list_all is_proper front) (list_all is_proper (v ∷ [])) (all_front is_proper front v (subst (λ vs. IsTrue (list_all is_proper vs)) is fit.proper));
}

pub ruleset unnamed = (unnamed_given, unnamed_refused)

pub ruleset arguments = (none_given, none_refused, one_given, one_refused, optional_none, optional_given, optional_refused, one_of_two, two_of_two, two_given, two_refused, last_fits, front_fits)

-- ---- by name

pub named_none : (name : List ℕ) (named : spec.ByName) → named ≡ [] → spec.only_named name named ≡ Some None
named_none name [] h = refl
named_none name (entry ∷ more) h = absurd (cc)

pub named_one : (name : List ℕ) (named front : spec.ByName) (entry : List ℕ × Value) → named ≡ front ++ entry ∷ [] → front ≡ [] → bytes_eq entry.0 name ≡ true → spec.only_named name named ≡ Some (Some entry.1)
named_one name named front entry is none same =
    let one : named ≡ entry ∷ [] = is ∙ ap (λ f. f ++ entry ∷ []) none in
    rw one (rw same refl)

other_one : (name : List ℕ) (entry : List ℕ × Value) (b : Bool) → bytes_eq entry.0 name ≡ b → (bytes_eq entry.0 name ≡ true → ⊥) → spec.only_named name (entry ∷ []) ≡ None
other_one name entry true is h = absurd (h is)
other_one name entry false is h = rw is refl

other_at : (name : List ℕ) (front : spec.ByName) (entry : List ℕ × Value) → (front ≡ [] → bytes_eq entry.0 name ≡ true → ⊥) → spec.only_named name (front ++ entry ∷ []) ≡ None
other_at name [] entry h = other_one name entry (bytes_eq entry.0 name) refl (h refl)
other_at name (x ∷ []) entry h = refl
other_at name (x ∷ y ∷ front) entry h = refl

pub named_other : (name : List ℕ) (named front : spec.ByName) (entry : List ℕ × Value) → named ≡ front ++ entry ∷ [] → (front ≡ [] → bytes_eq entry.0 name ≡ true → ⊥) → spec.only_named name named ≡ None
named_other name named front entry is h = ap (spec.only_named name) is ∙ other_at name front entry h

pub ruleset named = (named_none, named_one, named_other)
