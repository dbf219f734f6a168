-- Parts of the rows of the methods of texts.
use Rattle.std.specs.Prelude.{◌≡◌, ℕ, List, ◌++◌, Result, Option}
use Rattle.star_value.specs.declared.failure.Failure.{Failure}
use Rattle.star_value.specs.declared.value.Value.{Value}
use Rattle.star_meaning.specs.Builtins as spec
use Rattle.star_meaning.specs.Methods as methods
use Rattle.star_meaning.specs.Steps.{Action, pure, ◌>>=◌, ◌>>◌}
use Rattle.star_meaning.specs.Values.{items_of}
use Rattle.star_builtins.specs.Calling.{chosen}

-- what a call answers that wants one text, one text or none, or two texts: each row over such arguments is the row over what
-- is answered
abbrev pub ChoosesOne : List Value → Result (List ℕ) Failure → Type 0
ChoosesOne values r = (row : List ℕ → Action ℕ Value) → spec.with_one (λ v. spec.as_text v >>= row) values ≡ chosen r row

abbrev pub ChoosesOptional : List Value → Result (Option (List ℕ)) Failure → Type 0
ChoosesOptional values r = (row : Option (List ℕ) → Action ℕ Value) → spec.with_optional (λ v. methods.as_set v >>= row) values ≡ chosen r row

abbrev pub ChoosesTwo : List Value → Result (List ℕ × List ℕ) Failure → Type 0
ChoosesTwo values r = (row : List ℕ → List ℕ → Action ℕ Value) → methods.with_two (λ a b. spec.as_text a >>= (λ x. spec.as_text b >>= row x)) values ≡ chosen r (λ both. row both.0 both.1)

-- whether a text that may not be empty is none
abbrev pub ChecksText : List ℕ → Result (Unit {0}) Failure → Type 0
ChecksText by r = (row : Action ℕ Value) → (methods.not_empty by >> row) ≡ chosen r (λ done. row)

-- the texts that a value gives, each looked at once it is charged
abbrev pub given_texts : {C : Type 0} → Value → Action C (List (List ℕ))
given_texts v = items_of v >>= methods.walk_texts

-- the texts that these values are, put after others
unfoldable pub texts_onto : {C : Type 0} → List (List ℕ) → List Value → Action C (List (List ℕ))
texts_onto done items = methods.walk_texts items >>= (λ more. pure (done ++ more))
