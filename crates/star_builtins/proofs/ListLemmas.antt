-- A new list of items that are charged first.
use Rattle.std.proofs.Common.{◌≡◌, ℕ, List, sym, subst, ap}
use Rattle.std.specs.Prelude.{Result, Ok, Err}
use Rattle.star_value.specs.declared.failure.Failure.{Failure}
use Rattle.star_value.specs.declared.stop.Stop.{Stop}
use Rattle.star_value.specs.declared.stop.Stop.TheVariants as stop
use Rattle.star_value.specs.declared.value.Value.{Value}
use Rattle.star_value.specs.Charge.{charged}
use Rattle.star_value.specs.Weight.{sum_of_weights}
use Rattle.star_meaning.specs.Steps.{Gives, and_then, charge, paid}
use Rattle.star_meaning.specs.Operators.{charged_list}
use Rattle.star_meaning.specs.Validity.{MachineState}
use Rattle.star_meaning.specs.Values.{new_list}
use Rattle.star_builtins.specs.Reached.{store}
use Rattle.star_builtins.specs.Taken.{GivesCharged}

charged_then : (m : MachineState) (left rest : ℕ) (items : List Value) → charged left (sum_of_weights items) ≡ (Ok tt, rest) → charged_list items (store m left) ≡ new_list items (store m rest)
unfolding charge
charged_then m left rest items done = ap (λ p. and_then (paid m.state p) (λ _. new_list items)) done

pub list_gives : (m after : MachineState) (left rest : ℕ) (items given : List Value) (r : Result Value Stop) → charged left (sum_of_weights items) ≡ (Ok tt, rest) → given ≡ items
    → Gives (new_list given (store m rest)) r (store after rest) → Gives (charged_list items (store m left)) r (store after rest)
list_gives m after left rest items given r done same made =
    subst (λ o. Gives o r (store after rest)) (sym (charged_then m left rest items done)) (subst (λ ys. Gives (new_list ys (store m rest)) r (store after rest)) same made)

pub list_stops : (m : MachineState) (left rest : ℕ) (items : List Value) (e : Failure) → charged left (sum_of_weights items) ≡ (Err e, rest) → Gives (charged_list items (store m left)) (Err (stop.Failure e)) (store m rest)
unfolding charge
list_stops m left rest items e over = ap (λ p. and_then (paid m.state p) (λ _. new_list items)) over

ends : (m : MachineState) (left rest : ℕ) (items : List Value) (e : Stop) → GivesCharged (charged left (sum_of_weights items)) items (Err e) rest → Gives (charged_list items (store m left)) (Err e) (store m rest)
ends m left rest items (stop.Failure e) h = list_stops m left rest items e h
ends m left rest items stop.NoMemory h = tt

pub list_ends : (m : MachineState) (left rest : ℕ) (other items : List Value) (e : Stop) → other ≡ items → GivesCharged (charged left (sum_of_weights other)) other (Err e) rest → Gives (charged_list items (store m left)) (Err e) (store m rest)
list_ends m left rest other items e same h = ends m left rest items e (subst (λ ys. GivesCharged (charged left (sum_of_weights ys)) ys (Err e) rest) same h)
