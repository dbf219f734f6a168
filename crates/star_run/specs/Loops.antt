-- The loops of a comprehension, one for each `for` clause.
use Rattle.std.specs.Prelude.{◌≡◌, ℕ, ◌+◌, List, [], drop, Option, Some, None, Result, Ok, Err, slice_get}
use Rattle.star_syntax.specs.declared.expression.Clause.{Clause}
use Rattle.star_syntax.specs.declared.expression.Clause.TheVariants as form
use Rattle.star_syntax.specs.declared.expression.Expr.{Expr}
use Rattle.star_value.specs.declared.failure.Failure.{Failure}
use Rattle.star_value.specs.declared.stop.Stop.{Stop}
use Rattle.star_value.specs.declared.stop.Stop.TheVariants as stop
use Rattle.star_value.specs.declared.value.Value.{Value}
use Rattle.star_meaning.specs.Growing.{IsBack, Later}
use Rattle.star_meaning.specs.Steps.{Outcome, Went, Failed}
use Rattle.star_meaning.specs.Validity.{MachineState}
use Rattle.star_meaning.specs.World.{Work, World}
use Rattle.star_meaning.specs.Expressions.{loop_over}
use Rattle.star_builtins.specs.Reached.{Fits}
use Rattle.star_run.specs.declared.gathered.Element.{Element}
use Rattle.star_run.specs.declared.gathered.Gathered.{Gathered}
use Rattle.star_run.specs.declared.loops.Reached.{Reached}
use Rattle.star_run.specs.Fixed.{Fixed}
use Rattle.star_run.specs.Gathers.{turn}
use Rattle.star_run.specs.Running.{Running, world}

-- a fact of the failure of a cell
abbrev pub IfFailed : {A : Type 0} → Result A Stop → (Failure → Type 0) → Type 0
IfFailed (Ok a) P = Unit {0}
IfFailed (Err (stop.Failure e)) P = P e
IfFailed (Err stop.NoMemory) P = Unit {0}

-- a `for` clause stands at this place
abbrev pub IsFor : List (Clause Expr) → ℕ → Type 0
IsFor all at = (targets : List Expr) × (over : Expr) × (slice_get all at ≡ Some (form.For targets over))

-- the targets of a `for` clause
abbrev pub targets_of : Option (Clause Expr) → List Expr
targets_of None = []
targets_of (Some (form.For targets over)) = targets
targets_of (Some (form.If condition)) = []

-- a `for` clause is reached, over a value that may stand in the machine
pub record IsReached (all : List (Clause Expr)) (m : MachineState) (reached : Reached) : Type 0 where
  pub clause : IsFor all reached.clause
  pub fits : Fits m reached.of

-- a fact of the clause that is reached, where one is
abbrev pub IfReached : Result (Option Reached) Stop → (Reached → Type 0) → Type 0
IfReached (Ok None) P = Unit {0}
IfReached (Ok (Some next)) P = P next
IfReached (Err e) P = Unit {0}

-- what is iterated over stays as it is, and locked, and the same functions are active
pub record Stays (here : ℕ) (before after : Running) : Type 0 where
  pub later : Later here before.frame.locked (world before).store (world after).store
  pub back : IsBack before.frame after.frame

module _ (g : Fixed) (depth : ℕ) (all : List (Clause Expr)) (of : Element) where
  -- a turn of the `for` clause at a place
  abbrev pub turn_at : ℕ → Value → Gathered → Work ℕ Gathered
  turn_at at = turn g depth (targets_of (slice_get all at)) (drop (at + 1) all) of

  -- the turns of that clause over a value
  abbrev pub loop_at : ℕ → Value → Gathered → Work ℕ Gathered
  loop_at at = loop_over (turn_at at)

  -- the clauses of a turn end it, or reach a `for` clause, whose turns are then to come
  abbrev pub Reaches : Outcome (World ℕ) Failure Gathered → Result (Option Reached) Stop → Gathered → World ℕ → Type 0
  Reaches outcome (Ok None) made w = outcome ≡ Went made w
  Reaches outcome (Ok (Some next)) made w = outcome ≡ loop_at next.clause next.of made w
  Reaches outcome (Err (stop.Failure e)) made w = outcome ≡ Failed e w
  Reaches outcome (Err stop.NoMemory) made w = Unit {0}
