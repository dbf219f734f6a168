-- What comprehensions gather.
use Rattle.std.specs.Prelude.{◌≡◌, ℕ, List, map, Result, Ok, Err}
use Rattle.star_syntax.specs.declared.expression.Clause.{Clause}
use Rattle.star_syntax.specs.declared.expression.Expr.{Expr}
use Rattle.star_value.specs.declared.failure.Failure.{Failure}
use Rattle.star_value.specs.declared.stop.Stop.{Stop}
use Rattle.star_value.specs.declared.stop.Stop.TheVariants as stop
use Rattle.star_value.specs.declared.value.Value.{Value}
use Rattle.star_meaning.specs.Steps.{Outcome, Went, Failed, pure, ◌>>=◌, ◌>>◌}
use Rattle.star_meaning.specs.Validity.{MachineState}
use Rattle.star_meaning.specs.World.{Work}
use Rattle.star_meaning.specs.Expressions.{clauses_from, comprehension, dict_turn, list_turn, loop_over, next_item}
use Rattle.star_builtins.specs.Changes.{PairsFit}
use Rattle.star_builtins.specs.Reached.{AllFit}
use Rattle.star_run.specs.declared.gathered.Element.{Element}
use Rattle.star_run.specs.declared.gathered.Element.TheVariants as element
use Rattle.star_run.specs.declared.gathered.Gathered.{Gathered}
use Rattle.star_run.specs.Fixed.{Fixed, meaning}
use Rattle.star_run.specs.Parts.{clause_meaning, meanings}

-- what a function that changes what is gathered answers: the outcome, unless memory is wanting
abbrev pub GivesMade : {W A : Type 0} → Outcome W Failure A → Result (Unit {0}) Stop → A → W → Type 0
GivesMade outcome (Ok done) made new = outcome ≡ Went made new
GivesMade outcome (Err (stop.Failure e)) made new = outcome ≡ Failed e new
GivesMade outcome (Err stop.NoMemory) made new = Unit {0}

-- what is gathered may stand in a machine
pub record GatheredFit (m : MachineState) (gathered : Gathered) : Type 0 where
  pub items : AllFit m gathered.items
  pub pairs : PairsFit m gathered.pairs

module _ (g : Fixed) (depth : ℕ) where
  -- the innermost turn
  abbrev pub gather : Element → Gathered → Work ℕ Gathered
  gather (element.Item e) gathered = list_turn (meaning g depth e.now) gathered.items >>= (λ items. pure (record gathered { items = items }))
  gather (element.Pair k v) gathered = dict_turn (meaning g depth k.now) (meaning g depth v.now) gathered.pairs >>= (λ pairs. pure (record gathered { pairs = pairs }))

  -- clauses of a comprehension, round its innermost turns
  abbrev pub clauses : List (Clause Expr) → Element → Gathered → Work ℕ Gathered
  clauses all of = clauses_from (map (clause_meaning g depth) all) (gather of)

  -- a turn of a `for` clause
  abbrev pub turn : List Expr → List (Clause Expr) → Element → Value → Gathered → Work ℕ Gathered
  turn targets more of x gathered = next_item (meanings g depth targets) x >> clauses more of gathered

  -- the turns over a value
  abbrev pub over : List Expr → List (Clause Expr) → Element → Value → Gathered → Work ℕ Gathered
  over targets more of = loop_over (turn targets more of)

  abbrev pub gathering : List (Clause Expr) → Element → Gathered → Work ℕ Gathered
  gathering all of = comprehension (map (clause_meaning g depth) all) (gather of)
