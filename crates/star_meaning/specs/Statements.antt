-- The meaning of statements, and of calls of functions.
use Rattle.std.specs.Prelude.{ℕ, zero, suc, Bool, true, false, not, ◌&&◌, if◌then◌else◌, List, [], ◌∷◌, ◌++◌, map, Option, Some, None, option_map, bytes_eq, sum}
use Rattle.std.specs.List.{filter, filter_map, flat_map, list_all}
use Rattle.star_syntax.specs.declared.expression.Expr.{Expr}
use Rattle.star_syntax.specs.declared.expression.Named.{Named}
use Rattle.star_syntax.specs.declared.operator.BinaryOp.{BinaryOp}
use Rattle.star_syntax.specs.declared.statement.Block.{Block}
use Rattle.star_syntax.specs.declared.statement.Block.TheVariants as blocks
use Rattle.star_syntax.specs.declared.statement.Branch.{Branch}
use Rattle.star_syntax.specs.declared.statement.Definition.{Definition}
use Rattle.star_syntax.specs.declared.statement.Line.{Line}
use Rattle.star_syntax.specs.declared.statement.Small.{Small}
use Rattle.star_syntax.specs.declared.statement.SmallKind.{SmallKind}
use Rattle.star_syntax.specs.declared.statement.SmallKind.TheVariants as small
use Rattle.star_syntax.specs.declared.statement.Statement.{Statement, fold-Statement}
use Rattle.star_syntax.specs.declared.statement.Statement.TheOpen.{Statement-F}
use Rattle.star_value.specs.declared.failure.Failure.{Failure}
use Rattle.star_value.specs.declared.failure.Failure.TheVariants as failure
use Rattle.star_value.specs.declared.value.Value.{Value, out-Value}
use Rattle.star_value.specs.declared.value.Value.TheOpen.{Value-F}
use Rattle.star_value.specs.declared.value.Value.TheVariants as value
use Rattle.star_value.specs.Weight.{weight}
use Rattle.star_meaning.specs.declared.flow.Flow.{Flow}
use Rattle.star_meaning.specs.declared.flow.Flow.TheVariants as flow
use Rattle.star_meaning.specs.State.{function}
use Rattle.star_meaning.specs.Steps.{Outcome, Went, Failed, pure, fail, charge, ◌>>=◌, ◌>>◌}
use Rattle.star_meaning.specs.Values.{is_empty, items_of, new_function}
use Rattle.star_meaning.specs.Showing.{made, quoted, ◌<+>◌}
use Rattle.star_meaning.specs.Operators.{augmented}
use Rattle.star_meaning.specs.Builtins.{ByName}
use Rattle.star_meaning.specs.World.{World, Work, Fault, Course, located, acting, reading, write, bind, unbound, distinct, is_among, in_function, locking, lock_of}
use Rattle.star_meaning.specs.World as world
use Rattle.star_meaning.specs.Expressions.{Setting, Callee, Meant, naming, target_names, tests_value, truth, store_in, next_item, values, meant}

-- ---- the names that statements bind

abbrev pub kind_names : SmallKind → List (List ℕ)
kind_names (small.Assign targets tests) = flat_map target_names targets
kind_names (small.Augmented target op tests) = target_names target
kind_names _ = []

abbrev pub small_names : Small → List (List ℕ)
small_names s = kind_names s.kind

abbrev pub block_names : Block (List (List ℕ)) → List (List ℕ)
block_names (blocks.Inline line) = flat_map small_names line.smalls
block_names (blocks.Indented all) = flat_map (λ names. names) all

abbrev pub branch_names : Branch (List (List ℕ)) → List (List ℕ)
branch_names branch = block_names branch.body

abbrev pub else_names : Option (Block (List (List ℕ))) → List (List ℕ)
else_names None = []
else_names (Some body) = block_names body

-- assignments and `for` bind names; a function's own names are not its cell's
abbrev pub layer_names : Statement-F (List (List ℕ)) → List (List ℕ)
layer_names (Statement-F.Line line) = flat_map small_names line.smalls
layer_names (Statement-F.If at first more other) = branch_names first ++ flat_map branch_names more ++ else_names other
layer_names (Statement-F.For at targets over body) = flat_map target_names targets ++ block_names body
layer_names (Statement-F.Def at def) = []

unfoldable pub statement_names : Statement → List (List ℕ)
statement_names = fold-Statement (List (List ℕ)) layer_names

abbrev pub body_names : Block Statement → List (List ℕ)
body_names (blocks.Inline line) = flat_map small_names line.smalls
body_names (blocks.Indented all) = flat_map statement_names all

-- ---- one after another

-- the rest, unless a statement ended otherwise
abbrev pub go_on : {C : Type 0} → Course C Flow → Flow → Course C Flow
go_on rest flow.On = rest
go_on rest flow.Break = pure flow.Break
go_on rest flow.Continue = pure flow.Continue
go_on rest (flow.Return v) = pure (flow.Return v)

-- statements up to the first that does not end with "on"; the Bool says whether the last of them is the cell's last
abbrev pub in_sequence : {C S : Type 0} → (Bool → S → Course C Flow) → Bool → List S → Course C Flow
in_sequence run last [] = pure flow.On
in_sequence run last (s ∷ more) = run (last && is_empty more) s >>= go_on (in_sequence run last more)

-- the next turns, unless the body of a turn breaks off or returns
abbrev pub after_turn : {C : Type 0} → Course C Flow → Flow → Course C Flow
after_turn rest flow.On = rest
after_turn rest flow.Continue = rest
after_turn rest flow.Break = pure flow.On
after_turn rest (flow.Return v) = pure (flow.Return v)

-- the turns of a `for` statement over these items
abbrev pub for_turns : {C : Type 0} → (Value → Course C (Unit {0})) → Course C Flow → List Value → Course C Flow
for_turns next body [] = pure flow.On
for_turns next body (x ∷ xs) = next x >> body >>= after_turn (for_turns next body xs)

-- What a statement does: whether it is the cell's last one, and its number among the cell's functions where it stands
-- directly in the cell.
abbrev pub Doing : Type 0 → Type 0
Doing C = Bool → Option ℕ → Course C Flow

module _ {C : Type 0} (setting : Setting C) (call : Callee C) where
  abbrev pub all_meant : List Expr → List (Meant C)
  all_meant = map (meant setting call)

  -- ---- small statements

  -- the quoted form and a newline, charged as they are made; None is not written
  abbrev pub echo_at : Value-F Value → Value → Work C (Unit {0})
  echo_at Value-F.None v = pure tt
  echo_at _ v = acting (quoted (naming setting) v <+> made (10 ∷ [])) >>= write

  unfoldable pub echo : Value → Work C (Unit {0})
  echo v = echo_at (out-Value v) v

  -- a last statement of a cell that is an expression is written
  abbrev pub echo_if : Bool → Value → Work C (Unit {0})
  echo_if true v = echo v
  echo_if false v = pure tt

  abbrev pub returned : List (Meant C) → Work C Value
  returned [] = pure value.None
  returned (m ∷ ms) = tests_value (m ∷ ms)

  abbrev pub operator : BinaryOp → Value → Value → Work C Value
  operator op x y = λ w. world.operate (augmented (naming setting) w.frame.locked op x y) w

  abbrev pub then_on : {A : Type 0} → Work C A → Work C Flow
  then_on p = p >> pure flow.On

  unfoldable pub kind_of : Bool → SmallKind → Work C Flow
  kind_of last (small.Return tests) = returned (all_meant tests) >>= (λ v. pure (flow.Return v))
  kind_of last small.Break = pure flow.Break
  kind_of last small.Continue = pure flow.Continue
  kind_of last small.Pass = pure flow.On
  kind_of last (small.Assign targets tests) = then_on (tests_value (all_meant tests) >>= store_in (all_meant targets))
  kind_of last (small.Augmented target op tests) =
      then_on ((meant setting call target).update (λ old. tests_value (all_meant tests) >>= operator op old))
  kind_of last (small.Tests tests) = then_on (tests_value (all_meant tests) >>= echo_if last)

  -- each statement charges 1 when it starts
  unfoldable pub small_of : Bool → Small → Course C Flow
  small_of last s = located s.line (acting (charge 1) >> kind_of last s.kind)

  abbrev pub line_of : Bool → Line → Course C Flow
  line_of last line = in_sequence small_of last line.smalls

  -- ---- statements with blocks

  -- the statements in a block, of which each does this
  abbrev pub each_of : {S : Type 0} → (S → Course C Flow) → Block S → Course C Flow
  each_of run (blocks.Inline line) = line_of false line
  each_of run (blocks.Indented all) = in_sequence (λ last s. run s) false all

  -- no statement in a block is the cell's last one, or has a number
  abbrev pub block_of : Block (Doing C) → Course C Flow
  block_of = each_of (λ s. s false None)

  abbrev pub else_of : Option (Block (Doing C)) → Course C Flow
  else_of None = pure flow.On
  else_of (Some body) = block_of body

  -- a condition, with the line of its `if`
  abbrev pub condition_of : ℕ → Expr → Course C Bool
  condition_of at e = located at ((meant setting call e).value >>= truth)

  abbrev pub branch_of : ℕ → Branch (Doing C) → Course C Flow → Course C Flow
  branch_of at branch other = condition_of at branch.condition >>= (λ t. if t then block_of branch.body else other)

  abbrev pub branches_of : ℕ → List (Branch (Doing C)) → Option (Block (Doing C)) → Course C Flow
  branches_of at [] other = else_of other
  branches_of at (branch ∷ more) other = branch_of at branch (branches_of at more other)

  -- what is iterated over, with the items
  abbrev pub iterated : List Expr → Work C (Value × List Value)
  iterated over = do
    v ← tests_value (all_meant over)
    items ← acting (items_of v)
    pure (v, items)

  -- the value's list or dict is locked while the turns run
  unfoldable pub repeated : ℕ → List Expr → Course C Flow → Value × List Value → Course C Flow
  repeated at targets body over = locking (lock_of over.0) (for_turns (λ x. located at (next_item (all_meant targets) x)) body over.1)

  -- defaults from left to right, then the new function, which the cell's name is bound to
  unfoldable pub defined : Definition (Doing C) → ℕ → Work C (Unit {0})
  defined def number = do
    defaults ← values (map (λ named. meant setting call named.value) def.defaults)
    v ← acting (new_function setting.cell number defaults)
    bind def.name v

  abbrev pub layer_of : Statement-F (Doing C) → Doing C
  layer_of (Statement-F.Line line) last number = line_of last line
  layer_of (Statement-F.If at first more other) last number = located at (acting (charge 1)) >> branches_of at (first ∷ more) other
  layer_of (Statement-F.For at targets over body) last number =
      located at (acting (charge 1) >> iterated over) >>= repeated at targets (block_of body)
  layer_of (Statement-F.Def at def) last None = located at (then_on (acting (charge 1)))
  layer_of (Statement-F.Def at def) last (Some number) = located at (then_on (acting (charge 1) >> defined def number))

  unfoldable pub statement_of : Statement → Doing C
  statement_of = fold-Statement (Doing C) layer_of

  abbrev pub body_of : Block Statement → Course C Flow
  body_of = each_of (λ s. statement_of s false None)

-- ---- calls of functions

-- a parameter: its name, and its default where it has one
abbrev pub Parameter : Type 0
Parameter = List ℕ × Option Value

abbrev pub default_names : List (Named Expr) → List Value → List Parameter
default_names [] vs = []
default_names (n ∷ ns) [] = []
default_names (n ∷ ns) (v ∷ vs) = (n.name, Some v) ∷ default_names ns vs

abbrev pub parameters_of : Definition Statement → List Value → List Parameter
parameters_of def defaults = map (λ name. (name, None)) def.required ++ default_names def.defaults defaults

-- a parameter that is filled, and the default that is used for it
abbrev pub Filled : Type 0
Filled = List ℕ × Value × Option Value

-- the values that are given by a name
abbrev pub given_by : ByName → List ℕ → List Value
given_by named name = filter_map (λ entry. if bytes_eq name entry.0 then Some entry.1 else None) named

-- a parameter that no place fills: one value by name, or the default
abbrev pub filled_by_name : Parameter → List Value → Option Filled
filled_by_name p [] = option_map (λ v. (p.0, v, Some v)) p.1
filled_by_name p (v ∷ []) = Some (p.0, v, None)
filled_by_name p _ = None

abbrev pub cons_some : {A : Type 0} → Option A → Option (List A) → Option (List A)
cons_some (Some a) (Some more) = Some (a ∷ more)
cons_some _ _ = None

-- each parameter filled once: by its place, by its name, or by its default
abbrev pub filled_from : List Parameter → List Value → ByName → Option (List Filled)
filled_from [] [] named = Some []
filled_from [] (v ∷ vs) named = None
filled_from (p ∷ ps) [] named = cons_some (filled_by_name p (given_by named p.0)) (filled_from ps [] named)
filled_from (p ∷ ps) (v ∷ vs) named = if is_empty (given_by named p.0) then cons_some (Some (p.0, v, None)) (filled_from ps vs named) else None

-- where each name that is given is a parameter's
unfoldable pub filled : List Parameter → List Value → ByName → Option (List Filled)
filled ps vs named = if list_all (λ entry. is_among (map (λ p. p.0) ps) entry.0) named then filled_from ps vs named else None

abbrev pub default_weight : Filled → ℕ
default_weight (name, v, None) = 0
default_weight (name, v, Some d) = weight d

-- the local names of a call: the parameters, and the other names that the body binds
unfoldable pub local_block : Definition Statement → List Filled → world.Block
local_block def all =
    map (λ f. (f.0, Some f.1)) all
    ++ unbound (filter (λ name. not (is_among (map (λ f. f.0) all) name)) (distinct (body_names def.body)))

-- what the body of a function gives: a body that ends without `return` gives None
abbrev pub ended : {C : Type 0} → Outcome (World C) Fault Flow → Outcome (World C) Failure Value
ended (Went flow.On w) = Went value.None w
ended (Went flow.Break w) = Went value.None w
ended (Went flow.Continue w) = Went value.None w
ended (Went (flow.Return v) w) = Went v w
ended (Failed fault w) = Failed fault.0 w

abbrev pub result_of : {C : Type 0} → Course C Flow → Work C Value
result_of body = λ w. ended (body w)

-- each default that is used charges its weight; then the body
unfoldable pub run_body : {C : Type 0} → Setting C → Callee C → Definition Statement → ℕ → List Filled → Work C Value
run_body setting call def id all = do
  acting (charge (sum (map default_weight all)))
  in_function id (local_block def all) (result_of (body_of setting call def.body))

abbrev pub run_filled : {C : Type 0} → Setting C → Callee C → Definition Statement → ℕ → Option (List Filled) → Work C Value
run_filled setting call def id None = fail failure.WrongArguments
run_filled setting call def id (Some all) = run_body setting call def id all

abbrev pub run_defined : {C : Type 0} → Setting C → Callee C → ℕ → List Value → Option (Definition Statement) → List Value → ByName → Work C Value
run_defined setting call id defaults None vs named = fail failure.WrongType
run_defined setting call id defaults (Some def) vs named = run_filled setting call def id (filled (parameters_of def defaults) vs named)

abbrev pub run_function : {C : Type 0} → Setting C → Callee C → ℕ → Option (C × ℕ × List Value) → List Value → ByName → Work C Value
run_function setting call id None vs named = fail failure.WrongType
run_function setting call id (Some parts) vs named = run_defined setting call id parts.2 (setting.define parts.0 parts.1) vs named

-- a call of a function, while so many more may become active
unfoldable pub call_to : {C : Type 0} → Setting C → ℕ → Callee C
call_to setting zero id vs named = fail failure.TooManyCalls
call_to setting (suc n) id vs named = reading (λ s. function s id) >>= (λ parts. run_function setting (call_to setting n) id parts vs named)
