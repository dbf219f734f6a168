-- What blocks of statements mean whose statements are trees.
use Rattle.std.specs.Prelude.{ℕ, false, if◌then◌else◌, List, [], ◌∷◌, Option, Some, None}
use Rattle.star_syntax.specs.declared.expression.Expr.{Expr}
use Rattle.star_syntax.specs.declared.operator.BinaryOp.{BinaryOp}
use Rattle.star_syntax.specs.declared.statement.Block.{Block}
use Rattle.star_syntax.specs.declared.statement.Branch.{Branch}
use Rattle.star_syntax.specs.declared.statement.Statement.{Statement}
use Rattle.star_value.specs.declared.value.Value.{Value}
use Rattle.star_meaning.specs.declared.flow.Flow.{Flow}
use Rattle.star_meaning.specs.declared.flow.Flow.TheVariants as flow
use Rattle.star_meaning.specs.Steps.{charge, pure, ◌>>=◌, ◌>>◌}
use Rattle.star_meaning.specs.World.{Course, Work, acting, located}
use Rattle.star_meaning.specs.Expressions.{Callee, Setting, next_item}
use Rattle.star_meaning.specs.Statements.{body_of, condition_of, in_sequence, iterated, operator, statement_of}
use Rattle.star_run.specs.Fixed.{Fixed, callee, setting}
use Rattle.star_run.specs.Parts.{meanings, tests}

module _ {C : Type 0} (set : Setting C) (call : Callee C) where
  -- what stands after `else`
  abbrev pub otherwise : Option (Block Statement) → Course C Flow
  otherwise None = pure flow.On
  otherwise (Some body) = body_of set call body

  -- the first branch whose condition holds
  abbrev pub branches_from : ℕ → List (Branch Statement) → Option (Block Statement) → Course C Flow
  branches_from at [] other = otherwise other
  branches_from at (branch ∷ more) other = condition_of set call at branch.condition >>= (λ t. if t then body_of set call branch.body else branches_from at more other)

  -- statements in a block, of which none is the cell's last or has a number
  abbrev pub in_block : List Statement → Course C Flow
  in_block all = in_sequence (λ last s. statement_of set call s false None) false all

  -- what a `for` goes over, with its items, after the step of the statement
  abbrev pub iterated_at : ℕ → List Expr → Course C (Value × List Value)
  iterated_at at over = located at (acting (charge 1) >> iterated set call over)

-- how a `for` ends after a turn, where no other turn follows
abbrev pub turn_end : Flow → Option Flow
turn_end flow.On = None
turn_end flow.Continue = None
turn_end flow.Break = Some flow.On
turn_end (flow.Return v) = Some (flow.Return v)

module _ (g : Fixed) (depth : ℕ) where
  -- what the operator of `p op= t` makes of the old value
  abbrev pub operated : BinaryOp → List Expr → Value → Work ℕ Value
  operated op ts old = tests g depth ts >>= operator (setting g) (callee g depth) op old

  -- the start of a turn, with the line of its `for` at a failure
  abbrev pub next_at : ℕ → List Expr → Value → Course ℕ (Unit {0})
  next_at at targets x = located at (next_item (meanings g depth targets) x)
