-- The laws of what stays while a cell runs.
use Rattle.std.proofs.Common.{ℕ, ◌-◌, ◌≤◌, arith}
use Rattle.star_syntax.specs.CellParts.{CellParts}
use Rattle.star_meaning.specs.declared.flow.Flow.{Flow}
use Rattle.star_meaning.specs.Steps.{Outcome, Went, Failed}
use Rattle.star_meaning.specs.World.{Fault, World, start}
use Rattle.star_meaning.specs.Statements.{call_to}
use Rattle.star_meaning.specs.Cells.{ran, ran_of, run, shown_setting, statements_from}
use Rattle.star_meaning.specs.Growing.{reached}
use Rattle.star_meaning.specs.Laws.{CellsTakeSteps, FramesComeBack, StepsAreSpent, WhatIsLockedStays}
use Rattle.star_meaning.proofs.Leading.{body_leads, call_leads, statement_leads, statements_leads, store_leads, value_leads}

spent : (C : Type 0) → StepsAreSpent C
spent C = record {
  value = λ st n e w. (value_leads st n e w).later.spent;
  store = λ st n e v w. (store_leads st n e v w).later.spent;
  statement = λ st n s last number w. (statement_leads st n s last number w).later.spent;
  body = λ st n b w. (body_leads st n b w).later.spent;
  call = λ st n id vs named w. (call_leads st n id vs named w).later.spent;
}

locked : (C : Type 0) → WhatIsLockedStays C
locked C = record {
  value = λ st n e w. (value_leads st n e w).later.held;
  store = λ st n e v w. (store_leads st n e v w).later.held;
  statement = λ st n s last number w. (statement_leads st n s last number w).later.held;
  body = λ st n b w. (body_leads st n b w).later.held;
  call = λ st n id vs named w. (call_leads st n id vs named w).later.held;
}

back : (C : Type 0) → FramesComeBack C
back C = record {
  value = λ st n e w. (value_leads st n e w).back;
  store = λ st n e v w. (store_leads st n e v w).back;
  statement = λ st n s last number w. (statement_leads st n s last number w).back;
  body = λ st n b w. (body_leads st n b w).back;
  call = λ st n id vs named w. (call_leads st n id vs named w).back;
}

pub spent_shown : StepsAreSpent CellParts
spent_shown = spent CellParts

pub spent_numbered : StepsAreSpent ℕ
spent_numbered = spent ℕ

pub locked_shown : WhatIsLockedStays CellParts
locked_shown = locked CellParts

pub locked_numbered : WhatIsLockedStays ℕ
locked_numbered = locked ℕ

pub back_shown : FramesComeBack CellParts
back_shown = back CellParts

pub back_numbered : FramesComeBack ℕ
back_numbered = back ℕ

taken : (allowance : ℕ) (o : Outcome (World CellParts) Fault Flow) → 1 ≤ allowance → (reached o).store.left ≤ allowance - 1
    → (1 ≤ (ran_of allowance o).0.steps) × ((ran_of allowance o).0.steps ≤ allowance)
taken allowance (Went f w) few h = (omega (arith, few, h), omega (arith, few, h))
taken allowance (Failed e w) few h = (omega (arith, few, h), omega (arith, few, h))

pub cells_take_steps : CellsTakeSteps
unfolding ran run
cells_take_steps s cell inputs allowance few =
    let st = shown_setting cell inputs in
    taken allowance (statements_from st (call_to st 32) 0 cell.«module».statements (start s (allowance - 1))) few (statements_leads st 32 0 cell.«module».statements (start s (allowance - 1))).later.spent
