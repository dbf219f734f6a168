-- How deep calls nest.
use Rattle.std.proofs.Common.{◌≡◌, ℕ, suc, zero, ◌+◌, ◌<◌, ◌-◌, List, length, refl, ap, arith, length-append}
use Rattle.star_syntax.specs.CellParts.{CellParts}
use Rattle.star_value.specs.declared.failure.Failure.TheVariants as failure
use Rattle.star_value.specs.declared.value.Value.{Value}
use Rattle.star_meaning.specs.State.{function}
use Rattle.chex_base.specs.declared.input.Input.{Input}
use Rattle.star_meaning.specs.Cells.{Shown, ran, ran_of, run, shown_setting, statements_from}
use Rattle.star_meaning.specs.Steps.{Failed}
use Rattle.star_meaning.specs.Builtins.{ByName}
use Rattle.star_meaning.specs.World.{World, start}
use Rattle.star_meaning.specs.Expressions.{Setting}
use Rattle.star_meaning.specs.Statements.{call_to, run_function}
use Rattle.star_meaning.specs.Laws.{CallsAreFew}

last_call : (setting : Setting CellParts) (n id : ℕ) (vs : List Value) (named : ByName) (w : World CellParts) → length w.frame.active + n ≡ 32 → length w.frame.active ≡ 32
    → call_to setting n id vs named w ≡ Failed failure.TooManyCalls w
unfolding call_to
last_call setting zero id vs named w h k = refl
last_call setting (suc n) id vs named w h k = absurd (omega (arith, h, k))

other_call : (setting : Setting CellParts) (n id : ℕ) (vs : List Value) (named : ByName) (w : World CellParts) → length w.frame.active + n ≡ 32 → length w.frame.active < 32
    → call_to setting n id vs named w ≡ run_function setting (call_to setting (n - 1)) id (function w.store.state id) vs named w
unfolding call_to
other_call setting zero id vs named w h k = absurd (omega (arith, h, k))
other_call setting (suc n) id vs named w h k =
    let same : n ≡ suc n - 1 = omega arith in ap (λ k. run_function setting (call_to setting k) id (function w.store.state id) vs named w) same

cell_runs : (s : Shown) (cell : CellParts) (inputs : List (List ℕ × Input)) (allowance : ℕ)
    → ran s cell inputs allowance ≡ ran_of allowance (statements_from (shown_setting cell inputs) (call_to (shown_setting cell inputs) 32) 0 cell.«module».statements (start s (allowance - 1)))
unfolding ran run
cell_runs s cell inputs allowance = refl

pub calls_are_few : CallsAreFew
calls_are_few = record {
  start_fits = λ s left. refl;
  cell_runs = cell_runs;
  body_fits = λ id n block f h. simp length-append (omega (arith, h));
  last_fails = last_call;
  others_run = other_call;
}
