-- A function value that calls functions of the program, while so many more calls may become active.
use Rattle.std.specs.Prelude.{◌≡◌, ℕ, List, map, Result, IsTrue, IfOk, slice_get}
use Rattle.std.specs.declared.alloc.Global.{Global}
use Rattle.std.specs.Borrow.{Bor, MutBor}
use Rattle.star_builtins.specs.declared.call.Call.{Call}
use Rattle.star_builtins.specs.Reached.{AllFit, Fits}
use Rattle.star_meaning.specs.Steps.{Gives}
use Rattle.star_meaning.specs.Validity.{MachineState, is_function}
use Rattle.star_value.specs.declared.stop.Stop.{Stop}
use Rattle.star_value.specs.declared.value.Value.{Value}
use Rattle.star_run.specs.declared.given.Given.{Given}
use Rattle.star_run.specs.Fixed.{callee, fixed}
use Rattle.star_run.specs.Running.{Goes, Running, world}

-- a call of a function, with arguments that may stand in the machine
pub record Callable (m : MachineState) (id : ℕ) (call : Call) : Type 0 where
  pub function : IsTrue (is_function (slice_get m.state.objects id))
  pub positional : AllFit m call.positional
  pub named : AllFit m (map (λ entry. entry.1) call.named)

pub record Nests (depth : ℕ) (pre : Global → Bor Given → ℕ → MutBor Running → ℕ → Call → Type 0)
    (post : Global → Bor Given → ℕ → MutBor Running → ℕ → Call → Result Value Stop → MutBor Running → Type 0) : Type 0 where
  pub callable : (alloc : Global) (given : Bor Given) (run : MutBor Running) (id : ℕ) (call : Call) → Callable run.now.machine id call → pre alloc given depth run id call
  pub gives : (alloc : Global) (given : Bor Given) (run after : MutBor Running) (id : ℕ) (call : Call) (r : Result Value Stop) → post alloc given depth run id call r after
      → Gives (callee (fixed given.now) depth id call.positional call.named (world run.now)) r (world after.now)
  pub goes : (alloc : Global) (given : Bor Given) (run after : MutBor Running) (id : ℕ) (call : Call) (r : Result Value Stop) → post alloc given depth run id call r after → Goes run.now after.now
  pub fits : (alloc : Global) (given : Bor Given) (run after : MutBor Running) (id : ℕ) (call : Call) (r : Result Value Stop) → post alloc given depth run id call r after → IfOk r (λ v. Fits after.now.machine v)
