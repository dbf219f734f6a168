-- Taking steps.
use Rattle.std.specs.Prelude.{ℕ, ◌-◌, nat_lt, if◌then◌else◌, Result, Ok, Err}
use Rattle.star_value.specs.declared.failure.Failure.{Failure}
use Rattle.star_value.specs.declared.failure.Failure.TheVariants.{StepLimit}

-- whether so many steps may be taken of those that are left, and what is left then
abbrev pub charged : ℕ → ℕ → Result (Unit {0}) Failure × ℕ
charged left count = if nat_lt left count then (Err StepLimit, 0) else (Ok tt, left - count)
