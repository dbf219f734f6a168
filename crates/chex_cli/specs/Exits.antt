-- The exit status of the program.
use Rattle.std.specs.Prelude.{◌≡◌, ℕ, List, None}
use Rattle.chex_base.specs.Numbers.{number_of}
use Rattle.chex_base.specs.declared.status.Status.{Status}
use Rattle.chex_base.specs.declared.status.Status.TheVariants as ended
use Rattle.chex_top.specs.Ends.{Yields}
use Rattle.chex_top.specs.Words.{asked_of}

-- it is the number of the status with which the call ended, and that is the one of words that are no command where they are none
abbrev pub IsExit : List (List ℕ) → ℕ → Type 0
IsExit words code = (status : Status) × (code ≡ number_of status) × (asked_of words ≡ None → Yields ended.Usage status)
