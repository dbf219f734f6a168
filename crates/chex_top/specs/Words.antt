-- The words after the program's name, each as the bytes of its text.
use Rattle.std.specs.Prelude.{◌≤◌, ℕ, List, Option, Some, None, option_and_then}
use Rattle.chex_words.specs.declared.command.Command.{Command}
use Rattle.chex_words.specs.declared.command.Command.TheVariants as known
use Rattle.chex_words.specs.Words.{command_of}
use Rattle.chex_top.specs.declared.asked.Asked.{Asked}
use Rattle.chex_top.specs.declared.asked.Asked.TheVariants.{Solo, Run}
use Rattle.chex_top.specs.Budgets.{IsStore}

-- the commands that are carried out; no other one is
abbrev pub carried : Command → Option Asked
carried (known.Solo words) = Some (Solo words)
carried (known.Run words) = Some (Run words)
carried (known.Audit words) = None
carried (known.Replay words) = None
carried (known.Plan words) = None
carried (known.Check words) = None
carried (known.Make words) = None

-- what the words ask for
unfoldable pub asked_of : List (List ℕ) → Option Asked
asked_of words = option_and_then carried (command_of words)

-- ---- limits

-- how many steps a cell may take
abbrev pub IsAllowance : ℕ → Type 0
IsAllowance steps = (1 ≤ steps) × (steps ≤ 1000000)

-- what the words of a command say is within the limits
abbrev pub IsWithin : Asked → Type 0
IsWithin (Solo words) = IsAllowance words.steps
IsWithin (Run words) = IsAllowance words.steps × IsStore words.store
