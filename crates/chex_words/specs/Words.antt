-- The command that the words after the program's name are.
use Rattle.std.specs.Prelude.{ℕ, ◌*◌, nat_lt, List, [], ◌∷◌, Option, Some, None, codes, bytes_eq, if◌then◌else◌, option_map, option_and_then}
use Rattle.std.specs.Str.{chars}
use Rattle.clap.specs.Words.{Row, Text}
use Rattle.chex_words.specs.Apps.{solo_app, run_app, audit_app, replay_app, plan_app, check_app, make_app}
use Rattle.chex_words.specs.Numbers.{number_of, number_within, number_or, optional_number}
use Rattle.chex_words.specs.Taken.{taken, value_at, flag_at}
use Rattle.chex_words.specs.declared.command.Command.{Command}
use Rattle.chex_words.specs.declared.command.Command.TheVariants.{Solo, Run, Audit, Replay, Plan, Check, Make}
use Rattle.chex_words.specs.declared.command.SoloWords.{SoloWords}
use Rattle.chex_words.specs.declared.command.RunWords.{RunWords}
use Rattle.chex_words.specs.declared.command.AuditWords.{AuditWords}
use Rattle.chex_words.specs.declared.command.ReplayWords.{ReplayWords}
use Rattle.chex_words.specs.declared.command.PlanWords.{PlanWords}
use Rattle.chex_words.specs.declared.command.CheckWords.{CheckWords}
use Rattle.chex_words.specs.declared.command.MakeWords.{MakeWords}
use Rattle.chex_words.specs.declared.command.StoreWords.{StoreWords}
use Rattle.chex_words.specs.declared.command.TapWords.{TapWords}

-- N, 1 to 1,000,000, and 1,000,000 where it is not given
abbrev pub steps_at : List Row → Option ℕ
steps_at rows = number_or 1000000 1 1000000 (value_at (codes "steps") rows)

-- a price, 0 to 1,000,000, and 0 where it is not given
abbrev pub price_at : Text → List Row → Option ℕ
price_at id rows = number_or 0 0 1000000 (value_at id rows)

abbrev pub store_at : List Row → Option StoreWords
store_at rows =
    option_and_then (λ budget.
    option_and_then (λ block.
    option_and_then (λ save.
    option_map (λ load. record { budget = budget; block = block; save = save; load = load })
    (price_at (codes "load") rows))
    (price_at (codes "save") rows))
    (optional_number 256 1048576 (value_at (codes "block") rows)))
    (option_and_then number_of (value_at (codes "budget") rows))

abbrev pub taps_at : List Row → TapWords
taps_at rows = record { transcript = flag_at (codes "transcript") rows; tally = flag_at (codes "tally") rows; chain = flag_at (codes "chain") rows }

unfoldable pub solo_at : List Row → Option SoloWords
solo_at rows =
    option_and_then (λ notebook.
    option_map (λ steps. record { notebook = chars notebook; steps = steps })
    (steps_at rows))
    (value_at (codes "notebook") rows)

unfoldable pub run_at : List Row → Option RunWords
run_at rows =
    option_and_then (λ manifest.
    option_and_then (λ store.
    option_map (λ steps. record { manifest = chars manifest; store = store; steps = steps; taps = taps_at rows })
    (steps_at rows))
    (store_at rows))
    (value_at (codes "manifest") rows)

unfoldable pub plan_at : List Row → Option PlanWords
plan_at rows =
    option_and_then (λ file.
    option_map (λ store. record { record_file = chars file; store = store })
    (store_at rows))
    (value_at (codes "record") rows)

unfoldable pub audit_at : List Row → Option AuditWords
audit_at rows =
    option_and_then (λ manifest.
    option_map (λ steps. record { manifest = chars manifest; steps = steps })
    (steps_at rows))
    (value_at (codes "manifest") rows)

unfoldable pub replay_at : List Row → Option ReplayWords
replay_at rows =
    option_and_then (λ manifest.
    option_and_then (λ file.
    option_map (λ store. record { manifest = chars manifest; record_file = chars file; store = store; taps = taps_at rows })
    (store_at rows))
    (value_at (codes "record") rows))
    (value_at (codes "manifest") rows)

unfoldable pub check_at : List Row → Option CheckWords
check_at rows =
    option_and_then (λ file.
    option_and_then (λ plan.
    option_map (λ store. record { record_file = chars file; plan_file = chars plan; store = store })
    (store_at rows))
    (value_at (codes "plan") rows))
    (value_at (codes "record") rows)

-- numbers of versions and of cells are 1 to 64, and their product is at most 512
abbrev pub made : ℕ → ℕ → ℕ → StoreWords → TapWords → Option MakeWords
made seed versions cells store taps =
    if nat_lt 512 (versions * cells) then None
    else Some (record { seed = seed; versions = versions; cells = cells; store = store; taps = taps })

unfoldable pub make_at : List Row → Option MakeWords
make_at rows =
    option_and_then (λ seed.
    option_and_then (λ versions.
    option_and_then (λ cells.
    option_and_then (λ store. made seed versions cells store (taps_at rows))
    (store_at rows))
    (option_and_then (number_within 1 64) (value_at (codes "cells") rows)))
    (option_and_then (number_within 1 64) (value_at (codes "versions") rows)))
    (option_and_then number_of (value_at (codes "seed") rows))

abbrev pub solo_of : List Text → Option SoloWords
solo_of words = option_and_then solo_at (taken solo_app words)

abbrev pub run_of : List Text → Option RunWords
run_of words = option_and_then run_at (taken run_app words)

abbrev pub plan_of : List Text → Option PlanWords
plan_of words = option_and_then plan_at (taken plan_app words)

abbrev pub audit_of : List Text → Option AuditWords
audit_of words = option_and_then audit_at (taken audit_app words)

abbrev pub replay_of : List Text → Option ReplayWords
replay_of words = option_and_then replay_at (taken replay_app words)

abbrev pub check_of : List Text → Option CheckWords
check_of words = option_and_then check_at (taken check_app words)

abbrev pub make_of : List Text → Option MakeWords
make_of words = option_and_then make_at (taken make_app words)

-- the first word names the command, and clap reads the others
abbrev pub command_of : List Text → Option Command
command_of [] = None
command_of (name ∷ words) =
    if bytes_eq name (codes "solo") then option_map Solo (solo_of words)
    else (if bytes_eq name (codes "run") then option_map Run (run_of words)
    else (if bytes_eq name (codes "audit") then option_map Audit (audit_of words)
    else (if bytes_eq name (codes "replay") then option_map Replay (replay_of words)
    else (if bytes_eq name (codes "plan") then option_map Plan (plan_of words)
    else (if bytes_eq name (codes "check") then option_map Check (check_of words)
    else (if bytes_eq name (codes "make") then option_map Make (make_of words)
    else None))))))
