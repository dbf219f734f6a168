-- The commands as values of clap's own meaning.
use Rattle.std.specs.Prelude.{true, Some, codes}
use Rattle.clap.specs.Words.{App, Rule, Text, new_app, new_rule, with_rule}
use Rattle.clap.specs.Simple.{on_top}
use Rattle.clap.specs.declared.builder.action.ArgAction.TheVariants.{SetTrue}

-- a command with no argument, no help and no version, whose words come without a program's name
abbrev pub bare : Text → App
bare name = on_top (λ s. record s {
  no_binary_name = true;
  disable_help_flag = true;
  disable_version_flag = true;
}) (new_app name)

abbrev pub positional : Text → Rule
positional id = record (new_rule id) { required = true }

abbrev pub an_option : Text → Rule
an_option id = record (new_rule id) { long = Some id }

abbrev pub needed : Text → Rule
needed id = record (new_rule id) { long = Some id; required = true }

abbrev pub flag : Text → Rule
flag id = record (new_rule id) { long = Some id; action = Some SetTrue }

-- `--budget BYTES [--block B] [--save P] [--load Q]`
abbrev pub with_store : App → App
with_store app = with_rule (with_rule (with_rule (with_rule app (needed (codes "budget"))) (an_option (codes "block"))) (an_option (codes "save")))
    (an_option (codes "load"))

-- `[--transcript] [--tally] [--chain]`
abbrev pub with_taps : App → App
with_taps app = with_rule (with_rule (with_rule app (flag (codes "transcript"))) (flag (codes "tally"))) (flag (codes "chain"))

-- `solo NOTEBOOK [--steps N]`
unfoldable pub solo_app : App
solo_app = with_rule (with_rule (bare (codes "solo")) (positional (codes "notebook"))) (an_option (codes "steps"))

-- `run MANIFEST --budget BYTES [--block B] [--save P] [--load Q] [--steps N] [--transcript] [--tally] [--chain]`
unfoldable pub run_app : App
run_app = with_taps (with_rule (with_store (with_rule (bare (codes "run")) (positional (codes "manifest")))) (an_option (codes "steps")))

-- `plan RECORD --budget BYTES [--block B] [--save P] [--load Q]`
unfoldable pub plan_app : App
plan_app = with_store (with_rule (bare (codes "plan")) (positional (codes "record")))

-- `audit MANIFEST [--steps N]`
unfoldable pub audit_app : App
audit_app = with_rule (with_rule (bare (codes "audit")) (positional (codes "manifest"))) (an_option (codes "steps"))

-- `replay MANIFEST RECORD --budget BYTES [--block B] [--save P] [--load Q] [--transcript] [--tally] [--chain]`
unfoldable pub replay_app : App
replay_app = with_taps (with_store (with_rule (with_rule (bare (codes "replay")) (positional (codes "manifest"))) (positional (codes "record"))))

-- `check RECORD PLAN --budget BYTES [--block B] [--save P] [--load Q]`
unfoldable pub check_app : App
check_app = with_store (with_rule (with_rule (bare (codes "check")) (positional (codes "record"))) (positional (codes "plan")))

-- `make SEED VERSIONS CELLS --budget BYTES [--block B] [--save P] [--load Q] [--transcript] [--tally] [--chain]`
unfoldable pub make_app : App
make_app = with_taps (with_store (with_rule (with_rule (with_rule (bare (codes "make")) (positional (codes "seed"))) (positional (codes "versions")))
    (positional (codes "cells"))))
