-- The definition at words that are written out.
use Rattle.std.proofs.Common.{◌≡◌, [], ◌∷◌, Some, None, true, false, refl, codes}
use Rattle.clap.proofs.OnLiterals.{clap_on_literals}
use Rattle.chex_words.specs.Apps.{solo_app, run_app, make_app}
use Rattle.chex_words.specs.Numbers.{number_of}
use Rattle.chex_words.specs.Taken.{taken, value_at}
use Rattle.chex_words.specs.Words.{command_of, solo_at, run_at, make_at}
use Rattle.chex_words.specs.declared.command.Command.TheVariants.{Solo, Run}

no_words : command_of [] ≡ None
no_words = refl

unknown_command : command_of (codes "alone" ∷ codes "m.json" ∷ []) ≡ None
unknown_command = refl

no_help_flag : command_of (codes "solo" ∷ codes "a.ipynb" ∷ codes "--help" ∷ []) ≡ None
unfolding solo_app taken clap_on_literals
no_help_flag = refl

steps_given : command_of (codes "solo" ∷ codes "--steps=007" ∷ codes "a.ipynb" ∷ []) ≡ Some (Solo (record { notebook = codes "a.ipynb"; steps = 7 }))
unfolding solo_app taken solo_at value_at number_of clap_on_literals
steps_given = refl

after_dashes : command_of (codes "solo" ∷ codes "--" ∷ codes "--steps" ∷ []) ≡ Some (Solo (record { notebook = codes "--steps"; steps = 1000000 }))
unfolding solo_app taken solo_at value_at number_of clap_on_literals
after_dashes = refl

all_options : command_of (codes "run" ∷ codes "--tally" ∷ codes "--budget" ∷ codes "8192" ∷ codes "m.json" ∷ codes "--save=2" ∷ codes "--load" ∷ codes "1" ∷ codes "--block" ∷ codes "256" ∷ codes "--chain" ∷ [])
    ≡ Some (Run (record {
      manifest = codes "m.json";
      store = record { budget = 8192; block = Some 256; save = 2; load = 1 };
      steps = 1000000;
      taps = record { transcript = false; tally = true; chain = true };
    }))
unfolding run_app taken run_at value_at number_of clap_on_literals
all_options = refl

no_budget : command_of (codes "run" ∷ codes "m.json" ∷ []) ≡ None
unfolding run_app taken clap_on_literals
no_budget = refl

budget_twice : command_of (codes "run" ∷ codes "m.json" ∷ codes "--budget" ∷ codes "5" ∷ codes "--budget" ∷ codes "6" ∷ []) ≡ None
unfolding run_app taken clap_on_literals
budget_twice = refl

below_zero : command_of (codes "run" ∷ codes "m.json" ∷ codes "--budget" ∷ codes "-5" ∷ []) ≡ None
unfolding run_app taken clap_on_literals
below_zero = refl

a_sign : command_of (codes "run" ∷ codes "m.json" ∷ codes "--budget=+5" ∷ []) ≡ None
unfolding run_app taken run_at value_at number_of clap_on_literals
a_sign = refl

twenty_digits : command_of (codes "run" ∷ codes "m.json" ∷ codes "--budget=00000000000000000005" ∷ []) ≡ None
unfolding run_app taken run_at value_at number_of clap_on_literals
twenty_digits = refl

too_many_cells : command_of (codes "make" ∷ codes "0" ∷ codes "64" ∷ codes "9" ∷ codes "--budget" ∷ codes "5" ∷ []) ≡ None
unfolding make_app taken make_at value_at number_of clap_on_literals
too_many_cells = refl
