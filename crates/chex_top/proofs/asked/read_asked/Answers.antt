use Rattle.std.proofs.Common.{◌∙◌, Some, ap, map, string_bytes}
use Rattle.chex_top.proofs.WordLemmas.{run_within, solo_within}
use Rattle.chex_top.proofs.asked.read_asked.Goals as goal

pub returns-in-Ok-Solo-clause-within : goal.returns-in-Ok-Solo-clause-within
returns-in-Ok-Solo-clause-within c = solo_within (map string_bytes c.args.words.now) c.in-Ok-Solo.words (c.in-Ok-Solo.ensures ∙ ap Some c.in-Ok-Solo.field-0-is)

pub returns-in-Ok-Run-clause-within : goal.returns-in-Ok-Run-clause-within
returns-in-Ok-Run-clause-within c = run_within (map string_bytes c.args.words.now) c.in-Ok-Run.words (c.in-Ok-Run.ensures ∙ ap Some c.in-Ok-Run.field-0-is)
