use Rattle.std.proofs.Common.{◌∙◌, inr, refl}
use Rattle.clap.specs.Words.{app_of}
use Rattle.chex_words.proofs.TakenLemmas.{rows_taken, none_taken}
use Rattle.chex_words.proofs.matched.matched.Goals as goal

pub returns-in-Ok : goal.returns-in-Ok
returns-in-Ok c = rows_taken (app_of c.args.command) _ c.in-Ok.matches c.requires.simple c.requires.free c.in-Ok.ensures.matches c.in-Ok.ensures.kinds

pub returns : goal.returns
returns c = inr (
  refl,
  none_taken (app_of c.args.command) _ c.in-Err.error c.requires.free c.in-Err.ensures.kinds
      (λ memory. c.in_default.not-OutOfMemory (c.kind-kind.ensures ∙ memory)),
)
