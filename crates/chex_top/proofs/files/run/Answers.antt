use Rattle.chex_top.proofs.ReadLemmas.{run_read, run_refused}
use Rattle.chex_top.proofs.files.run.Goals as goal

pub returns-in-Ok-clause-read : goal.returns-in-Ok-clause-read
returns-in-Ok-clause-read g c =
    run_read (g.L.Library.files c.args.library.now) c.args.words.now c.in-Ok.budget c.shared.result c.in-Ok.ensures.value c.shared.ensures.read

pub returns-in-Err-clause-read : goal.returns-in-Err-clause-read
returns-in-Err-clause-read g c =
    run_refused (g.L.Library.files c.args.library.now) c.args.words.now c.in-Err.refusal c.in-Err.ensures.value
