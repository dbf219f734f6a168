use Rattle.std.proofs.lemmas.Result.{err_from_is_err_and}
use Rattle.chex_top.specs.Files.{solo_at}
use Rattle.chex_top.proofs.ReadLemmas.{solo_refused, solo_read, handed_on}
use Rattle.chex_top.proofs.files.solo.Goals as goal

pub returns-in_err-sources-clause-read : goal.returns-in_err-sources-clause-read
returns-in_err-sources-clause-read g c =
    let view = g.L.Library.files c.args.library.now in
    let p = err_from_is_err_and c.from_residual.result c.from_residual.ensures.1 in
    handed_on view (λ t. solo_at t c.args.words.now) c.from_residual.result p.0 c.in_err-sources.field-0.0 p.1 p.2
    (solo_refused view c.args.words.now c.in_err-sources.field-0.0 c.in_err-sources.ensures.read)

pub returns-clause-read : goal.returns-clause-read
returns-clause-read g c =
    rw c.in_ok-version.ensures (solo_read (g.L.Library.files c.args.library.now) c.args.words.now c.in_ok-sources.sources c.in_ok-sources.ensures.read)
