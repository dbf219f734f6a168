use Rattle.std.proofs.lemmas.Result.{err_from_is_err_and}
use Rattle.chex_top.specs.Files.{version_at}
use Rattle.chex_top.proofs.ReadLemmas.{version_refused, version_inputs_refused, version_read, handed_on}
use Rattle.chex_top.proofs.files.version_in.Goals as goal

pub returns-in_err-sources-clause-read : goal.returns-in_err-sources-clause-read
returns-in_err-sources-clause-read g c =
    let view = g.L.Library.files c.args.library.now in
    let p = err_from_is_err_and c.from_residual.result c.from_residual.ensures.1 in
    handed_on view (λ t. version_at t c.args.entry.now) c.from_residual.result p.0 c.in_err-sources.field-0.0 p.1 p.2
    (version_refused view c.args.entry.now c.in_err-sources.field-0.0 c.in_err-sources.ensures.read)

pub returns-in_err-inputs-clause-read : goal.returns-in_err-inputs-clause-read
returns-in_err-inputs-clause-read g c =
    let view = g.L.Library.files c.args.library.now in
    let p = err_from_is_err_and c.from_residual-in_err-inputs.result c.from_residual-in_err-inputs.ensures.1 in
    handed_on view (λ t. version_at t c.args.entry.now) c.from_residual-in_err-inputs.result p.0 c.in_err-inputs.field-0.0 p.1 p.2
    (version_inputs_refused view _ c.args.entry.now c.in_ok-sources.sources c.in_err-inputs.field-0.0 c.in_ok-sources.ensures.files c.in_ok-sources.ensures.read c.in_err-inputs.ensures.read)

pub returns-clause-read : goal.returns-clause-read
returns-clause-read g c =
    rw c.in_ok-copy.ensures (version_read (g.L.Library.files c.args.library.now) _ c.args.entry.now c.in_ok-sources.sources c.in_ok-inputs.inputs
    c.in_ok-sources.ensures.files c.in_ok-sources.ensures.read c.in_ok-inputs.ensures.read)
