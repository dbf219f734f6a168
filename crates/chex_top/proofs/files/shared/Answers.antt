use Rattle.std.proofs.lemmas.Result.{err_from_is_err_and}
use Rattle.chex_top.specs.Files.{shared_at}
use Rattle.chex_top.proofs.ReadLemmas.{shared_refused, versions_refused, versions_read, handed_on}
use Rattle.chex_top.proofs.files.shared.Goals as goal

pub returns-in_err-manifest-clause-read : goal.returns-in_err-manifest-clause-read
returns-in_err-manifest-clause-read g c =
    let view = g.L.Library.files c.args.library.now in
    let p = err_from_is_err_and c.from_residual.result c.from_residual.ensures.1 in
    handed_on view (λ t. shared_at t c.args.name.now c.args.budget c.args.steps) c.from_residual.result p.0 c.in_err-manifest.field-0.0 p.1 p.2
    (shared_refused view c.args.name.now c.args.budget c.args.steps c.in_err-manifest.field-0.0 c.in_err-manifest.ensures.read)

pub returns-in_err-versions-clause-read : goal.returns-in_err-versions-clause-read
returns-in_err-versions-clause-read g c =
    let view = g.L.Library.files c.args.library.now in
    let p = err_from_is_err_and c.from_residual-in_err-versions.result c.from_residual-in_err-versions.ensures.1 in
    handed_on view (λ t. shared_at t c.args.name.now c.args.budget c.args.steps) c.from_residual-in_err-versions.result p.0 c.in_err-versions.field-0.0 p.1 p.2
    (versions_refused view c.args.name.now c.args.budget c.args.steps _ c.in_ok-manifest.manifest c.as_slice.result.now c.in_err-versions.field-0.0 c.in_ok-manifest.ensures.files c.as_slice.ensures
    c.in_ok-manifest.ensures.read c.in_err-versions.ensures.read)

pub returns-clause-read : goal.returns-clause-read
returns-clause-read g c =
    versions_read (g.L.Library.files c.args.library.now) c.args.name.now c.args.budget c.args.steps _ c.in_ok-manifest.manifest c.as_slice.result.now c.in_ok-versions.versions
    c.in_ok-manifest.ensures.files c.as_slice.ensures c.in_ok-manifest.ensures.read c.in_ok-versions.ensures.read
