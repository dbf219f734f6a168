use Rattle.std.proofs.lemmas.Result.{err_from_is_err_and}
use Rattle.chex_top.specs.Files.{file_at}
use Rattle.chex_top.proofs.ReadLemmas.{file_read, file_refused, file_stops, handed_on}
use Rattle.chex_top.proofs.files.file.Goals as goal

pub returns-in_err-bytes-clause-read : goal.returns-in_err-bytes-clause-read
unfolding file_at
returns-in_err-bytes-clause-read g c =
    let p = err_from_is_err_and c.from_residual.result c.from_residual.ensures.1 in
    handed_on (g.L.Library.files c.args.library.now) (λ t. file_at g.F.Format.reading t c.args.name.now) c.from_residual.result p.0 c.in_err-bytes.field-0.0 p.1 p.2
    (file_stops (g.L.Library.files c.args.library.now) c.args.name.now g.F.Format.reading c.in_err-bytes.field-0.0 c.in_err-bytes.ensures.refused)

pub returns-in-Ok-clause-read : goal.returns-in-Ok-clause-read
unfolding file_at
returns-in-Ok-clause-read g c =
    file_read (g.L.Library.files c.args.library.now) c.args.name.now c.deref.result.now g.F.Format.reading c.in-Ok.held (rw c.deref.ensures.value c.in_ok-bytes.ensures.found) c.in-Ok.ensures.read

pub returns-clause-read : goal.returns-clause-read
unfolding file_at
returns-clause-read g c =
    file_refused (g.L.Library.files c.args.library.now) c.args.name.now c.deref.result.now g.F.Format.reading c.in-Err.fault c.bad_file.result (rw c.deref.ensures.value c.in_ok-bytes.ensures.found) c.in-Err.ensures.read c.bad_file.ensures
