use Rattle.std.proofs.Common.{arith, ◌∙◌, ◌∷◌, [], ◌+◌, length-append, ap, refl}
use Rattle.std.proofs.lemmas.Result.{err_from_is_err_and}
use Rattle.chex_top.specs.Files.{versions_at}
use Rattle.chex_top.proofs.ReadLemmas.{onward_first, onward_more, onward_refused, onward_last, handed_on}
use Rattle.chex_top.proofs.CellLemmas.{one_more_small}
use Rattle.chex_top.proofs.files.all_versions.Goals as goal

pub loop-entry-init : goal.loop-entry-init
loop-entry-init g c = record {
  read = rw c.new-versions.ensures (onward_first (g.L.Library.files c.args.library.now) c.args.entries.now);
  files = refl;
  absences = omega arith;
  faults = omega arith;
  short = rw c.new-versions.ensures tt;
  count = rw c.new-versions.ensures refl;
  within = omega arith;
}

pub returns-in_err-version-clause-read : goal.returns-in_err-version-clause-read
returns-in_err-version-clause-read g c =
    let view = g.L.Library.files c.args.library.now in
    let p = err_from_is_err_and c.from_residual.result c.from_residual.ensures.1 in
    handed_on view (λ t. versions_at t c.args.entries.now) c.from_residual.result p.0 c.in_err-version.field-0.0 p.1 p.2
    (onward_refused view _ c.loop-entry.versions c.loop-entry.entry-index c.args.entries.now c.entry-item.result c.in_err-version.field-0.0 c.loop-entry-test.true c.entry-item.is
    c.loop-entry.invariant.files c.loop-entry.invariant.read c.in_err-version.ensures.read)

pub loop-entry-preserved : goal.loop-entry-preserved
loop-entry-preserved g c = record {
  read = rw c.in_ok-add.ensures.ok (onward_more (g.L.Library.files c.args.library.now) _ c.loop-entry.versions c.loop-entry.entry-index c.args.entries.now c.entry-item.result c.in_ok-version.version
      c.loop-entry-test.true c.entry-item.is c.loop-entry.invariant.files c.loop-entry.invariant.read c.in_ok-version.ensures.read);
  files = c.in_ok-version.ensures.files ∙ c.loop-entry.invariant.files;
  absences = omega (arith, c.in_ok-version.ensures.later.0, c.loop-entry.invariant.absences);
  faults = omega (arith, c.in_ok-version.ensures.later.1, c.loop-entry.invariant.faults);
  short = rw c.in_ok-add.ensures.ok (one_more_small c.loop-entry.versions c.in_ok-version.version c.loop-entry.invariant.short c.in_ok-version.ensures.short);
  count = rw c.in_ok-add.ensures.ok (length-append c.loop-entry.versions (c.in_ok-version.version ∷ []) ∙ ap (λ n. n + 1) c.loop-entry.invariant.count);
  within = omega (arith, c.loop-entry-test.true);
}

pub returns-clause-read : goal.returns-clause-read
returns-clause-read g c =
    onward_last (g.L.Library.files c.args.library.now) c.loop-entry.versions c.loop-entry.entry-index c.args.entries.now (omega arith) c.loop-entry.invariant.read

pub returns-clause-few : goal.returns-clause-few
returns-clause-few g c = omega (arith, c.loop-entry.invariant.count, c.loop-entry.invariant.within, c.requires)
