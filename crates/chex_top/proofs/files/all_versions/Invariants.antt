use Rattle.std.proofs.Common.{◌≡◌, ◌≤◌, drop, length, List}
use Rattle.std.specs.Prelude.{IfSome, Result}
use Rattle.chex_top.specs.declared.version.Version.{Version}
use Rattle.chex_top.specs.declared.refusal.Refusal.{Refusal}
use Rattle.chex_top.specs.Files.{versions_at}
use Rattle.chex_top.specs.Jobs.{AreSmall}
use Rattle.chex_top.specs.Reads.{Answers}
use Rattle.chex_top.proofs.ReadLemmas.{prepend}
use Rattle.chex_top.proofs.files.all_versions.Given as goal

abbrev pub invariant-loop-entry : goal.invariant-loop-entry
invariant-loop-entry g l =
    let library = g.L.Library in
    record {
      read : IfSome (library.files l.fn.library) (λ t. (o : Result (List Version) Refusal) → Answers (versions_at t (drop l.entry-index l.entries)) o
          → Answers (versions_at t l.entries) (prepend l.versions o));
      files : library.files l.library ≡ library.files l.fn.library;
      absences : library.absences l.fn.library ≤ library.absences l.library;
      faults : library.faults l.fn.library ≤ library.faults l.library;
      short : AreSmall l.versions;
      count : length l.versions ≡ l.entry-index;
      within : l.entry-index ≤ length l.entries;
    }
