use Rattle.shared_tests.proofs.FitLemmas.{have_sources}
use Rattle.shared_tests.proofs.playing.run.Goals as goal

pub run_versions-requires-clause-sources : goal.run_versions-requires-clause-sources
run_versions-requires-clause-sources c = have_sources c.args.versions.now c.requires.fit
