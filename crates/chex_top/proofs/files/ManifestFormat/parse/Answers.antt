use Rattle.chex_top.proofs.NodeLemmas.{few_entries}
use Rattle.chex_top.proofs.files.ManifestFormat.parse.Goals as goal

pub returns-clause-kept : goal.returns-clause-kept
returns-clause-kept c = few_entries c.args.bytes.now c.read_manifest.result c.read_manifest.ensures
