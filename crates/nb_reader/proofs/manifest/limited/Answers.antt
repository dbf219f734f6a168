use Rattle.std.proofs.Common.{inr, length, arith, rules}
use Rattle.serde_json.proofs.Views.{items_len-items_view}
use Rattle.nb_reader.proofs.ManifestLemmas.{too_many, not_too_many}
use Rattle.nb_reader.proofs.manifest.limited.Goals as goal

pub returns-then-count-gt-MOST_VERSIONS : goal.returns-then-count-gt-MOST_VERSIONS
returns-then-count-gt-MOST_VERSIONS c = inr (too_many c.args.elements.now (length c.args.elements.now) (items_len-items_view c.args.elements.now) (omega arith))

pub returns-in_err-versions : goal.returns-in_err-versions
returns-in_err-versions c =
    rw (not_too_many c.args.elements.now (length c.args.elements.now) (items_len-items_view c.args.elements.now) (omega arith)) (search rules)

pub returns : goal.returns
returns c =
    rw (not_too_many c.args.elements.now (length c.args.elements.now) (items_len-items_view c.args.elements.now) (omega arith)) (search rules)
