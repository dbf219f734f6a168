use Rattle.star_builtins.specs.Changes.{PairsFit}
use Rattle.star_run.proofs.EntryLemmas.{put_fits}
use Rattle.star_run.proofs.WaitLemmas.{fits_later, pairs_fit_later}
use Rattle.star_run.proofs.entries.put_entry.Goals as goal

pub returns-clause-fit : goal.returns-clause-fit
returns-clause-fit c =
    let goes = c.charge_weight.ensures.goes in
    rw c.in_ok-put.ensures.ok (put_fits _ _ _ _ _ c.in_ok-entry.ensures (fits_later _ goes c.requires.key) (fits_later _ goes c.requires.value) (pairs_fit_later _ goes c.requires.pairs))
