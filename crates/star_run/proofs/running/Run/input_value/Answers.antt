use Rattle.star_run.proofs.running.Run.input_value.Goals as goal

pub charged_list-requires-clause-fit : goal.charged_list-requires-clause-fit
charged_list-requires-clause-fit c = c.in_ok-items-in-List.ensures.fits _

pub returns-in-None-clause-fits : goal.returns-in-None-clause-fits
returns-in-None-clause-fits c = c.none.ensures.fits _

pub returns-in-Bool-clause-fits : goal.returns-in-Bool-clause-fits
returns-in-Bool-clause-fits c = c.bool_value.ensures.fits _

pub returns-in-Int-clause-fits : goal.returns-in-Int-clause-fits
returns-in-Int-clause-fits c = c.int_value.ensures.fits _

pub returns-in_ok-copy-in-Text-clause-fits : goal.returns-in_ok-copy-in-Text-clause-fits
returns-in_ok-copy-in-Text-clause-fits c = c.text_value.ensures.fits _
