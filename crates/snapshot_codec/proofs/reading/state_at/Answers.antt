use Rattle.snapshot_codec.proofs.Decoding.{is_found, is_only}
use Rattle.snapshot_codec.proofs.reading.state_at.Goals as goal

pub returns-clause-found : goal.returns-clause-found
returns-clause-found c = is_found c.args.program.now c.args.bytes.now c.checked_at.result c.measured-size.ensures.each c.checked_at.ensures

pub returns-clause-only : goal.returns-clause-only
returns-clause-only c = is_only c.args.program.now c.args.bytes.now c.checked_at.result c.measured-size.ensures.few c.checked_at.ensures

pub returns-clause-exact : goal.returns-clause-exact
returns-clause-exact c = c.checked_at.ensures
