use Rattle.std.proofs.Common.{Ok}
use Rattle.snapshot_codec.specs.Reading.{state_at}
use Rattle.snapshot_codec.proofs.Decoding.{refuses}
use Rattle.snapshot_codec.proofs.snapshot.decode.Goals as goal

pub returns-in-Ok-clause-found : goal.returns-in-Ok-clause-found
returns-in-Ok-clause-found c = c.in-Ok.ensures.found

pub returns-in-Ok-clause-only : goal.returns-in-Ok-clause-only
returns-in-Ok-clause-only c = c.in-Ok.ensures.only

pub returns-in-Ok-clause-exact : goal.returns-in-Ok-clause-exact
returns-in-Ok-clause-exact c = c.in-Ok.ensures.exact

pub returns-in-Err-clause-only : goal.returns-in-Err-clause-only
returns-in-Err-clause-only c = λ m valid canonical is. refuses c.in-Err.stop c.fault_of.result (Ok m) c.fault_of.ensures (c.in-Err.ensures.only m valid canonical is)

pub returns-in-Err-clause-exact : goal.returns-in-Err-clause-exact
returns-in-Err-clause-exact c = refuses c.in-Err.stop c.fault_of.result (state_at c.args.program.now c.args.bytes.now) c.fault_of.ensures c.in-Err.ensures.exact
