use Rattle.std.proofs.Common.{Ok}
use Rattle.snapshot_codec.specs.Reading.{state_at}
use Rattle.snapshot_codec.proofs.Decoding.{made_found, made_gives}
use Rattle.snapshot_codec.proofs.snapshot.machine_at.Goals as goal

pub build-requires : goal.build-requires
build-requires c = c.in_ok-parts.ensures.found.0.kept

pub returns-clause-found : goal.returns-clause-found
returns-clause-found c = made_found c.args.program.now c.args.bytes.now c.in_ok-parts.parts c.in_ok-machine.machine c.in_ok-machine.ensures c.in_ok-parts.ensures.found

pub returns-clause-only : goal.returns-clause-only
returns-clause-only c = λ m valid canonical is. made_gives (Ok m) c.in_ok-parts.parts c.in_ok-machine.machine c.in_ok-machine.ensures (c.in_ok-parts.ensures.only m valid canonical is)

pub returns-clause-exact : goal.returns-clause-exact
returns-clause-exact c = made_gives (state_at c.args.program.now c.args.bytes.now) c.in_ok-parts.parts c.in_ok-machine.machine c.in_ok-machine.ensures c.in_ok-parts.ensures.exact
