use Rattle.star_value.specs.Texts as texts
use Rattle.std.specs.Prelude.{true, false}
use Rattle.star_meaning.specs.Methods as spec
use Rattle.star_builtins.specs.Reached.{store}
use Rattle.star_builtins.proofs.WeighedLemmas.{gives_weighed}
use Rattle.star_builtins.proofs.methods.text_row.Goals as goal

pub returns-in-Find-clause-gives : goal.returns-in-Find-clause-gives
returns-in-Find-clause-gives c =
    let after = store c.args.machine.now c.find.new.meter.left in
    rw c.in-Find.is (gives_weighed (spec.find c.args.text.now c.args.arguments (store c.args.machine.now c.args.meter.now.left)) c.stopping.result after (c.stopping.ensures.gives (spec.find c.args.text.now c.args.arguments (store c.args.machine.now c.args.meter.now.left)) after (c.find.ensures.gives c.args.machine.now.state)))

pub returns-in-Split-clause-gives : goal.returns-in-Split-clause-gives
returns-in-Split-clause-gives c = rw c.in-Split.is (gives_weighed (spec.split c.args.text.now c.args.arguments (store c.args.machine.now c.args.meter.now.left)) c.split.result (store c.split.new.machine c.split.new.meter.left) c.split.ensures.gives)

pub returns-in-Join-clause-gives : goal.returns-in-Join-clause-gives
returns-in-Join-clause-gives c = rw c.in-Join.is c.join.ensures.gives

pub returns-in-Replace-clause-gives : goal.returns-in-Replace-clause-gives
returns-in-Replace-clause-gives c = rw c.in-Replace.is (c.replace.ensures.gives c.args.machine.now.state)

pub returns-in-Strip-clause-gives : goal.returns-in-Strip-clause-gives
returns-in-Strip-clause-gives c = rw c.in-Strip.is (gives_weighed (spec.strip_ends true true c.args.text.now c.args.arguments (store c.args.machine.now c.args.meter.now.left)) c.strip_ends.result (store c.args.machine.now c.strip_ends.new.meter.left) (c.strip_ends.ensures.gives c.args.machine.now.state))

pub returns-in-LeftStrip-clause-gives : goal.returns-in-LeftStrip-clause-gives
returns-in-LeftStrip-clause-gives c = rw c.in-LeftStrip.is (gives_weighed (spec.strip_ends true false c.args.text.now c.args.arguments (store c.args.machine.now c.args.meter.now.left)) c.strip_ends-in-LeftStrip.result (store c.args.machine.now c.strip_ends-in-LeftStrip.new.meter.left) (c.strip_ends-in-LeftStrip.ensures.gives c.args.machine.now.state))

pub returns-in-RightStrip-clause-gives : goal.returns-in-RightStrip-clause-gives
returns-in-RightStrip-clause-gives c = rw c.in-RightStrip.is (gives_weighed (spec.strip_ends false true c.args.text.now c.args.arguments (store c.args.machine.now c.args.meter.now.left)) c.strip_ends-in-RightStrip.result (store c.args.machine.now c.strip_ends-in-RightStrip.new.meter.left) (c.strip_ends-in-RightStrip.ensures.gives c.args.machine.now.state))

pub returns-in-StartsWith-clause-gives : goal.returns-in-StartsWith-clause-gives
returns-in-StartsWith-clause-gives c =
    let after = store c.args.machine.now c.starts_with.new.meter.left in
    rw c.in-StartsWith.is (gives_weighed (spec.tested_with texts.starts_with c.args.text.now c.args.arguments (store c.args.machine.now c.args.meter.now.left)) c.stopping-in-StartsWith.result after (c.stopping-in-StartsWith.ensures.gives (spec.tested_with texts.starts_with c.args.text.now c.args.arguments (store c.args.machine.now c.args.meter.now.left)) after (c.starts_with.ensures.gives c.args.machine.now.state)))

pub returns-in-EndsWith-clause-gives : goal.returns-in-EndsWith-clause-gives
returns-in-EndsWith-clause-gives c =
    let after = store c.args.machine.now c.ends_with.new.meter.left in
    rw c.in-EndsWith.is (gives_weighed (spec.tested_with texts.ends_with c.args.text.now c.args.arguments (store c.args.machine.now c.args.meter.now.left)) c.stopping-in-EndsWith.result after (c.stopping-in-EndsWith.ensures.gives (spec.tested_with texts.ends_with c.args.text.now c.args.arguments (store c.args.machine.now c.args.meter.now.left)) after (c.ends_with.ensures.gives c.args.machine.now.state)))
