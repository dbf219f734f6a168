use Rattle.std.proofs.Common.{refl}
use Rattle.tap_list.proofs.Moves.{kept, gone}
use Rattle.tap_list.proofs.taps.turn.Goals as goal

pub returns-in-Ok-clause-turns : goal.returns-in-Ok-clause-turns
returns-in-Ok-clause-turns g c =
    kept _ c.args.event.now c.args.live.now.items c.remove-tap.new.self.items c.push.new.self.items c.args.retired.now.items c.remove-tap.result c.told.new.tap
    c.requires.some c.remove-tap.ensures.value c.remove-tap.ensures.by_index.2 c.in-Ok.ensures.items (c.if-told.ensures.heard refl)

pub returns-in-Ok-push-clause-turns : goal.returns-in-Ok-push-clause-turns
returns-in-Ok-push-clause-turns g c =
    gone _ c.args.event.now c.args.live.now.items c.remove-tap.new.self.items c.args.retired.now.items c.push-else-told.new.self.items c.remove-tap.result c.told.new.tap
    c.requires.some c.remove-tap.ensures.value c.remove-tap.ensures.by_index.2 c.in-Ok-push.ensures.items (c.if-told.ensures.refused refl)
