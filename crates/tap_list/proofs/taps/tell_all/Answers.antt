use Rattle.std.proofs.Common.{rules, arith, ◌-◌}
use Rattle.tap_list.proofs.Moves.{begins_by, goes_by, ends_by}
use Rattle.tap_list.proofs.taps.tell_all.Goals as goal

pub loop-init : goal.loop-init
loop-init g c = record {
  within = search rules;
  some = search rules;
  room = c.requires.room;
  telling = begins_by _ c.args.event.now c.len-end.result c.args.live.now.items c.args.retired.now.items (search rules);
}

pub loop-preserved : goal.loop-preserved
loop-preserved g c = record {
  within = search rules;
  some = omega (arith, c.loop.invariant.some, c.turn.ensures.one);
  room = omega (arith, c.loop.invariant.room, c.turn.ensures.count, c.turn.ensures.capacity);
  telling = goes_by c.args.event.now _ _ _ _ _ _ c.loop.counter c.len-end.result (search rules) c.loop.invariant.telling c.turn.ensures.turns;
}

pub returns-clause-tells : goal.returns-clause-tells
returns-clause-tells g c = ends_by c.args.event.now _ _ _ _ (c.len-end.result - c.loop.counter) (search rules) c.loop.invariant.telling
