use Rattle.std.proofs.Common.{◌≡◌, arith, length, reverse}
use Rattle.star_builtins.proofs.PutLemmas.{Puts, puts_start, puts_more, puts_none, puts_next, puts_follows, next_key, next_value}
use Rattle.star_builtins.proofs.dict_walks.put_pairs.Goals as goal

pub loop-key-init : goal.loop-key-init
loop-key-init c = puts_start c.args.machine.now c.args.id (reverse c.args.more.items) c.requires.kind c.requires.more

pub put_pair-requires-clause-kind : goal.put_pair-requires-clause-kind
put_pair-requires-clause-kind c = c.loop-key.invariant.kind

pub put_pair-requires-clause-key : goal.put_pair-requires-clause-key
put_pair-requires-clause-key c =
    next_key c.args.machine.now c.loop-key.machine c.args.id (reverse c.args.more.items) (reverse c.pop.new.self.items) c.in-Some.key c.in-Some.held
    (puts_more c.args.machine.now c.loop-key.machine c.args.id (reverse c.args.more.items) c.loop-key.more.items c.pop.new.self.items c.in-Some.key c.in-Some.held c.in-Some.ensures.items c.loop-key.invariant)

pub put_pair-requires-clause-value : goal.put_pair-requires-clause-value
put_pair-requires-clause-value c =
    next_value c.args.machine.now c.loop-key.machine c.args.id (reverse c.args.more.items) (reverse c.pop.new.self.items) c.in-Some.key c.in-Some.held
    (puts_more c.args.machine.now c.loop-key.machine c.args.id (reverse c.args.more.items) c.loop-key.more.items c.pop.new.self.items c.in-Some.key c.in-Some.held c.in-Some.ensures.items c.loop-key.invariant)

pub put_pair-requires-clause-held : goal.put_pair-requires-clause-held
put_pair-requires-clause-held c = c.loop-key.invariant.follows.proper c.requires.held

pub loop-key-preserved : goal.loop-key-preserved
loop-key-preserved c =
    puts_next c.args.machine.now c.loop-key.machine c.args.id (reverse c.args.more.items) (reverse c.pop.new.self.items) c.in-Some.key c.in-Some.held
    (puts_more c.args.machine.now c.loop-key.machine c.args.id (reverse c.args.more.items) c.loop-key.more.items c.pop.new.self.items c.in-Some.key c.in-Some.held c.in-Some.ensures.items c.loop-key.invariant)
    c.put_pair.new.machine c.in_ok-put_pair.ensures.ok c.in_ok-put_pair.ensures.follows

pub returns-in_err-put_pair-clause-follows : goal.returns-in_err-put_pair-clause-follows
returns-in_err-put_pair-clause-follows c =
    puts_follows c.args.machine.now c.loop-key.machine c.args.id (reverse c.args.more.items) (reverse c.pop.new.self.items) c.in-Some.key c.in-Some.held
    (puts_more c.args.machine.now c.loop-key.machine c.args.id (reverse c.args.more.items) c.loop-key.more.items c.pop.new.self.items c.in-Some.key c.in-Some.held c.in-Some.ensures.items c.loop-key.invariant)
    c.put_pair.new.machine c.in_err-put_pair.ensures.follows

pub returns-clause-ok : goal.returns-clause-ok
returns-clause-ok c =
    let none : length c.loop-key.more.items ≡ 0 = omega (arith, c.loop-key.more.ok.0, c.in_default.ensures.cases.0) in
    puts_none c.args.machine.now c.loop-key.machine c.args.id (reverse c.args.more.items) c.loop-key.more.items none c.loop-key.invariant

pub returns-clause-follows : goal.returns-clause-follows
returns-clause-follows c = c.loop-key.invariant.follows
