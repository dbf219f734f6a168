use Rattle.std.proofs.Common.{◌≡◌, ◌<◌, ◌≤◌, None, length, arith, rules}
use Rattle.std.specs.Prelude.{option_map}
use Rattle.star_syntax.specs.Cells.{def_of}
use Rattle.snapshot_codec.proofs.DefinedLaws.{counts_end, counts_more, counts_pass, defaults_of}
use Rattle.snapshot_codec.proofs.refers.counts_of.Goals as goal

pub loop-statement-preserved-in_default : goal.loop-statement-preserved-in_default
loop-statement-preserved-in_default c =
    let within : c.loop-statement.statement-index < length c.args.statements.now = omega arith in
    let none : option_map defaults_of (def_of c.statement-item.result) ≡ None = search rules in
    counts_pass c.args.statements.now c.loop-statement.statement-index c.statement-item.result c.loop-statement.counts.items within c.statement-item.is none c.loop-statement.invariant

pub loop-statement-preserved : goal.loop-statement-preserved
loop-statement-preserved c =
    let within : c.loop-statement.statement-index < length c.args.statements.now = omega arith in
    counts_more c.args.statements.now c.loop-statement.statement-index c.statement-item.result c.in-Some.count c.loop-statement.counts.items _ within c.statement-item.is c.in-Some.ensures c.in_ok-push.ensures.items c.loop-statement.invariant

pub returns : goal.returns
returns c =
    let past : length c.args.statements.now ≤ c.loop-statement.statement-index = omega arith in
    counts_end c.args.statements.now c.loop-statement.statement-index c.loop-statement.counts.items past c.loop-statement.invariant
