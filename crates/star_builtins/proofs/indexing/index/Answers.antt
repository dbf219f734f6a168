use Rattle.std.proofs.Common.{rules}
use Rattle.std.specs.Prelude.{FitsSigned}
use Rattle.std.specs.Int.{w128}
use Rattle.star_builtins.specs.Reached.{store}
use Rattle.star_builtins.proofs.IndexLemmas.{index_list, index_tuple, index_text, index_range}
use Rattle.star_builtins.proofs.indexing.index.Goals as goal

pub returns-in-List-Int-clause-gives : goal.returns-in-List-Int-clause-gives
returns-in-List-Int-clause-gives c =
    let s = store c.args.machine.now c.args.meter.now.left in
    let fit : FitsSigned w128 c.in-List-Int.number = search rules in
    index_list _ s _ fit _ _ _ c.in-List-Int.is-0 c.in-List-Int.is-1 (rw c.list.ensures.value at (c.item_at.ensures.gives s))

pub returns-in-Tuple-Int-clause-gives : goal.returns-in-Tuple-Int-clause-gives
returns-in-Tuple-Int-clause-gives c =
    let s = store c.args.machine.now c.args.meter.now.left in
    let fit : FitsSigned w128 c.in-Tuple-Int.number = search rules in
    index_tuple _ s _ fit _ _ _ c.in-Tuple-Int.is-0 c.in-Tuple-Int.is-1 (rw c.as_slice.ensures at (c.item_at-in-Tuple-Int.ensures.gives s))

pub returns-in-Text-Int-clause-gives : goal.returns-in-Text-Int-clause-gives
returns-in-Text-Int-clause-gives c =
    let s = store c.args.machine.now c.args.meter.now.left in
    let fit : FitsSigned w128 c.in-Text-Int.number = search rules in
    index_text _ s _ fit _ _ _ c.in-Text-Int.is-0 c.in-Text-Int.is-1 (c.point_at.ensures.gives s)

pub returns-in-Range-Int-clause-gives : goal.returns-in-Range-Int-clause-gives
returns-in-Range-Int-clause-gives c =
    let s = store c.args.machine.now c.args.meter.now.left in
    let fit : FitsSigned w128 c.in-Range-Int.number = search rules in
    index_range _ s _ fit _ _ _ c.in-Range-Int.is-0 c.in-Range-Int.is-1 (c.range_item_at.ensures.gives s)
