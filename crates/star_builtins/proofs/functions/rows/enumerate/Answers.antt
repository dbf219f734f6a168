use Rattle.std.proofs.Common.{◌≡◌, ◌∙◌, true, false, ap, sym, rules, Some}
use Rattle.std.proofs.Math.Facts.{to_z-of_z}
use Rattle.std.specs.Prelude.{FitsSigned}
use Rattle.std.specs.Int.{w128}
use Rattle.star_builtins.specs.Reached.{store}
use Rattle.star_builtins.specs.Rows.{has_last}
use Rattle.star_builtins.specs.Walks.{given}
use Rattle.star_builtins.proofs.Rowed.{enumerate_nothing, enumerate_no_start, enumerate_large, enumerate_ends, enumerate_gives}
use Rattle.star_builtins.proofs.functions.rows.enumerate.Goals as goal

pub returns-in_err-count-clause-gives : goal.returns-in_err-count-clause-gives
returns-in_err-count-clause-gives c =
    let none = enumerate_nothing c.args.of.now c.args.start (store c.args.machine.now c.args.meter.now.left) c.in_err-count.ensures.0 in
    let is = c.in_err-count.ensures.1 in
    search (rules, none, is)

pub returns-in_err-start-clause-gives : goal.returns-in_err-start-clause-gives
returns-in_err-start-clause-gives c =
    let none = enumerate_no_start c.args.of.now c.args.start (store c.args.machine.now c.args.meter.now.left) _ c.in_ok-count.ensures.0 c.in_err-start.ensures.0 in
    let is = c.in_err-start.ensures.1 in
    search (rules, none, is)

pub returns-then-not-has_last-clause-gives : goal.returns-then-not-has_last-clause-gives
returns-then-not-has_last-clause-gives c =
    let fit : FitsSigned w128 c.in_ok-start.start = search rules in
    let no : c.has_last.result ≡ false = search rules in
    enumerate_large c.args.of.now c.args.start (store c.args.machine.now c.args.meter.now.left) _ c.in_ok-count.ensures.0 _ (c.in_ok-start.ensures ∙ ap Some (sym (to_z-of_z fit))) (ap (has_last _) c.in_ok-count.ensures.1 ∙ sym c.has_last.ensures ∙ no)

pub returns-in_err-tuples-clause-gives : goal.returns-in_err-tuples-clause-gives
returns-in_err-tuples-clause-gives c =
    let fit : FitsSigned w128 c.in_ok-start.start = search rules in
    let some : c.has_last.result ≡ true = search rules in
    let ends = enumerate_ends c.args.of.now c.args.start (store c.args.machine.now c.args.meter.now.left) _ c.in_ok-count.ensures.0 _ (c.in_ok-start.ensures ∙ ap Some (sym (to_z-of_z fit))) _ _ (ap (has_last _) c.in_ok-count.ensures.1 ∙ sym c.has_last.ensures ∙ some) c.in_err-tuples.ensures.gives in
    search (rules, ends)

pub returns-clause-gives : goal.returns-clause-gives
returns-clause-gives c =
    let fit : FitsSigned w128 c.in_ok-start.start = search rules in
    let some : c.has_last.result ≡ true = search rules in
    enumerate_gives c.args.of.now c.args.start (store c.args.machine.now c.args.meter.now.left) _ c.in_ok-count.ensures.0 _ (c.in_ok-start.ensures ∙ ap Some (sym (to_z-of_z fit))) _ _ _ _ (ap (has_last _) c.in_ok-count.ensures.1 ∙ sym c.has_last.ensures ∙ some) c.in_ok-tuples.ensures.gives (c.new_list.ensures.gives _)
