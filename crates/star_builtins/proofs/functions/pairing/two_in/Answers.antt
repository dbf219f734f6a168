use Rattle.std.proofs.Common.{◌≡◌, rules, Err}
use Rattle.star_value.specs.declared.stop.Stop.TheVariants as stop
use Rattle.star_meaning.proofs.Equations.{out_tuple}
use Rattle.star_builtins.specs.Reached.{store}
use Rattle.star_builtins.proofs.FitLemmas.{is_list_of}
use Rattle.star_builtins.proofs.functions.pairing.two_in.Goals as goal

pub two_copied-requires-clause-kind : goal.two_copied-requires-clause-kind
two_copied-requires-clause-kind c = is_list_of c.args.machine.now c.in-List.id (rw c.in-List.is at c.requires.of)

pub returns-in_err-two_taken-in-Tuple-clause-gives : goal.returns-in_err-two_taken-in-Tuple-clause-gives
returns-in_err-two_taken-in-Tuple-clause-gives c =
    let r : c.from_residual.result ≡ Err (stop.Failure c.in_err-two_taken-in-Tuple.field-0.0) = search rules in
    λ left. rw (r, c.in-Tuple.is, out_tuple c.in-Tuple.items) (c.in_err-two_taken-in-Tuple.ensures.gives (store c.args.machine.now left))

pub returns-in-Tuple-clause-gives : goal.returns-in-Tuple-clause-gives
returns-in-Tuple-clause-gives c = λ left. rw (c.in-Tuple.is, out_tuple c.in-Tuple.items) (c.in_ok-two_taken-in-Tuple.ensures.gives (store c.args.machine.now left))
