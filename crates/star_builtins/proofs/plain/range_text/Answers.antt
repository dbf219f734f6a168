use Rattle.std.proofs.Common.{◌≡◌, ◌∙◌, to_z, of_z, rules}
use Rattle.std.specs.Int.{w128}
use Rattle.star_builtins.proofs.Words.{chars_range_open, chars_comma, range_made}
use Rattle.star_builtins.proofs.plain.range_text.Goals as goal

pub returns : goal.returns
returns c =
    let start : to_z w128 (of_z w128 c.args.range.now.start) ≡ c.args.range.now.start = search rules in
    let stop : to_z w128 (of_z w128 c.args.range.now.stop) ≡ c.args.range.now.stop = search rules in
    let step : to_z w128 (of_z w128 c.args.range.now.step) ≡ c.args.range.now.step = search rules in
    range_made c.args.range.now _ _ _ _ _ _ _ _ _ start stop step (c.in_ok-text.ensures.points ∙ chars_range_open) chars_comma c.in_ok-push_int.ensures c.in_ok-push_str.ensures.ok c.in_ok-push_int-2.ensures c.in_ok-push_step.ensures
