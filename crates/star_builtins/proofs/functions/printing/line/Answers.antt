use Rattle.std.proofs.Common.{◌≡◌, ◌∷◌, [], map, refl, rules, Err}
use Rattle.star_meaning.specs.Showing.{shown}
use Rattle.star_builtins.specs.Reached.{names, store}
use Rattle.star_builtins.proofs.PrintLemmas.{chars_newline, line_ends_first, line_ends_second, line_went}
use Rattle.star_builtins.proofs.functions.printing.line.Goals as goal

pub returns-in_err-show_all : goal.returns-in_err-show_all
returns-in_err-show_all c =
    let s = store c.args.machine.now c.args.meter.now.left in
    let r : c.from_residual.result ≡ Err c.in_err-show_all.field-0.0 = search rules in
    rw r (line_ends_first c.args.by.now (map (shown (names c.args.program.now)) c.args.values.now) (10 ∷ []) s c.new-line.result c.new-line.ensures refl _ _ _ c.in_err-show_all.ensures)

pub returns-in_err-write_word : goal.returns-in_err-write_word
returns-in_err-write_word c =
    let s = store c.args.machine.now c.args.meter.now.left in
    let r : c.from_residual-in_err-write_word.result ≡ Err c.in_err-write_word.field-0.0 = search rules in
    rw r
    (line_ends_second c.args.by.now (map (shown (names c.args.program.now)) c.args.values.now) _ s c.new-line.result c.new-line.ensures chars_newline _ _ _ _ _ c.in_ok-show_all.ensures (c.in_err-write_word.ensures.gives c.args.machine.now.state))

pub returns : goal.returns
returns c =
    let s = store c.args.machine.now c.args.meter.now.left in
    line_went c.args.by.now (map (shown (names c.args.program.now)) c.args.values.now) _ s c.new-line.result c.new-line.ensures chars_newline _ _ _ _ c.in_ok-show_all.ensures (c.in_ok-write_word.ensures.gives c.args.machine.now.state)
