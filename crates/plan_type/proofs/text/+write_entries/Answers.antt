use Rattle.std.proofs.Common.{rules, ◌++◌, ◌∙◌, ◌+◌, ap, sym, append_assoc}
use Rattle.std.specs.List.{flat_map}
use Rattle.std.specs.Str.{chars}
use Rattle.std.proofs.lemmas.List.{take_all}
use Rattle.plan_type.specs.declared.plan.Plan.{the_lemmas}
use Rattle.plan_type.specs.PlanText.{line_of, lines_at}
use Rattle.plan_type.proofs.Lines.{rest_lines, lines_parts, lines_more, deeper}
use Rattle.plan_type.proofs.text.+write_entries.Goals as goal

pub write_entries-requires : goal.write_entries-requires
write_entries-requires t c =
    (search (rules, the_lemmas), deeper c.args.plan.now c.args.depth 10000 c.requires c.as_slice-entry-items.result.now c.as_slice-entry-items.ensures c.loop-entry.entry-index c.entry-item.result c.loop-entry-test.true c.entry-item.is)

pub loop-entry-preserved : goal.loop-entry-preserved
unfolding rest_lines
loop-entry-preserved t c =
    let line = ap chars c.deref.ensures ∙ c.in_ok-line.ensures in
    lines_more c.args.depth c.as_slice-entry-items.result.now c.loop-entry.entry-index c.entry-item.result c.args.text.now c.write_entries.new.text c.loop-entry-test.true c.entry-item.is
    (c.in_ok-write_entries.ensures ∙ ap (λ l. l ++ lines_at c.entry-item.result.rest (c.args.depth + 1)) (c.in_ok-push_str.ensures.ok ∙ ap (λ l. c.loop-entry.text ++ l) line)
    ∙ append_assoc c.loop-entry.text (line_of c.args.depth c.entry-item.result.child c.entry-item.result.hold) (lines_at c.entry-item.result.rest (c.args.depth + 1))
    ∙ ap (λ l. l ++ rest_lines c.args.depth c.entry-item.result) c.loop-entry.invariant)

pub returns : goal.returns
returns t c =
    let all = ap (flat_map (rest_lines c.args.depth)) (take_all c.loop-entry.entry-index c.as_slice-entry-items.result.now c.loop-entry-test.false ∙ c.as_slice-entry-items.ensures) in
    c.loop-entry.invariant ∙ ap (λ l. c.args.text.now ++ l) (all ∙ sym (lines_parts c.args.plan.now c.args.depth))
