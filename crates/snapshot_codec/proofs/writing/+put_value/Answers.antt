use Rattle.std.proofs.Common.{ℕ, List, [], ◌∷◌, sym, ap, ◌∙◌}
use Rattle.star_value.specs.declared.value.Value.{Value}
use Rattle.star_meaning.specs.Snapshot.{counted}
use Rattle.snapshot_codec.specs.Writing.{number_in, value_bytes_by}
use Rattle.snapshot_codec.proofs.WritingForms.{behind_tag, by_builtin, by_int, by_range, by_text, by_tuple, three_pieces}
use Rattle.snapshot_codec.proofs.writing.+put_value.Goals as goal

pub put_value-returns-in_ok-put_integer-in-Int : goal.put_value-returns-in_ok-put_integer-in-Int
put_value-returns-in_ok-put_integer-in-Int t c =
    behind_tag _ _ _ 3 _ _ c.in_ok-push-in-Int.ensures.items c.in_ok-put_integer-in-Int.ensures (ap (value_bytes_by (number_in c.args.numbers.now.order.keys)) c.in-Int.is ∙ by_int (number_in c.args.numbers.now.order.keys) c.in-Int.number)

pub put_value-returns-in_ok-put_text-in-Text : goal.put_value-returns-in_ok-put_text-in-Text
put_value-returns-in_ok-put_text-in-Text t c =
    behind_tag _ _ _ 4 _ _ c.in_ok-push-in-Text.ensures.items c.in_ok-put_text-in-Text.ensures (ap (value_bytes_by (number_in c.args.numbers.now.order.keys)) c.in-Text.is ∙ by_text (number_in c.args.numbers.now.order.keys) c.in-Text.text)

pub put_value-returns-in_ok-put_values-in-Tuple : goal.put_value-returns-in_ok-put_values-in-Tuple
put_value-returns-in_ok-put_values-in-Tuple t c =
    behind_tag _ _ _ 5 _ _ c.in_ok-push-in-Tuple.ensures.items c.in_ok-put_values-in-Tuple.ensures
    (ap (value_bytes_by (number_in c.args.numbers.now.order.keys)) c.in-Tuple.is ∙ by_tuple (number_in c.args.numbers.now.order.keys) c.in-Tuple.items ∙ ap (λ (xs : List Value). 5 ∷ counted (value_bytes_by (number_in c.args.numbers.now.order.keys)) xs) (sym c.as_slice.ensures))

pub put_value-returns-in_ok-put_integer-in-Range-3 : goal.put_value-returns-in_ok-put_integer-in-Range-3
put_value-returns-in_ok-put_integer-in-Range-3 t c =
    let pieces = three_pieces _ _ _ _ _ _ _ c.in_ok-put_integer-in-Range.ensures c.in_ok-put_integer-in-Range-2.ensures c.in_ok-put_integer-in-Range-3.ensures in
    behind_tag _ _ _ 6 _ _ c.in_ok-push-in-Range.ensures.items pieces (ap (value_bytes_by (number_in c.args.numbers.now.order.keys)) c.in-Range.is ∙ by_range (number_in c.args.numbers.now.order.keys) c.in-Range.range)

pub put_value-returns-in_ok-push-in-Builtin-2 : goal.put_value-returns-in_ok-push-in-Builtin-2
put_value-returns-in_ok-push-in-Builtin-2 t c =
    behind_tag _ _ _ 10 _ _ c.in_ok-push-in-Builtin.ensures.items c.in_ok-push-in-Builtin-2.ensures.items
    (ap (value_bytes_by (number_in c.args.numbers.now.order.keys)) c.in-Builtin.is ∙ by_builtin (number_in c.args.numbers.now.order.keys) c.in-Builtin.which ∙ ap (λ (n : ℕ). 10 ∷ n ∷ []) (sym c.builtin_byte.ensures))
