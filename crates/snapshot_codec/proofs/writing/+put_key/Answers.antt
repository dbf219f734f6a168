use Rattle.std.proofs.Common.{List, ◌∷◌, sym, ap, ◌∙◌}
use Rattle.star_value.specs.declared.key.Key.{Key}
use Rattle.star_value.specs.Keys as keys
use Rattle.star_meaning.specs.Snapshot.{counted, value_bytes}
use Rattle.snapshot_codec.proofs.WritingForms.{behind_tag, key_int, key_text, key_tuple}
use Rattle.snapshot_codec.proofs.writing.+put_key.Goals as goal

pub put_key-returns-in_ok-put_integer-in-Int : goal.put_key-returns-in_ok-put_integer-in-Int
put_key-returns-in_ok-put_integer-in-Int t c =
    behind_tag _ _ _ 3 _ _ c.in_ok-push-in-Int.ensures.items c.in_ok-put_integer-in-Int.ensures (ap (λ (k : Key). value_bytes (keys.value_of k)) c.in-Int.is ∙ key_int c.in-Int.number)

pub put_key-returns-in_ok-put_text-in-Text : goal.put_key-returns-in_ok-put_text-in-Text
put_key-returns-in_ok-put_text-in-Text t c =
    behind_tag _ _ _ 4 _ _ c.in_ok-push-in-Text.ensures.items c.in_ok-put_text-in-Text.ensures (ap (λ (k : Key). value_bytes (keys.value_of k)) c.in-Text.is ∙ key_text c.in-Text.text)

pub put_key-returns-in_ok-put_keys-in-Tuple : goal.put_key-returns-in_ok-put_keys-in-Tuple
put_key-returns-in_ok-put_keys-in-Tuple t c =
    behind_tag _ _ _ 5 _ _ c.in_ok-push-in-Tuple.ensures.items c.in_ok-put_keys-in-Tuple.ensures
    (ap (λ (k : Key). value_bytes (keys.value_of k)) c.in-Tuple.is ∙ key_tuple c.in-Tuple.parts ∙ ap (λ (ks : List Key). 5 ∷ counted (λ k. value_bytes (keys.value_of k)) ks) (sym c.as_slice.ensures))
