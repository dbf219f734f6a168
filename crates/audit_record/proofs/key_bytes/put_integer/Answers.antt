use Rattle.std.proofs.Common.{◌≡◌, ℕ, ◌++◌, ap, ◌∙◌, arith}
use Rattle.std.proofs.lemmas.Int.{to_z-of_z}
use Rattle.std.specs.Int.{cast_unsigned, to_be_bytes, w128}
use Rattle.audit_record.proofs.key_bytes.put_integer.Goals as goal

pub returns : goal.returns
returns c =
    let bits : c.cast_unsigned.result ≡ cast_unsigned w128 c.args.number.now = grind (arith, to_z-of_z) in
    c.in_ok-put_bits.ensures ∙ ap (λ (n : ℕ). c.args.out.now.items ++ to_be_bytes w128 n) bits
