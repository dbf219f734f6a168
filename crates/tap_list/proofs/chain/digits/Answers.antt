use Rattle.std.proofs.Common.{rules, ◌≡◌, ◌∙◌, ◌++◌, ap}
use Rattle.std.specs.Prelude.{codes, string_bytes}
use Rattle.std.specs.Str.{chars}
use Rattle.hex.specs.Hex.{encode_lower}
use Rattle.tap_list.specs.Chains.{chain_text}
use Rattle.tap_list.proofs.Texts.{digits_chars, end_chars}
use Rattle.tap_list.proofs.chain.digits.Goals as goal

pub returns : goal.returns
unfolding chain_text
returns c =
    let bytes : string_bytes c.in_ok-digits.digits ≡ encode_lower c.args.digest.now = search rules in
    let text : c.in_ok-text.text ≡ chars (string_bytes c.in_ok-digits.digits) = search rules in
    c.in_ok-push_str.ensures.ok ∙ ap (λ l. l ++ chars (codes "\n")) (text ∙ ap chars bytes ∙ digits_chars c.args.digest.now) ∙ ap (λ l. encode_lower c.args.digest.now ++ l) end_chars
