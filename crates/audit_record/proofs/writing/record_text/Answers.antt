use Rattle.std.proofs.Common.{◌≡◌, ◌≤◌, ◌++◌, ◌∷◌, [], Some, string_bytes, subst, sym, ap, ◌∙◌, arith}
use Rattle.std.proofs.lemmas.Str.{IsUtf8-string_bytes}
use Rattle.serde_json.specs.Data.{Data, depth}
use Rattle.serde_json.specs.Read.{max_depth, read}
use Rattle.audit_record.specs.Record.{record_data}
use Rattle.audit_record.proofs.NewlineLemmas.{read-newline}
use Rattle.audit_record.proofs.AgainLemmas.{record_depth, text_again}
use Rattle.audit_record.proofs.writing.record_text.Goals as goal

pub returns-clause-read : goal.returns-clause-read
returns-clause-read c =
    let keys = c.args.keys.now in
    let rows = c.args.rows.now in
    let d = record_data 2 keys rows c.args.allowance in
    let view_is = c.in_ok-value.ensures.value in
    let deep = subst (λ (e : Data). depth e ≤ max_depth) (sym view_is) (record_depth 2 keys rows c.args.allowance) in
    let back : read (string_bytes c.in_ok-text.text) ≡ Some d = c.in_ok-text.ensures.reads_back deep ∙ ap Some view_is in
    let line = read-newline (string_bytes c.in_ok-text.text) d _ c.in_ok-text.ensures.order c.in_ok-text.ensures.compact back in
    let pushed : string_bytes c.push.new.self ≡ string_bytes c.in_ok-text.text ++ 10 ∷ [] =
    c.in_ok-push.ensures.bytes ∙ ap (λ l. string_bytes c.in_ok-text.text ++ l) (c.in_ok-push.ensures.ascii (omega arith)) in
    text_again (string_bytes c.push.new.self) keys rows c.args.allowance c.requires c.in_ok-value.ensures.wide (IsUtf8-string_bytes c.push.new.self) (ap read pushed ∙ line)
