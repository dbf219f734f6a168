use Rattle.std.proofs.Common.{ap, sym, ◌∙◌, ◌++◌, length}
use Rattle.std.specs.Str.{chars}
use Rattle.chex_base.proofs.TextLemmas.{counted-joined}
use Rattle.std.proofs.lemmas.Str.{chars-append, IsUtf8-string_bytes}
use Rattle.chex_base.proofs.text.Text.push_str.Goals as goal

pub returns-clause-ok : goal.returns-clause-ok
returns-clause-ok c =
    ap chars c.in_ok-push_str.ensures.bytes
    ∙ (chars-append _ c.args.more.now (IsUtf8-string_bytes c.self.inside.bytes)
    ∙ ap (λ t. t ++ chars c.args.more.now) c.self.view_is)

pub invariant_of-self-2 : goal.invariant_of-self-2
invariant_of-self-2 c =
    counted-joined _ c.args.more.now _ _ _ _ (IsUtf8-string_bytes c.self.inside.bytes) (IsUtf8-string_bytes c.push_str.new.self) c.in_ok-push_str.ensures.bytes
    c.self.invariant.0 c.count.ensures.len c.size-size.ensures.len c.size-size.ensures.small
