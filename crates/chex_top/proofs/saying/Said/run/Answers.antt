use Rattle.std.proofs.Common.{◌++◌, ◌∙◌, ap, map}
use Rattle.shared_run.specs.Written.{written}
use Rattle.chex_top.specs.RunTexts.{headers_of, run_text, versions_text}
use Rattle.chex_top.proofs.saying.Said.run.Goals as goal

pub returns : goal.returns
unfolding run_text
returns c =
    let texts = map (written c.args.texts) c.args.ways in
    ap (λ headers. versions_text headers texts ++ c.in_ok-last.last) c.in_ok-headers.ensures
    ∙ ap (λ last. versions_text (headers_of c.args.versions.now) texts ++ last) c.in_ok-last.ensures
