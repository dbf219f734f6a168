use Rattle.std.proofs.Common.{sym, ◌∙◌, arith}
use Rattle.std.proofs.lemmas.Str.Pattern.{starts_char}
use Rattle.chex_words.proofs.NumberLemmas.{too_long, no_plus, parsed}
use Rattle.chex_words.proofs.number.number.Goals as goal

pub returns-then-text-gt-MOST_DIGITS : goal.returns-then-text-gt-MOST_DIGITS
returns-then-text-gt-MOST_DIGITS c = sym (too_long _ (omega arith))

pub returns-then-starts_with : goal.returns-then-starts_with
returns-then-starts_with c =
    let starts = starts_char 43 c.args.text.now c.starts_with.result c.starts_with.ensures.cases (omega arith) (omega arith) in
    sym (no_plus _ (starts.0 c.if-starts_with.true))

pub returns : goal.returns
returns c =
    let starts = starts_char 43 c.args.text.now c.starts_with.result c.starts_with.ensures.cases (omega arith) (omega arith) in
    c.ok.ensures.value ∙ parsed c.args.text.now c.parse.result c.parse.ensures.value.0 (omega arith) (λ plus.
    let yes = starts.1 plus in
    cc)
