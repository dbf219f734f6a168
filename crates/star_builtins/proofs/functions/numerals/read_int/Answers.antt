use Rattle.std.proofs.Common.{◌≡◌, ◌∙◌, ◌∷◌, ℕ, List, [], map, refl, sym, ap}
use Rattle.std.proofs.lemmas.Iterator.{YieldsList-from_chars}
use Rattle.std.proofs.lemmas.Iterator.Consumers.{YieldsList-end}
use Rattle.star_value.proofs.Places.{spells}
use Rattle.star_builtins.proofs.NumeralLemmas.{read_all, read_more}
use Rattle.star_builtins.proofs.functions.numerals.read_int.Goals as goal

same_map : (xs : List ℕ) → map (λ c. c) xs ≡ xs
same_map [] = refl
same_map (x ∷ xs) = ap (λ r. x ∷ r) (same_map xs)

pub loop-c-preserved : goal.loop-c-preserved
loop-c-preserved c = λ more. read_more _ _ c.loop-c.yielded more _ (c.after-reading.ensures more) (c.loop-c.invariant (_ ∷ more))

pub returns : goal.returns
returns c =
    let t = YieldsList-end (YieldsList-from_chars c.as_str.result.now c.as_str.utf8 cc) c.loop-c.yielded _ c.loop-c.yielded_by _ _ c.in-None.is c.next.ensures.steps in
    let all : c.loop-c.yielded ≡ c.args.text.now = sym (same_map c.loop-c.yielded) ∙ t.0 ∙ spells _ _ c.as_str.ensures.bytes c.as_str.ensures.scalars in
    read_all c.loop-c.reading c.loop-c.yielded c.args.text.now _ c.integer.ensures (c.loop-c.invariant []) all
