use Rattle.std.proofs.Common.{◌≡◌, ℕ, List, ◌∷◌, [], ◌++◌, map, refl, sym, ap, ◌∙◌}
use Rattle.std.specs.List.{flat_map}
use Rattle.std.proofs.lemmas.Iterator.{YieldsList-from_chars}
use Rattle.std.proofs.lemmas.Iterator.Consumers.{YieldsList-end}
use Rattle.star_value.proofs.Places.{spells}
use Rattle.star_meaning.specs.Showing.{escaped, quoted_text}
use Rattle.star_builtins.proofs.plain.quoted_text.Goals as goal

same_map : (xs : List ℕ) → map (λ c. c) xs ≡ xs
same_map [] = refl
same_map (x ∷ xs) = ap (λ r. x ∷ r) (same_map xs)

quoted_is : (points : List ℕ) → quoted_text points ≡ 34 ∷ flat_map escaped points ++ 34 ∷ []
unfolding quoted_text
quoted_is points = refl

pub returns : goal.returns
returns c =
    let t = YieldsList-end (YieldsList-from_chars c.as_str.result.now c.as_str.utf8 cc) c.loop-c.yielded _ c.loop-c.yielded_by _ _ c.in-None.is c.next.ensures.steps in
    let all : c.loop-c.yielded ≡ c.args.text.now = sym (same_map c.loop-c.yielded) ∙ t.0 ∙ spells _ _ c.as_str.ensures.bytes c.as_str.ensures.scalars in
    let e : c.as_slice.result.now ≡ quoted_text c.args.text.now =
    c.as_slice.ensures.value ∙ c.in_ok-push-2.ensures.items ∙ ap (λ points. points ++ 34 ∷ []) (c.loop-c.invariant ∙ ap (λ points. 34 ∷ flat_map escaped points) all) ∙ sym (quoted_is c.args.text.now) in
    rw (← e) c.from_chars.ensures
