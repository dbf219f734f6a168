-- Names of the inputs: one that is above all others, and one that is another.
use Rattle.std.proofs.Common.{◌≡◌, ◌≢◌, ℕ, List, [], ◌∷◌, ◌++◌, Ordering, Less, Equal, Greater, false, refl, sym, ap, subst, append_assoc, ◌∙◌}
use Rattle.std.proofs.lemmas.Cmp.{nat_list_cmp_total}
use Rattle.std.specs.List.{AllByRecursion}
use Rattle.std.specs.List.Sorted.{IsStrictlySortedBy}
use Rattle.std.specs.Map.{keys_of}
use Rattle.std.specs.BTreeMap.{is_at}
use Rattle.std.specs.FinMap.{nat_cmp-IsAntisymmetric, slice_cmp-IsAntisymmetric}
use Rattle.std.specs.Ordering.{is_eq, ordering_reverse}
use Rattle.chex_base.specs.TextOrder.{text_cmp}
use Rattle.chex_base.specs.Inputs.{with_value, IsRising}
use Rattle.chex_base.specs.declared.input.Input.{Input}

pub text_cmp-reversed : (a b : List ℕ) → text_cmp a b ≡ Less → text_cmp b a ≡ Greater
text_cmp-reversed a b less = nat_list_cmp_total.antisymm b a ∙ ap ordering_reverse less

below_middle : (first : List ℕ) (done : List (List ℕ × Input)) (name : List ℕ) (more : List (List ℕ))
    → AllByRecursion (λ y. text_cmp first y ≡ Less) (keys_of done ++ name ∷ more) → text_cmp first name ≡ Less
below_middle first [] name more h = h.0
below_middle first (x ∷ done) name more h = below_middle first done name more h.1

-- a name that is above those before it goes last
pub with_value-last : (done : List (List ℕ × Input)) (name : List ℕ) (value : Input) (more : List (List ℕ))
    → IsStrictlySortedBy text_cmp (keys_of done ++ name ∷ more) → with_value done name value ≡ done ++ (name, value) ∷ []
unfolding IsStrictlySortedBy
with_value-last [] name value more h = refl
with_value-last (first ∷ done) name value more h =
    let above : text_cmp name first.0 ≡ Greater = text_cmp-reversed first.0 name (below_middle first.0 done name more h.0) in
    rw above (ap (λ rest. first ∷ rest) (with_value-last done name value more h.1))

pub keys_of-append : (xs ys : List (List ℕ × Input)) → keys_of (xs ++ ys) ≡ keys_of xs ++ keys_of ys
keys_of-append [] ys = refl
keys_of-append (x ∷ xs) ys = ap (λ names. x.0 ∷ names) (keys_of-append xs ys)

-- a map that is copied as far as to a name, with that name's value
pub one_more-copied : (copied more whole : List (List ℕ × Input)) (name : List ℕ) (value : Input)
    → IsRising whole → copied ++ (name, value) ∷ more ≡ whole → with_value copied name value ++ more ≡ whole
one_more-copied copied more whole name value rising is =
    let sorted : IsStrictlySortedBy text_cmp (keys_of copied ++ name ∷ keys_of more)
    = subst (IsStrictlySortedBy text_cmp) (ap keys_of (sym is) ∙ keys_of-append copied ((name, value) ∷ more)) rising in
    ap (λ prefix. prefix ++ more) (with_value-last copied name value (keys_of more) sorted)
    ∙ append_assoc copied ((name, value) ∷ []) more ∙ is

-- another name has another place
pub not_at : (name other : List ℕ) → other ≢ name → is_at (text_cmp name) other ≡ false
not_at name other differs = by (text_cmp name other) refl
  where
    by : (answer : Ordering) → text_cmp name other ≡ answer → is_eq answer ≡ false
    by Less is = refl
    by Equal is = absurd (differs (sym (slice_cmp-IsAntisymmetric nat_cmp-IsAntisymmetric name other is)))
    by Greater is = refl
