-- Distinct items, one after the other.
use Rattle.std.proofs.Common.{◌≡◌, Bool, true, false, not, cond, ◌||◌, List, [], ◌∷◌, ◌++◌, fold, refl, sym, ap, ◌∙◌, append_assoc, append-nil}
use Rattle.std.specs.List.{filter, list_any}
use Rattle.std.proofs.lemmas.Bool.{false≢true}
use Rattle.std.proofs.lemmas.List.Elements.{filter-append}
use Rattle.std.proofs.lemmas.Map.Views.{any-filter_same}
use Rattle.exec_tree.specs.KeyLaws.{same_keys-Decides}
use Rattle.exec_tree.specs.Prefixes.{Prefix, firsts, same_prefix, keys}
use Rattle.exec_tree.specs.Growths.{with_prefix, grown}

-- one more item, unless it is the same as one before it
abbrev added : {X : Type 0} → (X → X → Bool) → List X → X → List X
added same xs y = cond (list_any (λ x. same x y) xs) xs (xs ++ y ∷ [])

-- sameness is handed on
abbrev IsChained : {X : Type 0} → (X → X → Bool) → Type 0
IsChained {X} same = (a b c : X) → same a b ≡ true → same b c ≡ true → same a c ≡ true

not_of : (t : Bool) → (t ≡ true → false ≡ true) → not t ≡ true
not_of true h = absurd (false≢true (h refl))
not_of false h = refl

-- where x is not the same as y, what is the same as y is not the same as x
any_others : {X : Type 0} (same : X → X → Bool) → IsChained same → (x y : X) (xs : List X) → same x y ≡ false
    → list_any (λ q. same q y) (filter (λ z. not (same x z)) xs) ≡ list_any (λ q. same q y) xs
any_others same chained x y xs other =
    any-filter_same (λ q. same q y) (λ z. not (same x z)) true (λ q h. not_of (same x q) (λ both. sym other ∙ chained x q y both h)) xs

filter_added : {X : Type 0} (test : X → Bool) (xs : List X) (y : X) (t : Bool) → filter test (cond t xs (xs ++ y ∷ [])) ≡ cond t (filter test xs) (filter test xs ++ cond (test y) (y ∷ []) [])
filter_added test xs y true = refl
filter_added test xs y false = filter-append test xs (y ∷ [])

choose : {X : Type 0} (xs ys : List X) (t : Bool) → xs ≡ ys → cond t xs ys ≡ xs
choose xs ys true e = refl
choose xs ys false e = sym e

-- x stands first, and then the others without it
behind : {X : Type 0} (same : X → X → Bool) → IsChained same → (x y : X) (xs : List X) (s : Bool) → same x y ≡ s
    → x ∷ filter (λ z. not (same x z)) (added same xs y) ≡ added same (x ∷ filter (λ z. not (same x z)) xs) y
behind {X} same chained x y xs true e =
    let test = λ (z : X). not (same x z) in
    let front = filter test xs in
    let left : filter test (added same xs y) ≡ front =
    filter_added test xs y (list_any (λ q. same q y) xs)
    ∙ ap (λ b. cond (list_any (λ q. same q y) xs) front (front ++ cond (not b) (y ∷ []) [])) e
    ∙ choose front (front ++ []) (list_any (λ q. same q y) xs) (sym (append-nil front)) in
    ap (λ l. x ∷ l) left ∙ sym (ap (λ b. cond (b || list_any (λ q. same q y) front) (x ∷ front) (x ∷ (front ++ y ∷ []))) e)
behind {X} same chained x y xs false e =
    let test = λ (z : X). not (same x z) in
    let front = filter test xs in
    let left : filter test (added same xs y) ≡ cond (list_any (λ q. same q y) xs) front (front ++ y ∷ []) =
    filter_added test xs y (list_any (λ q. same q y) xs)
    ∙ ap (λ b. cond (list_any (λ q. same q y) xs) front (front ++ cond (not b) (y ∷ []) [])) e in
    let right : added same (x ∷ front) y ≡ cond (list_any (λ q. same q y) xs) (x ∷ front) (x ∷ (front ++ y ∷ [])) =
    ap (λ b. cond (b || list_any (λ q. same q y) front) (x ∷ front) (x ∷ (front ++ y ∷ []))) e
    ∙ ap (λ b. cond b (x ∷ front) (x ∷ (front ++ y ∷ []))) (any_others same chained x y xs e) in
    ap (λ l. x ∷ l) left ∙ out (list_any (λ q. same q y) xs) x front (front ++ y ∷ []) ∙ sym right
  where
    out : {X : Type 0} (t : Bool) (x : X) (xs ys : List X) → x ∷ cond t xs ys ≡ cond t (x ∷ xs) (x ∷ ys)
    out true x xs ys = refl
    out false x xs ys = refl

pub firsts-push : {X : Type 0} (same : X → X → Bool) → IsChained same → (xs : List X) (y : X) → firsts same (xs ++ y ∷ []) ≡ added same (firsts same xs) y
unfolding firsts
firsts-push same chained [] y = refl
firsts-push same chained (x ∷ xs) y =
    ap (λ l. x ∷ filter (λ z. not (same x z)) l) (firsts-push same chained xs y) ∙ behind same chained x y (firsts same xs) (same x y) refl

chained_prefix : IsChained same_prefix
chained_prefix a b c h k =
    let first = (same_keys-Decides (keys a) (keys b)).0 h in
    let second = (same_keys-Decides (keys b) (keys c)).0 k in
    (same_keys-Decides (keys a) (keys c)).1 (first ∙ second)

-- known prefixes and more after them
after : (before more : List Prefix) → grown (firsts same_prefix before) more ≡ firsts same_prefix (before ++ more)
unfolding grown with_prefix
after before [] = sym (ap (firsts same_prefix) (append-nil before))
after before (p ∷ more) =
    sym (ap (λ known. fold with_prefix known more) (firsts-push same_prefix chained_prefix before p))
    ∙ after (before ++ p ∷ []) more
    ∙ ap (firsts same_prefix) (append_assoc before (p ∷ []) more)

-- the distinct prefixes are those that are added one after the other
pub grown-firsts : (all : List Prefix) → grown [] all ≡ firsts same_prefix all
unfolding firsts
grown-firsts all = after [] all
