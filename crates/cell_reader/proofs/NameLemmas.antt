-- Two rising lists of the same names are one list.
use Rattle.std.proofs.Common.{◌≡◌, true, false, ◌||◌, List, [], ◌∷◌, sym, ◌∙◌, ap, subst, refl}
use Rattle.std.specs.List.{AllByRecursion, list_any}
use Rattle.std.specs.List.Sorted.{IsStrictlySortedBy}
use Rattle.std.specs.Cmp.{IsTotalOrder, tied_itself}
use Rattle.std.specs.Cmp.Lexicographic.{nat_list_cmp_total}
use Rattle.std.specs.FinSet as set
use Rattle.std.specs.FinSet.{IsAntisymmetric, contains-from_list, nat_cmp-IsAntisymmetric, slice_cmp-IsAntisymmetric}
use Rattle.std.specs.Ordering.{eq_by_cmp, is_eq, ordering_reverse}
use Rattle.std.specs.declared.cmp.Ordering.{Ordering}
use Rattle.std.specs.declared.cmp.Ordering.TheVariants.{Less, Equal, Greater}
use Rattle.chex_base.specs.TextOrder.{text_cmp}
use Rattle.star_syntax.specs.declared.statement.Module.{Module}
use Rattle.star_syntax.specs.Placement.{AreInputNames}

module _ {K : Type 0} {R : K → K → Ordering} (o : IsTotalOrder R) (one : IsAntisymmetric R) where
  -- a key that is below all keys of a list is none of them
  none_of : (q : K) (xs : List K) → AllByRecursion (λ y. R q y ≡ Less) xs → list_any (eq_by_cmp R q) xs ≡ false
  none_of q [] h = refl
  none_of q (x ∷ xs) h = rw h.0 (none_of q xs h.1)

  below_all : (q x : K) (xs : List K) → R q x ≡ Less → AllByRecursion (λ y. R x y ≡ Less) xs → AllByRecursion (λ y. R q y ≡ Less) xs
  below_all q x [] less h = tt
  below_all q x (y ∷ ys) less h = (o.trans q x y less h.0, below_all q x ys less h.1)

  -- a key below the first of a rising list is none of it
  before_first : (q y : K) (ys : List K) → R q y ≡ Less → AllByRecursion (λ z. R y z ≡ Less) ys → list_any (eq_by_cmp R q) (y ∷ ys) ≡ false
  before_first q y ys less h = rw less (none_of q ys (below_all q y ys less h))

  first_of : (x : K) (xs : List K) → list_any (eq_by_cmp R x) (x ∷ xs) ≡ true
  first_of x xs = rw (tied_itself o x) refl

  pub same_rising : (xs ys : List K) → IsStrictlySortedBy R xs → IsStrictlySortedBy R ys → ((q : K) → list_any (eq_by_cmp R q) xs ≡ list_any (eq_by_cmp R q) ys) → xs ≡ ys
  unfolding IsStrictlySortedBy
  same_rising [] [] h k each = refl
  same_rising [] (y ∷ ys) h k each = let never : false ≡ true = each y ∙ first_of y ys in cc
  same_rising (x ∷ xs) [] h k each = let never : true ≡ false = sym (first_of x xs) ∙ each x in cc
  same_rising (x ∷ xs) (y ∷ ys) h k each = by (R x y) refl (same_rising xs ys h.1 k.1)
    where
      tails : x ≡ y → (q : K) (r : Ordering) → R q x ≡ r → list_any (eq_by_cmp R q) xs ≡ list_any (eq_by_cmp R q) ys
      tails same q Equal is =
          let here : q ≡ x = one q x is in
          none_of q xs (subst (λ z. AllByRecursion (λ y. R z y ≡ Less) xs) (sym here) h.0)
          ∙ sym (none_of q ys (subst (λ z. AllByRecursion (λ y. R z y ≡ Less) ys) (sym (here ∙ same)) k.0))
      tails same q Less is =
          let other : R q y ≡ Less = ap (R q) (sym same) ∙ is in
          let whole : (is_eq (R q x) || list_any (eq_by_cmp R q) xs) ≡ (is_eq (R q y) || list_any (eq_by_cmp R q) ys) = each q in
          rw (is, other) at whole
      tails same q Greater is =
          let other : R q y ≡ Greater = ap (R q) (sym same) ∙ is in
          let whole : (is_eq (R q x) || list_any (eq_by_cmp R q) xs) ≡ (is_eq (R q y) || list_any (eq_by_cmp R q) ys) = each q in
          rw (is, other) at whole

      by : (r : Ordering) → R x y ≡ r → (((q : K) → list_any (eq_by_cmp R q) xs ≡ list_any (eq_by_cmp R q) ys) → xs ≡ ys) → x ∷ xs ≡ y ∷ ys
      by Less is more = let never : true ≡ false = sym (first_of x xs) ∙ each x ∙ before_first x y ys is k.0 in cc
      by Greater is more =
          let less : R y x ≡ Less = o.antisymm y x ∙ ap ordering_reverse is in
          let never : false ≡ true = sym (before_first y x xs less h.0) ∙ each y ∙ first_of y ys in cc
      by Equal is more =
          let same : x ≡ y = one x y is in
          let rest : xs ≡ ys = more (λ q. tails same q (R q x) refl) in
          ap (λ z. z ∷ xs) same ∙ ap (λ zs. y ∷ zs) rest

pub names_once : (tree : Module) (one other : List (List _)) → AreInputNames tree one → AreInputNames tree other → one ≡ other
names_once tree one other h k =
    same_rising {R = text_cmp} nat_list_cmp_total (slice_cmp-IsAntisymmetric nat_cmp-IsAntisymmetric) one other h.rising k.rising
    (λ q. sym (contains-from_list nat_list_cmp_total one q) ∙ ap (λ s. set.contains s q) (h.same ∙ sym k.same) ∙ contains-from_list nat_list_cmp_total other q)
