-- The first item of a list that is wrong.
use Rattle.std.proofs.Common.{◌≡◌, ◌<◌, ◌+◌, ℕ, suc, List, [], ◌∷◌, ◌++◌, length, take, drop, get_or, sym, ◌∙◌, ap, subst, refl, arith}
use Rattle.std.specs.List.{AllZip}
use Rattle.std.proofs.lemmas.List.{length-take, drop_more, take-append-drop}
use Rattle.chex_top.specs.Jobs.{IsFirst}

module _ {A B C : Type 0} (Makes : A → B → Type 0) (Wrong : A → C → Type 0) where
  -- it stands where a loop stops at it
  pub first_here : (items : List A) (i : ℕ) (made : List B) (x : A) (why : C) → i < length items → x ≡ get_or items i x → AllZip Makes (take i items) made → Wrong x why
      → IsFirst Makes Wrong items (i + 1) why
  first_here items i made x why inside here fine wrong = record {
    before = take i items;
    made = made;
    item = x;
    after = drop (i + 1) items;
    whole = sym (take-append-drop i items) ∙ ap (λ rest. take i items ++ rest) (drop_more items i x inside ∙ ap (λ y. y ∷ drop (i + 1) items) (sym here));
    fine = fine;
    numbered = let long : length (take i items) ≡ i = omega (arith, length-take i items, inside) in ap (λ n. n + 1) (sym long);
    wrong = wrong;
  }

  apart_at : (before : List A) (made all : List B) (x : A) (after : List A) (why : C) → ((y : B) → Makes x y → Wrong x why → ⊥)
      → AllZip Makes before made → Wrong x why → AllZip Makes (before ++ x ∷ after) all → ⊥
  apart_at [] made [] x after why never fine wrong h = absurd h
  apart_at [] made (y ∷ ys) x after why never fine wrong h = never y h.0 wrong
  apart_at (b ∷ before) [] all x after why never fine wrong h = absurd fine
  apart_at (b ∷ before) (m ∷ made) [] x after why never fine wrong h = absurd h
  apart_at (b ∷ before) (m ∷ made) (y ∷ ys) x after why never fine wrong h = apart_at before made ys x after why never fine.1 wrong h.1

  -- where one is wrong, not of all something is made
  pub first_apart : (items : List A) (all : List B) (number : ℕ) (why : C) → ((x : A) (y : B) → Makes x y → Wrong x why → ⊥)
      → AllZip Makes items all → IsFirst Makes Wrong items number why → ⊥
  first_apart items all number why never h first =
      apart_at first.before first.made all first.item first.after why (never first.item) first.fine first.wrong (subst (λ xs. AllZip Makes xs all) first.whole h)

-- Where nothing is made of an item that is wrong, and one thing at most is wrong with an item, one item at most is the first that is wrong.
module _ {A B C : Type 0} (Makes : A → B → Type 0) (Wrong : A → C → Type 0) (apart : (x : A) (y : B) (why : C) → Makes x y → Wrong x why → ⊥)
    (one : (x : A) (c d : C) → Wrong x c → Wrong x d → c ≡ d) where
  once_at : (before other : List A) (made more : List B) (x y : A) (after rest : List A) (c d : C) → before ++ x ∷ after ≡ other ++ y ∷ rest
      → AllZip Makes before made → AllZip Makes other more → Wrong x c → Wrong y d → (length before ≡ length other) × (c ≡ d)
  once_at [] [] made more x y after rest c d same fine well wrong bad =
      let here : x ≡ y = cc in (refl, one y c d (subst (λ z. Wrong z c) here wrong) bad)
  once_at [] (o ∷ other) made [] x y after rest c d same fine well wrong bad = absurd well
  once_at [] (o ∷ other) made (n ∷ more) x y after rest c d same fine well wrong bad =
      let here : x ≡ o = cc in absurd (apart o n c well.0 (subst (λ z. Wrong z c) here wrong))
  once_at (b ∷ before) other [] more x y after rest c d same fine well wrong bad = absurd fine
  once_at (b ∷ before) [] (m ∷ made) more x y after rest c d same fine well wrong bad =
      let here : y ≡ b = cc in absurd (apart b m d fine.0 (subst (λ z. Wrong z d) here bad))
  once_at (b ∷ before) (o ∷ other) (m ∷ made) [] x y after rest c d same fine well wrong bad = absurd well
  once_at (b ∷ before) (o ∷ other) (m ∷ made) (n ∷ more) x y after rest c d same fine well wrong bad =
      let next : before ++ x ∷ after ≡ other ++ y ∷ rest = cc in
      let r = once_at before other made more x y after rest c d next fine.1 well.1 wrong bad in
      (ap suc r.0, r.1)

  pub first_once : (items : List A) (m n : ℕ) (c d : C) → IsFirst Makes Wrong items m c → IsFirst Makes Wrong items n d → (m ≡ n) × (c ≡ d)
  first_once items m n c d first other =
      let r = once_at first.before other.before first.made other.made first.item other.item first.after other.after c d (sym first.whole ∙ other.whole)
      first.fine other.fine first.wrong other.wrong in
      (first.numbered ∙ ap (λ k. k + 1) r.0 ∙ sym other.numbered, r.1)
