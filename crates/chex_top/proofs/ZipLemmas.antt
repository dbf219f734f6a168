-- Items of two lists, place by place, as a loop over the first list makes the second.
use Rattle.std.proofs.Common.{◌≡◌, ◌<◌, ◌+◌, ℕ, List, [], ◌∷◌, ◌++◌, length, take, get_or, sym, ◌∙◌, ap, subst}
use Rattle.std.specs.List.{AllZip}
use Rattle.std.proofs.lemmas.List.{take_more}

module _ {A B : Type 0} (R : A → B → Type 0) where
  pub zip_more : (xs : List A) (ys : List B) (x : A) (y : B) → AllZip R xs ys → R x y → AllZip R (xs ++ x ∷ []) (ys ++ y ∷ [])
  zip_more [] [] x y h r = (r, tt)
  zip_more [] (y' ∷ ys) x y h r = absurd h
  zip_more (x' ∷ xs) [] x y h r = absurd h
  zip_more (x' ∷ xs) (y' ∷ ys) x y h r = (h.0, zip_more xs ys x y h.1 r)

  pub zip_next : (xs : List A) (i : ℕ) (ys : List B) (x : A) (y : B) → i < length xs → x ≡ get_or xs i x → AllZip R (take i xs) ys → R x y
      → AllZip R (take (i + 1) xs) (ys ++ y ∷ [])
  zip_next xs i ys x y inside here h r =
      subst (λ prefix. AllZip R prefix (ys ++ y ∷ [])) (sym (take_more xs i x inside ∙ ap (λ z. take i xs ++ z ∷ []) (sym here))) (zip_more (take i xs) ys x y h r)
