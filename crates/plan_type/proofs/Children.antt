-- The children found so far, and one more number.
use Rattle.std.proofs.Common.{◌≡◌, ◌∙◌, ℕ, zero, suc, ◌+◌, ◌-◌, ◌≤◌, List, [], ◌∷◌, ◌++◌, Bool, true, false, cond, refl, ap, arith}
use Rattle.std.specs.List.{filter, range_with_len}

push : (a m : ℕ) → range_with_len a (suc m) ≡ range_with_len a m ++ (a + m) ∷ []
push a zero = ap (λ n. n ∷ []) (let e : a ≡ a + 0 = omega arith in e)
push a (suc m) = ap (λ l. a ∷ l) (push (a + 1) m ∙ ap (λ n. range_with_len (a + 1) m ++ n ∷ []) (let e : a + 1 + m ≡ a + suc m = omega arith in e))

filter_push : (p : ℕ → Bool) (xs : List ℕ) (y : ℕ) → filter p (xs ++ y ∷ []) ≡ filter p xs ++ cond (p y) (y ∷ []) []
filter_push p [] y = refl
filter_push p (x ∷ xs) y = by (p x) (filter_push p xs y)
  where
    by : (b : Bool) → filter p (xs ++ y ∷ []) ≡ filter p xs ++ cond (p y) (y ∷ []) [] → cond b (x ∷ filter p (xs ++ y ∷ [])) (filter p (xs ++ y ∷ [])) ≡ cond b (x ∷ filter p xs) (filter p xs) ++ cond (p y) (y ∷ []) []
    by true i = ap (λ l. x ∷ l) i
    by false i = i

pub more : (p : ℕ → Bool) (n : ℕ) → 1 ≤ n → filter p (range_with_len 1 (n + 1 - 1)) ≡ filter p (range_with_len 1 (n - 1)) ++ cond (p n) (n ∷ []) []
more p n some =
    let a : n + 1 - 1 ≡ suc (n - 1) = omega arith in let b : 1 + (n - 1) ≡ n = omega arith in
    ap (λ k. filter p (range_with_len 1 k)) a ∙ ap (filter p) (push 1 (n - 1)) ∙ filter_push p (range_with_len 1 (n - 1)) (1 + (n - 1))
    ∙ ap (λ k. filter p (range_with_len 1 (n - 1)) ++ cond (p k) (k ∷ []) []) b
