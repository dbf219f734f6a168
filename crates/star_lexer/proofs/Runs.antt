-- The longest run at the front of a text.
use Rattle.std.proofs.Common.{◌≡◌, ℕ, suc, ◌+◌, ◌≤◌, ◌&&◌, ◌==◌, Bool, true, false, cond, ◌⊎◌, inl, inr, [], ◌∷◌, ◌++◌, length, take, drop, refl, sym, ap, ◌∙◌, ne_eqb, arith}
use Rattle.std.specs.List.{prefix_len, list_all}
use Rattle.star_lexer.specs.Chars.{Chars, first}

pub both_true : (a b : Bool) → (a && b) ≡ true → (a ≡ true) × (b ≡ true)
both_true true b e = (refl, e)
both_true false b e = cc

pub two : (b : Bool) → (b ≡ true) ⊎ (b ≡ false)
two true = inl refl
two false = inr refl

-- a test that holds of c and not of n tells them apart
pub differs : (f : ℕ → Bool) (c n : ℕ) → f c ≡ true → f n ≡ false → (c == n) ≡ false
differs f c n holds fails = ne_eqb c n (λ e. let x : true ≡ false = sym holds ∙ ap f e ∙ fails in cc)

pub run_reaches : (p : ℕ → Bool) (xs ys : Chars) → list_all p xs ≡ true → length xs ≤ prefix_len p (xs ++ ys)
run_reaches p [] ys all = omega arith
run_reaches p (x ∷ xs) ys all =
    let (here, more) = both_true (p x) (list_all p xs) all in
    let next = run_reaches p xs ys more in
    rw here (omega arith)

pub run_exact : (p : ℕ → Bool) (xs ys : Chars) → list_all p xs ≡ true → p (first ys) ≡ false → prefix_len p (xs ++ ys) ≡ length xs
run_exact p [] [] all stop = refl
run_exact p [] (y ∷ ys) all stop = rw stop refl
run_exact p (x ∷ xs) ys all stop =
    let (here, more) = both_true (p x) (list_all p xs) all in
    let next = run_exact p xs ys more stop in
    rw here (omega arith)

run_front_by : (p : ℕ → Bool) (x : ℕ) (xs : Chars) (b : Bool) → p x ≡ b → list_all p (take (prefix_len p xs) xs) ≡ true → list_all p (take (cond b (1 + prefix_len p xs) 0) (x ∷ xs)) ≡ true
run_front_by p x xs true e h = let one : 1 + prefix_len p xs ≡ suc (prefix_len p xs) = omega arith in rw one (rw e h)
run_front_by p x xs false e h = refl

pub run_front : (p : ℕ → Bool) (xs : Chars) → list_all p (take (prefix_len p xs) xs) ≡ true
run_front p [] = refl
run_front p (x ∷ xs) = run_front_by p x xs (p x) refl (run_front p xs)

run_stops_by : (p : ℕ → Bool) (x : ℕ) (xs : Chars) (b : Bool) → p x ≡ b → p (first (drop (prefix_len p xs) xs)) ≡ false → p (first (drop (cond b (1 + prefix_len p xs) 0) (x ∷ xs))) ≡ false
run_stops_by p x xs true e h = let one : 1 + prefix_len p xs ≡ suc (prefix_len p xs) = omega arith in rw one h
run_stops_by p x xs false e h = e

pub run_stops : (p : ℕ → Bool) (xs : Chars) → p 0 ≡ false → p (first (drop (prefix_len p xs) xs)) ≡ false
run_stops p [] end = end
run_stops p (x ∷ xs) end = run_stops_by p x xs (p x) refl (run_stops p xs end)
