-- A number's spelling has the characters of a name alone.
use Rattle.std.proofs.Common.{◌≡◌, ℕ, ◌||◌, ◌==◌, Bool, true, false, cond, [], ◌∷◌, drop, Some, None, refl, ap, ◌∙◌, eqb-true, arith}
use Rattle.std.specs.List.{list_all}
use Rattle.std.specs.Char.{is_ascii_digit}
use Rattle.std.proofs.lemmas.Bool.Decides.{nat_tests}
use Rattle.star_lexer.specs.declared.chars.Class.{Class}
use Rattle.star_lexer.specs.declared.chars.Class.TheVariants as class
use Rattle.star_lexer.specs.Chars.{Chars, is_in, is_name_start}
use Rattle.star_lexer.specs.Numbers.{numeral, decimal, based, is_prefixed}
use Rattle.star_lexer.proofs.Runs.{both_true}

pub digit_not_start : (c : ℕ) → is_ascii_digit c ≡ true → is_name_start c ≡ false
digit_not_start c h = grind (arith, nat_tests)

pub hex_named : (c : ℕ) → is_in class.Hex c ≡ true → is_in class.Name c ≡ true
hex_named c h = grind (arith, nat_tests)

pub digit_named : (c : ℕ) → is_in class.Digit c ≡ true → is_in class.Name c ≡ true
digit_named c h = grind (arith, nat_tests)

pub octal_named : (c : ℕ) → is_in class.Octal c ≡ true → is_in class.Name c ≡ true
octal_named c h = grind (arith, nat_tests)

either_of : (f : ℕ → Bool) (d a b : ℕ) → f a ≡ true → f b ≡ true → (d == a || d == b) ≡ true → f d ≡ true
either_of f d a b fa fb h = by_first (d == a) refl h where
  by_first : (v : Bool) → (d == a) ≡ v → (v || d == b) ≡ true → f d ≡ true
  by_first true e h = ap f (eqb-true d a e) ∙ fa
  by_first false e h = ap f (eqb-true d b h) ∙ fb

prefix_alone : (c a b : ℕ) → is_prefixed a b (c ∷ []) ≡ true → list_all (is_in class.Name) (c ∷ []) ≡ true
prefix_alone c a b h =
    let here : is_in class.Name c ≡ true = ap (is_in class.Name) (eqb-true c 48 (both_true (c == 48) _ h).0) in
    rw here refl

list_all_wider : (f g : ℕ → Bool) (xs : Chars) → ((c : ℕ) → f c ≡ true → g c ≡ true) → list_all f xs ≡ true → list_all g xs ≡ true
list_all_wider f g [] wider all = refl
list_all_wider f g (x ∷ xs) wider all =
    let (here, more) = both_true (f x) (list_all f xs) all in
    rw (wider x here) (list_all_wider f g xs wider more)

some_test : (b : Bool) (x y : ℕ) → cond b (Some x) None ≡ Some y → b ≡ true
some_test true x y e = refl
some_test false x y e = cc

based_word : (a b : ℕ) (radix : Class) (s : Chars) → is_in class.Name a ≡ true → is_in class.Name b ≡ true → ((c : ℕ) → is_in radix c ≡ true → is_in class.Name c ≡ true) → is_prefixed a b s ≡ true → list_all (is_in radix) (drop 2 s) ≡ true → list_all (is_in class.Name) s ≡ true
based_word a b radix [] na nb wider h all = refl
based_word a b radix (c ∷ []) na nb wider h all = prefix_alone c a b h
based_word a b radix (c ∷ d ∷ ds) na nb wider h all =
    let (p, q) = both_true (c == 48) (d == a || d == b) h in
    let here : is_in class.Name c ≡ true = ap (is_in class.Name) (eqb-true c 48 p) in
    let next : is_in class.Name d ≡ true = either_of (is_in class.Name) d a b na nb q in
    rw here (rw next (list_all_wider (is_in radix) (is_in class.Name) ds wider all))

by_base : (s : Chars) (n : ℕ) (b d : Bool) → is_prefixed 120 88 s ≡ b → is_prefixed 111 79 s ≡ d → cond b (based class.Hex 16 (drop 2 s)) (cond d (based class.Octal 8 (drop 2 s)) (decimal s)) ≡ Some n → list_all (is_in class.Name) s ≡ true
unfolding based decimal
by_base s n true d h k e = based_word 120 88 class.Hex s refl refl hex_named h (both_true _ _ (some_test _ _ n e)).0
by_base s n false true h k e = based_word 111 79 class.Octal s refl refl octal_named k (both_true _ _ (some_test _ _ n e)).0
by_base s n false false h k e = list_all_wider (is_in class.Digit) (is_in class.Name) s digit_named (both_true _ _ (some_test _ _ n e)).0

pub numeral_named : (s : Chars) (n : ℕ) → numeral s ≡ Some n → list_all (is_in class.Name) s ≡ true
unfolding numeral
numeral_named s n e = by_base s n (is_prefixed 120 88 s) (is_prefixed 111 79 s) refl refl e
