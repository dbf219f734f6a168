-- The bytes of cells and names are their characters.
use Rattle.std.proofs.Common.{◌≡◌, ℕ, ◌^◌, ◌<◌, List, [], ◌∷◌, ◌++◌, Bool, true, false, refl, arith}
use Rattle.std.specs.Prelude.{codes, decimal, nat_lt, ◌&&◌}
use Rattle.std.proofs.lemmas.Bool.Decides.{nat_tests}
use Rattle.std.specs.List.{list_all}
use Rattle.std.specs.Str.{chars, IsAscii}
use Rattle.std.proofs.lemmas.Fmt.{IsAscii-decimal}
use Rattle.std.proofs.lemmas.Str.{IsAscii-append, chars-IsAscii}
use Rattle.std.proofs.lemmas.Str.Ascii.{IsAscii-nil, IsAscii-cons}
use Rattle.tree_maker.specs.Generator.{cell_text, name_of}

ascii_by : (bs : List ℕ) → list_all (λ b. nat_lt b 128) bs ≡ true → IsAscii bs
ascii_by [] h = IsAscii-nil
ascii_by (b ∷ bs) h = by (nat_lt b 128) refl h (ascii_by bs)
  where
    small : (b : ℕ) → nat_lt b 128 ≡ true → b < 128
    small b is = grind (arith, nat_tests)

    by : (t : Bool) → nat_lt b 128 ≡ t → (t && list_all (λ b. nat_lt b 128) bs) ≡ true → (list_all (λ b. nat_lt b 128) bs ≡ true → IsAscii bs) → IsAscii (b ∷ bs)
    by true is h more = IsAscii-cons b bs (small b is) (more h)
    by false is h more = absurd (cc)

-- a literal, a number, and what follows
more : (bs : List ℕ) (n : ℕ) (rest : List ℕ) → list_all (λ b. nat_lt b 128) bs ≡ true → n < 2 ^ 32 → IsAscii rest → IsAscii (bs ++ (decimal n ++ rest))
more bs n rest plain small after =
    IsAscii-append bs (decimal n ++ rest) (ascii_by bs plain) (IsAscii-append (decimal n) rest (IsAscii-decimal n (omega (arith, small))) after)

pub cell_chars : (k s m : ℕ) → k < 2 ^ 32 → s < 2 ^ 32 → m < 2 ^ 32 → chars (cell_text k s m) ≡ cell_text k s m
unfolding cell_text
cell_chars k s m few items lists =
    chars-IsAscii (cell_text k s m)
    (more (codes "l") m _ refl lists
    (more (codes " = [") k _ refl few
    (more (codes " + i for i in range(") s _ refl items
    (more (codes ")]\nprint(len(l") m _ refl lists
    (more (codes "), l") m _ refl lists
    (ascii_by (codes "[0])") refl))))))

pub name_chars : (i : ℕ) → i < 2 ^ 32 → chars (name_of i) ≡ name_of i
name_chars i small = chars-IsAscii (name_of i) (IsAscii-cons 118 (decimal i) (omega arith) (IsAscii-decimal i (omega (arith, small))))
