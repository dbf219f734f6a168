-- The bytes of lines are their characters.
use Rattle.std.proofs.Common.{◌≡◌, ℕ, ◌^◌, ◌<◌, List, [], ◌∷◌, ◌++◌, Bool, true, false, refl, arith}
use Rattle.std.specs.Prelude.{codes, decimal, nat_lt, ◌&&◌}
use Rattle.std.proofs.lemmas.Bool.Decides.{nat_tests}
use Rattle.std.specs.List.{list_all}
use Rattle.std.specs.Str.{chars, IsAscii}
use Rattle.std.proofs.lemmas.Fmt.{IsAscii-decimal_wide}
use Rattle.std.proofs.lemmas.Str.{IsAscii-append, chars-IsAscii}
use Rattle.std.proofs.lemmas.Str.Ascii.{IsAscii-nil, IsAscii-cons}
use Rattle.plan_type.specs.declared.operations.Operation.TheVariants.{Reset, Compute, Checkpoint, Restore, Evict}
use Rattle.tap_list.specs.declared.tally.Counts.{Counts}
use Rattle.hex.specs.Hex.{encode_lower, lower_digits}
use Rattle.hex.proofs.HexLemmas.{IsAscii-encode_with}
use Rattle.tap_list.specs.Lines.{line_of}
use Rattle.tap_list.specs.Counts.{tally_text}

ascii_by : (bs : List ℕ) → list_all (λ b. nat_lt b 128) bs ≡ true → IsAscii bs
ascii_by [] h = IsAscii-nil
ascii_by (b ∷ bs) h = by (nat_lt b 128) refl h (ascii_by bs)
  where
    small : (b : ℕ) → nat_lt b 128 ≡ true → b < 128
    small b is = grind (arith, nat_tests)

    by : (t : Bool) → nat_lt b 128 ≡ t → (t && list_all (λ b. nat_lt b 128) bs) ≡ true → (list_all (λ b. nat_lt b 128) bs ≡ true → IsAscii bs) → IsAscii (b ∷ bs)
    by true is h more = IsAscii-cons b bs (small b is) (more h)
    by false is h more = absurd (cc)

-- a literal, a number, and what follows
more : (bs : List ℕ) (n : ℕ) (rest : List ℕ) → list_all (λ b. nat_lt b 128) bs ≡ true → n < 2 ^ 128 → IsAscii rest → IsAscii (bs ++ (decimal n ++ rest))
more bs n rest plain small after =
    IsAscii-append bs (decimal n ++ rest) (ascii_by bs plain) (IsAscii-append (decimal n) rest (IsAscii-decimal_wide n (omega (arith, small))) after)

end : IsAscii (codes "\n")
end = ascii_by (codes "\n") refl

pub reset_chars : chars (line_of Reset) ≡ line_of Reset
unfolding line_of
reset_chars = chars-IsAscii (codes "reset\n") (ascii_by (codes "reset\n") refl)

pub compute_chars : (v n : ℕ) → v < 2 ^ 32 → n < 2 ^ 64 → chars (line_of (Compute v n)) ≡ line_of (Compute v n)
unfolding line_of
compute_chars v n node steps =
    chars-IsAscii (line_of (Compute v n)) (more (codes "compute ") v _ refl (omega (arith, node)) (more (codes " ") n _ refl (omega (arith, steps)) end))

pub checkpoint_chars : (v n : ℕ) → v < 2 ^ 32 → n < 2 ^ 32 → chars (line_of (Checkpoint v n)) ≡ line_of (Checkpoint v n)
unfolding line_of
checkpoint_chars v n node blocks =
    chars-IsAscii (line_of (Checkpoint v n)) (more (codes "checkpoint ") v _ refl (omega (arith, node)) (more (codes " ") n _ refl (omega (arith, blocks)) end))

pub restore_chars : (v : ℕ) → v < 2 ^ 32 → chars (line_of (Restore v)) ≡ line_of (Restore v)
unfolding line_of
restore_chars v node = chars-IsAscii (line_of (Restore v)) (more (codes "restore ") v _ refl (omega (arith, node)) end)

pub evict_chars : (v : ℕ) → v < 2 ^ 32 → chars (line_of (Evict v)) ≡ line_of (Evict v)
unfolding line_of
evict_chars v node = chars-IsAscii (line_of (Evict v)) (more (codes "evict ") v _ refl (omega (arith, node)) end)

pub tally_chars : (c : Counts) → c.computes < 2 ^ 64 → c.checkpoints < 2 ^ 64 → c.restores < 2 ^ 64 → c.evicts < 2 ^ 64 → c.steps < 2 ^ 128 → chars (tally_text c) ≡ tally_text c
unfolding tally_text
tally_chars c a b d e s =
    chars-IsAscii (tally_text c)
    (more (codes "computes ") c.computes _ refl (omega (arith, a))
    (more (codes " checkpoints ") c.checkpoints _ refl (omega (arith, b))
    (more (codes " restores ") c.restores _ refl (omega (arith, d))
    (more (codes " evicts ") c.evicts _ refl (omega (arith, e))
    (more (codes " steps ") c.steps _ refl (omega (arith, s)) end)))))

pub digits_chars : (digest : List ℕ) → chars (encode_lower digest) ≡ encode_lower digest
digits_chars digest = chars-IsAscii (encode_lower digest) (IsAscii-encode_with lower_digits digest (ascii_by lower_digits refl))

pub end_chars : chars (codes "\n") ≡ codes "\n"
end_chars = chars-IsAscii (codes "\n") end
