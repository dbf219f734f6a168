-- The bytes of the lines are their characters.
use Rattle.std.proofs.Common.{◌≡◌, ℕ, ◌^◌, ◌<◌, List, [], ◌∷◌, ◌++◌, Bool, true, false, Some, refl, arith}
use Rattle.std.specs.Prelude.{codes, decimal, nat_lt, ◌&&◌}
use Rattle.std.proofs.lemmas.Bool.Decides.{nat_tests}
use Rattle.std.specs.List.{list_all}
use Rattle.std.specs.Str.{chars, IsAscii}
use Rattle.std.proofs.lemmas.Fmt.{IsAscii-decimal}
use Rattle.std.proofs.lemmas.Str.{IsAscii-append, chars-IsAscii}
use Rattle.std.proofs.lemmas.Str.Ascii.{IsAscii-nil, IsAscii-cons}
use Rattle.chex_report.specs.Summaries.{steps_text, blocks_text, cost_line}

ascii_by : (bs : List ℕ) → list_all (λ b. nat_lt b 128) bs ≡ true → IsAscii bs
ascii_by [] h = IsAscii-nil
ascii_by (b ∷ bs) h = by (nat_lt b 128) refl h (ascii_by bs)
  where
    small : (b : ℕ) → nat_lt b 128 ≡ true → b < 128
    small b is = grind (arith, nat_tests)

    by : (t : Bool) → nat_lt b 128 ≡ t → (t && list_all (λ b. nat_lt b 128) bs) ≡ true → (list_all (λ b. nat_lt b 128) bs ≡ true → IsAscii bs) → IsAscii (b ∷ bs)
    by true is h more = IsAscii-cons b bs (small b is) (more h)
    by false is h more = absurd (cc)

-- a literal, a number, and what follows
more : (bs : List ℕ) (n : ℕ) (rest : List ℕ) → list_all (λ b. nat_lt b 128) bs ≡ true → n < 2 ^ 64 → IsAscii rest → IsAscii (bs ++ (decimal n ++ rest))
more bs n rest plain small after =
    IsAscii-append bs (decimal n ++ rest) (ascii_by bs plain) (IsAscii-append (decimal n) rest (IsAscii-decimal n small) after)

pub steps_chars : (versions nodes alone replayed : ℕ) → versions < 2 ^ 64 → nodes < 2 ^ 64 → alone < 2 ^ 64 → replayed < 2 ^ 64
    → chars (steps_text versions nodes alone replayed) ≡ steps_text versions nodes alone replayed
unfolding steps_text
steps_chars versions nodes alone replayed v n a r =
    chars-IsAscii (steps_text versions nodes alone replayed)
    (more (codes "-- versions ") versions _ refl v
    (more (codes ", nodes ") nodes _ refl n
    (more (codes ", alone ") alone _ refl a
    (more (codes " steps, replayed ") replayed _ refl r
    (ascii_by (codes " steps, ") refl)))))

pub blocks_chars : (peak most block : ℕ) → peak < 2 ^ 64 → most < 2 ^ 64 → block < 2 ^ 64 → chars (blocks_text peak most block) ≡ blocks_text peak most block
unfolding blocks_text
blocks_chars peak most block p m b =
    chars-IsAscii (blocks_text peak most block)
    (more (codes "peak ") peak _ refl p
    (more (codes " of ") most _ refl m
    (more (codes " blocks of ") block _ refl b
    (ascii_by (codes " bytes\n") refl))))

pub cost_chars : (cost : ℕ) → cost < 2 ^ 64 → chars (cost_line (Some cost)) ≡ cost_line (Some cost)
unfolding cost_line
cost_chars cost small = chars-IsAscii (cost_line (Some cost)) (more (codes "-- cost ") cost _ refl small (ascii_by (codes " steps\n") refl))
