-- The least number that passes a test.
use Rattle.std.proofs.Common.{◌≡◌, ◌∙◌, ℕ, suc, ◌+◌, ◌-◌, ◌<◌, ◌≤◌, Bool, true, false, Some, None, sym, ap, arith}
use Rattle.std.specs.Prelude.{if◌then◌else◌}
use Rattle.std.specs.List.{find, range_with_len}

-- from here on the search finds what the whole search finds
pub record MissingSo (test : ℕ → Bool) (number rows : ℕ) : Type 0 where
  pub some : 1 ≤ number
  pub whole : find test (range_with_len number (rows + 1 - number)) ≡ find test (range_with_len 1 rows)

pub missing_begin : (test : ℕ → Bool) (rows : ℕ) → MissingSo test 1 rows
missing_begin test rows = record { some = omega arith; whole = ap (λ n. find test (range_with_len 1 n)) (let e : rows + 1 - 1 ≡ rows = omega arith in e) }

opened : (test : ℕ → Bool) (number rows : ℕ) → number < rows + 1 → find test (range_with_len number (rows + 1 - number)) ≡ (if test number then Some number else find test (range_with_len (number + 1) (rows + 1 - (number + 1))))
opened test number rows lt = ap (λ n. find test (range_with_len number n)) (let e : rows + 1 - number ≡ suc (rows + 1 - (number + 1)) = omega arith in e)

pub missing_found : (test : ℕ → Bool) (number rows : ℕ) → MissingSo test number rows → number < rows + 1 → test number ≡ true → Some number ≡ find test (range_with_len 1 rows)
missing_found test number rows so lt is = sym (sym so.whole ∙ opened test number rows lt ∙ ap (λ b. if b then Some number else find test (range_with_len (number + 1) (rows + 1 - (number + 1)))) is)

pub missing_more : (test : ℕ → Bool) (number rows : ℕ) → MissingSo test number rows → number < rows + 1 → test number ≡ false → MissingSo test (number + 1) rows
missing_more test number rows so lt is = record {
  some = omega arith;
  whole = sym (opened test number rows lt ∙ ap (λ b. if b then Some number else find test (range_with_len (number + 1) (rows + 1 - (number + 1)))) is) ∙ so.whole;
}

pub missing_none : (test : ℕ → Bool) (number rows : ℕ) → MissingSo test number rows → rows + 1 ≤ number → None ≡ find test (range_with_len 1 rows)
missing_none test number rows so past = ap (λ n. find test (range_with_len number n)) (let e : 0 ≡ rows + 1 - number = omega arith in e) ∙ so.whole
