-- Many parts that are read are those whose bytes stand there, where each is; and what is written is read again.
use Rattle.std.proofs.Common.{◌≡◌, ℕ, zero, suc, ◌+◌, ◌^◌, ◌<◌, ◌≤◌, Bool, true, false, List, [], ◌∷◌, ◌++◌, length, Some, None, Result, Ok, refl, sym, ap, subst, ◌∙◌, append_assoc, append-nil, length-append, arith}
use Rattle.std.specs.Prelude.{◌==◌, nat_lt, if◌then◌else◌}
use Rattle.std.specs.List.{flat_map}
use Rattle.star_meaning.specs.Snapshot.{count_bytes, counted, met_from}
use Rattle.snapshot_codec.specs.declared.fault.SnapFault.{SnapFault}
use Rattle.snapshot_codec.specs.Reading.{count_at, many_at}
use Rattle.snapshot_codec.proofs.FieldLaws.{IsBytes, Few, Takes, Takes-then, bind_ok, count_again, count_takes, few_after, ok_is}

-- ---- numbers that are met, in two steps

pub met_over : (met : ℕ) (ids more : List ℕ) (m : ℕ) → met_from met ids ≡ Some m → met_from met (ids ++ more) ≡ met_from m more
met_over met [] more m e = let same : met ≡ m = cc in ap (λ n. met_from n more) same
met_over met (id ∷ ids) more m e = by (nat_lt id met) (id == met) e (λ n f. met_over n ids more m f)
  where
    by : (t u : Bool) → (if t then met_from met ids else if u then met_from (met + 1) ids else None) ≡ Some m → ((n : ℕ) → met_from n ids ≡ Some m → met_from n (ids ++ more) ≡ met_from m more)
        → (if t then met_from met (ids ++ more) else if u then met_from (met + 1) (ids ++ more) else None) ≡ met_from m more
    by true u f k = k met f
    by false true f k = k (met + 1) f
    by false false f k = absurd cc

pub met_split : (met : ℕ) (ids more : List ℕ) (now : ℕ) → met_from met (ids ++ more) ≡ Some now → (m : ℕ) × (met_from met ids ≡ Some m) × (met_from m more ≡ Some now)
met_split met [] more now e = (met, refl, e)
met_split met (id ∷ ids) more now e = by (nat_lt id met) (id == met) e (λ n f. met_split n ids more now f)
  where
    by : (t u : Bool) → (if t then met_from met (ids ++ more) else if u then met_from (met + 1) (ids ++ more) else None) ≡ Some now
        → ((n : ℕ) → met_from n (ids ++ more) ≡ Some now → (m : ℕ) × (met_from n ids ≡ Some m) × (met_from m more ≡ Some now))
        → (m : ℕ) × ((if t then met_from met ids else if u then met_from (met + 1) ids else None) ≡ Some m) × (met_from m more ≡ Some now)
    by true u f k = k met f
    by false true f k = k (met + 1) f
    by false false f k = absurd cc

-- ---- parts

-- what is known of a part that was read behind others: its bytes stood there, and this holds of it with how many objects were
-- met before it and after it
pub record Part {A : Type 0} (spell : A → List ℕ) (holds : List A → ℕ → A → ℕ → Type 0) (front : List A) (met : ℕ) (bytes : List ℕ) (a : A) (now : ℕ) (rest : List ℕ) : Type 0 where
  pub takes : Takes bytes (spell a) rest
  pub is_so : holds front met a now

-- it holds of each behind those before it
abbrev pub Chain : {A : Type 0} → (List A → ℕ → A → ℕ → Type 0) → List A → ℕ → List A → ℕ → Type 0
Chain holds front met [] now = met ≡ now
Chain holds front met (a ∷ more) now = (m : ℕ) × holds front met a m × Chain holds (front ++ a ∷ []) m more now

-- what is known of many parts
pub record Parts {A : Type 0} (spell : A → List ℕ) (holds : List A → ℕ → A → ℕ → Type 0) (n : ℕ) (front : List A) (met : ℕ) (bytes : List ℕ) (all : List A) (now : ℕ) (rest : List ℕ) : Type 0 where
  pub more : List A
  pub all_is : all ≡ front ++ more
  pub count : length more ≡ n
  pub takes : Takes bytes (flat_map spell more) rest
  pub chain : Chain holds front met more now

-- and of a count and so many parts
pub record Whole {A : Type 0} (spell : A → List ℕ) (holds : List A → ℕ → A → ℕ → Type 0) (met : ℕ) (bytes : List ℕ) (all : List A) (now : ℕ) (rest : List ℕ) : Type 0 where
  pub takes : Takes bytes (counted spell all) rest
  pub chain : Chain holds [] met all now

module _ {A : Type 0} (spell : A → List ℕ) (holds : List A → ℕ → A → ℕ → Type 0) (part : List A → ℕ → List ℕ → Result (A × ℕ × List ℕ) SnapFault) where
  abbrev pub IsSound : Type 0
  IsSound = (front : List A) (met : ℕ) (bytes : List ℕ) (a : A) (now : ℕ) (rest : List ℕ) → IsBytes bytes → part front met bytes ≡ Ok (a, now, rest) → Part spell holds front met bytes a now rest

  abbrev pub IsComplete : Type 0
  IsComplete = (front : List A) (met : ℕ) (a : A) (now : ℕ) (rest : List ℕ) → holds front met a now → Few (spell a ++ rest) → part front met (spell a ++ rest) ≡ Ok (a, now, rest)

  none_read : (front : List A) (met : ℕ) (bytes : List ℕ) (x : List A × ℕ × List ℕ) → IsBytes bytes → (front, met, bytes) ≡ x → Parts spell holds 0 front met bytes x.0 x.1 x.2
  none_read front met bytes x fits same = record {
    more = [];
    all_is = sym (ap (λ (p : List A × ℕ × List ℕ). p.0) same) ∙ sym (append-nil front);
    count = refl;
    takes = record { parts = ap (λ (p : List A × ℕ × List ℕ). p.2) same; rest_fits = subst IsBytes (ap (λ (p : List A × ℕ × List ℕ). p.2) same) fits };
    chain = ap (λ (p : List A × ℕ × List ℕ). p.1) same;
  }

  pub many_sound : IsSound → (n : ℕ) (front : List A) (met : ℕ) (bytes : List ℕ) (all : List A) (now : ℕ) (rest : List ℕ) → IsBytes bytes → many_at part n front met bytes ≡ Ok (all, now, rest)
      → Parts spell holds n front met bytes all now rest
  unfolding many_at
  many_sound sound zero front met bytes all now rest fits e = none_read front met bytes (all, now, rest) fits (ok_is (front, met, bytes) (all, now, rest) e)
  many_sound sound (suc n) front met bytes all now rest fits e =
      let a = bind_ok (part front met bytes) (λ a. many_at part n (front ++ a.0 ∷ []) a.1 a.2) (all, now, rest) e in
      let here = sound front met bytes a.0.0 a.0.1 a.0.2 fits a.1 in
      let others = many_sound sound n (front ++ a.0.0 ∷ []) a.0.1 a.0.2 all now rest here.takes.rest_fits a.2 in
      record {
        more = a.0.0 ∷ others.more;
        all_is = others.all_is ∙ append_assoc front (a.0.0 ∷ []) others.more;
        count = ap suc others.count;
        takes = Takes-then bytes (spell a.0.0) a.0.2 (flat_map spell others.more) rest here.takes others.takes;
        chain = (a.0.1, here.is_so, others.chain);
      }

  pub whole_sound : IsSound → (met : ℕ) (bytes : List ℕ) (n : ℕ) (after : List ℕ) (all : List A) (now : ℕ) (rest : List ℕ) → IsBytes bytes → count_at bytes ≡ Ok (n, after) → many_at part n [] met after ≡ Ok (all, now, rest)
      → Whole spell holds met bytes all now rest × (length all ≡ n)
  whole_sound sound met bytes n after all now rest fits e f =
      let c = count_takes bytes n after fits e in
      let p = many_sound sound n [] met after all now rest c.0.rest_fits f in
      let made : Whole spell holds met bytes p.more now rest = record {
        takes = subst (λ (k : ℕ). Takes bytes (count_bytes k ++ flat_map spell p.more) rest) (sym p.count) (Takes-then bytes (count_bytes n) after (flat_map spell p.more) rest c.0 p.takes);
        chain = p.chain;
      } in
      (subst (λ (xs : List A). Whole spell holds met bytes xs now rest) (sym p.all_is) made, ap length p.all_is ∙ p.count)

  pub many_again : IsComplete → (more front : List A) (met now : ℕ) (rest : List ℕ) → Chain holds front met more now → Few (flat_map spell more ++ rest)
      → many_at part (length more) front met (flat_map spell more ++ rest) ≡ Ok (front ++ more, now, rest)
  unfolding many_at
  many_again complete [] front met now rest chain few = ap (λ (n : ℕ). Ok (front, n, rest)) chain ∙ ap (λ (xs : List A). Ok (xs, now, rest)) (sym (append-nil front))
  many_again complete (a ∷ more) front met now rest chain few =
      let tail = flat_map spell more ++ rest in
      let regrouped : flat_map spell (a ∷ more) ++ rest ≡ spell a ++ tail = append_assoc (spell a) (flat_map spell more) rest in
      let short : Few (spell a ++ tail) = subst Few regrouped few in
      let first = complete front met a chain.0 tail chain.1 short in
      let others = many_again complete more (front ++ a ∷ []) chain.0 now rest chain.2 (few_after (spell a) tail short) in
      ap (many_at part (suc (length more)) front met) regrouped ∙ rw first (others ∙ ap (λ (xs : List A). Ok (xs, now, rest)) (append_assoc front (a ∷ []) more))

  some_each : ((a : A) → 1 ≤ length (spell a)) → (xs : List A) → length xs ≤ length (flat_map spell xs)
  some_each some [] = omega arith
  some_each some (x ∷ xs) = let here = some x in let more = some_each some xs in let sum = length-append (spell x) (flat_map spell xs) in omega (arith, here, more, sum)

  -- the count is one that 8 bytes tell
  pub count_small : ((a : A) → 1 ≤ length (spell a)) → (xs : List A) (rest : List ℕ) → Few (counted spell xs ++ rest) → length xs < 2 ^ 64
  count_small some xs rest few =
      let each = some_each some xs in
      let one = length-append (count_bytes (length xs) ++ flat_map spell xs) rest in
      let two = length-append (count_bytes (length xs)) (flat_map spell xs) in
      omega (arith, each, one, two, few)

  pub whole_again : IsComplete → ((a : A) → 1 ≤ length (spell a)) → (xs : List A) (met now : ℕ) (rest : List ℕ) → Chain holds [] met xs now → Few (counted spell xs ++ rest)
      → (count_at (counted spell xs ++ rest) ≡ Ok (length xs, flat_map spell xs ++ rest)) × (many_at part (length xs) [] met (flat_map spell xs ++ rest) ≡ Ok (xs, now, rest))
  whole_again complete some xs met now rest chain few =
      let regrouped = append_assoc (count_bytes (length xs)) (flat_map spell xs) rest in (
        ap count_at regrouped ∙ count_again (length xs) (flat_map spell xs ++ rest) (count_small some xs rest few),
        many_again complete xs [] met now rest chain (few_after (count_bytes (length xs)) (flat_map spell xs ++ rest) (subst Few regrouped few)),
      )
