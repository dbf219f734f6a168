-- Numbers and lines are spelled in one way.
use Rattle.std.proofs.Common.{◌≡◌, ◌≢◌, ◌∙◌, ℕ, suc, ◌+◌, ◌-◌, ◌/◌, ◌%◌, ◌<◌, ◌≤◌, List, [], ◌∷◌, ◌++◌, take, drop, get_or, length, append_assoc, Bool, true, false, refl, sym, ap, subst, arith}
use Rattle.std.specs.Prelude.{decimal, ◌==◌, position, Option, Some, None, MatchOption, if◌then◌else◌}
use Rattle.std.specs.List.{position_from}
use Rattle.std.proofs.lemmas.List.{take_at, take_rest}
use Rattle.std.proofs.lemmas.Iterator.Adapters.{position_from-zero}
use Rattle.std.specs.Char.{digit_value, is_ascii_digit}
use Rattle.std.specs.Int.{IsInRange}
use Rattle.std.specs.Str.Parse.{AllDigits, digits_value}
use Rattle.std.proofs.lemmas.Bool.Decides.{nat_tests}
use Rattle.std.proofs.lemmas.Str.Parse.{IsNumeralModel, digit_from_value, digit_at}
use Rattle.std.proofs.lemmas.Fmt.{decimal_is_IsNumeral, decimal_by_steps, decimal-digits_value, length-decimal-le}
use Rattle.plan_type.specs.PlanText.{flag_of, line_of}
use Rattle.plan_checker.specs.declared.line.Line.{Line}
use Rattle.plan_checker.specs.Lines.{IsSmall, spelled}

pub own : IsNumeralModel (AllDigits 10) (digits_value 10)
own = record { to = λ ds h. h; from = λ ds h. h; same = λ ds h. refl }

pub decimal_digits : (n : ℕ) → n ≤ 9999 → AllDigits 10 (decimal n)
decimal_digits n le = (decimal_is_IsNumeral n (omega arith)).0.1

pub decimal_some : (n : ℕ) → n ≤ 9999 → 0 < length (decimal n)
decimal_some n le = (decimal_is_IsNumeral n (omega arith)).0.0

pub decimal_value : (n : ℕ) → n ≤ 9999 → digits_value 10 (decimal n) ≡ n
decimal_value n le = (decimal_is_IsNumeral n (omega arith)).1

-- no zero stands in front of other digits
pub decimal_front : (n : ℕ) → n ≤ 9999 → get_or (decimal n) 0 0 ≡ 48 → length (decimal n) ≤ 1
decimal_front n le zeroed = (decimal_by_steps Front one more n (omega arith)).1 zeroed
  where
    Front : ℕ → List ℕ → Type 0
    Front n ds = (0 < n → get_or ds 0 0 ≢ 48) × (get_or ds 0 0 ≡ 48 → length ds ≤ 1) × (0 < length ds)

    one : (n : ℕ) → n < 10 → Front n ((48 + n) ∷ [])
    one n lt = ((λ some is. omega arith), (λ is. omega arith), omega arith)

    front_kept : (ds : List ℕ) (d : ℕ) → 0 < length ds → get_or (ds ++ d ∷ []) 0 0 ≡ get_or ds 0 0
    front_kept [] d some = absurd (omega arith)
    front_kept (x ∷ xs) d some = refl

    grown : (ds : List ℕ) (d : ℕ) → 0 < length (ds ++ d ∷ [])
    grown [] d = omega arith
    grown (x ∷ xs) d = omega arith

    more : (n : ℕ) (ds : List ℕ) → 10 ≤ n → Front (n / 10) ds → Front n (ds ++ ((48 + n % 10) ∷ []))
    more n ds large (low, short, some) =
        let k = front_kept ds (48 + n % 10) some in
        let z : get_or (ds ++ ((48 + n % 10) ∷ [])) 0 0 ≢ 48 = (λ is. low (omega arith) (sym k ∙ is)) in
        ((λ h. z), (λ is. absurd (z is)), grown ds (48 + n % 10))

-- ---- one way

digit_range : (c : ℕ) → digit_value c < 10 → IsInRange 48 57 c
digit_range c lt = digit_from_value c lt

digits_one : (xs ys r s : List ℕ) → AllDigits 10 xs → AllDigits 10 ys → xs ++ 32 ∷ r ≡ ys ++ 32 ∷ s → (xs ≡ ys) × (r ≡ s)
digits_one [] [] r s a b is = (refl, (cc))
digits_one [] (y ∷ ys) r s a b is = let e : 32 ≡ y = cc in let w = digit_from_value y b.0 in absurd (omega arith)
digits_one (x ∷ xs) [] r s a b is = let e : x ≡ 32 = cc in let w = digit_from_value x a.0 in absurd (omega arith)
digits_one (x ∷ xs) (y ∷ ys) r s a b is =
    let e : x ≡ y = cc in let t : xs ++ 32 ∷ r ≡ ys ++ 32 ∷ s = cc in
    let (same, rest) = digits_one xs ys r s a.1 b.1 t in ((cc), rest)

pub number_one : (m n : ℕ) (r s : List ℕ) → m ≤ 9999 → n ≤ 9999 → decimal m ++ 32 ∷ r ≡ decimal n ++ 32 ∷ s → (m ≡ n) × (r ≡ s)
number_one m n r s a b is =
    let (same, rest) = digits_one (decimal m) (decimal n) r s (decimal_digits m a) (decimal_digits n b) is in
    (sym (decimal_value m a) ∙ ap (digits_value 10) same ∙ decimal_value n b, rest)

apart : (x y : ℕ) (r s : List ℕ) → x ∷ r ≡ y ∷ s → (x == y) ≡ false → ⊥
apart x y r s is differ = let e : x ≡ y = ap (λ l. get_or l 0 0) is in let t : (x == y) ≡ true = grind (arith, nat_tests) in cc

pub flag_one : (g h : Bool) (r s : List ℕ) → flag_of g ++ 10 ∷ r ≡ flag_of h ++ 10 ∷ s → (g ≡ h) × (r ≡ s)
flag_one true true r s is = (refl, (cc))
flag_one true false r s is = absurd (apart 104 102 _ _ is refl)
flag_one false true r s is = absurd (apart 102 104 _ _ is refl)
flag_one false false r s is = (refl, (cc))

pub spread : (line : Line) (rest : List ℕ) → spelled line ++ rest ≡ decimal line.depth ++ 32 ∷ (decimal line.node ++ 32 ∷ (flag_of line.hold ++ 10 ∷ rest))
unfolding line_of
spread line rest =
    append_assoc (decimal line.depth) (32 ∷ (decimal line.node ++ 32 ∷ (flag_of line.hold ++ 10 ∷ []))) rest
    ∙ ap (λ l. decimal line.depth ++ 32 ∷ l) (append_assoc (decimal line.node) (32 ∷ (flag_of line.hold ++ 10 ∷ [])) rest
    ∙ ap (λ l. decimal line.node ++ 32 ∷ l) (append_assoc (flag_of line.hold) (10 ∷ []) rest))

pub spelled_one : (a b : Line) (r s : List ℕ) → IsSmall a → IsSmall b → spelled a ++ r ≡ spelled b ++ s → (a ≡ b) × (r ≡ s)
spelled_one a b r s small low is =
    let (depth, nodes) = number_one a.depth b.depth _ _ small.depth low.depth (sym (spread a r) ∙ is ∙ spread b s) in
    let (node, flags) = number_one a.node b.node _ _ small.node low.node nodes in
    let (hold, rest) = flag_one a.hold b.hold r s flags in
    (same a b depth node hold, rest)
  where
    same : (a b : Line) → a.depth ≡ b.depth → a.node ≡ b.node → a.hold ≡ b.hold → a ≡ b
    same a b p q h =
        let D : ℕ → Line = λ d. record { depth = d; node = a.node; hold = a.hold } in
        let N : ℕ → Line = λ n. record { depth = b.depth; node = n; hold = a.hold } in
        let H : Bool → Line = λ t. record { depth = b.depth; node = b.node; hold = t } in
        ap D p ∙ ap N q ∙ ap H h

-- ---- reading

-- a byte that is no digit stands in no number
pub no_number : (ds : List ℕ) (i : ℕ) → i < length ds → is_ascii_digit (get_or ds i 0) ≡ false → (n : ℕ) → n ≤ 9999 → ds ≢ decimal n
no_number ds i lt is n le same =
    let all : AllDigits 10 ds = subst (AllDigits 10) (sym same) (decimal_digits n le) in
    absurd (outside (get_or ds i 0) (digit_at ds i all lt) is)
  where
    outside : (d : ℕ) → IsInRange 48 57 d → is_ascii_digit d ≡ false → ⊥
    outside d w is = absurd (let t : is_ascii_digit d ≡ true = grind (arith, nat_tests) in cc)

-- what is no number of at most four digits
pub empty_number : (ds : List ℕ) → length ds ≡ 0 → (n : ℕ) → n ≤ 9999 → ds ≢ decimal n
empty_number ds none n le same = let s = decimal_some n le in let e = ap length same in absurd (omega arith)

pub long_number : (ds : List ℕ) → 4 < length ds → (n : ℕ) → n ≤ 9999 → ds ≢ decimal n
long_number ds long n le same = let s = length-decimal-le 4 n (omega arith) (omega arith) (omega arith) in let e = ap length same in absurd (omega arith)

pub padded_number : (ds : List ℕ) → 1 < length ds → get_or ds 0 0 ≡ 48 → (n : ℕ) → n ≤ 9999 → ds ≢ decimal n
padded_number ds long front n le same = let s = decimal_front n le (sym (ap (λ l. get_or l 0 0) same) ∙ front) in let e = ap length same in absurd (omega arith)

pub whole_number : (ds : List ℕ) (r : Option ℕ) → length ds ≢ 0 → length ds ≤ 4 → (get_or ds 0 0 ≡ 48 → length ds ≤ 1)
    → MatchOption r ((n : ℕ) → n ≤ 9999 → ds ≢ decimal n) (λ n. AllDigits 10 ds × (n ≡ digits_value 10 ds) × (n ≤ 9999))
    → MatchOption r ((n : ℕ) → n ≤ 9999 → ds ≢ decimal n) (λ n. (n ≤ 9999) × (ds ≡ decimal n))
whole_number ds None some few front h = h
whole_number ds (Some n) some few front (digits, is, small) =
    let s : 0 < length ds = omega arith in
    let f : get_or ds 0 0 ≡ 48 → length ds ≡ 1 = (λ e. let l = front e in omega arith) in
    (small, sym (ap decimal is ∙ decimal-digits_value own ds digits s f (omega (arith, is, small))))

-- ---- up to a blank

blank_after : (k : ℕ) (ds rest : List ℕ) → AllDigits 10 ds → position_from (λ b. b == 32) k (ds ++ 32 ∷ rest) ≡ Some (k + length ds)
blank_after k [] rest all = ap (λ n. Some n) (let e : k ≡ k + 0 = omega arith in e)
blank_after k (d ∷ ds) rest all =
    let w = digit_from_value d all.0 in
    let other : (d == 32) ≡ false = not_blank d w in
    ap (λ b. if b then Some k else position_from (λ b. b == 32) (k + 1) (ds ++ 32 ∷ rest)) other
    ∙ blank_after (k + 1) ds rest all.1 ∙ ap (λ n. Some n) (let e : k + 1 + length ds ≡ k + suc (length ds) = omega arith in e)
  where
    not_blank : (d : ℕ) → IsInRange 48 57 d → (d == 32) ≡ false
    not_blank d w = grind (arith, nat_tests)

as_position : (xs : List ℕ) → position (λ b. b == 32) xs ≡ position_from (λ b. b == 32) 0 xs
as_position xs = position_from-zero (λ b. b == 32) xs

pub no_blank : (bytes : List ℕ) → position (λ b. b == 32) bytes ≡ None → (n : ℕ) (rest : List ℕ) → n ≤ 9999 → bytes ≢ decimal n ++ 32 ∷ rest
no_blank bytes none n rest le same =
    let e = sym none ∙ as_position bytes ∙ ap (position_from (λ b. b == 32) 0) same ∙ blank_after 0 (decimal n) rest (decimal_digits n le) in absurd (apart' e)
  where
    apart' : {k : ℕ} → None ≡ Some k → ⊥
    apart' e = cc

pub bad_front : (bytes : List ℕ) (end : ℕ) → position (λ b. b == 32) bytes ≡ Some end → ((n : ℕ) → n ≤ 9999 → take end bytes ≢ decimal n) → (n : ℕ) (rest : List ℕ) → n ≤ 9999 → bytes ≢ decimal n ++ 32 ∷ rest
bad_front bytes end at bad n rest le same =
    let e : Some end ≡ Some (0 + length (decimal n)) = sym at ∙ as_position bytes ∙ ap (position_from (λ b. b == 32) 0) same ∙ blank_after 0 (decimal n) rest (decimal_digits n le) in
    let l : end ≡ 0 + length (decimal n) = cc in
    bad n le (ap (take end) same ∙ take_at (decimal n) (32 ∷ rest) end (omega (arith, l)))

cut_after : (k : ℕ) (xs : List ℕ) (end : ℕ) → position_from (λ b. b == 32) k xs ≡ Some end → (i : ℕ) × (end ≡ k + i) × (xs ≡ take i xs ++ 32 ∷ drop (i + 1) xs)
cut_after k [] end at = absurd (cc)
cut_after k (x ∷ xs) end at = by (x == 32) refl at (cut_after (k + 1) xs end)
  where
    by : (b : Bool) → (x == 32) ≡ b → (if b then Some k else position_from (λ b. b == 32) (k + 1) xs) ≡ Some end → (position_from (λ b. b == 32) (k + 1) xs ≡ Some end → (i : ℕ) × (end ≡ k + 1 + i) × (xs ≡ take i xs ++ 32 ∷ drop (i + 1) xs)) → (i : ℕ) × (end ≡ k + i) × (x ∷ xs ≡ take i (x ∷ xs) ++ 32 ∷ drop (i + 1) (x ∷ xs))
    by true is h more = let e : x ≡ 32 = grind (arith, nat_tests) in let s : k ≡ end = cc in (0, omega (arith, s), ap (λ n. n ∷ xs) e)
    by false is h more =
        let (i, so, cut) = more h in
        (suc i, omega (arith, so), ap (λ l. x ∷ l) cut ∙ ap (λ n. x ∷ (take i xs ++ 32 ∷ drop n (x ∷ xs))) (let e : suc (i + 1) ≡ suc i + 1 = omega arith in e))

pub cut_blank : (bytes : List ℕ) (end : ℕ) → position (λ b. b == 32) bytes ≡ Some end → bytes ≡ take end bytes ++ 32 ∷ drop (end + 1) bytes
cut_blank bytes end at =
    let (i, is, cut) = cut_after 0 bytes end (sym (as_position bytes) ∙ at) in
    let same : i ≡ end = omega (arith, is) in
    subst (λ n. bytes ≡ take n bytes ++ 32 ∷ drop (n + 1) bytes) same cut

pub number_cut : (bytes : List ℕ) (end n : ℕ) → position (λ b. b == 32) bytes ≡ Some end → take end bytes ≡ decimal n
    → bytes ≡ decimal n ++ 32 ∷ take (length bytes - (end + 1)) (drop (end + 1) bytes)
number_cut bytes end n at is =
    cut_blank bytes end at ∙ ap (λ l. l ++ 32 ∷ drop (end + 1) bytes) is ∙ ap (λ l. decimal n ++ 32 ∷ l) (sym (take_rest bytes (end + 1)))

-- ---- a line from its parts

pub no_depth : (bytes : List ℕ) → ((n : ℕ) (rest : List ℕ) → n ≤ 9999 → bytes ≢ decimal n ++ 32 ∷ rest) → (line : Line) (rest : List ℕ) → IsSmall line → bytes ≢ spelled line ++ rest
no_depth bytes none line rest small is = none line.depth _ small.depth (is ∙ spread line rest)

pub no_node : (bytes after : List ℕ) (depth : ℕ) → depth ≤ 9999 → bytes ≡ decimal depth ++ 32 ∷ after → ((n : ℕ) (rest : List ℕ) → n ≤ 9999 → after ≢ decimal n ++ 32 ∷ rest)
    → (line : Line) (rest : List ℕ) → IsSmall line → bytes ≢ spelled line ++ rest
no_node bytes after depth low at none line rest small is =
    let (_, more) = number_one depth line.depth after _ low small.depth (sym at ∙ is ∙ spread line rest) in none line.node _ small.node more

pub no_flag : (bytes after more : List ℕ) (depth node : ℕ) → depth ≤ 9999 → node ≤ 9999 → bytes ≡ decimal depth ++ 32 ∷ after → after ≡ decimal node ++ 32 ∷ more
    → ((hold : Bool) (rest : List ℕ) → more ≢ flag_of hold ++ 10 ∷ rest) → (line : Line) (rest : List ℕ) → IsSmall line → bytes ≢ spelled line ++ rest
no_flag bytes after more depth node low few at next none line rest small is =
    let (_, nodes) = number_one depth line.depth after _ low small.depth (sym at ∙ is ∙ spread line rest) in
    let (_, flags) = number_one node line.node more _ few small.node (sym next ∙ nodes) in none line.hold rest flags

pub whole_line : (bytes after more rest : List ℕ) (depth node : ℕ) (hold : Bool) → bytes ≡ decimal depth ++ 32 ∷ after → after ≡ decimal node ++ 32 ∷ more → more ≡ flag_of hold ++ 10 ∷ rest
    → bytes ≡ spelled (record { depth = depth; node = node; hold = hold }) ++ rest
whole_line bytes after more rest depth node hold at next last =
    at ∙ ap (λ l. decimal depth ++ 32 ∷ l) (next ∙ ap (λ l. decimal node ++ 32 ∷ l) last) ∙ sym (spread (record { depth = depth; node = node; hold = hold }) rest)
