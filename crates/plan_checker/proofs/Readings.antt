-- What is read so far.
use Rattle.std.proofs.Common.{◌≡◌, ◌≢◌, ◌∙◌, ℕ, zero, suc, ◌+◌, ◌-◌, ◌*◌, ◌<◌, ◌≤◌, List, [], ◌∷◌, ◌++◌, take, get_or, length, length-append, append_assoc, true, refl, sym, ap, subst, arith, inr}
use Rattle.std.specs.Prelude.{decimal}
use Rattle.std.specs.Char.{digit_value, is_ascii_digit}
use Rattle.std.specs.List.{flat_map}
use Rattle.std.specs.Str.Parse.{AllDigits, digits_value}
use Rattle.std.proofs.lemmas.List.{append-nil, take_all}
use Rattle.std.proofs.lemmas.Int.Digits.{digits_value_more, digits_more}
use Rattle.std.proofs.lemmas.Bool.Decides.{nat_tests}
use Rattle.std.proofs.lemmas.Str.Parse.{digits_value_short}
use Rattle.plan_type.specs.PlanText.{flag_of}
use Rattle.plan_checker.specs.declared.line.Line.{Line}
use Rattle.plan_checker.specs.Lines.{IsSmall, Follows, AllFollow, last_depth, spelled, head, IsRead, IsFaultyLine}
use Rattle.plan_checker.proofs.Numbers.{own, spelled_one, spread}

-- ---- digits

pub record ValueSo (ds : List ℕ) (i value : ℕ) : Type 0 where
  pub digits : AllDigits 10 (take i ds)
  pub is : value ≡ digits_value 10 (take i ds)

pub value_small : (ds : List ℕ) (i value : ℕ) → ValueSo ds i value → i < length ds → length ds ≤ 4 → value ≤ 999
value_small ds i value so lt le =
    let s = digits_value_short own (take i ds) 3 so.digits (short ds i (omega arith)) in let e = so.is in omega (arith, s, e)
  where
    short : (ds : List ℕ) (i : ℕ) → i ≤ 3 → length (take i ds) ≤ 3
    short ds zero le = omega arith
    short [] (suc i) le = omega arith
    short (x ∷ xs) (suc zero) le = omega arith
    short (x ∷ []) (suc (suc i)) le = omega arith
    short (x ∷ y ∷ ys) (suc (suc zero)) le = omega arith
    short (x ∷ y ∷ []) (suc (suc (suc i))) le = omega arith
    short (x ∷ y ∷ z ∷ zs) (suc (suc (suc zero))) le = omega arith
    short (x ∷ y ∷ z ∷ zs) (suc (suc (suc (suc i)))) le = absurd (omega arith)

digit_is : (d : ℕ) → is_ascii_digit d ≡ true → digit_value d ≡ d - 48
digit_is d h = grind (arith, nat_tests)

digit_low : (d : ℕ) → is_ascii_digit d ≡ true → (48 ≤ d) × (d ≤ 57)
digit_low d h = (grind (arith, nat_tests), grind (arith, nat_tests))

pub value_more : (ds : List ℕ) (i value next : ℕ) → ValueSo ds i value → i < length ds → is_ascii_digit (get_or ds i 0) ≡ true → next ≡ get_or ds i 0 - 48 → ValueSo ds (i + 1) (value * 10 + next)
value_more ds i value next so lt digit is =
    let e = digit_is (get_or ds i 0) digit in let (low, high) = digit_low (get_or ds i 0) digit in
    let m = digits_value_more 10 ds i lt in let s = so.is in
    record {
      digits = digits_more 10 ds i lt so.digits (omega (arith, e, low, high));
      is = omega (arith, e, m, s, is);
    }

pub value_all : (ds : List ℕ) (i value : ℕ) → ValueSo ds i value → length ds ≤ i → length ds ≤ 4 → AllDigits 10 ds × (value ≡ digits_value 10 ds) × (value ≤ 9999)
value_all ds i value so past few =
    let all = take_all i ds past in
    let digits : AllDigits 10 ds = subst (AllDigits 10) all so.digits in
    let is : value ≡ digits_value 10 ds = so.is ∙ ap (digits_value 10) all in
    let s = digits_value_short own ds 4 digits few in (digits, is, omega (arith, s, is))

-- ---- lines

pub record ReadSo (text : List ℕ) (lines : List Line) (rest : List ℕ) (before : ℕ) : Type 0 where
  pub is : text ≡ head ++ flat_map spelled lines ++ rest
  pub follow : AllFollow 0 lines
  pub at : before ≡ last_depth 0 lines
  pub shallow : before ≤ 9999
  pub room : length lines + length rest ≤ length text

follow_more : (before : ℕ) (lines : List Line) (line : Line) → AllFollow before lines → Follows (last_depth before lines) line → AllFollow before (lines ++ line ∷ [])
follow_more before [] line all here = (here, tt)
follow_more before (l ∷ ls) line all here = (all.0, follow_more l.depth ls line all.1 here)

depth_more : (before : ℕ) (lines : List Line) (line : Line) → last_depth before (lines ++ line ∷ []) ≡ line.depth
depth_more before [] line = refl
depth_more before (l ∷ ls) line = depth_more l.depth ls line

spelled_more : (lines : List Line) (line : Line) → flat_map spelled (lines ++ line ∷ []) ≡ flat_map spelled lines ++ spelled line
spelled_more [] line = append-nil (spelled line)
spelled_more (l ∷ ls) line = ap (λ x. spelled l ++ x) (spelled_more ls line) ∙ sym (append_assoc (spelled l) (flat_map spelled ls) (spelled line))

pub begin : (text rest : List ℕ) → text ≡ head ++ rest → ReadSo text [] rest 0
begin text rest is = record {
  is = is ∙ ap (λ l. l ++ rest) (sym (append-nil head));
  follow = tt;
  at = refl;
  shallow = omega arith;
  room = (let e = ap length is in let a = length-append head rest in omega (arith, e, a));
}

pub shorter : (line : Line) (more rest : List ℕ) → rest ≡ spelled line ++ more → length more + 1 ≤ length rest
shorter line more rest is =
    let e = ap length (is ∙ spread line more) in
    let a = length-append (decimal line.depth) (32 ∷ (decimal line.node ++ 32 ∷ (flag_of line.hold ++ 10 ∷ more))) in
    let b = length-append (decimal line.node) (32 ∷ (flag_of line.hold ++ 10 ∷ more)) in
    let c = length-append (flag_of line.hold) (10 ∷ more) in
    omega (arith, e, a, b, c)

pub read_more : (text : List ℕ) (lines : List Line) (rest : List ℕ) (before : ℕ) (line : Line) (more : List ℕ) → ReadSo text lines rest before → Follows before line → rest ≡ spelled line ++ more
    → ReadSo text (lines ++ line ∷ []) more line.depth
read_more text lines rest before line more so here is = record {
  is = so.is ∙ ap (λ l. head ++ flat_map spelled lines ++ l) is ∙ sym (append_assoc (head ++ flat_map spelled lines) (spelled line) more)
      ∙ ap (λ l. l ++ more) (append_assoc head (flat_map spelled lines) (spelled line) ∙ ap (λ l. head ++ l) (sym (spelled_more lines line)));
  follow = follow_more 0 lines line so.follow (subst (λ d. Follows d line) so.at here);
  at = sym (depth_more 0 lines line);
  shallow = here.small.depth;
  room = (let r = so.room in let a = length-append lines (line ∷ []) in let l = shorter line more rest is in omega (arith, r, a, l));
}

pub read_all : (text : List ℕ) (lines : List Line) (rest : List ℕ) (before : ℕ) → ReadSo text lines rest before → rest ≡ [] → IsRead text lines
read_all text lines rest before so none = record {
  is = so.is ∙ ap (λ l. head ++ flat_map spelled lines ++ l) none ∙ append-nil (head ++ flat_map spelled lines);
  follow = so.follow;
}

pub stopped : (text : List ℕ) (lines : List Line) (rest : List ℕ) (before n : ℕ) → ReadSo text lines rest before → rest ≢ []
    → ((line : Line) (more : List ℕ) → Follows before line → rest ≢ spelled line ++ more) → n ≡ length lines + 2 → IsFaultyLine text n
stopped text lines rest before n so some stops is = inr (
  lines,
  record {
    rest = rest;
    is = so.is;
    follow = so.follow;
    some = some;
    stops = subst (λ d. (line : Line) (more : List ℕ) → Follows d line → rest ≢ spelled line ++ more) so.at stops;
  },
  is,
)

-- no good line is spelled here where none is, or where the one that is spelled does not follow
pub unspelled : (rest : List ℕ) (before : ℕ) → ((line : Line) (more : List ℕ) → IsSmall line → rest ≢ spelled line ++ more) → (line : Line) (more : List ℕ) → Follows before line → rest ≢ spelled line ++ more
unspelled rest before none line more here = none line more here.small

pub misplaced : (rest : List ℕ) (before : ℕ) (other : Line) (after : List ℕ) → IsSmall other → rest ≡ spelled other ++ after → (Follows before other → ⊥)
    → (line : Line) (more : List ℕ) → Follows before line → rest ≢ spelled line ++ more
misplaced rest before other after small is bars line more here same =
    let (one, _) = spelled_one line other more after here.small small (sym same ∙ is) in bars (subst (Follows before) one here)
