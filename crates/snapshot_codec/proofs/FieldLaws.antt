-- A number or a text that is read is the one whose bytes stand there, and what is written is read again.
use Rattle.std.proofs.Common.{◌≡◌, ℕ, ℤ, suc, pos, negsuc, ◌+◌, ◌*◌, ◌/◌, ◌%◌, ◌^◌, ◌<◌, ◌≤◌, Bool, true, false, cond, ltb, List, [], ◌∷◌, ◌++◌, length, get_or, take, drop, Result, Ok, Err, IsTrue, FitsSigned, refl, sym, ap, subst, ◌∙◌, append_assoc, arith, inl, inr, chars, encode_utf8_all}
use Rattle.std.specs.Int.{Width, w32, w64, w128, byte_len, cast_signed, cast_unsigned, from_be_bytes, to_be_bytes}
use Rattle.std.specs.Str.{all_scalars, is_utf8}
use Rattle.std.proofs.lemmas.Bool.{cases_lt, ltb-false, le-ltb}
use Rattle.std.proofs.lemmas.Bool.Decides.{nat_tests}
use Rattle.std.proofs.lemmas.Int.{of_z-to_z}
use Rattle.std.proofs.lemmas.List.{take_at, drop_at, take-append-drop, length-append, length-take, get_or-drop, get_or-take, get_or_past}
use Rattle.std.proofs.lemmas.Nat.{be_bytes_4, be_bytes_8, from_be_bytes-to_be_bytes_4, from_be_bytes-to_be_bytes_8}
use Rattle.std.proofs.lemmas.Str.{IsUtf8-from_is_utf8, is_utf8-from_IsUtf8, encodes-chars, scalars-chars, chars-encodes}
use native.Mathlib.Nat as nat
use mir.ValLaws as laws
use Rattle.star_meaning.specs.Snapshot.{count_bytes, id_bytes, integer_bytes, text_bytes}
use Rattle.star_meaning.specs.Values.{has_128_bits}
use Rattle.snapshot_codec.specs.declared.fault.SnapFault.{SnapFault}
use Rattle.snapshot_codec.specs.declared.fault.SnapFault.TheVariants.{Short, BadText}
use Rattle.snapshot_codec.specs.Reading.{◌>>=◌, number_at, id_at, count_at, integer_at, points_of, text_at}

-- ---- steps that did not fail

pub bind_ok : {A B : Type 0} (r : Result A SnapFault) (f : A → Result B SnapFault) (y : B) → (r >>= f) ≡ Ok y → (x : A) × (r ≡ Ok x) × (f x ≡ Ok y)
bind_ok (Ok x) f y e = (x, refl, e)
bind_ok (Err d) f y e = absurd cc

-- a test that must not hold
pub guard_ok : {A : Type 0} (b : Bool) (d : SnapFault) (r : Result A SnapFault) (y : A) → cond b (Err d) r ≡ Ok y → (b ≡ false) × (r ≡ Ok y)
guard_ok true d r y e = absurd cc
guard_ok false d r y e = (refl, e)

-- a test that must hold
pub wanted_ok : {A : Type 0} (b : Bool) (d : SnapFault) (r : Result A SnapFault) (y : A) → cond b r (Err d) ≡ Ok y → (b ≡ true) × (r ≡ Ok y)
wanted_ok true d r y e = (refl, e)
wanted_ok false d r y e = absurd cc

abbrev done : {A : Type 0} → A → Result A SnapFault
done x = Ok x

pub ok_is : {A : Type 0} (x y : A) → done x ≡ done y → x ≡ y
ok_is x y e = cc

-- ---- bytes

abbrev pub IsBytes : List ℕ → Type 0
IsBytes bytes = (i : ℕ) → get_or bytes i 0 < 256

IsBytes-drop : (n : ℕ) (bytes : List ℕ) → IsBytes bytes → IsBytes (drop n bytes)
IsBytes-drop n bytes h i = rw get_or-drop (h (n + i))

IsBytes-take : (n : ℕ) (bytes : List ℕ) → IsBytes bytes → IsBytes (take n bytes)
IsBytes-take n bytes h i =
    elim (cases_lt i n) [
      | inl lt ↦ rw (get_or-take n bytes i 0 lt) (h i)
      | inr le ↦ rw (get_or_past (take n bytes) i 0 (omega (arith, length-take n bytes))) (omega arith)
    ]

pub IsBytes-rest : (b : ℕ) (bytes : List ℕ) → IsBytes (b ∷ bytes) → IsBytes bytes
IsBytes-rest b bytes h i = h (suc i)

-- what was taken from the front
pub record Takes (bytes text rest : List ℕ) : Type 0 where
  pub parts : bytes ≡ text ++ rest
  pub rest_fits : IsBytes rest

pub Takes-then : (a x b y c : List ℕ) → Takes a x b → Takes b y c → Takes a (x ++ y) c
Takes-then a x b y c p q = record { parts = p.parts ∙ ap (λ (t : List ℕ). x ++ t) q.parts ∙ sym (append_assoc x y c); rest_fits = q.rest_fits }

-- as many bytes as a count can tell
abbrev pub Few : List ℕ → Type 0
Few bytes = length bytes < 2 ^ 64

pub few_after : (x rest : List ℕ) → Few (x ++ rest) → Few rest
few_after x rest h = let both = length-append x rest in omega (arith, both, h)

-- ---- numbers

pub record IsWide (w : Width) (limit : ℕ) : Type 0 where
  pub len : (n : ℕ) → length (to_be_bytes w n) ≡ byte_len w
  pub back : (bytes : List ℕ) → length bytes ≡ byte_len w → IsBytes bytes → to_be_bytes w (from_be_bytes w bytes) ≡ bytes
  pub again : (n : ℕ) → n < limit → from_be_bytes w (to_be_bytes w n) ≡ n
  pub below : (bytes : List ℕ) → IsBytes bytes → from_be_bytes w bytes < limit

pub wide32 : IsWide w32 (2 ^ 32)
wide32 = record {
  len = λ n. refl;
  back = λ bytes len fits. be_bytes_4 bytes _ len fits refl;
  again = λ n lt. from_be_bytes-to_be_bytes_4 n lt;
  below = λ bytes fits. omega (arith, fits 0, fits 1, fits 2, fits 3);
}

pub wide64 : IsWide w64 (2 ^ 64)
wide64 = record {
  len = λ n. refl;
  back = λ bytes len fits. be_bytes_8 bytes _ len fits refl;
  again = λ n lt. from_be_bytes-to_be_bytes_8 n lt;
  below = λ bytes fits. omega (arith, fits 0, fits 1, fits 2, fits 3, fits 4, fits 5, fits 6, fits 7);
}

number_takes : (w : Width) (limit : ℕ) (wide : IsWide w limit) (bytes : List ℕ) (n : ℕ) (rest : List ℕ) → IsBytes bytes → number_at w bytes ≡ Ok (n, rest) → Takes bytes (to_be_bytes w n) rest × (n < limit)
number_takes w limit wide bytes n rest fits e =
    let g = guard_ok (ltb (length bytes) (byte_len w)) Short (Ok (from_be_bytes w (take (byte_len w) bytes), drop (byte_len w) bytes)) (n, rest) e in
    let same = ok_is (from_be_bytes w (take (byte_len w) bytes), drop (byte_len w) bytes) (n, rest) g.1 in
    let long : byte_len w ≤ length bytes = ltb-false _ _ g.0 in
    let n-is : from_be_bytes w (take (byte_len w) bytes) ≡ n = ap (λ (p : ℕ × List ℕ). p.0) same in
    let rest-is : drop (byte_len w) bytes ≡ rest = ap (λ (p : ℕ × List ℕ). p.1) same in
    let front : to_be_bytes w n ≡ take (byte_len w) bytes = rw (← n-is) (wide.back (take (byte_len w) bytes) (omega (arith, length-take (byte_len w) bytes)) (IsBytes-take (byte_len w) bytes fits)) in
    (record { parts = rw (front, ← rest-is) (sym (take-append-drop (byte_len w) bytes)); rest_fits = rw (← rest-is) (IsBytes-drop (byte_len w) bytes fits) }, rw (← n-is) (wide.below (take (byte_len w) bytes) (IsBytes-take (byte_len w) bytes fits)))

number_again : (w : Width) (limit : ℕ) (wide : IsWide w limit) (n : ℕ) (rest : List ℕ) → n < limit → number_at w (to_be_bytes w n ++ rest) ≡ Ok (n, rest)
number_again w limit wide n rest lt =
    let len = wide.len n in
    let long : ltb (length (to_be_bytes w n ++ rest)) (byte_len w) ≡ false = le-ltb _ _ (omega (arith, length-append (to_be_bytes w n) rest)) in
    rw (long, take_at (to_be_bytes w n) rest (byte_len w) len, drop_at (to_be_bytes w n) rest (byte_len w) len, wide.again n lt) refl

pub id_takes : (bytes : List ℕ) (n : ℕ) (rest : List ℕ) → IsBytes bytes → id_at bytes ≡ Ok (n, rest) → Takes bytes (id_bytes n) rest × (n < 2 ^ 32)
unfolding id_at
id_takes bytes n rest fits e = number_takes w32 (2 ^ 32) wide32 bytes n rest fits e

pub id_again : (n : ℕ) (rest : List ℕ) → n < 2 ^ 32 → id_at (id_bytes n ++ rest) ≡ Ok (n, rest)
unfolding id_at
id_again n rest lt = number_again w32 (2 ^ 32) wide32 n rest lt

pub count_takes : (bytes : List ℕ) (n : ℕ) (rest : List ℕ) → IsBytes bytes → count_at bytes ≡ Ok (n, rest) → Takes bytes (count_bytes n) rest × (n < 2 ^ 64)
unfolding count_at
count_takes bytes n rest fits e = number_takes w64 (2 ^ 64) wide64 bytes n rest fits e

pub count_again : (n : ℕ) (rest : List ℕ) → n < 2 ^ 64 → count_at (count_bytes n ++ rest) ≡ Ok (n, rest)
unfolding count_at
count_again n rest lt = number_again w64 (2 ^ 64) wide64 n rest lt

-- ---- integers

module _ (h l : ℕ) (low : l < 2 ^ 64) where
  abbrev both : ℕ
  both = h * 2 ^ 64 + l

  high : both / 2 ^ 64 ≡ h
  high = omega (arith, low)

  -- a byte of the higher half
  upper : (p : ℕ) → both / (2 ^ 64 * p) % 256 ≡ h / p % 256
  upper p = ap (λ q. q % 256) (sym (nat.div-div-eq-div-mul both (2 ^ 64) p) ∙ ap (λ q. q / p) high)

  lower0 : both % 256 ≡ l % 256
  lower0 = omega arith

  lower1 : both / 256 % 256 ≡ l / 256 % 256
  lower1 = omega arith

  lower2 : both / 65536 % 256 ≡ l / 65536 % 256
  lower2 = omega arith

  lower3 : both / 16777216 % 256 ≡ l / 16777216 % 256
  lower3 = omega arith

  lower4 : both / 4294967296 % 256 ≡ l / 4294967296 % 256
  lower4 = omega arith

  lower5 : both / 1099511627776 % 256 ≡ l / 1099511627776 % 256
  lower5 = omega arith

  lower6 : both / 281474976710656 % 256 ≡ l / 281474976710656 % 256
  lower6 = omega arith

  lower7 : both / 72057594037927936 % 256 ≡ l / 72057594037927936 % 256
  lower7 = omega arith

  upper8 : both / 2 ^ 64 % 256 ≡ h % 256
  upper8 = ap (λ q. q % 256) high

  -- the bytes of both halves
  pub halves : to_be_bytes w128 both ≡ to_be_bytes w64 h ++ to_be_bytes w64 l
  halves = λ i. upper (256 ^ 7) i ∷ upper (256 ^ 6) i ∷ upper (256 ^ 5) i ∷ upper (256 ^ 4) i ∷ upper (256 ^ 3) i ∷ upper (256 ^ 2) i ∷ upper 256 i ∷ upper8 i
      ∷ lower7 i ∷ lower6 i ∷ lower5 i ∷ lower4 i ∷ lower3 i ∷ lower2 i ∷ lower1 i ∷ lower0 i ∷ []

has_bits : (z : ℤ) → FitsSigned w128 z → IsTrue (has_128_bits z)
has_bits (pos n) h = grind (arith, nat_tests)
has_bits (negsuc n) h = grind (arith, nat_tests)

bits_fit : (z : ℤ) → IsTrue (has_128_bits z) → FitsSigned w128 z
bits_fit (pos n) h = grind (arith, nat_tests)
bits_fit (negsuc n) h = grind (arith, nat_tests)

signed : (n : ℕ) → n < 2 ^ 128 → IsTrue (has_128_bits (cast_signed w128 n))
signed n lt = has_bits (cast_signed w128 n) (laws.to_z-Fits w128 n (record { fits = lt }))

pub integer_takes : (bytes : List ℕ) (z : ℤ) (rest : List ℕ) → IsBytes bytes → integer_at bytes ≡ Ok (z, rest) → Takes bytes (integer_bytes z) rest × IsTrue (has_128_bits z)
unfolding integer_at
integer_takes bytes z rest fits e =
    let a = bind_ok (count_at bytes) (λ high. count_at high.1 >>= λ low. Ok (cast_signed w128 (high.0 * 2 ^ 64 + low.0), low.1)) (z, rest) e in
    let b = bind_ok (count_at a.0.1) (λ low. Ok (cast_signed w128 (a.0.0 * 2 ^ 64 + low.0), low.1)) (z, rest) a.2 in
    let one = count_takes bytes a.0.0 a.0.1 fits a.1 in
    let two = count_takes a.0.1 b.0.0 b.0.1 one.0.rest_fits b.1 in
    let n = a.0.0 * 2 ^ 64 + b.0.0 in
    let lt : n < 2 ^ 128 = omega (arith, one.1, two.1) in
    let joined = Takes-then bytes (count_bytes a.0.0) a.0.1 (count_bytes b.0.0) b.0.1 one.0 two.0 in
    let whole : integer_bytes (cast_signed w128 n) ≡ count_bytes a.0.0 ++ count_bytes b.0.0 = ap (to_be_bytes w128) (of_z-to_z w128 n lt) ∙ halves a.0.0 b.0.0 two.1 in
    let made : Takes bytes (integer_bytes (cast_signed w128 n)) b.0.1 = subst (λ (t : List ℕ). Takes bytes t b.0.1) (sym whole) joined in
    subst (λ (x : ℤ × List ℕ). Takes bytes (integer_bytes x.0) x.1 × IsTrue (has_128_bits x.0)) (ok_is (cast_signed w128 n, b.0.1) (z, rest) b.2) (made, signed n lt)

pub integer_again : (z : ℤ) (rest : List ℕ) → IsTrue (has_128_bits z) → integer_at (integer_bytes z ++ rest) ≡ Ok (z, rest)
unfolding integer_at
integer_again z rest has =
    let n = cast_unsigned w128 z in
    let fit = bits_fit z has in
    let lt : n < 2 ^ 128 = (laws.of_z_fits w128 z fit).fits in
    let h = n / 2 ^ 64 in
    let l = n % 2 ^ 64 in
    let low : l < 2 ^ 64 = omega arith in
    let high : h < 2 ^ 64 = omega arith in
    let is : n ≡ h * 2 ^ 64 + l = omega arith in
    let split : integer_bytes z ++ rest ≡ count_bytes h ++ (count_bytes l ++ rest) =
    ap (λ (k : ℕ). to_be_bytes w128 k ++ rest) is ∙ ap (λ (t : List ℕ). t ++ rest) (halves h l low) ∙ append_assoc (count_bytes h) (count_bytes l) rest in
    let back : cast_signed w128 (h * 2 ^ 64 + l) ≡ z = ap (cast_signed w128) (sym is) ∙ laws.to_z-of_z w128 z fit in
    ap integer_at split ∙ rw (count_again h (count_bytes l ++ rest) high, count_again l rest low) (ap (λ (k : ℤ). Ok (k, rest)) back)

-- ---- texts

pub text_takes : (bytes text rest : List ℕ) → IsBytes bytes → text_at bytes ≡ Ok (text, rest) → Takes bytes (text_bytes text) rest × IsTrue (all_scalars text)
unfolding text_at
text_takes bytes text rest fits e =
    let a = bind_ok (count_at bytes) (λ n. cond (ltb (length n.1) n.0) (Err Short) (points_of (take n.0 n.1) >>= λ points. Ok (points, drop n.0 n.1))) (text, rest) e in
    let n = a.0 in
    let one = count_takes bytes n.0 n.1 fits a.1 in
    let g = guard_ok (ltb (length n.1) n.0) Short (points_of (take n.0 n.1) >>= λ points. Ok (points, drop n.0 n.1)) (text, rest) a.2 in
    let long : n.0 ≤ length n.1 = ltb-false _ _ g.0 in
    let front = take n.0 n.1 in
    let len : length front ≡ n.0 = omega (arith, length-take n.0 n.1) in
    let p = bind_ok (points_of front) (λ points. Ok (points, drop n.0 n.1)) (text, rest) g.1 in
    let w = wanted_ok (is_utf8 front) BadText (Ok (chars front)) p.0 p.1 in
    let utf8 = IsUtf8-from_is_utf8 front w.0 in
    let spelt : encode_utf8_all p.0 ≡ front = ap encode_utf8_all (sym (ok_is (chars front) p.0 w.1)) ∙ encodes-chars front utf8 in
    let fine : IsTrue (all_scalars p.0) = subst (λ (t : List ℕ). IsTrue (all_scalars t)) (ok_is (chars front) p.0 w.1) (scalars-chars front utf8) in
    let second : Takes n.1 front (drop n.0 n.1) = record { parts = sym (take-append-drop n.0 n.1); rest_fits = IsBytes-drop n.0 n.1 one.0.rest_fits } in
    let joined = Takes-then bytes (count_bytes n.0) n.1 front (drop n.0 n.1) one.0 second in
    let whole : count_bytes n.0 ++ front ≡ text_bytes p.0 = ap (λ (k : ℕ). count_bytes k ++ front) (sym len) ∙ ap (λ (t : List ℕ). count_bytes (length t) ++ t) (sym spelt) in
    subst (λ (x : List ℕ × List ℕ). Takes bytes (text_bytes x.0) x.1 × IsTrue (all_scalars x.0)) (ok_is (p.0, drop n.0 n.1) (text, rest) p.2)
    (subst (λ (t : List ℕ). Takes bytes t (drop n.0 n.1)) whole joined, fine)

pub text_again : (text rest : List ℕ) → IsTrue (all_scalars text) → Few (text_bytes text ++ rest) → text_at (text_bytes text ++ rest) ≡ Ok (text, rest)
unfolding text_at
text_again text rest fine few =
    let front = encode_utf8_all text in
    let both = length-append (count_bytes (length front) ++ front) rest in
    let parts = length-append (count_bytes (length front)) front in
    let short : length front < 2 ^ 64 = omega (arith, both, parts, few) in
    let long : ltb (length (front ++ rest)) (length front) ≡ false = le-ltb _ _ (omega (arith, length-append front rest)) in
    let utf8 : is_utf8 front ≡ true = is_utf8-from_IsUtf8 front (text, (fine, refl)) in
    ap text_at (append_assoc (count_bytes (length front)) front rest)
    ∙ rw (count_again (length front) (front ++ rest) short, long, take_at front rest (length front) refl, drop_at front rest (length front) refl, utf8, chars-encodes text fine) refl
