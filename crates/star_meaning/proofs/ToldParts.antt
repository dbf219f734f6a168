-- The bytes of numbers, texts and lists tell what they are the bytes of, also where others follow.
use Rattle.std.proofs.Common.{◌≡◌, ◌<◌, ◌≤◌, ◌+◌, ◌*◌, ◌/◌, ◌%◌, ◌^◌, ℕ, ℤ, zero, suc, pos, negsuc, Bool, List, [], ◌∷◌, ◌++◌, length, IsTrue, FitsSigned, chars, encode_utf8_all, refl, sym, ap, arith, subst, ◌∙◌, append_assoc, length-append, add-mul, mul_assoc, mul_right_comm, mod-eq_of_lt, pow-suc, div-add-mod', to_z}
use Rattle.std.proofs.lemmas.Bool.Decides.{nat_tests}
use Rattle.std.proofs.lemmas.Nat.{mod-mul-add, mod_below, mul-add-lt}
use Rattle.std.proofs.lemmas.Str.{chars-encodes}
use Rattle.std.specs.Int.{byte_at, bytes_high_first, cast_unsigned, w128}
use Rattle.std.specs.List.{flat_map, list_all}
use Rattle.std.specs.Str.{all_scalars}
use Rattle.star_meaning.specs.Values.{has_128_bits}
use Rattle.star_meaning.specs.Snapshot.{count_bytes, counted, id_bytes, integer_bytes, text_bytes}
use Rattle.star_meaning.specs.Validity.{has_32_bits}
use Rattle.star_meaning.proofs.AlikeNumbers.{and_both}
use mir.ValLaws as laws

-- ---- lists of bytes

pub cons_same : (x y : ℕ) (xs ys : List ℕ) → x ∷ xs ≡ y ∷ ys → (x ≡ y) × (xs ≡ ys)
cons_same x y xs ys e = let one : x ≡ y = cc in let two : xs ≡ ys = cc in (one, two)

-- lists of one length that begin lists
pub split_same : (xs ys r s : List ℕ) → length xs ≡ length ys → xs ++ r ≡ ys ++ s → (xs ≡ ys) × (r ≡ s)
split_same [] [] r s l e = (refl, e)
split_same [] (y ∷ ys) r s l e = absurd (omega (arith, l))
split_same (x ∷ xs) [] r s l e = absurd (omega (arith, l))
split_same (x ∷ xs) (y ∷ ys) r s l e =
    let both = cons_same x y (xs ++ r) (ys ++ s) e in let rest = split_same xs ys r s (omega (arith, l)) both.1 in (λ i. both.0 i ∷ rest.0 i, rest.1)

-- as many bytes as a count can tell
abbrev pub Short : List ℕ → Type 0
Short bytes = length bytes < 2 ^ 64

pub short_rest : (c x : List ℕ) → Short (c ++ x) → Short x
short_rest c x l = let both = length-append c x in omega (arith, both, l)

pub short_tail : (b : ℕ) (x : List ℕ) → Short (b ∷ x) → Short x
short_tail b x l = omega (arith, l)

within : (c x : List ℕ) (m : ℕ) → m ≤ length x → Short (c ++ x) → m < 2 ^ 64
within c x m h l = let both = length-append c x in omega (arith, both, h, l)

pub begins : (x r : List ℕ) (m : ℕ) → m ≤ length x → m ≤ length (x ++ r)
begins x r m h = let both = length-append x r in omega (arith, both, h)

-- ---- numbers

power : (k : ℕ) → 0 < 256 ^ k
power zero = omega arith
power (suc k) = let low = power k in subst (λ x. 0 < x) (sym (pow-suc 256 k)) (omega (arith, low))

byte_here : (k n : ℕ) → byte_at k n ≡ n / 256 ^ k % 256
byte_here zero n = omega arith
byte_here (suc k) n = refl

-- one byte more
low_next : (n p : ℕ) → 0 < p → n % (p * 256) ≡ n / p % 256 * p + n % p
low_next n p h =
    let high : n / p ≡ n / p / 256 * 256 + n / p % 256 = omega arith in
    let parts : n ≡ n / p / 256 * (p * 256) + (n / p % 256 * p + n % p) =
    sym (div-add-mod' n p) ∙ ap (λ q. q * p + n % p) high ∙ joined (n / p / 256) (n / p % 256) p (n % p) in
    ap (λ m. m % (p * 256)) parts ∙ mod-mul-add (n / p / 256) (p * 256) (n / p % 256 * p + n % p) (mul-add-lt (n / p % 256) p (n % p) 256 (omega arith) (mod_below n p h))
  where
    joined : (q d p r : ℕ) → (q * 256 + d) * p + r ≡ q * (p * 256) + (d * p + r)
    joined q d p r =
        let one : (q * 256 + d) * p ≡ q * 256 * p + d * p = add-mul (q * 256) d p in
        let two : q * 256 * p ≡ q * (p * 256) = mul_right_comm q 256 p ∙ mul_assoc q p 256 in omega (arith, one, two)

low_told : (k m n : ℕ) (r s : List ℕ) → bytes_high_first k m ++ r ≡ bytes_high_first k n ++ s → (m % 256 ^ k ≡ n % 256 ^ k) × (r ≡ s)
low_told zero m n r s e = (omega arith, e)
low_told (suc k) m n r s e =
    let both = cons_same (byte_at k m) (byte_at k n) (bytes_high_first k m ++ r) (bytes_high_first k n ++ s) e in
    let rest = low_told k m n r s both.1 in
    let byte : m / 256 ^ k % 256 ≡ n / 256 ^ k % 256 = sym (byte_here k m) ∙ both.0 ∙ byte_here k n in
    (grown m ∙ (λ i. byte i * 256 ^ k + rest.0 i) ∙ sym (grown n), rest.1)
  where
    grown : (x : ℕ) → x % 256 ^ suc k ≡ x / 256 ^ k % 256 * 256 ^ k + x % 256 ^ k
    grown x = ap (λ p. x % p) (pow-suc 256 k) ∙ low_next x (256 ^ k) (power k)

number_told : (k m n : ℕ) (r s : List ℕ) → m < 256 ^ k → n < 256 ^ k → bytes_high_first k m ++ r ≡ bytes_high_first k n ++ s → (m ≡ n) × (r ≡ s)
number_told k m n r s h l e = let both = low_told k m n r s e in (sym (mod-eq_of_lt h) ∙ both.0 ∙ mod-eq_of_lt l, both.1)

pub id_told : (m n : ℕ) (r s : List ℕ) → IsTrue (has_32_bits m) → IsTrue (has_32_bits n) → id_bytes m ++ r ≡ id_bytes n ++ s → (m ≡ n) × (r ≡ s)
id_told m n r s h l e =
    let one : m < 2 ^ 32 = grind (arith, nat_tests, h) in let two : n < 2 ^ 32 = grind (arith, nat_tests, l) in number_told 4 m n r s one two e

count_told : (m n : ℕ) (r s : List ℕ) → m < 2 ^ 64 → n < 2 ^ 64 → count_bytes m ++ r ≡ count_bytes n ++ s → (m ≡ n) × (r ≡ s)
count_told m n r s h l e = number_told 8 m n r s h l e

bits_fit : (z : ℤ) → IsTrue (has_128_bits z) → FitsSigned w128 z
bits_fit (pos n) h = grind (arith, nat_tests)
bits_fit (negsuc n) h = grind (arith, nat_tests)

pub integer_told : (y z : ℤ) (r s : List ℕ) → IsTrue (has_128_bits y) → IsTrue (has_128_bits z) → integer_bytes y ++ r ≡ integer_bytes z ++ s → (y ≡ z) × (r ≡ s)
integer_told y z r s h l e =
    let one = bits_fit y h in
    let two = bits_fit z l in
    let both = number_told 16 (cast_unsigned w128 y) (cast_unsigned w128 z) r s (laws.of_z_fits w128 y one).fits (laws.of_z_fits w128 z two).fits e in
    (sym (laws.to_z-of_z w128 y one) ∙ ap (to_z w128) both.0 ∙ laws.to_z-of_z w128 z two, both.1)

-- ---- counts and what is counted

-- a count that is no greater than what follows it is long
counts_told : (m n : ℕ) (x y : List ℕ) → m ≤ length x → n ≤ length y → Short (count_bytes m ++ x) → count_bytes m ++ x ≡ count_bytes n ++ y → (m ≡ n) × (x ≡ y)
counts_told m n x y h k l e = count_told m n x y (within (count_bytes m) x m h l) (within (count_bytes n) y n k (subst Short e l)) e

pub text_told : (a b r s : List ℕ) → IsTrue (all_scalars a) → IsTrue (all_scalars b) → Short (text_bytes a ++ r) → text_bytes a ++ r ≡ text_bytes b ++ s → (a ≡ b) × (r ≡ s)
text_told a b r s h k l e =
    let x = encode_utf8_all a in
    let y = encode_utf8_all b in
    let one = append_assoc (count_bytes (length x)) x r in
    let two = append_assoc (count_bytes (length y)) y s in
    let both = counts_told (length x) (length y) (x ++ r) (y ++ s) (begins x r (length x) (omega arith)) (begins y s (length y) (omega arith)) (subst Short one l) (sym one ∙ e ∙ two) in
    let rest = split_same x y r s both.0 both.1 in (sym (chars-encodes a h) ∙ ap chars rest.0 ∙ chars-encodes b k, rest.1)

module _ {A : Type 0} (f : A → List ℕ) (holds : A → Bool) where
  -- the bytes of a thing, and others, tell the thing and the others
  abbrev pub Told : A → Type 0
  Told a = (b : A) (r s : List ℕ) → IsTrue (holds a) → IsTrue (holds b) → Short (f a ++ r) → f a ++ r ≡ f b ++ s → (a ≡ b) × (r ≡ s)

  abbrev pub AllTold : List A → Type 0
  AllTold [] = Unit {0}
  AllTold (a ∷ every) = Told a × AllTold every

  pub each_told : ((a : A) → Told a) → (every : List A) → AllTold every
  each_told h [] = tt
  each_told h (a ∷ every) = (h a, each_told h every)

  list_told : (every bs : List A) (r s : List ℕ) → AllTold every → IsTrue (list_all holds every) → IsTrue (list_all holds bs) → length every ≡ length bs → Short (flat_map f every ++ r) → flat_map f every ++ r ≡ flat_map f bs ++ s → (every ≡ bs) × (r ≡ s)
  list_told [] [] r s t h k n l e = (refl, e)
  list_told [] (b ∷ bs) r s t h k n l e = absurd (omega (arith, n))
  list_told (a ∷ every) [] r s t h k n l e = absurd (omega (arith, n))
  list_told (a ∷ every) (b ∷ bs) r s t h k n l e =
      let one = append_assoc (f a) (flat_map f every) r in
      let two = append_assoc (f b) (flat_map f bs) s in
      let here = and_both (holds a) (list_all holds every) h in
      let there = and_both (holds b) (list_all holds bs) k in
      let short = subst Short one l in
      let first = t.0 b (flat_map f every ++ r) (flat_map f bs ++ s) here.0 there.0 short (sym one ∙ e ∙ two) in
      let rest = list_told every bs r s t.1 here.1 there.1 (omega (arith, n)) (short_rest (f a) (flat_map f every ++ r) short) first.1 in (λ i. first.0 i ∷ rest.0 i, rest.1)

  many : ((a : A) → 1 ≤ length (f a)) → (every : List A) → length every ≤ length (flat_map f every)
  many h [] = omega arith
  many h (a ∷ every) = let both = length-append (f a) (flat_map f every) in let one = h a in let rest = many h every in omega (arith, both, one, rest)

  pub counted_told : ((a : A) → 1 ≤ length (f a)) → (every bs : List A) (r s : List ℕ) → AllTold every → IsTrue (list_all holds every) → IsTrue (list_all holds bs)
      → Short (counted f every ++ r) → counted f every ++ r ≡ counted f bs ++ s → (every ≡ bs) × (r ≡ s)
  counted_told some every bs r s t h k l e =
      let x = flat_map f every in
      let y = flat_map f bs in
      let one = append_assoc (count_bytes (length every)) x r in
      let two = append_assoc (count_bytes (length bs)) y s in
      let short = subst Short one l in
      let both = counts_told (length every) (length bs) (x ++ r) (y ++ s) (begins x r (length every) (many some every)) (begins y s (length bs) (many some bs)) short (sym one ∙ e ∙ two) in
      list_told every bs r s t h k both.0 (short_rest (count_bytes (length every)) (x ++ r) short) both.1
