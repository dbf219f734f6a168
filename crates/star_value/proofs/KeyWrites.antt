-- What a key feeds a hasher, by its form.
use Rattle.std.proofs.Common.{◌≡◌, ℕ, zero, suc, ◌+◌, ◌<◌, ℤ, Bool, List, [], ◌∷◌, ◌++◌, length, map, drop, get_or, fold, add-one, arith, refl, sym, ap, ◌∙◌}
use Rattle.std.proofs.lemmas.List.Sums.{fold-append}
use Rattle.std.specs.Hash as fed
use Rattle.std.specs.Hash.{HashWrites}
use Rattle.std.specs.Str.{encode_utf8_all}
use Rattle.star_value.specs.declared.key.Key.{Key, fold-roll-Key, map-Key, out-Key, roll-Key, roll-out-Key}
use Rattle.star_value.specs.declared.key.Key.TheOpen.{Key-F}
use Rattle.star_value.specs.declared.key.Key.TheVariants as k
use Rattle.star_value.specs.KeyHash.{concat, writes, writes_layer}

pub writes-roll : (x : Key-F Key) → writes (roll-Key x) ≡ writes_layer (map-Key Key HashWrites writes x)
unfolding writes
writes-roll x = fold-roll-Key HashWrites writes_layer x

pub writes_opened : (a : Key) → writes a ≡ writes_layer (map-Key Key HashWrites writes (out-Key a))
writes_opened a = ap writes (sym (roll-out-Key a)) ∙ writes-roll (out-Key a)

pub writes_none : writes k.None ≡ fed.u8 0
writes_none = rw (← k.rolls-None) (writes-roll Key-F.None)

pub writes_bool : (b : Bool) → writes (k.Bool b) ≡ fed.u8 1 ++ fed.bool b
writes_bool b = rw (← k.rolls-Bool b) (writes-roll (Key-F.Bool b))

pub writes_int : (n : ℤ) → writes (k.Int n) ≡ fed.u8 2 ++ fed.i128 n
writes_int n = rw (← k.rolls-Int n) (writes-roll (Key-F.Int n))

pub writes_text : (t : List ℕ) → writes (k.Text t) ≡ fed.u8 3 ++ fed.str (encode_utf8_all t)
writes_text t = rw (← k.rolls-Text t) (writes-roll (Key-F.Text t))

-- as many parts as there are keys
length_writes : (keys : List Key) → length (map writes keys) ≡ length keys
length_writes [] = refl
length_writes (x ∷ keys) = ap suc (length_writes keys)

pub writes_tuple : (keys : List Key) → writes (k.Tuple keys) ≡ fed.u8 4 ++ fed.usize (length keys) ++ concat (map writes keys)
writes_tuple keys = rw (← k.rolls-Tuple keys) (writes-roll (Key-F.Tuple keys)) ∙ ap (λ n. fed.u8 4 ++ fed.usize n ++ concat (map writes keys)) (length_writes keys)

pub ruleset cases = (writes_none, writes_bool, writes_int, writes_text, writes_tuple)

-- the key of a place, and those behind it
dropped : (keys : List Key) (i : ℕ) (x : Key) → i < length keys → x ≡ get_or keys i x → drop i keys ≡ x ∷ drop (i + 1) keys
dropped [] i x within is = absurd (omega arith)
dropped (y ∷ keys) zero x within is = ap (λ z. z ∷ keys) (sym is)
dropped (y ∷ keys) (suc i) x within is =
    let next : i + 1 ≡ suc i = omega arith in
    rw add-one (dropped keys i x (omega arith) is ∙ ap (λ n. x ∷ drop n keys) next)

-- one key more of a list
pub one_more : {S : Type 0} (write : S → List ℕ → S) (s : S) (keys : List Key) (i : ℕ) (x : Key) → i < length keys → x ≡ get_or keys i x
    → fold write (fold write s (writes x)) (concat (map writes (drop (i + 1) keys))) ≡ fold write s (concat (map writes (drop i keys)))
one_more write s keys i x within is =
    sym (fold-append write s (writes x) (concat (map writes (drop (i + 1) keys)))) ∙ ap (λ l. fold write s (concat (map writes l))) (sym (dropped keys i x within is))
