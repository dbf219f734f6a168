-- What a sink received, piece after piece.
use Rattle.std.proofs.Common.{◌≡◌, ℕ, zero, suc, ◌+◌, ◌-◌, ◌<◌, ◌≤◌, min, List, [], ◌∷◌, ◌++◌, length, get_or, take, drop, map, Option, Some, None, sym, ap, ◌∙◌, subst, arith, add-one, drop-cons, append_assoc, append-nil, encode_utf8_all}
use Rattle.std.specs.Prelude.{All, OnErr, Result, Ok, Err, flat_map, zip}
use Rattle.std.specs.List.{slice_get}
use Rattle.std.specs.Option.{unwrap_or}
use Rattle.std.proofs.lemmas.Option.{slice_get-get_or}
use Rattle.std.proofs.lemmas.List.{take-append-le, take_min, take-append-drop, take_more}
use Rattle.std.proofs.Math.Seq.{take-append-add}
use Rattle.std.proofs.lemmas.List.Concat.{flat_map-append, flat_map-cons}
use Rattle.std.proofs.lemmas.Str.{encodes-append}
use Rattle.chex_base.specs.Outside.{GrewBy, GrewByPrefix, Received, Rose}
use Rattle.shared_run.specs.Written.{text_in}
use Rattle.audit_run.proofs.MeasuringLemmas.{take_all}

-- ---- one text after another

pub grew_none : (held : Option (List ℕ)) → GrewBy [] held held
grew_none None = tt
grew_none (Some bytes) = sym (append-nil bytes)

pub grew_both : (first second : List ℕ) (before mid now : Option (List ℕ)) → GrewBy first before mid → GrewBy second mid now → GrewBy (first ++ second) before now
grew_both first second None mid now one two = tt
grew_both first second (Some a) None now one two = absurd one
grew_both first second (Some a) (Some b) None one two = absurd two
grew_both first second (Some a) (Some b) (Some c) one two = two ∙ (ap (λ (l : List ℕ). l ++ second) one ∙ append_assoc a first second)

-- a prefix of a piece, behind what was written before it, is a prefix of the whole
front_of_three : (a p rest : List ℕ) (n : ℕ) → take (length a + min n (length p)) (a ++ (p ++ rest)) ≡ a ++ take n p
front_of_three a p rest n =
    take-append-add a (p ++ rest) (min n (length p)) ∙ ap (λ (x : List ℕ). a ++ x) (take-append-le (min n (length p)) p rest (omega arith) ∙ take_min n p)

pub prefix_within : (a p rest : List ℕ) (before mid now : Option (List ℕ)) → GrewBy a before mid → GrewByPrefix p mid now → GrewByPrefix (a ++ (p ++ rest)) before now
prefix_within a p rest before mid now grew part = (
  length a + min part.0 (length p),
  subst (λ (text : List ℕ). GrewBy text before now) (sym (front_of_three a p rest part.0)) (grew_both a (take part.0 p) before mid now grew part.1),
)

-- ---- a list of texts, in code points

encodes_three : (a p rest : List ℕ) → encode_utf8_all (a ++ (p ++ rest)) ≡ encode_utf8_all a ++ (encode_utf8_all p ++ encode_utf8_all rest)
encodes_three a p rest = encodes-append a (p ++ rest) ∙ ap (λ (x : List ℕ). encode_utf8_all a ++ x) (encodes-append p rest)

module _ {X : Type 0} (f : X → List ℕ) (xs : List X) (i : ℕ) (x : X) (t : List ℕ) where
  split_at : i < length xs → x ≡ get_or xs i x → flat_map f xs ≡ flat_map f (take i xs) ++ (f x ++ flat_map f (drop (i + 1) xs))
  split_at less is =
      let rest : drop i xs ≡ x ∷ drop (i + 1) xs = rw (add-one, drop-cons xs i x less, ← is) in
      let whole : xs ≡ take i xs ++ (x ∷ drop (i + 1) xs) = sym (take-append-drop i xs) ∙ ap (λ (l : List X). take i xs ++ l) rest in
      ap (flat_map f) whole ∙ (flat_map-append f (take i xs) (x ∷ drop (i + 1) xs) ∙ ap (λ (l : List ℕ). flat_map f (take i xs) ++ l) (flat_map-cons f x (drop (i + 1) xs)))

  -- one more of them
  pub one_more : (before mid now : Option (List ℕ)) → i < length xs → x ≡ get_or xs i x → f x ≡ t
      → GrewBy (encode_utf8_all (flat_map f (take i xs))) before mid → GrewBy (encode_utf8_all t) mid now → GrewBy (encode_utf8_all (flat_map f (take (i + 1) xs))) before now
  one_more before mid now less is text grew more =
      let last : flat_map f (get_or xs i x ∷ []) ≡ t = flat_map-cons f (get_or xs i x) [] ∙ (append-nil (f (get_or xs i x)) ∙ (ap f (sym is) ∙ text)) in
      let points : flat_map f (take (i + 1) xs) ≡ flat_map f (take i xs) ++ t =
      ap (flat_map f) (take_more xs i x less) ∙ (flat_map-append f (take i xs) (get_or xs i x ∷ []) ∙ ap (λ (l : List ℕ). flat_map f (take i xs) ++ l) last) in
      subst (λ (all : List ℕ). GrewBy all before now) (sym (ap encode_utf8_all points ∙ encodes-append (flat_map f (take i xs)) t))
      (grew_both (encode_utf8_all (flat_map f (take i xs))) (encode_utf8_all t) before mid now grew more)

  -- a part of the next one
  pub a_part : (before mid now : Option (List ℕ)) → i < length xs → x ≡ get_or xs i x → f x ≡ t
      → GrewBy (encode_utf8_all (flat_map f (take i xs))) before mid → GrewByPrefix (encode_utf8_all t) mid now → GrewByPrefix (encode_utf8_all (flat_map f xs)) before now
  a_part before mid now less is text grew part =
      let points : flat_map f xs ≡ flat_map f (take i xs) ++ (t ++ flat_map f (drop (i + 1) xs)) = split_at less is ∙ ap (λ (l : List ℕ). flat_map f (take i xs) ++ (l ++ flat_map f (drop (i + 1) xs))) text in
      subst (λ (all : List ℕ). GrewByPrefix all before now)
      (sym (ap encode_utf8_all points ∙ encodes_three (flat_map f (take i xs)) t (flat_map f (drop (i + 1) xs))))
      (prefix_within (encode_utf8_all (flat_map f (take i xs))) (encode_utf8_all t) (encode_utf8_all (flat_map f (drop (i + 1) xs))) before mid now grew part)

  -- all of them
  pub all_of_them : (before now : Option (List ℕ)) → length xs ≤ i → GrewBy (encode_utf8_all (flat_map f (take i xs))) before now → GrewBy (encode_utf8_all (flat_map f xs)) before now
  all_of_them before now past grew = subst (λ (l : List X). GrewBy (encode_utf8_all (flat_map f l)) before now) (take_all xs i past) grew

-- ---- two texts

pub grew_two : (a b : List ℕ) (before mid now : Option (List ℕ)) → GrewBy (encode_utf8_all a) before mid → GrewBy (encode_utf8_all b) mid now → GrewBy (encode_utf8_all (a ++ b)) before now
grew_two a b before mid now one two = subst (λ (text : List ℕ). GrewBy text before now) (sym (encodes-append a b)) (grew_both (encode_utf8_all a) (encode_utf8_all b) before mid now one two)

pub part_of_first : (a b : List ℕ) (before now : Option (List ℕ)) → GrewByPrefix (encode_utf8_all a) before now → GrewByPrefix (encode_utf8_all (a ++ b)) before now
part_of_first a b before now part =
    subst (λ (text : List ℕ). GrewByPrefix text before now) (sym (encodes-append a b)) (prefix_within [] (encode_utf8_all a) (encode_utf8_all b) before before now (grew_none before) part)

pub part_of_second : (a b : List ℕ) (before mid now : Option (List ℕ)) → GrewBy (encode_utf8_all a) before mid → GrewByPrefix (encode_utf8_all b) mid now → GrewByPrefix (encode_utf8_all (a ++ b)) before now
part_of_second a b before mid now one part =
    subst (λ (text : List ℕ). GrewByPrefix text before now) (sym (encodes-append a b ∙ ap (λ (l : List ℕ). encode_utf8_all a ++ l) (sym (append-nil (encode_utf8_all b)))))
    (prefix_within (encode_utf8_all a) (encode_utf8_all b) [] before mid now one part)

-- ---- pairs

-- what stands at a place of two lists of one length
pub pair_at : {A B C : Type 0} (firsts : List A) (seconds : List B) (f : B → C) (i : ℕ) (a : A) (b : B) → length firsts ≡ length seconds → i < length firsts → a ≡ get_or firsts i a → b ≡ get_or seconds i b
    → (i < length (zip firsts (map f seconds))) × ((a, f b) ≡ get_or (zip firsts (map f seconds)) i (a, f b))
pair_at [] seconds f i a b long less first second = absurd (omega (arith, less))
pair_at (x ∷ firsts) [] f i a b long less first second = absurd (omega (arith, long))
pair_at (x ∷ firsts) (y ∷ seconds) f zero a b long less first second = (omega arith, cc)
pair_at (x ∷ firsts) (y ∷ seconds) f (suc i) a b long less first second =
    let rest = pair_at firsts seconds f i a b (omega (arith, long)) (omega (arith, less)) first second in
    (let one : i < length (zip firsts (map f seconds)) = rest.0 in omega (arith, one), rest.1)

-- no more pairs than items of the first list
pub long_zip : {A B C : Type 0} (firsts : List A) (seconds : List B) (f : B → C) (i : ℕ) → length firsts ≤ i → length (zip firsts (map f seconds)) ≤ i
long_zip [] seconds f i past = omega arith
long_zip (x ∷ firsts) [] f i past = omega arith
long_zip (x ∷ firsts) (y ∷ seconds) f zero past = absurd (omega (arith, past))
long_zip (x ∷ firsts) (y ∷ seconds) f (suc i) past = let rest : length (zip firsts (map f seconds)) ≤ i = long_zip firsts seconds f i (omega (arith, past)) in omega (arith, rest)

-- ---- the texts of nodes

numbered_text : (texts : List (List ℕ)) (n at : ℕ) (x : List ℕ) → 1 ≤ n → n ≤ length texts → at ≡ n - 1 → x ≡ get_or texts at x → text_in texts n ≡ x
numbered_text texts zero at x low high place is = absurd (omega (arith, low))
numbered_text texts (suc k) at x low high place is =
    let same : at ≡ k = omega (arith, place) in
    let there : slice_get texts k ≡ Some (get_or texts k x) = slice_get-get_or texts k x (omega (arith, high)) in
    ap (λ (o : Option (List ℕ)). unwrap_or o []) there ∙ (ap (λ (j : ℕ). get_or texts j x) (sym same) ∙ sym is)

-- what stands at the place of a node on a way
pub text_at : (texts : List (List ℕ)) (nodes : List ℕ) (i node at : ℕ) (x : List ℕ) → All (λ n. (1 ≤ n) × (n ≤ length texts)) nodes → i < length nodes → node ≡ get_or nodes i node
    → at ≡ node - 1 → x ≡ get_or texts at x → text_in texts node ≡ x
text_at texts nodes i node at x within less is place there =
    let here : (1 ≤ node) × (node ≤ length texts) = subst (λ (n : ℕ). (1 ≤ n) × (n ≤ length texts)) (sym is) (within i node less) in
    numbered_text texts node at x here.0 here.1 place there

-- ---- answers of writes

-- what holds anyway holds at an `Err`
pub on_err : {T E P : Type 0} (r : Result T E) → P → OnErr r P
on_err (Ok x) p = tt
on_err (Err e) p = p

pub at_err : {E : Type 0} (r : Result (Unit {0}) E) (e : E) (text : List ℕ) (before now : Option (List ℕ)) → r ≡ Err e → GrewByPrefix text before now → Received before now r text
at_err (Ok done) e text before now is part = absurd (cc)
at_err (Err why) e text before now is part = part

-- a count that rose after it had not fallen rose
pub rose_later : (a b c : ℕ) → a ≤ b → Rose b c → Rose a c
rose_later a b c low rose = omega arith

-- what comes of a second text, behind a first that was received whole
pub received_second : {E : Type 0} (a b : List ℕ) (before mid now : Option (List ℕ)) (r : Result (Unit {0}) E) → GrewBy (encode_utf8_all a) before mid
    → Received mid now r (encode_utf8_all b) → Received before now r (encode_utf8_all (a ++ b))
received_second a b before mid now (Ok done) one two = grew_two a b before mid now one two
received_second a b before mid now (Err why) one two = part_of_second a b before mid now one two
