-- Lists of things that are each changed in one way, as values with other numbers of objects are.
use Rattle.std.proofs.Common.{◌≡◌, ℕ, zero, suc, ℤ, pos, negsuc, List, [], ◌∷◌, ◌++◌, map, length, reverse, Bool, true, false, refl, sym, ap, ◌∙◌}
use Rattle.std.proofs.lemmas.List.{drop-map, length-map, map-append, reverse-append, take-map}
use Rattle.std.proofs.lemmas.Option.{slice_get-map}
use Rattle.std.specs.Prelude.{Option, Some, None, option_map, option_and_then, is_some, if◌then◌else◌, slice_get, slice_set, take, drop}
use Rattle.std.specs.List.{cons_option, filter_map, insert, remove, repeat}
use Rattle.star_value.specs.declared.key.Key.{Key}
use Rattle.star_value.specs.declared.value.Value.{Value}
use Rattle.star_value.specs.KeyOrder.{same_key}
use Rattle.star_meaning.specs.State.{dict_get, dict_put, dict_without}
use Rattle.star_meaning.specs.Values.{integers_of, is_empty, place_of}
use Rattle.star_meaning.specs.Operators.{at_int, places_taken, taken}

module _ {A B : Type 0} (f : A → B) where
  pub set_map : (xs : List A) (i : ℕ) (x : A) → map f (slice_set xs i x) ≡ slice_set (map f xs) i (f x)
  set_map [] i x = refl
  set_map (y ∷ ys) zero x = refl
  set_map (y ∷ ys) (suc i) x = ap (λ r. f y ∷ r) (set_map ys i x)

  pub repeat_map : (n : ℕ) (xs : List A) → repeat n (map f xs) ≡ map f (repeat n xs)
  repeat_map zero xs = refl
  repeat_map (suc n) xs = ap (λ r. map f xs ++ r) (repeat_map n xs) ∙ sym (map-append f xs (repeat n xs))

  pub reverse_map : (xs : List A) → reverse (map f xs) ≡ map f (reverse xs)
  reverse_map [] = refl
  reverse_map (x ∷ xs) =
      reverse-append (f x ∷ []) (map f xs) ∙ ap (λ r. r ++ f x ∷ []) (reverse_map xs) ∙ sym (map-append f (reverse xs) (x ∷ [])) ∙ ap (map f) (sym (reverse-append (x ∷ []) xs))

  pub remove_map : (xs : List A) (i : ℕ) → remove (map f xs) i ≡ map f (remove xs i)
  remove_map xs i = (λ j. take-map f i xs j ++ drop-map f (suc i) xs j) ∙ sym (map-append f (take i xs) (drop (suc i) xs))

  pub insert_map : (xs : List A) (i : ℕ) (y : A) → insert (map f xs) i (f y) ≡ map f (insert xs i y)
  insert_map xs i y = (λ j. take-map f i xs j ++ f y ∷ drop-map f i xs j) ∙ sym (map-append f (take i xs) (y ∷ drop i xs))

  pub empty_map : (xs : List A) → is_empty (map f xs) ≡ is_empty xs
  empty_map [] = refl
  empty_map (x ∷ xs) = refl

  pub some_map : (o : Option A) → is_some (option_map f o) ≡ is_some o
  some_map None = refl
  some_map (Some x) = refl

  at_map : (xs : List A) (z : ℤ) → at_int (map f xs) z ≡ option_map f (at_int xs z)
  at_map xs (pos n) = slice_get-map f xs n
  at_map xs (negsuc n) = refl

  pub cons_map : (o : Option A) (xs : List A) → cons_option (option_map f o) (map f xs) ≡ map f (cons_option o xs)
  cons_map None xs = refl
  cons_map (Some x) xs = refl

  chosen_map : (xs : List A) (zs : List ℤ) → filter_map (at_int (map f xs)) zs ≡ map f (filter_map (at_int xs) zs)
  chosen_map xs [] = refl
  chosen_map xs (z ∷ zs) = (λ j. cons_option (at_map xs z j) (chosen_map xs zs j)) ∙ cons_map (at_int xs z) (filter_map (at_int xs) zs)

  pub taken_map : (xs : List A) (start stop : Option ℤ) (step : ℤ) → taken (map f xs) start stop step ≡ map f (taken xs start stop step)
  unfolding taken
  taken_map xs start stop step =
      ap (λ n. filter_map (at_int (map f xs)) (integers_of (places_taken (pos n) start stop step))) (length-map xs f)
      ∙ chosen_map xs (integers_of (places_taken (pos (length xs)) start stop step))

  place_map : (xs : List A) (o : Option ℕ) → option_and_then (slice_get (map f xs)) o ≡ option_map f (option_and_then (slice_get xs) o)
  place_map xs None = refl
  place_map xs (Some n) = slice_get-map f xs n

  pub item_map : (xs : List A) (z : ℤ) → option_and_then (slice_get (map f xs)) (place_of z (length (map f xs))) ≡ option_map f (option_and_then (slice_get xs) (place_of z (length xs)))
  item_map xs z = ap (λ n. option_and_then (slice_get (map f xs)) (place_of z n)) (length-map xs f) ∙ place_map xs (place_of z (length xs))

-- ---- pairs of a dict, of which the values are changed

module _ (f : Value → Value) where
  abbrev valued : Key × Value → Key × Value
  valued pair = (pair.0, f pair.1)

  get_if : (b : Bool) (v : Value) (o p : Option Value) → o ≡ option_map f p → (if b then Some (f v) else o) ≡ option_map f (if b then Some v else p)
  get_if true v o p h = refl
  get_if false v o p h = h

  pub get_map : (pairs : List (Key × Value)) (key : Key) → dict_get (map valued pairs) key ≡ option_map f (dict_get pairs key)
  unfolding dict_get
  get_map [] key = refl
  get_map (pair ∷ pairs) key = get_if (same_key key pair.0) pair.1 _ _ (get_map pairs key)

  put_if : (b : Bool) (pair : Key × Value) (pairs more : List (Key × Value)) (v : Value) (rest : List (Key × Value)) → rest ≡ map valued more
      → (if b then (pair.0, f v) ∷ map valued pairs else valued pair ∷ rest) ≡ map valued (if b then (pair.0, v) ∷ pairs else pair ∷ more)
  put_if true pair pairs more v rest h = refl
  put_if false pair pairs more v rest h = ap (λ r. valued pair ∷ r) h

  pub put_map : (pairs : List (Key × Value)) (key : Key) (v : Value) → dict_put (map valued pairs) key (f v) ≡ map valued (dict_put pairs key v)
  unfolding dict_put
  put_map [] key v = refl
  put_map (pair ∷ pairs) key v = put_if (same_key key pair.0) pair pairs (dict_put pairs key v) v _ (put_map pairs key v)

  without_if : (b : Bool) (pair : Key × Value) (pairs more rest : List (Key × Value)) → rest ≡ map valued more
      → (if b then map valued pairs else valued pair ∷ rest) ≡ map valued (if b then pairs else pair ∷ more)
  without_if true pair pairs more rest h = refl
  without_if false pair pairs more rest h = ap (λ r. valued pair ∷ r) h

  pub without_map : (pairs : List (Key × Value)) (key : Key) → dict_without (map valued pairs) key ≡ map valued (dict_without pairs key)
  unfolding dict_without
  without_map [] key = refl
  without_map (pair ∷ pairs) key = without_if (same_key key pair.0) pair pairs (dict_without pairs key) _ (without_map pairs key)
