-- How each form of a value is written, in pieces that are put after a text.
use Rattle.std.proofs.Common.{◌≡◌, ℕ, ℤ, zero, suc, ◌+◌, ◌-◌, ◌<◌, ◌≤◌, true, false, Option, Some, None, Err, slice_get, List, [], ◌∷◌, ◌++◌, map, length, drop, get_or, refl, sym, ap, ◌∙◌, arith, append-nil}
use Rattle.std.specs.Prelude.{codes}
use Rattle.std.specs.Fmt.{signed_decimal}
use Rattle.std.proofs.lemmas.List.{drop_more, drop_all}
use Rattle.star_value.specs.declared.builtin.Builtin.{Builtin}
use Rattle.star_value.specs.declared.failure.Failure.{Failure}
use Rattle.star_value.specs.declared.failure.Failure.TheVariants as failure
use Rattle.star_value.specs.declared.key.Key.{Key}
use Rattle.star_value.specs.declared.range.Range.{Range}
use Rattle.star_value.specs.declared.value.Value.{Value, out-Value}
use Rattle.star_value.specs.declared.value.Value.TheOpen.{Value-F}
use Rattle.star_value.specs.declared.value.Value.TheVariants as value
use Rattle.star_value.specs.Keys as keys
use Rattle.star_meaning.specs.State.{list, dict, function}
use Rattle.star_value.specs.declared.stop.Stop.{Stop}
use Rattle.star_value.specs.declared.stop.Stop.TheVariants as stop
use Rattle.star_meaning.specs.Steps.{Steps, Outcome, Went, Failed, Action, Store, pure, and_then, ◌>>=◌}
use Rattle.star_meaning.specs.Showing.{Naming, Writing, made, made_after, ◌<+>◌, between, quoted_at, quoted_in, quoted_text, range_text, function_text, function_name, quoted, shown}
use Rattle.star_meaning.specs.Values.{builtin_name, text_in}
use Rattle.star_meaning.proofs.Equations.{out_none, out_bool, out_int, out_text, out_tuple, out_range, out_list, out_dict, out_function, out_builtin}
use Rattle.star_builtins.specs.Shows.{Shows, onto}
use Rattle.star_builtins.specs.Pieces.{inside, separator, pieces, sequence, table, pair_piece, tuple_end}
use Rattle.star_builtins.proofs.Written.{begins_same, onto_both, onto_three, onto_nothing}

module _ {C : Type 0} (naming : Naming C) where
  plain_at : (n : ℕ) (v : Value) (x : Value-F Value) (p : Action C (List ℕ)) → out-Value v ≡ x
      → ((i : Option (Writing C)) → quoted_at naming i x ≡ p) → quoted_in naming n v ≡ p
  unfolding quoted_in
  plain_at zero v x p is h = rw is (h None)
  plain_at (suc n) v x p is h = rw is (h (Some (quoted_in naming n)))

  pub quoted_none : (n : ℕ) → quoted_in naming n value.None ≡ made (codes "None")
  quoted_none n = plain_at n _ _ _ out_none (λ i. refl)

  pub quoted_true : (n : ℕ) → quoted_in naming n (value.Bool true) ≡ made (codes "True")
  quoted_true n = plain_at n _ _ _ (out_bool true) (λ i. refl)

  pub quoted_false : (n : ℕ) → quoted_in naming n (value.Bool false) ≡ made (codes "False")
  quoted_false n = plain_at n _ _ _ (out_bool false) (λ i. refl)

  pub quoted_int : (n : ℕ) (z : ℤ) → quoted_in naming n (value.Int z) ≡ made (signed_decimal z)
  quoted_int n z = plain_at n _ _ _ (out_int z) (λ i. refl)

  pub quoted_points : (n : ℕ) (points : List ℕ) → quoted_in naming n (value.Text points) ≡ made (quoted_text points)
  quoted_points n points = plain_at n _ _ _ (out_text points) (λ i. refl)

  pub quoted_range : (n : ℕ) (r : Range) → quoted_in naming n (value.Range r) ≡ made (range_text r)
  quoted_range n r = plain_at n _ _ _ (out_range r) (λ i. refl)

  pub quoted_builtin : (n : ℕ) (which : Builtin) → quoted_in naming n (value.Builtin which) ≡ made (codes "<builtin " ++ builtin_name which ++ codes ">")
  quoted_builtin n which = plain_at n _ _ _ (out_builtin which) (λ i. refl)

  pub quoted_function : (n id : ℕ) (before : List ℕ) (s : Store C) → onto before (quoted_in naming n (value.Function id)) s ≡ onto before (made (function_text (function_name naming (function s.state id)))) s
  unfolding onto
  quoted_function n id before s =
      ap (λ p. onto before p s) (plain_at n _ _ (λ w. made (function_text (function_name naming (function w.state id))) w) (out_function id) (λ i. refl))

  pub quoted_list : (n id : ℕ) (before : List ℕ) (s : Store C) → onto before (quoted_in naming n (value.List id)) s ≡ onto before (sequence naming n (codes "[") (codes "]") (list s.state id)) s
  unfolding onto quoted_in sequence inside
  quoted_list zero id before s = rw (out_list id) refl
  quoted_list (suc n) id before s = rw (out_list id) refl

  pub quoted_dict : (n id : ℕ) (before : List ℕ) (s : Store C) → onto before (quoted_in naming n (value.Dict id)) s ≡ onto before (table naming n (dict s.state id)) s
  unfolding onto quoted_in table inside
  quoted_dict zero id before s = rw (out_dict id) refl
  quoted_dict (suc n) id before s = rw (out_dict id) refl

  -- a piece alone
  alone_of : (o : Outcome (Store C) Failure (List ℕ)) → o ≡ and_then o (λ a. pure (a ++ []))
  alone_of (Went a w) = ap (λ t. Went t w) (sym (append-nil a))
  alone_of (Failed e w) = refl

  alone : (p : Action C (List ℕ)) (s : Store C) → p s ≡ (p <+> pure []) s
  alone p s = alone_of (p s)

  one_between : (a b : List ℕ) (p : Action C (List ℕ)) → between a b p ≡ between a b (p <+> pure [])
  one_between a b p = let e : p ≡ (p <+> pure []) = λ i s. alone p s i in ap (λ q. between a b q) e

  pub quoted_tuple : (n : ℕ) (items : List Value) → quoted_in naming n (value.Tuple items) ≡ sequence naming n (codes "(") (tuple_end (length items)) items
  unfolding quoted_in sequence inside tuple_end
  quoted_tuple zero items = rw (out_tuple items) refl
  quoted_tuple (suc n) [] = rw (out_tuple []) refl
  quoted_tuple (suc n) (x ∷ []) = rw (out_tuple (x ∷ [])) (one_between _ _ (quoted_in naming n x))
  quoted_tuple (suc n) (x ∷ y ∷ more) = rw (out_tuple (x ∷ y ∷ more)) refl

  -- ---- containers

  pub sequence_none : (n : ℕ) (a b : List ℕ) (items : List Value) (before : List ℕ) (s : Store C) → n ≡ 0 → onto before (sequence naming n a b items) s ≡ Failed failure.TooDeep s
  unfolding onto sequence inside
  sequence_none zero a b items before s h = refl
  sequence_none (suc n) a b items before s h = absurd (cc)

  pub table_none : (n : ℕ) (pairs : List (Key × Value)) (before : List ℕ) (s : Store C) → n ≡ 0 → onto before (table naming n pairs) s ≡ Failed failure.TooDeep s
  unfolding onto table inside
  table_none zero pairs before s h = refl
  table_none (suc n) pairs before s h = absurd (cc)

  pub sequence_some : (n : ℕ) (a b : List ℕ) (items : List Value) (before : List ℕ) (s : Store C) → 0 < n
      → onto before (sequence naming n a b items) s ≡ and_then (onto before (made a) s) (λ t. onto t (pieces 0 (map (quoted_in naming (n - 1)) items)) >>= (λ u. onto u (made b)))
  unfolding sequence inside pieces
  sequence_some zero a b items before s h = absurd (omega arith)
  sequence_some (suc n) a b items before s h = let back : suc n - 1 ≡ n = omega arith in rw back (onto_three before (made a) _ (made b) s)

  pub table_some : (n : ℕ) (pairs : List (Key × Value)) (before : List ℕ) (s : Store C) → 0 < n
      → onto before (table naming n pairs) s ≡ and_then (onto before (made (codes "{")) s) (λ t. onto t (pieces 0 (map (pair_piece naming (n - 1)) pairs)) >>= (λ u. onto u (made (codes "}"))))
  unfolding table inside pieces pair_piece
  table_some zero pairs before s h = absurd (omega arith)
  table_some (suc n) pairs before s h = let back : suc n - 1 ≡ n = omega arith in rw back (onto_three before (made (codes "{")) _ (made (codes "}")) s)

  pub pair_some : (n : ℕ) (pair : Key × Value) (before : List ℕ) (s : Store C)
      → onto before (pair_piece naming n pair) s ≡ and_then (onto before (quoted_in naming n (keys.value_of pair.0)) s) (λ t. onto t (made (codes ": ")) >>= (λ u. onto u (quoted_in naming n pair.1)))
  unfolding pair_piece
  pair_some n pair before s = onto_three before (quoted_in naming n (keys.value_of pair.0)) (made (codes ": ")) (quoted_in naming n pair.1) s

  pub table_failed : (n : ℕ) (pairs : List (Key × Value)) (text before : List ℕ) (s w : Store C) (e : Stop) (t u : List ℕ) → 0 < n → text ≡ codes "{"
      → Shows (onto before (made text) s) (Err e) w t → Shows (onto before (table naming n pairs) s) (Err e) w u
  table_failed n pairs text before s w (stop.Failure failure) t u within is h = rw (table_some n pairs before s within, ← is, h) refl
  table_failed n pairs text before s w stop.NoMemory t u within is h = tt

  pub pair_failed : (n : ℕ) (pair : Key × Value) (text before mid : List ℕ) (s next w : Store C) (e : Stop) (t u : List ℕ) → text ≡ codes ": "
      → onto before (quoted_in naming n (keys.value_of pair.0)) s ≡ Went mid next → Shows (onto mid (made text) next) (Err e) w t → Shows (onto before (pair_piece naming n pair) s) (Err e) w u
  pair_failed n pair text before mid s next w (stop.Failure failure) t u is first h = rw (pair_some n pair before s, first, ← is, h) refl
  pair_failed n pair text before mid s next w stop.NoMemory t u is first h = tt

  -- ---- the whole value

  pub quoted_whole : (v : Value) → quoted naming v ≡ quoted_in {C = C} naming 64 v
  unfolding quoted
  quoted_whole v = refl

  pub shown_text : (v : Value) (points : List ℕ) → Some points ≡ text_in v → shown naming v ≡ made {C = C} points
  unfolding shown
  shown_text v points is = rw (← is) refl

  pub shown_other : (v : Value) → None ≡ text_in v → shown naming v ≡ quoted_in {C = C} naming 64 v
  unfolding shown quoted
  shown_other v is = rw (← is) refl

-- ---- pieces in order
module _ {C : Type 0} where
  pieces_cons : (i : ℕ) (p : Action C (List ℕ)) (ps : List (Action C (List ℕ))) (before : List ℕ) (s : Store C)
      → onto before (pieces i (p ∷ ps)) s ≡ and_then (onto before (separator i) s) (λ t. onto t p >>= (λ u. onto u (pieces (suc i) ps)))
  unfolding pieces separator
  pieces_cons zero p ps before s = onto_both before p (made_after (codes ", ") ps) s ∙ sym (ap (λ o. and_then o (λ t. onto t p >>= (λ u. onto u (made_after (codes ", ") ps)))) (onto_nothing before s))
  pieces_cons (suc i) p ps before s = onto_three before (made (codes ", ")) p (made_after (codes ", ") ps) s

  pieces_none : (i : ℕ) (before : List ℕ) (s : Store C) → onto before (pieces i []) s ≡ Went before s
  unfolding pieces
  pieces_none zero before s = onto_nothing before s
  pieces_none (suc i) before s = onto_nothing before s

pub drop_here : {X : Type 0} (xs : List X) (i : ℕ) (x : X) → i < length xs → x ≡ get_or xs i x → drop i xs ≡ x ∷ drop (i + 1) xs
drop_here xs i x within here = drop_more xs i x within ∙ ap (λ y. y ∷ drop (i + 1) xs) (sym here)

pub drop_got : {X : Type 0} (xs : List X) (i : ℕ) (x : X) → slice_get xs i ≡ Some x → drop i xs ≡ x ∷ drop (i + 1) xs
drop_got [] i x got = absurd (cc)
drop_got (y ∷ ys) zero x got = let same : y ≡ x = cc in ap (λ z. z ∷ ys) same
drop_got (y ∷ ys) (suc i) x got = let e : suc i + 1 ≡ suc (i + 1) = omega arith in rw e (drop_got ys i x got)

module _ {C : Type 0} {X : Type 0} (f : X → Action C (List ℕ)) where
  pub pieces_more : (xs : List X) (i : ℕ) (x : X) (before : List ℕ) (s : Store C) → drop i xs ≡ x ∷ drop (i + 1) xs
      → onto before (pieces i (map f (drop i xs))) s ≡ and_then (onto before (separator i) s) (λ t. onto t (f x) >>= (λ u. onto u (pieces (i + 1) (map f (drop (i + 1) xs)))))
  pieces_more xs i x before s more =
      let next : suc i ≡ i + 1 = omega arith in
      ap (λ ys. onto before (pieces i (map f ys)) s) more ∙ pieces_cons i (f x) (map f (drop (i + 1) xs)) before s
      ∙ ap (λ n. and_then (onto before (separator i) s) (λ t. onto t (f x) >>= (λ u. onto u (pieces n (map f (drop (i + 1) xs)))))) next

  -- one more piece
  pub pieces_step : (xs : List X) (i : ℕ) (x : X) (before mid after : List ℕ) (s between_them next : Store C) → drop i xs ≡ x ∷ drop (i + 1) xs
      → onto before (separator i) s ≡ Went mid between_them → onto mid (f x) between_them ≡ Went after next
      → onto after (pieces (i + 1) (map f (drop (i + 1) xs))) next ≡ onto before (pieces i (map f (drop i xs))) s
  pieces_step xs i x before mid after s between_them next more first second = rw (pieces_more xs i x before s more, first, second) refl

  pub pieces_failed_first : (xs : List X) (i : ℕ) (x : X) (before : List ℕ) (s w : Store C) (e : Stop) (t u : List ℕ) → drop i xs ≡ x ∷ drop (i + 1) xs
      → Shows (onto before (separator i) s) (Err e) w t → Shows (onto before (pieces i (map f (drop i xs))) s) (Err e) w u
  pieces_failed_first xs i x before s w (stop.Failure failure) t u more h = rw (pieces_more xs i x before s more, h) refl
  pieces_failed_first xs i x before s w stop.NoMemory t u more h = tt

  pub pieces_failed_second : (xs : List X) (i : ℕ) (x : X) (before mid : List ℕ) (s next w : Store C) (e : Stop) (t u : List ℕ) → drop i xs ≡ x ∷ drop (i + 1) xs
      → onto before (separator i) s ≡ Went mid next → Shows (onto mid (f x) next) (Err e) w t → Shows (onto before (pieces i (map f (drop i xs))) s) (Err e) w u
  pieces_failed_second xs i x before mid s next w (stop.Failure failure) t u more first h = rw (pieces_more xs i x before s more, first, h) refl
  pieces_failed_second xs i x before mid s next w stop.NoMemory t u more first h = tt

  pub pieces_end : (xs : List X) (i : ℕ) (before : List ℕ) (s : Store C) → length xs ≤ i → onto before (pieces i (map f (drop i xs))) s ≡ Went before s
  pieces_end xs i before s past = ap (λ ys. onto before (pieces i (map f ys)) s) (drop_all i xs past) ∙ pieces_none i before s

-- ---- a piece that fails

pub failed_first : {W : Type 0} (whole start : Outcome W Failure (List ℕ)) (more : List ℕ → Steps W Failure (List ℕ)) (e : Stop) (w : W) (t u : List ℕ)
    → whole ≡ and_then start more → Shows start (Err e) w t → Shows whole (Err e) w u
failed_first whole start more (stop.Failure failure) w t u is h = is ∙ ap (λ o. and_then o more) h
failed_first whole start more stop.NoMemory w t u is h = tt

pub ruleset plain_forms = (quoted_none, quoted_true, quoted_false, quoted_int, quoted_points, quoted_range, quoted_builtin)

pub ruleset forms = (plain_forms, quoted_function, quoted_list, quoted_dict, quoted_tuple, sequence_none, sequence_some, table_none, table_some, pair_some)

pub ruleset whole = (quoted_whole, shown_text, shown_other, begins_same)
