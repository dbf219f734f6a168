-- How pairs of values are weighed, form by form.
use Rattle.std.proofs.Common.{◌≡◌, ℕ, ℤ, zero, suc, ◌+◌, ◌-◌, ◌<◌, ◌≤◌, Bool, true, false, ◌&&◌, Ok, Err, List, [], ◌∷◌, length, drop, Option, Some, None, refl, ap, ◌∙◌, min, arith}
use Rattle.std.specs.Prelude.{◌==◌, not, if◌then◌else◌}
use Rattle.std.proofs.lemmas.Bool.Decides.{nat_tests}
use Rattle.std.proofs.lemmas.List.{drop_all}
use Rattle.star_value.specs.Charge.{charged}
use Rattle.star_value.specs.Keys.{value_of}
use Rattle.star_value.specs.Weight.{weight}
use Rattle.star_value.specs.declared.builtin.Builtin.{Builtin}
use Rattle.star_value.specs.declared.failure.Failure.{Failure}
use Rattle.star_value.specs.declared.failure.Failure.TheVariants as failure
use Rattle.star_value.specs.declared.key.Key.{Key}
use Rattle.star_value.specs.declared.range.Range.{Range}
use Rattle.star_value.specs.declared.value.Value.{Value, out-Value}
use Rattle.star_value.specs.declared.value.Value.TheOpen.{Value-F}
use Rattle.star_value.specs.declared.value.Value.TheVariants as value
use Rattle.star_meaning.specs.State.{State, list, dict, dict_get}
use Rattle.star_meaning.specs.Steps.{Went, Failed, Action, Store, pure, charge, and_then, ◌>>◌}
use Rattle.star_meaning.specs.Comparing.{Verdict, Same, Before, After, Apart, Test, equal, is_same, own_part, own_part_at, compared, look, deeper, walk, walk_lists, walk_dicts}
use Rattle.star_meaning.specs.Values.{text_at, text_in}
use Rattle.star_meaning.proofs.Equations.{out_none, out_bool, out_int, out_text, out_tuple, out_range, out_list, out_dict, out_function, out_builtin}
use Rattle.star_builtins.proofs.Written.{charge_is}
use Rattle.star_builtins.specs.Weighing.{plain_at, tuple_at, list_at, dict_at, inside, sequences, tables, items, pairs}

abbrev pub own_by : Option (List ℕ) → Option (List ℕ) → ℕ
own_by (Some a) (Some b) = min (length a) (length b) + 1
own_by _ _ = 1

own_case : (x y : Value-F Value) → own_part_at x y ≡ own_by (text_at x) (text_at y)
own_case (Value-F.Text a) (Value-F.Text b) = refl
own_case _ _ = refl

pub own_part_is : (a b : Value) → own_part a b ≡ own_by (text_in a) (text_in b)
unfolding own_part
own_part_is a b = own_case (out-Value a) (out-Value b)

-- ---- pairs of values, after their own charge

differ : (a b : ℕ) → (a ≡ b → ⊥) → (a == b) ≡ false
differ a b other = grind (arith, nat_tests)

agree : (a b : ℕ) → a ≡ b → (a == b) ≡ true
agree a b same = grind (arith, nat_tests)

walked : {C : Type 0} (by_length : Bool) (xs ys : List Value) (test : Test C) (s : Store C) → (if by_length && not true then pure Apart else walk test xs ys) s ≡ walk test xs ys s
walked true xs ys test s = refl
walked false xs ys test s = refl

none_before : {C : Type 0} (test : Test C) (ys : List Value) (i : ℕ) (s : Store C) → i < length ys → walk test [] (drop i ys) s ≡ Went Before s
none_before test [] i s within = absurd (omega arith)
none_before test (y ∷ ys) zero s within = refl
none_before test (y ∷ ys) (suc i) s within = none_before test ys i s (omega arith)

module _ {C : Type 0} (by_length : Bool) where
  inner : ℕ → Option (Test C)
  inner zero = None
  inner (suc n) = Some (compared by_length n)

  compared_at : (n : ℕ) (a b : Value) (x : Value-F Value) → out-Value a ≡ x → compared by_length n a b ≡ (charge (own_part a b) >> look by_length (inner n) x (out-Value b))
  unfolding compared inner
  compared_at zero a b x is = rw (← is) refl
  compared_at (suc n) a b x is = rw (← is) refl

  pub compared_failed : (n : ℕ) (a b : Value) (s : State C) (left mid : ℕ) (e : Failure) → charged left (own_part a b) ≡ (Err e, mid)
      → compared by_length n a b (record { state = s; left = left }) ≡ Failed e (record { state = s; left = mid })
  unfolding charge
  compared_failed n a b s left mid e h = ap (λ p. p (record { state = s; left = left })) (compared_at n a b (out-Value a) refl) ∙ rw h refl

  look_none : (i : Option (Test C)) (y : Value-F Value) → look by_length i Value-F.None y ≡ pure (plain_at Value-F.None y)
  look_none i Value-F.None = refl
  look_none i _ = refl

  look_bool : (i : Option (Test C)) (b : Bool) (y : Value-F Value) → look by_length i (Value-F.Bool b) y ≡ pure (plain_at (Value-F.Bool b) y)
  look_bool i b (Value-F.Bool c) = refl
  look_bool i b _ = refl

  look_int : (i : Option (Test C)) (z : ℤ) (y : Value-F Value) → look by_length i (Value-F.Int z) y ≡ pure (plain_at (Value-F.Int z) y)
  look_int i z (Value-F.Int w) = refl
  look_int i z _ = refl

  look_text : (i : Option (Test C)) (t : List ℕ) (y : Value-F Value) → look by_length i (Value-F.Text t) y ≡ pure (plain_at (Value-F.Text t) y)
  look_text i t (Value-F.Text u) = refl
  look_text i t _ = refl

  look_range : (i : Option (Test C)) (r : Range) (y : Value-F Value) → look by_length i (Value-F.Range r) y ≡ pure (plain_at (Value-F.Range r) y)
  look_range i r (Value-F.Range q) = refl
  look_range i r _ = refl

  look_function : (i : Option (Test C)) (id : ℕ) (y : Value-F Value) → look by_length i (Value-F.Function id) y ≡ pure (plain_at (Value-F.Function id) y)
  look_function i id (Value-F.Function other) = refl
  look_function i id _ = refl

  look_builtin : (i : Option (Test C)) (which : Builtin) (y : Value-F Value) → look by_length i (Value-F.Builtin which) y ≡ pure (plain_at (Value-F.Builtin which) y)
  look_builtin i which (Value-F.Builtin other) = refl
  look_builtin i which _ = refl

  plain : (n : ℕ) (a b : Value) (x : Value-F Value) (s : Store C) → out-Value a ≡ x → ((i : Option (Test C)) → look by_length i x (out-Value b) ≡ pure (plain_at x (out-Value b)))
      → compared by_length n a b s ≡ and_then (charge (own_part a b) s) (λ _. pure (plain_at x (out-Value b)))
  plain n a b x s is h = ap (λ p. p s) (compared_at n a b x is) ∙ ap (λ p. and_then (charge (own_part a b) s) (λ _. p)) (h (inner n))

  pub compared_none : (n : ℕ) (b : Value) (s : Store C) → compared by_length n value.None b s ≡ and_then (charge (own_part value.None b) s) (λ _. pure (plain_at Value-F.None (out-Value b)))
  compared_none n b s = plain n _ b _ s out_none (λ i. look_none i (out-Value b))

  pub compared_bool : (n : ℕ) (t : Bool) (b : Value) (s : Store C) → compared by_length n (value.Bool t) b s ≡ and_then (charge (own_part (value.Bool t) b) s) (λ _. pure (plain_at (Value-F.Bool t) (out-Value b)))
  compared_bool n t b s = plain n _ b _ s (out_bool t) (λ i. look_bool i t (out-Value b))

  pub compared_int : (n : ℕ) (z : ℤ) (b : Value) (s : Store C) → compared by_length n (value.Int z) b s ≡ and_then (charge (own_part (value.Int z) b) s) (λ _. pure (plain_at (Value-F.Int z) (out-Value b)))
  compared_int n z b s = plain n _ b _ s (out_int z) (λ i. look_int i z (out-Value b))

  pub compared_text : (n : ℕ) (t : List ℕ) (b : Value) (s : Store C) → compared by_length n (value.Text t) b s ≡ and_then (charge (own_part (value.Text t) b) s) (λ _. pure (plain_at (Value-F.Text t) (out-Value b)))
  compared_text n t b s = plain n _ b _ s (out_text t) (λ i. look_text i t (out-Value b))

  pub compared_range : (n : ℕ) (r : Range) (b : Value) (s : Store C) → compared by_length n (value.Range r) b s ≡ and_then (charge (own_part (value.Range r) b) s) (λ _. pure (plain_at (Value-F.Range r) (out-Value b)))
  compared_range n r b s = plain n _ b _ s (out_range r) (λ i. look_range i r (out-Value b))

  pub compared_function : (n id : ℕ) (b : Value) (s : Store C) → compared by_length n (value.Function id) b s ≡ and_then (charge (own_part (value.Function id) b) s) (λ _. pure (plain_at (Value-F.Function id) (out-Value b)))
  compared_function n id b s = plain n _ b _ s (out_function id) (λ i. look_function i id (out-Value b))

  pub compared_builtin : (n : ℕ) (which : Builtin) (b : Value) (s : Store C) → compared by_length n (value.Builtin which) b s ≡ and_then (charge (own_part (value.Builtin which) b) s) (λ _. pure (plain_at (Value-F.Builtin which) (out-Value b)))
  compared_builtin n which b s = plain n _ b _ s (out_builtin which) (λ i. look_builtin i which (out-Value b))

  inside_is : (n : ℕ) (p : Test C → Action C Verdict) → deeper (inner n) p ≡ inside by_length n p
  unfolding inside inner
  inside_is zero p = refl
  inside_is (suc n) p = refl

  -- ---- a container and another value

  tuples : (n : ℕ) (xs : List Value) (y : Value-F Value) (ys : List Value) (s : Store C) → Some ys ≡ tuple_at y → look by_length (inner n) (Value-F.Tuple xs) y s ≡ sequences by_length n xs ys s
  unfolding sequences
  tuples n xs (Value-F.Tuple zs) ys s is = let same : ys ≡ zs = cc in rw same (ap (λ p. p s) (inside_is n (λ test. walk_lists by_length test xs zs)))
  tuples n xs _ ys s is = absurd (cc)

  no_tuple : (i : Option (Test C)) (xs : List Value) (y : Value-F Value) → None ≡ tuple_at y → look by_length i (Value-F.Tuple xs) y ≡ pure Apart
  no_tuple i xs (Value-F.Tuple zs) is = absurd (cc)
  no_tuple i xs _ is = refl

  pub compared_tuple : (n : ℕ) (xs ys : List Value) (b : Value) (s : Store C) → Some ys ≡ tuple_at (out-Value b)
      → compared by_length n (value.Tuple xs) b s ≡ and_then (charge (own_part (value.Tuple xs) b) s) (λ _. sequences by_length n xs ys)
  compared_tuple n xs ys b s is =
      ap (λ p. p s) (compared_at n _ b _ (out_tuple xs)) ∙ ap (λ p. and_then (charge (own_part (value.Tuple xs) b) s) (λ _. p)) (λ i w. tuples n xs (out-Value b) ys w is i)

  pub compared_no_tuple : (n : ℕ) (xs : List Value) (b : Value) (s : Store C) → None ≡ tuple_at (out-Value b)
      → compared by_length n (value.Tuple xs) b s ≡ and_then (charge (own_part (value.Tuple xs) b) s) (λ _. pure Apart)
  compared_no_tuple n xs b s is = ap (λ p. p s) (compared_at n _ b _ (out_tuple xs)) ∙ ap (λ p. and_then (charge (own_part (value.Tuple xs) b) s) (λ _. p)) (no_tuple (inner n) xs (out-Value b) is)

  lists : (n id : ℕ) (y : Value-F Value) (other : ℕ) (s : Store C) → Some other ≡ list_at y → look by_length (inner n) (Value-F.List id) y s ≡ sequences by_length n (list s.state id) (list s.state other) s
  unfolding sequences
  lists n id (Value-F.List third) other s is =
      let same : other ≡ third = cc in rw same (ap (λ p. p s) (inside_is n (λ test. walk_lists by_length test (list s.state id) (list s.state third))))
  lists n id _ other s is = absurd (cc)

  no_list : (i : Option (Test C)) (id : ℕ) (y : Value-F Value) → None ≡ list_at y → look by_length i (Value-F.List id) y ≡ pure Apart
  no_list i id (Value-F.List third) is = absurd (cc)
  no_list i id _ is = refl

  pub compared_list : (n id other : ℕ) (b : Value) (s : Store C) → Some other ≡ list_at (out-Value b)
      → compared by_length n (value.List id) b s ≡ and_then (charge (own_part (value.List id) b) s) (λ _ w. sequences by_length n (list w.state id) (list w.state other) w)
  compared_list n id other b s is =
      ap (λ p. p s) (compared_at n _ b _ (out_list id)) ∙ ap (λ p. and_then (charge (own_part (value.List id) b) s) (λ _. p)) (λ i w. lists n id (out-Value b) other w is i)

  pub compared_no_list : (n id : ℕ) (b : Value) (s : Store C) → None ≡ list_at (out-Value b)
      → compared by_length n (value.List id) b s ≡ and_then (charge (own_part (value.List id) b) s) (λ _. pure Apart)
  compared_no_list n id b s is = ap (λ p. p s) (compared_at n _ b _ (out_list id)) ∙ ap (λ p. and_then (charge (own_part (value.List id) b) s) (λ _. p)) (no_list (inner n) id (out-Value b) is)

  dicts : (n id : ℕ) (y : Value-F Value) (other : ℕ) (s : Store C) → Some other ≡ dict_at y → look by_length (inner n) (Value-F.Dict id) y s ≡ tables by_length n (dict s.state id) (dict s.state other) s
  unfolding tables
  dicts n id (Value-F.Dict third) other s is =
      let same : other ≡ third = cc in rw same (ap (λ p. p s) (inside_is n (λ test. walk_dicts test (dict s.state id) (dict s.state third))))
  dicts n id _ other s is = absurd (cc)

  no_dict : (i : Option (Test C)) (id : ℕ) (y : Value-F Value) → None ≡ dict_at y → look by_length i (Value-F.Dict id) y ≡ pure Apart
  no_dict i id (Value-F.Dict third) is = absurd (cc)
  no_dict i id _ is = refl

  pub compared_dict : (n id other : ℕ) (b : Value) (s : Store C) → Some other ≡ dict_at (out-Value b)
      → compared by_length n (value.Dict id) b s ≡ and_then (charge (own_part (value.Dict id) b) s) (λ _ w. tables by_length n (dict w.state id) (dict w.state other) w)
  compared_dict n id other b s is =
      ap (λ p. p s) (compared_at n _ b _ (out_dict id)) ∙ ap (λ p. and_then (charge (own_part (value.Dict id) b) s) (λ _. p)) (λ i w. dicts n id (out-Value b) other w is i)

  pub compared_no_dict : (n id : ℕ) (b : Value) (s : Store C) → None ≡ dict_at (out-Value b)
      → compared by_length n (value.Dict id) b s ≡ and_then (charge (own_part (value.Dict id) b) s) (λ _. pure Apart)
  compared_no_dict n id b s is = ap (λ p. p s) (compared_at n _ b _ (out_dict id)) ∙ ap (λ p. and_then (charge (own_part (value.Dict id) b) s) (λ _. p)) (no_dict (inner n) id (out-Value b) is)

  -- ---- the same, once the pair's own part was charged

  pub tuples_after : (n : ℕ) (a b : Value) (xs ys : List Value) (s : State C) (left mid : ℕ) → a ≡ value.Tuple xs → charged left (own_part a b) ≡ (Ok tt, mid) → Some ys ≡ tuple_at (out-Value b)
      → compared by_length n a b (record { state = s; left = left }) ≡ sequences by_length n xs ys (record { state = s; left = mid })
  unfolding charge
  tuples_after n a b xs ys s left mid is h found =
      let paid : charged left (own_part (value.Tuple xs) b) ≡ (Ok tt, mid) = rw is at h in rw (is, compared_tuple n xs ys b (record { state = s; left = left }) found, paid) refl

  pub lists_after : (n : ℕ) (a b : Value) (id other : ℕ) (s : State C) (left mid : ℕ) → a ≡ value.List id → charged left (own_part a b) ≡ (Ok tt, mid) → Some other ≡ list_at (out-Value b)
      → compared by_length n a b (record { state = s; left = left }) ≡ sequences by_length n (list s id) (list s other) (record { state = s; left = mid })
  unfolding charge
  lists_after n a b id other s left mid is h found =
      let paid : charged left (own_part (value.List id) b) ≡ (Ok tt, mid) = rw is at h in rw (is, compared_list n id other b (record { state = s; left = left }) found, paid) refl

  pub dicts_after : (n : ℕ) (a b : Value) (id other : ℕ) (s : State C) (left mid : ℕ) → a ≡ value.Dict id → charged left (own_part a b) ≡ (Ok tt, mid) → Some other ≡ dict_at (out-Value b)
      → compared by_length n a b (record { state = s; left = left }) ≡ tables by_length n (dict s id) (dict s other) (record { state = s; left = mid })
  unfolding charge
  dicts_after n a b id other s left mid is h found =
      let paid : charged left (own_part (value.Dict id) b) ≡ (Ok tt, mid) = rw is at h in rw (is, compared_dict n id other b (record { state = s; left = left }) found, paid) refl

  -- ---- two containers

  pub sequences_none : (n : ℕ) (xs ys : List Value) (s : Store C) → n ≡ 0 → sequences by_length n xs ys s ≡ Failed failure.TooDeep s
  unfolding sequences inside
  sequences_none zero xs ys s h = refl
  sequences_none (suc n) xs ys s h = absurd (cc)

  pub tables_none : (n : ℕ) (xs ys : List (Key × Value)) (s : Store C) → n ≡ 0 → tables by_length n xs ys s ≡ Failed failure.TooDeep s
  unfolding tables inside
  tables_none zero xs ys s h = refl
  tables_none (suc n) xs ys s h = absurd (cc)

  pub sequences_short : (n : ℕ) (xs ys : List Value) (s : Store C) → 0 < n → by_length ≡ true → (length xs ≡ length ys → ⊥) → sequences by_length n xs ys s ≡ Went Apart s
  unfolding sequences inside
  sequences_short zero xs ys s h by other = absurd (omega arith)
  sequences_short (suc n) xs ys s h by other = let no = differ (length xs) (length ys) other in rw (by, no) refl

  pub sequences_items : (n : ℕ) (xs ys : List Value) (s : Store C) → 0 < n → by_length ≡ true → length xs ≡ length ys → sequences by_length n xs ys s ≡ items by_length (n - 1) xs ys s
  unfolding sequences inside items
  sequences_items zero xs ys s h by same = absurd (omega arith)
  sequences_items (suc n) xs ys s h by same = let back : suc n - 1 ≡ n = omega arith in let yes = agree (length xs) (length ys) same in rw (back, yes) (walked by_length xs ys (compared by_length n) s)

  pub sequences_any : (n : ℕ) (xs ys : List Value) (s : Store C) → 0 < n → by_length ≡ false → sequences by_length n xs ys s ≡ items by_length (n - 1) xs ys s
  unfolding sequences inside items
  sequences_any zero xs ys s h by = absurd (omega arith)
  sequences_any (suc n) xs ys s h by = let back : suc n - 1 ≡ n = omega arith in rw (back, by) refl

  pub tables_short : (n : ℕ) (xs ys : List (Key × Value)) (s : Store C) → 0 < n → (length xs ≡ length ys → ⊥) → tables by_length n xs ys s ≡ Went Apart s
  unfolding tables inside
  tables_short zero xs ys s h other = absurd (omega arith)
  tables_short (suc n) xs ys s h other = let no = differ (length xs) (length ys) other in rw no refl

  pub tables_pairs : (n : ℕ) (xs ys : List (Key × Value)) (s : Store C) → 0 < n → length xs ≡ length ys → tables by_length n xs ys s ≡ pairs by_length (n - 1) xs ys s
  unfolding tables inside pairs
  tables_pairs zero xs ys s h same = absurd (omega arith)
  tables_pairs (suc n) xs ys s h same = let back : suc n - 1 ≡ n = omega arith in let yes = agree (length xs) (length ys) same in rw (back, yes) refl

  -- ---- items one after the other

  pub items_step : (n : ℕ) (xs ys : List Value) (i : ℕ) (x y : Value) (v : Verdict) (s next : Store C) → drop i xs ≡ x ∷ drop (i + 1) xs → drop i ys ≡ y ∷ drop (i + 1) ys
      → compared by_length n x y s ≡ Went v next → true ≡ is_same v → items by_length n (drop (i + 1) xs) (drop (i + 1) ys) next ≡ items by_length n (drop i xs) (drop i ys) s
  unfolding items
  items_step n xs ys i x y Same s next left right went same = rw (left, right, went) refl
  items_step n xs ys i x y Before s next left right went same = absurd (cc)
  items_step n xs ys i x y After s next left right went same = absurd (cc)
  items_step n xs ys i x y Apart s next left right went same = absurd (cc)

  pub items_other : (n : ℕ) (xs ys : List Value) (i : ℕ) (x y : Value) (v : Verdict) (s next : Store C) → drop i xs ≡ x ∷ drop (i + 1) xs → drop i ys ≡ y ∷ drop (i + 1) ys
      → compared by_length n x y s ≡ Went v next → false ≡ is_same v → items by_length n (drop i xs) (drop i ys) s ≡ Went v next
  unfolding items
  items_other n xs ys i x y Same s next left right went other = absurd (cc)
  items_other n xs ys i x y Before s next left right went other = rw (left, right, went) refl
  items_other n xs ys i x y After s next left right went other = rw (left, right, went) refl
  items_other n xs ys i x y Apart s next left right went other = rw (left, right, went) refl

  pub items_failed : (n : ℕ) (xs ys : List Value) (i : ℕ) (x y : Value) (e : Failure) (s next : Store C) → drop i xs ≡ x ∷ drop (i + 1) xs → drop i ys ≡ y ∷ drop (i + 1) ys
      → compared by_length n x y s ≡ Failed e next → items by_length n (drop i xs) (drop i ys) s ≡ Failed e next
  unfolding items
  items_failed n xs ys i x y e s next left right failed = rw (left, right, failed) refl

  pub items_after : (n : ℕ) (xs ys : List Value) (i : ℕ) (x : Value) (s : Store C) → drop i xs ≡ x ∷ drop (i + 1) xs → length ys ≤ i → items by_length n (drop i xs) (drop i ys) s ≡ Went After s
  unfolding items
  items_after n xs ys i x s left past = rw (left, drop_all i ys past) refl

  pub items_before : (n : ℕ) (xs ys : List Value) (i : ℕ) (s : Store C) → length xs ≤ i → i < length ys → items by_length n (drop i xs) (drop i ys) s ≡ Went Before s
  unfolding items
  items_before n xs ys i s past within = rw (drop_all i xs past) (none_before (compared by_length n) ys i s within)

  pub items_same : (n : ℕ) (xs ys : List Value) (i : ℕ) (s : Store C) → length xs ≤ i → length ys ≤ i → items by_length n (drop i xs) (drop i ys) s ≡ Went Same s
  unfolding items
  items_same n xs ys i s left right = rw (drop_all i xs left, drop_all i ys right) refl

  -- ---- pairs one after the other

  -- what the charge of the key and the look-up leave
  pub pairs_failed_first : (n : ℕ) (xs ys : List (Key × Value)) (i : ℕ) (k : Key) (v : Value) (e : Failure) (s : State C) (left mid : ℕ) → drop i xs ≡ (k, v) ∷ drop (i + 1) xs
      → charged left (weight (value_of k)) ≡ (Err e, mid) → pairs by_length n (drop i xs) ys (record { state = s; left = left }) ≡ Failed e (record { state = s; left = mid })
  unfolding pairs charge
  pairs_failed_first n xs ys i k v e s left mid more h = rw (more, h) refl

  pub pairs_missing : (n : ℕ) (xs ys : List (Key × Value)) (i : ℕ) (k : Key) (v : Value) (s : State C) (left mid : ℕ) → drop i xs ≡ (k, v) ∷ drop (i + 1) xs
      → charged left (weight (value_of k)) ≡ (Ok tt, mid) → None ≡ dict_get ys k → pairs by_length n (drop i xs) ys (record { state = s; left = left }) ≡ Went Apart (record { state = s; left = mid })
  unfolding pairs charge
  pairs_missing n xs ys i k v s left mid more h none = rw (more, h, ← none) refl

  pub pairs_failed : (n : ℕ) (xs ys : List (Key × Value)) (i : ℕ) (k : Key) (v u : Value) (e : Failure) (s : State C) (left mid : ℕ) (next : Store C) → drop i xs ≡ (k, v) ∷ drop (i + 1) xs
      → charged left (weight (value_of k)) ≡ (Ok tt, mid) → Some u ≡ dict_get ys k → compared by_length n v u (record { state = s; left = mid }) ≡ Failed e next
      → pairs by_length n (drop i xs) ys (record { state = s; left = left }) ≡ Failed e next
  unfolding pairs charge
  pairs_failed n xs ys i k v u e s left mid next more h found failed = rw (more, h, ← found, failed) refl

  pub pairs_other : (n : ℕ) (xs ys : List (Key × Value)) (i : ℕ) (k : Key) (v u : Value) (verdict : Verdict) (s : State C) (left mid : ℕ) (next : Store C) → drop i xs ≡ (k, v) ∷ drop (i + 1) xs
      → charged left (weight (value_of k)) ≡ (Ok tt, mid) → Some u ≡ dict_get ys k → compared by_length n v u (record { state = s; left = mid }) ≡ Went verdict next → false ≡ is_same verdict
      → pairs by_length n (drop i xs) ys (record { state = s; left = left }) ≡ Went Apart next
  unfolding pairs charge
  pairs_other n xs ys i k v u Same s left mid next more h found went other = absurd (cc)
  pairs_other n xs ys i k v u Before s left mid next more h found went other = rw (more, h, ← found, went) refl
  pairs_other n xs ys i k v u After s left mid next more h found went other = rw (more, h, ← found, went) refl
  pairs_other n xs ys i k v u Apart s left mid next more h found went other = rw (more, h, ← found, went) refl

  pub pairs_step : (n : ℕ) (xs ys : List (Key × Value)) (i : ℕ) (k : Key) (v u : Value) (verdict : Verdict) (s : State C) (left mid : ℕ) (next : Store C) → drop i xs ≡ (k, v) ∷ drop (i + 1) xs
      → charged left (weight (value_of k)) ≡ (Ok tt, mid) → Some u ≡ dict_get ys k → compared by_length n v u (record { state = s; left = mid }) ≡ Went verdict next → true ≡ is_same verdict
      → pairs by_length n (drop (i + 1) xs) ys next ≡ pairs by_length n (drop i xs) ys (record { state = s; left = left })
  unfolding pairs charge
  pairs_step n xs ys i k v u Same s left mid next more h found went same = rw (more, h, ← found, went) refl
  pairs_step n xs ys i k v u Before s left mid next more h found went same = absurd (cc)
  pairs_step n xs ys i k v u After s left mid next more h found went same = absurd (cc)
  pairs_step n xs ys i k v u Apart s left mid next more h found went same = absurd (cc)

  pub pairs_end : (n : ℕ) (xs ys : List (Key × Value)) (i : ℕ) (s : Store C) → length xs ≤ i → pairs by_length n (drop i xs) ys s ≡ Went Same s
  unfolding pairs
  pairs_end n xs ys i s past = rw (drop_all i xs past) refl

pub ruleset forms = (compared_failed, compared_none, compared_bool, compared_int, compared_text, compared_range, compared_function, compared_builtin, compared_tuple, compared_no_tuple, compared_list, compared_no_list, compared_dict, compared_no_dict, sequences_none, sequences_short, sequences_items, sequences_any, tables_none, tables_short, tables_pairs, charge_is)

pub equal_failed : {C : Type 0} (a b : Value) (s next : Store C) (e : Failure) → compared true 64 a b s ≡ Failed e next → equal a b s ≡ Failed e next
unfolding equal
equal_failed a b s next e h = rw h refl

pub equal_went : {C : Type 0} (a b : Value) (s next : Store C) (v : Verdict) → compared true 64 a b s ≡ Went v next → equal a b s ≡ Went (is_same v) next
unfolding equal
equal_went a b s next v h = rw h refl
