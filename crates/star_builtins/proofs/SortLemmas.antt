-- Items in order, and the best of some items.
use Rattle.std.proofs.Common.{◌≡◌, Less, Equal, Greater, ℕ, zero, suc, ◌+◌, ◌<◌, ◌≤◌, Bool, true, false, List, [], ◌∷◌, ◌++◌, map, reverse, length, drop, get_or, refl, sym, ap, ◌∙◌, subst, arith, IsTrue, Option, Some, None, slice_get, ℤ, append_assoc, append-nil}
use Rattle.std.specs.Prelude.{Result, Ok, Err, is_some, int_lt, if◌then◌else◌, codes, ◌&&◌}
use Rattle.std.specs.Bool.{Decides}
use Rattle.std.specs.Cmp.{signed_Decides}
use Rattle.std.specs.Cmp.Lexicographic.{bytes_decides, texts_ties}
use Rattle.std.specs.List.{list_all}
use Rattle.std.specs.List.Sorted.{IsPermutation, IsSorted}
use Rattle.std.specs.Ordering.{int_cmp, is_eq, is_lt}
use Rattle.std.specs.Str.{chars}
use mathlib.Core.List.{reverse_aux}
use Rattle.std.proofs.lemmas.Cmp.{int_cmp_total, nat_list_cmp_total}
use Rattle.std.proofs.lemmas.List.{drop_all}
use Rattle.std.proofs.lemmas.Option.{get_or_from_slice_get}
use Rattle.chex_base.specs.TextOrder.{text_cmp}
use Rattle.heap_store.proofs.Tested.{and_left, and_right, and_both}
use Rattle.star_value.specs.declared.failure.Failure.{Failure}
use Rattle.star_value.specs.declared.failure.Failure.TheVariants as failure
use Rattle.star_value.specs.declared.stop.Stop.{Stop}
use Rattle.star_value.specs.declared.stop.Stop.TheVariants as stop
use Rattle.star_value.specs.declared.value.Value.{Value, out-Value, roll-Value, roll-out-Value}
use Rattle.star_value.specs.declared.value.Value.TheOpen.{Value-F}
use Rattle.star_value.specs.declared.value.Value.TheVariants as value
use Rattle.star_value.specs.Charge.{charged}
use Rattle.star_value.specs.Weight.{weight, sum_of_weights}
use Rattle.star_meaning.proofs.Equations.{out_int, out_text}
use Rattle.star_meaning.specs.Builtins as spec
use Rattle.star_meaning.specs.Builtins.{are_alike, are_alike_at, is_before, is_before_at, best, placed, sorted_items, walk_alike, walk_first}
use Rattle.star_meaning.specs.State.{State}
use Rattle.star_meaning.specs.Steps.{Outcome, Went, Failed, Action, Store, Gives, pure, given_or, and_then, ◌>>=◌, ◌>>◌}
use Rattle.star_meaning.specs.Validity.{MachineState, fits, is_proper}
use Rattle.star_meaning.specs.Values.{int_at, int_in, text_at, text_in, items_in, items_of, new_list}
use Rattle.star_builtins.specs.Reached.{AllFit, Fits}
use Rattle.star_builtins.specs.Sorting.{better, leader, turned, ordered, ordered_from, best_from}
use Rattle.star_builtins.specs.Walks.{weight_at, GivesItem}
use Rattle.star_builtins.proofs.InsertionLemmas.{inserted, placed_by, sort_is}
use Rattle.star_builtins.proofs.RowLemmas.{charge_went, charge_failed, of_items, no_items}
use Rattle.star_builtins.proofs.WalkLemmas.{at_some, drop_at, some_at}

-- ---- two values

pub alike_int : (z : ℤ) (y : Value-F Value) → are_alike_at (Value-F.Int z) y ≡ is_some (int_at y)
alike_int z (Value-F.Int w) = refl
alike_int z _ = refl

pub alike_text : (t : List ℕ) (y : Value-F Value) → are_alike_at (Value-F.Text t) y ≡ is_some (text_at y)
alike_text t (Value-F.Text u) = refl
alike_text t _ = refl

pub ruleset kinds = (alike_int, alike_text)

pub before_int : (z w : ℤ) (y : Value-F Value) → Some w ≡ int_at y → is_before_at (Value-F.Int z) y ≡ int_lt z w
before_int z w (Value-F.Int u) is = let same : w ≡ u = cc in ap (int_lt z) (sym same)
before_int z w _ is = absurd (cc)

pub before_no_int : (z : ℤ) (y : Value-F Value) → None ≡ int_at y → is_before_at (Value-F.Int z) y ≡ false
before_no_int z (Value-F.Int u) is = absurd (cc)
before_no_int z _ is = refl

pub before_text : (t u : List ℕ) (y : Value-F Value) → Some u ≡ text_at y → is_before_at (Value-F.Text t) y ≡ is_lt (text_cmp t u)
before_text t u (Value-F.Text w) is = let same : u ≡ w = cc in ap (λ x. is_lt (text_cmp t x)) (sym same)
before_text t u _ is = absurd (cc)

pub before_no_text : (t : List ℕ) (y : Value-F Value) → None ≡ text_at y → is_before_at (Value-F.Text t) y ≡ false
before_no_text t (Value-F.Text w) is = absurd (cc)
before_no_text t _ is = refl

pub ruleset befores = (before_int, before_no_int, before_text, before_no_text)

rolled : (v : Value) (x : Value-F Value) → out-Value v ≡ x → v ≡ roll-Value x
rolled v x is = sym (roll-out-Value v) ∙ ap roll-Value is

int_shape : (x : Value-F Value) (z : ℤ) → int_at x ≡ Some z → x ≡ Value-F.Int z
int_shape (Value-F.Int w) z is = let same : w ≡ z = cc in ap Value-F.Int same
int_shape _ z is = absurd (cc)

pub int_is : (v : Value) (z : ℤ) → int_in v ≡ Some z → v ≡ value.Int z
int_is v z is = rolled v (Value-F.Int z) (int_shape (out-Value v) z is) ∙ value.rolls-Int z

text_shape : (x : Value-F Value) (t : List ℕ) → text_at x ≡ Some t → x ≡ Value-F.Text t
text_shape (Value-F.Text u) t is = let same : u ≡ t = cc in ap Value-F.Text same
text_shape _ t is = absurd (cc)

pub text_is : (v : Value) (t : List ℕ) → text_in v ≡ Some t → v ≡ value.Text t
text_is v t is = rolled v (Value-F.Text t) (text_shape (out-Value v) t is) ∙ value.rolls-Text t

neither_alike : (x : Value-F Value) → int_at x ≡ None → text_at x ≡ None → are_alike_at x x ≡ false
neither_alike (Value-F.Int w) no_int no_text = absurd (cc)
neither_alike (Value-F.Text u) no_int no_text = absurd (cc)
neither_alike _ no_int no_text = refl

pub unlike_itself : (v : Value) → int_in v ≡ None → text_in v ≡ None → are_alike v v ≡ false
unlike_itself v = neither_alike (out-Value v)

pub alike_with_int : (z : ℤ) (v : Value) → are_alike (value.Int z) v ≡ is_some (int_in v)
alike_with_int z v = ap (λ x. are_alike_at x (out-Value v)) (out_int z) ∙ alike_int z (out-Value v)

pub alike_with_text : (t : List ℕ) (v : Value) → are_alike (value.Text t) v ≡ is_some (text_in v)
alike_with_text t v = ap (λ x. are_alike_at x (out-Value v)) (out_text t) ∙ alike_text t (out-Value v)

alike_through_at : (x y z : Value-F Value) → are_alike_at x y ≡ true → are_alike_at x z ≡ are_alike_at y z
alike_through_at (Value-F.Int a) (Value-F.Int b) z h = alike_int a z ∙ sym (alike_int b z)
alike_through_at (Value-F.Int a) _ z h = absurd (cc)
alike_through_at (Value-F.Text a) (Value-F.Text b) z h = alike_text a z ∙ sym (alike_text b z)
alike_through_at (Value-F.Text a) _ z h = absurd (cc)
alike_through_at _ _ z h = absurd (cc)

pub alike_through : (a b c : Value) → are_alike a b ≡ true → are_alike a c ≡ are_alike b c
alike_through a b c = alike_through_at (out-Value a) (out-Value b) (out-Value c)

-- ---- the best of some values

pub some_here : {A : Type 0} (xs : List A) (i : ℕ) (v : A) → i < length xs → v ≡ get_or xs i v → slice_get xs i ≡ Some v
some_here xs i v within is =
    let found = some_at xs i within in
    found.1 ∙ ap Some (sym (get_or_from_slice_get xs i found.0 v found.1) ∙ sym is)

module _ (b : Value → Value → Bool) (values : List Value) where
  -- the best of all values is that of the one at a place and of those from another place on
  abbrev pub Leads : ℕ → ℕ → Type 0
  Leads at place = (v : Value) → slice_get values at ≡ Some v → Some (best b v (drop place values)) ≡ leader b values

  module _ (at place : ℕ) (item v : Value) (within : place < length values) (item_is : item ≡ get_or values place item) (at_within : at < length values) (at_is : v ≡ get_or values at v) (leads : Leads at place) where
    next_best : (w : Value) → (if b item v then item else v) ≡ w → Some (best b w (drop (place + 1) values)) ≡ leader b values
    next_best w is =
        ap (λ x. Some (best b x (drop (place + 1) values))) (sym is) ∙ ap (λ xs. Some (best b v xs)) (sym (drop_at values place item (some_here values place item within item_is)))
        ∙ leads v (some_here values at v at_within at_is)

    pub leads_take : b item v ≡ true → Leads place (place + 1)
    leads_take h w is =
        let same : Some item ≡ Some w = sym (some_here values place item within item_is) ∙ is in
        let here : item ≡ w = cc in
        next_best w (ap (λ t. if t then item else v) h ∙ here)

    pub leads_pass : b item v ≡ false → Leads at (place + 1)
    leads_pass h w is =
        let same : Some v ≡ Some w = sym (some_here values at v at_within at_is) ∙ is in
        let here : v ≡ w = cc in
        next_best w (ap (λ t. if t then item else v) h ∙ here)

pub leads_start : (b : Value → Value → Bool) (values : List Value) → 0 < length values → Leads b values 0 1
leads_start b [] h = absurd (omega (arith, h))
leads_start b (x ∷ xs) h = λ v is. let same : x ≡ v = cc in ap (λ w. Some (best b w xs)) (sym same)

pub leads_end : (b : Value → Value → Bool) (values : List Value) (at place : ℕ) → at < length values → length values ≤ place → Leads b values at place → slice_get values at ≡ leader b values
leads_end b values at place within past leads =
    let found = some_at values at within in
    found.1 ∙ ap (λ xs. Some (best b found.0 xs)) (sym (drop_all place values past)) ∙ leads found.0 found.1

-- ---- a sorted list of integers or texts

module _ {A : Type 0} (f : A → Value) (lt : A → A → Bool) (before : (a b : A) → is_before (f a) (f b) ≡ lt a b) where
  placed_case : (x y : A) (ys : List A) (p q : Bool) → p ≡ q → placed (f x) (map f ys) ≡ map f (placed_by lt x ys)
      → (if p then f y ∷ placed (f x) (map f ys) else f x ∷ f y ∷ map f ys) ≡ map f (if q then y ∷ placed_by lt x ys else x ∷ y ∷ ys)
  placed_case x y ys true true same more = ap (λ vs. f y ∷ vs) more
  placed_case x y ys true false same more = absurd (cc)
  placed_case x y ys false true same more = absurd (cc)
  placed_case x y ys false false same more = refl

  placed_map : (x : A) (ys : List A) → placed (f x) (map f ys) ≡ map f (placed_by lt x ys)
  placed_map x [] = refl
  placed_map x (y ∷ ys) = placed_case x y ys (is_before (f y) (f x)) (lt y x) (before y x) (placed_map x ys)

  pub sorted_map : (xs : List A) → sorted_items (map f xs) ≡ map f (inserted lt xs)
  unfolding sorted_items
  sorted_map [] = refl
  sorted_map (x ∷ xs) = ap (placed (f x)) (sorted_map xs) ∙ placed_map x (inserted lt xs)

int_less : (a b : Bool) → is_lt (if a then Less else if b then Greater else Equal) ≡ a
int_less true b = refl
int_less false true = refl
int_less false false = refl

int_before : (a b : ℤ) → is_before (value.Int a) (value.Int b) ≡ is_lt (int_cmp a b)
int_before a b =
    ap (λ x. is_before_at x (out-Value (value.Int b))) (out_int a) ∙ ap (is_before_at (Value-F.Int a)) (out_int b) ∙ sym (int_less (int_lt a b) (int_lt b a))

text_before : (a b : List ℕ) → is_before (value.Text a) (value.Text b) ≡ is_lt (text_cmp a b)
text_before a b =
    ap (λ x. is_before_at x (out-Value (value.Text b))) (out_text a) ∙ ap (is_before_at (Value-F.Text a)) (out_text b)

text_decides : (a b : List ℕ) → Decides (is_eq (text_cmp a b)) (a ≡ b)
text_decides a b = subst (λ t. Decides t (a ≡ b)) (texts_ties a b) (bytes_decides a b)

pub numbers_sorted : (xs ys : List ℤ) → IsPermutation xs ys → IsSorted int_cmp ys → sorted_items (map value.Int xs) ≡ map value.Int ys
numbers_sorted xs ys moved up =
    sorted_map value.Int (λ a b. is_lt (int_cmp a b)) int_before xs ∙ ap (map value.Int) (sort_is int_cmp int_cmp_total signed_Decides xs ys moved up)

pub texts_sorted : (xs ys : List (List ℕ)) → IsPermutation xs ys → IsSorted text_cmp ys → sorted_items (map value.Text xs) ≡ map value.Text ys
texts_sorted xs ys moved up =
    sorted_map value.Text (λ a b. is_lt (text_cmp a b)) text_before xs ∙ ap (map value.Text) (sort_is text_cmp nat_list_cmp_total text_decides xs ys moved up)

map_append : {A B : Type 0} (f : A → B) (xs ys : List A) → map f (xs ++ ys) ≡ map f xs ++ map f ys
map_append f [] ys = refl
map_append f (x ∷ xs) ys = ap (λ zs. f x ∷ zs) (map_append f xs ys)

map_onto : {A B : Type 0} (f : A → B) (xs ys : List A) → reverse_aux (map f xs) (map f ys) ≡ map f (reverse_aux xs ys)
map_onto f [] ys = refl
map_onto f (x ∷ xs) ys = map_onto f xs (x ∷ ys)

turned_as : {A : Type 0} (f : A → Value) (back : Bool) (items : List Value) (ys zs : List A) → sorted_items items ≡ map f ys → zs ≡ (if back then reverse ys else ys) → turned back (sorted_items items) ≡ map f zs
turned_as f true items ys zs sorted is = ap reverse sorted ∙ map_onto f ys [] ∙ ap (map f) (sym is)
turned_as f false items ys zs sorted is = sorted ∙ ap (map f) (sym is)

pub numbers_turned : (back : Bool) (xs ys zs : List ℤ) → IsPermutation xs ys → IsSorted int_cmp ys → zs ≡ (if back then reverse ys else ys) → turned back (sorted_items (map value.Int xs)) ≡ map value.Int zs
numbers_turned back xs ys zs moved up is = turned_as value.Int back (map value.Int xs) ys zs (numbers_sorted xs ys moved up) is

pub texts_turned : (back : Bool) (xs ys zs : List (List ℕ)) → IsPermutation xs ys → IsSorted text_cmp ys → zs ≡ (if back then reverse ys else ys) → turned back (sorted_items (map value.Text xs)) ≡ map value.Text zs
texts_turned back xs ys zs moved up is = turned_as value.Text back (map value.Text xs) ys zs (texts_sorted xs ys moved up) is

-- ---- a walk over items that are like the first one

module _ {A : Type 0} (first : Value) (items : List Value) (place : ℕ) (s : State ℕ) (left : ℕ) (a : A) where
  abbrev walked : List Value → Action ℕ A
  walked rest = walk_alike first rest >> pure a

  module _ (x : Value) (rest : ℕ) (is : slice_get items place ≡ Some x) (paid : charged left (weight x) ≡ (Ok tt, rest)) where
    looked : walked (drop place items) (record { state = s; left = left })
        ≡ and_then ((spec.check failure.WrongType (are_alike first x) >> walk_alike first (drop (place + 1) items)) (record { state = s; left = rest })) (λ _. pure a)
    looked =
        ap (λ xs. walked xs (record { state = s; left = left })) (drop_at items place x is)
        ∙ ap (λ o. and_then o (λ _. pure a)) (charge_went s left (weight x) rest (spec.check failure.WrongType (are_alike first x) >> walk_alike first (drop (place + 1) items)) paid)

    pub walk_next : are_alike first x ≡ true → walked (drop place items) (record { state = s; left = left }) ≡ walked (drop (place + 1) items) (record { state = s; left = rest })
    walk_next h = looked ∙ ap (λ b. and_then ((spec.check failure.WrongType b >> walk_alike first (drop (place + 1) items)) (record { state = s; left = rest })) (λ _. pure a)) h

    pub walk_wrong : are_alike first x ≡ false → walked (drop place items) (record { state = s; left = left }) ≡ Failed failure.WrongType (record { state = s; left = rest })
    walk_wrong h = looked ∙ ap (λ b. and_then ((spec.check failure.WrongType b >> walk_alike first (drop (place + 1) items)) (record { state = s; left = rest })) (λ _. pure a)) h

  pub walk_over : (rest : ℕ) (e : Failure) → place < length items → charged left (weight_at items place) ≡ (Err e, rest) → walked (drop place items) (record { state = s; left = left }) ≡ Failed e (record { state = s; left = rest })
  walk_over rest e within over =
      let found = some_at items place within in
      ap (λ xs. walked xs (record { state = s; left = left })) (drop_at items place found.0 found.1)
      ∙ ap (λ o. and_then o (λ _. pure a)) (charge_failed s left (weight found.0) rest e (spec.check failure.WrongType (are_alike first found.0) >> walk_alike first (drop (place + 1) items)) (ap (charged left) (sym (at_some items place found.0 found.1)) ∙ over))

  pub walk_done : (t : Store ℕ) → length items ≤ place → walked (drop place items) t ≡ Went a t
  walk_done t past = ap (λ xs. walked xs t) (drop_all place items past)

-- ---- items that are put in order

module _ (back : Bool) (first : Value) (items : List Value) (place : ℕ) (s : State ℕ) (left : ℕ) (done : List Value) where
  pub ordered_next : (x : Value) (rest : ℕ) → slice_get items place ≡ Some x → charged left (weight x) ≡ (Ok tt, rest) → are_alike first x ≡ true
      → ordered_from back first done (drop place items) (record { state = s; left = left }) ≡ ordered_from back first (done ++ x ∷ []) (drop (place + 1) items) (record { state = s; left = rest })
  unfolding ordered_from
  ordered_next x rest is paid alike =
      walk_next first items place s left (turned back (sorted_items (done ++ drop place items))) x rest is paid alike
      ∙ ap (λ all. (walk_alike first (drop (place + 1) items) >> pure (turned back (sorted_items all))) (record { state = s; left = rest }))
      (ap (λ xs. done ++ xs) (drop_at items place x is) ∙ sym (append_assoc done (x ∷ []) (drop (place + 1) items)))

  pub ordered_wrong : (x : Value) (rest : ℕ) → slice_get items place ≡ Some x → charged left (weight x) ≡ (Ok tt, rest) → are_alike first x ≡ false
      → ordered_from back first done (drop place items) (record { state = s; left = left }) ≡ Failed failure.WrongType (record { state = s; left = rest })
  unfolding ordered_from
  ordered_wrong x rest is paid unlike = walk_wrong first items place s left (turned back (sorted_items (done ++ drop place items))) x rest is paid unlike

  pub ordered_over : (rest : ℕ) (e : Failure) → place < length items → charged left (weight_at items place) ≡ (Err e, rest) → ordered_from back first done (drop place items) (record { state = s; left = left }) ≡ Failed e (record { state = s; left = rest })
  unfolding ordered_from
  ordered_over rest e within over = walk_over first items place s left (turned back (sorted_items (done ++ drop place items))) rest e within over

  pub ordered_end : (t : Store ℕ) → length items ≤ place → ordered_from back first done (drop place items) t ≡ Went (turned back (sorted_items done)) t
  unfolding ordered_from
  ordered_end t past =
      walk_done first items place s left (turned back (sorted_items (done ++ drop place items))) t past
      ∙ ap (λ xs. Went (turned back (sorted_items xs)) t) (ap (λ xs. done ++ xs) (drop_all place items past) ∙ append-nil done)

pub no_items_in : {A : Type 0} (items : List A) → length items ≡ 0 → items ≡ []
no_items_in [] h = refl
no_items_in (x ∷ xs) h = absurd (omega (arith, h))

pub ordered_none : (back : Bool) (items : List Value) (t : Store ℕ) → items ≡ [] → ordered back items t ≡ Went [] t
unfolding sorted_items
ordered_none true items t is = ap (λ xs. ordered true xs t) is
ordered_none false items t is = ap (λ xs. ordered false xs t) is

pub ordered_first : (back : Bool) (items : List Value) (x : Value) (t : Store ℕ) → slice_get items 0 ≡ Some x → ordered back items t ≡ ordered_from back x [] (drop 0 items) t
unfolding ordered_from
ordered_first back [] x t is = absurd (cc)
ordered_first back (y ∷ ys) x t is = let same : y ≡ x = cc in ap (λ w. (walk_alike w (y ∷ ys) >> pure (turned back (sorted_items (y ∷ ys)))) t) same

-- ---- the best item

module _ (greatest : Bool) (first : Value) (items : List Value) (place : ℕ) (s : State ℕ) (left : ℕ) (so_far : Value) where
  abbrev rest_best : List Value → Value
  rest_best rest = best (better greatest) so_far rest

  pub best_next : (x w : Value) (rest : ℕ) → slice_get items place ≡ Some x → charged left (weight x) ≡ (Ok tt, rest) → are_alike first x ≡ true → (if better greatest x so_far then x else so_far) ≡ w
      → best_from greatest first so_far (drop place items) (record { state = s; left = left }) ≡ best_from greatest first w (drop (place + 1) items) (record { state = s; left = rest })
  unfolding best_from
  best_next x w rest is paid alike which =
      walk_next first items place s left (rest_best (drop place items)) x rest is paid alike
      ∙ ap (λ v. (walk_alike first (drop (place + 1) items) >> pure v) (record { state = s; left = rest }))
      (ap rest_best (drop_at items place x is) ∙ ap (λ v. best (better greatest) v (drop (place + 1) items)) which)

  pub best_wrong : (x : Value) (rest : ℕ) → slice_get items place ≡ Some x → charged left (weight x) ≡ (Ok tt, rest) → are_alike first x ≡ false
      → best_from greatest first so_far (drop place items) (record { state = s; left = left }) ≡ Failed failure.WrongType (record { state = s; left = rest })
  unfolding best_from
  best_wrong x rest is paid unlike = walk_wrong first items place s left (rest_best (drop place items)) x rest is paid unlike

  pub best_over : (rest : ℕ) (e : Failure) → place < length items → charged left (weight_at items place) ≡ (Err e, rest) → best_from greatest first so_far (drop place items) (record { state = s; left = left }) ≡ Failed e (record { state = s; left = rest })
  unfolding best_from
  best_over rest e within over = walk_over first items place s left (rest_best (drop place items)) rest e within over

  pub best_end : (t : Store ℕ) → length items ≤ place → best_from greatest first so_far (drop place items) t ≡ Went so_far t
  unfolding best_from
  best_end t past = walk_done first items place s left (rest_best (drop place items)) t past ∙ ap (λ xs. Went (rest_best xs) t) (drop_all place items past)

-- ---- what the code has of an item

module _ (back : Bool) (first : Value) (items : List Value) (place : ℕ) (s : State ℕ) (left rest : ℕ) (done : List Value) where
  pub ordered_stopped : (e : Stop) → place < length items → GivesItem items place left (Err e) rest → Gives (ordered_from back first done (drop place items) (record { state = s; left = left })) (Err e) (record { state = s; left = rest })
  ordered_stopped (stop.Failure e) within h = ordered_over back first items place s left done rest e within h
  ordered_stopped stop.NoMemory within h = tt

module _ (back : Bool) (items : List Value) (place : ℕ) (s : State ℕ) (left rest : ℕ) (item : Value) (got : GivesItem items place left (Ok item) rest) where
  pub number_wrong : (z : ℤ) (done : List Value) (e : Failure) → int_in item ≡ None → e ≡ failure.WrongType
      → ordered_from back (value.Int z) done (drop place items) (record { state = s; left = left }) ≡ Failed e (record { state = s; left = rest })
  number_wrong z done e none which =
      ordered_wrong back (value.Int z) items place s left done item rest got.0 got.1 (alike_with_int z item ∙ ap is_some none) ∙ ap (λ f. Failed f (record { state = s; left = rest })) (sym which)

  pub number_next : (z n : ℤ) (ns more : List ℤ) → int_in item ≡ Some n → more ≡ ns ++ n ∷ []
      → ordered_from back (value.Int z) (map value.Int more) (drop (place + 1) items) (record { state = s; left = rest }) ≡ ordered_from back (value.Int z) (map value.Int ns) (drop place items) (record { state = s; left = left })
  number_next z n ns more some is =
      sym (ordered_next back (value.Int z) items place s left (map value.Int ns) item rest got.0 got.1 (alike_with_int z item ∙ ap is_some some)
      ∙ ap (λ vs. ordered_from back (value.Int z) vs (drop (place + 1) items) (record { state = s; left = rest }))
      (ap (λ v. map value.Int ns ++ v ∷ []) (int_is item n some) ∙ sym (map_append value.Int ns (n ∷ [])) ∙ ap (map value.Int) (sym is)))

  pub text_wrong : (t : List ℕ) (done : List Value) (e : Failure) → text_in item ≡ None → e ≡ failure.WrongType
      → ordered_from back (value.Text t) done (drop place items) (record { state = s; left = left }) ≡ Failed e (record { state = s; left = rest })
  text_wrong t done e none which =
      ordered_wrong back (value.Text t) items place s left done item rest got.0 got.1 (alike_with_text t item ∙ ap is_some none) ∙ ap (λ f. Failed f (record { state = s; left = rest })) (sym which)

  pub text_next : (t n : List ℕ) (ns more : List (List ℕ)) → text_in item ≡ Some n → more ≡ ns ++ n ∷ []
      → ordered_from back (value.Text t) (map value.Text more) (drop (place + 1) items) (record { state = s; left = rest }) ≡ ordered_from back (value.Text t) (map value.Text ns) (drop place items) (record { state = s; left = left })
  text_next t n ns more some is =
      sym (ordered_next back (value.Text t) items place s left (map value.Text ns) item rest got.0 got.1 (alike_with_text t item ∙ ap is_some some)
      ∙ ap (λ vs. ordered_from back (value.Text t) vs (drop (place + 1) items) (record { state = s; left = rest }))
      (ap (λ v. map value.Text ns ++ v ∷ []) (text_is item n some) ∙ sym (map_append value.Text ns (n ∷ [])) ∙ ap (map value.Text) (sym is)))

-- the first item of those that are put in order
module _ (back : Bool) (items : List Value) (s : State ℕ) (left rest : ℕ) where
  pub first_stopped : (e : Stop) → 0 < length items → GivesItem items 0 left (Err e) rest → Gives (ordered back items (record { state = s; left = left })) (Err e) (record { state = s; left = rest })
  first_stopped e within h =
      let found = some_at items 0 within in
      subst (λ o. Gives o (Err e) (record { state = s; left = rest })) (sym (ordered_first back items found.0 (record { state = s; left = left }) found.1)) (ordered_stopped back found.0 items 0 s left rest [] e within h)

  module _ (item : Value) (got : GivesItem items 0 left (Ok item) rest) where
    first_alike : are_alike item item ≡ true → ordered back items (record { state = s; left = left }) ≡ ordered_from back item (item ∷ []) (drop 1 items) (record { state = s; left = rest })
    first_alike alike = ordered_first back items item (record { state = s; left = left }) got.0 ∙ ordered_next back item items 0 s left [] item rest got.0 got.1 alike

    pub first_number : (z : ℤ) → Some z ≡ int_in item → ordered back items (record { state = s; left = left }) ≡ ordered_from back (value.Int z) (value.Int z ∷ []) (drop 1 items) (record { state = s; left = rest })
    first_number z is =
        let same : item ≡ value.Int z = int_is item z (sym is) in
        first_alike (ap (λ v. are_alike v item) same ∙ alike_with_int z item ∙ ap is_some (sym is)) ∙ ap (λ v. ordered_from back v (v ∷ []) (drop 1 items) (record { state = s; left = rest })) same

    pub first_text : (t : List ℕ) → text_in item ≡ Some t → ordered back items (record { state = s; left = left }) ≡ ordered_from back (value.Text t) (value.Text t ∷ []) (drop 1 items) (record { state = s; left = rest })
    first_text t is =
        let same : item ≡ value.Text t = text_is item t is in
        first_alike (ap (λ v. are_alike v item) same ∙ alike_with_text t item ∙ ap is_some is) ∙ ap (λ v. ordered_from back v (v ∷ []) (drop 1 items) (record { state = s; left = rest })) same

    pub first_wrong : (e : Failure) → None ≡ int_in item → text_in item ≡ None → e ≡ failure.WrongType → ordered back items (record { state = s; left = left }) ≡ Failed e (record { state = s; left = rest })
    first_wrong e no_int no_text which =
        ordered_first back items item (record { state = s; left = left }) got.0 ∙ ordered_wrong back item items 0 s left [] item rest got.0 got.1 (unlike_itself item (sym no_int) no_text)
        ∙ ap (λ f. Failed f (record { state = s; left = rest })) (sym which)

-- the best item so far and the next one
module _ (greatest : Bool) (first : Value) (items : List Value) (place : ℕ) (s : State ℕ) (left rest : ℕ) (so_far : Value) where
  pub best_stopped : (e : Stop) → place < length items → GivesItem items place left (Err e) rest → Gives (best_from greatest first so_far (drop place items) (record { state = s; left = left })) (Err e) (record { state = s; left = rest })
  best_stopped (stop.Failure e) within h = best_over greatest first items place s left so_far rest e within h
  best_stopped stop.NoMemory within h = tt

  module _ (item : Value) (got : GivesItem items place left (Ok item) rest) (alike : are_alike first so_far ≡ true) where
    pub best_differs : are_alike so_far item ≡ false → best_from greatest first so_far (drop place items) (record { state = s; left = left }) ≡ Failed failure.WrongType (record { state = s; left = rest })
    best_differs h = best_wrong greatest first items place s left so_far item rest got.0 got.1 (alike_through first so_far item alike ∙ h)

    module _ (like : are_alike so_far item ≡ true) where
      pub best_taken : better greatest item so_far ≡ true → best_from greatest first item (drop (place + 1) items) (record { state = s; left = rest }) ≡ best_from greatest first so_far (drop place items) (record { state = s; left = left })
      best_taken h = sym (best_next greatest first items place s left so_far item item rest got.0 got.1 (alike_through first so_far item alike ∙ like) (ap (λ b. if b then item else so_far) h))

      pub best_kept : better greatest item so_far ≡ false → best_from greatest first so_far (drop (place + 1) items) (record { state = s; left = rest }) ≡ best_from greatest first so_far (drop place items) (record { state = s; left = left })
      best_kept h = sym (best_next greatest first items place s left so_far item so_far rest got.0 got.1 (alike_through first so_far item alike ∙ like) (ap (λ b. if b then item else so_far) h))
