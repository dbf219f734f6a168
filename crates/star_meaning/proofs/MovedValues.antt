-- Values with other numbers of objects.
use Rattle.std.proofs.Common.{◌≡◌, ℕ, ℤ, List, [], ◌∷◌, map, Bool, refl, sym, ap, subst, ◌∙◌}
use Rattle.std.specs.Prelude.{◌==◌, Option, sum}
use Rattle.star_value.specs.declared.builtin.Builtin.{Builtin}
use Rattle.star_value.specs.declared.key.Key.{Key, fold-roll-Key, ind-Key, map-Key, roll-Key}
use Rattle.star_value.specs.declared.key.Key.TheOpen.{Key-F}
use Rattle.star_value.specs.declared.range.Range.{Range}
use Rattle.star_value.specs.declared.value.Value.{Value, fold-Value, fold-roll-Value, ind-Value, map-Value, out-Value, out-roll-Value, roll-Value, roll-out-Value}
use Rattle.star_value.specs.declared.value.Value.TheOpen.{Value-F}
use Rattle.star_value.specs.declared.value.Value.TheVariants as value
use Rattle.star_value.specs.Keys as keys
use Rattle.star_value.specs.Keys.{key_of, key_step, value_step}
use Rattle.star_value.specs.Weight.{depth, depth_step, weight, weight_step, sum_of_weights}
use Rattle.star_meaning.specs.State.{Object, AList, ADict, AFunction}
use Rattle.star_meaning.specs.Values.{bool_at, bool_in, int_at, int_in, key_values, text_at, text_in, type_name, type_name_at}

-- other numbers for objects, where different numbers stay different, and how many objects there may be
pub record Moving : Type 0 where
  pub to : ℕ → ℕ
  pub one : (a b : ℕ) → (to a == to b) ≡ (a == b)
  pub bound : ℕ

module _ (mv : Moving) where
  -- a value's layer with other numbers
  abbrev pub numbers : {A : Type 0} → Value-F A → Value-F A
  numbers (Value-F.List id) = Value-F.List (mv.to id)
  numbers (Value-F.Dict id) = Value-F.Dict (mv.to id)
  numbers (Value-F.Function id) = Value-F.Function (mv.to id)
  numbers x = x

  -- a value with other numbers
  unfoldable pub moved : Value → Value
  moved = fold-Value Value (λ x. roll-Value (numbers x))

  abbrev pub layer : Value-F Value → Value-F Value
  layer (Value-F.List id) = Value-F.List (mv.to id)
  layer (Value-F.Dict id) = Value-F.Dict (mv.to id)
  layer (Value-F.Function id) = Value-F.Function (mv.to id)
  layer (Value-F.Tuple items) = Value-F.Tuple (map moved items)
  layer x = x

  layer_is : (x : Value-F Value) → numbers (map-Value Value Value moved x) ≡ layer x
  layer_is (Value-F.Tuple items) = refl
  layer_is _ = refl

  pub rolled : (x : Value-F Value) → moved (roll-Value x) ≡ roll-Value (layer x)
  unfolding moved
  rolled x = fold-roll-Value Value (λ y. roll-Value (numbers y)) x ∙ ap roll-Value (layer_is x)

  pub out_moved : (v : Value) → out-Value (moved v) ≡ layer (out-Value v)
  out_moved v = ap (λ x. out-Value (moved x)) (sym (roll-out-Value v)) ∙ ap out-Value (rolled (out-Value v)) ∙ out-roll-Value (layer (out-Value v))

  -- what holds of a layer and the moved one holds of a value and the moved one
  pub by_out : (P : Value-F Value → Value-F Value → Type 0) → ((x : Value-F Value) → P x (layer x)) → (v : Value) → P (out-Value v) (out-Value (moved v))
  by_out P h v = subst (P (out-Value v)) (sym (out_moved v)) (h (out-Value v))

  pub by_two : (P : Value-F Value → Value-F Value → Value-F Value → Value-F Value → Type 0) → ((x y : Value-F Value) → P x y (layer x) (layer y)) → (u v : Value)
      → P (out-Value u) (out-Value v) (out-Value (moved u)) (out-Value (moved v))
  by_two P h u v = by_out (λ x z. P x (out-Value v) z (out-Value (moved v))) (λ x. by_out (λ y z. P x y (layer x) z) (h x) v) u

  -- ---- the values of each kind

  pub moved_none : moved value.None ≡ value.None
  moved_none = ap moved (sym value.rolls-None) ∙ rolled Value-F.None ∙ value.rolls-None

  pub moved_bool : (b : Bool) → moved (value.Bool b) ≡ value.Bool b
  moved_bool b = ap moved (sym (value.rolls-Bool b)) ∙ rolled (Value-F.Bool b) ∙ value.rolls-Bool b

  pub moved_int : (z : ℤ) → moved (value.Int z) ≡ value.Int z
  moved_int z = ap moved (sym (value.rolls-Int z)) ∙ rolled (Value-F.Int z) ∙ value.rolls-Int z

  pub moved_text : (t : List ℕ) → moved (value.Text t) ≡ value.Text t
  moved_text t = ap moved (sym (value.rolls-Text t)) ∙ rolled (Value-F.Text t) ∙ value.rolls-Text t

  pub moved_tuple : (items : List Value) → moved (value.Tuple items) ≡ value.Tuple (map moved items)
  moved_tuple items = ap moved (sym (value.rolls-Tuple items)) ∙ rolled (Value-F.Tuple items) ∙ value.rolls-Tuple (map moved items)

  pub moved_range : (r : Range) → moved (value.Range r) ≡ value.Range r
  moved_range r = ap moved (sym (value.rolls-Range r)) ∙ rolled (Value-F.Range r) ∙ value.rolls-Range r

  pub moved_list : (id : ℕ) → moved (value.List id) ≡ value.List (mv.to id)
  moved_list id = ap moved (sym (value.rolls-List id)) ∙ rolled (Value-F.List id) ∙ value.rolls-List (mv.to id)

  pub moved_dict : (id : ℕ) → moved (value.Dict id) ≡ value.Dict (mv.to id)
  moved_dict id = ap moved (sym (value.rolls-Dict id)) ∙ rolled (Value-F.Dict id) ∙ value.rolls-Dict (mv.to id)

  pub moved_function : (id : ℕ) → moved (value.Function id) ≡ value.Function (mv.to id)
  moved_function id = ap moved (sym (value.rolls-Function id)) ∙ rolled (Value-F.Function id) ∙ value.rolls-Function (mv.to id)

  pub moved_builtin : (which : Builtin) → moved (value.Builtin which) ≡ value.Builtin which
  moved_builtin which = ap moved (sym (value.rolls-Builtin which)) ∙ rolled (Value-F.Builtin which) ∙ value.rolls-Builtin which

  -- ---- what does not depend on the numbers

  module _ {A : Type 0} (step : Value-F A → A) (h : (x : Value-F A) → step (numbers x) ≡ step x) where
    abbrev of : Value → A
    of = fold-Value A step

    abbrev Known : Type 0
    Known = (v : Value) × (of (moved v) ≡ of v)

    abbrev bare : Value-F Known → Value-F Value
    bare = map-Value Known Value (λ e. e.0)

    items_same : (all : List Known) → map of (map moved (map (λ e. e.0) all)) ≡ map of (map (λ e. e.0) all)
    items_same [] = refl
    items_same (e ∷ all) = ap (λ a. a ∷ map of (map moved (map (λ o. o.0) all))) e.1 ∙ ap (λ more. of e.0 ∷ more) (items_same all)

    layer_same : (y : Value-F Known) → step (map-Value Value A of (layer (bare y))) ≡ step (map-Value Value A of (bare y))
    layer_same (Value-F.Tuple all) = ap (λ xs. step (Value-F.Tuple xs)) (items_same all)
    layer_same (Value-F.List id) = h (Value-F.List id)
    layer_same (Value-F.Dict id) = h (Value-F.Dict id)
    layer_same (Value-F.Function id) = h (Value-F.Function id)
    layer_same _ = refl

    pub fold_moved : (v : Value) → of (moved v) ≡ of v
    fold_moved =
        ind-Value (λ v. of (moved v) ≡ of v)
        (λ x y is. subst (λ z. of (moved (roll-Value z)) ≡ of (roll-Value z)) is
        (ap of (rolled (bare y)) ∙ fold-roll-Value A step (layer (bare y)) ∙ layer_same y ∙ sym (fold-roll-Value A step (bare y))))

  weight_numbers : (x : Value-F ℕ) → weight_step (numbers x) ≡ weight_step x
  weight_numbers (Value-F.List id) = refl
  weight_numbers _ = refl

  pub weight_moved : (v : Value) → weight (moved v) ≡ weight v
  weight_moved v = fold_moved weight_step weight_numbers v

  depth_numbers : (x : Value-F ℕ) → depth_step (numbers x) ≡ depth_step x
  depth_numbers (Value-F.List id) = refl
  depth_numbers _ = refl

  pub depth_moved : (v : Value) → depth (moved v) ≡ depth v
  depth_moved v = fold_moved depth_step depth_numbers v

  key_numbers : (x : Value-F (Option Key)) → key_step (numbers x) ≡ key_step x
  key_numbers (Value-F.List id) = refl
  key_numbers _ = refl

  pub key_moved : (v : Value) → key_of (moved v) ≡ key_of v
  key_moved v = fold_moved key_step key_numbers v

  pub weights_moved : (xs : List Value) → sum_of_weights (map moved xs) ≡ sum_of_weights xs
  weights_moved xs = ap sum (weights xs)
    where
      weights : (xs : List Value) → map weight (map moved xs) ≡ map weight xs
      weights [] = refl
      weights (x ∷ xs) = ap (λ n. n ∷ map weight (map moved xs)) (weight_moved x) ∙ ap (λ ns. weight x ∷ ns) (weights xs)

  text_layer : (x : Value-F Value) → text_at (layer x) ≡ text_at x
  text_layer (Value-F.List id) = refl
  text_layer _ = refl

  pub text_moved : (v : Value) → text_in (moved v) ≡ text_in v
  text_moved v = ap text_at (out_moved v) ∙ text_layer (out-Value v)

  int_layer : (x : Value-F Value) → int_at (layer x) ≡ int_at x
  int_layer (Value-F.List id) = refl
  int_layer _ = refl

  pub int_moved : (v : Value) → int_in (moved v) ≡ int_in v
  int_moved v = ap int_at (out_moved v) ∙ int_layer (out-Value v)

  bool_layer : (x : Value-F Value) → bool_at (layer x) ≡ bool_at x
  bool_layer (Value-F.List id) = refl
  bool_layer _ = refl

  pub bool_moved : (v : Value) → bool_in (moved v) ≡ bool_in v
  bool_moved v = ap bool_at (out_moved v) ∙ bool_layer (out-Value v)

  type_layer : (x : Value-F Value) → type_name_at (layer x) ≡ type_name_at x
  type_layer (Value-F.List id) = refl
  type_layer _ = refl

  pub type_moved : (v : Value) → type_name (moved v) ≡ type_name v
  unfolding type_name
  type_moved v = ap type_name_at (out_moved v) ∙ type_layer (out-Value v)

  -- ---- keys hold no numbers

  abbrev KnownKey : Type 0
  KnownKey = (k : Key) × (moved (keys.value_of k) ≡ keys.value_of k)

  abbrev bare_key : Key-F KnownKey → Key-F Key
  bare_key = map-Key KnownKey Key (λ e. e.0)

  parts_moved : (all : List KnownKey) → map moved (map keys.value_of (map (λ e. e.0) all)) ≡ map keys.value_of (map (λ e. e.0) all)
  parts_moved [] = refl
  parts_moved (e ∷ all) = ap (λ v. v ∷ map moved (map keys.value_of (map (λ o. o.0) all))) e.1 ∙ ap (λ vs. keys.value_of e.0 ∷ vs) (parts_moved all)

  key_layer : (y : Key-F KnownKey) → moved (value_step (map-Key Key Value keys.value_of (bare_key y))) ≡ value_step (map-Key Key Value keys.value_of (bare_key y))
  key_layer Key-F.None = moved_none
  key_layer (Key-F.Bool b) = moved_bool b
  key_layer (Key-F.Int z) = moved_int z
  key_layer (Key-F.Text t) = moved_text t
  key_layer (Key-F.Tuple all) = moved_tuple _ ∙ ap value.Tuple (parts_moved all)

  pub moved_key : (k : Key) → moved (keys.value_of k) ≡ keys.value_of k
  moved_key =
      ind-Key (λ k. moved (keys.value_of k) ≡ keys.value_of k)
      (λ x y is. subst (λ z. moved (keys.value_of (roll-Key z)) ≡ keys.value_of (roll-Key z)) is
      (ap moved (fold-roll-Key Value value_step (bare_key y)) ∙ key_layer y ∙ sym (fold-roll-Key Value value_step (bare_key y))))

  -- ---- pairs, named values, objects

  abbrev pub pair_to : Key × Value → Key × Value
  pair_to pair = (pair.0, moved pair.1)

  abbrev pub entry_to : List ℕ × Value → List ℕ × Value
  entry_to entry = (entry.0, moved entry.1)

  abbrev pub object_to : {C : Type 0} → Object C → Object C
  object_to (AList items) = AList (map moved items)
  object_to (ADict pairs) = ADict (map pair_to pairs)
  object_to (AFunction cell number defaults) = AFunction cell number (map moved defaults)

  pub keys_moved : (pairs : List (Key × Value)) → key_values (map pair_to pairs) ≡ map moved (key_values pairs)
  keys_moved [] = refl
  keys_moved (pair ∷ pairs) = ap (λ v. v ∷ key_values (map pair_to pairs)) (sym (moved_key pair.0)) ∙ ap (λ vs. moved (keys.value_of pair.0) ∷ vs) (keys_moved pairs)
