-- A key and the value that it is.
use Rattle.std.proofs.Common.{◌≡◌, ℕ, ℤ, Bool, List, [], ◌∷◌, ◌++◌, map, Option, Some, None, refl, sym, ap, subst, ◌∙◌}
use Rattle.std.specs.Prelude.{option_map}
use Rattle.std.specs.List.{flat_map}
use Rattle.star_value.specs.declared.key.Key.{Key, fold-roll-Key, ind-Key, map-Key, roll-Key}
use Rattle.star_value.specs.declared.key.Key.TheOpen.{Key-F}
use Rattle.star_value.specs.declared.key.Key.TheVariants as key
use Rattle.star_value.specs.declared.value.Value.{Value, fold-roll-Value, ind-Value, map-Value, roll-Value}
use Rattle.star_value.specs.declared.value.Value.TheOpen.{Value-F}
use Rattle.star_value.specs.declared.value.Value.TheVariants as value
use Rattle.star_value.specs.Keys.{all_some, key_of, key_step, value_of, value_step}
use Rattle.star_meaning.specs.Snapshot.{references}
use Rattle.snapshot_codec.proofs.Forms.{references_bool, references_int, references_none, references_text, references_tuple}

-- ---- the value of a key, form by form

of_none : value_of key.None ≡ value.None
of_none = ap value_of (sym key.rolls-None) ∙ fold-roll-Key Value value_step Key-F.None

of_bool : (b : Bool) → value_of (key.Bool b) ≡ value.Bool b
of_bool b = ap value_of (sym (key.rolls-Bool b)) ∙ fold-roll-Key Value value_step (Key-F.Bool b)

of_int : (z : ℤ) → value_of (key.Int z) ≡ value.Int z
of_int z = ap value_of (sym (key.rolls-Int z)) ∙ fold-roll-Key Value value_step (Key-F.Int z)

of_text : (t : List ℕ) → value_of (key.Text t) ≡ value.Text t
of_text t = ap value_of (sym (key.rolls-Text t)) ∙ fold-roll-Key Value value_step (Key-F.Text t)

of_tuple : (ks : List Key) → value_of (key.Tuple ks) ≡ value.Tuple (map value_of ks)
of_tuple ks = ap value_of (sym (key.rolls-Tuple ks)) ∙ fold-roll-Key Value value_step (Key-F.Tuple ks)

-- ---- the key that a value is, is that value

abbrev Is : Value → Type 0
Is v = (k : Key) → key_of v ≡ Some k → value_of k ≡ v

abbrev Known : Type 0
Known = (v : Value) × Is v

abbrev bare : Value-F Known → Value-F Value
bare = map-Value Known Value (λ e. e.0)

abbrev plain_items : List Known → List Value
plain_items all = map (λ e. e.0) all

option_one : {A : Type 0} (x y : A) → Some x ≡ Some y → x ≡ y
option_one x y e = cc

no_key : {A : Type 0} (k : Key) → ◌≡◌ {A = Option Key} None (Some k) → A
no_key k e = absurd cc

items_are : (all : List Known) (ks : List Key) → all_some (map key_of (plain_items all)) ≡ Some ks → map value_of ks ≡ plain_items all
items_are [] ks e = ap (map value_of) (sym (option_one [] ks e))
items_are (known ∷ all) ks e = by (key_of known.0) refl (all_some (map key_of (plain_items all))) refl e (λ more f. items_are all more f)
  where
    by : (o : Option Key) → key_of known.0 ≡ o → (os : Option (List Key)) → all_some (map key_of (plain_items all)) ≡ os → all_some (o ∷ map key_of (plain_items all)) ≡ Some ks
        → ((more : List Key) → all_some (map key_of (plain_items all)) ≡ Some more → map value_of more ≡ plain_items all) → map value_of ks ≡ known.0 ∷ plain_items all
    by None f os g h rest = absurd cc
    by (Some k) f None g h rest = let none : option_map (λ more. k ∷ more) None ≡ Some ks = ap (option_map (λ more. k ∷ more)) (sym g) ∙ h in absurd cc
    by (Some k) f (Some more) g h rest =
        let all_are : option_map (λ others. k ∷ others) (Some more) ≡ Some ks = ap (option_map (λ others. k ∷ others)) (sym g) ∙ h in
        let same : k ∷ more ≡ ks = option_one (k ∷ more) ks all_are in
        ap (map value_of) (sym same) ∙ (λ i. known.1 k f i ∷ rest more g i)

rolled_key : (x : Value-F Value) → key_of (roll-Value x) ≡ key_step (map-Value Value (Option Key) key_of x)
rolled_key x = fold-roll-Value (Option Key) key_step x

-- a key of one form
one_form : (x : Key) (k : Key) (v : Value) → value_of x ≡ v → Some x ≡ Some k → value_of k ≡ v
one_form x k v is e = ap value_of (sym (option_one x k e)) ∙ is

layer_is : (y : Value-F Known) (k : Key) → key_step (map-Value Value (Option Key) key_of (bare y)) ≡ Some k → value_of k ≡ roll-Value (bare y)
layer_is Value-F.None k e = one_form key.None k (roll-Value Value-F.None) (of_none ∙ sym value.rolls-None) e
layer_is (Value-F.Bool b) k e = one_form (key.Bool b) k (roll-Value (Value-F.Bool b)) (of_bool b ∙ sym (value.rolls-Bool b)) e
layer_is (Value-F.Int z) k e = one_form (key.Int z) k (roll-Value (Value-F.Int z)) (of_int z ∙ sym (value.rolls-Int z)) e
layer_is (Value-F.Text t) k e = one_form (key.Text t) k (roll-Value (Value-F.Text t)) (of_text t ∙ sym (value.rolls-Text t)) e
layer_is (Value-F.Tuple all) k e = by (all_some (map key_of (plain_items all))) refl e
  where
    by : (os : Option (List Key)) → all_some (map key_of (plain_items all)) ≡ os → option_map key.Tuple os ≡ Some k → value_of k ≡ roll-Value (Value-F.Tuple (plain_items all))
    by None f g = no_key k g
    by (Some ks) f g = one_form (key.Tuple ks) k (roll-Value (Value-F.Tuple (plain_items all))) (of_tuple ks ∙ ap value.Tuple (items_are all ks f) ∙ sym (value.rolls-Tuple (plain_items all))) g
layer_is (Value-F.Range r) k e = no_key k e
layer_is (Value-F.List id) k e = no_key k e
layer_is (Value-F.Dict id) k e = no_key k e
layer_is (Value-F.Function id) k e = no_key k e
layer_is (Value-F.Builtin which) k e = no_key k e

pub value_of_key : (v : Value) (k : Key) → key_of v ≡ Some k → value_of k ≡ v
value_of_key = ind-Value Is (λ x y is. subst (λ z. Is (roll-Value z)) is (λ k e. layer_is y k (sym (rolled_key (bare y)) ∙ e)))

-- ---- the value that a key is, is that key

abbrev Back : Key → Type 0
Back k = key_of (value_of k) ≡ Some k

abbrev Knows : Type 0
Knows = (k : Key) × Back k

abbrev laid : Key-F Knows → Key-F Key
laid = map-Key Knows Key (λ e. e.0)

all_back : (all : List Knows) → all_some (map key_of (map value_of (map (λ e. e.0) all))) ≡ Some (map (λ e. e.0) all)
all_back [] = refl
all_back (e ∷ all) =
    ap (λ o. all_some (o ∷ map key_of (map value_of (map (λ f. f.0) all)))) e.1 ∙ ap (option_map (λ more. e.0 ∷ more)) (all_back all)

layer_back : (y : Key-F Knows) → Back (roll-Key (laid y))
layer_back Key-F.None =
    ap key_of (fold-roll-Key Value value_step Key-F.None ∙ sym value.rolls-None) ∙ fold-roll-Value (Option Key) key_step Value-F.None ∙ ap Some (sym key.rolls-None)
layer_back (Key-F.Bool b) =
    ap key_of (fold-roll-Key Value value_step (Key-F.Bool b) ∙ sym (value.rolls-Bool b)) ∙ fold-roll-Value (Option Key) key_step (Value-F.Bool b) ∙ ap Some (sym (key.rolls-Bool b))
layer_back (Key-F.Int z) =
    ap key_of (fold-roll-Key Value value_step (Key-F.Int z) ∙ sym (value.rolls-Int z)) ∙ fold-roll-Value (Option Key) key_step (Value-F.Int z) ∙ ap Some (sym (key.rolls-Int z))
layer_back (Key-F.Text t) =
    ap key_of (fold-roll-Key Value value_step (Key-F.Text t) ∙ sym (value.rolls-Text t)) ∙ fold-roll-Value (Option Key) key_step (Value-F.Text t) ∙ ap Some (sym (key.rolls-Text t))
layer_back (Key-F.Tuple all) =
    let ks = map (λ e. e.0) all in
    ap key_of (fold-roll-Key Value value_step (Key-F.Tuple ks) ∙ sym (value.rolls-Tuple (map value_of ks))) ∙ fold-roll-Value (Option Key) key_step (Value-F.Tuple (map value_of ks)) ∙ ap (option_map key.Tuple) (all_back all)
    ∙ ap Some (sym (key.rolls-Tuple ks))

pub key_back : (k : Key) → key_of (value_of k) ≡ Some k
key_back = ind-Key Back (λ x y is. subst (λ z. Back (roll-Key z)) is (layer_back y))

-- ---- a key refers to nothing

abbrev Bare : Key → Type 0
Bare k = references (value_of k) ≡ []

none_in : (all : List ((k : Key) × Bare k)) → flat_map references (map value_of (map (λ e. e.0) all)) ≡ []
none_in [] = refl
none_in (e ∷ all) = λ i. e.1 i ++ none_in all i

layer_bare : (y : Key-F ((k : Key) × Bare k)) → Bare (roll-Key (map-Key ((k : Key) × Bare k) Key (λ e. e.0) y))
layer_bare Key-F.None = ap (λ k. references (value_of k)) key.rolls-None ∙ ap references of_none ∙ references_none
layer_bare (Key-F.Bool b) = ap (λ k. references (value_of k)) (key.rolls-Bool b) ∙ ap references (of_bool b) ∙ references_bool b
layer_bare (Key-F.Int z) = ap (λ k. references (value_of k)) (key.rolls-Int z) ∙ ap references (of_int z) ∙ references_int z
layer_bare (Key-F.Text t) = ap (λ k. references (value_of k)) (key.rolls-Text t) ∙ ap references (of_text t) ∙ references_text t
layer_bare (Key-F.Tuple all) =
    let ks = map (λ e. e.0) all in
    ap (λ k. references (value_of k)) (key.rolls-Tuple ks) ∙ ap references (of_tuple ks) ∙ references_tuple (map value_of ks) ∙ none_in all

pub key_bare : (k : Key) → references (value_of k) ≡ []
key_bare = ind-Key Bare (λ x y is. subst (λ z. Bare (roll-Key z)) is (layer_bare y))
