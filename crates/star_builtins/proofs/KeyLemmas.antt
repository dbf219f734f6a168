-- The value that a key is, where the key is that of a value.
use Rattle.std.proofs.Common.{◌≡◌, ℕ, List, [], ◌∷◌, map, refl, sym, ap, ◌∙◌, subst, IsTrue, Option, Some, None}
use Rattle.std.specs.Prelude.{option_map}
use Rattle.star_value.specs.Keys.{all_some, key_of, key_step, value_of, value_step}
use Rattle.star_value.specs.declared.key.Key.{Key, fold-roll-Key}
use Rattle.star_value.specs.declared.key.Key.TheOpen.{Key-F}
use Rattle.star_value.specs.declared.key.Key.TheVariants as key
use Rattle.star_value.specs.declared.value.Value.{Value, fold-roll-Value, ind-Value, map-Value, roll-Value}
use Rattle.star_value.specs.declared.value.Value.TheOpen.{Value-F}
use Rattle.star_value.specs.declared.value.Value.TheVariants as value
use Rattle.star_value.specs.Weight.{weight}
use Rattle.star_meaning.specs.Validity.{MachineState, is_proper}
use Rattle.star_builtins.specs.Reached.{Fits}

abbrev Back : Value → Type 0
Back v = (k : Key) → key_of v ≡ Some k → value_of k ≡ v

abbrev Known : Type 0
Known = (v : Value) × Back v

abbrev bare : List Known → List Value
bare all = map (λ e. e.0) all

parts_cons : (e : Known) (all : List Known) (o : Option Key) (more : Option (List Key)) (ks : List Key) → key_of e.0 ≡ o → ((rest : List Key) → more ≡ Some rest → map value_of rest ≡ bare all)
    → all_some (map key_of (bare all)) ≡ more → all_some (o ∷ map key_of (bare all)) ≡ Some ks → map value_of ks ≡ bare (e ∷ all)
parts_cons e all None more ks is rest same h = absurd (cc)
parts_cons e all (Some k) None ks is rest same h = absurd (let none : option_map (λ xs. k ∷ xs) None ≡ Some ks = ap (option_map (λ xs. k ∷ xs)) (sym same) ∙ h in cc)
parts_cons e all (Some k) (Some xs) ks is rest same h =
    let whole : Some (k ∷ xs) ≡ Some ks = ap (option_map (λ ys. k ∷ ys)) (sym same) ∙ h in
    let here : k ∷ xs ≡ ks = cc in
    ap (map value_of) (sym here) ∙ ap (λ w. w ∷ map value_of xs) (e.1 k is) ∙ ap (λ ys. e.0 ∷ ys) (rest xs refl)

parts_back : (all : List Known) (ks : List Key) → all_some (map key_of (bare all)) ≡ Some ks → map value_of ks ≡ bare all
parts_back [] ks h = let same : [] ≡ ks = cc in ap (map value_of) (sym same)
parts_back (e ∷ all) ks h = parts_cons e all (key_of e.0) (all_some (map key_of (bare all))) ks refl (λ rest is. parts_back all rest is) refl (all_rolled e all ∙ h)
  where
    all_rolled : (f : Known) (fs : List Known) → all_some (key_of f.0 ∷ map key_of (bare fs)) ≡ all_some (map key_of (bare (f ∷ fs)))
    all_rolled f fs = refl

tuple_back : (all : List Known) (o : Option (List Key)) (k : Key) → all_some (map key_of (bare all)) ≡ o → option_map key.Tuple o ≡ Some k → value_of k ≡ roll-Value (Value-F.Tuple (bare all))
tuple_back all None k is h = absurd (cc)
tuple_back all (Some ks) k is h =
    let same : key.Tuple ks ≡ k = cc in
    ap value_of (sym same) ∙ ap value_of (sym (key.rolls-Tuple ks)) ∙ fold-roll-Key Value value_step (Key-F.Tuple ks) ∙ ap value.Tuple (parts_back all ks is) ∙ sym (value.rolls-Tuple (bare all))

plain_back : (x : Key) (w : Value) → value_of x ≡ w → (k : Key) → Some x ≡ Some k → value_of k ≡ w
plain_back x w is k h = let same : x ≡ k = cc in subst (λ z. value_of z ≡ w) same is

layer_back : (y : Value-F Known) → Back (roll-Value (map-Value Known Value (λ e. e.0) y))
layer_back (Value-F.Tuple all) k h = tuple_back all (all_some (map key_of (bare all))) k refl (rw (fold-roll-Value (Option Key) key_step) at h)
layer_back (Value-F.Text points) k h =
    plain_back (key.Text points) (roll-Value (Value-F.Text points)) (ap value_of (sym (key.rolls-Text points)) ∙ fold-roll-Key Value value_step (Key-F.Text points) ∙ sym (value.rolls-Text points)) k (rw (fold-roll-Value (Option Key) key_step) at h)
layer_back (Value-F.Int z) k h =
    plain_back (key.Int z) (roll-Value (Value-F.Int z)) (ap value_of (sym (key.rolls-Int z)) ∙ fold-roll-Key Value value_step (Key-F.Int z) ∙ sym (value.rolls-Int z)) k (rw (fold-roll-Value (Option Key) key_step) at h)
layer_back (Value-F.Bool b) k h =
    plain_back (key.Bool b) (roll-Value (Value-F.Bool b)) (ap value_of (sym (key.rolls-Bool b)) ∙ fold-roll-Key Value value_step (Key-F.Bool b) ∙ sym (value.rolls-Bool b)) k (rw (fold-roll-Value (Option Key) key_step) at h)
layer_back Value-F.None k h =
    plain_back key.None (roll-Value Value-F.None) (ap value_of (sym key.rolls-None) ∙ fold-roll-Key Value value_step Key-F.None ∙ sym value.rolls-None) k (rw (fold-roll-Value (Option Key) key_step) at h)
layer_back (Value-F.Range r) k h = let none : None ≡ Some k = rw (fold-roll-Value (Option Key) key_step) at h in absurd (cc)
layer_back (Value-F.List id) k h = let none : None ≡ Some k = rw (fold-roll-Value (Option Key) key_step) at h in absurd (cc)
layer_back (Value-F.Dict id) k h = let none : None ≡ Some k = rw (fold-roll-Value (Option Key) key_step) at h in absurd (cc)
layer_back (Value-F.Function id) k h = let none : None ≡ Some k = rw (fold-roll-Value (Option Key) key_step) at h in absurd (cc)
layer_back (Value-F.Builtin which) k h = let none : None ≡ Some k = rw (fold-roll-Value (Option Key) key_step) at h in absurd (cc)

-- a value that has a key is the value of that key
pub value_of_key : (v : Value) (k : Key) → key_of v ≡ Some k → value_of k ≡ v
value_of_key = ind-Value Back (λ x y is. subst (λ z. Back (roll-Value z)) is (layer_back y))

pub key_is_proper : (m : MachineState) (v : Value) (k : Key) → Fits m v → key_of v ≡ Some k → IsTrue (is_proper (value_of k))
key_is_proper m v k fit is = subst (λ w. IsTrue (is_proper w)) (sym (value_of_key v k is)) fit.proper

pub key_weight : (v : Value) (k : Key) → key_of v ≡ Some k → weight (value_of k) ≡ weight v
key_weight v k is = ap weight (value_of_key v k is)

pub ruleset keys = (key_is_proper, key_weight)
