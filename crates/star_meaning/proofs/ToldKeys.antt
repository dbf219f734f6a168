-- Two keys that are the same value are one key.
use Rattle.std.proofs.Common.{◌≡◌, List, [], ◌∷◌, map, Option, Some, option_map, refl, sym, ap, subst, ◌∙◌}
use Rattle.star_value.specs.declared.key.Key.{Key, fold-roll-Key, ind-Key, map-Key, roll-Key}
use Rattle.star_value.specs.declared.key.Key.TheOpen.{Key-F}
use Rattle.star_value.specs.declared.key.Key.TheVariants as key
use Rattle.star_value.specs.declared.value.Value.{Value, fold-roll-Value}
use Rattle.star_value.specs.declared.value.Value.TheOpen.{Value-F}
use Rattle.star_value.specs.declared.value.Value.TheVariants as value
use Rattle.star_value.specs.Keys.{all_some, key_of, key_step, value_of, value_step}

abbrev Back : Key → Type 0
Back k = key_of (value_of k) ≡ Some k

abbrev Known : Type 0
Known = (k : Key) × Back k

abbrev laid : Key-F Known → Key-F Key
laid = map-Key Known Key (λ e. e.0)

all_back : (all : List Known) → all_some (map key_of (map value_of (map (λ e. e.0) all))) ≡ Some (map (λ e. e.0) all)
all_back [] = refl
all_back (e ∷ all) =
    ap (λ o. all_some (o ∷ map key_of (map value_of (map (λ f. f.0) all)))) e.1 ∙ ap (option_map (λ more. e.0 ∷ more)) (all_back all)

layer_back : (y : Key-F Known) → Back (roll-Key (laid y))
layer_back Key-F.None =
    ap key_of (fold-roll-Key Value value_step Key-F.None ∙ sym value.rolls-None) ∙ fold-roll-Value (Option Key) key_step Value-F.None ∙ ap Some (sym key.rolls-None)
layer_back (Key-F.Bool b) =
    ap key_of (fold-roll-Key Value value_step (Key-F.Bool b) ∙ sym (value.rolls-Bool b)) ∙ fold-roll-Value (Option Key) key_step (Value-F.Bool b) ∙ ap Some (sym (key.rolls-Bool b))
layer_back (Key-F.Int z) =
    ap key_of (fold-roll-Key Value value_step (Key-F.Int z) ∙ sym (value.rolls-Int z)) ∙ fold-roll-Value (Option Key) key_step (Value-F.Int z) ∙ ap Some (sym (key.rolls-Int z))
layer_back (Key-F.Text t) =
    ap key_of (fold-roll-Key Value value_step (Key-F.Text t) ∙ sym (value.rolls-Text t)) ∙ fold-roll-Value (Option Key) key_step (Value-F.Text t) ∙ ap Some (sym (key.rolls-Text t))
layer_back (Key-F.Tuple all) =
    let ks = map (λ e. e.0) all in
    ap key_of (fold-roll-Key Value value_step (Key-F.Tuple ks) ∙ sym (value.rolls-Tuple (map value_of ks))) ∙ fold-roll-Value (Option Key) key_step (Value-F.Tuple (map value_of ks)) ∙ ap (option_map key.Tuple) (all_back all)
    ∙ ap Some (sym (key.rolls-Tuple ks))

key_back : (k : Key) → Back k
key_back = ind-Key Back (λ x y is. subst (λ z. Back (roll-Key z)) is (layer_back y))

pub keys_one : (k l : Key) → value_of k ≡ value_of l → k ≡ l
keys_one k l e = let one : Some k ≡ Some l = sym (key_back k) ∙ ap key_of e ∙ key_back l in cc
