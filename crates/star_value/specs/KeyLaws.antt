-- Equality of keys is that of values, and so an equivalence. These are proofs that the traits ask for, and no definitions.
use Rattle.std.proofs.Common.{◌≡◌, Bool, true, false, ◌&&◌, List, [], ◌∷◌, map, refl, sym, ap, ◌∙◌, subst}
use Rattle.std.proofs.lemmas.Bool.{false≢true}
use Rattle.std.proofs.lemmas.Bool.Decides.{Decides-int_eq}
use Rattle.std.proofs.lemmas.Slice.Eq.{bytes_eq-Decides}
use Rattle.std.specs.Bool.{Decides, beq}
use Rattle.std.specs.Cmp.{IsEquivalence, first_so, second_so}
use Rattle.star_value.specs.declared.key.Key.{Key, fold-roll-Key, ind-Key, map-Key, out-Key, roll-Key, out-roll-Key, roll-out-Key}
use Rattle.star_value.specs.declared.key.Key.TheOpen.{Key-F}
use Rattle.star_value.specs.KeyOrder.{all_hold, same_layer, same_key}

-- one layer of a key
pub same_key-roll : (x : Key-F Key) (b : Key) → same_key (roll-Key x) b ≡ same_layer (map-Key Key (Key → Bool) same_key x) (out-Key b)
unfolding same_key
same_key-roll x b = ap (λ (test : Key → Bool). test b) (fold-roll-Key (Key → Bool) (λ layer other. same_layer layer (out-Key other)) x)

pub same_rolled : (x y : Key-F Key) → same_key (roll-Key x) (roll-Key y) ≡ same_layer (map-Key Key (Key → Bool) same_key x) y
same_rolled x y = same_key-roll x (roll-Key y) ∙ ap (same_layer (map-Key Key (Key → Bool) same_key x)) (out-roll-Key y)

-- what is shown of a key once it is known of its parts
abbrev Same : Key → Type 0
Same a = (b : Key) → Decides (same_key a b) (a ≡ b)

abbrev Known : Type 0
Known = (a : Key) × Same a

abbrev bare : List Known → List Key
bare = map (λ e. e.0)

bare_same : (all : List Known) (b : List Key) → all_hold (map same_key (bare all)) b ≡ true → bare all ≡ b
bare_same [] [] h = refl
bare_same [] (y ∷ b) h = absurd (false≢true h)
bare_same (e ∷ all) [] h = absurd (false≢true h)
bare_same (e ∷ all) (y ∷ b) h =
    let first = (e.1 y).0 (first_so (same_key e.0 y) (all_hold (map same_key (bare all)) b) h) in
    let rest = bare_same all b (second_so (same_key e.0 y) (all_hold (map same_key (bare all)) b) h) in
    λ i. first i ∷ rest i

bare_itself : (all : List Known) → all_hold (map same_key (bare all)) (bare all) ≡ true
bare_itself [] = refl
bare_itself (e ∷ all) = ap (λ t. t && all_hold (map same_key (bare all)) (bare all)) ((e.1 e.0).1 refl) ∙ bare_itself all

abbrev laid : Key-F Known → Key-F Key
laid = map-Key Known Key (λ e. e.0)

bools_same : (a b : Bool) → beq a b ≡ true → a ≡ b
bools_same true true h = refl
bools_same true false h = absurd (false≢true h)
bools_same false true h = absurd (false≢true h)
bools_same false false h = refl

layer_same : (x : Key-F Known) (y : Key-F Key) → same_layer (map-Key Key (Key → Bool) same_key (laid x)) y ≡ true → laid x ≡ y
layer_same Key-F.None Key-F.None h = refl
layer_same (Key-F.Bool a) (Key-F.Bool b) h = ap Key-F.Bool (bools_same a b h)
layer_same (Key-F.Int a) (Key-F.Int b) h = ap Key-F.Int ((Decides-int_eq a b).0 h)
layer_same (Key-F.Text a) (Key-F.Text b) h = ap Key-F.Text ((bytes_eq-Decides a b).0 h)
layer_same (Key-F.Tuple all) (Key-F.Tuple b) h = ap Key-F.Tuple (bare_same all b h)
layer_same _ _ h = absurd (false≢true h)

layer_itself : (x : Key-F Known) → same_layer (map-Key Key (Key → Bool) same_key (laid x)) (laid x) ≡ true
layer_itself Key-F.None = refl
layer_itself (Key-F.Bool true) = refl
layer_itself (Key-F.Bool false) = refl
layer_itself (Key-F.Int a) = (Decides-int_eq a a).1 refl
layer_itself (Key-F.Text a) = (bytes_eq-Decides a a).1 refl
layer_itself (Key-F.Tuple all) = bare_itself all

layer_decides : (x : Key-F Known) → Same (roll-Key (laid x))
layer_decides x b = (
  λ h. ap roll-Key (layer_same x (out-Key b) (sym (same_key-roll (laid x) b) ∙ h)) ∙ roll-out-Key b,
  λ is. ap (same_key (roll-Key (laid x))) (sym is) ∙ same_rolled (laid x) (laid x) ∙ layer_itself x,
)

-- the test of two keys says whether they are one and the same
pub same_key-Decides : (a b : Key) → Decides (same_key a b) (a ≡ b)
same_key-Decides = ind-Key Same (λ x y is. subst (λ z. Same (roll-Key z)) is (layer_decides y))

pub both_ways : (p q : Bool) → (p ≡ true → q ≡ true) → (q ≡ true → p ≡ true) → p ≡ q
both_ways true q f g = sym (f refl)
both_ways false true f g = g refl
both_ways false false f g = refl

pub same_key_equiv : IsEquivalence same_key
same_key_equiv = record {
  refl = λ a. (same_key-Decides a a).1 refl;
  symm = λ a b. both_ways (same_key a b) (same_key b a) (λ h. (same_key-Decides b a).1 (sym ((same_key-Decides a b).0 h))) (λ h. (same_key-Decides a b).1 (sym ((same_key-Decides b a).0 h)));
  congr = λ a b c h. ap (λ key. same_key key c) ((same_key-Decides a b).0 h);
}
