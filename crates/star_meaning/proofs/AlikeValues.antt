-- Values that correspond are those of one value over places, and the other way round.
use Rattle.std.proofs.Common.{◌≡◌, ℕ, List, [], ◌∷◌, map, Bool, IsTrue, refl, sym, ap, subst, ◌∙◌}
use Rattle.std.proofs.lemmas.Bool.Decides.{Decides-int_eq}
use Rattle.std.proofs.lemmas.Slice.Eq.{bytes_eq-Decides}
use Rattle.std.specs.Cmp.{booleans_Decides}
use Rattle.std.specs.Ordering.{int_eq}
use Rattle.std.specs.Prelude.{Some, bytes_eq}
use Rattle.star_value.specs.declared.builtin.Builtin.{Builtin}
use Rattle.star_value.specs.declared.builtin.Builtin.TheVariants as builtin
use Rattle.star_value.specs.declared.key.Key.{Key}
use Rattle.star_value.specs.declared.range.Range.{Range}
use Rattle.star_value.specs.declared.value.Value.{Value, fold-roll-Value, ind-Value, map-Value, out-Value, out-roll-Value, roll-Value, roll-out-Value}
use Rattle.star_value.specs.declared.value.Value.TheOpen.{Value-F}
use Rattle.star_value.specs.KeyLaws.{same_key-Decides}
use Rattle.star_value.specs.KeyOrder.{all_hold, same_key}
use Rattle.star_meaning.specs.State.{Object, AList, ADict, AFunction}
use Rattle.star_meaning.specs.Values.{builtin_name, builtin_of}
use Rattle.star_meaning.specs.Comparing.{same_builtin}
use Rattle.star_meaning.specs.Alike.{LikeObjects, Pairs, is_pair, like, like_global, like_items, like_layer, like_pair, like_pairs, like_range}
use Rattle.star_meaning.proofs.MovedValues.{Moving, entry_to, layer, moved, object_to, pair_to, rolled}
use Rattle.star_meaning.proofs.AlikeNumbers.{and_both, both_and, not_true}

-- ---- values without references

named : (which : Builtin) → builtin_of (builtin_name which) ≡ Some which
unfolding builtin_of builtin_name
named builtin.Abs = refl
named _ = refl

pub builtins_same : (a b : Builtin) → IsTrue (same_builtin a b) → a ≡ b
builtins_same a b h =
    let one : Some a ≡ Some b = sym (named a) ∙ ap builtin_of ((bytes_eq-Decides (builtin_name a) (builtin_name b)).0 h) ∙ named b in cc

pub ranges_same : (r q : Range) → IsTrue (like_range r q) → r ≡ q
ranges_same r q h =
    let both = and_both (int_eq r.start q.start) _ h in
    let rest = and_both (int_eq r.stop q.stop) (int_eq r.step q.step) both.1 in
    λ j. record { start = (Decides-int_eq r.start q.start).0 both.0 j; stop = (Decides-int_eq r.stop q.stop).0 rest.0 j; step = (Decides-int_eq r.step q.step).0 rest.1 j }

pub range_itself : (r : Range) → IsTrue (like_range r r)
range_itself r =
    both_and (int_eq r.start r.start) _ ((Decides-int_eq r.start r.start).1 refl)
    (both_and (int_eq r.stop r.stop) (int_eq r.step r.step) ((Decides-int_eq r.stop r.stop).1 refl) ((Decides-int_eq r.step r.step).1 refl))

-- one layer of values that correspond
pub like_rolled : (pairs : Pairs) (x : Value-F Value) (v : Value) → like pairs (roll-Value x) v ≡ like_layer pairs (map-Value Value (Value → Bool) (like pairs) x) (out-Value v)
unfolding like
like_rolled pairs x v = ap (λ (test : Value → Bool). test v) (fold-roll-Value (Value → Bool) (λ l other. like_layer pairs l (out-Value other)) x)

-- ---- from values that correspond to one over places

module _ (pairs : Pairs) (bk one two : Moving) (first : (a b : ℕ) → IsTrue (is_pair pairs a b) → one.to (bk.to a) ≡ a) (second : (a b : ℕ) → IsTrue (is_pair pairs a b) → two.to (bk.to a) ≡ b) where
  -- the first value and the second one, of the first one's places
  abbrev Placed : Value → Value → Type 0
  Placed x y = (moved one (moved bk x) ≡ x) × (moved two (moved bk x) ≡ y)

  abbrev Known : Type 0
  Known = (v : Value) × ((y : Value) → IsTrue (like pairs v y) → Placed v y)

  abbrev bare : Value-F Known → Value-F Value
  bare = map-Value Known Value (λ e. e.0)

  abbrev again : Moving → List Value → List Value
  again mv xs = map (moved mv) (map (moved bk) xs)

  abbrev AllPlaced : List Value → List Value → Type 0
  AllPlaced xs ys = (again one xs ≡ xs) × (again two xs ≡ ys)

  all_placed : (all : List Known) (ys : List Value) → IsTrue (all_hold (map (like pairs) (map (λ e. e.0) all)) ys) → AllPlaced (map (λ e. e.0) all) ys
  all_placed [] [] h = (refl, refl)
  all_placed [] (y ∷ ys) h = absurd (not_true h)
  all_placed (e ∷ all) [] h = absurd (not_true h)
  all_placed (e ∷ all) (y ∷ ys) h =
      let both = and_both (like pairs e.0 y) (all_hold (map (like pairs) (map (λ o. o.0) all)) ys) h in
      let here = e.1 y both.0 in
      let rest = all_placed all ys both.1 in (λ j. here.0 j ∷ rest.0 j, λ j. here.1 j ∷ rest.1 j)

  abbrev Layers : Value-F Value → Value-F Value → Type 0
  Layers x z = (layer one (layer bk x) ≡ x) × (layer two (layer bk x) ≡ z)

  layers_placed : (y : Value-F Known) (z : Value-F Value) → IsTrue (like_layer pairs (map-Value Value (Value → Bool) (like pairs) (bare y)) z) → Layers (bare y) z
  layers_placed Value-F.None Value-F.None h = (refl, refl)
  layers_placed (Value-F.Bool a) (Value-F.Bool b) h = (refl, ap Value-F.Bool ((booleans_Decides a b).0 h))
  layers_placed (Value-F.Int a) (Value-F.Int b) h = (refl, ap Value-F.Int ((Decides-int_eq a b).0 h))
  layers_placed (Value-F.Text a) (Value-F.Text b) h = (refl, ap Value-F.Text ((bytes_eq-Decides a b).0 h))
  layers_placed (Value-F.Tuple all) (Value-F.Tuple ys) h = let placed = all_placed all ys h in (ap Value-F.Tuple placed.0, ap Value-F.Tuple placed.1)
  layers_placed (Value-F.Range r) (Value-F.Range q) h = (refl, ap Value-F.Range (ranges_same r q h))
  layers_placed (Value-F.List a) (Value-F.List b) h = (ap Value-F.List (first a b h), ap Value-F.List (second a b h))
  layers_placed (Value-F.Dict a) (Value-F.Dict b) h = (ap Value-F.Dict (first a b h), ap Value-F.Dict (second a b h))
  layers_placed (Value-F.Function a) (Value-F.Function b) h = (ap Value-F.Function (first a b h), ap Value-F.Function (second a b h))
  layers_placed (Value-F.Builtin a) (Value-F.Builtin b) h = (refl, ap Value-F.Builtin (builtins_same a b h))
  layers_placed _ _ h = absurd (not_true h)

  twice : (mv : Moving) (x : Value-F Value) → moved mv (moved bk (roll-Value x)) ≡ roll-Value (layer mv (layer bk x))
  twice mv x = ap (moved mv) (rolled bk x) ∙ rolled mv (layer bk x)

  rolled_placed : (y : Value-F Known) (v : Value) → IsTrue (like pairs (roll-Value (bare y)) v) → Placed (roll-Value (bare y)) v
  rolled_placed y v h =
      let found = layers_placed y (out-Value v) (subst IsTrue (like_rolled pairs (bare y) v) h) in
      (twice one (bare y) ∙ ap roll-Value found.0, twice two (bare y) ∙ ap roll-Value found.1 ∙ roll-out-Value v)

  pub placed : (x y : Value) → IsTrue (like pairs x y) → Placed x y
  placed = ind-Value (λ v. (y : Value) → IsTrue (like pairs v y) → Placed v y) (λ x y is. subst (λ z. (v : Value) → IsTrue (like pairs (roll-Value z) v) → Placed (roll-Value z) v) is (rolled_placed y))

  pub items_placed : (xs ys : List Value) → IsTrue (like_items pairs xs ys) → AllPlaced xs ys
  items_placed [] [] h = (refl, refl)
  items_placed [] (y ∷ ys) h = absurd (not_true h)
  items_placed (x ∷ xs) [] h = absurd (not_true h)
  items_placed (x ∷ xs) (y ∷ ys) h =
      let both = and_both (like pairs x y) (like_items pairs xs ys) h in
      let here = placed x y both.0 in
      let rest = items_placed xs ys both.1 in (λ j. here.0 j ∷ rest.0 j, λ j. here.1 j ∷ rest.1 j)

  pairs_placed : (ps qs : List (Key × Value)) → IsTrue (like_pairs pairs ps qs) → (map (pair_to one) (map (pair_to bk) ps) ≡ ps) × (map (pair_to two) (map (pair_to bk) ps) ≡ qs)
  pairs_placed [] [] h = (refl, refl)
  pairs_placed [] (q ∷ qs) h = absurd (not_true h)
  pairs_placed (p ∷ ps) [] h = absurd (not_true h)
  pairs_placed (p ∷ ps) (q ∷ qs) h =
      let both = and_both (like_pair pairs p q) (like_pairs pairs ps qs) h in
      let pair = and_both (same_key p.0 q.0) (like pairs p.1 q.1) both.0 in
      let key = (same_key-Decides p.0 q.0).0 pair.0 in
      let here = placed p.1 q.1 pair.1 in
      let rest = pairs_placed ps qs both.1 in (λ j. (p.0, here.0 j) ∷ rest.0 j, λ j. (key j, here.1 j) ∷ rest.1 j)

  pub globals_placed : (gs hs : List (List ℕ × Value)) → IsTrue (all_hold (map (like_global pairs) gs) hs) → (map (entry_to one) (map (entry_to bk) gs) ≡ gs) × (map (entry_to two) (map (entry_to bk) gs) ≡ hs)
  globals_placed [] [] h = (refl, refl)
  globals_placed [] (q ∷ hs) h = absurd (not_true h)
  globals_placed (p ∷ gs) [] h = absurd (not_true h)
  globals_placed (p ∷ gs) (q ∷ hs) h =
      let both = and_both (like_global pairs p q) (all_hold (map (like_global pairs) gs) hs) h in
      let entry = and_both (bytes_eq p.0 q.0) (like pairs p.1 q.1) both.0 in
      let name = (bytes_eq-Decides p.0 q.0).0 entry.0 in
      let here = placed p.1 q.1 entry.1 in
      let rest = globals_placed gs hs both.1 in (λ j. (p.0, here.0 j) ∷ rest.0 j, λ j. (name j, here.1 j) ∷ rest.1 j)

  pub object_placed : {C : Type 0} (o p : Object C) → LikeObjects pairs o p → (object_to one (object_to bk o) ≡ o) × (object_to two (object_to bk o) ≡ p)
  object_placed (AList xs) (AList ys) h = let found = items_placed xs ys h in (ap AList found.0, ap AList found.1)
  object_placed (ADict ps) (ADict qs) h = let found = pairs_placed ps qs h in (ap ADict found.0, ap ADict found.1)
  object_placed (AFunction c m xs) (AFunction d n ys) h =
      let found = items_placed xs ys h.2 in (ap (AFunction c m) found.0, λ j. AFunction (h.0 j) (h.1 j) (found.1 j))
  object_placed _ _ h = absurd h

-- ---- from a value over places to two that correspond

module _ (pairs : Pairs) (one far two : Moving) (within : (id : ℕ) → one.to id ≡ far.to id → IsTrue (is_pair pairs (one.to id) (two.to id))) where
  abbrev Reaches : Value → Type 0
  Reaches v = moved one v ≡ moved far v → IsTrue (like pairs (moved one v) (moved two v))

  abbrev Reached : Type 0
  Reached = (v : Value) × Reaches v

  abbrev bare_of : Value-F Reached → Value-F Value
  bare_of = map-Value Reached Value (λ e. e.0)

  all_reach : (all : List Reached) → map (moved one) (map (λ e. e.0) all) ≡ map (moved far) (map (λ e. e.0) all)
      → IsTrue (all_hold (map (like pairs) (map (moved one) (map (λ e. e.0) all))) (map (moved two) (map (λ e. e.0) all)))
  all_reach [] h = refl
  all_reach (e ∷ all) h =
      let here : moved one e.0 ≡ moved far e.0 = cc in
      let rest : map (moved one) (map (λ o. o.0) all) ≡ map (moved far) (map (λ o. o.0) all) = cc in both_and (like pairs (moved one e.0) (moved two e.0)) _ (e.1 here) (all_reach all rest)

  layer_reach : (y : Value-F Reached) → layer one (bare_of y) ≡ layer far (bare_of y) → IsTrue (like_layer pairs (map-Value Value (Value → Bool) (like pairs) (layer one (bare_of y))) (layer two (bare_of y)))
  layer_reach Value-F.None h = refl
  layer_reach (Value-F.Bool b) h = (booleans_Decides b b).1 refl
  layer_reach (Value-F.Int z) h = (Decides-int_eq z z).1 refl
  layer_reach (Value-F.Text t) h = (bytes_eq-Decides t t).1 refl
  layer_reach (Value-F.Tuple all) h = let items : map (moved one) (map (λ e. e.0) all) ≡ map (moved far) (map (λ e. e.0) all) = cc in all_reach all items
  layer_reach (Value-F.Range r) h = range_itself r
  layer_reach (Value-F.List id) h = let same : one.to id ≡ far.to id = cc in within id same
  layer_reach (Value-F.Dict id) h = let same : one.to id ≡ far.to id = cc in within id same
  layer_reach (Value-F.Function id) h = let same : one.to id ≡ far.to id = cc in within id same
  layer_reach (Value-F.Builtin which) h = (bytes_eq-Decides (builtin_name which) (builtin_name which)).1 refl

  opened : (x : Value-F Value) → moved one (roll-Value x) ≡ moved far (roll-Value x) → layer one x ≡ layer far x
  opened x h = sym (out-roll-Value (layer one x)) ∙ ap out-Value (sym (rolled one x) ∙ h ∙ rolled far x) ∙ out-roll-Value (layer far x)

  rolled_reach : (y : Value-F Reached) → Reaches (roll-Value (bare_of y))
  rolled_reach y h =
      let found = layer_reach y (opened (bare_of y) h) in
      subst IsTrue
      (sym ((λ j. like pairs (rolled one (bare_of y) j) (rolled two (bare_of y) j)) ∙ like_rolled pairs (layer one (bare_of y)) (roll-Value (layer two (bare_of y))) ∙ ap (like_layer pairs (map-Value Value (Value → Bool) (like pairs) (layer one (bare_of y)))) (out-roll-Value (layer two (bare_of y)))))
      found

  pub reached_like : (v : Value) → Reaches v
  reached_like = ind-Value Reaches (λ x y is. subst (λ z. Reaches (roll-Value z)) is (rolled_reach y))

  items_reach : (xs : List Value) → map (moved one) xs ≡ map (moved far) xs → IsTrue (like_items pairs (map (moved one) xs) (map (moved two) xs))
  items_reach [] h = refl
  items_reach (x ∷ xs) h =
      let here : moved one x ≡ moved far x = cc in
      let rest : map (moved one) xs ≡ map (moved far) xs = cc in both_and (like pairs (moved one x) (moved two x)) _ (reached_like x here) (items_reach xs rest)

  pairs_reach : (ps : List (Key × Value)) → map (pair_to one) ps ≡ map (pair_to far) ps → IsTrue (like_pairs pairs (map (pair_to one) ps) (map (pair_to two) ps))
  pairs_reach [] h = refl
  pairs_reach (p ∷ ps) h =
      let head : pair_to one p ≡ pair_to far p = cc in
      let rest : map (pair_to one) ps ≡ map (pair_to far) ps = cc in
      both_and (like_pair pairs (pair_to one p) (pair_to two p)) _ (both_and (same_key p.0 p.0) (like pairs (moved one p.1) (moved two p.1)) ((same_key-Decides p.0 p.0).1 refl) (reached_like p.1 (ap (λ q. q.1) head))) (pairs_reach ps rest)

  pub globals_reach : (gs : List (List ℕ × Value)) → map (entry_to one) gs ≡ map (entry_to far) gs → IsTrue (all_hold (map (like_global pairs) (map (entry_to one) gs)) (map (entry_to two) gs))
  globals_reach [] h = refl
  globals_reach (g ∷ gs) h =
      let head : entry_to one g ≡ entry_to far g = cc in
      let rest : map (entry_to one) gs ≡ map (entry_to far) gs = cc in
      both_and (like_global pairs (entry_to one g) (entry_to two g)) _ (both_and (bytes_eq g.0 g.0) (like pairs (moved one g.1) (moved two g.1)) ((bytes_eq-Decides g.0 g.0).1 refl) (reached_like g.1 (ap (λ q. q.1) head))) (globals_reach gs rest)

  pub object_reach : {C : Type 0} (o : Object C) → object_to one o ≡ object_to far o → LikeObjects pairs (object_to one o) (object_to two o)
  object_reach (AList xs) h = let items : map (moved one) xs ≡ map (moved far) xs = cc in items_reach xs items
  object_reach (ADict ps) h = let all : map (pair_to one) ps ≡ map (pair_to far) ps = cc in pairs_reach ps all
  object_reach (AFunction c n xs) h = let items : map (moved one) xs ≡ map (moved far) xs = cc in (refl, refl, items_reach xs items)
