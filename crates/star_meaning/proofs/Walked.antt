-- The order in which objects are met, as the walk that meets them.
use Rattle.std.proofs.Common.{◌≡◌, ◌<◌, ◌+◌, ℕ, suc, Bool, true, false, List, [], ◌∷◌, ◌++◌, map, length, IsTrue, refl, sym, ap, arith, subst, ◌∙◌, append_assoc, append-nil, length-append}
use Rattle.std.proofs.lemmas.Bool.Decides.{Decides-eqb, nat_tests}
use Rattle.std.specs.List.{flat_map}
use Rattle.std.specs.Prelude.{◌==◌, ◌||◌, nat_lt, if◌then◌else◌, Some, None}
use Rattle.star_value.specs.declared.key.Key.{Key}
use Rattle.star_value.specs.declared.value.Value.{Value, fold-roll-Value, ind-Value, map-Value, roll-Value}
use Rattle.star_value.specs.declared.value.Value.TheOpen.{Value-F}
use Rattle.star_meaning.specs.State.{Object, AList, ADict, AFunction}
use Rattle.star_meaning.specs.Values.{has}
use Rattle.star_meaning.specs.Snapshot.{met_from, object_references, references, references_step}
use Rattle.star_meaning.proofs.MovedValues.{Moving, entry_to, layer, moved, object_to, pair_to, rolled}
use Rattle.star_meaning.proofs.AlikeNumbers.{not_true, place}

-- ---- references of a value with other numbers

map_over : (f : ℕ → ℕ) (xs ys : List ℕ) → map f (xs ++ ys) ≡ map f xs ++ map f ys
map_over f [] ys = refl
map_over f (x ∷ xs) ys = ap (λ rest. f x ∷ rest) (map_over f xs ys)

abbrev pub layer_references : Value-F Value → List ℕ
layer_references x = references_step (map-Value Value (List ℕ) references x)

pub rolled_references : (x : Value-F Value) → references (roll-Value x) ≡ layer_references x
unfolding references
rolled_references x = fold-roll-Value (List ℕ) references_step x

module _ (mv : Moving) where
  abbrev Renumbered : Value → Type 0
  Renumbered v = references (moved mv v) ≡ map mv.to (references v)

  abbrev Known : Type 0
  Known = (v : Value) × Renumbered v

  abbrev bare : Value-F Known → Value-F Value
  bare = map-Value Known Value (λ e. e.0)

  parts_renumbered : (all : List Known) → flat_map (λ ids. ids) (map references (map (moved mv) (map (λ e. e.0) all))) ≡ map mv.to (flat_map (λ ids. ids) (map references (map (λ e. e.0) all)))
  parts_renumbered [] = refl
  parts_renumbered (e ∷ all) =
      (λ i. e.1 i ++ parts_renumbered all i) ∙ sym (map_over mv.to (references e.0) (flat_map (λ ids. ids) (map references (map (λ f. f.0) all))))

  layer_renumbered : (y : Value-F Known) → layer_references (layer mv (bare y)) ≡ map mv.to (layer_references (bare y))
  layer_renumbered Value-F.None = refl
  layer_renumbered (Value-F.Bool b) = refl
  layer_renumbered (Value-F.Int z) = refl
  layer_renumbered (Value-F.Text t) = refl
  layer_renumbered (Value-F.Tuple all) = parts_renumbered all
  layer_renumbered (Value-F.Range r) = refl
  layer_renumbered (Value-F.List id) = refl
  layer_renumbered (Value-F.Dict id) = refl
  layer_renumbered (Value-F.Function id) = refl
  layer_renumbered (Value-F.Builtin which) = refl

  rolled_renumbered : (y : Value-F Known) → Renumbered (roll-Value (bare y))
  rolled_renumbered y = ap references (rolled mv (bare y)) ∙ rolled_references (layer mv (bare y)) ∙ layer_renumbered y ∙ ap (map mv.to) (sym (rolled_references (bare y)))

  pub value_renumbered : (v : Value) → Renumbered v
  value_renumbered = ind-Value Renumbered (λ x y is. subst (λ z. Renumbered (roll-Value z)) is (rolled_renumbered y))

  -- and so of lists of what has values
  flat_renumbered : {A : Type 0} (f : A → List ℕ) (g : A → A) → ((a : A) → f (g a) ≡ map mv.to (f a)) → (xs : List A) → flat_map f (map g xs) ≡ map mv.to (flat_map f xs)
  flat_renumbered f g h [] = refl
  flat_renumbered f g h (x ∷ xs) = (λ i. h x i ++ flat_renumbered f g h xs i) ∙ sym (map_over mv.to (f x) (flat_map f xs))

  pub object_renumbered : {C : Type 0} (o : Object C) → object_references (object_to mv o) ≡ map mv.to (object_references o)
  object_renumbered (AList xs) = flat_renumbered {A = Value} references (moved mv) value_renumbered xs
  object_renumbered (ADict ps) = flat_renumbered {A = Key × Value} (λ pair. references pair.1) (pair_to mv) (λ pair. value_renumbered pair.1) ps
  object_renumbered (AFunction c n xs) = flat_renumbered {A = Value} references (moved mv) value_renumbered xs

  pub globals_renumbered : (gs : List (List ℕ × Value)) → flat_map (λ entry. references entry.1) (map (entry_to mv) gs) ≡ map mv.to (flat_map (λ entry. references entry.1) gs)
  globals_renumbered gs = flat_renumbered {A = List ℕ × Value} (λ entry. references entry.1) (entry_to mv) (λ entry. value_renumbered entry.1) gs

-- ---- numbers that are met one after another

-- those met before, and then each new one
abbrev pub met_after : List ℕ → List ℕ → List ℕ
met_after met [] = met
met_after met (id ∷ ids) = met_after (if has met id then met else met ++ id ∷ []) ids

-- what was met stays in front
pub met_grows : (met ids : List ℕ) → (more : List ℕ) × (met_after met ids ≡ met ++ more)
met_grows met [] = ([], sym (append-nil met))
met_grows met (id ∷ ids) = by (has met id) (λ m. met_grows m ids)
  where
    by : (t : Bool) → ((m : List ℕ) → (more : List ℕ) × (met_after m ids ≡ m ++ more)) → (more : List ℕ) × (met_after (if t then met else met ++ id ∷ []) ids ≡ met ++ more)
    by true k = k met
    by false k = let rest = k (met ++ id ∷ []) in (id ∷ rest.0, rest.1 ∙ append_assoc met (id ∷ []) rest.0)

pub place_before : (xs ys : List ℕ) (id : ℕ) → IsTrue (has xs id) → place (xs ++ ys) id < length xs
place_before [] ys id h = absurd (not_true h)
place_before (x ∷ xs) ys id h = by (x == id) refl (place_before xs ys id) h
  where
    by : (t : Bool) → (x == id) ≡ t → (IsTrue (has xs id) → place (xs ++ ys) id < length xs) → IsTrue (t || has xs id) → (if t then 0 else suc (place (xs ++ ys) id)) < suc (length xs)
    by true e k g = omega arith
    by false e k g = let rest = k g in omega (arith, rest)

place_next : (xs ys : List ℕ) (id : ℕ) → has xs id ≡ false → place (xs ++ id ∷ ys) id ≡ length xs
place_next [] ys id h = ap (λ t. if t then 0 else suc (place ys id)) ((Decides-eqb id id).1 refl)
place_next (x ∷ xs) ys id h = by (x == id) (place_next xs ys id) h
  where
    by : (t : Bool) → (has xs id ≡ false → place (xs ++ id ∷ ys) id ≡ length xs) → (t || has xs id) ≡ false → (if t then 0 else suc (place (xs ++ id ∷ ys) id)) ≡ suc (length xs)
    by true k g = absurd (not_true (sym g))
    by false k g = ap suc (k g)

-- Numbers that are met, by their places among all that are met in the end, are read in order.
pub met_in_order : (all met ids rest : List ℕ) → met_after met ids ++ rest ≡ all → met_from (length met) (map (place all) ids) ≡ Some (length (met_after met ids))
met_in_order all met [] rest e = refl
met_in_order all met (id ∷ ids) rest e = by (has met id) refl e (λ m g. met_in_order all m ids rest g)
  where
    longer : length met + 1 ≡ length (met ++ id ∷ [])
    longer = let both = length-append met (id ∷ []) in omega (arith, both)

    by : (t : Bool) → has met id ≡ t → met_after (if t then met else met ++ id ∷ []) ids ++ rest ≡ all → ((m : List ℕ) → met_after m ids ++ rest ≡ all → met_from (length m) (map (place all) ids) ≡ Some (length (met_after m ids)))
        → met_from (length met) (place all id ∷ map (place all) ids) ≡ Some (length (met_after (if t then met else met ++ id ∷ []) ids))
    by true f g k =
        let more = met_grows met ids in
        let split : met ++ (more.0 ++ rest) ≡ all = sym (append_assoc met more.0 rest) ∙ ap (λ xs. xs ++ rest) (sym more.1) ∙ g in
        let low : place all id < length met = subst (λ xs. place xs id < length met) split (place_before met (more.0 ++ rest) id f) in
        let test : nat_lt (place all id) (length met) ≡ true = grind (arith, nat_tests, low) in
        ap (λ t. if t then met_from (length met) (map (place all) ids) else if place all id == length met then met_from (length met + 1) (map (place all) ids) else None) test ∙ k met g
    by false f g k =
        let more = met_grows (met ++ id ∷ []) ids in
        let split : met ++ (id ∷ (more.0 ++ rest)) ≡ all =
        sym (append_assoc met (id ∷ []) (more.0 ++ rest)) ∙ sym (append_assoc (met ++ id ∷ []) more.0 rest) ∙ ap (λ xs. xs ++ rest) (sym more.1) ∙ g in
        let here : place all id ≡ length met = subst (λ xs. place xs id ≡ length met) split (place_next met (more.0 ++ rest) id f) in
        let test : nat_lt (place all id) (length met) ≡ false = grind (arith, nat_tests, here) in
        let same : (place all id == length met) ≡ true = (Decides-eqb (place all id) (length met)).1 here in
        ap (λ t. if t then met_from (length met) (map (place all) ids) else if place all id == length met then met_from (length met + 1) (map (place all) ids) else None) test
        ∙ ap (λ t. if t then met_from (length met + 1) (map (place all) ids) else None) same ∙ ap (λ n. met_from n (map (place all) ids)) longer ∙ k (met ++ id ∷ []) g
