-- The references of what was read are met in order, and are as many as there are objects where each names one.
use Rattle.std.proofs.Common.{◌≡◌, ℕ, ◌+◌, ◌<◌, ◌≤◌, Bool, true, false, List, [], ◌∷◌, ◌++◌, map, length, Option, Some, None, IsTrue, refl, sym, ap, subst, ◌∙◌, length-append, arith}
use Rattle.std.specs.Prelude.{◌==◌, if◌then◌else◌, nat_lt, slice_get}
use Rattle.std.specs.List.{AllByRecursion, flat_map, list_all}
use Rattle.std.proofs.lemmas.Bool.{eq-eqb, eqb-true, lt-ltb}
use Rattle.std.proofs.lemmas.Option.{slice_get_within}
use Rattle.star_value.specs.declared.key.Key.{Key}
use Rattle.star_value.specs.declared.value.Value.{Value, fold-roll-Value, ind-Value, map-Value, roll-Value}
use Rattle.star_value.specs.declared.value.Value.TheOpen.{Value-F}
use Rattle.star_value.specs.Keys.{value_of}
use Rattle.star_meaning.specs.Snapshot.{are_met, met_from, object_references, references, references_step}
use Rattle.star_meaning.specs.State.{Object, AList, ADict, AFunction}
use Rattle.star_meaning.specs.Validity.{all_in_object, all_in_pair, fits, fits_step, is_dict, is_function, is_list}
use Rattle.star_meaning.proofs.AlikeNumbers.{and_both, both_and, not_true}
use Rattle.snapshot_codec.proofs.Many.{Chain, met_over}
use Rattle.snapshot_codec.proofs.ReadObjects.{GlobalRead, Holds, ObjectRead, PairRead}
use Rattle.snapshot_codec.proofs.ReadValues.{ValueRead}

-- ---- what is met from an object, and from the globals

items_met : (front xs : List Value) (met now : ℕ) → Chain (ValueRead 64) front met xs now → met_from met (flat_map references xs) ≡ Some now
items_met front [] met now chain = ap (λ (n : ℕ). Some n) chain
items_met front (x ∷ xs) met now chain = met_over met (references x) (flat_map references xs) chain.0 chain.1.1 ∙ items_met (front ++ x ∷ []) xs chain.0 now chain.2

pairs_met : (front ps : List (Key × Value)) (met now : ℕ) → Chain PairRead front met ps now → met_from met (flat_map (λ pair. references pair.1) ps) ≡ Some now
pairs_met front [] met now chain = ap (λ (n : ℕ). Some n) chain
pairs_met front (p ∷ ps) met now chain = met_over met (references p.1) (flat_map (λ pair. references pair.1) ps) chain.0 chain.1.met_is ∙ pairs_met (front ++ p ∷ []) ps chain.0 now chain.2

object_met : (o : Object ℕ) (met now : ℕ) → Holds met o now → met_from met (object_references o) ≡ Some now
object_met (AList xs) met now h = items_met [] xs met now h
object_met (ADict ps) met now h = pairs_met [] ps met now h
object_met (AFunction c n xs) met now h = items_met [] xs met now h.2

pub globals_met : (front gs : List (List ℕ × Value)) (met now : ℕ) → Chain GlobalRead front met gs now → met_from met (flat_map (λ entry. references entry.1) gs) ≡ Some now
globals_met front [] met now chain = ap (λ (n : ℕ). Some n) chain
globals_met front (g ∷ gs) met now chain = met_over met (references g.1) (flat_map (λ entry. references entry.1) gs) chain.0 chain.1.met_is ∙ globals_met (front ++ g ∷ []) gs chain.0 now chain.2

-- ---- how many are met

-- none is forgotten
met_grows : (ids : List ℕ) (met now : ℕ) → met_from met ids ≡ Some now → met ≤ now
met_grows [] met now e = let same : met ≡ now = cc in omega (arith, same)
met_grows (id ∷ ids) met now e = by (nat_lt id met) (id == met) e (λ n f. met_grows ids n now f)
  where
    by : (t u : Bool) → (if t then met_from met ids else if u then met_from (met + 1) ids else None) ≡ Some now → ((n : ℕ) → met_from n ids ≡ Some now → n ≤ now) → met ≤ now
    by true u f k = k met f
    by false true f k = let more = k (met + 1) f in omega (arith, more)
    by false false f k = absurd cc

-- and no more than there are, where each is there
pub met_below : (n : ℕ) (ids : List ℕ) (met now : ℕ) → AllByRecursion (λ id. id < n) ids → met ≤ n → met_from met ids ≡ Some now → now ≤ n
met_below n [] met now all low e = let same : met ≡ now = cc in omega (arith, same, low)
met_below n (id ∷ ids) met now all low e = by (nat_lt id met) (id == met) refl e (λ k l f. met_below n ids k now all.1 l f)
  where
    by : (t u : Bool) → (id == met) ≡ u → (if t then met_from met ids else if u then met_from (met + 1) ids else None) ≡ Some now → ((k : ℕ) → k ≤ n → met_from k ids ≡ Some now → now ≤ n) → now ≤ n
    by true u is f k = k met low f
    by false true is f k = let same = eqb-true id met is in let here = all.0 in k (met + 1) (omega (arith, same, here)) f
    by false false is f k = absurd cc

-- ---- each reference of what fits names an object

module _ (os : List (Object ℕ)) where
  abbrev Within : List ℕ → Type 0
  Within ids = AllByRecursion (λ id. id < length os) ids

  joined : (is js : List ℕ) → Within is → Within js → Within (is ++ js)
  joined [] js h k = k
  joined (i ∷ is) js h k = (h.0, joined is js h.1 k)

  there : (test : Option (Object ℕ) → Bool) → test None ≡ false → (o : Option (Object ℕ)) (id : ℕ) → slice_get os id ≡ o → IsTrue (test o) → id < length os
  there test none (Some o) id e h = slice_get_within os id o e
  there test none None id e h = absurd (not_true (subst IsTrue none h))

  abbrev Named : Value → Type 0
  Named v = IsTrue (fits os v) → Within (references v)

  abbrev Known : Type 0
  Known = (v : Value) × Named v

  abbrev bare : Value-F Known → Value-F Value
  bare = map-Value Known Value (λ e. e.0)

  parts_named : (all : List Known) → IsTrue (list_all (λ b. b) (map (fits os) (map (λ e. e.0) all))) → Within (flat_map (λ ids. ids) (map references (map (λ e. e.0) all)))
  parts_named [] h = tt
  parts_named (e ∷ all) h = let both = and_both (fits os e.0) _ h in joined (references e.0) _ (e.1 both.0) (parts_named all both.1)

  layer_named : (y : Value-F Known) → IsTrue (fits_step os (map-Value Value Bool (fits os) (bare y))) → Within (references_step (map-Value Value (List ℕ) references (bare y)))
  layer_named (Value-F.Tuple all) h = parts_named all h
  layer_named (Value-F.List id) h = (there is_list refl (slice_get os id) id refl h, tt)
  layer_named (Value-F.Dict id) h = (there is_dict refl (slice_get os id) id refl h, tt)
  layer_named (Value-F.Function id) h = (there is_function refl (slice_get os id) id refl h, tt)
  layer_named Value-F.None h = tt
  layer_named (Value-F.Bool b) h = tt
  layer_named (Value-F.Int z) h = tt
  layer_named (Value-F.Text t) h = tt
  layer_named (Value-F.Range r) h = tt
  layer_named (Value-F.Builtin which) h = tt

  rolled_named : (y : Value-F Known) → Named (roll-Value (bare y))
  unfolding fits references
  rolled_named y h =
      subst Within (sym (fold-roll-Value (List ℕ) references_step (bare y))) (layer_named y (subst IsTrue (fold-roll-Value Bool (fits_step os) (bare y)) h))

  pub value_named : (v : Value) → Named v
  value_named = ind-Value Named (λ x y is. subst (λ z. Named (roll-Value z)) is (rolled_named y))

  items_named : (xs : List Value) → IsTrue (list_all (fits os) xs) → Within (flat_map references xs)
  items_named [] h = tt
  items_named (x ∷ xs) h = let both = and_both (fits os x) _ h in joined (references x) _ (value_named x both.0) (items_named xs both.1)

  pairs_named : (ps : List (Key × Value)) → IsTrue (list_all (all_in_pair (fits os)) ps) → Within (flat_map (λ pair. references pair.1) ps)
  pairs_named [] h = tt
  pairs_named (p ∷ ps) h =
      let both = and_both (all_in_pair (fits os) p) _ h in
      joined (references p.1) _ (value_named p.1 (and_both (fits os (value_of p.0)) (fits os p.1) both.0).1) (pairs_named ps both.1)

  pub object_named : (o : Object ℕ) → IsTrue (all_in_object (fits os) o) → Within (object_references o)
  object_named (AList xs) h = items_named xs h
  object_named (ADict ps) h = pairs_named ps h
  object_named (AFunction c n xs) h = items_named xs h

  pub globals_named : (gs : List (List ℕ × Value)) → IsTrue (list_all (λ g. fits os g.1) gs) → Within (flat_map (λ entry. references entry.1) gs)
  globals_named [] h = tt
  globals_named (g ∷ gs) h = let both = and_both (fits os g.1) _ h in joined (references g.1) _ (value_named g.1 both.0) (globals_named gs both.1)

  -- the last number met is below the count
  pub objects_below : (front all : List (Object ℕ)) (met last : ℕ) → met ≤ length os → IsTrue (list_all (all_in_object (fits os)) all) → Chain ObjectRead front met all last → last ≤ length os
  objects_below front [] met last low h chain = subst (λ (n : ℕ). n ≤ length os) chain low
  objects_below front (o ∷ all) met last low h chain =
      let both = and_both (all_in_object (fits os) o) _ h in
      let here = met_below (length os) (object_references o) met chain.0 (object_named o both.0) low (object_met o met chain.0 chain.1.1) in
      objects_below (front ++ o ∷ []) all chain.0 last here both.1 chain.2

-- each object was met, so as many were met as there are
pub objects_above : (front all : List (Object ℕ)) (met last : ℕ) → length front ≤ met → Chain ObjectRead front met all last → length front + length all ≤ last
objects_above front [] met last low chain = omega (arith, low, chain)
objects_above front (o ∷ all) met last low chain =
    let grown = met_grows (object_references o) met chain.0 (object_met o met chain.0 chain.1.1) in
    let here = chain.1.0 in
    let longer = length-append front (o ∷ []) in
    let more = objects_above (front ++ o ∷ []) all chain.0 last (omega (arith, grown, here, longer)) chain.2 in
    omega (arith, more, longer)

-- the objects are met in order, up to their count
pub objects_in_order : (front all : List (Object ℕ)) (met last : ℕ) → last ≡ length front + length all → Chain ObjectRead front met all last → are_met (length front) (Some met) all ≡ true
objects_in_order front [] met last count chain = eq-eqb (length front) met (let end = chain in omega (arith, count, end))
objects_in_order front (o ∷ all) met last count chain =
    let longer : length (front ++ o ∷ []) ≡ length front + 1 = length-append front (o ∷ []) in
    let more = objects_in_order (front ++ o ∷ []) all chain.0 last (omega (arith, count, longer)) chain.2 in
    let first : nat_lt (length front) met ≡ true = lt-ltb (length front) met chain.1.0 in
    let rest : are_met (length front + 1) (met_from met (object_references o)) all ≡ true =
    ap (λ (s : Option ℕ). are_met (length front + 1) s all) (object_met o met chain.0 chain.1.1) ∙ ap (λ (n : ℕ). are_met n (Some chain.0) all) (sym longer) ∙ more in
    both_and (nat_lt (length front) met) (are_met (length front + 1) (met_from met (object_references o)) all) first rest
