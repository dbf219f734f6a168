-- A valid state that is numbered as its objects are met is one that may be read.
use Rattle.std.proofs.Common.{◌≡◌, ℕ, suc, ◌+◌, ◌-◌, ◌^◌, ◌<◌, ◌≤◌, Bool, true, false, not, ◌||◌, cond, List, [], ◌∷◌, ◌++◌, length, Option, Some, None, IsTrue, refl, sym, ap, subst, ◌∙◌, append_assoc, length-append, arith}
use Rattle.std.specs.Prelude.{◌&&◌, is_some, nat_le, nat_lt, slice_get}
use Rattle.std.specs.List.{AllByRecursion, flat_map, list_all, list_any}
use Rattle.std.specs.List.Sorted.{IsStrictlySortedBy}
use Rattle.std.specs.Map.{keys_of}
use Rattle.std.specs.Ordering.{is_lt}
use Rattle.std.specs.Str.{all_scalars}
use Rattle.std.proofs.lemmas.Bool.{eqb-true, leb-true, ltb-true}
use Rattle.chex_base.specs.TextOrder.{text_cmp}
use Rattle.star_syntax.specs.declared.cell.Program.{Program}
use Rattle.star_syntax.specs.Cells.{numbered}
use Rattle.star_value.specs.declared.key.Key.{Key}
use Rattle.star_value.specs.declared.value.Value.{Value}
use Rattle.star_value.specs.KeyLaws.{same_key_equiv}
use Rattle.star_value.specs.KeyOrder.{same_key}
use Rattle.star_value.specs.Keys.{value_of}
use Rattle.star_value.specs.Weight.{depth}
use Rattle.star_meaning.specs.Snapshot.{are_met, is_canonical, met_from, object_references, references, state_bytes}
use Rattle.star_meaning.specs.State.{Object, AList, ADict, AFunction, dict_get}
use Rattle.star_meaning.specs.Validity.{IsValid, MachineState, all_in, all_in_object, all_in_pair, are_distinct, fits, has_32_bits, has_distinct_keys, has_small_numbers, is_defined, is_proper}
use Rattle.star_meaning.proofs.AlikeNumbers.{and_both, both_and, not_true}
use Rattle.snapshot_codec.specs.Reading.{refers, rises}
use Rattle.snapshot_codec.proofs.Forms.{plain}
use Rattle.snapshot_codec.proofs.KeyValues.{key_bare}
use Rattle.snapshot_codec.proofs.Many.{Chain, met_split}
use Rattle.snapshot_codec.proofs.ReadAgain.{apart}
use Rattle.snapshot_codec.proofs.ReadNumbers.{globals_named, object_named}
use Rattle.snapshot_codec.proofs.ReadObjects.{GlobalRead, Holds, NodeRead, ObjectRead, PairRead}
use Rattle.snapshot_codec.proofs.ReadStates.{StateRead}
use Rattle.snapshot_codec.proofs.ReadValues.{IsFine, ValueRead}

abbrev Small : List ℕ → Type 0
Small ids = AllByRecursion (λ id. id < 2 ^ 32) ids

small_of : (n : ℕ) → n ≤ 2 ^ 32 → (ids : List ℕ) → AllByRecursion (λ id. id < n) ids → Small ids
small_of n low [] h = tt
small_of n low (id ∷ ids) h = let here = h.0 in (omega (arith, here, low), small_of n low ids h.1)

-- ---- values

proper_fine : (v : Value) → IsTrue (is_proper v) → Small (references v) → IsFine 64 v
unfolding is_proper
proper_fine v h ids = let both = and_both (nat_le (depth v) 64) (plain v) h in record { plain_is = both.1; deep = leb-true (depth v) 64 both.0; ids = ids }

values_chain : (front xs : List Value) (met now : ℕ) → IsTrue (list_all is_proper xs) → Small (flat_map references xs) → met_from met (flat_map references xs) ≡ Some now → Chain (ValueRead 64) front met xs now
values_chain front [] met now h ids e = let same : met ≡ now = cc in same
values_chain front (x ∷ xs) met now h ids e =
    let both = and_both (is_proper x) (list_all is_proper xs) h in
    let split = apart (references x) (flat_map references xs) ids in
    let m = met_split met (references x) (flat_map references xs) now e in
    (m.0, (proper_fine x both.0 split.0, m.1), values_chain (front ++ x ∷ []) xs m.0 now both.1 split.1 m.2)

-- ---- dicts

not_any : {A : Type 0} (test : A → Bool) (xs : List A) (p : A) (ys : List A) → IsTrue (not (list_any test (xs ++ p ∷ ys))) → test p ≡ false
not_any test [] p ys h = by (test p) (list_any test ys) h
  where
    by : (t u : Bool) → IsTrue (not (t || u)) → t ≡ false
    by true u k = absurd (not_true k)
    by false u k = refl
not_any test (x ∷ xs) p ys h = by (test x) (list_any test (xs ++ p ∷ ys)) h (λ k. not_any test xs p ys k)
  where
    by : (t u : Bool) → IsTrue (not (t || u)) → (IsTrue (not u) → test p ≡ false) → test p ≡ false
    by true u k f = absurd (not_true k)
    by false u k f = f k

pub absent_in : (front : List (Key × Value)) (p : Key × Value) (ps : List (Key × Value)) → IsTrue (are_distinct (front ++ p ∷ ps)) → is_some (dict_get front p.0) ≡ false
unfolding dict_get
absent_in [] p ps h = refl
absent_in (q ∷ front) p ps h =
    let both = and_both (not (list_any (λ other. same_key q.0 other.0) (front ++ p ∷ ps))) (are_distinct (front ++ p ∷ ps)) h in
    let other : same_key p.0 q.0 ≡ false = same_key_equiv.symm p.0 q.0 ∙ not_any (λ (other : Key × Value). same_key q.0 other.0) front p ps both.0 in
    ap (λ (t : Bool). is_some (cond t (Some q.1) (dict_get front p.0))) other ∙ absent_in front p ps both.1

pairs_chain : (front ps : List (Key × Value)) (met now : ℕ) → IsTrue (list_all (all_in_pair is_proper) ps) → IsTrue (are_distinct (front ++ ps)) → Small (flat_map (λ pair. references pair.1) ps)
    → met_from met (flat_map (λ pair. references pair.1) ps) ≡ Some now → Chain PairRead front met ps now
pairs_chain front [] met now h distinct ids e = let same : met ≡ now = cc in same
pairs_chain front (p ∷ ps) met now h distinct ids e =
    let both = and_both (all_in_pair is_proper p) (list_all (all_in_pair is_proper) ps) h in
    let here = and_both (is_proper (value_of p.0)) (is_proper p.1) both.0 in
    let split = apart (references p.1) (flat_map (λ pair. references pair.1) ps) ids in
    let m = met_split met (references p.1) (flat_map (λ pair. references pair.1) ps) now e in (
      m.0,
      record {
        key_fine = proper_fine (value_of p.0) here.0 (subst Small (sym (key_bare p.0)) tt);
        value_fine = proper_fine p.1 here.1 split.0;
        new = absent_in front p ps distinct;
        met_is = m.1;
      },
      pairs_chain (front ++ p ∷ []) ps m.0 now both.1 (subst (λ (x : List (Key × Value)). IsTrue (are_distinct x)) (sym (append_assoc front (p ∷ []) ps)) distinct) split.1 m.2,
    )

-- ---- objects

holds_of : (o : Object ℕ) (met now : ℕ) → IsTrue (all_in_object is_proper o) → IsTrue (has_small_numbers o) → IsTrue (has_distinct_keys o) → Small (object_references o) → met_from met (object_references o) ≡ Some now → Holds met o now
holds_of (AList xs) met now h n d ids e = values_chain [] xs met now h ids e
holds_of (ADict ps) met now h n d ids e = pairs_chain [] ps met now h d ids e
holds_of (AFunction c k xs) met now h n d ids e =
    let both = and_both (has_32_bits c) (has_32_bits k) n in (ltb-true c (2 ^ 32) both.0, ltb-true k (2 ^ 32) both.1, values_chain [] xs met now h ids e)

module _ (all : List (Object ℕ)) (low : length all ≤ 2 ^ 32) where
  objects_chain : (front os : List (Object ℕ)) (met : ℕ) → IsTrue (list_all (all_in_object is_proper) os) → IsTrue (list_all has_small_numbers os) → IsTrue (list_all has_distinct_keys os)
      → IsTrue (list_all (all_in_object (fits all)) os) → are_met (length front) (Some met) os ≡ true → Chain ObjectRead front met os (length front + length os)
  objects_chain front [] met h n d f e = let same = eqb-true (length front) met e in omega (arith, same)
  objects_chain front (o ∷ os) met h n d f e =
      let one = and_both (all_in_object is_proper o) (list_all (all_in_object is_proper) os) h in
      let two = and_both (has_small_numbers o) (list_all has_small_numbers os) n in
      let three = and_both (has_distinct_keys o) (list_all has_distinct_keys os) d in
      let four = and_both (all_in_object (fits all) o) (list_all (all_in_object (fits all)) os) f in
      let met_here = and_both (nat_lt (length front) met) (are_met (length front + 1) (met_from met (object_references o)) os) e in
      let longer : length (front ++ o ∷ []) ≡ length front + 1 = length-append front (o ∷ []) in
      let ids = small_of (length all) low (object_references o) (object_named all o four.0) in
      by (met_from met (object_references o)) refl met_here.1 (ltb-true (length front) met met_here.0) one.0 two.0 three.0 ids longer
      (λ m k. objects_chain (front ++ o ∷ []) os m one.1 two.1 three.1 four.1 (ap (λ (i : ℕ). are_met i (Some m) os) longer ∙ k))
    where
      by : (s : Option ℕ) → met_from met (object_references o) ≡ s → are_met (length front + 1) s os ≡ true → length front < met → IsTrue (all_in_object is_proper o) → IsTrue (has_small_numbers o) → IsTrue (has_distinct_keys o)
          → Small (object_references o) → length (front ++ o ∷ []) ≡ length front + 1
          → ((m : ℕ) → are_met (length front + 1) (Some m) os ≡ true → Chain ObjectRead (front ++ o ∷ []) m os (length (front ++ o ∷ []) + length os)) → Chain ObjectRead front met (o ∷ os) (length front + length (o ∷ os))
      by None is k below h n d ids longer rest = absurd (not_true k)
      by (Some m) is k below h n d ids longer rest =
          let count : length (front ++ o ∷ []) + length os ≡ length front + suc (length os) = omega (arith, longer) in
          (m, (below, holds_of o met m h n d ids is), subst (Chain ObjectRead (front ++ o ∷ []) m os) count (rest m k))

-- ---- nodes and globals

nodes_chain : (front ids : List ℕ) (met : ℕ) → IsTrue (list_all has_32_bits ids) → Chain NodeRead front met ids met
nodes_chain front [] met h = refl
nodes_chain front (id ∷ ids) met h = let both = and_both (has_32_bits id) (list_all has_32_bits ids) h in (met, (ltb-true id (2 ^ 32) both.0, refl), nodes_chain (front ++ id ∷ []) ids met both.1)

abbrev Globals : Type 0
Globals = List (List ℕ × Value)

last_below : (front : Globals) (g : List ℕ × Value) (gs : Globals) → IsStrictlySortedBy text_cmp (keys_of (front ++ g ∷ gs)) → rises (slice_get front (length front - 1)) g.0 ≡ true
unfolding IsStrictlySortedBy
last_below [] g gs rising = refl
last_below (f ∷ []) g gs rising =
    let at : length (f ∷ []) - 1 ≡ 0 = omega arith in ap (λ (i : ℕ). rises (slice_get (f ∷ []) i) g.0) at ∙ ap is_lt rising.0.0
last_below (f ∷ h ∷ fs) g gs rising =
    let at : length (f ∷ h ∷ fs) - 1 ≡ suc (length (h ∷ fs) - 1) = omega arith in ap (λ (i : ℕ). rises (slice_get (f ∷ h ∷ fs) i) g.0) at ∙ last_below (h ∷ fs) g gs rising.1

globals_chain : (front gs : Globals) (met now : ℕ) → IsTrue (list_all (λ g. is_proper g.1) gs) → IsTrue (list_all all_scalars (keys_of gs)) → IsStrictlySortedBy text_cmp (keys_of (front ++ gs)) → Small (flat_map (λ entry. references entry.1) gs)
    → met_from met (flat_map (λ entry. references entry.1) gs) ≡ Some now → Chain GlobalRead front met gs now
globals_chain front [] met now h c rising ids e = let same : met ≡ now = cc in same
globals_chain front (g ∷ gs) met now h c rising ids e =
    let both = and_both (is_proper g.1) (list_all (λ g. is_proper g.1) gs) h in
    let name = and_both (all_scalars g.0) (list_all all_scalars (keys_of gs)) c in
    let split = apart (references g.1) (flat_map (λ entry. references entry.1) gs) ids in
    let m = met_split met (references g.1) (flat_map (λ entry. references entry.1) gs) now e in (
      m.0,
      record {
        characters = name.0;
        higher = last_below front g gs rising;
        value_fine = proper_fine g.1 both.0 split.0;
        met_is = m.1;
      },
      globals_chain (front ++ g ∷ []) gs m.0 now both.1 name.1 (subst (λ (x : Globals). IsStrictlySortedBy text_cmp (keys_of x)) (sym (append_assoc front (g ∷ []) gs)) rising) split.1 m.2,
    )

-- ---- the whole

pub valid_read : (program : Program) (m : MachineState) → IsValid program m → IsTrue (is_canonical m) → StateRead (state_bytes m) m
valid_read program m valid canonical = by (met_from 0 (flat_map (λ entry. references entry.1) m.state.globals)) refl canonical
  where
    by : (s : Option ℕ) → met_from 0 (flat_map (λ entry. references entry.1) m.state.globals) ≡ s → are_met 0 s m.state.objects ≡ true → StateRead (state_bytes m) m
    by None is e = absurd (not_true e)
    by (Some met) is e =
        let os = m.state.objects in
        let kept = valid.kept in
        let few = kept.few in
        let room = kept.room in
        let low : length os ≤ 2 ^ 32 = omega (arith, few, room) in
        let proper = and_both (list_all (λ g. is_proper g.1) m.state.globals) (list_all (all_in_object is_proper) os) valid.values in
        let named = and_both (list_all (λ g. fits os g.1) m.state.globals) (list_all (all_in_object (fits os)) os) kept.references in
        record {
          bytes_are = refl;
          end = 0;
          ran = nodes_chain [] m.ran 0 kept.nodes;
          few = kept.few;
          met = met;
          globals = globals_chain [] m.state.globals 0 met proper.0 kept.characters kept.names (small_of (length os) low _ (globals_named os m.state.globals named.0)) is;
          last = 0 + length os;
          objects = objects_chain os low [] os met proper.1 kept.numbers kept.keys named.1 e;
          room = kept.room;
        }

pub valid_refers : (program : Program) (m : MachineState) → IsValid program m → IsTrue (refers program m)
unfolding refers
valid_refers program m valid =
    let os = m.state.objects in
    let kept = valid.kept in
    both_and (all_in (fits os) m.state) (list_all (λ node. is_some (numbered program.cells node)) m.ran && list_all (is_defined program m.ran) os) kept.references
    (both_and (list_all (λ node. is_some (numbered program.cells node)) m.ran) (list_all (is_defined program m.ran) os) valid.nodes valid.functions)
