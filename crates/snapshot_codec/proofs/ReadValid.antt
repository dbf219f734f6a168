-- A state that was read, and whose numbers name something of their kind, is valid and numbered as its objects are met.
use Rattle.std.proofs.Common.{◌≡◌, ℕ, suc, ◌+◌, ◌-◌, ◌^◌, ◌<◌, ◌≤◌, true, false, List, [], ◌∷◌, ◌++◌, length, Option, Some, None, IsTrue, refl, sym, ap, subst, ◌∙◌, append_assoc, append-nil, arith}
use Rattle.std.specs.Prelude.{◌&&◌, is_some, nat_le, slice_get}
use Rattle.std.specs.List.{AllByRecursion, list_all}
use Rattle.std.specs.List.Sorted.{IsStrictlySortedBy}
use Rattle.std.specs.Map.{keys_of}
use Rattle.std.specs.Ordering.{is_lt}
use Rattle.std.specs.Str.{all_scalars}
use Rattle.std.specs.declared.cmp.Ordering.{Ordering}
use Rattle.std.specs.declared.cmp.Ordering.TheVariants.{Less, Equal, Greater}
use Rattle.std.proofs.lemmas.Bool.{le-leb, lt-ltb}
use Rattle.std.proofs.lemmas.Cmp.{nat_list_cmp_total}
use Rattle.chex_base.specs.TextOrder.{text_cmp}
use Rattle.heap_store.proofs.PairLemmas.{distinct_put}
use Rattle.star_syntax.specs.declared.cell.Program.{Program}
use Rattle.star_syntax.specs.Cells.{numbered}
use Rattle.star_value.specs.declared.key.Key.{Key}
use Rattle.star_value.specs.declared.value.Value.{Value}
use Rattle.star_value.specs.Keys.{value_of}
use Rattle.star_value.specs.Weight.{depth}
use Rattle.star_meaning.specs.Snapshot.{are_met, is_canonical}
use Rattle.star_meaning.specs.State.{Object, AList, ADict, AFunction, dict_get, dict_put}
use Rattle.star_meaning.specs.Validity.{IsValid, MachineState, all_in, all_in_object, all_in_pair, are_distinct, fits, has_32_bits, has_distinct_keys, has_small_numbers, is_defined, is_proper}
use Rattle.star_meaning.proofs.AlikeNumbers.{and_both, both_and}
use Rattle.snapshot_codec.specs.Reading.{refers, rises}
use Rattle.snapshot_codec.proofs.Forms.{plain}
use Rattle.snapshot_codec.proofs.Many.{Chain}
use Rattle.snapshot_codec.proofs.Putting.{put_new}
use Rattle.snapshot_codec.proofs.ReadNumbers.{globals_met, globals_named, met_below, objects_above, objects_below, objects_in_order}
use Rattle.snapshot_codec.proofs.ReadObjects.{GlobalRead, Holds, NodeRead, ObjectRead, PairRead}
use Rattle.snapshot_codec.proofs.ReadStates.{StateRead}
use Rattle.snapshot_codec.proofs.ReadValues.{IsFine, ValueRead}

-- ---- values are proper

fine_proper : (v : Value) → IsFine 64 v → IsTrue (is_proper v)
unfolding is_proper
fine_proper v fine = both_and (nat_le (depth v) 64) (plain v) (le-leb (depth v) 64 fine.deep) fine.plain_is

items_proper : (front xs : List Value) (met now : ℕ) → Chain (ValueRead 64) front met xs now → IsTrue (list_all is_proper xs)
items_proper front [] met now chain = refl
items_proper front (x ∷ xs) met now chain = both_and (is_proper x) (list_all is_proper xs) (fine_proper x chain.1.0) (items_proper (front ++ x ∷ []) xs chain.0 now chain.2)

pairs_proper : (front ps : List (Key × Value)) (met now : ℕ) → Chain PairRead front met ps now → IsTrue (list_all (all_in_pair is_proper) ps)
pairs_proper front [] met now chain = refl
pairs_proper front (p ∷ ps) met now chain =
    both_and (all_in_pair is_proper p) (list_all (all_in_pair is_proper) ps) (both_and (is_proper (value_of p.0)) (is_proper p.1) (fine_proper (value_of p.0) chain.1.key_fine) (fine_proper p.1 chain.1.value_fine))
    (pairs_proper (front ++ p ∷ []) ps chain.0 now chain.2)

object_proper : (o : Object ℕ) (met now : ℕ) → Holds met o now → IsTrue (all_in_object is_proper o)
object_proper (AList xs) met now h = items_proper [] xs met now h
object_proper (ADict ps) met now h = pairs_proper [] ps met now h
object_proper (AFunction c n xs) met now h = items_proper [] xs met now h.2

objects_proper : (front os : List (Object ℕ)) (met now : ℕ) → Chain ObjectRead front met os now → IsTrue (list_all (all_in_object is_proper) os)
objects_proper front [] met now chain = refl
objects_proper front (o ∷ os) met now chain =
    both_and (all_in_object is_proper o) (list_all (all_in_object is_proper) os) (object_proper o met chain.0 chain.1.1) (objects_proper (front ++ o ∷ []) os chain.0 now chain.2)

globals_proper : (front gs : List (List ℕ × Value)) (met now : ℕ) → Chain GlobalRead front met gs now → IsTrue (list_all (λ g. is_proper g.1) gs)
globals_proper front [] met now chain = refl
globals_proper front (g ∷ gs) met now chain = both_and (is_proper g.1) (list_all (λ g. is_proper g.1) gs) (fine_proper g.1 chain.1.value_fine) (globals_proper (front ++ g ∷ []) gs chain.0 now chain.2)

-- ---- numbers are small

small : (n : ℕ) → n < 2 ^ 32 → IsTrue (has_32_bits n)
small n lt = lt-ltb n (2 ^ 32) lt

nodes_small : (front ids : List ℕ) (met now : ℕ) → Chain NodeRead front met ids now → IsTrue (list_all has_32_bits ids)
nodes_small front [] met now chain = refl
nodes_small front (id ∷ ids) met now chain = both_and (has_32_bits id) (list_all has_32_bits ids) (small id chain.1.0) (nodes_small (front ++ id ∷ []) ids chain.0 now chain.2)

object_small : (o : Object ℕ) (met now : ℕ) → Holds met o now → IsTrue (has_small_numbers o)
object_small (AList xs) met now h = refl
object_small (ADict ps) met now h = refl
object_small (AFunction c n xs) met now h = both_and (has_32_bits c) (has_32_bits n) (small c h.0) (small n h.1)

objects_small : (front os : List (Object ℕ)) (met now : ℕ) → Chain ObjectRead front met os now → IsTrue (list_all has_small_numbers os)
objects_small front [] met now chain = refl
objects_small front (o ∷ os) met now chain = both_and (has_small_numbers o) (list_all has_small_numbers os) (object_small o met chain.0 chain.1.1) (objects_small (front ++ o ∷ []) os chain.0 now chain.2)

-- ---- keys are distinct

absent : {A : Type 0} (o : Option A) → is_some o ≡ false → o ≡ None
absent None e = refl
absent (Some a) e = absurd cc

pairs_distinct : (front ps : List (Key × Value)) (met now : ℕ) → IsTrue (are_distinct front) → Chain PairRead front met ps now → IsTrue (are_distinct (front ++ ps))
pairs_distinct front [] met now h chain = subst (λ (x : List (Key × Value)). IsTrue (are_distinct x)) (sym (append-nil front)) h
pairs_distinct front (p ∷ ps) met now h chain =
    let put : dict_put front p.0 p.1 ≡ front ++ p ∷ [] = put_new front p.0 p.1 (absent (dict_get front p.0) chain.1.new) in
    let more = subst (λ (x : List (Key × Value)). IsTrue (are_distinct x)) put (distinct_put p.0 p.1 front h) in
    subst (λ (x : List (Key × Value)). IsTrue (are_distinct x)) (append_assoc front (p ∷ []) ps) (pairs_distinct (front ++ p ∷ []) ps chain.0 now more chain.2)

object_distinct : (o : Object ℕ) (met now : ℕ) → Holds met o now → IsTrue (has_distinct_keys o)
object_distinct (AList xs) met now h = refl
object_distinct (ADict ps) met now h = pairs_distinct [] ps met now refl h
object_distinct (AFunction c n xs) met now h = refl

objects_distinct : (front os : List (Object ℕ)) (met now : ℕ) → Chain ObjectRead front met os now → IsTrue (list_all has_distinct_keys os)
objects_distinct front [] met now chain = refl
objects_distinct front (o ∷ os) met now chain = both_and (has_distinct_keys o) (list_all has_distinct_keys os) (object_distinct o met chain.0 chain.1.1) (objects_distinct (front ++ o ∷ []) os chain.0 now chain.2)

-- ---- names rise

names_fine : (front gs : List (List ℕ × Value)) (met now : ℕ) → Chain GlobalRead front met gs now → IsTrue (list_all all_scalars (keys_of gs))
names_fine front [] met now chain = refl
names_fine front (g ∷ gs) met now chain = both_and (all_scalars g.0) (list_all all_scalars (keys_of gs)) chain.1.characters (names_fine (front ++ g ∷ []) gs chain.0 now chain.2)

less_is : (o : Ordering) → is_lt o ≡ true → o ≡ Less
less_is Less e = refl
less_is Equal e = absurd cc
less_is Greater e = absurd cc

abbrev Globals : Type 0
Globals = List (List ℕ × Value)

-- a name above the last one is above all
above_all : (gs : Globals) (name : List ℕ) → IsStrictlySortedBy text_cmp (keys_of gs) → rises (slice_get gs (length gs - 1)) name ≡ true → AllByRecursion (λ y. text_cmp y name ≡ Less) (keys_of gs)
unfolding IsStrictlySortedBy
above_all [] name rising e = tt
above_all (g ∷ []) name rising e = (less_is (text_cmp g.0 name) (let at : length (g ∷ []) - 1 ≡ 0 = omega arith in ap (λ (i : ℕ). rises (slice_get (g ∷ []) i) name) (sym at) ∙ e), tt)
above_all (g ∷ h ∷ gs) name rising e =
    let at : length (g ∷ h ∷ gs) - 1 ≡ suc (length (h ∷ gs) - 1) = omega arith in
    let rest = above_all (h ∷ gs) name rising.1 (ap (λ (i : ℕ). rises (slice_get (g ∷ h ∷ gs) i) name) (sym at) ∙ e) in
    (nat_list_cmp_total.trans g.0 h.0 name rising.0.0 rest.0, rest)

-- so it may stand behind them
one_name : (ns : List (List ℕ)) (name : List ℕ) → IsStrictlySortedBy text_cmp ns → AllByRecursion (λ y. text_cmp y name ≡ Less) ns → IsStrictlySortedBy text_cmp (ns ++ name ∷ [])
unfolding IsStrictlySortedBy
one_name [] name rising above = (tt, tt)
one_name (n ∷ ns) name rising above = (last ns rising.0, one_name ns name rising.1 above.1)
  where
    last : (ms : List (List ℕ)) → AllByRecursion (λ y. text_cmp n y ≡ Less) ms → AllByRecursion (λ y. text_cmp n y ≡ Less) (ms ++ name ∷ [])
    last [] h = (above.0, tt)
    last (m ∷ ms) h = (h.0, last ms h.1)

keys_over : (xs ys : Globals) → keys_of (xs ++ ys) ≡ keys_of xs ++ keys_of ys
keys_over [] ys = refl
keys_over (x ∷ xs) ys = ap (λ (rest : List (List ℕ)). x.0 ∷ rest) (keys_over xs ys)

names_rise : (front gs : Globals) (met now : ℕ) → IsStrictlySortedBy text_cmp (keys_of front) → Chain GlobalRead front met gs now → IsStrictlySortedBy text_cmp (keys_of (front ++ gs))
names_rise front [] met now rising chain = subst (λ (x : Globals). IsStrictlySortedBy text_cmp (keys_of x)) (sym (append-nil front)) rising
names_rise front (g ∷ gs) met now rising chain =
    let more = one_name (keys_of front) g.0 rising (above_all front g.0 rising chain.1.higher) in
    let longer = subst (IsStrictlySortedBy text_cmp) (sym (keys_over front (g ∷ []))) more in
    subst (λ (x : Globals). IsStrictlySortedBy text_cmp (keys_of x)) (append_assoc front (g ∷ []) gs) (names_rise (front ++ g ∷ []) gs chain.0 now longer chain.2)

no_names : IsStrictlySortedBy text_cmp []
unfolding IsStrictlySortedBy
no_names = tt

-- ---- the whole

pub read_valid : (program : Program) (bytes : List ℕ) (m : MachineState) → StateRead bytes m → IsTrue (refers program m) → IsValid program m × IsTrue (is_canonical m)
unfolding refers
read_valid program bytes m read h =
    let os = m.state.objects in
    let parts = and_both (all_in (fits os) m.state) (list_all (λ node. is_some (numbered program.cells node)) m.ran && list_all (is_defined program m.ran) os) h in
    let places = and_both (list_all (λ node. is_some (numbered program.cells node)) m.ran) (list_all (is_defined program m.ran) os) parts.1 in
    let named = and_both (list_all (λ g. fits os g.1) m.state.globals) (list_all (all_in_object (fits os)) os) parts.0 in
    let first = globals_met [] m.state.globals 0 read.met read.globals in
    let low : read.met ≤ length os = met_below (length os) _ 0 read.met (globals_named os m.state.globals named.0) (omega arith) first in
    let below = objects_below os [] os read.met read.last low named.1 read.objects in
    let above = objects_above [] os read.met read.last (omega arith) read.objects in
    let count : read.last ≡ 0 + length os = omega (arith, below, above) in (
      record {
        kept = record {
          names = names_rise [] m.state.globals 0 read.met no_names read.globals;
          characters = names_fine [] m.state.globals 0 read.met read.globals;
          nodes = nodes_small [] m.ran 0 read.end read.ran;
          numbers = objects_small [] os read.met read.last read.objects;
          keys = objects_distinct [] os read.met read.last read.objects;
          references = parts.0;
          few = read.few;
          room = read.room;
        };
        values = both_and (list_all (λ g. is_proper g.1) m.state.globals) (list_all (all_in_object is_proper) os) (globals_proper [] m.state.globals 0 read.met read.globals) (objects_proper [] os read.met read.last read.objects);
        nodes = places.0;
        functions = places.1;
      },
      ap (λ (s : Option ℕ). are_met 0 s os) first ∙ objects_in_order [] os read.met read.last count read.objects,
    )
