-- Keys, pairs, objects, nodes and globals that are read are those whose bytes stand there.
use Rattle.std.proofs.Common.{◌≡◌, ℕ, ◌-◌, ◌^◌, ◌<◌, true, false, List, [], ◌∷◌, ◌++◌, length, Option, Some, None, Ok, Err, IsTrue, refl, sym, ap, subst, ◌∙◌}
use Rattle.std.specs.Prelude.{if◌then◌else◌, is_some, nat_lt, slice_get}
use Rattle.std.specs.Str.{all_scalars}
use Rattle.std.proofs.lemmas.Bool.{ltb-true}
use Rattle.heap_store.specs.declared.kind.Kind.{Kind}
use Rattle.heap_store.specs.declared.kind.Kind.TheVariants as kind
use Rattle.star_value.specs.declared.key.Key.{Key}
use Rattle.star_value.specs.declared.value.Value.{Value}
use Rattle.star_value.specs.Keys.{key_of, value_of}
use Rattle.star_meaning.specs.Snapshot.{counted, global_bytes, id_bytes, met_from, object_bytes, pair_bytes, references, text_bytes, value_bytes}
use Rattle.star_meaning.specs.State.{Object, AList, ADict, AFunction, dict_get}
use Rattle.snapshot_codec.specs.declared.fault.SnapFault.TheVariants.{BadOrder, BadRule}
use Rattle.snapshot_codec.specs.Reading.{◌>>=◌, content_at, count_at, global_at, id_at, key_at, key_or_rule, kind_at, many_at, node_at, numbered_object_at, object_at, pair_at, pairs_at, rises, text_at, value_at, values_at, whole_value_at}
use Rattle.snapshot_codec.proofs.FieldLaws.{IsBytes, IsBytes-rest, Takes, Takes-then, bind_ok, guard_ok, id_takes, ok_is, text_takes, wanted_ok}
use Rattle.snapshot_codec.proofs.KeyValues.{key_bare, value_of_key}
use Rattle.snapshot_codec.proofs.Many.{Chain, IsSound, Part, Whole, whole_sound}
use Rattle.snapshot_codec.proofs.ReadValues.{IsFine, ValueRead, value_sound}
use Rattle.snapshot_codec.proofs.Tags.{kind_byte, kind_takes}

-- ---- values of a machine

pub whole_value_sound : (met : ℕ) (bytes : List ℕ) (v : Value) (now : ℕ) (rest : List ℕ) → IsBytes bytes → whole_value_at met bytes ≡ Ok (v, now, rest) → Part value_bytes (ValueRead 64) [] met bytes v now rest
unfolding whole_value_at
whole_value_sound met bytes v now rest fits e = value_sound 64 [] met bytes v now rest fits e

pub values_sound : (met : ℕ) (bytes : List ℕ) (vs : List Value) (now : ℕ) (rest : List ℕ) → IsBytes bytes → values_at met bytes ≡ Ok (vs, now, rest) → Whole value_bytes (ValueRead 64) met bytes vs now rest
unfolding values_at whole_value_at
values_sound met bytes vs now rest fits e =
    let n = bind_ok (count_at bytes) (λ n. many_at (λ front. value_at 64) n.0 [] met n.1) (vs, now, rest) e in
    (whole_sound value_bytes (ValueRead 64) (λ front. value_at 64) (value_sound 64) met bytes n.0.0 n.0.1 vs now rest fits n.1 n.2).0

-- ---- dicts

key_kept : (o : Option Key) (met : ℕ) (rest : List ℕ) (x : Key × ℕ × List ℕ) → key_or_rule o met rest ≡ Ok x → (o ≡ Some x.0) × (met ≡ x.1) × (rest ≡ x.2)
key_kept None met rest x e = absurd cc
key_kept (Some k) met rest x e = let same = ok_is (k, met, rest) x e in (ap (λ (p : Key × ℕ × List ℕ). Some p.0) same, ap (λ (p : Key × ℕ × List ℕ). p.1) same, ap (λ (p : Key × ℕ × List ℕ). p.2) same)

-- what is known of a key that was read
record KeyRead (met : ℕ) (bytes : List ℕ) (k : Key) (now : ℕ) (rest : List ℕ) : Type 0 where
  pub takes : Takes bytes (value_bytes (value_of k)) rest
  pub is_fine : IsFine 64 (value_of k)
  pub same : met ≡ now

key_sound : (met : ℕ) (bytes : List ℕ) (k : Key) (now : ℕ) (rest : List ℕ) → IsBytes bytes → key_at met bytes ≡ Ok (k, now, rest) → KeyRead met bytes k now rest
unfolding key_at
key_sound met bytes k now rest fits e =
    let a = bind_ok (whole_value_at met bytes) (λ v. key_or_rule (key_of v.0) v.1 v.2) (k, now, rest) e in
    let p = whole_value_sound met bytes a.0.0 a.0.1 a.0.2 fits a.1 in
    let q = key_kept (key_of a.0.0) a.0.1 a.0.2 (k, now, rest) a.2 in
    let is : a.0.0 ≡ value_of k = sym (value_of_key a.0.0 k q.0) in
    let met_is : met_from met (references (value_of k)) ≡ Some a.0.1 = subst (λ (v : Value). met_from met (references v) ≡ Some a.0.1) is p.is_so.1 in
    let stays : Some met ≡ Some a.0.1 = ap (met_from met) (sym (key_bare k)) ∙ met_is in
    let stay : met ≡ a.0.1 = cc in
    record {
      takes = subst (λ (r : List ℕ). Takes bytes (value_bytes (value_of k)) r) q.2 (subst (λ (v : Value). Takes bytes (value_bytes v) a.0.2) is p.takes);
      is_fine = subst (IsFine 64) is p.is_so.0;
      same = stay ∙ q.1;
    }

-- what is known of a pair that was read behind others
pub record PairRead (front : List (Key × Value)) (met : ℕ) (pair : Key × Value) (now : ℕ) : Type 0 where
  pub key_fine : IsFine 64 (value_of pair.0)
  pub value_fine : IsFine 64 pair.1
  pub new : is_some (dict_get front pair.0) ≡ false
  pub met_is : met_from met (references pair.1) ≡ Some now

pair_sound : IsSound pair_bytes PairRead pair_at
unfolding pair_at
pair_sound front met bytes pair now rest fits e =
    let k = bind_ok (key_at met bytes) (λ k. if is_some (dict_get front k.0) then Err BadRule else (whole_value_at k.1 k.2 >>= λ v. Ok ((k.0, v.0), v.1, v.2))) (pair, now, rest) e in
    let key = k.0.0 in
    let g = guard_ok (is_some (dict_get front key)) BadRule (whole_value_at k.0.1 k.0.2 >>= λ v. Ok ((key, v.0), v.1, v.2)) (pair, now, rest) k.2 in
    let v = bind_ok (whole_value_at k.0.1 k.0.2) (λ v. Ok ((key, v.0), v.1, v.2)) (pair, now, rest) g.1 in
    let one = key_sound met bytes key k.0.1 k.0.2 fits k.1 in
    let two = whole_value_sound k.0.1 k.0.2 v.0.0 v.0.1 v.0.2 one.takes.rest_fits v.1 in
    let made : Part pair_bytes PairRead front met bytes (key, v.0.0) v.0.1 v.0.2 = record {
      takes = Takes-then bytes (value_bytes (value_of key)) k.0.2 (value_bytes v.0.0) v.0.2 one.takes two.takes;
      is_so = record { key_fine = one.is_fine; value_fine = two.is_so.0; new = g.0; met_is = subst (λ (m : ℕ). met_from m (references v.0.0) ≡ Some v.0.1) (sym one.same) two.is_so.1 };
    } in
    subst (λ (x : (Key × Value) × ℕ × List ℕ). Part pair_bytes PairRead front met bytes x.0 x.1 x.2) (ok_is ((key, v.0.0), v.0.1, v.0.2) (pair, now, rest) v.2) made

pub pairs_sound : (met : ℕ) (bytes : List ℕ) (ps : List (Key × Value)) (now : ℕ) (rest : List ℕ) → IsBytes bytes → pairs_at met bytes ≡ Ok (ps, now, rest) → Whole pair_bytes PairRead met bytes ps now rest
unfolding pairs_at
pairs_sound met bytes ps now rest fits e =
    let n = bind_ok (count_at bytes) (λ n. many_at pair_at n.0 [] met n.1) (ps, now, rest) e in
    (whole_sound pair_bytes PairRead pair_at pair_sound met bytes n.0.0 n.0.1 ps now rest fits n.1 n.2).0

-- ---- objects

-- what is known of what an object holds
abbrev pub Holds : ℕ → Object ℕ → ℕ → Type 0
Holds met (AList items) now = Chain (ValueRead 64) [] met items now
Holds met (ADict pairs) now = Chain PairRead [] met pairs now
Holds met (AFunction cell number defaults) now = (cell < 2 ^ 32) × (number < 2 ^ 32) × Chain (ValueRead 64) [] met defaults now

-- and of an object that was read behind others: its number was met
abbrev pub ObjectRead : List (Object ℕ) → ℕ → Object ℕ → ℕ → Type 0
ObjectRead front met o now = (length front < met) × Holds met o now

module _ (met : ℕ) (bytes : List ℕ) where
  -- behind its tag
  abbrev Content : ℕ → Object ℕ → ℕ → List ℕ → Type 0
  Content b o now rest = Takes (b ∷ bytes) (object_bytes o) rest × Holds met o now

  content_as : (b : ℕ) (x y : Object ℕ × ℕ × List ℕ) → x ≡ y → Content b x.0 x.1 x.2 → Content b y.0 y.1 y.2
  content_as b x y e h = subst (λ (p : Object ℕ × ℕ × List ℕ). Content b p.0 p.1 p.2) e h

  behind_tag : (b : ℕ) (text rest : List ℕ) → Takes bytes text rest → Takes (b ∷ bytes) (b ∷ text) rest
  behind_tag b text rest t = record { parts = ap (λ (x : List ℕ). b ∷ x) t.parts; rest_fits = t.rest_fits }

  content_sound : (k : Kind) (o : Object ℕ) (now : ℕ) (rest : List ℕ) → IsBytes bytes → content_at k met bytes ≡ Ok (o, now, rest) → Content (kind_byte k) o now rest
  content_sound kind.List o now rest fits e =
      let a = bind_ok (values_at met bytes) (λ items. Ok (AList items.0, items.1, items.2)) (o, now, rest) e in
      let w = values_sound met bytes a.0.0 a.0.1 a.0.2 fits a.1 in
      content_as 0 (AList a.0.0, a.0.1, a.0.2) (o, now, rest) (ok_is _ _ a.2) (behind_tag 0 (counted value_bytes a.0.0) a.0.2 w.takes, w.chain)
  content_sound kind.Dict o now rest fits e =
      let a = bind_ok (pairs_at met bytes) (λ pairs. Ok (ADict pairs.0, pairs.1, pairs.2)) (o, now, rest) e in
      let w = pairs_sound met bytes a.0.0 a.0.1 a.0.2 fits a.1 in
      content_as 1 (ADict a.0.0, a.0.1, a.0.2) (o, now, rest) (ok_is _ _ a.2) (behind_tag 1 (counted pair_bytes a.0.0) a.0.2 w.takes, w.chain)
  content_sound kind.Function o now rest fits e =
      let a = bind_ok (id_at bytes) (λ cell. id_at cell.1 >>= λ number. values_at met number.1 >>= λ defaults. Ok (AFunction cell.0 number.0 defaults.0, defaults.1, defaults.2)) (o, now, rest) e in
      let b = bind_ok (id_at a.0.1) (λ number. values_at met number.1 >>= λ defaults. Ok (AFunction a.0.0 number.0 defaults.0, defaults.1, defaults.2)) (o, now, rest) a.2 in
      let d = bind_ok (values_at met b.0.1) (λ defaults. Ok (AFunction a.0.0 b.0.0 defaults.0, defaults.1, defaults.2)) (o, now, rest) b.2 in
      let one = id_takes bytes a.0.0 a.0.1 fits a.1 in
      let two = id_takes a.0.1 b.0.0 b.0.1 one.0.rest_fits b.1 in
      let w = values_sound met b.0.1 d.0.0 d.0.1 d.0.2 two.0.rest_fits d.1 in
      let first = Takes-then bytes (id_bytes a.0.0) a.0.1 (id_bytes b.0.0) b.0.1 one.0 two.0 in
      let whole = Takes-then bytes (id_bytes a.0.0 ++ id_bytes b.0.0) b.0.1 (counted value_bytes d.0.0) d.0.2 first w.takes in
      content_as 2 (AFunction a.0.0 b.0.0 d.0.0, d.0.1, d.0.2) (o, now, rest) (ok_is _ _ d.2)
      (behind_tag 2 (id_bytes a.0.0 ++ id_bytes b.0.0 ++ counted value_bytes d.0.0) d.0.2 whole, (one.1, two.1, w.chain))

pub object_sound : IsSound object_bytes ObjectRead object_at
unfolding numbered_object_at
object_sound front met bytes o now rest fits e =
    let k = bind_ok (kind_at bytes) (λ k. if nat_lt (length front) met then content_at k.0 met k.1 else Err BadOrder) (o, now, rest) e in
    let parts = kind_takes bytes k.0.0 k.0.1 k.1 in
    let w = wanted_ok (nat_lt (length front) met) BadOrder (content_at k.0.0 met k.0.1) (o, now, rest) k.2 in
    let low : length front < met = ltb-true (length front) met w.0 in
    let c = content_sound met k.0.1 k.0.0 o now rest (IsBytes-rest (kind_byte k.0.0) k.0.1 (subst IsBytes parts fits)) w.1 in
    record { takes = subst (λ (x : List ℕ). Takes x (object_bytes o) rest) (sym parts) c.0; is_so = (low, c.1) }

-- ---- nodes and globals

abbrev pub NodeRead : List ℕ → ℕ → ℕ → ℕ → Type 0
NodeRead front met id now = (id < 2 ^ 32) × (met ≡ now)

pub node_sound : IsSound id_bytes NodeRead node_at
unfolding node_at
node_sound front met bytes id now rest fits e =
    let a = bind_ok (id_at bytes) (λ x. Ok (x.0, met, x.1)) (id, now, rest) e in
    let t = id_takes bytes a.0.0 a.0.1 fits a.1 in
    let made : Part id_bytes NodeRead front met bytes a.0.0 met a.0.1 = record { takes = t.0; is_so = (t.1, refl) } in
    subst (λ (x : ℕ × ℕ × List ℕ). Part id_bytes NodeRead front met bytes x.0 x.1 x.2) (ok_is (a.0.0, met, a.0.1) (id, now, rest) a.2) made

pub record GlobalRead (front : List (List ℕ × Value)) (met : ℕ) (global : List ℕ × Value) (now : ℕ) : Type 0 where
  pub characters : IsTrue (all_scalars global.0)
  pub higher : rises (slice_get front (length front - 1)) global.0 ≡ true
  pub value_fine : IsFine 64 global.1
  pub met_is : met_from met (references global.1) ≡ Some now

pub global_sound : IsSound global_bytes GlobalRead global_at
unfolding global_at
global_sound front met bytes global now rest fits e =
    let n = bind_ok (text_at bytes) (λ name. if rises (slice_get front (length front - 1)) name.0 then (whole_value_at met name.1 >>= λ v. Ok ((name.0, v.0), v.1, v.2)) else Err BadRule) (global, now, rest) e in
    let name = n.0.0 in
    let w = wanted_ok (rises (slice_get front (length front - 1)) name) BadRule (whole_value_at met n.0.1 >>= λ v. Ok ((name, v.0), v.1, v.2)) (global, now, rest) n.2 in
    let v = bind_ok (whole_value_at met n.0.1) (λ v. Ok ((name, v.0), v.1, v.2)) (global, now, rest) w.1 in
    let one = text_takes bytes name n.0.1 fits n.1 in
    let two = whole_value_sound met n.0.1 v.0.0 v.0.1 v.0.2 one.0.rest_fits v.1 in
    let made : Part global_bytes GlobalRead front met bytes (name, v.0.0) v.0.1 v.0.2 = record {
      takes = Takes-then bytes (text_bytes name) n.0.1 (value_bytes v.0.0) v.0.2 one.0 two.takes;
      is_so = record { characters = one.1; higher = w.0; value_fine = two.is_so.0; met_is = two.is_so.1 };
    } in
    subst (λ (x : (List ℕ × Value) × ℕ × List ℕ). Part global_bytes GlobalRead front met bytes x.0 x.1 x.2) (ok_is ((name, v.0.0), v.0.1, v.0.2) (global, now, rest) v.2) made
