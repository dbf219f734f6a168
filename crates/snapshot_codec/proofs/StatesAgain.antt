-- Keys, pairs, objects, nodes, globals and states that are written are read again.
use Rattle.std.proofs.Common.{◌≡◌, ℕ, ◌*◌, ◌≤◌, List, [], ◌∷◌, ◌++◌, length, Option, Ok, Err, refl, sym, ap, subst, ◌∙◌, append_assoc, append-nil, length-append, arith}
use Rattle.std.specs.Prelude.{◌==◌, ◌-◌, if◌then◌else◌, is_some, nat_lt, slice_get}
use Rattle.std.specs.List.{flat_map}
use Rattle.std.proofs.lemmas.Bool.{le-ltb, lt-ltb}
use Rattle.heap_store.specs.declared.kind.Kind.{Kind}
use Rattle.heap_store.specs.declared.kind.Kind.TheVariants as kind
use Rattle.star_value.specs.declared.key.Key.{Key}
use Rattle.star_value.specs.declared.value.Value.{Value}
use Rattle.star_value.specs.Keys.{key_of, value_of}
use Rattle.star_meaning.specs.Snapshot.{counted, global_bytes, id_bytes, met_from, object_bytes, pair_bytes, state_bytes, text_bytes, value_bytes}
use Rattle.star_meaning.specs.State.{Object, AList, ADict, AFunction, dict_get}
use Rattle.star_meaning.specs.Validity.{MachineState}
use Rattle.snapshot_codec.specs.declared.fault.SnapFault.TheVariants.{BadOrder, BadRule, LeftOver}
use Rattle.snapshot_codec.specs.Reading.{◌>>=◌, content_at, global_at, globals_at, head_at, id_at, key_at, key_or_rule, kind_at, many_at, node_at, numbered_object_at, object_at, objects_at, pair_at, pairs_at, parts_at, ran_at, rises, value_at, values_at, whole_value_at}
use Rattle.snapshot_codec.proofs.FieldLaws.{Few, few_after, id_again, text_again}
use Rattle.snapshot_codec.proofs.KeyValues.{key_back, key_bare}
use Rattle.snapshot_codec.proofs.Many.{Chain, IsComplete, whole_again}
use Rattle.snapshot_codec.proofs.ReadAgain.{value_again, value_some}
use Rattle.snapshot_codec.proofs.ReadObjects.{GlobalRead, Holds, NodeRead, ObjectRead, PairRead}
use Rattle.snapshot_codec.proofs.ReadStates.{StateRead}
use Rattle.snapshot_codec.proofs.ReadValues.{IsFine, ValueRead}
use Rattle.snapshot_codec.proofs.Tags.{kind_again}

whole_value_again : (met : ℕ) (v : Value) (now : ℕ) (rest : List ℕ) → ValueRead 64 [] met v now → Few (value_bytes v ++ rest) → whole_value_at met (value_bytes v ++ rest) ≡ Ok (v, now, rest)
unfolding whole_value_at
whole_value_again met v now rest so few = value_again 64 [] met v now rest so few

values_again : (xs : List Value) (met now : ℕ) (rest : List ℕ) → Chain (ValueRead 64) [] met xs now → Few (counted value_bytes xs ++ rest) → values_at met (counted value_bytes xs ++ rest) ≡ Ok (xs, now, rest)
unfolding values_at whole_value_at
values_again xs met now rest chain few =
    let w = whole_again value_bytes (ValueRead 64) (λ front. value_at 64) (value_again 64) value_some xs met now rest chain few in
    ap (λ r. r >>= λ n. many_at (λ front. value_at 64) n.0 [] met n.1) w.0 ∙ w.1

-- ---- dicts

key_again : (k : Key) (met : ℕ) (rest : List ℕ) → IsFine 64 (value_of k) → Few (value_bytes (value_of k) ++ rest) → key_at met (value_bytes (value_of k) ++ rest) ≡ Ok (k, met, rest)
unfolding key_at
key_again k met rest fine few =
    let read = whole_value_again met (value_of k) met rest (fine, ap (met_from met) (key_bare k)) few in
    ap (λ r. r >>= λ v. key_or_rule (key_of v.0) v.1 v.2) read ∙ ap (λ (o : Option Key). key_or_rule o met rest) (key_back k)

pair_complete : IsComplete pair_bytes PairRead pair_at
unfolding pair_at
pair_complete front met pair now rest so few =
    let a = value_bytes (value_of pair.0) in
    let b = value_bytes pair.1 in
    let regrouped : pair_bytes pair ++ rest ≡ a ++ (b ++ rest) = append_assoc a b rest in
    let short : Few (a ++ (b ++ rest)) = subst Few regrouped few in
    let one = key_again pair.0 met (b ++ rest) so.key_fine short in
    let two = whole_value_again met pair.1 now rest (so.value_fine, so.met_is) (few_after a (b ++ rest) short) in
    ap (pair_at front met) regrouped
    ∙ ap (λ r. r >>= λ k. if is_some (dict_get front k.0) then Err BadRule else (whole_value_at k.1 k.2 >>= λ v. Ok ((k.0, v.0), v.1, v.2))) one
    ∙ ap (λ t. if t then Err BadRule else (whole_value_at met (b ++ rest) >>= λ v. Ok ((pair.0, v.0), v.1, v.2))) so.new
    ∙ ap (λ r. r >>= λ v. Ok ((pair.0, v.0), v.1, v.2)) two

pair_some : (p : Key × Value) → 1 ≤ length (pair_bytes p)
pair_some p =
    let more = value_some p.1 in let both = length-append (value_bytes (value_of p.0)) (value_bytes p.1) in omega (arith, more, both)

pairs_again : (ps : List (Key × Value)) (met now : ℕ) (rest : List ℕ) → Chain PairRead [] met ps now → Few (counted pair_bytes ps ++ rest) → pairs_at met (counted pair_bytes ps ++ rest) ≡ Ok (ps, now, rest)
unfolding pairs_at
pairs_again ps met now rest chain few =
    let w = whole_again pair_bytes PairRead pair_at pair_complete pair_some ps met now rest chain few in
    ap (λ r. r >>= λ n. many_at pair_at n.0 [] met n.1) w.0 ∙ w.1

-- ---- objects

tail_few : (b : ℕ) (x : List ℕ) → Few (b ∷ x) → Few x
tail_few b x few = omega (arith, few)

content_again : (o : Object ℕ) (met now : ℕ) (rest : List ℕ) → Holds met o now → Few (object_bytes o ++ rest)
    → (k : Kind) × (text : List ℕ) × (kind_at (object_bytes o ++ rest) ≡ Ok (k, text)) × (content_at k met text ≡ Ok (o, now, rest))
content_again (AList xs) met now rest h few =
    let text = counted value_bytes xs ++ rest in
    (kind.List, text, kind_again kind.List text, ap (λ r. r >>= λ items. Ok (AList items.0, items.1, items.2)) (values_again xs met now rest h (tail_few 0 text few)))
content_again (ADict ps) met now rest h few =
    let text = counted pair_bytes ps ++ rest in
    (kind.Dict, text, kind_again kind.Dict text, ap (λ r. r >>= λ pairs. Ok (ADict pairs.0, pairs.1, pairs.2)) (pairs_again ps met now rest h (tail_few 1 text few)))
content_again (AFunction c n xs) met now rest h few =
    let a = id_bytes c in
    let b = id_bytes n in
    let d = counted value_bytes xs in
    let text = (a ++ b ++ d) ++ rest in
    let regrouped : text ≡ a ++ (b ++ (d ++ rest)) = append_assoc (a ++ b) d rest ∙ append_assoc a b (d ++ rest) in
    let short : Few (a ++ (b ++ (d ++ rest))) = subst Few regrouped (tail_few 2 text few) in
    let shorter = few_after b (d ++ rest) (few_after a (b ++ (d ++ rest)) short) in (
      kind.Function,
      text,
      kind_again kind.Function text,
      ap (content_at kind.Function met) regrouped
          ∙ ap (λ r. r >>= λ cell. id_at cell.1 >>= λ number. values_at met number.1 >>= λ defaults. Ok (AFunction cell.0 number.0 defaults.0, defaults.1, defaults.2)) (id_again c (b ++ (d ++ rest)) h.0)
          ∙ ap (λ r. r >>= λ number. values_at met number.1 >>= λ defaults. Ok (AFunction c number.0 defaults.0, defaults.1, defaults.2)) (id_again n (d ++ rest) h.1)
          ∙ ap (λ r. r >>= λ defaults. Ok (AFunction c n defaults.0, defaults.1, defaults.2)) (values_again xs met now rest h.2 shorter),
    )

object_complete : IsComplete object_bytes ObjectRead object_at
unfolding numbered_object_at
object_complete front met o now rest so few =
    let c = content_again o met now rest so.1 few in
    ap (λ r. r >>= λ k. if nat_lt (length front) met then content_at k.0 met k.1 else Err BadOrder) c.2
    ∙ ap (λ t. if t then content_at c.0 met c.1 else Err BadOrder) (lt-ltb (length front) met so.0) ∙ c.3

object_some : (o : Object ℕ) → 1 ≤ length (object_bytes o)
object_some (AList xs) = omega arith
object_some (ADict ps) = omega arith
object_some (AFunction c n xs) = omega arith

objects_again : (most : ℕ) (os : List (Object ℕ)) (met now : ℕ) (rest : List ℕ) → length os ≤ most → Chain ObjectRead [] met os now → Few (counted object_bytes os ++ rest) → objects_at most met (counted object_bytes os ++ rest) ≡ Ok (os, now, rest)
unfolding objects_at
objects_again most os met now rest room chain few =
    let w = whole_again object_bytes ObjectRead object_at object_complete object_some os met now rest chain few in
    ap (λ r. r >>= λ n. if nat_lt most n.0 then Err BadRule else many_at object_at n.0 [] met n.1) w.0
    ∙ ap (λ t. if t then Err BadRule else many_at object_at (length os) [] met (flat_map object_bytes os ++ rest)) (le-ltb most (length os) room) ∙ w.1

-- ---- nodes and globals

node_complete : IsComplete id_bytes NodeRead node_at
unfolding node_at
node_complete front met id now rest so few = ap (λ r. r >>= λ x. Ok (x.0, met, x.1)) (id_again id rest so.0) ∙ ap (λ (n : ℕ). Ok (id, n, rest)) so.1

id_some : (id : ℕ) → 1 ≤ length (id_bytes id)
id_some id = omega arith

ran_again : (ids : List ℕ) (now : ℕ) (rest : List ℕ) → length ids ≤ 64 → Chain NodeRead [] 0 ids now → Few (counted id_bytes ids ++ rest) → ran_at (counted id_bytes ids ++ rest) ≡ Ok (ids, now, rest)
unfolding ran_at
ran_again ids now rest few_ran chain few =
    let w = whole_again id_bytes NodeRead node_at node_complete id_some ids 0 now rest chain few in
    ap (λ r. r >>= λ n. if nat_lt 64 n.0 then Err BadRule else many_at node_at n.0 [] 0 n.1) w.0
    ∙ ap (λ t. if t then Err BadRule else many_at node_at (length ids) [] 0 (flat_map id_bytes ids ++ rest)) (le-ltb 64 (length ids) few_ran) ∙ w.1

global_complete : IsComplete global_bytes GlobalRead global_at
unfolding global_at
global_complete front met global now rest so few =
    let a = text_bytes global.0 in
    let b = value_bytes global.1 in
    let regrouped : global_bytes global ++ rest ≡ a ++ (b ++ rest) = append_assoc a b rest in
    let short : Few (a ++ (b ++ rest)) = subst Few regrouped few in
    let one = text_again global.0 (b ++ rest) so.characters short in
    let two = whole_value_again met global.1 now rest (so.value_fine, so.met_is) (few_after a (b ++ rest) short) in
    ap (global_at front met) regrouped
    ∙ ap (λ r. r >>= λ name. if rises (slice_get front (length front - 1)) name.0 then (whole_value_at met name.1 >>= λ v. Ok ((name.0, v.0), v.1, v.2)) else Err BadRule) one
    ∙ ap (λ t. if t then (whole_value_at met (b ++ rest) >>= λ v. Ok ((global.0, v.0), v.1, v.2)) else Err BadRule) so.higher
    ∙ ap (λ r. r >>= λ v. Ok ((global.0, v.0), v.1, v.2)) two

global_some : (g : List ℕ × Value) → 1 ≤ length (global_bytes g)
global_some g = let more = value_some g.1 in let both = length-append (text_bytes g.0) (value_bytes g.1) in omega (arith, more, both)

globals_again : (gs : List (List ℕ × Value)) (now : ℕ) (rest : List ℕ) → Chain GlobalRead [] 0 gs now → Few (counted global_bytes gs ++ rest) → globals_at (counted global_bytes gs ++ rest) ≡ Ok (gs, now, rest)
unfolding globals_at
globals_again gs now rest chain few =
    let w = whole_again global_bytes GlobalRead global_at global_complete global_some gs 0 now rest chain few in
    ap (λ r. r >>= λ n. many_at global_at n.0 [] 0 n.1) w.0 ∙ w.1

-- ---- the whole

head_again : (rest : List ℕ) → head_at (67 ∷ 72 ∷ 88 ∷ 50 ∷ rest) ≡ Ok rest
unfolding head_at
head_again rest = refl

pub parts_again : (m : MachineState) → StateRead (state_bytes m) m → Few (state_bytes m) → parts_at (state_bytes m) ≡ Ok m
unfolding parts_at state_bytes
parts_again m read few =
    let gs = m.state.globals in
    let os = m.state.objects in
    let one = counted id_bytes m.ran in
    let two = counted global_bytes gs in
    let three = counted object_bytes os in
    let body = one ++ two ++ three in
    let regrouped : body ≡ one ++ (two ++ (three ++ [])) = append_assoc one two three ∙ ap (λ (x : List ℕ). one ++ (two ++ x)) (sym (append-nil three)) in
    let short : Few body = omega (arith, few) in
    let shorter : Few (one ++ (two ++ (three ++ []))) = subst Few regrouped short in
    let ran = ran_again m.ran read.end (two ++ (three ++ [])) read.few read.ran shorter in
    let globals = globals_again gs read.met (three ++ []) read.globals (few_after one (two ++ (three ++ [])) shorter) in
    let objects = objects_again (1000000 * length m.ran) os read.met read.last [] read.room read.objects (few_after two (three ++ []) (few_after one (two ++ (three ++ [])) shorter)) in
    ap (λ r. r >>= λ rest. ran_at rest >>= λ ran. globals_at ran.2 >>= λ globals. objects_at (1000000 * length ran.0) globals.1 globals.2 >>= λ objects.
    if length objects.2 == 0 then Ok (record { state = record { globals = globals.0; objects = objects.0 }; ran = ran.0 }) else Err LeftOver) (head_again body)
    ∙ ap (λ r. r >>= λ ran. globals_at ran.2 >>= λ globals. objects_at (1000000 * length ran.0) globals.1 globals.2 >>= λ objects.
    if length objects.2 == 0 then Ok (record { state = record { globals = globals.0; objects = objects.0 }; ran = ran.0 }) else Err LeftOver) (ap ran_at regrouped ∙ ran)
    ∙ ap (λ r. r >>= λ globals. objects_at (1000000 * length m.ran) globals.1 globals.2 >>= λ objects.
    if length objects.2 == 0 then Ok (record { state = record { globals = globals.0; objects = objects.0 }; ran = m.ran }) else Err LeftOver) globals
    ∙ ap (λ r. r >>= λ objects. if length objects.2 == 0 then Ok (record { state = record { globals = gs; objects = objects.0 }; ran = m.ran }) else Err LeftOver) objects
