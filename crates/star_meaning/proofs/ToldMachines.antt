-- What a machine keeps, and proper values, fit the bytes of its state.
use Rattle.std.proofs.Common.{◌≡◌, ◌≤◌, ◌<◌, ◌^◌, ℕ, Bool, false, not, List, [], ◌∷◌, map, length, IsTrue, Option, Some, None, slice_get, refl, sym, arith, subst, ◌∙◌}
use Rattle.std.proofs.lemmas.Bool.Decides.{nat_tests}
use Rattle.std.proofs.lemmas.Option.{slice_get_within}
use Rattle.std.specs.List.{list_all}
use Rattle.std.specs.Map.{keys_of}
use Rattle.std.specs.Prelude.{◌&&◌, nat_le}
use Rattle.std.specs.Str.{all_scalars}
use Rattle.star_value.specs.declared.key.Key.{Key}
use Rattle.star_value.specs.declared.value.Value.{Value, fold-Value, fold-roll-Value, ind-Value, map-Value, roll-Value}
use Rattle.star_value.specs.declared.value.Value.TheOpen.{Value-F}
use Rattle.star_value.specs.Keys as keys
use Rattle.star_value.specs.Weight.{depth}
use Rattle.star_meaning.specs.State.{Object, AList, ADict, AFunction}
use Rattle.star_meaning.specs.Values.{has_128_bits, is_zero}
use Rattle.star_meaning.specs.Alike.{AlikeMachines}
use Rattle.star_meaning.specs.Laws.{BytesTellTheState, SnapshotsTellAlikeStates}
use Rattle.star_meaning.specs.Snapshot.{IsCanon, state_bytes}
use Rattle.star_meaning.specs.Validity.{IsMachine, MachineState, all_in, all_in_object, all_in_pair, fits, fits_step, has_32_bits, has_small_numbers, is_dict, is_function, is_list, is_proper, proper_step}
use Rattle.star_meaning.proofs.AlikeNumbers.{and_both, both_and, not_true}
use Rattle.star_meaning.proofs.AlikeTurned.{machine_itself, machines_over, machines_turned}
use Rattle.star_meaning.proofs.Canonical.{one_canon, one_snapshot}
use Rattle.star_meaning.proofs.ToldStates.{IsWritten, global_written, object_written, states_told}
use Rattle.star_meaning.proofs.ToldValues.{layer_written, rolled_written, written}
use Rattle.star_meaning.proofs.WalkedStates.{each_canon}

module _ (os : List (Object ℕ)) (few : length os ≤ 2 ^ 32) where
  below : (test : Option (Object ℕ) → Bool) → test None ≡ false → (o : Option (Object ℕ)) (id : ℕ) → slice_get os id ≡ o → IsTrue (test o) → IsTrue (has_32_bits id)
  below test none (Some o) id e h = let within = slice_get_within os id o e in grind (arith, nat_tests, within, few)
  below test none None id e h = absurd (not_true (subst IsTrue none h))

  -- the test of is_proper without its depth
  abbrev plain : Value → Bool
  plain = fold-Value Bool proper_step

  abbrev Fitting : Value → Type 0
  Fitting v = IsTrue (plain v) → IsTrue (fits os v) → IsTrue (written v)

  abbrev Known : Type 0
  Known = (v : Value) × Fitting v

  abbrev bare : Value-F Known → Value-F Value
  bare = map-Value Known Value (λ e. e.0)

  parts_fit : (all : List Known) → IsTrue (list_all (λ b. b) (map plain (map (λ e. e.0) all))) → IsTrue (list_all (λ b. b) (map (fits os) (map (λ e. e.0) all))) → IsTrue (list_all (λ b. b) (map written (map (λ e. e.0) all)))
  parts_fit [] h k = refl
  parts_fit (e ∷ all) h k =
      let here = and_both (plain e.0) _ h in let there = and_both (fits os e.0) _ k in both_and (written e.0) _ (e.1 here.0 there.0) (parts_fit all here.1 there.1)

  layer_fits : (y : Value-F Known) → IsTrue (proper_step (map-Value Value Bool plain (bare y))) → IsTrue (fits_step os (map-Value Value Bool (fits os) (bare y))) → IsTrue (layer_written (bare y))
  layer_fits Value-F.None h k = refl
  layer_fits (Value-F.Bool b) h k = refl
  layer_fits (Value-F.Int z) h k = h
  layer_fits (Value-F.Text t) h k = h
  layer_fits (Value-F.Tuple all) h k = parts_fit all h k
  layer_fits (Value-F.Range r) h k =
      let one = and_both (has_128_bits r.start && has_128_bits r.stop && has_128_bits r.step) (not (is_zero r.step)) h in
      let two = and_both (has_128_bits r.start && has_128_bits r.stop) (has_128_bits r.step) one.0 in
      let three = and_both (has_128_bits r.start) (has_128_bits r.stop) two.0 in
      both_and (has_128_bits r.start) (has_128_bits r.stop && has_128_bits r.step) three.0 (both_and (has_128_bits r.stop) (has_128_bits r.step) three.1 two.1)
  layer_fits (Value-F.List id) h k = below is_list refl (slice_get os id) id refl k
  layer_fits (Value-F.Dict id) h k = below is_dict refl (slice_get os id) id refl k
  layer_fits (Value-F.Function id) h k = below is_function refl (slice_get os id) id refl k
  layer_fits (Value-F.Builtin which) h k = refl

  rolled_fits : (y : Value-F Known) → Fitting (roll-Value (bare y))
  unfolding fits
  rolled_fits y h k =
      subst IsTrue (sym (rolled_written (bare y))) (layer_fits y (subst IsTrue (fold-roll-Value Bool proper_step (bare y)) h) (subst IsTrue (fold-roll-Value Bool (fits_step os) (bare y)) k))

  value_fits : (v : Value) → Fitting v
  value_fits = ind-Value Fitting (λ x y is. subst (λ z. Fitting (roll-Value z)) is (rolled_fits y))

  proper_fits : (v : Value) → IsTrue (is_proper v) → IsTrue (fits os v) → IsTrue (written v)
  unfolding is_proper
  proper_fits v h k = value_fits v (and_both (nat_le (depth v) 64) (plain v) h).1 k

  list_fits : (xs : List Value) → IsTrue (list_all is_proper xs) → IsTrue (list_all (fits os) xs) → IsTrue (list_all written xs)
  list_fits [] h k = refl
  list_fits (x ∷ xs) h k =
      let here = and_both (is_proper x) _ h in let there = and_both (fits os x) _ k in both_and (written x) _ (proper_fits x here.0 there.0) (list_fits xs here.1 there.1)

  dict_fits : (ps : List (Key × Value)) → IsTrue (list_all (all_in_pair is_proper) ps) → IsTrue (list_all (all_in_pair (fits os)) ps) → IsTrue (list_all (all_in_pair written) ps)
  dict_fits [] h k = refl
  dict_fits (p ∷ ps) h k =
      let here = and_both (all_in_pair is_proper p) _ h in
      let there = and_both (all_in_pair (fits os) p) _ k in
      let one = and_both (is_proper (keys.value_of p.0)) (is_proper p.1) here.0 in
      let two = and_both (fits os (keys.value_of p.0)) (fits os p.1) there.0 in
      both_and (all_in_pair written p) _ (both_and (written (keys.value_of p.0)) (written p.1) (proper_fits (keys.value_of p.0) one.0 two.0) (proper_fits p.1 one.1 two.1)) (dict_fits ps here.1 there.1)

  globals_fit : (gs : List (List ℕ × Value)) → IsTrue (list_all all_scalars (keys_of gs)) → IsTrue (list_all (λ g. is_proper g.1) gs) → IsTrue (list_all (λ g. fits os g.1) gs) → IsTrue (list_all global_written gs)
  globals_fit [] c h k = refl
  globals_fit (g ∷ gs) c h k =
      let name = and_both (all_scalars g.0) _ c in
      let here = and_both (is_proper g.1) _ h in
      let there = and_both (fits os g.1) _ k in
      both_and (global_written g) _ (both_and (all_scalars g.0) (written g.1) name.0 (proper_fits g.1 here.0 there.0)) (globals_fit gs name.1 here.1 there.1)

  object_fits : (o : Object ℕ) → IsTrue (all_in_object is_proper o) → IsTrue (all_in_object (fits os) o) → IsTrue (all_in_object written o)
  object_fits (AList xs) h k = list_fits xs h k
  object_fits (ADict ps) h k = dict_fits ps h k
  object_fits (AFunction c n xs) h k = list_fits xs h k

  objects_fit : (all : List (Object ℕ)) → IsTrue (list_all has_small_numbers all) → IsTrue (list_all (all_in_object is_proper) all) → IsTrue (list_all (all_in_object (fits os)) all) → IsTrue (list_all object_written all)
  objects_fit [] n h k = refl
  objects_fit (o ∷ all) n h k =
      let number = and_both (has_small_numbers o) _ n in
      let here = and_both (all_in_object is_proper o) _ h in
      let there = and_both (all_in_object (fits os) o) _ k in
      both_and (object_written o) _ (both_and (all_in_object written o) (has_small_numbers o) (object_fits o here.0 there.0) number.0) (objects_fit all number.1 here.1 there.1)

machine_written : (m : MachineState) → IsMachine m → IsTrue (all_in is_proper m.state) → IsWritten m
machine_written m h p =
    let room = h.room in
    let cells = h.few in
    let few : length m.state.objects ≤ 2 ^ 32 = omega (arith, room, cells) in
    let proper = and_both (list_all (λ g. is_proper g.1) m.state.globals) (list_all (all_in_object is_proper) m.state.objects) p in
    let refer = and_both (list_all (λ g. fits m.state.objects g.1) m.state.globals) (list_all (all_in_object (fits m.state.objects)) m.state.objects) h.references in
    record {
      nodes = h.nodes;
      globals = globals_fit m.state.objects few m.state.globals h.characters proper.0 refer.0;
      objects = objects_fit m.state.objects few m.state.objects h.numbers proper.1 refer.1;
    }

pub bytes_tell : BytesTellTheState
bytes_tell m n h p k q l e = states_told m n (machine_written m h p) (machine_written n k q) l e

-- so states whose objects are numbered as they are met have equal bytes only where the states that they are alike to are alike
canons_tell : (m n c d : MachineState) → IsCanon m c → IsCanon n d → IsMachine c → IsTrue (all_in is_proper c.state) → IsMachine d → IsTrue (all_in is_proper d.state)
    → length (state_bytes c) < 2 ^ 64 → state_bytes c ≡ state_bytes d → AlikeMachines m n
canons_tell m n c d f g h p k q l e =
    machines_over m c n f.alike (subst (λ x. AlikeMachines x n) (sym (bytes_tell c d h p k q l e)) (machines_turned n d g.alike))

-- the state that a snapshot is the bytes of is of a machine, with proper values where the first state has them
snapshot_kept : (m c : MachineState) → IsMachine m → IsTrue (all_in is_proper m.state) → IsCanon m c → IsMachine c × IsTrue (all_in is_proper c.state)
snapshot_kept m c h p f =
    let one = each_canon m h in
    let same : one.canon ≡ c = one_canon m m one.canon c (machine_itself m h) one.is_canon f in
    (subst IsMachine same one.kept, subst (λ x. IsTrue (all_in is_proper x.state)) same (one.proper p))

pub snapshots_tell : SnapshotsTellAlikeStates
snapshots_tell m n one other h p k q l f g = (
  λ e.
      let here = snapshot_kept m f.0 h p f.1 in
      let there = snapshot_kept n g.0 k q g.1 in
      canons_tell m n f.0 g.0 f.1 g.1 here.0 here.1 there.0 there.1 (subst (λ bytes. length bytes < 2 ^ 64) f.2 l) (sym f.2 ∙ e ∙ g.2),
  λ a. one_snapshot m n one other a f g,
)
