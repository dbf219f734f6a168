-- A value that is written is read again.
use Rattle.std.proofs.Common.{◌≡◌, ℕ, ℤ, zero, suc, ◌+◌, ◌^◌, ◌<◌, ◌≤◌, Bool, true, false, not, cond, List, [], ◌∷◌, ◌++◌, length, Some, None, Result, Ok, Err, IsTrue, refl, sym, ap, subst, ◌∙◌, append_assoc, arith}
use Rattle.std.specs.Prelude.{◌==◌, ◌&&◌, nat_lt, if◌then◌else◌}
use Rattle.std.specs.List.{AllByRecursion, flat_map, list_all}
use Rattle.star_value.specs.declared.builtin.Builtin.{Builtin}
use Rattle.star_value.specs.declared.range.Range.{Range}
use Rattle.star_value.specs.declared.value.Value.{Value, out-Value, roll-Value, roll-out-Value}
use Rattle.star_value.specs.declared.value.Value.TheOpen.{Value-F}
use Rattle.star_value.specs.declared.value.Value.TheVariants as value
use Rattle.star_value.specs.Weight.{greatest_depth}
use Rattle.star_meaning.specs.Snapshot.{builtin_byte, counted, id_bytes, integer_bytes, met_from, references, text_bytes, value_bytes}
use Rattle.star_meaning.specs.Values.{has_128_bits, is_zero}
use Rattle.star_meaning.proofs.AlikeNumbers.{and_both}
use Rattle.snapshot_codec.specs.declared.fault.SnapFault.{SnapFault}
use Rattle.snapshot_codec.specs.declared.fault.SnapFault.TheVariants.{BadOrder}
use Rattle.snapshot_codec.specs.declared.tag.Tag.{Tag}
use Rattle.snapshot_codec.specs.declared.tag.Tag.TheVariants as tag
use Rattle.snapshot_codec.specs.Reading.{◌>>=◌, there, tag_at, reference_at, int_at, text_value_at, range_at, list_at, dict_at, function_at, builtin_at, value_of_tag, tuple_at, value_at}
use Rattle.snapshot_codec.proofs.FieldLaws.{Few, id_again, integer_again, text_again}
use Rattle.snapshot_codec.proofs.Forms.{plain, bytes_none, bytes_false, bytes_true, bytes_int, bytes_text, bytes_tuple, bytes_range, bytes_list, bytes_dict, bytes_function, bytes_builtin, references_none, references_bool, references_int, references_text, references_tuple, references_range, references_list, references_dict, references_function, references_builtin, plain_int, plain_text, plain_tuple, plain_range, depth_tuple}
use Rattle.snapshot_codec.proofs.Many.{Chain, IsComplete, met_split, whole_again}
use Rattle.snapshot_codec.proofs.ReadingSteps.{by_tag}
use Rattle.snapshot_codec.proofs.ReadValues.{IsFine, ValueRead}
use Rattle.snapshot_codec.proofs.Tags.{builtin_again, tag_again}

-- ---- each value is at least a byte long

some : (v : Value) (b : ℕ) (text : List ℕ) → value_bytes v ≡ b ∷ text → 1 ≤ length (value_bytes v)
some v b text is = subst (λ (t : List ℕ). 1 ≤ length t) (sym is) (omega arith)

layer_some : (x : Value-F Value) → 1 ≤ length (value_bytes (roll-Value x))
layer_some Value-F.None = some (roll-Value Value-F.None) 0 [] (ap value_bytes value.rolls-None ∙ bytes_none)
layer_some (Value-F.Bool false) = some (roll-Value (Value-F.Bool false)) 1 [] (ap value_bytes (value.rolls-Bool false) ∙ bytes_false)
layer_some (Value-F.Bool true) = some (roll-Value (Value-F.Bool true)) 2 [] (ap value_bytes (value.rolls-Bool true) ∙ bytes_true)
layer_some (Value-F.Int z) = some (roll-Value (Value-F.Int z)) 3 _ (ap value_bytes (value.rolls-Int z) ∙ bytes_int z)
layer_some (Value-F.Text t) = some (roll-Value (Value-F.Text t)) 4 _ (ap value_bytes (value.rolls-Text t) ∙ bytes_text t)
layer_some (Value-F.Tuple items) = some (roll-Value (Value-F.Tuple items)) 5 _ (ap value_bytes (value.rolls-Tuple items) ∙ bytes_tuple items)
layer_some (Value-F.Range r) = some (roll-Value (Value-F.Range r)) 6 _ (ap value_bytes (value.rolls-Range r) ∙ bytes_range r)
layer_some (Value-F.List id) = some (roll-Value (Value-F.List id)) 7 _ (ap value_bytes (value.rolls-List id) ∙ bytes_list id)
layer_some (Value-F.Dict id) = some (roll-Value (Value-F.Dict id)) 8 _ (ap value_bytes (value.rolls-Dict id) ∙ bytes_dict id)
layer_some (Value-F.Function id) = some (roll-Value (Value-F.Function id)) 9 _ (ap value_bytes (value.rolls-Function id) ∙ bytes_function id)
layer_some (Value-F.Builtin which) = some (roll-Value (Value-F.Builtin which)) 10 _ (ap value_bytes (value.rolls-Builtin which) ∙ bytes_builtin which)

pub value_some : (v : Value) → 1 ≤ length (value_bytes v)
value_some v = subst (λ (u : Value). 1 ≤ length (value_bytes u)) (roll-out-Value v) (layer_some (out-Value v))

-- ---- values of each form

-- a value is read again
abbrev Again : ℕ → Value → Type 0
Again room v = (met now : ℕ) (rest : List ℕ) → IsFine room v → met_from met (references v) ≡ Some now → Few (value_bytes v ++ rest) → value_at room met (value_bytes v ++ rest) ≡ Ok (v, now, rest)

met_same : (met now : ℕ) (v : Value) → references v ≡ [] → met_from met (references v) ≡ Some now → met ≡ now
met_same met now v none e = let same : Some met ≡ Some now = ap (met_from met) (sym none) ∙ e in cc

module _ (room : ℕ) where
  -- the tag is read, and what follows it
  behind : (met : ℕ) (v : Value) (t : Tag) (b : ℕ) (text rest : List ℕ) → value_bytes v ≡ b ∷ text → tag_at (b ∷ (text ++ rest)) ≡ Ok (t, text ++ rest)
      → value_at room met (value_bytes v ++ rest) ≡ value_of_tag (tuple_at room) t met (text ++ rest)
  behind met v t b text rest is e = ap (λ (x : List ℕ). value_at room met (x ++ rest)) is ∙ by_tag room met (b ∷ (text ++ rest)) (text ++ rest) t t e refl

  shorter : (v : Value) (b : ℕ) (text rest : List ℕ) → value_bytes v ≡ b ∷ text → Few (value_bytes v ++ rest) → Few (text ++ rest)
  shorter v b text rest is few = let low : Few (b ∷ (text ++ rest)) = subst (λ (x : List ℕ). Few (x ++ rest)) is few in omega (arith, low)

  none_again : Again room value.None
  unfolding value_of_tag
  none_again met now rest fine e few =
      behind met value.None tag.None 0 [] rest bytes_none (tag_again tag.None rest) ∙ ap (λ (n : ℕ). Ok (value.None, n, rest)) (met_same met now value.None references_none e)

  false_again : Again room (value.Bool false)
  unfolding value_of_tag
  false_again met now rest fine e few =
      behind met (value.Bool false) tag.False 1 [] rest bytes_false (tag_again tag.False rest) ∙ ap (λ (n : ℕ). Ok (value.Bool false, n, rest)) (met_same met now (value.Bool false) (references_bool false) e)

  true_again : Again room (value.Bool true)
  unfolding value_of_tag
  true_again met now rest fine e few =
      behind met (value.Bool true) tag.True 2 [] rest bytes_true (tag_again tag.True rest) ∙ ap (λ (n : ℕ). Ok (value.Bool true, n, rest)) (met_same met now (value.Bool true) (references_bool true) e)

  int_again : (z : ℤ) → Again room (value.Int z)
  unfolding value_of_tag int_at
  int_again z met now rest fine e few =
      behind met (value.Int z) tag.Int 3 (integer_bytes z) rest (bytes_int z) (tag_again tag.Int (integer_bytes z ++ rest))
      ∙ ap (λ r. r >>= λ x. Ok (value.Int x.0, met, x.1)) (integer_again z rest (sym (plain_int z) ∙ fine.plain_is))
      ∙ ap (λ (n : ℕ). Ok (value.Int z, n, rest)) (met_same met now (value.Int z) (references_int z) e)

  text_value_again : (t : List ℕ) → Again room (value.Text t)
  unfolding value_of_tag text_value_at
  text_value_again t met now rest fine e few =
      behind met (value.Text t) tag.Text 4 (text_bytes t) rest (bytes_text t) (tag_again tag.Text (text_bytes t ++ rest))
      ∙ ap (λ r. r >>= λ x. Ok (value.Text x.0, met, x.1)) (text_again t rest (sym (plain_text t) ∙ fine.plain_is) (shorter (value.Text t) 4 (text_bytes t) rest (bytes_text t) few))
      ∙ ap (λ (n : ℕ). Ok (value.Text t, n, rest)) (met_same met now (value.Text t) (references_text t) e)

  is_not : (b : Bool) → IsTrue (not b) → b ≡ false
  is_not true h = absurd cc
  is_not false h = refl

  range_again : (r : Range) → Again room (value.Range r)
  unfolding value_of_tag range_at
  range_again r met now rest fine e few =
      let one = and_both (has_128_bits r.start && has_128_bits r.stop && has_128_bits r.step) (not (is_zero r.step)) (sym (plain_range r) ∙ fine.plain_is) in
      let two = and_both (has_128_bits r.start && has_128_bits r.stop) (has_128_bits r.step) one.0 in
      let three = and_both (has_128_bits r.start) (has_128_bits r.stop) two.0 in
      let a = integer_bytes r.start in
      let b = integer_bytes r.stop in
      let c = integer_bytes r.step in
      let regrouped : (a ++ b ++ c) ++ rest ≡ a ++ (b ++ (c ++ rest)) = append_assoc (a ++ b) c rest ∙ append_assoc a b (c ++ rest) in
      behind met (value.Range r) tag.Range 6 (a ++ b ++ c) rest (bytes_range r) (tag_again tag.Range ((a ++ b ++ c) ++ rest))
      ∙ ap (range_at met) regrouped
      ∙ rw (integer_again r.start (b ++ (c ++ rest)) three.0, integer_again r.stop (c ++ rest) three.1, integer_again r.step rest two.1, is_not (is_zero r.step) one.1)
      (ap (λ (n : ℕ). Ok (value.Range r, n, rest)) (met_same met now (value.Range r) (references_range r) e))

  builtin_value_again : (which : Builtin) → Again room (value.Builtin which)
  unfolding value_of_tag builtin_at
  builtin_value_again which met now rest fine e few =
      behind met (value.Builtin which) tag.Builtin 10 (builtin_byte which ∷ []) rest (bytes_builtin which) (tag_again tag.Builtin (builtin_byte which ∷ rest))
      ∙ ap (λ o. there o rest >>= λ x. Ok (value.Builtin x.0, met, x.1)) (builtin_again which)
      ∙ ap (λ (n : ℕ). Ok (value.Builtin which, n, rest)) (met_same met now (value.Builtin which) (references_builtin which) e)

  abbrev found : ℕ → ℕ → List ℕ → Result (ℕ × ℕ × List ℕ) SnapFault
  found id met rest = Ok (id, met, rest)

  abbrev unmet : Result (ℕ × ℕ × List ℕ) SnapFault
  unmet = Err BadOrder

  reference_back : (t u : Bool) (id met now : ℕ) (rest : List ℕ) → (if t then Some met else if u then Some (met + 1) else None) ≡ Some now
      → cond t (found id met rest) (cond u (found id (met + 1) rest) unmet) ≡ found id now rest
  reference_back true u id met now rest e = let same : met ≡ now = cc in ap (λ (n : ℕ). found id n rest) same
  reference_back false true id met now rest e = let same : met + 1 ≡ now = cc in ap (λ (n : ℕ). found id n rest) same
  reference_back false false id met now rest e = absurd cc

  reference_again : (id met now : ℕ) (rest : List ℕ) → id < 2 ^ 32 → met_from met (id ∷ []) ≡ Some now → reference_at met (id_bytes id ++ rest) ≡ Ok (id, now, rest)
  unfolding reference_at
  reference_again id met now rest lt e =
      ap (λ r. r >>= λ x. cond (nat_lt x.0 met) (found x.0 met x.1) (cond (x.0 == met) (found x.0 (met + 1) x.1) unmet)) (id_again id rest lt)
      ∙ reference_back (nat_lt id met) (id == met) id met now rest e

  -- the number of a reference is small, and was met or is met now
  named_id : (v : Value) (id met now : ℕ) → references v ≡ id ∷ [] → IsFine room v → met_from met (references v) ≡ Some now → (id < 2 ^ 32) × (met_from met (id ∷ []) ≡ Some now)
  named_id v id met now refs fine e = ((subst (λ (ids : List ℕ). AllByRecursion (λ i. i < 2 ^ 32) ids) refs fine.ids).0, ap (met_from met) (sym refs) ∙ e)

  list_again : (id : ℕ) → Again room (value.List id)
  unfolding value_of_tag list_at
  list_again id met now rest fine e few =
      let k = named_id (value.List id) id met now (references_list id) fine e in
      behind met (value.List id) tag.List 7 (id_bytes id) rest (bytes_list id) (tag_again tag.List (id_bytes id ++ rest))
      ∙ ap (λ r. r >>= λ x. Ok (value.List x.0, x.1, x.2)) (reference_again id met now rest k.0 k.1)

  dict_again : (id : ℕ) → Again room (value.Dict id)
  unfolding value_of_tag dict_at
  dict_again id met now rest fine e few =
      let k = named_id (value.Dict id) id met now (references_dict id) fine e in
      behind met (value.Dict id) tag.Dict 8 (id_bytes id) rest (bytes_dict id) (tag_again tag.Dict (id_bytes id ++ rest))
      ∙ ap (λ r. r >>= λ x. Ok (value.Dict x.0, x.1, x.2)) (reference_again id met now rest k.0 k.1)

  function_again : (id : ℕ) → Again room (value.Function id)
  unfolding value_of_tag function_at
  function_again id met now rest fine e few =
      let k = named_id (value.Function id) id met now (references_function id) fine e in
      behind met (value.Function id) tag.Function 9 (id_bytes id) rest (bytes_function id) (tag_again tag.Function (id_bytes id ++ rest))
      ∙ ap (λ r. r >>= λ x. Ok (value.Function x.0, x.1, x.2)) (reference_again id met now rest k.0 k.1)

-- ---- tuples

pub apart : (is js : List ℕ) → AllByRecursion (λ id. id < 2 ^ 32) (is ++ js) → AllByRecursion (λ id. id < 2 ^ 32) is × AllByRecursion (λ id. id < 2 ^ 32) js
apart [] js h = (tt, h)
apart (i ∷ is) js h = let rest = apart is js h.1 in ((h.0, rest.0), rest.1)

items_chain : (room : ℕ) (front xs : List Value) (met now : ℕ) → IsTrue (list_all plain xs) → greatest_depth xs ≤ room → AllByRecursion (λ id. id < 2 ^ 32) (flat_map references xs)
    → met_from met (flat_map references xs) ≡ Some now → Chain (ValueRead room) front met xs now
items_chain room front [] met now fine low ids e = let same : met ≡ now = cc in same
items_chain room front (x ∷ xs) met now fine low ids e =
    let here = and_both (plain x) (list_all plain xs) fine in
    let split = apart (references x) (flat_map references xs) ids in
    let m = met_split met (references x) (flat_map references xs) now e in
    (m.0, (record { plain_is = here.0; deep = omega (arith, low); ids = split.0 }, m.1), items_chain room (front ++ x ∷ []) xs m.0 now here.1 (omega (arith, low)) split.1 m.2)

module _ (room : ℕ) (complete : IsComplete value_bytes (ValueRead room) (λ front. value_at room)) where
  tuple_again : (items : List Value) → Again (suc room) (value.Tuple items)
  unfolding value_of_tag tuple_at
  tuple_again items met now rest fine e few =
      let flat = fine.deep in
      let low : greatest_depth items ≤ room = let deep : greatest_depth items + 1 ≤ suc room = subst (λ (d : ℕ). d ≤ suc room) (depth_tuple items) flat in omega (arith, deep) in
      let chain = items_chain room [] items met now (sym (plain_tuple items) ∙ fine.plain_is) low (subst (λ (ids : List ℕ). AllByRecursion (λ id. id < 2 ^ 32) ids) (references_tuple items) fine.ids)
      (ap (met_from met) (sym (references_tuple items)) ∙ e) in
      let short = shorter (suc room) (value.Tuple items) 5 (counted value_bytes items) rest (bytes_tuple items) few in
      let w = whole_again value_bytes (ValueRead room) (λ front. value_at room) complete value_some items met now rest chain short in
      behind (suc room) met (value.Tuple items) tag.Tuple 5 (counted value_bytes items) rest (bytes_tuple items) (tag_again tag.Tuple (counted value_bytes items ++ rest))
      ∙ rw (w.0, w.1) refl

flat_tuple : (items : List Value) → IsFine 0 (value.Tuple items) → ⊥
flat_tuple items fine =
    let flat = fine.deep in let deep : greatest_depth items + 1 ≤ 0 = subst (λ (d : ℕ). d ≤ 0) (depth_tuple items) flat in omega (arith, deep)

-- ---- any value

module _ (room : ℕ) (tuple : (items : List Value) → Again room (value.Tuple items)) where
  layer_again : (x : Value-F Value) → Again room (roll-Value x)
  layer_again Value-F.None = subst (Again room) (sym value.rolls-None) (none_again room)
  layer_again (Value-F.Bool false) = subst (Again room) (sym (value.rolls-Bool false)) (false_again room)
  layer_again (Value-F.Bool true) = subst (Again room) (sym (value.rolls-Bool true)) (true_again room)
  layer_again (Value-F.Int z) = subst (Again room) (sym (value.rolls-Int z)) (int_again room z)
  layer_again (Value-F.Text t) = subst (Again room) (sym (value.rolls-Text t)) (text_value_again room t)
  layer_again (Value-F.Tuple items) = subst (Again room) (sym (value.rolls-Tuple items)) (tuple items)
  layer_again (Value-F.Range r) = subst (Again room) (sym (value.rolls-Range r)) (range_again room r)
  layer_again (Value-F.List id) = subst (Again room) (sym (value.rolls-List id)) (list_again room id)
  layer_again (Value-F.Dict id) = subst (Again room) (sym (value.rolls-Dict id)) (dict_again room id)
  layer_again (Value-F.Function id) = subst (Again room) (sym (value.rolls-Function id)) (function_again room id)
  layer_again (Value-F.Builtin which) = subst (Again room) (sym (value.rolls-Builtin which)) (builtin_value_again room which)

  any_again : (v : Value) → Again room v
  any_again v = subst (Again room) (roll-out-Value v) (layer_again (out-Value v))

pub value_again : (room : ℕ) → IsComplete value_bytes (ValueRead room) (λ front. value_at room)
value_again zero front met v now rest so few = any_again 0 (λ items met now rest fine e few. absurd (flat_tuple items fine)) v met now rest so.0 so.1 few
value_again (suc room) front met v now rest so few = any_again (suc room) (tuple_again room (value_again room)) v met now rest so.0 so.1 few
