-- A value that is read is the one whose bytes stand there.
use Rattle.std.proofs.Common.{◌≡◌, ℕ, zero, suc, ◌+◌, ◌^◌, ◌<◌, ◌≤◌, Bool, true, false, not, cond, List, [], ◌∷◌, ◌++◌, Some, None, Result, Ok, Err, IsTrue, refl, sym, ap, subst, ◌∙◌, arith}
use Rattle.std.specs.Prelude.{◌==◌, ◌&&◌, nat_lt}
use Rattle.std.specs.List.{AllByRecursion, flat_map, list_all}
use Rattle.star_value.specs.declared.range.Range.{Range}
use Rattle.star_value.specs.declared.value.Value.{Value}
use Rattle.star_value.specs.declared.value.Value.TheVariants as value
use Rattle.star_value.specs.Weight.{depth, greatest_depth}
use Rattle.star_meaning.specs.Snapshot.{builtin_byte, id_bytes, integer_bytes, met_from, references, text_bytes, value_bytes}
use Rattle.star_meaning.specs.Validity.{proper_range}
use Rattle.star_meaning.specs.Values.{has_128_bits, is_zero}
use Rattle.star_meaning.proofs.AlikeNumbers.{both_and}
use Rattle.snapshot_codec.specs.declared.fault.SnapFault.{SnapFault}
use Rattle.snapshot_codec.specs.declared.fault.SnapFault.TheVariants.{BadOrder, BadRule}
use Rattle.snapshot_codec.specs.declared.tag.Tag.{Tag}
use Rattle.snapshot_codec.specs.declared.tag.Tag.TheVariants as tag
use Rattle.snapshot_codec.specs.Reading.{◌>>=◌, there, byte_at, id_at, count_at, integer_at, text_at, tag_at, builtin_of, many_at, reference_at, int_at, text_value_at, range_at, list_at, dict_at, function_at, builtin_at, value_of_tag, items_at, tuple_of, value_at}
use Rattle.snapshot_codec.proofs.FieldLaws.{IsBytes, IsBytes-rest, Takes, Takes-then, bind_ok, guard_ok, id_takes, integer_takes, ok_is, text_takes}
use Rattle.snapshot_codec.proofs.Forms.{plain, bytes_none, bytes_false, bytes_true, bytes_int, bytes_text, bytes_tuple, bytes_range, bytes_list, bytes_dict, bytes_function, bytes_builtin, references_none, references_bool, references_int, references_text, references_tuple, references_range, references_list, references_dict, references_function, references_builtin, plain_none, plain_bool, plain_int, plain_text, plain_tuple, plain_range, plain_list, plain_dict, plain_function, plain_builtin, depth_none, depth_bool, depth_int, depth_text, depth_tuple, depth_range, depth_list, depth_dict, depth_function, depth_builtin}
use Rattle.snapshot_codec.proofs.Many.{Chain, IsSound, Part, met_over, whole_sound}
use Rattle.snapshot_codec.proofs.Tags.{builtin_takes, tag_byte, tag_takes}

-- what a value that may be written is: its tuples nest no deeper than this, and its numbers have 32 bits
pub record IsFine (room : ℕ) (v : Value) : Type 0 where
  pub plain_is : IsTrue (plain v)
  pub deep : depth v ≤ room
  pub ids : AllByRecursion (λ id. id < 2 ^ 32) (references v)

-- such a value, whose references were met in order
abbrev pub ValueRead : ℕ → List Value → ℕ → Value → ℕ → Type 0
ValueRead room front met v now = IsFine room v × (met_from met (references v) ≡ Some now)

-- what is known of a value behind its tag
abbrev Tagged : ℕ → ℕ → ℕ → List ℕ → Value → ℕ → List ℕ → Type 0
Tagged b room met bytes v now rest = Part value_bytes (ValueRead room) [] met (b ∷ bytes) v now rest

module _ (room met : ℕ) (bytes : List ℕ) where
  -- a value without others in it
  leaf : (b : ℕ) (v : Value) (now : ℕ) (text rest : List ℕ) → value_bytes v ≡ b ∷ text → Takes bytes text rest → met_from met (references v) ≡ Some now
      → AllByRecursion (λ id. id < 2 ^ 32) (references v) → IsTrue (plain v) → depth v ≡ 0 → Tagged b room met bytes v now rest
  leaf b v now text rest is takes met_is ids fine flat = record {
    takes = record { parts = ap (λ (t : List ℕ). b ∷ t) takes.parts ∙ ap (λ (t : List ℕ). t ++ rest) (sym is); rest_fits = takes.rest_fits };
    is_so = (record { plain_is = fine; deep = omega (arith, flat); ids = ids }, met_is);
  }

  -- and without references
  bare : (b : ℕ) (v : Value) (text rest : List ℕ) → value_bytes v ≡ b ∷ text → Takes bytes text rest → references v ≡ [] → IsTrue (plain v) → depth v ≡ 0 → Tagged b room met bytes v met rest
  bare b v text rest is takes refs fine flat =
      leaf b v met text rest is takes (ap (met_from met) refs) (subst (λ (ids : List ℕ). AllByRecursion (λ id. id < 2 ^ 32) ids) (sym refs) tt) fine flat

  as_read : (b : ℕ) (x y : Value × ℕ × List ℕ) → x ≡ y → Tagged b room met bytes x.0 x.1 x.2 → Tagged b room met bytes y.0 y.1 y.2
  as_read b x y e h = subst (λ (p : Value × ℕ × List ℕ). Tagged b room met bytes p.0 p.1 p.2) e h

  int_sound : (v : Value) (now : ℕ) (rest : List ℕ) → IsBytes bytes → int_at met bytes ≡ Ok (v, now, rest) → Tagged 3 room met bytes v now rest
  unfolding int_at
  int_sound v now rest fits e =
      let a = bind_ok (integer_at bytes) (λ z. Ok (value.Int z.0, met, z.1)) (v, now, rest) e in
      let t = integer_takes bytes a.0.0 a.0.1 fits a.1 in
      as_read 3 (value.Int a.0.0, met, a.0.1) (v, now, rest) (ok_is _ _ a.2)
      (bare 3 (value.Int a.0.0) (integer_bytes a.0.0) a.0.1 (bytes_int a.0.0) t.0 (references_int a.0.0) (plain_int a.0.0 ∙ t.1) (depth_int a.0.0))

  text_sound : (v : Value) (now : ℕ) (rest : List ℕ) → IsBytes bytes → text_value_at met bytes ≡ Ok (v, now, rest) → Tagged 4 room met bytes v now rest
  unfolding text_value_at
  text_sound v now rest fits e =
      let a = bind_ok (text_at bytes) (λ t. Ok (value.Text t.0, met, t.1)) (v, now, rest) e in
      let t = text_takes bytes a.0.0 a.0.1 fits a.1 in
      as_read 4 (value.Text a.0.0, met, a.0.1) (v, now, rest) (ok_is _ _ a.2)
      (bare 4 (value.Text a.0.0) (text_bytes a.0.0) a.0.1 (bytes_text a.0.0) t.0 (references_text a.0.0) (plain_text a.0.0 ∙ t.1) (depth_text a.0.0))

  not_is : (b : Bool) → b ≡ false → IsTrue (not b)
  not_is true e = absurd cc
  not_is false e = refl

  range_sound : (v : Value) (now : ℕ) (rest : List ℕ) → IsBytes bytes → range_at met bytes ≡ Ok (v, now, rest) → Tagged 6 room met bytes v now rest
  unfolding range_at
  range_sound v now rest fits e =
      let a = bind_ok (integer_at bytes)
      (λ start. integer_at start.1 >>= λ end. integer_at end.1 >>= λ step. cond (is_zero step.0) (Err BadRule) (Ok (value.Range (record { start = start.0; stop = end.0; step = step.0 }), met, step.1))) (v, now, rest) e in
      let b = bind_ok (integer_at a.0.1)
      (λ end. integer_at end.1 >>= λ step. cond (is_zero step.0) (Err BadRule) (Ok (value.Range (record { start = a.0.0; stop = end.0; step = step.0 }), met, step.1))) (v, now, rest) a.2 in
      let c = bind_ok (integer_at b.0.1)
      (λ step. cond (is_zero step.0) (Err BadRule) (Ok (value.Range (record { start = a.0.0; stop = b.0.0; step = step.0 }), met, step.1))) (v, now, rest) b.2 in
      let r : Range = record { start = a.0.0; stop = b.0.0; step = c.0.0 } in
      let g = guard_ok (is_zero c.0.0) BadRule (Ok (value.Range r, met, c.0.1)) (v, now, rest) c.2 in
      let one = integer_takes bytes a.0.0 a.0.1 fits a.1 in
      let two = integer_takes a.0.1 b.0.0 b.0.1 one.0.rest_fits b.1 in
      let three = integer_takes b.0.1 c.0.0 c.0.1 two.0.rest_fits c.1 in
      let first = Takes-then bytes (integer_bytes a.0.0) a.0.1 (integer_bytes b.0.0) b.0.1 one.0 two.0 in
      let takes = Takes-then bytes (integer_bytes a.0.0 ++ integer_bytes b.0.0) b.0.1 (integer_bytes c.0.0) c.0.1 first three.0 in
      let fine : IsTrue (proper_range r) =
      both_and (has_128_bits a.0.0 && has_128_bits b.0.0 && has_128_bits c.0.0) (not (is_zero c.0.0))
      (both_and (has_128_bits a.0.0 && has_128_bits b.0.0) (has_128_bits c.0.0) (both_and (has_128_bits a.0.0) (has_128_bits b.0.0) one.1 two.1) three.1) (not_is (is_zero c.0.0) g.0) in
      as_read 6 (value.Range r, met, c.0.1) (v, now, rest) (ok_is _ _ g.1)
      (bare 6 (value.Range r) (integer_bytes a.0.0 ++ integer_bytes b.0.0 ++ integer_bytes c.0.0) c.0.1 (bytes_range r) takes (references_range r) (plain_range r ∙ fine) (depth_range r))

  builtin_sound : (v : Value) (now : ℕ) (rest : List ℕ) → IsBytes bytes → builtin_at met bytes ≡ Ok (v, now, rest) → Tagged 10 room met bytes v now rest
  unfolding builtin_at
  builtin_sound v now rest fits e =
      let a = bind_ok (byte_at bytes) (λ b. there (builtin_of b.0) b.1 >>= λ which. Ok (value.Builtin which.0, met, which.1)) (v, now, rest) e in
      let w = bind_ok (there (builtin_of a.0.0) a.0.1) (λ which. Ok (value.Builtin which.0, met, which.1)) (v, now, rest) a.2 in
      let whole : (byte_at bytes >>= λ b. there (builtin_of b.0) b.1) ≡ Ok (w.0.0, w.0.1) = ap (λ r. r >>= λ b. there (builtin_of b.0) b.1) a.1 ∙ w.1 in
      let parts = builtin_takes bytes w.0.0 w.0.1 whole in
      let after : IsBytes w.0.1 = IsBytes-rest (builtin_byte w.0.0) w.0.1 (subst IsBytes parts fits) in
      as_read 10 (value.Builtin w.0.0, met, w.0.1) (v, now, rest) (ok_is _ _ w.2)
      (bare 10 (value.Builtin w.0.0) (builtin_byte w.0.0 ∷ []) w.0.1 (bytes_builtin w.0.0) (record { parts = parts; rest_fits = after }) (references_builtin w.0.0) (plain_builtin w.0.0) (depth_builtin w.0.0))

  -- ---- references

  reference_by : (t u : Bool) (id : ℕ) (after : List ℕ) (x : ℕ × ℕ × List ℕ) → cond t (Ok (id, met, after)) (cond u (Ok (id, met + 1, after)) (Err BadOrder)) ≡ Ok x
      → (id ≡ x.0) × (after ≡ x.2) × (cond t (Some met) (cond u (Some (met + 1)) None) ≡ Some x.1)
  reference_by true u id after x e = let same = ok_is (id, met, after) x e in (ap (λ p. p.0) same, ap (λ p. p.2) same, ap (λ p. Some p.1) same)
  reference_by false true id after x e = let same = ok_is (id, met + 1, after) x e in (ap (λ p. p.0) same, ap (λ p. p.2) same, ap (λ p. Some p.1) same)
  reference_by false false id after x e = absurd cc

  reference_sound : (x : ℕ × ℕ × List ℕ) → IsBytes bytes → reference_at met bytes ≡ Ok x → Takes bytes (id_bytes x.0) x.2 × (x.0 < 2 ^ 32) × (met_from met (x.0 ∷ []) ≡ Some x.1)
  unfolding reference_at
  reference_sound x fits e =
      let a = bind_ok (id_at bytes) (λ id. cond (nat_lt id.0 met) (Ok (id.0, met, id.1)) (cond (id.0 == met) (Ok (id.0, met + 1, id.1)) (Err BadOrder))) x e in
      let t = id_takes bytes a.0.0 a.0.1 fits a.1 in
      let r = reference_by (nat_lt a.0.0 met) (a.0.0 == met) a.0.0 a.0.1 x a.2 in (
        subst (λ (id : ℕ). Takes bytes (id_bytes id) x.2) r.0 (subst (λ (after : List ℕ). Takes bytes (id_bytes a.0.0) after) r.1 t.0),
        subst (λ (id : ℕ). id < 2 ^ 32) r.0 t.1,
        subst (λ (id : ℕ). met_from met (id ∷ []) ≡ Some x.1) r.0 r.2,
      )

  named : (b : ℕ) (v : Value) (id : ℕ) (now : ℕ) (rest : List ℕ) → value_bytes v ≡ b ∷ id_bytes id → references v ≡ id ∷ [] → IsTrue (plain v) → depth v ≡ 0
      → Takes bytes (id_bytes id) rest × (id < 2 ^ 32) × (met_from met (id ∷ []) ≡ Some now) → Tagged b room met bytes v now rest
  named b v id now rest is refs fine flat r =
      leaf b v now (id_bytes id) rest is r.0 (ap (met_from met) refs ∙ r.2) (subst (λ (ids : List ℕ). AllByRecursion (λ i. i < 2 ^ 32) ids) (sym refs) (r.1, tt)) fine flat

  list_sound : (v : Value) (now : ℕ) (rest : List ℕ) → IsBytes bytes → list_at met bytes ≡ Ok (v, now, rest) → Tagged 7 room met bytes v now rest
  unfolding list_at
  list_sound v now rest fits e =
      let a = bind_ok (reference_at met bytes) (λ id. Ok (value.List id.0, id.1, id.2)) (v, now, rest) e in
      as_read 7 (value.List a.0.0, a.0.1, a.0.2) (v, now, rest) (ok_is _ _ a.2)
      (named 7 (value.List a.0.0) a.0.0 a.0.1 a.0.2 (bytes_list a.0.0) (references_list a.0.0) (plain_list a.0.0) (depth_list a.0.0) (reference_sound a.0 fits a.1))

  dict_sound : (v : Value) (now : ℕ) (rest : List ℕ) → IsBytes bytes → dict_at met bytes ≡ Ok (v, now, rest) → Tagged 8 room met bytes v now rest
  unfolding dict_at
  dict_sound v now rest fits e =
      let a = bind_ok (reference_at met bytes) (λ id. Ok (value.Dict id.0, id.1, id.2)) (v, now, rest) e in
      as_read 8 (value.Dict a.0.0, a.0.1, a.0.2) (v, now, rest) (ok_is _ _ a.2)
      (named 8 (value.Dict a.0.0) a.0.0 a.0.1 a.0.2 (bytes_dict a.0.0) (references_dict a.0.0) (plain_dict a.0.0) (depth_dict a.0.0) (reference_sound a.0 fits a.1))

  function_sound : (v : Value) (now : ℕ) (rest : List ℕ) → IsBytes bytes → function_at met bytes ≡ Ok (v, now, rest) → Tagged 9 room met bytes v now rest
  unfolding function_at
  function_sound v now rest fits e =
      let a = bind_ok (reference_at met bytes) (λ id. Ok (value.Function id.0, id.1, id.2)) (v, now, rest) e in
      as_read 9 (value.Function a.0.0, a.0.1, a.0.2) (v, now, rest) (ok_is _ _ a.2)
      (named 9 (value.Function a.0.0) a.0.0 a.0.1 a.0.2 (bytes_function a.0.0) (references_function a.0.0) (plain_function a.0.0) (depth_function a.0.0) (reference_sound a.0 fits a.1))

  -- ---- by the tag

  nothing_takes : IsBytes bytes → Takes bytes [] bytes
  nothing_takes fits = record { parts = refl; rest_fits = fits }

  by_tag_sound : (tuple : ℕ → List ℕ → Result (Value × ℕ × List ℕ) SnapFault) → ((v : Value) (now : ℕ) (rest : List ℕ) → IsBytes bytes → tuple met bytes ≡ Ok (v, now, rest) → Tagged 5 room met bytes v now rest)
      → (t : Tag) (v : Value) (now : ℕ) (rest : List ℕ) → IsBytes bytes → value_of_tag tuple t met bytes ≡ Ok (v, now, rest) → Tagged (tag_byte t) room met bytes v now rest
  unfolding value_of_tag
  by_tag_sound tuple sound tag.None v now rest fits e =
      as_read 0 (value.None, met, bytes) (v, now, rest) (ok_is _ _ e) (bare 0 value.None [] bytes bytes_none (nothing_takes fits) references_none plain_none depth_none)
  by_tag_sound tuple sound tag.False v now rest fits e =
      as_read 1 (value.Bool false, met, bytes) (v, now, rest) (ok_is _ _ e) (bare 1 (value.Bool false) [] bytes bytes_false (nothing_takes fits) (references_bool false) (plain_bool false) (depth_bool false))
  by_tag_sound tuple sound tag.True v now rest fits e =
      as_read 2 (value.Bool true, met, bytes) (v, now, rest) (ok_is _ _ e) (bare 2 (value.Bool true) [] bytes bytes_true (nothing_takes fits) (references_bool true) (plain_bool true) (depth_bool true))
  by_tag_sound tuple sound tag.Int v now rest fits e = int_sound v now rest fits e
  by_tag_sound tuple sound tag.Text v now rest fits e = text_sound v now rest fits e
  by_tag_sound tuple sound tag.Tuple v now rest fits e = sound v now rest fits e
  by_tag_sound tuple sound tag.Range v now rest fits e = range_sound v now rest fits e
  by_tag_sound tuple sound tag.List v now rest fits e = list_sound v now rest fits e
  by_tag_sound tuple sound tag.Dict v now rest fits e = dict_sound v now rest fits e
  by_tag_sound tuple sound tag.Function v now rest fits e = function_sound v now rest fits e
  by_tag_sound tuple sound tag.Builtin v now rest fits e = builtin_sound v now rest fits e

-- ---- tuples

-- what holds of each item holds of all
items_fine : (room : ℕ) (front xs : List Value) (met now : ℕ) → Chain (ValueRead room) front met xs now
    → IsTrue (list_all plain xs) × (greatest_depth xs ≤ room) × AllByRecursion (λ id. id < 2 ^ 32) (flat_map references xs) × (met_from met (flat_map references xs) ≡ Some now)
items_fine room front [] met now chain = (refl, omega arith, tt, ap (λ (n : ℕ). Some n) chain)
items_fine room front (x ∷ xs) met now chain =
    let more = items_fine room (front ++ x ∷ []) xs chain.0 now chain.2 in
    let here = chain.1.0 in
    let deep = here.deep in
    let rest = more.1 in (
      both_and (plain x) (list_all plain xs) here.plain_is more.0,
      omega (arith, deep, rest),
      joined (references x) (flat_map references xs) here.ids more.2,
      met_over met (references x) (flat_map references xs) chain.0 chain.1.1 ∙ more.3,
    )
  where
    joined : (is js : List ℕ) → AllByRecursion (λ id. id < 2 ^ 32) is → AllByRecursion (λ id. id < 2 ^ 32) js → AllByRecursion (λ id. id < 2 ^ 32) (is ++ js)
    joined [] js h k = k
    joined (i ∷ is) js h k = (h.0, joined is js h.1 k)

module _ (room : ℕ) (sound : IsSound value_bytes (ValueRead room) (λ front. value_at room)) where
  tuple_sound : (met : ℕ) (bytes : List ℕ) (v : Value) (now : ℕ) (rest : List ℕ) → IsBytes bytes → tuple_of (value_at room) met bytes ≡ Ok (v, now, rest) → Tagged 5 (suc room) met bytes v now rest
  tuple_sound met bytes v now rest fits e =
      let a = bind_ok (items_at (value_at room) met bytes) (λ items. Ok (value.Tuple items.0, items.1, items.2)) (v, now, rest) e in
      let n = bind_ok (count_at bytes) (λ n. many_at (λ front. value_at room) n.0 [] met n.1) a.0 a.1 in
      let w = (whole_sound value_bytes (ValueRead room) (λ front. value_at room) sound met bytes n.0.0 n.0.1 a.0.0 a.0.1 a.0.2 fits n.1 n.2).0 in
      let items = a.0.0 in
      let all = items_fine room [] items met a.0.1 w.chain in
      let low = all.1 in
      let deep : depth (value.Tuple items) ≤ suc room = subst (λ (d : ℕ). d ≤ suc room) (sym (depth_tuple items)) (omega (arith, low)) in
      let made : Tagged 5 (suc room) met bytes (value.Tuple items) a.0.1 a.0.2 = record {
        takes = record { parts = ap (λ (t : List ℕ). 5 ∷ t) w.takes.parts ∙ ap (λ (t : List ℕ). t ++ a.0.2) (sym (bytes_tuple items)); rest_fits = w.takes.rest_fits };
        is_so = (
          record { plain_is = plain_tuple items ∙ all.0; deep = deep; ids = subst (λ (ids : List ℕ). AllByRecursion (λ id. id < 2 ^ 32) ids) (sym (references_tuple items)) all.2 },
          ap (met_from met) (references_tuple items) ∙ all.3,
        );
      } in
      as_read (suc room) met bytes 5 (value.Tuple items, a.0.1, a.0.2) (v, now, rest) (ok_is _ _ a.2) made

-- ---- values

-- what holds behind a tag holds of the bytes with the tag
with_tag : (room met : ℕ) (front : List Value) (bytes after : List ℕ) (b : ℕ) (v : Value) (now : ℕ) (rest : List ℕ) → bytes ≡ b ∷ after → Tagged b room met after v now rest
    → Part value_bytes (ValueRead room) front met bytes v now rest
with_tag room met front bytes after b v now rest is h = record {
  takes = record { parts = is ∙ h.takes.parts; rest_fits = h.takes.rest_fits };
  is_so = h.is_so;
}

pub value_sound : (room : ℕ) → IsSound value_bytes (ValueRead room) (λ front. value_at room)
unfolding value_at
value_sound zero front met bytes v now rest fits e =
    let a = bind_ok (tag_at bytes) (λ t. value_of_tag (λ m r. Err BadRule) t.0 met t.1) (v, now, rest) e in
    let parts = tag_takes bytes a.0.0 a.0.1 a.1 in
    let after = IsBytes-rest (tag_byte a.0.0) a.0.1 (subst IsBytes parts fits) in
    with_tag 0 met front bytes a.0.1 (tag_byte a.0.0) v now rest parts (by_tag_sound 0 met a.0.1 (λ m r. Err BadRule) (λ v now rest fits f. absurd cc) a.0.0 v now rest after a.2)
value_sound (suc room) front met bytes v now rest fits e =
    let a = bind_ok (tag_at bytes) (λ t. value_of_tag (tuple_of (value_at room)) t.0 met t.1) (v, now, rest) e in
    let parts = tag_takes bytes a.0.0 a.0.1 a.1 in
    let after = IsBytes-rest (tag_byte a.0.0) a.0.1 (subst IsBytes parts fits) in
    with_tag (suc room) met front bytes a.0.1 (tag_byte a.0.0) v now rest parts
    (by_tag_sound (suc room) met a.0.1 (tuple_of (value_at room)) (tuple_sound room (value_sound room) met a.0.1) a.0.0 v now rest after a.2)
