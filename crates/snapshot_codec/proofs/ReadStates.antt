-- A state that is read is the one whose bytes stand there.
use Rattle.std.proofs.Common.{◌≡◌, ℕ, ◌*◌, ◌≤◌, List, [], ◌∷◌, ◌++◌, length, Ok, Err, ap, subst, ◌∙◌, append-nil, arith}
use Rattle.std.specs.Prelude.{◌==◌, if◌then◌else◌, nat_lt}
use Rattle.std.proofs.lemmas.Bool.{eqb-true, ltb-false}
use Rattle.std.proofs.lemmas.List.{nil_from_length}
use Rattle.star_value.specs.declared.value.Value.{Value}
use Rattle.star_meaning.specs.Snapshot.{counted, global_bytes, id_bytes, object_bytes, state_bytes}
use Rattle.star_meaning.specs.State.{Object}
use Rattle.star_meaning.specs.Validity.{MachineState}
use Rattle.snapshot_codec.specs.declared.fault.SnapFault.TheVariants.{BadRule, BadTag, LeftOver}
use Rattle.snapshot_codec.specs.Reading.{◌>>=◌, byte_at, count_at, global_at, globals_at, head_at, many_at, mark_at, node_at, object_at, objects_at, parts_at, ran_at}
use Rattle.snapshot_codec.proofs.FieldLaws.{IsBytes, IsBytes-rest, Takes, Takes-then, bind_ok, guard_ok, ok_is, wanted_ok}
use Rattle.snapshot_codec.proofs.Many.{Chain, Whole, whole_sound}
use Rattle.snapshot_codec.proofs.ReadObjects.{GlobalRead, NodeRead, ObjectRead, global_sound, node_sound, object_sound}
use Rattle.snapshot_codec.proofs.Tags.{byte_takes}

-- ---- the first four bytes

mark_takes : (wanted : ℕ) (bytes rest : List ℕ) → mark_at wanted bytes ≡ Ok rest → bytes ≡ wanted ∷ rest
mark_takes wanted bytes rest e =
    let a = bind_ok (byte_at bytes) (λ b. if b.0 == wanted then Ok b.1 else Err BadTag) rest e in
    let w = wanted_ok (a.0.0 == wanted) BadTag (Ok a.0.1) rest a.2 in
    byte_takes bytes a.0.0 a.0.1 a.1 ∙ (λ i. eqb-true a.0.0 wanted w.0 i ∷ ok_is a.0.1 rest w.1 i)

head_takes : (bytes rest : List ℕ) → IsBytes bytes → head_at bytes ≡ Ok rest → Takes bytes (67 ∷ 72 ∷ 88 ∷ 50 ∷ []) rest
unfolding head_at
head_takes bytes rest fits e =
    let a = bind_ok (mark_at 67 bytes) (λ c. mark_at 72 c >>= λ h. mark_at 88 h >>= λ x. mark_at 50 x) rest e in
    let b = bind_ok (mark_at 72 a.0) (λ h. mark_at 88 h >>= λ x. mark_at 50 x) rest a.2 in
    let d = bind_ok (mark_at 88 b.0) (λ x. mark_at 50 x) rest b.2 in
    let one = mark_takes 67 bytes a.0 a.1 in
    let two = mark_takes 72 a.0 b.0 b.1 in
    let three = mark_takes 88 b.0 d.0 d.1 in
    let four = mark_takes 50 d.0 rest d.2 in
    let parts : bytes ≡ 67 ∷ 72 ∷ 88 ∷ 50 ∷ rest = one ∙ ap (λ (x : List ℕ). 67 ∷ x) (two ∙ ap (λ (x : List ℕ). 72 ∷ x) (three ∙ ap (λ (x : List ℕ). 88 ∷ x) four)) in
    record { parts = parts; rest_fits = IsBytes-rest 50 rest (IsBytes-rest 88 (50 ∷ rest) (IsBytes-rest 72 (88 ∷ 50 ∷ rest) (IsBytes-rest 67 (72 ∷ 88 ∷ 50 ∷ rest) (subst IsBytes parts fits)))) }

-- ---- nodes, globals, objects

ran_sound : (bytes : List ℕ) (ids : List ℕ) (now : ℕ) (rest : List ℕ) → IsBytes bytes → ran_at bytes ≡ Ok (ids, now, rest) → Whole id_bytes NodeRead 0 bytes ids now rest × (length ids ≤ 64)
unfolding ran_at
ran_sound bytes ids now rest fits e =
    let n = bind_ok (count_at bytes) (λ n. if nat_lt 64 n.0 then Err BadRule else many_at node_at n.0 [] 0 n.1) (ids, now, rest) e in
    let g = guard_ok (nat_lt 64 n.0.0) BadRule (many_at node_at n.0.0 [] 0 n.0.1) (ids, now, rest) n.2 in
    let w = whole_sound id_bytes NodeRead node_at node_sound 0 bytes n.0.0 n.0.1 ids now rest fits n.1 g.1 in
    let few : n.0.0 ≤ 64 = ltb-false 64 n.0.0 g.0 in
    let many = w.1 in
    (w.0, omega (arith, few, many))

globals_sound : (bytes : List ℕ) (gs : List (List ℕ × Value)) (now : ℕ) (rest : List ℕ) → IsBytes bytes → globals_at bytes ≡ Ok (gs, now, rest) → Whole global_bytes GlobalRead 0 bytes gs now rest
unfolding globals_at
globals_sound bytes gs now rest fits e =
    let n = bind_ok (count_at bytes) (λ n. many_at global_at n.0 [] 0 n.1) (gs, now, rest) e in
    (whole_sound global_bytes GlobalRead global_at global_sound 0 bytes n.0.0 n.0.1 gs now rest fits n.1 n.2).0

objects_sound : (most met : ℕ) (bytes : List ℕ) (os : List (Object ℕ)) (now : ℕ) (rest : List ℕ) → IsBytes bytes → objects_at most met bytes ≡ Ok (os, now, rest) → Whole object_bytes ObjectRead met bytes os now rest × (length os ≤ most)
unfolding objects_at
objects_sound most met bytes os now rest fits e =
    let n = bind_ok (count_at bytes) (λ n. if nat_lt most n.0 then Err BadRule else many_at object_at n.0 [] met n.1) (os, now, rest) e in
    let g = guard_ok (nat_lt most n.0.0) BadRule (many_at object_at n.0.0 [] met n.0.1) (os, now, rest) n.2 in
    let w = whole_sound object_bytes ObjectRead object_at object_sound met bytes n.0.0 n.0.1 os now rest fits n.1 g.1 in
    let few : n.0.0 ≤ most = ltb-false most n.0.0 g.0 in
    let many = w.1 in
    (w.0, omega (arith, few, many))

-- ---- the whole

-- what is known of a state that was read
pub record StateRead (bytes : List ℕ) (m : MachineState) : Type 0 where
  pub bytes_are : bytes ≡ state_bytes m
  pub end : ℕ
  pub ran : Chain NodeRead [] 0 m.ran end
  pub few : length m.ran ≤ 64
  pub met : ℕ
  pub globals : Chain GlobalRead [] 0 m.state.globals met
  pub last : ℕ
  pub objects : Chain ObjectRead [] met m.state.objects last
  pub room : length m.state.objects ≤ 1000000 * length m.ran

pub parts_sound : (bytes : List ℕ) (m : MachineState) → IsBytes bytes → parts_at bytes ≡ Ok m → StateRead bytes m
unfolding parts_at state_bytes
parts_sound bytes m fits e =
    let h = bind_ok (head_at bytes) (λ rest. ran_at rest >>= λ ran. globals_at ran.2 >>= λ globals. objects_at (1000000 * length ran.0) globals.1 globals.2 >>= λ objects.
    if length objects.2 == 0 then Ok (record { state = record { globals = globals.0; objects = objects.0 }; ran = ran.0 }) else Err LeftOver) m e in
    let r = bind_ok (ran_at h.0) (λ ran. globals_at ran.2 >>= λ globals. objects_at (1000000 * length ran.0) globals.1 globals.2 >>= λ objects.
    if length objects.2 == 0 then Ok (record { state = record { globals = globals.0; objects = objects.0 }; ran = ran.0 }) else Err LeftOver) m h.2 in
    let g = bind_ok (globals_at r.0.2) (λ globals. objects_at (1000000 * length r.0.0) globals.1 globals.2 >>= λ objects.
    if length objects.2 == 0 then Ok (record { state = record { globals = globals.0; objects = objects.0 }; ran = r.0.0 }) else Err LeftOver) m r.2 in
    let o = bind_ok (objects_at (1000000 * length r.0.0) g.0.1 g.0.2) (λ objects.
    if length objects.2 == 0 then Ok (record { state = record { globals = g.0.0; objects = objects.0 }; ran = r.0.0 }) else Err LeftOver) m g.2 in
    let made : MachineState = record { state = record { globals = g.0.0; objects = o.0.0 }; ran = r.0.0 } in
    let w = wanted_ok (length o.0.2 == 0) LeftOver (Ok made) m o.2 in
    let nothing : o.0.2 ≡ [] = nil_from_length o.0.2 (eqb-true (length o.0.2) 0 w.0) in
    let head = head_takes bytes h.0 fits h.1 in
    let ran = ran_sound h.0 r.0.0 r.0.1 r.0.2 head.rest_fits r.1 in
    let globals = globals_sound r.0.2 g.0.0 g.0.1 g.0.2 ran.0.takes.rest_fits g.1 in
    let objects = objects_sound (1000000 * length r.0.0) g.0.1 g.0.2 o.0.0 o.0.1 o.0.2 globals.takes.rest_fits o.1 in
    let one = counted id_bytes r.0.0 in
    let two = counted global_bytes g.0.0 in
    let three = counted object_bytes o.0.0 in
    let first = Takes-then h.0 one r.0.2 two g.0.2 ran.0.takes globals.takes in
    let second = Takes-then h.0 (one ++ two) g.0.2 three o.0.2 first objects.0.takes in
    let whole : bytes ≡ state_bytes made =
    head.parts ∙ ap (λ (x : List ℕ). 67 ∷ 72 ∷ 88 ∷ 50 ∷ x) (second.parts ∙ ap (λ (x : List ℕ). one ++ two ++ three ++ x) nothing ∙ append-nil (one ++ two ++ three)) in
    subst (StateRead bytes) (ok_is made m w.1) (record {
      bytes_are = whole;
      end = r.0.1;
      ran = ran.0.chain;
      few = ran.1;
      met = g.0.1;
      globals = globals.chain;
      last = o.0.1;
      objects = objects.0.chain;
      room = objects.1;
    })
