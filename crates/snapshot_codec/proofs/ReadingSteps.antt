-- Reading many parts, as a loop does, and a value by its tag.
use Rattle.std.proofs.Common.{◌≡◌, ℕ, zero, suc, ◌-◌, ◌+◌, ◌≤◌, ◌<◌, List, [], ◌∷◌, ◌++◌, Result, Ok, Err, refl, sym, ap, ◌∙◌, arith, subst}
use Rattle.star_value.specs.declared.value.Value.{Value}
use Rattle.star_value.specs.declared.value.Value.TheVariants as value
use Rattle.snapshot_codec.specs.declared.fault.SnapFault.{SnapFault}
use Rattle.snapshot_codec.specs.declared.fault.SnapFault.TheVariants.{BadRule}
use Rattle.snapshot_codec.specs.declared.stop.Stop.{Stop}
use Rattle.snapshot_codec.specs.declared.stop.Stop.TheVariants as stop
use Rattle.snapshot_codec.specs.declared.tag.Tag.{Tag}
use Rattle.snapshot_codec.specs.Reading.{Fails, Gives, count_at, id_at, many_at, node_at, tag_at, tuple_at, tuple_of, value_at, value_of_tag}

-- what gives a reading gives an equal one
pub gives_as : {X Y : Type 0} (view : X → Y) (r : Result X Stop) (read other : Result Y SnapFault) → read ≡ other → Gives view r other → Gives view r read
gives_as view r read other e h = subst (λ z. Gives view r z) (sym e) h

-- ---- many parts

module _ {A : Type 0} (part : List A → ℕ → List ℕ → Result (A × ℕ × List ℕ) SnapFault) where
  pub goes_on : (front : List A) (count i met : ℕ) (bytes : List ℕ) (a : A) (now : ℕ) (after : List ℕ) (total : Result (List A × ℕ × List ℕ) SnapFault) → i < count
      → part front met bytes ≡ Ok (a, now, after) → many_at part (count - i) front met bytes ≡ total → many_at part (count - (i + 1)) (front ++ a ∷ []) now after ≡ total
  unfolding many_at
  goes_on front count i met bytes a now after total lt h so_far =
      let k : count - i ≡ suc (count - (i + 1)) = omega arith in
      let one : many_at part (count - i) front met bytes ≡ many_at part (count - (i + 1)) (front ++ a ∷ []) now after = rw (k, h) refl in
      sym one ∙ so_far

  pub ends : (e : Stop) (front : List A) (count i met : ℕ) (bytes : List ℕ) (total : Result (List A × ℕ × List ℕ) SnapFault) → i < count
      → Fails e (part front met bytes) → many_at part (count - i) front met bytes ≡ total → Fails e total
  unfolding many_at
  ends stop.NoMemory front count i met bytes total lt h so_far = tt
  ends (stop.Fault fault) front count i met bytes total lt h so_far =
      let k : count - i ≡ suc (count - (i + 1)) = omega arith in
      let one : many_at part (count - i) front met bytes ≡ Err fault = rw (k, h) refl in
      sym so_far ∙ one

  pub is_done : (front : List A) (count i met : ℕ) (bytes : List ℕ) (total : Result (List A × ℕ × List ℕ) SnapFault) → count ≤ i
      → many_at part (count - i) front met bytes ≡ total → total ≡ Ok (front, met, bytes)
  unfolding many_at
  is_done front count i met bytes total le so_far =
      let k : count - i ≡ 0 = omega arith in
      let one : many_at part (count - i) front met bytes ≡ Ok (front, met, bytes) = rw k refl in
      sym so_far ∙ one

-- ---- a value by its tag

pub by_tag : (room met : ℕ) (bytes rest : List ℕ) (t u : Tag) → tag_at bytes ≡ Ok (t, rest) → t ≡ u → value_at room met bytes ≡ value_of_tag (tuple_at room) u met rest
unfolding value_at tuple_at
by_tag zero met bytes rest t u e is = rw e (ap (λ (k : Tag). value_of_tag (tuple_at 0) k met rest) is)
by_tag (suc room) met bytes rest t u e is = rw e (ap (λ (k : Tag). value_of_tag (tuple_at (suc room)) k met rest) is)

pub no_tag : (e : Stop) (room met : ℕ) (bytes : List ℕ) → Fails e (tag_at bytes) → Fails e (value_at room met bytes)
unfolding value_at
no_tag stop.NoMemory room met bytes h = tt
no_tag (stop.Fault fault) zero met bytes h = rw h refl
no_tag (stop.Fault fault) (suc room) met bytes h = rw h refl

-- ---- tuples

pub no_room : (room met : ℕ) (bytes : List ℕ) → room ≡ 0 → tuple_at room met bytes ≡ Err BadRule
unfolding tuple_at
no_room room met bytes is = ap (λ (r : ℕ). tuple_at r met bytes) is

module _ (room met : ℕ) (bytes : List ℕ) (some : room ≡ 0 → ⊥) where
  tuple_is : tuple_at room met bytes ≡ tuple_of (value_at (room - 1)) met bytes
  unfolding tuple_at
  tuple_is = let is : room ≡ suc (room - 1) = omega arith in ap (λ (r : ℕ). tuple_at r met bytes) is

  pub tuple_no_count : (e : Stop) → Fails e (count_at bytes) → Fails e (tuple_at room met bytes)
  tuple_no_count stop.NoMemory h = tt
  tuple_no_count (stop.Fault fault) h = tuple_is ∙ rw h refl

  pub tuple_no_items : (e : Stop) (n : ℕ) (rest : List ℕ) → count_at bytes ≡ Ok (n, rest) → Fails e (many_at (λ front. value_at (room - 1)) n [] met rest) → Fails e (tuple_at room met bytes)
  tuple_no_items stop.NoMemory n rest c h = tt
  tuple_no_items (stop.Fault fault) n rest c h = tuple_is ∙ rw (c, h) refl

  pub tuple_items : (n : ℕ) (rest : List ℕ) (items : List Value) (now : ℕ) (after : List ℕ) → count_at bytes ≡ Ok (n, rest) → many_at (λ front. value_at (room - 1)) n [] met rest ≡ Ok (items, now, after)
      → tuple_at room met bytes ≡ Ok (value.Tuple items, now, after)
  tuple_items n rest items now after c h = tuple_is ∙ rw (c, h) refl

-- ---- nodes

pub no_node : (e : Stop) (front bytes : List ℕ) → Fails e (id_at bytes) → Fails e (node_at front 0 bytes)
unfolding node_at
no_node stop.NoMemory front bytes h = tt
no_node (stop.Fault fault) front bytes h = rw h refl

pub node_is : (front bytes : List ℕ) (id : ℕ) (after : List ℕ) → id_at bytes ≡ Ok (id, after) → node_at front 0 bytes ≡ Ok (id, 0, after)
unfolding node_at
node_is front bytes id after h = rw h refl
