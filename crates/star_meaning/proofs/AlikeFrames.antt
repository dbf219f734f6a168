-- Frames that correspond are those of one frame over places, and the other way round.
use Rattle.std.proofs.Common.{◌≡◌, ℕ, List, [], ◌∷◌, map, IsTrue, refl, ap}
use Rattle.std.proofs.lemmas.Slice.Eq.{bytes_eq-Decides}
use Rattle.std.specs.Prelude.{Option, Some, None, option_map, bytes_eq}
use Rattle.star_value.specs.declared.value.Value.{Value}
use Rattle.star_value.specs.KeyOrder.{all_hold}
use Rattle.star_meaning.specs.declared.flow.Flow.{Flow}
use Rattle.star_meaning.specs.declared.flow.Flow.TheVariants as flow
use Rattle.star_meaning.specs.World.{Block, Frame}
use Rattle.star_meaning.specs.Alike.{LikeFrames, Pairs, is_pair, like_block, like_bound, like_flow, like_slot}
use Rattle.star_meaning.proofs.MovedValues.{Moving, moved}
use Rattle.star_meaning.proofs.MovedWorld.{block_to, frame_to, slot_to}
use Rattle.star_meaning.proofs.MovedStatements.{flow_to}
use Rattle.star_meaning.proofs.AlikeNumbers.{and_both, both_and, not_true}
use Rattle.star_meaning.proofs.AlikeValues.{placed, reached_like}

module _ (pairs : Pairs) (bk one two : Moving) (first : (a b : ℕ) → IsTrue (is_pair pairs a b) → one.to (bk.to a) ≡ a) (second : (a b : ℕ) → IsTrue (is_pair pairs a b) → two.to (bk.to a) ≡ b) where
  bound_placed : (x y : Option Value) → IsTrue (like_bound pairs x y) → (option_map (moved one) (option_map (moved bk) x) ≡ x) × (option_map (moved two) (option_map (moved bk) x) ≡ y)
  bound_placed None None h = (refl, refl)
  bound_placed (Some x) (Some y) h = let found = placed pairs bk one two first second x y h in (ap Some found.0, ap Some found.1)
  bound_placed None (Some y) h = absurd (not_true h)
  bound_placed (Some x) None h = absurd (not_true h)

  block_placed : (b c : Block) → IsTrue (like_block pairs b c) → (block_to one (block_to bk b) ≡ b) × (block_to two (block_to bk b) ≡ c)
  block_placed [] [] h = (refl, refl)
  block_placed [] (y ∷ c) h = absurd (not_true h)
  block_placed (x ∷ b) [] h = absurd (not_true h)
  block_placed (x ∷ b) (y ∷ c) h =
      let both = and_both (like_slot pairs x y) _ h in
      let slot = and_both (bytes_eq x.0 y.0) (like_bound pairs x.1 y.1) both.0 in
      let name = (bytes_eq-Decides x.0 y.0).0 slot.0 in
      let here = bound_placed x.1 y.1 slot.1 in
      let rest = block_placed b c both.1 in (λ j. (x.0, here.0 j) ∷ rest.0 j, λ j. (name j, here.1 j) ∷ rest.1 j)

  blocks_placed : (bs cs : List Block) → IsTrue (all_hold (map (like_block pairs) bs) cs) → (map (block_to one) (map (block_to bk) bs) ≡ bs) × (map (block_to two) (map (block_to bk) bs) ≡ cs)
  blocks_placed [] [] h = (refl, refl)
  blocks_placed [] (c ∷ cs) h = absurd (not_true h)
  blocks_placed (b ∷ bs) [] h = absurd (not_true h)
  blocks_placed (b ∷ bs) (c ∷ cs) h =
      let both = and_both (like_block pairs b c) _ h in
      let here = block_placed b c both.0 in
      let rest = blocks_placed bs cs both.1 in (λ j. here.0 j ∷ rest.0 j, λ j. here.1 j ∷ rest.1 j)

  numbers_placed : (xs ys : List ℕ) → IsTrue (all_hold (map (is_pair pairs) xs) ys) → (map one.to (map bk.to xs) ≡ xs) × (map two.to (map bk.to xs) ≡ ys)
  numbers_placed [] [] h = (refl, refl)
  numbers_placed [] (y ∷ ys) h = absurd (not_true h)
  numbers_placed (x ∷ xs) [] h = absurd (not_true h)
  numbers_placed (x ∷ xs) (y ∷ ys) h =
      let both = and_both (is_pair pairs x y) _ h in
      let rest = numbers_placed xs ys both.1 in (λ j. first x y both.0 j ∷ rest.0 j, λ j. second x y both.0 j ∷ rest.1 j)

  pub frame_placed : (f g : Frame) → LikeFrames pairs f g → (frame_to one (frame_to bk f) ≡ f) × (frame_to two (frame_to bk f) ≡ g)
  frame_placed f g h =
      let blocks = blocks_placed f.blocks g.blocks h.blocks in
      let active = numbers_placed f.active g.active h.active in
      let locked = numbers_placed f.locked g.locked h.locked in
      (λ j. record { blocks = blocks.0 j; active = active.0 j; locked = locked.0 j }, λ j. record { blocks = blocks.1 j; active = active.1 j; locked = locked.1 j })

module _ (pairs : Pairs) (one far two : Moving) (within : (id : ℕ) → one.to id ≡ far.to id → IsTrue (is_pair pairs (one.to id) (two.to id))) where
  bound_reach : (x : Option Value) → option_map (moved one) x ≡ option_map (moved far) x → IsTrue (like_bound pairs (option_map (moved one) x) (option_map (moved two) x))
  bound_reach None h = refl
  bound_reach (Some x) h = let same : moved one x ≡ moved far x = cc in reached_like pairs one far two within x same

  block_reach : (b : Block) → block_to one b ≡ block_to far b → IsTrue (like_block pairs (block_to one b) (block_to two b))
  block_reach [] h = refl
  block_reach (x ∷ b) h =
      let head : slot_to one x ≡ slot_to far x = cc in
      let rest : block_to one b ≡ block_to far b = cc in
      both_and (like_slot pairs (slot_to one x) (slot_to two x)) _ (both_and (bytes_eq x.0 x.0) _ ((bytes_eq-Decides x.0 x.0).1 refl) (bound_reach x.1 (ap (λ q. q.1) head))) (block_reach b rest)

  blocks_reach : (bs : List Block) → map (block_to one) bs ≡ map (block_to far) bs → IsTrue (all_hold (map (like_block pairs) (map (block_to one) bs)) (map (block_to two) bs))
  blocks_reach [] h = refl
  blocks_reach (b ∷ bs) h =
      let head : block_to one b ≡ block_to far b = cc in
      let rest : map (block_to one) bs ≡ map (block_to far) bs = cc in both_and (like_block pairs (block_to one b) (block_to two b)) _ (block_reach b head) (blocks_reach bs rest)

  numbers_reach : (xs : List ℕ) → map one.to xs ≡ map far.to xs → IsTrue (all_hold (map (is_pair pairs) (map one.to xs)) (map two.to xs))
  numbers_reach [] h = refl
  numbers_reach (x ∷ xs) h =
      let head : one.to x ≡ far.to x = cc in
      let rest : map one.to xs ≡ map far.to xs = cc in both_and (is_pair pairs (one.to x) (two.to x)) _ (within x head) (numbers_reach xs rest)

  pub frame_reach : (f : Frame) → frame_to one f ≡ frame_to far f → LikeFrames pairs (frame_to one f) (frame_to two f)
  frame_reach f h = record {
    blocks = blocks_reach f.blocks (ap (λ g. g.blocks) h);
    active = numbers_reach f.active (ap (λ g. g.active) h);
    locked = numbers_reach f.locked (ap (λ g. g.locked) h);
  }

  pub flow_reach : (f : Flow) → flow_to one f ≡ flow_to far f → IsTrue (like_flow pairs (flow_to one f) (flow_to two f))
  flow_reach flow.On h = refl
  flow_reach flow.Break h = refl
  flow_reach flow.Continue h = refl
  flow_reach (flow.Return v) h = let same : moved one v ≡ moved far v = cc in reached_like pairs one far two within v same
