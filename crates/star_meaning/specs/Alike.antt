-- When two states are alike: where they differ in the numbers of their objects, and in objects that nothing reaches, alone.
use Rattle.std.specs.Prelude.{◌≡◌, ℕ, ◌==◌, Bool, true, false, not, ◌&&◌, List, [], ◌∷◌, map, Option, Some, None, IsTrue, bytes_eq}
use Rattle.std.specs.Bool.{beq}
use Rattle.std.specs.List.{list_any}
use Rattle.std.specs.Ordering.{int_eq}
use Rattle.star_value.specs.declared.key.Key.{Key}
use Rattle.star_value.specs.declared.range.Range.{Range}
use Rattle.star_value.specs.declared.value.Value.{Value, fold-Value, out-Value}
use Rattle.star_value.specs.declared.value.Value.TheOpen.{Value-F}
use Rattle.star_value.specs.KeyOrder.{all_hold, same_key}
use Rattle.star_meaning.specs.declared.flow.Flow.{Flow}
use Rattle.star_meaning.specs.declared.flow.Flow.TheVariants as flow
use Rattle.star_meaning.specs.State.{Object, AList, ADict, AFunction, State, object}
use Rattle.star_meaning.specs.Values.{has}
use Rattle.star_meaning.specs.Comparing.{same_builtin}
use Rattle.star_meaning.specs.Steps.{Outcome, Went, Failed}
use Rattle.star_meaning.specs.World.{Block, Frame, World}
use Rattle.star_meaning.specs.Validity.{MachineState}

-- pairs of object numbers, of a first state and of a second one
abbrev pub Pairs : Type 0
Pairs = List (ℕ × ℕ)

-- whether two numbers are a pair of the list
abbrev pub is_pair : Pairs → ℕ → ℕ → Bool
is_pair pairs a b = list_any (λ pair. (pair.0 == a) && (pair.1 == b)) pairs

-- no number stands twice
abbrev pub are_apart : List ℕ → Bool
are_apart [] = true
are_apart (n ∷ ns) = not (has ns n) && are_apart ns

-- ---- values

-- the same start, stop and step
abbrev pub like_range : Range → Range → Bool
like_range r q = int_eq r.start q.start && (int_eq r.stop q.stop && int_eq r.step q.step)

-- a value without references corresponds to itself; references correspond where they are of one kind and their numbers are a
-- pair; tuples, where they have one length and their items correspond
abbrev pub like_layer : Pairs → Value-F (Value → Bool) → Value-F Value → Bool
like_layer pairs Value-F.None Value-F.None = true
like_layer pairs (Value-F.Bool a) (Value-F.Bool b) = beq a b
like_layer pairs (Value-F.Int a) (Value-F.Int b) = int_eq a b
like_layer pairs (Value-F.Text a) (Value-F.Text b) = bytes_eq a b
like_layer pairs (Value-F.Tuple tests) (Value-F.Tuple items) = all_hold tests items
like_layer pairs (Value-F.Range r) (Value-F.Range q) = like_range r q
like_layer pairs (Value-F.List a) (Value-F.List b) = is_pair pairs a b
like_layer pairs (Value-F.Dict a) (Value-F.Dict b) = is_pair pairs a b
like_layer pairs (Value-F.Function a) (Value-F.Function b) = is_pair pairs a b
like_layer pairs (Value-F.Builtin a) (Value-F.Builtin b) = same_builtin a b
like_layer pairs _ _ = false

-- whether two values correspond
unfoldable pub like : Pairs → Value → Value → Bool
like pairs = fold-Value (Value → Bool) (λ layer other. like_layer pairs layer (out-Value other))

-- ---- objects

-- lists of one length whose items correspond in order
abbrev pub like_items : Pairs → List Value → List Value → Bool
like_items pairs xs ys = all_hold (map (like pairs) xs) ys

-- pairs with equal keys in equal order and corresponding values
abbrev pub like_pair : Pairs → Key × Value → Key × Value → Bool
like_pair pairs p q = same_key p.0 q.0 && like pairs p.1 q.1

abbrev pub like_pairs : Pairs → List (Key × Value) → List (Key × Value) → Bool
like_pairs pairs ps qs = all_hold (map (like_pair pairs) ps) qs

-- objects of one kind; functions have equal cell and number, and corresponding defaults
abbrev pub LikeObjects : {C : Type 0} → Pairs → Object C → Object C → Type 0
LikeObjects pairs (AList xs) (AList ys) = IsTrue (like_items pairs xs ys)
LikeObjects pairs (ADict ps) (ADict qs) = IsTrue (like_pairs pairs ps qs)
LikeObjects pairs (AFunction c m xs) (AFunction d n ys) = (c ≡ d) × (m ≡ n) × IsTrue (like_items pairs xs ys)
LikeObjects pairs _ _ = ⊥

-- both are there and correspond
abbrev pub LikeFound : {C : Type 0} → Pairs → Option (Object C) → Option (Object C) → Type 0
LikeFound pairs (Some o) (Some p) = LikeObjects pairs o p
LikeFound pairs _ _ = ⊥

-- ---- states

-- the same global names with corresponding values
abbrev pub like_global : Pairs → List ℕ × Value → List ℕ × Value → Bool
like_global pairs g h = bytes_eq g.0 h.0 && like pairs g.1 h.1

-- Two states are alike under a list of pairs in which each number stands at most once on each side: the same names are bound,
-- in the one order that names have, to corresponding values, and the two objects of each pair correspond.
pub record IsAlike {C : Type 0} (pairs : Pairs) (s t : State C) : Type 0 where
  pub first_once : IsTrue (are_apart (map (λ pair. pair.0) pairs))
  pub second_once : IsTrue (are_apart (map (λ pair. pair.1) pairs))
  pub globals : IsTrue (all_hold (map (like_global pairs) s.globals) t.globals)
  pub objects : (a b : ℕ) → IsTrue (is_pair pairs a b) → LikeFound pairs (object s a) (object t b)

-- the second list has the pairs of the first
abbrev pub Extends : Pairs → Pairs → Type 0
Extends pairs more = (a b : ℕ) → IsTrue (is_pair pairs a b) → IsTrue (is_pair more a b)

abbrev pub Alike : {C : Type 0} → State C → State C → Type 0
Alike s t = (pairs : Pairs) × IsAlike pairs s t

-- machine states are alike where also the same nodes have run in the same order
pub record AlikeMachines (m n : MachineState) : Type 0 where
  pub ran : m.ran ≡ n.ran
  pub state : Alike m.state n.state

-- ---- while a cell runs

-- both unbound, or bound to values that correspond
abbrev pub like_bound : Pairs → Option Value → Option Value → Bool
like_bound pairs None None = true
like_bound pairs (Some x) (Some y) = like pairs x y
like_bound pairs _ _ = false

abbrev pub like_slot : Pairs → List ℕ × Option Value → List ℕ × Option Value → Bool
like_slot pairs x y = bytes_eq x.0 y.0 && like_bound pairs x.1 y.1

abbrev pub like_block : Pairs → Block → Block → Bool
like_block pairs b c = all_hold (map (like_slot pairs) b) c

-- two frames correspond where their local names have corresponding values, and the active functions and what is iterated over
-- correspond pairwise in order
pub record LikeFrames (pairs : Pairs) (f g : Frame) : Type 0 where
  pub blocks : IsTrue (all_hold (map (like_block pairs) f.blocks) g.blocks)
  pub active : IsTrue (all_hold (map (is_pair pairs) f.active) g.active)
  pub locked : IsTrue (all_hold (map (is_pair pairs) f.locked) g.locked)

-- alike states and frames, with equal steps left and equal output
pub record IsAlikeWorld {C : Type 0} (pairs : Pairs) (w v : World C) : Type 0 where
  pub state : IsAlike pairs w.store.state v.store.state
  pub left : v.store.left ≡ w.store.left
  pub frame : LikeFrames pairs w.frame v.frame
  pub out : v.out ≡ w.out

-- results that correspond, or equal failures, in worlds that are alike
abbrev pub LikeOutcomes : {C E A : Type 0} → (Pairs → A → A → Type 0) → Pairs → Outcome (World C) E A → Outcome (World C) E A → Type 0
LikeOutcomes R pairs (Went a w) (Went b v) = R pairs a b × IsAlikeWorld pairs w v
LikeOutcomes R pairs (Failed e w) (Failed f v) = (f ≡ e) × IsAlikeWorld pairs w v
LikeOutcomes R pairs _ _ = ⊥

-- steps end alike, under a list that has the pairs of the old one
abbrev pub EndAlike : {C E A : Type 0} → (Pairs → A → A → Type 0) → Pairs → Outcome (World C) E A → Outcome (World C) E A → Type 0
EndAlike R pairs o q = (more : Pairs) × Extends pairs more × LikeOutcomes R more o q

-- how a statement ends: in one way, with corresponding values
abbrev pub like_flow : Pairs → Flow → Flow → Bool
like_flow pairs flow.On flow.On = true
like_flow pairs flow.Break flow.Break = true
like_flow pairs flow.Continue flow.Continue = true
like_flow pairs (flow.Return x) (flow.Return y) = like pairs x y
like_flow pairs _ _ = false
