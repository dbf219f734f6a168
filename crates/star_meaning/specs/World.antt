-- What a running cell meets beside the state: its frame and what it has written.
use Rattle.std.specs.Prelude.{ℕ, ◌-◌, Bool, if◌then◌else◌, List, [], ◌∷◌, ◌++◌, map, Option, Some, None, option_map, is_some, bytes_eq}
use Rattle.std.specs.List.{list_any}
use Rattle.star_value.specs.declared.failure.Failure.{Failure}
use Rattle.star_value.specs.declared.failure.Failure.TheVariants as failure
use Rattle.star_value.specs.declared.value.Value.{Value, out-Value}
use Rattle.star_value.specs.declared.value.Value.TheOpen.{Value-F}
use Rattle.star_value.specs.declared.value.Value.TheVariants as value
use Rattle.star_value.specs.Weight.{weight}
use Rattle.star_meaning.specs.State.{State, global, set_global}
use Rattle.star_meaning.specs.Steps.{Outcome, Went, Failed, Steps, Store, Action, pure, given_or, charge, ◌>>=◌, ◌>>◌}
use Rattle.star_meaning.specs.Values.{builtin_of, named_in}

-- local names, each with its value where it is bound
abbrev pub Block : Type 0
Block = List (List ℕ × Option Value)

-- the blocks of local names, innermost first: those of comprehensions, and last that of the active function; the functions
-- that are active, the last one innermost; and the lists and dicts that are iterated over, once for each loop
pub record Frame : Type 0 where
  pub blocks : List Block
  pub active : List ℕ
  pub locked : List ℕ

-- at the outermost level of a cell no name is local
abbrev pub outermost : Frame
outermost = record { blocks = []; active = []; locked = [] }

pub record World (C : Type 0) : Type 0 where
  pub store : Store C
  pub frame : Frame
  pub out : List ℕ

-- before the first statement of a cell
abbrev pub start : {C : Type 0} → State C → ℕ → World C
start s left = record { store = record { state = s; left = left }; frame = outermost; out = [] }

abbrev pub with_frame : {C : Type 0} → Frame → World C → World C
with_frame f w = record w { frame = f }

-- ---- steps of expressions, and of statements, whose failures come with a line

abbrev pub Work : Type 0 → Type 0 → Type 0
Work C A = Steps (World C) Failure A

abbrev pub Fault : Type 0
Fault = Failure × ℕ

abbrev pub Course : Type 0 → Type 0 → Type 0
Course C A = Steps (World C) Fault A

abbrev pub located_at : {W A : Type 0} → ℕ → Outcome W Failure A → Outcome W Fault A
located_at line (Went a w) = Went a w
located_at line (Failed e w) = Failed (e, line) w

-- the same steps, with this line at a failure
unfoldable pub located : {C A : Type 0} → ℕ → Work C A → Course C A
located line p = λ w. located_at line (p w)

abbrev pub with_store : {C A : Type 0} → World C → Outcome (Store C) Failure A → Outcome (World C) Failure A
with_store w (Went a s) = Went a (record w { store = s })
with_store w (Failed e s) = Failed e (record w { store = s })

-- what an operation does to the state and the steps left; the frame and the output stay
unfoldable pub acting : {C A : Type 0} → Action C A → Work C A
acting p = λ w. with_store w (p w.store)

-- what is read from the state
abbrev pub reading : {C A : Type 0} → (State C → A) → Work C A
reading of = λ w. Went (of w.store.state) w

-- one step, the operation with its own charges, and the weight of its result, of which 1 is paid already
unfoldable pub operation : {C : Type 0} → Work C Value → Work C Value
operation p = do
  acting (charge 1)
  v ← p
  acting (charge (weight v - 1))
  pure v

-- an operation on values
abbrev pub operate : {C : Type 0} → Action C Value → Work C Value
operate p = operation (acting p)

-- these code points are written
unfoldable pub write : {C : Type 0} → List ℕ → Work C (Unit {0})
write text = λ w. Went tt (record w { out = w.out ++ text })

-- ---- names

abbrev pub first_some : {A : Type 0} → Option A → Option A → Option A
first_some (Some a) other = Some a
first_some None other = other

-- what the innermost block that has a name has there
abbrev pub slot_of : List Block → List ℕ → Option (Option Value)
slot_of [] name = None
slot_of (block ∷ blocks) name = first_some (named_in block name) (slot_of blocks name)

-- a name of a block is that block's; every other name is global, or else a built-in function's
abbrev pub value_in : {C : Type 0} → State C → List ℕ → Option (Option Value) → Option Value
value_in s name (Some slot) = slot
value_in s name None = first_some (global s name) (option_map value.Builtin (builtin_of name))

-- the value of a name; one that is not bound fails with Unbound
unfoldable pub look_up : {C : Type 0} → List ℕ → Work C Value
look_up name = λ w. given_or failure.Unbound (value_in w.store.state name (slot_of w.frame.blocks name)) w

-- the block with this value at a name
abbrev pub bound_in : Block → List ℕ → Value → Block
bound_in [] name v = []
bound_in (slot ∷ slots) name v = if bytes_eq name slot.0 then (slot.0, Some v) ∷ slots else slot ∷ bound_in slots name v

-- the blocks with this value at a name of the innermost block that has it
abbrev pub rebound : List Block → List ℕ → Value → List Block
rebound [] name v = []
rebound (block ∷ blocks) name v = if is_some (named_in block name) then bound_in block name v ∷ blocks else block ∷ rebound blocks name v

abbrev pub binding : {C : Type 0} → Option (Option Value) → List ℕ → Value → World C → World C
binding (Some slot) name v w = record w { frame = record w.frame { blocks = rebound w.frame.blocks name v } }
binding None name v w = record w { store = record w.store { state = set_global w.store.state name v } }

-- a name gets this value: in its block, or among the globals
unfoldable pub bind : {C : Type 0} → List ℕ → Value → Work C (Unit {0})
bind name v = λ w. Went tt (binding (slot_of w.frame.blocks name) name v w)

-- names of a block, none of them bound
abbrev pub unbound : List (List ℕ) → Block
unbound names = map (λ name. (name, None)) names

-- each name at its first place alone
abbrev pub is_among : List (List ℕ) → List ℕ → Bool
is_among names name = list_any (λ other. bytes_eq name other) names

abbrev pub distinct_after : List (List ℕ) → List (List ℕ) → List (List ℕ)
distinct_after before [] = []
distinct_after before (name ∷ names) =
    if is_among before name then distinct_after before names else name ∷ distinct_after (name ∷ before) names

unfoldable pub distinct : List (List ℕ) → List (List ℕ)
distinct names = distinct_after [] names

-- ---- a part of a frame for the time of some steps, where they do not fail

abbrev pub without_first : {A : Type 0} → List A → List A
without_first [] = []
without_first (x ∷ xs) = xs

-- the frame without its innermost block
abbrev pub without_block : Frame → Frame
without_block f = record f { blocks = without_first f.blocks }

abbrev pub left_block : {C E A : Type 0} → Outcome (World C) E A → Outcome (World C) E A
left_block (Went a w) = Went a (with_frame (without_block w.frame) w)
left_block (Failed e w) = Failed e w

-- the steps in a block of these names, which goes when they end
unfoldable pub in_block : {C A : Type 0} → Block → Work C A → Work C A
in_block block p = λ w. left_block (p (with_frame (record w.frame { blocks = block ∷ w.frame.blocks }) w))

-- the frame that was there comes back
abbrev pub put_back : {C E A : Type 0} → Frame → Outcome (World C) E A → Outcome (World C) E A
put_back f (Went a w) = Went a (with_frame f w)
put_back f (Failed e w) = Failed e w

-- the steps while these lists and dicts are locked; what the steps bind stays
abbrev pub unlocked : {C E A : Type 0} → List ℕ → Outcome (World C) E A → Outcome (World C) E A
unlocked locked (Went a w) = Went a (with_frame (record w.frame { locked = locked }) w)
unlocked locked (Failed e w) = Failed e w

unfoldable pub locking : {C E A : Type 0} → List ℕ → Steps (World C) E A → Steps (World C) E A
locking ids p = λ w. unlocked w.frame.locked (p (with_frame (record w.frame { locked = w.frame.locked ++ ids }) w))

-- the steps of a function's body: its own block, the function active
abbrev pub entered : ℕ → Block → Frame → Frame
entered id block f = record { blocks = block ∷ []; active = f.active ++ id ∷ []; locked = f.locked }

unfoldable pub in_function : {C A : Type 0} → ℕ → Block → Work C A → Work C A
in_function id block p = λ w. put_back w.frame (p (with_frame (entered id block w.frame) w))

-- ---- iteration

abbrev pub lock_at : Value-F Value → List ℕ
lock_at (Value-F.List id) = id ∷ []
lock_at (Value-F.Dict id) = id ∷ []
lock_at _ = []

-- the list or dict that is locked while a value is iterated over
abbrev pub lock_of : Value → List ℕ
lock_of v = lock_at (out-Value v)

-- a turn for each item, from left to right
abbrev pub turns : {C A : Type 0} → (Value → A → Work C A) → List Value → A → Work C A
turns turn [] a = pure a
turns turn (x ∷ xs) a = turn x a >>= turns turn xs
