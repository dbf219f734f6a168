-- States in which cells have other names.
use Rattle.std.specs.Prelude.{◌≡◌, ℕ, Bool, true, List, map, IsTrue, Some}
use Rattle.std.specs.List.{list_all}
use Rattle.chex_base.specs.Inputs.{value_of}
use Rattle.star_meaning.specs.State.{Object, AList, ADict, AFunction, State}
use Rattle.star_meaning.specs.Steps.{Outcome, Went, Failed, Steps, Store, Action}
use Rattle.star_value.specs.declared.value.Value.{Value}
use Rattle.star_meaning.specs.Builtins.{ByName}
use Rattle.star_meaning.specs.World.{World, Work}
use Rattle.star_meaning.specs.Expressions.{Setting, Callee, Meant}
use Rattle.star_syntax.specs.declared.statement.Definition.{Definition}
use Rattle.star_syntax.specs.declared.statement.Statement.{Statement}
use Rattle.star_meaning.specs.Growing.{Later, Leads, reached}
use Rattle.star_meaning.specs.Reading.{FindingsIn, body_findings}
use Rattle.star_meaning.specs.Validity.{renamed}

-- other names for cells, the cell that runs, the lists and dicts that are iterated over while an operation is done, the names
-- of inputs that may be read, and the cells whose functions read no others
pub record Names (C D : Type 0) : Type 0 where
  pub to : C → D
  pub here : C
  pub locked : List ℕ
  pub reads : List ℕ → Bool
  pub good : C → Bool
  pub here_good : IsTrue (good here)

-- the same names while other lists and dicts are iterated over
abbrev pub under : {C D : Type 0} → Names C D → List ℕ → Names C D
under name locked = record name { locked = locked }

-- whether a function's cell is one of some
abbrev pub has_good : {C : Type 0} → (C → Bool) → Object C → Bool
has_good good (AList items) = true
has_good good (ADict pairs) = true
has_good good (AFunction cell number defaults) = good cell

-- each function of a state has a cell whose functions read no other inputs
abbrev pub AreGood : {C D : Type 0} → Names C D → State C → Type 0
AreGood name s = IsTrue (list_all (has_good name.good) s.objects)

module _ {C D : Type 0} (name : C → D) where
  abbrev pub state_as : State C → State D
  state_as s = record { globals = s.globals; objects = map (renamed name) s.objects }

  abbrev pub store_as : Store C → Store D
  store_as s = record { state = state_as s.state; left = s.left }

  abbrev pub world_as : World C → World D
  world_as w = record { store = store_as w.store; frame = w.frame; out = w.out }

-- an outcome in other states
abbrev pub outcome_as : {W V E A : Type 0} → (W → V) → Outcome W E A → Outcome V E A
outcome_as f (Went a w) = Went a (f w)
outcome_as f (Failed e w) = Failed e (f w)

-- an operation and its counterpart do the same in states that are alike but for the names of cells, and objects, steps and
-- what is iterated over stay what they must
pub record Same {C D A : Type 0} (name : Names C D) (p : Action C A) (q : Action D A) : Type 0 where
  pub holds : (s : Store C) → q (store_as name.to s) ≡ outcome_as (store_as name.to) (p s)
  pub keeps : (s : Store C) → Later name.here name.locked s (reached (p s))

-- the same of the steps of expressions and statements from a world; what is iterated over is the frame's
pub record SameAt {C D E A : Type 0} (name : Names C D) (p : Steps (World C) E A) (q : Steps (World D) E A) (w : World C) : Type 0 where
  pub holds : q (world_as name.to w) ≡ outcome_as (world_as name.to) (p w)
  pub leads : Leads name.here w (p w)

-- and from each world in which each function has a cell whose functions read no other inputs
pub record SameSteps {C D E A : Type 0} (name : Names C D) (p : Steps (World C) E A) (q : Steps (World D) E A) : Type 0 where
  pub at : (w : World C) → AreGood name w.store.state → SameAt name p q w

-- the same of what does not change while a cell runs, of calls of functions, and of the meanings of trees
pub record SameSetting {C D : Type 0} (name : Names C D) (st : Setting C) (su : Setting D) : Type 0 where
  pub define : (c : C) (n : ℕ) → su.define (name.to c) n ≡ st.define c n
  pub here : st.cell ≡ name.here
  pub cell : su.cell ≡ name.to st.cell
  -- the inputs agree on the names that may be read
  pub inputs : (n : List ℕ) → IsTrue (name.reads n) → value_of su.inputs n ≡ value_of st.inputs n
  -- and functions of these cells read no others
  pub bodies : (c : C) (n : ℕ) (def : Definition Statement) → IsTrue (name.good c) → st.define c n ≡ Some def → FindingsIn name.reads (body_findings def.body)

abbrev pub SameCallee : {C D : Type 0} → Names C D → Callee C → Callee D → Type 0
SameCallee name c d = (id : ℕ) (vs : List Value) (by_name : ByName) → SameSteps name (c id vs by_name) (d id vs by_name)

pub record SameMeant {C D : Type 0} (name : Names C D) (m : Meant C) (n : Meant D) : Type 0 where
  pub value : SameSteps name m.value n.value
  pub store : (v : Value) → SameSteps name (m.store v) (n.store v)
  pub update : (f : Value → Work C Value) (g : Value → Work D Value) → ((v : Value) → SameSteps name (f v) (g v)) → SameSteps name (m.update f) (n.update g)
  pub names : n.names ≡ m.names
  pub is_input : n.is_input ≡ m.is_input
  pub literal : n.literal ≡ m.literal
