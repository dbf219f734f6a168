-- What stays while a cell runs: of the objects, of the steps that are left, and of what is iterated over.
use Rattle.std.specs.Prelude.{◌≡◌, ◌≤◌, ℕ, List, [], ◌∷◌, Some, IsTrue}
use Rattle.star_meaning.specs.State.{Object, AList, ADict, AFunction, object}
use Rattle.star_meaning.specs.Steps.{Outcome, Went, Failed, Store}
use Rattle.star_meaning.specs.Values.{has}
use Rattle.star_meaning.specs.World.{Frame, World}

-- a function keeps its cell, and no other object becomes a function
abbrev pub IsKept : {C : Type 0} → Object C → Object C → Type 0
IsKept old (AList items) = Unit {0}
IsKept old (ADict pairs) = Unit {0}
IsKept (AFunction c n ds) (AFunction cell number defaults) = cell ≡ c
IsKept (AList xs) (AFunction cell number defaults) = ⊥
IsKept (ADict xs) (AFunction cell number defaults) = ⊥

-- a new function has the cell that runs
abbrev pub IsMade : {C : Type 0} → C → Object C → Type 0
IsMade here (AList items) = Unit {0}
IsMade here (ADict pairs) = Unit {0}
IsMade here (AFunction cell number defaults) = cell ≡ here

-- no object goes, each keeps what it must, and new ones come last
abbrev pub Grown : {C : Type 0} → C → List (Object C) → List (Object C) → Type 0
Grown here [] [] = Unit {0}
Grown here [] (o ∷ os) = IsMade here o × Grown here [] os
Grown here (b ∷ bs) (o ∷ os) = IsKept b o × Grown here bs os
Grown here (b ∷ bs) [] = ⊥

-- ---- from one moment to a later one

-- what may become of the state and of the steps left while these lists and dicts are iterated over
pub record Later {C : Type 0} (here : C) (locked : List ℕ) (before after : Store C) : Type 0 where
  -- objects stay what they must
  pub grown : Grown here before.state.objects after.state.objects
  -- steps are only spent
  pub spent : after.left ≤ before.left
  -- what is iterated over stays what it was
  pub held : (id : ℕ) (o : Object C) → IsTrue (has locked id) → object before.state id ≡ Some o → object after.state id ≡ Some o

-- the same functions are active again, and the same lists and dicts are iterated over
pub record IsBack (before after : Frame) : Type 0 where
  pub active : after.active ≡ before.active
  pub locked : after.locked ≡ before.locked

-- what is reached
abbrev pub reached : {W E A : Type 0} → Outcome W E A → W
reached (Went a w) = w
reached (Failed e w) = w

-- a fact of what is reached where steps do not fail
abbrev pub IfWent : {W E A : Type 0} → Outcome W E A → (W → Type 0) → Type 0
IfWent (Went a w) P = P w
IfWent (Failed e w) P = Unit {0}

-- what holds of each outcome of steps, in a cell that runs here
pub record Leads {C E A : Type 0} (here : C) (before : World C) (outcome : Outcome (World C) E A) : Type 0 where
  pub later : Later here before.frame.locked before.store (reached outcome).store
  pub back : IfWent outcome (λ after. IsBack before.frame after.frame)
