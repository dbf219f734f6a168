-- Listeners as plain values.
use Rattle.std.specs.Prelude.{ℕ, ◌≡◌, ◌≤◌, List, [], ◌∷◌, ◌++◌, ◌⊎◌, map}
use Rattle.chex_base.specs.Outside.{Rose}
use Rattle.plan_type.specs.declared.operations.Operation.{Operation}

-- what a tap heard, and its two counts
pub record Listener : Type 0 where
  pub heard : List Operation
  pub faults : ℕ
  pub wants : ℕ

-- the event was heard
pub record Heard (event : Operation) (before now : Listener) : Type 0 where
  pub heard : now.heard ≡ before.heard ++ event ∷ []
  pub faults : before.faults ≤ now.faults
  pub wants : before.wants ≤ now.wants

-- nothing was heard, and a count rose
pub record Refused (before now : Listener) : Type 0 where
  pub heard : now.heard ≡ before.heard
  pub faults : before.faults ≤ now.faults
  pub wants : before.wants ≤ now.wants
  pub rose : Rose before.faults now.faults ⊎ Rose before.wants now.wants

-- of these taps, each was told the event: these stay, in order, and those go, in order
abbrev pub Told : Operation → List Listener → List Listener → List Listener → Type 0
Told event [] stay go = (stay ≡ []) × (go ≡ [])
Told event (e ∷ es) stay go =
    ((f : Listener) × (fs : List Listener) × (stay ≡ f ∷ fs) × Heard event e f × Told event es fs go)
    ⊎ ((f : Listener) × (fs : List Listener) × (go ≡ f ∷ fs) × Refused e f × Told event es stay fs)

-- the listeners of one list are told: some stay, and the others come to the end of the other list
abbrev pub Tells : Operation → List Listener → List Listener → List Listener → List Listener → Type 0
Tells event live retired live_now retired_now = (go : List Listener) × Told event live live_now go × (retired_now ≡ retired ++ go)

-- the first listener is told: it goes to the end of its list, or to the end of the other
abbrev pub Turns : Operation → List Listener → List Listener → List Listener → List Listener → Type 0
Turns event live retired live_now retired_now = (e : Listener) × (rest : List Listener) × (f : Listener) × (live ≡ e ∷ rest) × (
    (Heard event e f × (live_now ≡ rest ++ f ∷ []) × (retired_now ≡ retired))
    ⊎ (Refused e f × (live_now ≡ rest) × (retired_now ≡ retired ++ f ∷ [])))

-- the same of things that are seen as listeners
abbrev pub TellsBy : {T : Type 0} → (T → Listener) → Operation → List T → List T → List T → List T → Type 0
TellsBy view event live retired live_now retired_now = Tells event (map view live) (map view retired) (map view live_now) (map view retired_now)

abbrev pub TurnsBy : {T : Type 0} → (T → Listener) → Operation → List T → List T → List T → List T → Type 0
TurnsBy view event live retired live_now retired_now = Turns event (map view live) (map view retired) (map view live_now) (map view retired_now)
