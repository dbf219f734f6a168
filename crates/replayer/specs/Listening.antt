-- Listeners that are told operations one after another.
use Rattle.std.specs.Prelude.{◌≡◌, List, [], ◌∷◌, map}
use Rattle.plan_type.specs.Operations.{Ops}
use Rattle.tap_list.specs.Listeners.{Listener, Tells}

-- each operation is told to those that are live then
abbrev pub TellsAll : Ops → List Listener → List Listener → List Listener → List Listener → Type 0
TellsAll [] live retired live_now retired_now = (live_now ≡ live) × (retired_now ≡ retired)
TellsAll (o ∷ os) live retired live_now retired_now =
    (next : List Listener) × (gone : List Listener) × Tells o live retired next gone × TellsAll os next gone live_now retired_now

-- the same of things that are seen as listeners
abbrev pub TellsAllBy : {T : Type 0} → (T → Listener) → Ops → List T → List T → List T → List T → Type 0
TellsAllBy view os live retired live_now retired_now = TellsAll os (map view live) (map view retired) (map view live_now) (map view retired_now)
