-- Which values are keys of dicts.
use Rattle.std.specs.Prelude.{◌≡◌, List, [], ◌∷◌, Option, Some, None, option_map, Result, Ok, Err}
use Rattle.star_value.specs.declared.failure.Failure.TheVariants.{Unhashable}
use Rattle.star_value.specs.declared.key.Key.{Key, fold-Key}
use Rattle.star_value.specs.declared.key.Key.TheOpen.{Key-F}
use Rattle.star_value.specs.declared.key.Key.TheVariants as key
use Rattle.star_value.specs.declared.stop.Stop.{Stop}
use Rattle.star_value.specs.declared.stop.Stop.TheVariants as stop
use Rattle.star_value.specs.declared.value.Value.{Value, fold-Value}
use Rattle.star_value.specs.declared.value.Value.TheOpen.{Value-F}
use Rattle.star_value.specs.declared.value.Value.TheVariants as value

-- the things that all options hold, if each holds one
abbrev pub all_some : {X : Type 0} → List (Option X) → Option (List X)
all_some [] = Some []
all_some (None ∷ xs) = None
all_some (Some x ∷ xs) = option_map (λ more. x ∷ more) (all_some xs)

-- None, bools, integers, texts and tuples of keys are keys; ranges, lists, dicts, functions and built-ins are none
abbrev pub key_step : Value-F (Option Key) → Option Key
key_step Value-F.None = Some key.None
key_step (Value-F.Bool truth) = Some (key.Bool truth)
key_step (Value-F.Int number) = Some (key.Int number)
key_step (Value-F.Text text) = Some (key.Text text)
key_step (Value-F.Tuple parts) = option_map key.Tuple (all_some parts)
key_step _ = None

-- the key that a value is, if it is one
abbrev pub key_of : Value → Option Key
key_of = fold-Value (Option Key) key_step

-- what is answered for a value that is this key, or that is none
abbrev pub AnswersKey : {X : Type 0} → Option X → Result X Stop → Type 0
AnswersKey known (Ok key) = known ≡ Some key
AnswersKey known (Err (stop.Failure failure)) = (known ≡ None) × (failure ≡ Unhashable)
AnswersKey known (Err stop.NoMemory) = Unit {0}

-- the value that a key is
abbrev pub value_step : Key-F Value → Value
value_step Key-F.None = value.None
value_step (Key-F.Bool truth) = value.Bool truth
value_step (Key-F.Int number) = value.Int number
value_step (Key-F.Text text) = value.Text text
value_step (Key-F.Tuple parts) = value.Tuple parts

abbrev pub value_of : Key → Value
value_of = fold-Key Value value_step
