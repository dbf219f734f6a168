-- Entries of dict displays and of dict comprehensions.
use Rattle.std.specs.Prelude.{ℕ, List}
use Rattle.star_value.specs.declared.key.Key.{Key}
use Rattle.star_value.specs.declared.value.Value.{Value}
use Rattle.star_meaning.specs.State.{dict_put}
use Rattle.star_meaning.specs.Steps.{pure, ◌>>=◌, ◌>>◌}
use Rattle.star_meaning.specs.Values.{charge_weight}
use Rattle.star_meaning.specs.Comparing.{key_in}
use Rattle.star_meaning.specs.World.{Work, acting}
use Rattle.star_meaning.specs.Expressions.{new_key}

-- an entry whose key did not stand before
abbrev pub new_entry : Value → Value → List (Key × Value) → Work ℕ (List (Key × Value))
new_entry k v done = acting (new_key done k) >>= (λ key. acting (charge_weight k) >> pure (dict_put done key v))

-- an entry whose key may have stood before
abbrev pub put_entry : Value → Value → List (Key × Value) → Work ℕ (List (Key × Value))
put_entry k v done = acting (key_in k) >>= (λ key. acting (charge_weight k) >> pure (dict_put done key v))
