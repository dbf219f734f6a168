-- What a name stands for.
use Rattle.std.specs.Prelude.{◌≡◌, Option, Some, None}
use Rattle.star_value.specs.declared.value.Value.{Value}
use Rattle.star_value.specs.declared.value.Value.TheVariants as value
use Rattle.star_run.specs.declared.lookups.Found.{Found}
use Rattle.star_run.specs.declared.lookups.Found.TheVariants.{Held, Builtin, Nowhere}

abbrev pub Finds : Option Value → Found → Type 0
Finds there (Held v) = there ≡ Some v.now
Finds there (Builtin which) = there ≡ Some (value.Builtin which)
Finds there Nowhere = there ≡ None
