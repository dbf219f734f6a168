-- Places that are kept as they are.
use Rattle.std.proofs.Common.{◌≡◌, ℕ, Option, Some, None, refl}
use Rattle.std.specs.Prelude.{option_map}

pub option_same : (o : Option ℕ) → option_map (λ c. c) o ≡ o
option_same (Some c) = refl
option_same None = refl
