-- What a function that reads ensures: the outcome of the reader, unless memory fails. Where it refuses, the cursor stands at the refused token.
use Rattle.std.specs.Prelude.{◌≡◌, ◌≢◌, Result, Ok, Err}
use Rattle.star_parser.specs.declared.fault.Fault.{Fault}
use Rattle.star_parser.specs.declared.fault.Fault.TheVariants.{NoMemory}
use Rattle.star_parser.specs.Reading.{Input, Outcome}

abbrev pub Reads : {A : Type 0} → Outcome A → Result A Fault → Input → Type 0
Reads outcome (Ok a) left = outcome ≡ Ok (a, left)
Reads outcome (Err e) left = e ≢ NoMemory → outcome ≡ Err left
