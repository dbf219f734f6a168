-- What the bytes of an input file read as.
use Rattle.std.specs.Prelude.{◌≡◌, ◌⊎◌, ℕ, List, Option, Some, None, Result, Ok, Err, MatchResult, if◌then◌else◌}
use Rattle.std.specs.Str.{is_utf8}
use Rattle.serde_json.specs.Data.{Data}
use Rattle.serde_json.specs.Read.{read}
use Rattle.nb_reader.specs.declared.fault.NbFault.{NbFault}
use Rattle.nb_reader.specs.declared.fault.NbFault.TheVariants.{NotJson, NoMemory}

-- the value that `serde_json` states for the bytes, or none; what is not UTF-8 is no JSON (RFC 8259)
unfoldable pub value_of : List ℕ → Option Data
value_of bytes = if is_utf8 bytes then read bytes else None

-- what a format makes of the value; bytes that are no value are `NotJson`
abbrev pub read_as : {T : Type 0} → (Data → Result T NbFault) → Option Data → Result T NbFault
read_as format None = Err NotJson
read_as format (Some d) = format d

-- unless memory was wanting, the result is what the bytes read as: each refusal comes exactly where it is theirs
abbrev pub IsReading : {T : Type 0} → Result T NbFault → Result T NbFault → Type 0
IsReading result reading = MatchResult result (λ x. reading ≡ Ok x) (λ e. (e ≡ NoMemory) ⊎ (reading ≡ Err e))
