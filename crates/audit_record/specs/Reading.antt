-- What a record says, as a function of its JSON value that knows no reader.
use Rattle.std.specs.Prelude.{◌≡◌, ◌⊎◌, ◌≤◌, ◌^◌, ℕ, ◌==◌, nat_lt, List, [], ◌∷◌, Option, Some, None, Result, Ok, Err, option_map, option_and_then, bytes_eq, codes, All, MatchResult, if◌then◌else◌}
use Rattle.std.specs.Char.{is_ascii_uppercase}
use Rattle.std.specs.List.{list_any}
use Rattle.std.specs.Result.{result_ok}
use Rattle.std.specs.Str.{is_utf8}
use Rattle.serde_json.specs.Data.{Data, Items, no_items, item}
use Rattle.serde_json.specs.Find.{get, as_array, as_number, as_str, as_u64}
use Rattle.serde_json.specs.Read.{read}
use Rattle.hex.specs.Hex.{decode_sized}
use Rattle.plan_type.specs.Costs.{IsSound}
use Rattle.plan_type.specs.declared.row.Reach.{Reach}
use Rattle.plan_type.specs.declared.row.Reach.TheVariants.{Done, Failed, Unreached}
use Rattle.plan_type.specs.declared.row.Row.{Row}
use Rattle.audit_record.specs.declared.recorded.Recorded.{Recorded}
use Rattle.audit_record.specs.declared.fault.RecordFault.{RecordFault}
use Rattle.audit_record.specs.declared.fault.RecordFault.TheVariants.{NotRecord, OldRecord, Stale, NoMemory, WrongParent}

-- ---- fields; what is no object has none

-- an integer from 0 on that fits 64 bits
abbrev pub number_at : List ℕ → Data → Option ℕ
number_at name d = option_and_then as_u64 (option_and_then as_number (get name d))

abbrev pub text_at : List ℕ → Data → Option (List ℕ)
text_at name d = option_and_then as_str (get name d)

abbrev pub items_at : List ℕ → Data → Option Items
items_at name d = option_and_then as_array (get name d)

-- 32 bytes, written as 64 lower-case hexadecimal digits
abbrev pub digest_of : List ℕ → Option (List ℕ)
digest_of digits = if list_any is_ascii_uppercase digits then None else result_ok (decode_sized digits 32)

abbrev pub digest_at : List ℕ → Data → Option (List ℕ)
digest_at name d = option_and_then digest_of (text_at name d)

abbrev pub end_of : List ℕ → Option Reach
end_of text =
    if bytes_eq text (codes "done") then Some Done
    else if bytes_eq text (codes "failed") then Some Failed
    else if bytes_eq text (codes "unreached") then Some Unreached
    else None

-- the number of a node fits 32 bits
abbrev pub node_of : ℕ → Option ℕ
node_of n = if nat_lt n (2 ^ 32) then Some n else None

-- ---- nodes

-- a row, whose numbers are not looked at here
abbrev pub row_of : Data → Option Row
row_of d =
    option_and_then (λ parent.
    option_and_then (λ end.
    option_and_then (λ steps.
    option_and_then (λ bytes.
    option_map (λ text. record { parent = parent; end = end; steps = steps; bytes = bytes; text = text }) (digest_at (codes "text") d))
    (number_at (codes "bytes") d))
    (number_at (codes "steps") d))
    (option_and_then end_of (text_at (codes "end") d)))
    (option_and_then node_of (number_at (codes "parent") d))

-- a node: the digest of its key, and its row
abbrev pub node_in : Data → Option (List ℕ × Row)
node_in d = option_and_then (λ key. option_map (λ row. (key, row)) (row_of d)) (digest_at (codes "key") d)

-- the digests and the rows of all nodes; none where one of them is no node
abbrev pub nodes_in : Items → Option (List (List ℕ) × List Row)
nodes_in no_items = Some ([], [])
nodes_in (item d ds) = option_and_then (λ node. option_map (λ rest. (node.0 ∷ rest.0, node.1 ∷ rest.1)) (nodes_in ds)) (node_in d)

-- ---- the whole

-- what has the shape of a record, without its format and version
abbrev pub body_in : Data → Option Recorded
body_in d =
    option_and_then (λ allowance.
    option_map (λ nodes. record { costs = record { rows = nodes.1 }; keys = nodes.0; allowance = allowance })
    (option_and_then nodes_in (items_at (codes "nodes") d)))
    (number_at (codes "steps") d)

abbrev pub or_no_record : Option Recorded → Result Recorded RecordFault
or_no_record None = Err NotRecord
or_no_record (Some recorded) = Ok recorded

-- the rest is looked at where the version is the wanted one
abbrev pub of_version : ℕ → Option ℕ → Result Recorded RecordFault → Result Recorded RecordFault
of_version wanted None rest = Err NotRecord
of_version wanted (Some found) rest = if found == wanted then rest else Err (OldRecord found)

-- the version is looked at where the format is `chex-record`
abbrev pub of_format : Option (List ℕ) → Result Recorded RecordFault → Result Recorded RecordFault
of_format None rest = Err NotRecord
of_format (Some format) rest = if bytes_eq format (codes "chex-record") then rest else Err NotRecord

-- the record of this version in a value, by its shape alone
unfoldable pub recorded_in : ℕ → Data → Result Recorded RecordFault
recorded_in version d = of_format (text_at (codes "format") d) (of_version version (number_at (codes "version") d) (or_no_record (body_in d)))

-- the value that `serde_json` states for the bytes, or none; what is not UTF-8 is no JSON (RFC 8259)
unfoldable pub value_of : List ℕ → Option Data
value_of bytes = if is_utf8 bytes then read bytes else None

abbrev pub read_as : (Data → Result Recorded RecordFault) → Option Data → Result Recorded RecordFault
read_as format None = Err NotRecord
read_as format (Some d) = format d

-- the same of a file
abbrev pub recorded_of : ℕ → List ℕ → Result Recorded RecordFault
recorded_of version bytes = read_as (recorded_in version) (value_of bytes)

-- unless memory was wanting, the result is the record by its shape
abbrev pub IsReading : Result Recorded RecordFault → Result Recorded RecordFault → Type 0
IsReading result shape = MatchResult result (λ recorded. shape ≡ Ok recorded) (λ e. (e ≡ NoMemory) ⊎ (shape ≡ Err e))

-- ---- rules

-- the costs are sound, the step bound is within its limits, and no row has more steps
pub record IsKept (recorded : Recorded) : Type 0 where
  pub sound : IsSound recorded.costs
  pub least : 1 ≤ recorded.allowance
  pub most : recorded.allowance ≤ 1000000
  pub within : All (λ (row : Row). row.steps ≤ recorded.allowance) recorded.costs.rows

-- what may be answered where this is the record by its shape
abbrev pub IsAnswer : Result Recorded RecordFault → Result Recorded RecordFault → Type 0
IsAnswer shape (Ok recorded) = (shape ≡ Ok recorded) × IsKept recorded
IsAnswer shape (Err NotRecord) = (shape ≡ Err NotRecord) ⊎ ((recorded : Recorded) × (shape ≡ Ok recorded) × (IsKept recorded → ⊥))
IsAnswer shape (Err (OldRecord version)) = shape ≡ Err (OldRecord version)
IsAnswer shape (Err (Stale node recorded found)) = ⊥
IsAnswer shape (Err (WrongParent node recorded found)) = ⊥
IsAnswer shape (Err NoMemory) = Unit {0}
