-- The statuses and the lines of refusals. File names and names of inputs are given by their code points, and lines by their bytes.
use Rattle.std.specs.Prelude.{ℕ, List, [], ◌++◌, Option, Some, None, codes}
use Rattle.std.specs.Fmt.{decimal}
use Rattle.std.specs.Str.{encode_utf8_all}
use Rattle.chex_base.specs.declared.status.Status.{Status}
use Rattle.chex_base.specs.declared.status.Status.TheVariants as status
use Rattle.nb_reader.specs.declared.fault.NbFault.{NbFault}
use Rattle.nb_reader.specs.declared.fault.NbFault.TheVariants.{NotJson, NotObject, WrongFormat, NoCells, BadCell, NoVersions, BadVersion, RepeatedName, BadInput, TooMany}
use Rattle.nb_reader.specs.declared.fault.NbFault.TheVariants as fault
use Rattle.nb_reader.specs.declared.fault.Counted.{Counted}
use Rattle.nb_reader.specs.declared.fault.Counted.TheVariants as count
use Rattle.chex_top.specs.declared.refusal.Refusal.{Refusal}
use Rattle.chex_top.specs.declared.refusal.Refusal.TheVariants.{Usage, Absent, ReadFailed, BadFile}
use Rattle.chex_top.specs.declared.refusal.Refusal.TheVariants as refusal
use Rattle.chex_top.specs.BadCells as cells

-- a count that passes its limit has a status of its own
abbrev pub file_status : NbFault → Status
file_status (TooMany what count) = status.TooMany
file_status NotJson = status.BadFile
file_status NotObject = status.BadFile
file_status (WrongFormat found) = status.BadFile
file_status NoCells = status.BadFile
file_status (BadCell index) = status.BadFile
file_status NoVersions = status.BadFile
file_status (BadVersion index) = status.BadFile
file_status (RepeatedName name) = status.BadFile
file_status (BadInput name) = status.BadFile
file_status fault.NoMemory = status.BadFile

abbrev pub status_of : Refusal → Status
status_of Usage = status.Usage
status_of (Absent file) = status.Absent
status_of (ReadFailed file) = status.ReadFault
status_of (BadFile file fault) = file_status fault
status_of (refusal.BadCell bad) = status.BadCell
status_of (refusal.TooManyNodes count) = status.TooMany
status_of (refusal.TooManyBlocks count) = status.TooMany
status_of refusal.NoMemory = status.NoMemory

-- what was counted, in words
unfoldable pub counted : Counted → List ℕ
counted count.Bytes = codes "bytes"
counted count.Versions = codes "versions"
counted count.CodeCells = codes "code cells"
counted count.Inputs = codes "inputs"
counted count.CellBytes = codes "cell bytes"

abbrev pub format_reason : Option ℕ → List ℕ
format_reason None = codes "no format"
format_reason (Some found) = codes "format " ++ decimal found

abbrev pub repeated_reason : List ℕ → List ℕ
repeated_reason name = codes "repeated name " ++ name

abbrev pub input_reason : List ℕ → List ℕ
input_reason name = codes "bad input " ++ name

abbrev pub count_reason : List ℕ → ℕ → List ℕ
count_reason what count = codes "too many " ++ what ++ codes ": " ++ decimal count

-- what is wrong with a file, in words; want of memory is no reason of a file
unfoldable pub reason : NbFault → List ℕ
reason NotJson = codes "not json"
reason NotObject = codes "not an object"
reason (WrongFormat found) = format_reason found
reason NoCells = codes "no cells"
reason (BadCell index) = codes "bad cell " ++ decimal index
reason NoVersions = codes "no versions"
reason (BadVersion index) = codes "bad version " ++ decimal index
reason (RepeatedName name) = repeated_reason (encode_utf8_all name)
reason (BadInput name) = input_reason (encode_utf8_all name)
reason (TooMany what count) = count_reason (counted what) count
reason fault.NoMemory = codes "no memory"

abbrev pub absent_line : List ℕ → List ℕ
absent_line file = codes "error: absent " ++ file ++ codes "\n"

abbrev pub failed_line : List ℕ → List ℕ
failed_line file = codes "error: reading " ++ file ++ codes " failed\n"

abbrev pub bad_line : List ℕ → List ℕ → List ℕ
bad_line file why = codes "error: " ++ file ++ codes ": " ++ why ++ codes "\n"

abbrev pub nodes_line : ℕ → List ℕ
nodes_line count = codes "error: too many nodes: " ++ decimal count ++ codes "\n"

abbrev pub blocks_line : ℕ → List ℕ
blocks_line count = codes "error: too many blocks: " ++ decimal count ++ codes "\n"

-- the one line that is written for a refusal; nothing is written where memory was wanting
unfoldable pub line_of : Refusal → List ℕ
line_of Usage = codes "error: usage\n"
line_of (Absent file) = absent_line (encode_utf8_all file)
line_of (ReadFailed file) = failed_line (encode_utf8_all file)
line_of (BadFile file fault) = bad_line (encode_utf8_all file) (reason fault)
line_of (refusal.BadCell bad) = cells.line_of bad
line_of (refusal.TooManyNodes count) = nodes_line count
line_of (refusal.TooManyBlocks count) = blocks_line count
line_of refusal.NoMemory = []
