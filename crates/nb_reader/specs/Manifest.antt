-- The versions of a manifest, as a function of its JSON value that knows no reader.
use Rattle.std.specs.Prelude.{ℕ, ◌+◌, ◌&&◌, ◌||◌, ◌==◌, nat_le, nat_lt, List, [], ◌∷◌, ◌++◌, length, Bool, Option, Some, None, Result, Ok, Err, option_map, option_and_then, bytes_eq, codes, if◌then◌else◌}
use Rattle.std.specs.Char.{is_ascii_alphanumeric}
use Rattle.std.specs.List.{list_all, list_any}
use Rattle.std.specs.Str.{chars}
use Rattle.serde_json.specs.Data.{Data, null, boolean, number, string, array, object, Items, no_items, item, Members}
use Rattle.serde_json.specs.Events.{items_len}
use Rattle.serde_json.specs.Find.{get, as_str, as_array, as_object}
use Rattle.nb_reader.specs.Reading.{value_of, read_as}
use Rattle.nb_reader.specs.declared.fault.NbFault.{NbFault}
use Rattle.nb_reader.specs.declared.fault.NbFault.TheVariants.{NotObject, NoVersions, BadVersion, RepeatedName, TooMany}
use Rattle.nb_reader.specs.declared.fault.Counted.TheVariants as counted
use Rattle.nb_reader.specs.declared.manifest.Entry.{Entry}
use Rattle.nb_reader.specs.declared.manifest.Manifest.{Manifest}

-- an ASCII letter or digit, `_` (95), `-` (45) or `.` (46)
abbrev pub is_name_byte : ℕ → Bool
is_name_byte c = is_ascii_alphanumeric c || c == 95 || c == 45 || c == 46

-- 1 to 64 of these
abbrev pub is_version_name : List ℕ → Bool
is_version_name s = nat_lt 0 (length s) && nat_le (length s) 64 && list_all is_name_byte s

-- a text that a version's name may be
abbrev pub name_of : List ℕ → Option (List ℕ)
name_of s = if is_version_name s then Some (chars s) else None

-- a text that a file's name may be: each but the empty one
abbrev pub file_of : List ℕ → Option (List ℕ)
file_of s = if nat_lt 0 (length s) then Some (chars s) else None

-- the name of a file that need not be there: nothing and null stand for none
abbrev pub optional_file_of : Option Data → Option (Option (List ℕ))
optional_file_of None = Some None
optional_file_of (Some null) = Some None
optional_file_of (Some (boolean b)) = None
optional_file_of (Some (number n)) = None
optional_file_of (Some (string s)) = option_map Some (file_of s)
optional_file_of (Some (array ds)) = None
optional_file_of (Some (object ms)) = None

-- an element of `versions`; none where it is refused, and what is no object has no `name`
abbrev pub version_of : Data → Option Entry
version_of d =
    option_and_then (λ name.
    option_and_then (λ notebook.
    option_map (λ inputs. record { name = name; notebook = notebook; inputs = inputs }) (optional_file_of (get (codes "inputs") d)))
    (option_and_then file_of (option_and_then as_str (get (codes "notebook") d))))
    (option_and_then name_of (option_and_then as_str (get (codes "name") d)))

-- the versions that were found, before those that follow, unless there a refusal follows
abbrev pub versions_before : List Entry → Result (List Entry) NbFault → Result (List Entry) NbFault
versions_before front (Ok rest) = Ok (front ++ rest)
versions_before front (Err e) = Err e

-- what the element at this index gives, before what the elements after it give
abbrev pub with_version : ℕ → Option Entry → Result (List Entry) NbFault → Result (List Entry) NbFault
with_version index None rest = Err (BadVersion index)
with_version index (Some version) rest = versions_before (version ∷ []) rest

-- the versions of the elements, the first of which has this index, or the first refusal
abbrev pub versions_of : ℕ → Items → Result (List Entry) NbFault
versions_of index no_items = Ok []
versions_of index (item d ds) = with_version index (version_of d) (versions_of (index + 1) ds)

-- whether one of the versions has this name
abbrev pub has_name : List Entry → List ℕ → Bool
has_name versions name = list_any (λ version. bytes_eq version.name name) versions

-- the first name of the second versions that stood before, be it among the first ones
abbrev pub repeated_name : List Entry → List Entry → Option (List ℕ)
repeated_name before [] = None
repeated_name before (version ∷ rest) =
    if has_name before version.name then Some version.name else repeated_name (before ++ version ∷ []) rest

abbrev pub manifest_or_repeated : List Entry → Option (List ℕ) → Result Manifest NbFault
manifest_or_repeated versions None = Ok (record { versions = versions })
manifest_or_repeated versions (Some name) = Err (RepeatedName name)

-- the manifest of these versions, unless a name stands twice
abbrev pub distinct_of : List Entry → Result Manifest NbFault
distinct_of versions = manifest_or_repeated versions (repeated_name [] versions)

-- names are looked at where no element is refused
abbrev pub distinct : Result (List Entry) NbFault → Result Manifest NbFault
distinct (Ok versions) = distinct_of versions
distinct (Err e) = Err e

-- the elements are looked at where they are at most 64
abbrev pub limited_versions : Items → Result Manifest NbFault
limited_versions items =
    if nat_lt 64 (items_len items) then Err (TooMany counted.Versions (items_len items)) else distinct (versions_of 1 items)

-- what the list `versions` gives; none stands for anything else than a list
abbrev pub versions_or_refusal : Option Items → Result Manifest NbFault
versions_or_refusal None = Err NoVersions
versions_or_refusal (Some items) = limited_versions items

-- what a value gives; none stands for a value that is no object
abbrev pub manifest_or_refusal : Data → Option Members → Result Manifest NbFault
manifest_or_refusal d None = Err NotObject
manifest_or_refusal d (Some _) = versions_or_refusal (option_and_then as_array (get (codes "versions") d))

-- the manifest in a value, or the first refusal
abbrev pub manifest_in : Data → Result Manifest NbFault
manifest_in d = manifest_or_refusal d (as_object d)

-- the same of a file
abbrev pub manifest_of : List ℕ → Result Manifest NbFault
manifest_of bytes = read_as manifest_in (value_of bytes)
