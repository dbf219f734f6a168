-- The sources of a notebook (nbformat 4), as a function of its JSON value that knows no reader.
use Rattle.std.specs.Prelude.{ℕ, ◌≤◌, ◌+◌, ◌==◌, nat_lt, List, [], ◌∷◌, ◌++◌, length, Option, Some, None, Result, Ok, Err, option_map, option_and_then, bytes_eq, codes, if◌then◌else◌, string_bytes}
use Rattle.std.specs.Option.{option_or}
use Rattle.std.specs.List.{AllByRecursion}
use Rattle.std.specs.Str.{chars, encode_utf8_all}
use Rattle.serde_json.specs.Data.{Data, Items, no_items, item, Members}
use Rattle.serde_json.specs.Find.{get, as_str, as_number, as_u64, as_array, as_object}
use Rattle.nb_reader.specs.Reading.{value_of, read_as}
use Rattle.nb_reader.specs.declared.fault.NbFault.{NbFault}
use Rattle.nb_reader.specs.declared.fault.NbFault.TheVariants.{NotObject, WrongFormat, NoCells, BadCell, TooMany}
use Rattle.nb_reader.specs.declared.fault.Counted.TheVariants.{CodeCells, CellBytes}
use Rattle.nb_reader.specs.declared.notebook.Cell.{Cell}
use Rattle.nb_reader.specs.declared.notebook.Cell.TheVariants.{Bad, Other, Code}

-- the texts of a list with nothing between them; none where something else stands among them
abbrev pub texts_of : Items → Option (List ℕ)
texts_of no_items = Some []
texts_of (item d ds) = option_and_then (λ s. option_map (λ rest. s ++ rest) (texts_of ds)) (as_str d)

-- a text, or the joined texts of a list; none where it is neither
abbrev pub source_of : Data → Option (List ℕ)
source_of d = option_or (as_str d) (option_and_then texts_of (as_array d))

-- an element whose `cell_type` is this text: none where it is refused, and otherwise its source
-- where it is a code cell
abbrev pub cell_of_kind : Data → List ℕ → Option (Option (List ℕ))
cell_of_kind d kind =
    if bytes_eq kind (codes "code") then option_map Some (option_and_then source_of (get (codes "source") d))
    else if bytes_eq kind (codes "markdown") then Some None
    else if bytes_eq kind (codes "raw") then Some None
    else None

-- an element of `cells`, in the same way; what is no object has no `cell_type`
abbrev pub cell_of : Data → Option (Option (List ℕ))
cell_of d = option_and_then (cell_of_kind d) (option_and_then as_str (get (codes "cell_type") d))

-- what the code keeps of an element
abbrev pub cell_view : Cell → Option (Option (List ℕ))
cell_view Bad = None
cell_view Other = Some None
cell_view (Code s) = Some (Some (string_bytes s))

-- the sources that were found, before those that follow, unless there a refusal follows
abbrev pub before_all : List (List ℕ) → Result (List (List ℕ)) NbFault → Result (List (List ℕ)) NbFault
before_all front (Ok rest) = Ok (front ++ rest)
before_all front (Err e) = Err e

-- what the element at this index gives, before what the elements after it give
abbrev pub with_cell : ℕ → Option (Option (List ℕ)) → Result (List (List ℕ)) NbFault → Result (List (List ℕ)) NbFault
with_cell index None rest = Err (BadCell index)
with_cell index (Some None) rest = rest
with_cell index (Some (Some s)) rest =
    if nat_lt 65536 (length s) then Err (TooMany CellBytes (length s)) else before_all (chars s ∷ []) rest

-- the sources of the elements, the first of which has this index, or the first refusal
abbrev pub cells_of : ℕ → Items → Result (List (List ℕ)) NbFault
cells_of index no_items = Ok []
cells_of index (item d ds) = with_cell index (cell_of d) (cells_of (index + 1) ds)

-- the sources, unless they are more than 64
abbrev pub limited_to : List (List ℕ) → Result (List (List ℕ)) NbFault
limited_to sources = if nat_lt 64 (length sources) then Err (TooMany CodeCells (length sources)) else Ok sources

-- that limit is looked at where no element is refused
abbrev pub limited : Result (List (List ℕ)) NbFault → Result (List (List ℕ)) NbFault
limited (Ok sources) = limited_to sources
limited (Err e) = Err e

-- what the list `cells` gives; none stands for anything else than a list
abbrev pub cells_or_refusal : Option Items → Result (List (List ℕ)) NbFault
cells_or_refusal None = Err NoCells
cells_or_refusal (Some items) = limited (cells_of 1 items)

-- the rest is looked at where `nbformat` is 4; none stands for anything else than an integer from
-- 0 up
abbrev pub checked_format : Option ℕ → Result (List (List ℕ)) NbFault → Result (List (List ℕ)) NbFault
checked_format None rest = Err (WrongFormat None)
checked_format (Some n) rest = if n == 4 then rest else Err (WrongFormat (Some n))

-- what a value gives; none stands for a value that is no object
abbrev pub object_or_refusal : Data → Option Members → Result (List (List ℕ)) NbFault
object_or_refusal d None = Err NotObject
object_or_refusal d (Some _) =
    checked_format (option_and_then as_u64 (option_and_then as_number (get (codes "nbformat") d)))
    (cells_or_refusal (option_and_then as_array (get (codes "cells") d)))

-- the sources of a notebook's code cells, or the first refusal
abbrev pub sources_of : Data → Result (List (List ℕ)) NbFault
sources_of d = object_or_refusal d (as_object d)

-- the same of a file
abbrev pub notebook_of : List ℕ → Result (List (List ℕ)) NbFault
notebook_of bytes = read_as sources_of (value_of bytes)

-- each source has at most 65,536 bytes
abbrev pub AreShort : List (List ℕ) → Type 0
AreShort sources = AllByRecursion (λ source. length (encode_utf8_all source) ≤ 65536) sources
