-- The distinct beginnings of versions.
use Rattle.std.specs.Prelude.{ℕ, ◌+◌, Bool, not, List, [], ◌∷◌, ◌++◌, map, filter, flat_map}
use Rattle.std.specs.List.{position_or_len}
use Rattle.star_syntax.specs.CellParts.{CellParts}
use Rattle.exec_tree.specs.Keys.{InputMap, Key, key_of, same_keys}
use Rattle.exec_tree.specs.declared.checked.Checked.{Checked}

-- ---- prefixes

-- the keys of a version's cells
abbrev pub keys_of : Checked → List Key
keys_of version = map (key_of version.inputs) version.cells

-- a version's first cells, at least one: the keys of those above the last, the last cell, and the version's inputs
pub record Prefix : Type 0 where
  pub above : List Key
  pub cell : CellParts
  pub inputs : InputMap

-- the key of the last cell
abbrev pub last_key : Prefix → Key
last_key p = key_of p.inputs p.cell

-- the keys of all cells
abbrev pub keys : Prefix → List Key
keys p = p.above ++ last_key p ∷ []

-- prefixes are told apart by their keys
abbrev pub same_prefix : Prefix → Prefix → Bool
same_prefix p q = same_keys (keys p) (keys q)

-- the prefixes that end in these cells, which stand below cells with these keys; the shortest first
unfoldable pub prefixes_below : InputMap → List Key → List CellParts → List Prefix
prefixes_below inputs above [] = []
prefixes_below inputs above (cell ∷ cells) =
    record { above = above; cell = cell; inputs = inputs } ∷ prefixes_below inputs (above ++ key_of inputs cell ∷ []) cells

-- the prefixes of a version
abbrev pub prefixes_of : Checked → List Prefix
prefixes_of version = prefixes_below version.inputs [] version.cells

-- ---- distinct prefixes

-- the items that are the same as none before them, in order
unfoldable pub firsts : {X : Type 0} → (X → X → Bool) → List X → List X
firsts same [] = []
firsts same (x ∷ xs) = x ∷ filter (λ y. not (same x y)) (firsts same xs)

-- The distinct prefixes of versions in the order in which they first appear, by version and then by cell. Each is
-- taken from the first version that has it.
unfoldable pub prefixes : List Checked → List Prefix
prefixes versions = firsts same_prefix (flat_map prefixes_of versions)

-- the number of the prefix with these keys, from 1 on; no keys have number 0
unfoldable pub number_of : List Prefix → List Key → ℕ
number_of all [] = 0
number_of all (key ∷ more) = 1 + position_or_len (λ p. same_keys (key ∷ more) (keys p)) all
