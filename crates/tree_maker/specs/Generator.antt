-- The versions that a number makes. Each draw renews a word of 64 bits; so the word after so many
-- draws is known from the first one, and each cell is told by the word that stands before it.
use Rattle.std.specs.Prelude.{ℕ, zero, suc, ◌+◌, ◌-◌, ◌*◌, ◌/◌, ◌%◌, ◌^◌, List, [], ◌∷◌, ◌++◌, map, take, get_or, length, ◌==◌, if◌then◌else◌, codes, decimal}
use Rattle.std.specs.List.{range_with_len}
use Rattle.tree_maker.specs.declared.version.Version.{Version}

-- ---- draws

-- the word after this one
unfoldable pub next : ℕ → ℕ
next x = (x * 6364136223846793005 + 1442695040888963407) % 2 ^ 64

-- the word after so many draws from this one
unfoldable pub word_after : ℕ → ℕ → ℕ
word_after x zero = x
word_after x (suc draws) = next (word_after x draws)

-- what a word gives among the numbers below n
unfoldable pub among : ℕ → ℕ → ℕ
among n x = x / 2 ^ 33 % n

-- ---- cells

-- the cell with number k: it makes a list of s items and prints its length and its first item
unfoldable pub cell_text : ℕ → ℕ → ℕ → List ℕ
cell_text k s m =
    codes "l" ++ (decimal m ++ (codes " = [" ++ (decimal k ++ (codes " + i for i in range(" ++ (decimal s ++ (codes ")]\nprint(len(l" ++ (decimal m ++ (codes "), l" ++ (decimal m ++ codes "[0])")))))))))

-- the fresh cell with number k, where this word stands before its two draws: the first gives the
-- size, from 1 to 50, and the second the number of the list's name
abbrev pub fresh_cell : ℕ → ℕ → List ℕ
fresh_cell x k = cell_text k (1 + among 50 (next x)) (among 4 (next (next x)))

-- n fresh cells with the numbers from k on, each two draws after the one before it
unfoldable pub fresh_cells : ℕ → ℕ → ℕ → List (List ℕ)
fresh_cells x k n = map (λ j. fresh_cell (word_after x (2 * j)) (k + j)) (range_with_len 0 n)

-- ---- a version, by the word before its first draw

-- Each version but the first draws the number of an earlier version, and then how many of its own
-- cells are the first cells of that version.

-- how many cells version i has from an earlier one
abbrev pub copied : ℕ → ℕ → ℕ → ℕ
copied x cells i = if i == 0 then 0 else among cells (next (next x))

-- the cells that it has from an earlier one
abbrev pub kept : ℕ → ℕ → List (List (List ℕ)) → List (List ℕ)
kept x cells earlier =
    if length earlier == 0 then [] else take (among cells (next (next x))) (get_or earlier (among (length earlier) (next x)) [])

-- the word after these draws
abbrev pub word_at_cells : ℕ → ℕ → ℕ
word_at_cells x i = if i == 0 then x else next (next x)

-- its sources, where k fresh cells stand in the versions before it
unfoldable pub sources_of : ℕ → ℕ → ℕ → List (List (List ℕ)) → List (List ℕ)
sources_of x k cells earlier =
    kept x cells earlier ++ fresh_cells (word_at_cells x (length earlier)) (k + 1) (cells - copied x cells (length earlier))

-- ---- all versions

-- the word before version i, where k fresh cells stand in the versions before it: each of these
-- cells took two draws, and so did each version before it but the first
abbrev pub word_before : ℕ → ℕ → ℕ → ℕ
word_before seed i k = word_after seed (2 * (k + (i - 1)))

-- how many fresh cells stand before version i
unfoldable pub fresh_before : ℕ → ℕ → ℕ → ℕ
fresh_before seed cells zero = 0
fresh_before seed cells (suc i) =
    fresh_before seed cells i + (cells - copied (word_before seed i (fresh_before seed cells i)) cells i)

abbrev pub name_of : ℕ → List ℕ
name_of i = codes "v" ++ decimal i

-- the first n versions, which are named by their numbers from 0
unfoldable pub made : ℕ → ℕ → ℕ → List Version
made seed cells zero = []
made seed cells (suc i) =
    made seed cells i
    ++ record { name = name_of i; sources = sources_of (word_before seed i (fresh_before seed cells i)) (fresh_before seed cells i) cells (map (λ v. v.sources) (made seed cells i)) } ∷ []
