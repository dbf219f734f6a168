-- Which nodes a program has.
use Rattle.std.proofs.Common.{◌≡◌, ℕ, zero, suc, ◌<◌, ◌≤◌, List, [], ◌∷◌, length, slice_get, is_some, true, refl, arith}
use Rattle.star_syntax.specs.Cells.{numbered}

place_there : {X : Type 0} (items : List X) (place : ℕ) → place < length items → is_some (slice_get items place) ≡ true
place_there [] place below = absurd (omega arith)
place_there (x ∷ xs) zero below = refl
place_there (x ∷ xs) (suc place) below = place_there xs place (omega arith)

-- each number from 1 to the count of the cells
pub node_there : {X : Type 0} (items : List X) (node : ℕ) → 1 ≤ node → node ≤ length items → is_some (numbered items node) ≡ true
node_there items zero least within = absurd (omega arith)
node_there items (suc place) least within = place_there items place (omega arith)
