-- The lines that tell a plan.
use Rattle.std.specs.Prelude.{ℕ, ◌+◌, ◌≤◌, ◌==◌, Bool, false, List, [], ◌∷◌}
use Rattle.std.specs.List.{flat_map}
use Rattle.plan_type.specs.declared.plan.Plan.{Plan, fold-Plan}
use Rattle.plan_type.specs.declared.plan.Plan.TheOpen.{Plan-F}
use Rattle.plan_type.specs.declared.plan.Entry.{Entry}
use Rattle.plan_checker.specs.declared.line.Line.{Line}
use Rattle.plan_checker.specs.Lines.{IsSmall, AllFollow}

abbrev pub entry_listed : ℕ → Entry (ℕ → List Line) → List Line
entry_listed depth e = record { depth = depth; node = e.child; hold = e.hold } ∷ e.rest (depth + 1)

abbrev pub layer_listed : Plan-F (ℕ → List Line) → ℕ → List Line
layer_listed d depth = flat_map (entry_listed depth) d.entries

-- a line for each entry, parents first and lists in order; the children of a plan's node stand at this depth
unfoldable pub lines_of : Plan → ℕ → List Line
lines_of = fold-Plan (ℕ → List Line) layer_listed

-- ---- reading a plan from lines

-- nothing stands here, or a line of at most this depth
abbrev pub IsUnder : ℕ → List Line → Type 0
IsUnder most [] = Unit {0}
IsUnder most (line ∷ lines) = line.depth ≤ most

-- whether a line of this depth stands here
abbrev pub is_at : ℕ → List Line → Bool
is_at depth [] = false
is_at depth (line ∷ lines) = line.depth == depth

-- each line but the first follows the one before it
abbrev pub IsChain : List Line → Type 0
IsChain [] = Unit {0}
IsChain (line ∷ lines) = IsSmall line × AllFollow line.depth lines
