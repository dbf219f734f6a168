-- The first entry that may not stand where it stands, and the first one that is held past the budget.
use Rattle.std.specs.Prelude.{ℕ, ◌+◌, ◌-◌, List, [], ◌∷◌, length, Bool, false, not, ◌&&◌, ◌||◌, ◌==◌, nat_lt, if◌then◌else◌, Option, Some, None}
use Rattle.std.specs.List.{find, range_with_len}
use Rattle.plan_type.specs.declared.costs.Costs.{Costs}
use Rattle.plan_type.specs.Costs.{row_of, is_child_in, is_reached_in}
use Rattle.plan_checker.specs.declared.line.Line.{Line}

-- The entries before a line stand latest first.

-- the node of the last entry of a depth; 0 where there is none, and at depth 0
abbrev pub last_at : ℕ → List Line → ℕ
last_at depth [] = 0
last_at depth (line ∷ before) = if line.depth == depth then line.node else last_at depth before

-- the last entry one level up
abbrev pub parent_at : Line → List Line → ℕ
parent_at line before = last_at (line.depth - 1) before

abbrev pub stands : ℕ → List Line → Bool
stands v [] = false
stands v (line ∷ lines) = (line.node == v) || stands v lines

-- ---- the class

abbrev pub is_wrong : Costs → List Line → Line → Bool
is_wrong costs before line = not (is_child_in (parent_at line before) (row_of costs line.node)) || stands line.node before

-- the node of the first entry that is no reached child of the last entry one level up, or whose node stood before
abbrev pub first_wrong : Costs → List Line → List Line → Option ℕ
first_wrong costs before [] = None
first_wrong costs before (line ∷ lines) = if is_wrong costs before line then Some line.node else first_wrong costs (line ∷ before) lines

-- the least reached node that stands nowhere
abbrev pub least_missing : Costs → List Line → Option ℕ
least_missing costs lines = find (λ v. is_reached_in (row_of costs v) && not (stands v lines)) (range_with_len 1 (length costs.rows))

abbrev pub or_else : Option ℕ → Option ℕ → Option ℕ
or_else (Some v) other = Some v
or_else None other = other

unfoldable pub wrong_child : Costs → List Line → Option ℕ
wrong_child costs lines = or_else (first_wrong costs [] lines) (least_missing costs lines)

-- ---- the budget

-- the blocks held under the last entry of a depth: its parent's where it holds, and those held under its parent
abbrev pub held_at : (ℕ → ℕ) → ℕ → List Line → ℕ
held_at blocks depth [] = 0
held_at blocks depth (line ∷ before) =
    if line.depth == depth then (if line.hold then blocks (parent_at line before) else 0) + held_at blocks (depth - 1) before else held_at blocks depth before

-- the first held node with which the held blocks pass the most, and their sum
abbrev pub first_over : (ℕ → ℕ) → ℕ → List Line → List Line → Option (ℕ × ℕ)
first_over blocks most before [] = None
first_over blocks most before (line ∷ lines) =
    if line.hold && nat_lt most (held_at blocks line.depth (line ∷ before))
    then Some (parent_at line before, held_at blocks line.depth (line ∷ before))
    else first_over blocks most (line ∷ before) lines
