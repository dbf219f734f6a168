-- The lines of a plan text, and its first faulty line.
use Rattle.std.specs.Prelude.{ℕ, ◌≡◌, ◌≢◌, ◌≤◌, ◌+◌, List, [], ◌∷◌, ◌++◌, length, false, codes, ◌⊎◌}
use Rattle.std.specs.List.{flat_map}
use Rattle.plan_type.specs.PlanText.{line_of}
use Rattle.plan_checker.specs.declared.line.Line.{Line}

-- ---- good lines

-- numbers have at most 4 digits
pub record IsSmall (line : Line) : Type 0 where
  pub depth : line.depth ≤ 9999
  pub node : line.node ≤ 9999

-- what a good line says after an entry of the depth `before`, 0 for none: it stands at most one level deeper, and number 0 is not held
pub record Follows (before : ℕ) (line : Line) : Type 0 where
  pub small : IsSmall line
  pub some : 1 ≤ line.depth
  pub step : line.depth ≤ before + 1
  pub root : line.depth ≡ 1 → line.hold ≡ false

-- each line follows the one before it
abbrev pub AllFollow : ℕ → List Line → Type 0
AllFollow before [] = Unit {0}
AllFollow before (line ∷ lines) = Follows before line × AllFollow line.depth lines

abbrev pub last_depth : ℕ → List Line → ℕ
last_depth before [] = before
last_depth before (line ∷ lines) = last_depth line.depth lines

-- `DEPTH NODE hold` or `DEPTH NODE free`, and a newline
abbrev pub spelled : Line → List ℕ
spelled line = line_of line.depth line.node line.hold

unfoldable pub head : List ℕ
head = codes "chex-plan 1\n"

-- ---- a text

-- the text is the first line and these lines, all of them good
pub record IsRead (text : List ℕ) (lines : List Line) : Type 0 where
  pub is : text ≡ head ++ flat_map spelled lines
  pub follow : AllFollow 0 lines

-- the first line and these lines are good, something stands after them, and it begins with no good line
pub record StopsAfter (text : List ℕ) (lines : List Line) : Type 0 where
  pub rest : List ℕ
  pub is : text ≡ head ++ flat_map spelled lines ++ rest
  pub follow : AllFollow 0 lines
  pub some : rest ≢ []
  pub stops : (line : Line) (more : List ℕ) → Follows (last_depth 0 lines) line → rest ≢ spelled line ++ more

-- the number of the first faulty line
abbrev pub IsFaultyLine : List ℕ → ℕ → Type 0
IsFaultyLine text number = ((number ≡ 1) × ((rest : List ℕ) → text ≢ head ++ rest)) ⊎ ((lines : List Line) × StopsAfter text lines × (number ≡ length lines + 2))
