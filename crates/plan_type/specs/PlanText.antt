-- The text of a plan.
use Rattle.std.specs.Prelude.{ℕ, ◌+◌, ◌≤◌, List, [], ◌∷◌, ◌++◌, max, Bool, if◌then◌else◌, codes, decimal}
use Rattle.std.specs.List.{AllByRecursion, flat_map}
use Rattle.plan_type.specs.declared.plan.Plan.{Plan, fold-Plan, every-Plan}
use Rattle.plan_type.specs.declared.plan.Plan.TheOpen.{Plan-F}
use Rattle.plan_type.specs.declared.plan.Entry.{Entry}

abbrev pub flag_of : Bool → List ℕ
flag_of hold = if hold then codes "hold" else codes "free"

-- `DEPTH NODE hold` or `DEPTH NODE free`, and a newline
unfoldable pub line_of : ℕ → ℕ → Bool → List ℕ
line_of depth node hold = decimal depth ++ (codes " " ++ (decimal node ++ (codes " " ++ (flag_of hold ++ codes "\n"))))

abbrev pub entry_lines : ℕ → Entry (ℕ → List ℕ) → List ℕ
entry_lines depth e = line_of depth e.child e.hold ++ e.rest (depth + 1)

abbrev pub layer_lines : Plan-F (ℕ → List ℕ) → ℕ → List ℕ
layer_lines d depth = flat_map (entry_lines depth) d.entries

-- a line for each entry, parents first and lists in order; the children of a plan's node stand at this depth
unfoldable pub lines_at : Plan → ℕ → List ℕ
lines_at = fold-Plan (ℕ → List ℕ) layer_lines

-- a first line, and then the entries; the children of number 0 have depth 1
unfoldable pub text_of : Plan → List ℕ
text_of p = codes "chex-plan 1\n" ++ lines_at p 1

-- how many entries stand in each other
abbrev pub deepest : List (Entry ℕ) → ℕ
deepest [] = 0
deepest (e ∷ es) = max (1 + e.rest) (deepest es)

abbrev pub layer_depth : Plan-F ℕ → ℕ
layer_depth d = deepest d.entries

unfoldable pub depth_of : Plan → ℕ
depth_of = fold-Plan ℕ layer_depth

abbrev pub LayerShort : Plan-F Plan → Type 0
LayerShort d = AllByRecursion (λ e. e.child ≤ 9999) d.entries

-- node numbers and depths have at most 4 digits
pub record IsWritable (p : Plan) : Type 0 where
  pub nodes : every-Plan LayerShort p
  pub depth : depth_of p ≤ 9999
