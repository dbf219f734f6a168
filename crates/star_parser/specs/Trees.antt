-- The tree of a cell's tokens, and the place where there is none.
use Rattle.std.specs.Prelude.{◌≡◌, ◌<◌, ◌+◌, ℕ, ◌++◌, length, take}
use Rattle.star_syntax.specs.declared.statement.Module.{Module}
use Rattle.star_syntax.specs.Levels.{WellLevelled}
use Rattle.star_syntax.specs.Spelling.{Tokens, spelling}
use Rattle.star_parser.specs.Lines.{lines_of, StandOn}
use Rattle.star_parser.specs.Reading.{Input, kinds}

-- The tree's operands have the levels of the grammar, the tokens are its spelling,
-- and the line of each of its statements is the line of the statement's first token.
abbrev pub IsTree : Module → Input → Type 0
IsTree cell tokens = WellLevelled cell × (kinds tokens ≡ spelling cell) × StandOn (lines_of cell) tokens

-- some well-levelled tree, whatever its lines, is spelled with these tokens
abbrev pub AreSpelled : Tokens → Type 0
AreSpelled tokens = (cell : Module) × WellLevelled cell × (spelling cell ≡ tokens)

-- the tokens begin the spelling of some well-levelled tree
abbrev pub Begins : Tokens → Type 0
Begins tokens = (cell : Module) × (more : Tokens) × WellLevelled cell × (spelling cell ≡ tokens ++ more)

-- The first token with which no tree can go on: the tokens before the place begin a tree, and those up to it begin none.
pub record IsLeast (place : ℕ) (tokens : Tokens) : Type 0 where
  pub within : place < length tokens
  pub viable : Begins (take place tokens)
  pub dead : Begins (take (place + 1) tokens) → ⊥
