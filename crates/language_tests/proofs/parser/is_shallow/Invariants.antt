use Rattle.std.proofs.Common.{◌+◌, ◌≤◌, drop}
use Rattle.star_syntax.specs.Nesting.{IsShallow, IsShallowFrom}
use Rattle.language_tests.proofs.parser.is_shallow.Given as goal

-- what is shallow from here on is shallow from the start
abbrev pub invariant-loop-spanned : goal.invariant-loop-spanned
invariant-loop-spanned l = (l.brackets + l.columns ≤ 32) × (IsShallowFrom (l.brackets, l.columns) (drop l.spanned-index l.tokens) → IsShallow l.tokens)
