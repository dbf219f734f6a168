-- The levels of the grammar of docs/LANGUAGE.md, and the trees whose operands have the levels that it asks for.
use Rattle.std.specs.Prelude.{◌≡◌, ◌≢◌, ℕ, ◌<◌, ◌≤◌, Bool, true, false, ◌&&◌, List, [], ◌∷◌, ◌++◌, map, Option, Some, None}
use Rattle.std.specs.List.{AllByRecursion}
use Rattle.star_syntax.specs.declared.operator.BinaryOp.{BinaryOp}
use Rattle.star_syntax.specs.declared.operator.BinaryOp.TheVariants as op
use Rattle.star_syntax.specs.declared.expression.ChainLevel.{ChainLevel}
use Rattle.star_syntax.specs.declared.expression.ChainLevel.TheVariants as level
use Rattle.star_syntax.specs.declared.expression.ChainOp.{ChainOp}
use Rattle.star_syntax.specs.declared.expression.ChainOp.TheVariants as chain
use Rattle.star_syntax.specs.declared.expression.Link.{Link}
use Rattle.star_syntax.specs.declared.expression.Arm.{Arm}
use Rattle.star_syntax.specs.declared.expression.Arguments.{Arguments}
use Rattle.star_syntax.specs.declared.expression.Suffix.{Suffix}
use Rattle.star_syntax.specs.declared.expression.Suffix.TheVariants.{Index, Slice, Call, Method}
use Rattle.star_syntax.specs.declared.expression.Clause.{Clause}
use Rattle.star_syntax.specs.declared.expression.Clause.TheVariants.{For, If}
use Rattle.star_syntax.specs.declared.expression.Expr.{Expr, out-Expr, fold-Expr, every-Expr}
use Rattle.star_syntax.specs.declared.expression.Expr.TheOpen.{Expr-F}
use Rattle.star_syntax.specs.declared.statement.SmallKind.{SmallKind}
use Rattle.star_syntax.specs.declared.statement.SmallKind.TheVariants.{Return, Break, Continue, Pass, Assign, Augmented, Tests}
use Rattle.star_syntax.specs.declared.statement.Line.{Line}
use Rattle.star_syntax.specs.declared.statement.Block.{Block}
use Rattle.star_syntax.specs.declared.statement.Block.TheVariants.{Inline, Indented}
use Rattle.star_syntax.specs.declared.statement.Branch.{Branch}
use Rattle.star_syntax.specs.declared.statement.Definition.{Definition}
use Rattle.star_syntax.specs.declared.statement.Statement.{Statement, every-Statement}
use Rattle.star_syntax.specs.declared.statement.Statement.TheOpen.{Statement-F}
use Rattle.star_syntax.specs.declared.statement.Module.{Module}

-- ---- levels

-- The lines of the grammar from `test` to `atom`, by number. A tree of a line is a tree of each line above it,
-- so an operand that is asked for at a line has the number of that line or a higher one.
abbrev pub or_level : ℕ
or_level = 1

abbrev pub not_level : ℕ
not_level = 3

abbrev pub comparison_level : ℕ
comparison_level = 4

abbrev pub bit_or_level : ℕ
bit_or_level = 5

abbrev pub unary_level : ℕ
unary_level = 10

abbrev pub primary_level : ℕ
primary_level = 11

abbrev pub atom_level : ℕ
atom_level = 12

abbrev pub chain_rank : ChainLevel → ℕ
chain_rank level.Or = or_level
chain_rank level.And = 2
chain_rank level.BitOr = bit_or_level
chain_rank level.BitXor = 6
chain_rank level.BitAnd = 7
chain_rank level.Sum = 8
chain_rank level.Product = 9

abbrev pub binary_level : BinaryOp → ChainLevel
binary_level op.Or = level.BitOr
binary_level op.Xor = level.BitXor
binary_level op.And = level.BitAnd
binary_level op.Add = level.Sum
binary_level op.Sub = level.Sum
binary_level op.Mul = level.Product
binary_level op.Floor = level.Product
binary_level op.Mod = level.Product

-- the chains in which an operator stands
abbrev pub op_level : ChainOp → ChainLevel
op_level chain.Or = level.Or
op_level chain.And = level.And
op_level (chain.Binary o) = binary_level o

abbrev pub layer_rank : {X : Type 0} → Expr-F X → ℕ
layer_rank (Expr-F.Name _) = atom_level
layer_rank (Expr-F.Int _) = atom_level
layer_rank (Expr-F.Text _) = atom_level
layer_rank Expr-F.None = atom_level
layer_rank Expr-F.True = atom_level
layer_rank Expr-F.False = atom_level
layer_rank (Expr-F.Paren _) = atom_level
layer_rank (Expr-F.Tuple _ _) = atom_level
layer_rank (Expr-F.List _ _) = atom_level
layer_rank (Expr-F.ListOver _ _) = atom_level
layer_rank (Expr-F.Dict _ _) = atom_level
layer_rank (Expr-F.DictOver _ _ _) = atom_level
layer_rank (Expr-F.Primary _ _) = primary_level
layer_rank (Expr-F.Signed _ _) = unary_level
layer_rank (Expr-F.Chain l _ _) = chain_rank l
layer_rank (Expr-F.Compare _ _ _) = comparison_level
layer_rank (Expr-F.Not _ _) = not_level
layer_rank (Expr-F.Conditional _ _) = 0

-- the level of a tree
unfoldable pub rank : Expr → ℕ
rank e = layer_rank (out-Expr e)

-- ---- targets

-- the last suffix is an index
abbrev pub ends_in_index : {X : Type 0} → List (Suffix X) → Bool
ends_in_index [] = false
ends_in_index (Index at ∷ []) = true
ends_in_index (Slice start stop step ∷ []) = false
ends_in_index (Call given ∷ []) = false
ends_in_index (Method name given ∷ []) = false
ends_in_index (x ∷ y ∷ more) = ends_in_index (y ∷ more)

abbrev pub both : List Bool → Bool
both [] = true
both (x ∷ more) = x && both more

-- a name, or what an index ends
abbrev pub layer_is_place : {X : Type 0} → Expr-F X → Bool
layer_is_place (Expr-F.Name _) = true
layer_is_place (Expr-F.Primary head suffixes) = ends_in_index suffixes
layer_is_place _ = false

-- a place, or targets in round or square brackets
abbrev pub layer_is_target : Expr-F Bool → Bool
layer_is_target (Expr-F.Name _) = true
layer_is_target (Expr-F.Paren inner) = inner
layer_is_target (Expr-F.Tuple [] comma) = false
layer_is_target (Expr-F.Tuple (x ∷ more) comma) = both (x ∷ more)
layer_is_target (Expr-F.List [] comma) = false
layer_is_target (Expr-F.List (x ∷ more) comma) = both (x ∷ more)
layer_is_target (Expr-F.Primary head suffixes) = ends_in_index suffixes
layer_is_target _ = false

-- the tree is what `place` of the grammar spells
unfoldable pub is_place : Expr → Bool
is_place e = layer_is_place (out-Expr e)

-- The tree is what `target` of the grammar spells. None has an `in` operator outside its brackets.
unfoldable pub is_target : Expr → Bool
is_target = fold-Expr Bool layer_is_target

-- at least one, and each a target
abbrev pub AreTargets : List Expr → Type 0
AreTargets targets = (targets ≢ []) × AllByRecursion (λ e. is_target e ≡ true) targets

-- ---- expressions

-- a comma at the end of `(..)`: none in `()`, always in `(x,)`
abbrev pub CommaFitsTuple : {X : Type 0} → List X → Bool → Type 0
CommaFitsTuple [] comma = comma ≡ false
CommaFitsTuple (x ∷ []) comma = comma ≡ true
CommaFitsTuple (x ∷ y ∷ more) comma = Unit {0}

-- a comma at the end elsewhere: none where nothing is listed
abbrev pub CommaFits : {X : Type 0} → List X → Bool → Type 0
CommaFits [] comma = comma ≡ false
CommaFits (x ∷ more) comma = Unit {0}

-- a comma at the end of arguments
abbrev pub ArgumentsFit : {X : Type 0} → Arguments X → Type 0
ArgumentsFit given = CommaFits (given.positional ++ map (λ named. named.value) given.named) given.comma

abbrev pub SuffixFits : {X : Type 0} → Suffix X → Type 0
SuffixFits (Index at) = Unit {0}
SuffixFits (Slice start stop step) = Unit {0}
SuffixFits (Call given) = ArgumentsFit given
SuffixFits (Method name given) = ArgumentsFit given

-- a clause's operand is no conditional
abbrev pub ClauseFits : Clause Expr → Type 0
ClauseFits (For targets over) = AreTargets targets × (or_level ≤ rank over)
ClauseFits (If condition) = or_level ≤ rank condition

-- at least one clause, the first a `for`
abbrev pub StartsWithFor : {X : Type 0} → List (Clause X) → Type 0
StartsWithFor [] = ⊥
StartsWithFor (For targets over ∷ more) = Unit {0}
StartsWithFor (If condition ∷ more) = ⊥

abbrev pub ClausesFit : List (Clause Expr) → Type 0
ClausesFit clauses = StartsWithFor clauses × AllByRecursion ClauseFits clauses

-- the operator is of the chain's level, and the operand of a higher one
abbrev pub LinkFits : ChainLevel → Link Expr → Type 0
LinkFits l link = (op_level link.op ≡ l) × (chain_rank l < rank link.operand)

-- neither part of an arm is a conditional
abbrev pub ArmFits : Arm Expr → Type 0
ArmFits arm = (or_level ≤ rank arm.value) × (or_level ≤ rank arm.condition)

-- the operands of one node have the levels that the grammar asks for
abbrev pub Fits : Expr-F Expr → Type 0
Fits (Expr-F.Name _) = Unit {0}
Fits (Expr-F.Int _) = Unit {0}
Fits (Expr-F.Text _) = Unit {0}
Fits Expr-F.None = Unit {0}
Fits Expr-F.True = Unit {0}
Fits Expr-F.False = Unit {0}
Fits (Expr-F.Paren _) = Unit {0}
Fits (Expr-F.Tuple items comma) = CommaFitsTuple items comma
Fits (Expr-F.List items comma) = CommaFits items comma
Fits (Expr-F.ListOver item clauses) = ClausesFit clauses
Fits (Expr-F.Dict pairs comma) = CommaFits pairs comma
Fits (Expr-F.DictOver key value clauses) = ClausesFit clauses
Fits (Expr-F.Primary head suffixes) = (atom_level ≤ rank head) × (suffixes ≢ []) × AllByRecursion SuffixFits suffixes
Fits (Expr-F.Signed signs operand) = (primary_level ≤ rank operand) × (signs ≢ [])
Fits (Expr-F.Chain l first links) = (chain_rank l < rank first) × (links ≢ []) × AllByRecursion (LinkFits l) links
Fits (Expr-F.Compare left o right) = (bit_or_level ≤ rank left) × (bit_or_level ≤ rank right)
Fits (Expr-F.Not count operand) = (comparison_level ≤ rank operand) × (0 < count)
Fits (Expr-F.Conditional arms last) = (arms ≢ []) × AllByRecursion ArmFits arms × (or_level ≤ rank last)

-- each node of the tree fits
unfoldable pub IsLevelled : Expr → Type 0
IsLevelled = every-Expr Fits

-- ---- small statements and lines

abbrev pub AllLevelled : List Expr → Type 0
AllLevelled tests = AllByRecursion IsLevelled tests

-- at least one
abbrev pub AreTests : List Expr → Type 0
AreTests tests = (tests ≢ []) × AllLevelled tests

abbrev pub KindFits : SmallKind → Type 0
KindFits (Return tests) = AllLevelled tests
KindFits Break = Unit {0}
KindFits Continue = Unit {0}
KindFits Pass = Unit {0}
KindFits (Assign targets tests) = AreTargets targets × AllLevelled targets × AreTests tests
KindFits (Augmented target o tests) = (is_place target ≡ true) × IsLevelled target × AreTests tests
KindFits (Tests tests) = AreTests tests

abbrev pub LineFits : Line → Type 0
LineFits line = (line.smalls ≢ []) × AllByRecursion (λ small. KindFits small.kind) line.smalls

-- ---- statements

abbrev pub BlockFits : {S : Type 0} → Block S → Type 0
BlockFits (Inline line) = LineFits line
BlockFits (Indented statements) = statements ≢ []

abbrev pub BranchFits : {S : Type 0} → Branch S → Type 0
BranchFits branch = IsLevelled branch.condition × BlockFits branch.body

abbrev pub ElseFits : {S : Type 0} → Option (Block S) → Type 0
ElseFits None = Unit {0}
ElseFits (Some body) = BlockFits body

abbrev pub DefinitionFits : {S : Type 0} → Definition S → Type 0
DefinitionFits def =
    AllByRecursion (λ named. IsLevelled named.value) def.defaults
    × CommaFits (def.required ++ map (λ named. named.name) def.defaults) def.comma
    × BlockFits def.body

-- one statement, without those in its blocks
abbrev pub StatementFits : {S : Type 0} → Statement-F S → Type 0
StatementFits (Statement-F.Line line) = LineFits line
StatementFits (Statement-F.If at first more other) = BranchFits first × AllByRecursion BranchFits more × ElseFits other
StatementFits (Statement-F.For at targets over body) = AreTargets targets × AllLevelled targets × AreTests over × BlockFits body
StatementFits (Statement-F.Def at def) = DefinitionFits def

-- the statement and each within it
unfoldable pub IsStatement : Statement → Type 0
IsStatement = every-Statement StatementFits

unfoldable pub WellLevelled : Module → Type 0
WellLevelled cell = AllByRecursion IsStatement cell.statements
