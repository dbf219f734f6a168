-- The rules of placement of docs/LANGUAGE.md: what a cell shows of them in text order, the breaches among it, and the names of its inputs.
use Rattle.std.specs.Prelude.{◌≡◌, ℕ, Bool, true, false, List, [], ◌∷◌, ◌++◌, map, Option, Some, None, codes, bytes_eq, if◌then◌else◌}
use Rattle.std.specs.FinSet as set
use Rattle.std.specs.List.{flat_map, filter_map}
use Rattle.std.specs.List.Sorted.{IsStrictlySortedBy}
use Rattle.std.specs.Str.{encode_utf8_all}
use Rattle.chex_base.specs.TextOrder.{text_cmp}
use Rattle.star_syntax.specs.declared.expression.Named.{Named}
use Rattle.star_syntax.specs.declared.expression.Arguments.{Arguments}
use Rattle.star_syntax.specs.declared.expression.Suffix.{Suffix}
use Rattle.star_syntax.specs.declared.expression.Suffix.TheVariants.{Index, Slice, Call, Method}
use Rattle.star_syntax.specs.declared.expression.Clause.{Clause}
use Rattle.star_syntax.specs.declared.expression.Clause.TheVariants.{For, If}
use Rattle.star_syntax.specs.declared.expression.Expr.{Expr, fold-Expr}
use Rattle.star_syntax.specs.declared.expression.Expr.TheOpen.{Expr-F}
use Rattle.star_syntax.specs.declared.statement.Small.{Small}
use Rattle.star_syntax.specs.declared.statement.SmallKind.{SmallKind}
use Rattle.star_syntax.specs.declared.statement.SmallKind.TheVariants.{Return, Break, Continue, Pass, Assign, Augmented, Tests}
use Rattle.star_syntax.specs.declared.statement.Line.{Line}
use Rattle.star_syntax.specs.declared.statement.Block.{Block}
use Rattle.star_syntax.specs.declared.statement.Block.TheVariants.{Inline, Indented}
use Rattle.star_syntax.specs.declared.statement.Branch.{Branch}
use Rattle.star_syntax.specs.declared.statement.Statement.{Statement, fold-Statement}
use Rattle.star_syntax.specs.declared.statement.Statement.TheOpen.{Statement-F}
use Rattle.star_syntax.specs.declared.statement.Module.{Module}

-- ---- the uses of the name `input` in an expression

-- `input(TEXT)` with the text, or the name anywhere else
pub data Use : Type 0 where
  Literal : List ℕ → Use
  Other : Use

-- whether a name is `input`
unfoldable pub is_input : List ℕ → Bool
is_input name = bytes_eq (encode_utf8_all name) (codes "input")

-- What a tree is to the node above it, and the uses in it from left to right.
pub record Seen : Type 0 where
  -- it is the name `input` alone
  pub names_input : Bool
  -- the text literal that it is
  pub literal : Option (List ℕ)
  pub uses : List Use

-- a tree that is neither the name `input` nor a text literal
abbrev pub inner : List Use → Seen
inner uses = record { names_input = false; literal = None; uses = uses }

abbrev pub name_uses : List ℕ → List Use
name_uses name = if is_input name then Other ∷ [] else []

abbrev pub all_uses : List Seen → List Use
all_uses trees = flat_map (λ x. x.uses) trees

abbrev pub optional_uses : Option Seen → List Use
optional_uses None = []
optional_uses (Some x) = x.uses

abbrev pub step_uses : Option (Option Seen) → List Use
step_uses None = []
step_uses (Some step) = optional_uses step

-- the names of arguments do not count
abbrev pub arguments_uses : Arguments Seen → List Use
arguments_uses given = all_uses given.positional ++ flat_map (λ named. named.value.uses) given.named

-- the names of methods do not count
abbrev pub suffix_uses : Suffix Seen → List Use
suffix_uses (Index at) = at.uses
suffix_uses (Slice start stop step) = optional_uses start ++ (optional_uses stop ++ step_uses step)
suffix_uses (Call given) = arguments_uses given
suffix_uses (Method name given) = arguments_uses given

abbrev pub clause_uses : Clause Seen → List Use
clause_uses (For targets over) = all_uses targets ++ over.uses
clause_uses (If condition) = condition.uses

-- the literal of arguments that are one text literal, with nothing beside it, where this is the literal of a tree
abbrev pub lone_literal : {E : Type 0} → (E → Option (List ℕ)) → List E → List (Named E) → Bool → Option (List ℕ)
lone_literal literal (x ∷ []) [] false = literal x
lone_literal literal _ _ _ = None

-- the same where such arguments come first
abbrev pub first_literal : {E : Type 0} → (E → Option (List ℕ)) → List (Suffix E) → Option (List ℕ)
first_literal literal (Call given ∷ more) = lone_literal literal given.positional given.named given.comma
first_literal literal _ = None

-- the uses in what is indexed or called, where its first suffix is `(TEXT)` with this text, or is not
abbrev pub head_uses : Seen → Option (List ℕ) → List Use
head_uses head (Some text) = if head.names_input then Literal text ∷ [] else head.uses
head_uses head None = head.uses

abbrev pub layer_seen : Expr-F Seen → Seen
layer_seen (Expr-F.Name name) = record { names_input = is_input name; literal = None; uses = name_uses name }
layer_seen (Expr-F.Int _) = inner []
layer_seen (Expr-F.Text text) = record { names_input = false; literal = Some text; uses = [] }
layer_seen Expr-F.None = inner []
layer_seen Expr-F.True = inner []
layer_seen Expr-F.False = inner []
layer_seen (Expr-F.Paren x) = inner x.uses
layer_seen (Expr-F.Tuple items _) = inner (all_uses items)
layer_seen (Expr-F.List items _) = inner (all_uses items)
layer_seen (Expr-F.ListOver item clauses) = inner (item.uses ++ flat_map clause_uses clauses)
layer_seen (Expr-F.Dict pairs _) = inner (flat_map (λ pair. pair.key.uses ++ pair.value.uses) pairs)
layer_seen (Expr-F.DictOver key value clauses) = inner (key.uses ++ (value.uses ++ flat_map clause_uses clauses))
layer_seen (Expr-F.Primary head suffixes) = inner (head_uses head (first_literal (λ x. x.literal) suffixes) ++ flat_map suffix_uses suffixes)
layer_seen (Expr-F.Signed _ operand) = inner operand.uses
layer_seen (Expr-F.Chain _ first links) = inner (first.uses ++ flat_map (λ link. link.operand.uses) links)
layer_seen (Expr-F.Compare left _ right) = inner (left.uses ++ right.uses)
layer_seen (Expr-F.Not _ operand) = inner operand.uses
layer_seen (Expr-F.Conditional arms last) = inner (flat_map (λ arm. arm.value.uses ++ arm.condition.uses) arms ++ last.uses)

unfoldable pub seen : Expr → Seen
seen = fold-Expr Seen layer_seen

-- ---- what a statement shows

-- the rules that can be broken
pub data Breach : Type 0 where
  -- a `def` that does not stand directly in the cell
  NestedDef : Breach
  -- a `return` outside a `def`
  MisplacedReturn : Breach
  -- a `break` or `continue` outside a `for` of the same function or cell
  MisplacedBreak : Breach
  -- the name `input` anywhere but as `input(TEXT)`
  InputNotLiteral : Breach
  -- a parameter with the name of one before it
  RepeatedParameter : Breach

-- an input that is read by this name, or a breach and its line
pub data Finding : Type 0 where
  Reads : List ℕ → Finding
  Breaks : Breach → ℕ → Finding

-- where a statement stands
pub record Place : Type 0 where
  -- directly in the cell
  pub is_direct : Bool
  -- in a `def`
  pub in_function : Bool
  -- in a `for` of the same function or cell
  pub in_loop : Bool

abbrev pub in_cell : Place
in_cell = record { is_direct = true; in_function = false; in_loop = false }

-- the places of the blocks of an `if`, a `for` and a `def` that stands at a place
abbrev pub in_branch : Place → Place
in_branch place = record { is_direct = false; in_function = place.in_function; in_loop = place.in_loop }

abbrev pub in_turn : Place → Place
in_turn place = record { is_direct = false; in_function = place.in_function; in_loop = true }

abbrev pub in_body : Place
in_body = record { is_direct = false; in_function = true; in_loop = false }

-- the breach, unless it is allowed here
abbrev pub unless : Bool → Breach → ℕ → List Finding
unless allowed breach line = if allowed then [] else Breaks breach line ∷ []

-- the breach where it is one
abbrev pub where_broken : Bool → Breach → ℕ → List Finding
where_broken broken breach line = if broken then Breaks breach line ∷ [] else []

abbrev pub use_finding : ℕ → Use → Finding
use_finding line (Literal name) = Reads name
use_finding line Other = Breaks InputNotLiteral line

-- an expression of the statement of this line
unfoldable pub expr_findings : ℕ → Expr → List Finding
expr_findings line x = map (use_finding line) (seen x).uses

abbrev pub all_findings : ℕ → List Expr → List Finding
all_findings line trees = flat_map (expr_findings line) trees

-- a name that is no expression
abbrev pub name_findings : ℕ → List ℕ → List Finding
name_findings line name = where_broken (is_input name) InputNotLiteral line

abbrev pub kind_findings : Place → ℕ → SmallKind → List Finding
kind_findings place line (Return tests) = unless place.in_function MisplacedReturn line ++ all_findings line tests
kind_findings place line Break = unless place.in_loop MisplacedBreak line
kind_findings place line Continue = unless place.in_loop MisplacedBreak line
kind_findings place line Pass = []
kind_findings place line (Assign targets tests) = all_findings line targets ++ all_findings line tests
kind_findings place line (Augmented target _ tests) = expr_findings line target ++ all_findings line tests
kind_findings place line (Tests tests) = all_findings line tests

abbrev pub small_findings : Place → Small → List Finding
small_findings place small = kind_findings place small.line small.kind

unfoldable pub line_findings : Place → Line → List Finding
line_findings place line = flat_map (small_findings place) line.smalls

-- a parameter: its name, and its default where it has one
abbrev pub Parameter : Type 0
Parameter = List ℕ × Option Expr

abbrev pub required_parameter : List ℕ → Parameter
required_parameter name = (name, None)

abbrev pub default_parameter : Named Expr → Parameter
default_parameter named = (named.name, Some named.value)

abbrev pub parameters : List (List ℕ) → List (Named Expr) → List Parameter
parameters required defaults = map required_parameter required ++ map default_parameter defaults

abbrev pub default_findings : ℕ → Option Expr → List Finding
default_findings line None = []
default_findings line (Some x) = expr_findings line x

-- the parameters from one on, with the names of those before it
abbrev pub parameter_findings : ℕ → set.FinSet text_cmp → List Parameter → List Finding
parameter_findings line before [] = []
parameter_findings line before (p ∷ more) =
    name_findings line p.0 ++ (where_broken (set.contains before p.0) RepeatedParameter line
    ++ (default_findings line p.1 ++ parameter_findings line (set.insert before p.0) more))

-- ---- statements, over what those in their blocks show at a place

abbrev pub Shows : Type 0
Shows = Place → List Finding

abbrev pub block_findings : Block Shows → Shows
block_findings (Inline line) place = line_findings place line
block_findings (Indented statements) place = flat_map (λ s. s place) statements

abbrev pub branch_findings : ℕ → Place → Branch Shows → List Finding
branch_findings line place branch = expr_findings line branch.condition ++ block_findings branch.body place

abbrev pub else_findings : Option (Block Shows) → Shows
else_findings None place = []
else_findings (Some body) place = block_findings body place

-- the header of a `def`
abbrev pub header_findings : ℕ → List ℕ → List Parameter → List Finding
header_findings line name all = name_findings line name ++ parameter_findings line set.empty all

abbrev pub layer_findings : Statement-F Shows → Shows
layer_findings (Statement-F.Line line) place = line_findings place line
layer_findings (Statement-F.If at first more other) place =
    branch_findings at (in_branch place) first ++ (flat_map (branch_findings at (in_branch place)) more ++ else_findings other (in_branch place))
layer_findings (Statement-F.For at targets over body) place =
    all_findings at targets ++ (all_findings at over ++ block_findings body (in_turn place))
layer_findings (Statement-F.Def at def) place =
    unless place.is_direct NestedDef at ++ (header_findings at def.name (parameters def.required def.defaults) ++ block_findings def.body in_body)

unfoldable pub statement_findings : Statement → Place → List Finding
statement_findings = fold-Statement Shows layer_findings

-- ---- cells

unfoldable pub findings : Module → List Finding
findings cell = flat_map (λ s. statement_findings s in_cell) cell.statements

abbrev pub breach_of : Finding → Option (Breach × ℕ)
breach_of (Reads name) = None
breach_of (Breaks breach line) = Some (breach, line)

abbrev pub name_of : Finding → Option (List ℕ)
name_of (Reads name) = Some name
name_of (Breaks breach line) = None

-- all breaches in text order, each with the line of the innermost statement in which it stands
unfoldable pub breaches : Module → List (Breach × ℕ)
breaches cell = filter_map breach_of (findings cell)

-- no rule is broken
abbrev pub IsPlaced : Module → Type 0
IsPlaced cell = breaches cell ≡ []

-- the names in the `input` literals, in text order
unfoldable pub names_read : Module → List (List ℕ)
names_read cell = filter_map name_of (findings cell)

-- the names in the `input` literals, in rising byte order and each once
pub record AreInputNames (cell : Module) (names : List (List ℕ)) : Type 0 where
  pub rising : IsStrictlySortedBy text_cmp names
  pub same : set.from_list {R = text_cmp} names ≡ set.from_list (names_read cell)
