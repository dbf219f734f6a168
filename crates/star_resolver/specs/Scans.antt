-- The walk over each form of a tree, over the walks of its parts.
use Rattle.std.specs.Prelude.{ℕ, Bool, List, [], ◌∷◌, Option, Some, None, Ok, Err, if◌then◌else◌}
use Rattle.std.specs.FinSet as set
use Rattle.star_syntax.specs.declared.expression.Link.{Link}
use Rattle.star_syntax.specs.declared.expression.Arm.{Arm}
use Rattle.star_syntax.specs.declared.expression.Named.{Named}
use Rattle.star_syntax.specs.declared.expression.Pair.{Pair}
use Rattle.star_syntax.specs.declared.expression.Arguments.{Arguments}
use Rattle.star_syntax.specs.declared.expression.Suffix.{Suffix}
use Rattle.star_syntax.specs.declared.expression.Suffix.TheVariants.{Index, Slice, Call, Method}
use Rattle.star_syntax.specs.declared.expression.Clause.{Clause}
use Rattle.star_syntax.specs.declared.expression.Clause.TheVariants.{For, If}
use Rattle.star_syntax.specs.declared.expression.Expr.{Expr}
use Rattle.star_syntax.specs.declared.statement.Small.{Small}
use Rattle.star_syntax.specs.declared.statement.SmallKind.{SmallKind}
use Rattle.star_syntax.specs.declared.statement.SmallKind.TheVariants.{Return, Break, Continue, Pass, Assign, Augmented, Tests}
use Rattle.star_syntax.specs.declared.statement.Line.{Line}
use Rattle.star_syntax.specs.declared.statement.Block.{Block}
use Rattle.star_syntax.specs.declared.statement.Block.TheVariants.{Inline, Indented}
use Rattle.star_syntax.specs.declared.statement.Branch.{Branch}
use Rattle.star_syntax.specs.declared.statement.Statement.{Statement}
use Rattle.star_syntax.specs.Placement.{Place, Parameter, Breach, MisplacedReturn, MisplacedBreak, InputNotLiteral, RepeatedParameter, is_input, first_literal, seen, expr_findings, statement_findings}
use Rattle.star_resolver.specs.Outcomes.{Names, Outcome, Work, and_then, each, walk}

-- ---- expressions of the statement of a line

unfoldable pub scan : ℕ → Expr → Work
scan line x = walk (expr_findings line x)

-- whether the tree is the name `input` alone
unfoldable pub names_input : Expr → Bool
names_input x = (seen x).names_input

-- the text literal that the tree is
unfoldable pub literal : Expr → Option (List ℕ)
literal x = (seen x).literal

-- the name that `input(TEXT)` reads, where an operand and its first suffix are that
abbrev pub name_read : Expr → List (Suffix Expr) → Option (List ℕ)
name_read head suffixes = if names_input head then first_literal literal suffixes else None

-- the name that is read, or else the operand
abbrev pub scan_head : ℕ → Expr → Option (List ℕ) → Work
scan_head line head (Some name) names = Ok (set.insert names name)
scan_head line head None names = scan line head names

abbrev pub scan_optional : ℕ → Option Expr → Work
scan_optional line None names = Ok names
scan_optional line (Some x) names = scan line x names

abbrev pub scan_step : ℕ → Option (Option Expr) → Work
scan_step line None names = Ok names
scan_step line (Some step) names = scan_optional line step names

abbrev pub scan_named : ℕ → Named Expr → Work
scan_named line named = scan line named.value

abbrev pub scan_arguments : ℕ → Arguments Expr → Work
scan_arguments line given names = and_then (each (scan line) given.positional names) (each (scan_named line) given.named)

abbrev pub scan_suffix : ℕ → Suffix Expr → Work
scan_suffix line (Index at) names = scan line at names
scan_suffix line (Slice start stop step) names =
    and_then (scan_optional line start names) (λ after. and_then (scan_optional line stop after) (scan_step line step))
scan_suffix line (Call given) names = scan_arguments line given names
scan_suffix line (Method name given) names = scan_arguments line given names

abbrev pub scan_clause : ℕ → Clause Expr → Work
scan_clause line (For targets over) names = and_then (each (scan line) targets names) (scan line over)
scan_clause line (If condition) names = scan line condition names

abbrev pub scan_pair : ℕ → Pair Expr → Work
scan_pair line pair names = and_then (scan line pair.key names) (scan line pair.value)

abbrev pub scan_link : ℕ → Link Expr → Work
scan_link line link = scan line link.operand

abbrev pub scan_arm : ℕ → Arm Expr → Work
scan_arm line arm names = and_then (scan line arm.value names) (scan line arm.condition)

-- ---- small statements

-- the breach of the statement of a line, unless it is allowed, and else the further work
abbrev pub allowed : Bool → Breach → ℕ → Outcome → Outcome
allowed good breach line further = if good then further else Err (breach, line)

abbrev pub scan_kind : Place → ℕ → SmallKind → Work
scan_kind place line (Return tests) names = allowed place.in_function MisplacedReturn line (each (scan line) tests names)
scan_kind place line Break names = allowed place.in_loop MisplacedBreak line (Ok names)
scan_kind place line Continue names = allowed place.in_loop MisplacedBreak line (Ok names)
scan_kind place line Pass names = Ok names
scan_kind place line (Assign targets tests) names = and_then (each (scan line) targets names) (each (scan line) tests)
scan_kind place line (Augmented target _ tests) names = and_then (scan line target names) (each (scan line) tests)
scan_kind place line (Tests tests) names = each (scan line) tests names

abbrev pub scan_small : Place → Small → Work
scan_small place small = scan_kind place small.line small.kind

abbrev pub scan_line : Place → Line → Work
scan_line place line = each (scan_small place) line.smalls

-- ---- the headers of functions

-- a parameter's name is added to those before it
abbrev pub parameter : ℕ → List ℕ → Work
parameter line name before =
    if is_input name then Err (InputNotLiteral, line) else if set.contains before name then Err (RepeatedParameter, line) else Ok (set.insert before name)

-- the parameters from one on, with the names of those before it
abbrev pub scan_parameters : ℕ → List Parameter → Names → Work
scan_parameters line [] before names = Ok names
scan_parameters line (p ∷ more) before names =
    and_then (parameter line p.0 before) (λ now. and_then (scan_optional line p.1 names) (scan_parameters line more now))

abbrev pub scan_header : ℕ → List ℕ → List Parameter → Work
scan_header line name all names = if is_input name then Err (InputNotLiteral, line) else scan_parameters line all set.empty names

-- ---- statements

unfoldable pub scan_statement : Place → Statement → Work
scan_statement place s = walk (statement_findings s place)

abbrev pub scan_block : Place → Block Statement → Work
scan_block place (Inline line) names = scan_line place line names
scan_block place (Indented statements) names = each (scan_statement place) statements names

abbrev pub scan_branch : ℕ → Place → Branch Statement → Work
scan_branch line place branch names = and_then (scan line branch.condition names) (scan_block place branch.body)

abbrev pub scan_else : Place → Option (Block Statement) → Work
scan_else place None names = Ok names
scan_else place (Some body) names = scan_block place body names
