-- The walk over each form of a statement.
use Rattle.std.proofs.Common.{◌≡◌, ◌∙◌, ℕ, Bool, true, false, List, [], ◌∷◌, ◌++◌, map, Option, Some, None, Ok, Err, refl, ap, sym}
use Rattle.std.specs.Prelude.{if◌then◌else◌}
use Rattle.std.specs.FinSet as set
use Rattle.std.specs.List.{flat_map}
use Rattle.star_syntax.specs.declared.expression.Expr.{Expr}
use Rattle.star_syntax.specs.declared.statement.SmallKind.{SmallKind}
use Rattle.star_syntax.specs.declared.statement.SmallKind.TheVariants.{Return, Break, Continue, Pass, Assign, Augmented, Tests}
use Rattle.star_syntax.specs.declared.statement.Line.{Line}
use Rattle.star_syntax.specs.declared.statement.Block.{Block}
use Rattle.star_syntax.specs.declared.statement.Block.TheVariants.{Inline, Indented}
use Rattle.star_syntax.specs.declared.statement.Branch.{Branch}
use Rattle.star_syntax.specs.declared.statement.Definition.{Definition}
use Rattle.star_syntax.specs.declared.statement.Statement.{Statement, roll-Statement, map-Statement, fold-roll-Statement}
use Rattle.star_syntax.specs.declared.statement.Statement.TheOpen.{Statement-F}
use Rattle.star_syntax.specs.declared.statement.Statement.TheVariants as s
use Rattle.star_syntax.specs.Placement.{Place, Parameter, Shows, Finding, Breach, NestedDef, MisplacedReturn, MisplacedBreak, InputNotLiteral, RepeatedParameter, is_input, unless, where_broken, expr_findings, all_findings, kind_findings, small_findings, line_findings, parameters, default_findings, parameter_findings, header_findings, block_findings, branch_findings, else_findings, layer_findings, statement_findings, in_branch, in_turn, in_body}
use Rattle.star_resolver.specs.declared.error.ResolveFault.{ResolveFault}
use Rattle.star_resolver.specs.declared.error.ResolveFault.TheVariants.{Bad, NoMemory}
use Rattle.star_resolver.specs.Outcomes.{Names, Outcome, Work, Gives, and_then, each, walk}
use Rattle.star_resolver.specs.Scans.{scan, scan_optional, allowed, scan_kind, scan_small, scan_line, scan_parameters, scan_header, scan_statement, scan_block, scan_branch, scan_else}
use Rattle.star_resolver.proofs.Walks.{same_then, each-map, each-same, walk-append, walk-flat_map}

-- ---- small statements

one_again : (line : ℕ) (x : Expr) (n : Names) → walk (expr_findings line x) n ≡ scan line x n
unfolding scan
one_again line x n = refl

all_again : (line : ℕ) (xs : List Expr) (n : Names) → walk (all_findings line xs) n ≡ each (scan line) xs n
unfolding scan
all_again line xs n = walk-flat_map (expr_findings line) xs n

unless_again : (good : Bool) (breach : Breach) (line : ℕ) (rest : List Finding) (n : Names) (o : Outcome) → walk rest n ≡ o
    → walk (unless good breach line ++ rest) n ≡ allowed good breach line o
unless_again true breach line rest n o is = is
unless_again false breach line rest n o is = refl

lone_again : (good : Bool) (breach : Breach) (line : ℕ) (n : Names) → walk (unless good breach line) n ≡ allowed good breach line (Ok n)
lone_again true breach line n = refl
lone_again false breach line n = refl

kind_again : (place : Place) (line : ℕ) (k : SmallKind) (n : Names) → walk (kind_findings place line k) n ≡ scan_kind place line k n
kind_again place line (Return tests) n = unless_again place.in_function MisplacedReturn line (all_findings line tests) n _ (all_again line tests n)
kind_again place line Break n = lone_again place.in_loop MisplacedBreak line n
kind_again place line Continue n = lone_again place.in_loop MisplacedBreak line n
kind_again place line Pass n = refl
kind_again place line (Assign targets tests) n =
    walk-append (all_findings line targets) (all_findings line tests) n ∙ same_then _ _ _ _ (all_again line targets n) (all_again line tests)
kind_again place line (Augmented target op tests) n =
    walk-append (expr_findings line target) (all_findings line tests) n ∙ same_then _ _ _ _ (one_again line target n) (all_again line tests)
kind_again place line (Tests tests) n = all_again line tests n

line_again : (place : Place) (line : Line) (n : Names) → walk (line_findings place line) n ≡ scan_line place line n
unfolding line_findings
line_again place line n =
    walk-flat_map (small_findings place) line.smalls n
    ∙ each-same (λ small. walk (small_findings place small)) (scan_small place) (λ small m. kind_again place small.line small.kind m) line.smalls n

-- ---- the headers of functions

default_again : (line : ℕ) (o : Option Expr) (n : Names) → walk (default_findings line o) n ≡ scan_optional line o n
default_again line None n = refl
default_again line (Some x) n = one_again line x n

parameters_again : (line : ℕ) (all : List Parameter) (before : Names) (n : Names) → walk (parameter_findings line before all) n ≡ scan_parameters line all before n
parameters_again line [] before n = refl
parameters_again line (p ∷ more) before n =
    by (is_input p.0) (set.contains before p.0)
    (walk-append (default_findings line p.1) (parameter_findings line (set.insert before p.0) more) n
    ∙ same_then _ _ _ _ (default_again line p.1 n) (parameters_again line more (set.insert before p.0)))
  where
    by : (a b : Bool) →
        walk (default_findings line p.1 ++ parameter_findings line (set.insert before p.0) more) n
        ≡ and_then (scan_optional line p.1 n) (scan_parameters line more (set.insert before p.0)) →
        walk (where_broken a InputNotLiteral line ++ (where_broken b RepeatedParameter line ++ (default_findings line p.1 ++ parameter_findings line (set.insert before p.0) more))) n
        ≡ and_then (if a then Err (InputNotLiteral, line) else if b then Err (RepeatedParameter, line) else Ok (set.insert before p.0))
        (λ now. and_then (scan_optional line p.1 n) (scan_parameters line more now))
    by true b rest = refl
    by false true rest = refl
    by false false rest = rest

header_again : (line : ℕ) (name : List ℕ) (all : List Parameter) (n : Names) → walk (header_findings line name all) n ≡ scan_header line name all n
header_again line name all n = by (is_input name)
  where
    by : (a : Bool) → walk (where_broken a InputNotLiteral line ++ parameter_findings line set.empty all) n
        ≡ (if a then Err (InputNotLiteral, line) else scan_parameters line all set.empty n)
    by true = refl
    by false = parameters_again line all set.empty n

-- ---- parts of a statement, with what the statements in its blocks show

block_in : Statement-F Shows → Shows
block_in (Statement-F.For at targets over body) = block_findings body
block_in _ = λ place. []

more_in : Statement-F Shows → ℕ → Shows
more_in (Statement-F.If at first more other) line place = flat_map (branch_findings line place) more
more_in _ line place = []

else_in : Statement-F Shows → Shows
else_in (Statement-F.If at first more other) = else_findings other
else_in _ = λ place. []

shown : Statement-F Statement → Statement-F Shows
shown = map-Statement Statement Shows statement_findings

block_again : (place : Place) (body : Block Statement) (n : Names) → walk (block_in (shown (Statement-F.For 0 [] [] body)) place) n ≡ scan_block place body n
unfolding shown block_in scan_statement
block_again place (Inline line) n = line_again place line n
block_again place (Indented ss) n =
    walk-flat_map (λ (x : Shows). x place) (map statement_findings ss) n ∙ each-map (λ (x : Shows). walk (x place)) statement_findings ss n

branch_again : (line : ℕ) (place : Place) (branch : Branch Statement) (n : Names) →
    walk (expr_findings line branch.condition ++ block_in (shown (Statement-F.For 0 [] [] branch.body)) place) n ≡ scan_branch line place branch n
branch_again line place branch n =
    walk-append (expr_findings line branch.condition) _ n ∙ same_then _ _ _ _ (one_again line branch.condition n) (block_again place branch.body)

more_again : (line : ℕ) (place : Place) (at : ℕ) (first : Branch Statement) (other : Option (Block Statement)) (more : List (Branch Statement)) (n : Names) →
    walk (more_in (shown (Statement-F.If at first more other)) line place) n ≡ each (scan_branch line place) more n
unfolding shown more_in block_in
more_again line place at first other [] n = refl
more_again line place at first other (x ∷ xs) n =
    walk-append (expr_findings line x.condition ++ block_in (shown (Statement-F.For 0 [] [] x.body)) place) _ n
    ∙ same_then _ _ _ _ (branch_again line place x n) (more_again line place at first other xs)

else_again : (place : Place) (at : ℕ) (first : Branch Statement) (more : List (Branch Statement)) (other : Option (Block Statement)) (n : Names) →
    walk (else_in (shown (Statement-F.If at first more other)) place) n ≡ scan_else place other n
unfolding shown else_in block_in
else_again place at first more None n = refl
else_again place at first more (Some body) n = block_again place body n

three_again : (a b c : List Finding) (n : Names) (o : Outcome) (f g : Work) → walk a n ≡ o → ((m : Names) → walk b m ≡ f m) → ((m : Names) → walk c m ≡ g m)
    → walk (a ++ (b ++ c)) n ≡ and_then o (λ m. and_then (f m) g)
three_again a b c n o f g x y z = walk-append a (b ++ c) n ∙ same_then _ _ _ _ x (λ m. walk-append b c m ∙ same_then _ _ _ _ (y m) z)

-- ---- the statement

from_layer : (place : Place) (d : Statement-F Statement) (n : Names) → scan_statement place (roll-Statement d) n ≡ walk (layer_findings (shown d) place) n
unfolding scan_statement statement_findings shown
from_layer place d n = ap (λ (f : Shows). walk (f place) n) (fold-roll-Statement Shows layer_findings d)

pub scan-Line : (place : Place) (line : Line) (n : Names) → scan_statement place (s.Line line) n ≡ scan_line place line n
unfolding shown
scan-Line place line n = ap (λ x. scan_statement place x n) (sym (s.rolls-Line line)) ∙ from_layer place (Statement-F.Line line) n ∙ line_again place line n

pub scan-If : (place : Place) (at : ℕ) (first : Branch Statement) (more : List (Branch Statement)) (other : Option (Block Statement)) (n : Names) →
    scan_statement place (s.If at first more other) n
    ≡ and_then (scan_branch at (in_branch place) first n) (λ m. and_then (each (scan_branch at (in_branch place)) more m) (scan_else (in_branch place) other))
unfolding shown block_in more_in else_in
scan-If place at first more other n =
    ap (λ x. scan_statement place x n) (sym (s.rolls-If at first more other)) ∙ from_layer place (Statement-F.If at first more other) n
    ∙ three_again (expr_findings at first.condition ++ block_in (shown (Statement-F.For 0 [] [] first.body)) (in_branch place))
    (more_in (shown (Statement-F.If at first more other)) at (in_branch place)) (else_in (shown (Statement-F.If at first more other)) (in_branch place)) n _ _ _
    (branch_again at (in_branch place) first n) (more_again at (in_branch place) at first other more) (else_again (in_branch place) at first more other)

-- an `if` whose first branch was walked, and which ends in a further branch
pub if-stopped : (place inner : Place) (tree : Statement) (at : ℕ) (first : Branch Statement) (more rest : List (Branch Statement)) (other : Option (Block Statement)) (n m k : Names) (fault : ResolveFault)
    → tree ≡ s.If at first more other → rest ≡ more → inner ≡ in_branch place → scan_branch at inner first n ≡ Ok m
    → Gives (each (scan_branch at inner) rest m) (Err fault) k → Gives (scan_statement place tree n) (Err fault) k
if-stopped place inner tree at first more rest other n m k NoMemory is same stands done ends = tt
if-stopped place inner tree at first more rest other n m k (Bad kind line) is same stands done ends =
    ap (λ x. scan_statement place x n) is ∙ scan-If place at first more other n
    ∙ sym (λ i. and_then (scan_branch at (stands i) first n) (λ now. and_then (each (scan_branch at (stands i)) (same i) now) (scan_else (stands i) other)))
    ∙ ap (λ o. and_then o (λ now. and_then (each (scan_branch at inner) rest now) (scan_else inner other))) done
    ∙ ap (λ o. and_then o (scan_else inner other)) ends

-- and one whose branches were all walked
pub if-ended : (place inner : Place) (tree : Statement) (at : ℕ) (first : Branch Statement) (more rest : List (Branch Statement)) (other : Option (Block Statement)) (n m k : Names)
    → tree ≡ s.If at first more other → rest ≡ more → inner ≡ in_branch place → scan_branch at inner first n ≡ Ok m
    → each (scan_branch at inner) rest m ≡ Ok k → scan_else inner other k ≡ scan_statement place tree n
if-ended place inner tree at first more rest other n m k is same stands done ends =
    sym (ap (λ x. scan_statement place x n) is ∙ scan-If place at first more other n
    ∙ sym (λ i. and_then (scan_branch at (stands i) first n) (λ now. and_then (each (scan_branch at (stands i)) (same i) now) (scan_else (stands i) other)))
    ∙ ap (λ o. and_then o (λ now. and_then (each (scan_branch at inner) rest now) (scan_else inner other))) done
    ∙ ap (λ o. and_then o (scan_else inner other)) ends)

pub scan-For : (place : Place) (at : ℕ) (targets over : List Expr) (body : Block Statement) (n : Names) →
    scan_statement place (s.For at targets over body) n
    ≡ and_then (each (scan at) targets n) (λ m. and_then (each (scan at) over m) (scan_block (in_turn place) body))
unfolding shown block_in
scan-For place at targets over body n =
    ap (λ x. scan_statement place x n) (sym (s.rolls-For at targets over body)) ∙ from_layer place (Statement-F.For at targets over body) n
    ∙ three_again (all_findings at targets) (all_findings at over) _ n _ _ _ (all_again at targets n) (all_again at over) (block_again (in_turn place) body)

pub scan-Def : (place : Place) (at : ℕ) (def : Definition Statement) (n : Names) →
    scan_statement place (s.Def at def) n
    ≡ allowed place.is_direct NestedDef at (and_then (scan_header at def.name (parameters def.required def.defaults) n) (scan_block in_body def.body))
unfolding shown block_in
scan-Def place at def n =
    ap (λ x. scan_statement place x n) (sym (s.rolls-Def at def)) ∙ from_layer place (Statement-F.Def at def) n
    ∙ unless_again place.is_direct NestedDef at
    (header_findings at def.name (parameters def.required def.defaults) ++ block_in (shown (Statement-F.For 0 [] [] def.body)) in_body) n _
    (walk-append (header_findings at def.name (parameters def.required def.defaults)) _ n
    ∙ same_then _ _ _ _ (header_again at def.name (parameters def.required def.defaults) n) (block_again in_body def.body))

pub ruleset layers = (scan-Line, scan-If, scan-For, scan-Def)
