-- The tokens of a tree with the lines that are claimed are its spelling with the lines of its statements.
use Rattle.std.proofs.Common.{◌≡◌, ◌∙◌, ℕ, List, [], ◌∷◌, ◌++◌, map, Option, Some, None, refl, sym, ap, subst, append_assoc}
use Rattle.std.specs.List.{flat_map, AllByRecursion}
use Rattle.std.proofs.lemmas.List.{map-append}
use Rattle.std.proofs.lemmas.List.Folds.{flat_map-map}
use Rattle.star_syntax.specs.declared.token.Token.{Token}
use Rattle.star_syntax.specs.declared.token.Token.TheVariants as t
use Rattle.star_syntax.specs.declared.token.Keyword.{Keyword}
use Rattle.star_syntax.specs.declared.token.Keyword.TheVariants as w
use Rattle.star_syntax.specs.declared.token.Mark.TheVariants as m
use Rattle.star_syntax.specs.declared.statement.Small.{Small}
use Rattle.star_syntax.specs.declared.statement.Line.{Line}
use Rattle.star_syntax.specs.declared.statement.Block.{Block}
use Rattle.star_syntax.specs.declared.statement.Block.TheVariants.{Inline, Indented}
use Rattle.star_syntax.specs.declared.statement.Branch.{Branch}
use Rattle.star_syntax.specs.declared.statement.Statement.{Statement, roll-Statement, map-Statement, fold-roll-Statement}
use Rattle.star_syntax.specs.declared.statement.Statement.TheOpen.{Statement-F}
use Rattle.star_syntax.specs.declared.statement.Module.{Module}
use Rattle.star_syntax.specs.Spelling.{Tokens, expr_spelling, tests_spelling, small_spelling, parameters_spelling, if_written}
use Rattle.star_parser.specs.Reading.{Input}
use Rattle.star_parser.specs.Lines.{Lines, inner, begun, lines_of_small, lines_of_smalls, lines_of_line, lines_of_block, lines_of_branch, lines_of_else, lines_of_for, lines_of_def, lines_of_layer, lines_of_statement, lines_of, StandOn}
use Rattle.star_parser.specs.Trees.{IsTree}
use Rattle.star_parser.proofs.Claims.{Claims, free, plain, first_claimed, small_claims, smalls_claims, line_claims, branch_header, else_header, for_header, def_header, statement_claims, module_claims, Matches, IsClaimed}
use Rattle.star_parser.proofs.StatementParts.{EachBlock, EachBranch, EachElse, EachPart, block_in, branches_in, else_in, induct_statement}
use Rattle.star_parser.proofs.ClaimLemmas.{body_claims, case_claims, otherwise_claims, if_claims, parts_claims, claims_of_parts, matched_kinds, matched_lines, tokens_module}

-- ---- the lines of a statement, over the statements in its blocks

abbrev body_lines : Block Statement → Lines
body_lines (Inline line) = lines_of_line line
body_lines (Indented statements) = None ∷ None ∷ (flat_map lines_of_statement statements ++ None ∷ [])

abbrev case_lines : Branch Statement → Lines
case_lines branch = None ∷ (inner (expr_spelling branch.condition) ++ None ∷ body_lines branch.body)

abbrev otherwise_lines : Option (Block Statement) → Lines
otherwise_lines None = []
otherwise_lines (Some body) = None ∷ None ∷ body_lines body

abbrev parts_lines : Statement-F Statement → Lines
parts_lines (Statement-F.Line line) = lines_of_line line
parts_lines (Statement-F.If at first more other) = begun at (case_lines first ++ (flat_map case_lines more ++ otherwise_lines other))
parts_lines (Statement-F.For at targets over body) = begun at (lines_of_for (tests_spelling targets) (tests_spelling over) (body_lines body))
parts_lines (Statement-F.Def at def) = begun at (lines_of_def (parameters_spelling def.required def.defaults) (if_written def.comma m.Comma) (body_lines def.body))

lined : Statement-F Statement → Statement-F Lines
lined = map-Statement Statement Lines lines_of_statement

at_layer : (d : Statement-F Statement) → lines_of_statement (roll-Statement d) ≡ lines_of_layer (lined d)
unfolding lines_of_statement lined
at_layer d = fold-roll-Statement Lines lines_of_layer d

body_again : (body : Block Statement) → lines_of_block (block_in (lined (Statement-F.For 0 [] [] body))) ≡ body_lines body
unfolding lined block_in
body_again (Inline line) = refl
body_again (Indented xs) = ap (λ l. None ∷ None ∷ (l ++ None ∷ [])) (flat_map-map (λ x. x) lines_of_statement xs)

more_again : (first : Branch Statement) (other : Option (Block Statement)) (xs : List (Branch Statement))
    → flat_map lines_of_branch (branches_in (lined (Statement-F.If 0 first xs other))) ≡ flat_map case_lines xs
unfolding lined block_in branches_in
more_again first other [] = refl
more_again first other (x ∷ xs) =
    ap (λ l. (None ∷ (inner (expr_spelling x.condition) ++ None ∷ l)) ++ flat_map lines_of_branch (branches_in (lined (Statement-F.If 0 first xs other)))) (body_again x.body)
    ∙ ap (λ l. case_lines x ++ l) (more_again first other xs)

else_again : (first : Branch Statement) (other : Option (Block Statement)) → lines_of_else (else_in (lined (Statement-F.If 0 first [] other))) ≡ otherwise_lines other
unfolding lined block_in else_in
else_again first None = refl
else_again first (Some body) = ap (λ l. None ∷ None ∷ l) (body_again body)

lines_of_parts : (d : Statement-F Statement) → lines_of_statement (roll-Statement d) ≡ parts_lines d
unfolding lined block_in branches_in else_in
lines_of_parts (Statement-F.Line line) = at_layer (Statement-F.Line line)
lines_of_parts (Statement-F.If at first more other) =
    at_layer (Statement-F.If at first more other)
    ∙ ap (λ l. begun at ((None ∷ (inner (expr_spelling first.condition) ++ None ∷ l))
    ++ (flat_map lines_of_branch (branches_in (lined (Statement-F.If 0 first more other))) ++ lines_of_else (else_in (lined (Statement-F.If 0 first [] other)))))) (body_again first.body)
    ∙ ap (λ l. begun at (case_lines first ++ (l ++ lines_of_else (else_in (lined (Statement-F.If 0 first [] other)))))) (more_again first other more)
    ∙ ap (λ l. begun at (case_lines first ++ (flat_map case_lines more ++ l))) (else_again first other)
lines_of_parts (Statement-F.For at targets over body) =
    at_layer (Statement-F.For at targets over body) ∙ ap (λ l. begun at (lines_of_for (tests_spelling targets) (tests_spelling over) l)) (body_again body)
lines_of_parts (Statement-F.Def at def) =
    at_layer (Statement-F.Def at def) ∙ ap (λ l. begun at (lines_of_def (parameters_spelling def.required def.defaults) (if_written def.comma m.Comma) l)) (body_again def.body)

-- ---- the lines that are claimed

claimed_lines : Claims → Lines
claimed_lines = map (λ k. k.1)

joined : (a b : Claims) → claimed_lines (a ++ b) ≡ claimed_lines a ++ claimed_lines b
unfolding claimed_lines
joined a b = map-append (λ k. k.1) a b

none_claimed : (ks : Tokens) → claimed_lines (plain ks) ≡ inner ks
unfolding claimed_lines
none_claimed [] = refl
none_claimed (k ∷ ks) = ap (λ l. None ∷ l) (none_claimed ks)

first_of : (line : ℕ) (ks : Claims) (l : Lines) → claimed_lines ks ≡ l → claimed_lines (first_claimed line ks) ≡ begun line l
unfolding claimed_lines
first_of line [] l is = ap (begun line) is
first_of line (k ∷ ks) l is = ap (begun line) is

-- tokens without lines, and what follows
after_tokens : (ks : Tokens) (x : Claims) (l : Lines) → claimed_lines x ≡ l → claimed_lines (plain ks ++ x) ≡ inner ks ++ l
after_tokens ks x l is = joined (plain ks) x ∙ ap (λ v. v ++ claimed_lines x) (none_claimed ks) ∙ ap (λ v. inner ks ++ v) is

inner_joined : (a b : Tokens) (x : Lines) → inner (a ++ b) ++ x ≡ inner a ++ (inner b ++ x)
inner_joined a b x = ap (λ v. v ++ x) (map-append (λ _. None) a b) ∙ append_assoc (inner a) (inner b) x

small_lines : (x : Small) → claimed_lines (small_claims x) ≡ lines_of_small x
small_lines x = first_of x.line (plain (small_spelling x)) (inner (small_spelling x)) (none_claimed (small_spelling x))

more_lines : (xs : List Small) → claimed_lines (flat_map (λ y. free (t.Mark m.Semicolon) ∷ small_claims y) xs) ≡ flat_map (λ y. None ∷ lines_of_small y) xs
unfolding claimed_lines
more_lines [] = refl
more_lines (x ∷ xs) =
    joined (free (t.Mark m.Semicolon) ∷ small_claims x) (flat_map (λ y. free (t.Mark m.Semicolon) ∷ small_claims y) xs)
    ∙ ap (λ l. (None ∷ l) ++ claimed_lines (flat_map (λ y. free (t.Mark m.Semicolon) ∷ small_claims y) xs)) (small_lines x)
    ∙ ap (λ l. (None ∷ lines_of_small x) ++ l) (more_lines xs)

smalls_lines : (xs : List Small) → claimed_lines (smalls_claims xs) ≡ lines_of_smalls xs
unfolding claimed_lines
smalls_lines [] = refl
smalls_lines (x ∷ xs) =
    joined (small_claims x) (flat_map (λ y. free (t.Mark m.Semicolon) ∷ small_claims y) xs)
    ∙ ap (λ l. l ++ claimed_lines (flat_map (λ y. free (t.Mark m.Semicolon) ∷ small_claims y) xs)) (small_lines x)
    ∙ ap (λ l. lines_of_small x ++ l) (more_lines xs)

line_lines : (line : Line) → claimed_lines (line_claims line) ≡ lines_of_line line
unfolding line_claims lines_of_line
line_lines line =
    joined (smalls_claims line.smalls) (plain (if_written line.semicolon m.Semicolon ++ t.Newline ∷ []))
    ∙ ap (λ l. l ++ claimed_lines (plain (if_written line.semicolon m.Semicolon ++ t.Newline ∷ []))) (smalls_lines line.smalls)
    ∙ ap (λ l. lines_of_smalls line.smalls ++ l)
    (none_claimed (if_written line.semicolon m.Semicolon ++ t.Newline ∷ []) ∙ map-append (λ _. None) (if_written line.semicolon m.Semicolon) (t.Newline ∷ []))

Claimed : Statement → Type 0
Claimed x = claimed_lines (statement_claims x) ≡ lines_of_statement x

list_lines : (xs : List Statement) → AllByRecursion Claimed xs → claimed_lines (flat_map statement_claims xs) ≡ flat_map lines_of_statement xs
unfolding Claimed claimed_lines
list_lines [] each = refl
list_lines (x ∷ xs) each =
    joined (statement_claims x) (flat_map statement_claims xs) ∙ ap (λ l. l ++ claimed_lines (flat_map statement_claims xs)) each.0
    ∙ ap (λ l. lines_of_statement x ++ l) (list_lines xs each.1)

-- statements, and one token after them
closed_lines : (xs : List Statement) (k : Token) → AllByRecursion Claimed xs → claimed_lines (flat_map statement_claims xs ++ plain (k ∷ [])) ≡ flat_map lines_of_statement xs ++ None ∷ []
closed_lines xs k each =
    joined (flat_map statement_claims xs) (plain (k ∷ [])) ∙ ap (λ l. l ++ claimed_lines (plain (k ∷ []))) (list_lines xs each)
    ∙ ap (λ l. flat_map lines_of_statement xs ++ l) (none_claimed (k ∷ []))

block_lines : (body : Block Statement) → EachBlock Claimed body → claimed_lines (body_claims body) ≡ body_lines body
block_lines (Inline line) each = line_lines line
block_lines (Indented xs) each =
    after_tokens (t.Newline ∷ t.Indent ∷ []) (flat_map statement_claims xs ++ plain (t.Dedent ∷ [])) (flat_map lines_of_statement xs ++ None ∷ []) (closed_lines xs t.Dedent each)

branch_lines : (word : Keyword) (branch : Branch Statement) → EachBranch Claimed branch → claimed_lines (case_claims word branch) ≡ case_lines branch
branch_lines word branch each =
    after_tokens (branch_header word branch.condition) (body_claims branch.body) (body_lines branch.body) (block_lines branch.body each)
    ∙ ap (λ l. None ∷ l) (inner_joined (expr_spelling branch.condition) (t.Mark m.Colon ∷ []) (body_lines branch.body))

branches_lines : (xs : List (Branch Statement)) → AllByRecursion (EachBranch Claimed) xs → claimed_lines (flat_map (case_claims w.Elif) xs) ≡ flat_map case_lines xs
unfolding claimed_lines
branches_lines [] each = refl
branches_lines (x ∷ xs) each =
    joined (case_claims w.Elif x) (flat_map (case_claims w.Elif) xs) ∙ ap (λ l. l ++ claimed_lines (flat_map (case_claims w.Elif) xs)) (branch_lines w.Elif x each.0)
    ∙ ap (λ l. case_lines x ++ l) (branches_lines xs each.1)

else_lines : (other : Option (Block Statement)) → EachElse Claimed other → claimed_lines (otherwise_claims other) ≡ otherwise_lines other
unfolding claimed_lines
else_lines None each = refl
else_lines (Some body) each = after_tokens else_header (body_claims body) (body_lines body) (block_lines body each)

if_lines : (first : Branch Statement) (more : List (Branch Statement)) (other : Option (Block Statement)) → EachBranch Claimed first → AllByRecursion (EachBranch Claimed) more → EachElse Claimed other
    → claimed_lines (if_claims first more other) ≡ case_lines first ++ (flat_map case_lines more ++ otherwise_lines other)
if_lines first more other each_first each_more each_other =
    joined (case_claims w.If first) (flat_map (case_claims w.Elif) more ++ otherwise_claims other)
    ∙ ap (λ l. l ++ claimed_lines (flat_map (case_claims w.Elif) more ++ otherwise_claims other)) (branch_lines w.If first each_first)
    ∙ ap (λ l. case_lines first ++ l) (joined (flat_map (case_claims w.Elif) more) (otherwise_claims other))
    ∙ ap (λ l. case_lines first ++ (l ++ claimed_lines (otherwise_claims other))) (branches_lines more each_more)
    ∙ ap (λ l. case_lines first ++ (flat_map case_lines more ++ l)) (else_lines other each_other)

for_lines : (a b : Tokens) (x : Lines) → inner (t.Word w.For ∷ (a ++ t.Word w.In ∷ (b ++ t.Mark m.Colon ∷ []))) ++ x ≡ lines_of_for a b x
for_lines a b x =
    ap (λ l. None ∷ l) (inner_joined a (t.Word w.In ∷ (b ++ t.Mark m.Colon ∷ [])) x)
    ∙ ap (λ l. None ∷ (inner a ++ None ∷ l)) (inner_joined b (t.Mark m.Colon ∷ []) x)

def_lines : (name : List ℕ) (a b : Tokens) (x : Lines) → inner (t.Word w.Def ∷ t.Name name ∷ t.Mark m.OpenRound ∷ (a ++ (b ++ t.Mark m.CloseRound ∷ t.Mark m.Colon ∷ []))) ++ x ≡ lines_of_def a b x
def_lines name a b x =
    ap (λ l. None ∷ None ∷ None ∷ l) (inner_joined a (b ++ t.Mark m.CloseRound ∷ t.Mark m.Colon ∷ []) x)
    ∙ ap (λ l. None ∷ None ∷ None ∷ (inner a ++ l)) (inner_joined b (t.Mark m.CloseRound ∷ t.Mark m.Colon ∷ []) x)

claimed_parts : (d : Statement-F Statement) → EachPart Claimed d → claimed_lines (parts_claims d) ≡ parts_lines d
claimed_parts (Statement-F.Line line) each = line_lines line
claimed_parts (Statement-F.If at first more other) each = first_of at (if_claims first more other) _ (if_lines first more other each.0 each.1 each.2)
claimed_parts (Statement-F.For at targets over body) each =
    first_of at (plain (for_header targets over) ++ body_claims body) _
    (after_tokens (for_header targets over) (body_claims body) (body_lines body) (block_lines body each) ∙ for_lines (tests_spelling targets) (tests_spelling over) (body_lines body))
claimed_parts (Statement-F.Def at def) each =
    first_of at (plain (def_header def) ++ body_claims def.body) _
    (after_tokens (def_header def) (body_claims def.body) (body_lines def.body) (block_lines def.body each)
    ∙ def_lines def.name (parameters_spelling def.required def.defaults) (if_written def.comma m.Comma) (body_lines def.body))

statement_lines : (x : Statement) → claimed_lines (statement_claims x) ≡ lines_of_statement x
unfolding Claimed
statement_lines = induct_statement Claimed (λ d each. ap claimed_lines (claims_of_parts d) ∙ claimed_parts d each ∙ sym (lines_of_parts d))

all_claimed : (xs : List Statement) → AllByRecursion Claimed xs
unfolding Claimed
all_claimed [] = tt
all_claimed (x ∷ xs) = (statement_lines x, all_claimed xs)

module_lines : (cell : Module) → claimed_lines (module_claims cell) ≡ lines_of cell
unfolding module_claims lines_of
module_lines cell = closed_lines cell.statements t.End (all_claimed cell.statements)

-- ---- trees

-- tokens on claimed lines stand on these lines
stand : (c : Input) (ks : Claims) → Matches c ks → StandOn (claimed_lines ks) c
unfolding claimed_lines
stand [] [] h = tt
stand [] (k ∷ ks) h = absurd h
stand (s ∷ c) [] h = absurd h
stand (s ∷ c) (k ∷ ks) h = (h.1, stand c ks h.2)

pub claimed_tree : (x : Module) (ts : Input) → IsClaimed x ts → IsTree x ts
claimed_tree x ts h = (h.0, matched_kinds ts (module_claims x) h.1 ∙ tokens_module x, subst (λ l. StandOn l ts) (module_lines x) (stand ts (module_claims x) h.1))

pub tree_claimed : (x : Module) (ts : Input) → IsTree x ts → IsClaimed x ts
unfolding claimed_lines
tree_claimed x ts h = (h.0, matched_lines ts (module_claims x) (h.1 ∙ sym (tokens_module x)) (subst (λ l. StandOn l ts) (sym (module_lines x)) h.2))
