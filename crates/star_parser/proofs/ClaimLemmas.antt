-- Tokens with the lines that are claimed for them.
use Rattle.std.proofs.Common.{◌≡◌, ◌∙◌, ℕ, List, [], ◌∷◌, ◌++◌, map, Option, Some, None, refl, sym, ap, subst, append_assoc}
use Rattle.std.specs.List.{flat_map, AllByRecursion}
use Rattle.std.proofs.lemmas.List.{map-append}
use Rattle.std.proofs.lemmas.List.Folds.{flat_map-map}
use Rattle.star_syntax.specs.declared.token.Token.{Token}
use Rattle.star_syntax.specs.declared.token.Token.TheVariants as t
use Rattle.star_syntax.specs.declared.token.Keyword.{Keyword}
use Rattle.star_syntax.specs.declared.token.Keyword.TheVariants as w
use Rattle.star_syntax.specs.declared.token.Mark.TheVariants as m
use Rattle.star_syntax.specs.declared.token.Spanned.{Spanned}
use Rattle.star_syntax.specs.declared.statement.Small.{Small}
use Rattle.star_syntax.specs.declared.statement.Line.{Line}
use Rattle.star_syntax.specs.declared.statement.Block.{Block}
use Rattle.star_syntax.specs.declared.statement.Block.TheVariants.{Inline, Indented}
use Rattle.star_syntax.specs.declared.statement.Branch.{Branch}
use Rattle.star_syntax.specs.declared.statement.Statement.{Statement, roll-Statement, map-Statement, fold-roll-Statement}
use Rattle.star_syntax.specs.declared.statement.Statement.TheOpen.{Statement-F}
use Rattle.star_syntax.specs.declared.statement.Module.{Module}
use Rattle.star_syntax.specs.Spelling.{Tokens, expr_spelling, tests_spelling, small_spelling, line_spelling, statement_spelling, spelling, separated, if_written, parameters_spelling}
use Rattle.star_syntax.specs.SpellingOfParts.{body_spelling, case_spelling, otherwise_spelling, statement_parts_spelling}
use Rattle.star_syntax.proofs.StatementLemmas.{statement_spells}
use Rattle.star_parser.specs.Lines.{StandOn}
use Rattle.star_parser.specs.Reading.{Input, kinds}
use Rattle.star_parser.proofs.Claims.{Claims, free, plain, first_claimed, small_claims, smalls_claims, line_claims, block_claims, branch_header, branch_claims, else_header, else_claims, for_header, def_header, statement_layer_claims, statement_claims, module_claims, Matches}
use Rattle.star_parser.specs.StatementTables.{first_line}
use Rattle.star_parser.proofs.LineMatches.{matches_append}
use Rattle.star_parser.proofs.StatementParts.{EachBlock, EachBranch, EachElse, EachPart, block_in, branches_in, else_in, induct_statement}

-- ---- the tokens of a statement, over the statements in its blocks

abbrev pub body_claims : Block Statement → Claims
body_claims (Inline line) = line_claims line
body_claims (Indented statements) = plain (t.Newline ∷ t.Indent ∷ []) ++ (flat_map statement_claims statements ++ plain (t.Dedent ∷ []))

abbrev pub case_claims : Keyword → Branch Statement → Claims
case_claims word branch = plain (branch_header word branch.condition) ++ body_claims branch.body

abbrev pub otherwise_claims : Option (Block Statement) → Claims
otherwise_claims None = []
otherwise_claims (Some body) = plain else_header ++ body_claims body

abbrev pub if_claims : Branch Statement → List (Branch Statement) → Option (Block Statement) → Claims
if_claims first more other = case_claims w.If first ++ (flat_map (case_claims w.Elif) more ++ otherwise_claims other)

abbrev pub parts_claims : Statement-F Statement → Claims
parts_claims (Statement-F.Line line) = line_claims line
parts_claims (Statement-F.If at first more other) = first_claimed at (if_claims first more other)
parts_claims (Statement-F.For at targets over body) = first_claimed at (plain (for_header targets over) ++ body_claims body)
parts_claims (Statement-F.Def at def) = first_claimed at (plain (def_header def) ++ body_claims def.body)

claimed : Statement-F Statement → Statement-F Claims
claimed = map-Statement Statement Claims statement_claims

at_layer : (d : Statement-F Statement) → statement_claims (roll-Statement d) ≡ statement_layer_claims (claimed d)
unfolding statement_claims claimed
at_layer d = fold-roll-Statement Claims statement_layer_claims d

body_again : (body : Block Statement) → block_claims (block_in (claimed (Statement-F.For 0 [] [] body))) ≡ body_claims body
unfolding claimed block_in
body_again (Inline line) = refl
body_again (Indented xs) = ap (λ l. plain (t.Newline ∷ t.Indent ∷ []) ++ (l ++ plain (t.Dedent ∷ []))) (flat_map-map (λ x. x) statement_claims xs)

more_again : (first : Branch Statement) (other : Option (Block Statement)) (xs : List (Branch Statement))
    → flat_map (branch_claims w.Elif) (branches_in (claimed (Statement-F.If 0 first xs other))) ≡ flat_map (case_claims w.Elif) xs
unfolding claimed block_in branches_in
more_again first other [] = refl
more_again first other (x ∷ xs) =
    ap (λ l. (plain (branch_header w.Elif x.condition) ++ l) ++ flat_map (branch_claims w.Elif) (branches_in (claimed (Statement-F.If 0 first xs other)))) (body_again x.body)
    ∙ ap (λ l. case_claims w.Elif x ++ l) (more_again first other xs)

else_again : (first : Branch Statement) (other : Option (Block Statement)) → else_claims (else_in (claimed (Statement-F.If 0 first [] other))) ≡ otherwise_claims other
unfolding claimed block_in else_in
else_again first None = refl
else_again first (Some body) = ap (λ l. plain else_header ++ l) (body_again body)

pub claims_of_parts : (d : Statement-F Statement) → statement_claims (roll-Statement d) ≡ parts_claims d
unfolding claimed block_in branches_in else_in
claims_of_parts (Statement-F.Line line) = at_layer (Statement-F.Line line)
claims_of_parts (Statement-F.If at first more other) =
    at_layer (Statement-F.If at first more other)
    ∙ ap (λ l. first_claimed at ((plain (branch_header w.If first.condition) ++ l)
    ++ (flat_map (branch_claims w.Elif) (branches_in (claimed (Statement-F.If 0 first more other))) ++ else_claims (else_in (claimed (Statement-F.If 0 first [] other)))))) (body_again first.body)
    ∙ ap (λ l. first_claimed at (case_claims w.If first ++ (l ++ else_claims (else_in (claimed (Statement-F.If 0 first [] other)))))) (more_again first other more)
    ∙ ap (λ l. first_claimed at (case_claims w.If first ++ (flat_map (case_claims w.Elif) more ++ l))) (else_again first other)
claims_of_parts (Statement-F.For at targets over body) =
    at_layer (Statement-F.For at targets over body) ∙ ap (λ l. first_claimed at (plain (for_header targets over) ++ l)) (body_again body)
claims_of_parts (Statement-F.Def at def) = at_layer (Statement-F.Def at def) ∙ ap (λ l. first_claimed at (plain (def_header def) ++ l)) (body_again def.body)

-- ---- the tokens without lines

pub tokens_of : Claims → Tokens
tokens_of = map (λ k. k.0)

pub tokens_append : (a b : Claims) → tokens_of (a ++ b) ≡ tokens_of a ++ tokens_of b
unfolding tokens_of
tokens_append a b = map-append (λ k. k.0) a b

pub tokens_plain : (ks : Tokens) → tokens_of (plain ks) ≡ ks
unfolding tokens_of
tokens_plain [] = refl
tokens_plain (k ∷ ks) = ap (λ l. k ∷ l) (tokens_plain ks)

pub tokens_first : (line : ℕ) (ks : Claims) → tokens_of (first_claimed line ks) ≡ tokens_of ks
unfolding tokens_of
tokens_first line [] = refl
tokens_first line (k ∷ ks) = refl

-- a front without lines, and what follows
pub tokens_front : (ks : Tokens) (x : Claims) (l : Tokens) → tokens_of x ≡ l → tokens_of (plain ks ++ x) ≡ ks ++ l
tokens_front ks x l is = tokens_append (plain ks) x ∙ ap (λ v. v ++ tokens_of x) (tokens_plain ks) ∙ ap (λ v. ks ++ v) is

tokens_small : (x : Small) → tokens_of (small_claims x) ≡ small_spelling x
tokens_small x = tokens_first x.line (plain (small_spelling x)) ∙ tokens_plain (small_spelling x)

tokens_more : (xs : List Small) → tokens_of (flat_map (λ y. free (t.Mark m.Semicolon) ∷ small_claims y) xs) ≡ flat_map (λ y. t.Mark m.Semicolon ∷ y) (map small_spelling xs)
unfolding tokens_of
tokens_more [] = refl
tokens_more (x ∷ xs) =
    tokens_append (free (t.Mark m.Semicolon) ∷ small_claims x) (flat_map (λ y. free (t.Mark m.Semicolon) ∷ small_claims y) xs)
    ∙ ap (λ l. (t.Mark m.Semicolon ∷ l) ++ tokens_of (flat_map (λ y. free (t.Mark m.Semicolon) ∷ small_claims y) xs)) (tokens_small x)
    ∙ ap (λ l. (t.Mark m.Semicolon ∷ small_spelling x) ++ l) (tokens_more xs)

tokens_smalls : (xs : List Small) → tokens_of (smalls_claims xs) ≡ separated m.Semicolon (map small_spelling xs)
unfolding tokens_of
tokens_smalls [] = refl
tokens_smalls (x ∷ xs) =
    tokens_append (small_claims x) (flat_map (λ y. free (t.Mark m.Semicolon) ∷ small_claims y) xs)
    ∙ ap (λ l. l ++ tokens_of (flat_map (λ y. free (t.Mark m.Semicolon) ∷ small_claims y) xs)) (tokens_small x)
    ∙ ap (λ l. small_spelling x ++ l) (tokens_more xs)

pub tokens_line : (line : Line) → tokens_of (line_claims line) ≡ line_spelling line
unfolding line_claims line_spelling
tokens_line line =
    tokens_append (smalls_claims line.smalls) (plain (if_written line.semicolon m.Semicolon ++ t.Newline ∷ []))
    ∙ ap (λ l. l ++ tokens_of (plain (if_written line.semicolon m.Semicolon ++ t.Newline ∷ []))) (tokens_smalls line.smalls)
    ∙ ap (λ l. separated m.Semicolon (map small_spelling line.smalls) ++ l) (tokens_plain (if_written line.semicolon m.Semicolon ++ t.Newline ∷ []))
    ∙ sym (append_assoc (separated m.Semicolon (map small_spelling line.smalls)) (if_written line.semicolon m.Semicolon) (t.Newline ∷ []))

Spells : Statement → Type 0
Spells x = tokens_of (statement_claims x) ≡ statement_spelling x

tokens_list : (xs : List Statement) → AllByRecursion Spells xs → tokens_of (flat_map statement_claims xs) ≡ flat_map statement_spelling xs
unfolding Spells tokens_of
tokens_list [] each = refl
tokens_list (x ∷ xs) each =
    tokens_append (statement_claims x) (flat_map statement_claims xs) ∙ ap (λ l. l ++ tokens_of (flat_map statement_claims xs)) each.0
    ∙ ap (λ l. statement_spelling x ++ l) (tokens_list xs each.1)

tokens_body : (body : Block Statement) → EachBlock Spells body → tokens_of (body_claims body) ≡ body_spelling body
tokens_body (Inline line) each = tokens_line line
tokens_body (Indented xs) each =
    tokens_front (t.Newline ∷ t.Indent ∷ []) (flat_map statement_claims xs ++ plain (t.Dedent ∷ [])) (flat_map statement_spelling xs ++ t.Dedent ∷ [])
    (tokens_append (flat_map statement_claims xs) (plain (t.Dedent ∷ [])) ∙ ap (λ l. l ++ tokens_of (plain (t.Dedent ∷ []))) (tokens_list xs each)
    ∙ ap (λ l. flat_map statement_spelling xs ++ l) (tokens_plain (t.Dedent ∷ [])))

-- a header with its colon at the end, and what follows
header_joined : (a : Tokens) (x : Claims) (l : Tokens) → tokens_of x ≡ l → tokens_of (plain (a ++ t.Mark m.Colon ∷ []) ++ x) ≡ a ++ t.Mark m.Colon ∷ l
header_joined a x l is = tokens_front (a ++ t.Mark m.Colon ∷ []) x l is ∙ append_assoc a (t.Mark m.Colon ∷ []) l

tokens_case : (word : Keyword) (branch : Branch Statement) → EachBranch Spells branch → tokens_of (case_claims word branch) ≡ case_spelling word branch
tokens_case word branch each = header_joined (t.Word word ∷ expr_spelling branch.condition) (body_claims branch.body) (body_spelling branch.body) (tokens_body branch.body each)

tokens_cases : (xs : List (Branch Statement)) → AllByRecursion (EachBranch Spells) xs → tokens_of (flat_map (case_claims w.Elif) xs) ≡ flat_map (case_spelling w.Elif) xs
unfolding tokens_of
tokens_cases [] each = refl
tokens_cases (x ∷ xs) each =
    tokens_append (case_claims w.Elif x) (flat_map (case_claims w.Elif) xs) ∙ ap (λ l. l ++ tokens_of (flat_map (case_claims w.Elif) xs)) (tokens_case w.Elif x each.0)
    ∙ ap (λ l. case_spelling w.Elif x ++ l) (tokens_cases xs each.1)

tokens_else : (other : Option (Block Statement)) → EachElse Spells other → tokens_of (otherwise_claims other) ≡ otherwise_spelling other
unfolding tokens_of
tokens_else None each = refl
tokens_else (Some body) each = tokens_front else_header (body_claims body) (body_spelling body) (tokens_body body each)

pub for_joined : (a b c : Tokens) → (t.Word w.For ∷ (a ++ t.Word w.In ∷ (b ++ t.Mark m.Colon ∷ []))) ++ c ≡ t.Word w.For ∷ (a ++ t.Word w.In ∷ (b ++ t.Mark m.Colon ∷ c))
for_joined a b c = simp append_assoc

pub def_joined : (name : List ℕ) (a b c : Tokens) → (t.Word w.Def ∷ t.Name name ∷ t.Mark m.OpenRound ∷ (a ++ (b ++ t.Mark m.CloseRound ∷ t.Mark m.Colon ∷ []))) ++ c
    ≡ t.Word w.Def ∷ t.Name name ∷ t.Mark m.OpenRound ∷ (a ++ (b ++ t.Mark m.CloseRound ∷ t.Mark m.Colon ∷ c))
def_joined name a b c = simp append_assoc

tokens_parts : (d : Statement-F Statement) → EachPart Spells d → tokens_of (parts_claims d) ≡ statement_parts_spelling d
tokens_parts (Statement-F.Line line) each = tokens_line line
tokens_parts (Statement-F.If at first more other) each =
    tokens_first at (if_claims first more other) ∙ tokens_append (case_claims w.If first) (flat_map (case_claims w.Elif) more ++ otherwise_claims other)
    ∙ ap (λ l. l ++ tokens_of (flat_map (case_claims w.Elif) more ++ otherwise_claims other)) (tokens_case w.If first each.0)
    ∙ ap (λ l. case_spelling w.If first ++ l) (tokens_append (flat_map (case_claims w.Elif) more) (otherwise_claims other))
    ∙ ap (λ l. case_spelling w.If first ++ (l ++ tokens_of (otherwise_claims other))) (tokens_cases more each.1)
    ∙ ap (λ l. case_spelling w.If first ++ (flat_map (case_spelling w.Elif) more ++ l)) (tokens_else other each.2)
tokens_parts (Statement-F.For at targets over body) each =
    tokens_first at (plain (for_header targets over) ++ body_claims body) ∙ tokens_front (for_header targets over) (body_claims body) (body_spelling body) (tokens_body body each)
    ∙ for_joined (tests_spelling targets) (tests_spelling over) (body_spelling body)
tokens_parts (Statement-F.Def at def) each =
    tokens_first at (plain (def_header def) ++ body_claims def.body) ∙ tokens_front (def_header def) (body_claims def.body) (body_spelling def.body) (tokens_body def.body each)
    ∙ def_joined def.name (parameters_spelling def.required def.defaults) (if_written def.comma m.Comma) (body_spelling def.body)

pub tokens_statement : (x : Statement) → tokens_of (statement_claims x) ≡ statement_spelling x
unfolding Spells
tokens_statement = induct_statement Spells (λ d each. ap tokens_of (claims_of_parts d) ∙ tokens_parts d each ∙ sym (statement_spells d))

pub tokens_statements : (xs : List Statement) → tokens_of (flat_map statement_claims xs) ≡ flat_map statement_spelling xs
unfolding Spells
tokens_statements xs = tokens_list xs (all_spell xs)
  where
    all_spell : (xs : List Statement) → AllByRecursion Spells xs
    all_spell [] = tt
    all_spell (x ∷ xs) = (tokens_statement x, all_spell xs)

pub tokens_module : (cell : Module) → tokens_of (module_claims cell) ≡ spelling cell
unfolding module_claims spelling
tokens_module cell =
    tokens_append (flat_map statement_claims cell.statements) (plain (t.End ∷ [])) ∙ ap (λ l. l ++ tokens_of (plain (t.End ∷ []))) (tokens_statements cell.statements)
    ∙ ap (λ l. flat_map statement_spelling cell.statements ++ l) (tokens_plain (t.End ∷ []))

-- ---- what matches

pub matched_kinds : (c : Input) (x : Claims) → Matches c x → kinds c ≡ tokens_of x
unfolding tokens_of
matched_kinds [] [] h = refl
matched_kinds [] (k ∷ x) h = absurd h
matched_kinds (s ∷ c) [] h = absurd h
matched_kinds (s ∷ c) (k ∷ x) h = ap (λ v. v ∷ kinds c) h.0 ∙ ap (λ v. k.0 ∷ v) (matched_kinds c x h.2)

-- tokens of these kinds on the lines that are claimed
pub matched_lines : (c : Input) (x : Claims) → kinds c ≡ tokens_of x → StandOn (map (λ k. k.1) x) c → Matches c x
unfolding tokens_of
matched_lines [] [] same h = tt
matched_lines [] (k ∷ x) same h = absurd cc
matched_lines (s ∷ c) [] same h = absurd cc
matched_lines (s ∷ c) (k ∷ x) same h = let both : s.token ∷ kinds c ≡ k.0 ∷ tokens_of x = same in let later : kinds c ≡ tokens_of x = cc in (cc, h.0, matched_lines c x later h.1)

-- one list matched in two parts
pub matched_joined : (c a b : Input) (x y : Claims) → c ≡ a ++ b → Matches a x → Matches b y → Matches c (x ++ y)
matched_joined c a b x y split h g = subst (λ v. Matches v (x ++ y)) (sym split) (matches_append a b x y h g)

-- a first token, and what follows
pub matched_cons : (c : Input) (k : Token) (x : Claims) → Matches c (free k ∷ x) → (s : Spanned) × (c' : Input) × (c ≡ s ∷ c') × (s.token ≡ k) × Matches c' x
matched_cons [] k x h = absurd h
matched_cons (s ∷ c) k x h = (s, c, refl, h.0, h.2)

-- a first token with its line, and what follows
pub matched_line : (c : Input) (at : ℕ) (k : Token) (x : Claims) → Matches c ((k, Some at) ∷ x) → (s : Spanned) × (c' : Input) × (c ≡ s ∷ c') × (s.token ≡ k) × (at ≡ s.line) × Matches c' x
matched_line [] at k x h = absurd h
matched_line (s ∷ c) at k x h = (s, c, refl, h.0, h.1, h.2)

-- the line of the first token may be claimed
pub first_matched : (c : Input) (x : Claims) → Matches c x → Matches c (first_claimed (first_line c) x)
first_matched [] [] h = tt
first_matched [] (k ∷ x) h = absurd h
first_matched (s ∷ c) [] h = absurd h
first_matched (s ∷ c) (k ∷ x) h = (h.0, refl, h.2)
