-- The spelling of each kind of statement.
use Rattle.std.proofs.Common.{append_assoc, ◌≡◌, ◌∙◌, ℕ, Bool, List, [], ◌∷◌, ◌++◌, map, Option, Some, None, refl, sym, ap, length}
use Rattle.std.specs.List.{flat_map}
use Rattle.std.proofs.lemmas.List.{length-map}
use Rattle.std.proofs.lemmas.List.Folds.{flat_map-map}
use Rattle.star_syntax.specs.declared.token.Token.TheVariants as t
use Rattle.star_syntax.specs.declared.token.Keyword.TheVariants as w
use Rattle.star_syntax.specs.declared.token.Mark.TheVariants as m
use Rattle.star_syntax.specs.declared.expression.Expr.{Expr}
use Rattle.star_syntax.specs.declared.statement.Line.{Line}
use Rattle.star_syntax.specs.declared.statement.Block.{Block}
use Rattle.star_syntax.specs.declared.statement.Block.TheVariants.{Inline, Indented}
use Rattle.star_syntax.specs.declared.statement.Branch.{Branch}
use Rattle.star_syntax.specs.declared.statement.Definition.{Definition}
use Rattle.star_syntax.specs.declared.statement.Statement.{Statement, roll-Statement, map-Statement, fold-roll-Statement}
use Rattle.star_syntax.specs.declared.statement.Statement.TheOpen.{Statement-F}
use Rattle.star_syntax.specs.declared.statement.Statement.TheVariants as s
use Rattle.star_syntax.specs.Spelling.{Tokens, expr_spelling, tests_spelling, line_spelling, statement_spelling, statement_layer_spelling, block_spelling, branch_spelling, else_spelling, parameters_spelling, default_spelling, listed, if_written}
use Rattle.star_syntax.specs.SpellingOfParts.{body_spelling, case_spelling, otherwise_spelling, def_spelling, name_token, listed_after, statement_parts_spelling}
use Rattle.star_syntax.proofs.ListLemmas.{listed_parts}

at_layer : (d : Statement-F Statement) → statement_spelling (roll-Statement d) ≡ statement_layer_spelling (map-Statement Statement Tokens statement_spelling d)
unfolding statement_spelling
at_layer d = fold-roll-Statement Tokens statement_layer_spelling d

-- ---- parts of a statement of spelled parts

block_in : Statement-F Tokens → Tokens
block_in (Statement-F.For at targets over body) = block_spelling body
block_in _ = []

more_in : Statement-F Tokens → Tokens
more_in (Statement-F.If at first more other) = flat_map (branch_spelling w.Elif) more
more_in _ = []

else_in : Statement-F Tokens → Tokens
else_in (Statement-F.If at first more other) = else_spelling other
else_in _ = []

spelled : Statement-F Statement → Statement-F Tokens
spelled = map-Statement Statement Tokens statement_spelling

block_again : (at : ℕ) (targets over : List Expr) (body : Block Statement) → block_in (spelled (Statement-F.For at targets over body)) ≡ body_spelling body
unfolding spelled block_in
block_again at targets over (Inline line) = refl
block_again at targets over (Indented ss) = ap (λ l. t.Newline ∷ t.Indent ∷ (l ++ t.Dedent ∷ [])) (flat_map-map (λ x. x) statement_spelling ss)

more_again : (at : ℕ) (first : Branch Statement) (other : Option (Block Statement)) (more : List (Branch Statement)) →
    more_in (spelled (Statement-F.If at first more other)) ≡ flat_map (case_spelling w.Elif) more
unfolding spelled more_in block_in
more_again at first other [] = refl
more_again at first other (x ∷ xs) =
    ap (λ l. (t.Word w.Elif ∷ (expr_spelling x.condition ++ t.Mark m.Colon ∷ l)) ++ more_in (spelled (Statement-F.If at first xs other))) (block_again at [] [] x.body)
    ∙ ap (λ l. case_spelling w.Elif x ++ l) (more_again at first other xs)

else_again : (at : ℕ) (first : Branch Statement) (more : List (Branch Statement)) (other : Option (Block Statement)) →
    else_in (spelled (Statement-F.If at first more other)) ≡ otherwise_spelling other
unfolding spelled else_in block_in
else_again at first more None = refl
else_again at first more (Some body) = ap (λ l. t.Word w.Else ∷ t.Mark m.Colon ∷ l) (block_again at [] [] body)

-- right and left grouping
if_grouped : (a b c : Tokens) → a ++ b ++ c ≡ a ++ (b ++ c)
if_grouped a b c = append_assoc a b c

for_grouped : (a b c : Tokens) →
    (t.Word w.For ∷ a ++ t.Word w.In ∷ b ++ t.Mark m.Colon ∷ c) ≡ t.Word w.For ∷ (a ++ t.Word w.In ∷ (b ++ t.Mark m.Colon ∷ c))
for_grouped a b c = simp append_assoc

def_grouped : (name : List ℕ) (a b c : Tokens) →
    (t.Word w.Def ∷ t.Name name ∷ t.Mark m.OpenRound ∷ a ++ b ++ t.Mark m.CloseRound ∷ t.Mark m.Colon ∷ c)
    ≡ t.Word w.Def ∷ t.Name name ∷ t.Mark m.OpenRound ∷ (a ++ (b ++ t.Mark m.CloseRound ∷ t.Mark m.Colon ∷ c))
def_grouped name a b c = simp append_assoc

three_same : (a a' b b' c c' : Tokens) → a ≡ a' → b ≡ b' → c ≡ c' → a ++ (b ++ c) ≡ a' ++ (b' ++ c')
three_same a a' b b' c c' x y z = ap (λ l. l ++ (b ++ c)) x ∙ ap (λ l. a' ++ (l ++ c)) y ∙ ap (λ l. a' ++ (b' ++ l)) z

-- ---- the statement

-- what a statement spells, over the statements in its blocks
pub statement_spells : (d : Statement-F Statement) → statement_spelling (roll-Statement d) ≡ statement_parts_spelling d
unfolding spelled block_in more_in else_in
statement_spells (Statement-F.Line line) = at_layer (Statement-F.Line line)
statement_spells (Statement-F.If at first more other) =
    at_layer (Statement-F.If at first more other)
    ∙ if_grouped (t.Word w.If ∷ (expr_spelling first.condition ++ t.Mark m.Colon ∷ block_in (spelled (Statement-F.For at [] [] first.body)))) _ _
    ∙ three_same _ _ _ _ _ _ (ap (λ l. t.Word w.If ∷ (expr_spelling first.condition ++ t.Mark m.Colon ∷ l)) (block_again at [] [] first.body))
    (more_again at first other more) (else_again at first more other)
statement_spells (Statement-F.For at targets over body) =
    at_layer (Statement-F.For at targets over body)
    ∙ for_grouped (tests_spelling targets) (tests_spelling over) (block_in (spelled (Statement-F.For at targets over body)))
    ∙ ap (λ l. t.Word w.For ∷ (tests_spelling targets ++ t.Word w.In ∷ (tests_spelling over ++ t.Mark m.Colon ∷ l))) (block_again at targets over body)
statement_spells (Statement-F.Def at def) =
    at_layer (Statement-F.Def at def)
    ∙ def_grouped def.name (parameters_spelling def.required def.defaults) (if_written def.comma m.Comma) (block_in (spelled (Statement-F.For at [] [] def.body)))
    ∙ ap (λ l. t.Word w.Def ∷ t.Name def.name ∷ t.Mark m.OpenRound
    ∷ (parameters_spelling def.required def.defaults ++ (if_written def.comma m.Comma ++ t.Mark m.CloseRound ∷ t.Mark m.Colon ∷ l))) (block_again at [] [] def.body)

-- ---- each variant, as code makes it

pub spells-Line : (line : Line) → statement_spelling (s.Line line) ≡ line_spelling line
spells-Line line = ap statement_spelling (sym (s.rolls-Line line)) ∙ statement_spells (Statement-F.Line line)

pub spells-If : (at : ℕ) (first : Branch Statement) (more : List (Branch Statement)) (other : Option (Block Statement)) →
    statement_spelling (s.If at first more other) ≡ case_spelling w.If first ++ (flat_map (case_spelling w.Elif) more ++ otherwise_spelling other)
spells-If at first more other = ap statement_spelling (sym (s.rolls-If at first more other)) ∙ statement_spells (Statement-F.If at first more other)

pub spells-For : (at : ℕ) (targets over : List Expr) (body : Block Statement) → statement_spelling (s.For at targets over body)
    ≡ t.Word w.For ∷ (tests_spelling targets ++ t.Word w.In ∷ (tests_spelling over ++ t.Mark m.Colon ∷ body_spelling body))
spells-For at targets over body = ap statement_spelling (sym (s.rolls-For at targets over body)) ∙ statement_spells (Statement-F.For at targets over body)

pub spells-Def : (at : ℕ) (def : Definition Statement) → statement_spelling (s.Def at def) ≡ def_spelling def
spells-Def at def = ap statement_spelling (sym (s.rolls-Def at def)) ∙ statement_spells (Statement-F.Def at def)

-- the parameters without a default, and then those with one
pub def_parts : (def : Definition Statement) → def_spelling def
    ≡ t.Word w.Def ∷ t.Name def.name ∷ t.Mark m.OpenRound ∷ (listed (map name_token def.required)
    ++ (listed_after (length def.required) (map default_spelling def.defaults) ++ (if_written def.comma m.Comma ++ t.Mark m.CloseRound ∷ t.Mark m.Colon ∷ body_spelling def.body)))
def_parts def =
    let parts : parameters_spelling def.required def.defaults ≡ listed (map name_token def.required) ++ listed_after (length def.required) (map default_spelling def.defaults) =
    listed_parts (map name_token def.required) (map default_spelling def.defaults)
    ∙ ap (λ n. listed (map name_token def.required) ++ listed_after n (map default_spelling def.defaults)) (length-map def.required name_token) in
    ap (λ l. t.Word w.Def ∷ t.Name def.name ∷ t.Mark m.OpenRound ∷ (l ++ (if_written def.comma m.Comma ++ t.Mark m.CloseRound ∷ t.Mark m.Colon ∷ body_spelling def.body))) parts
    ∙ ap (λ l. t.Word w.Def ∷ t.Name def.name ∷ t.Mark m.OpenRound ∷ l) (append_assoc (listed (map name_token def.required)) (listed_after (length def.required) (map default_spelling def.defaults))
    (if_written def.comma m.Comma ++ t.Mark m.CloseRound ∷ t.Mark m.Colon ∷ body_spelling def.body))

-- an `if` that was written branch by branch
pub if_whole : (tree : Statement) (at : ℕ) (first : Branch Statement) (more rest : List (Branch Statement)) (other : Option (Block Statement)) (old a b now : Tokens)
    → tree ≡ s.If at first more other → rest ≡ more → a ≡ old ++ case_spelling w.If first → b ≡ a ++ flat_map (case_spelling w.Elif) rest
    → now ≡ b ++ otherwise_spelling other → now ≡ old ++ statement_spelling tree
if_whole tree at first more rest other old a b now is same one two three =
    rw (is, spells-If at first more other)
    (three ∙ ap (λ l. l ++ otherwise_spelling other) (two ∙ ap (λ l. a ++ flat_map (case_spelling w.Elif) l) same)
    ∙ append_assoc a (flat_map (case_spelling w.Elif) more) (otherwise_spelling other)
    ∙ ap (λ l. l ++ (flat_map (case_spelling w.Elif) more ++ otherwise_spelling other)) one
    ∙ append_assoc old (case_spelling w.If first) (flat_map (case_spelling w.Elif) more ++ otherwise_spelling other))

pub ruleset statement_laws = (spells-Line, spells-If, spells-For, spells-Def, append_assoc)
