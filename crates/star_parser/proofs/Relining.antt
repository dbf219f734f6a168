-- Every spelling, on whatever lines, is that of a tree with these lines, which differs in lines alone.
use Rattle.std.proofs.Common.{◌≡◌, ◌∙◌, ℕ, List, [], ◌∷◌, ◌++◌, map, Option, Some, None, refl, sym, ap, subst, append_assoc}
use Rattle.std.specs.List.{flat_map, AllByRecursion}
use Rattle.star_syntax.specs.declared.token.Token.TheVariants as t
use Rattle.star_syntax.specs.declared.token.Keyword.{Keyword}
use Rattle.star_syntax.specs.declared.token.Keyword.TheVariants as w
use Rattle.star_syntax.specs.declared.token.Mark.TheVariants as m
use Rattle.star_syntax.specs.declared.statement.Small.{Small}
use Rattle.star_syntax.specs.declared.statement.Line.{Line}
use Rattle.star_syntax.specs.declared.statement.Block.{Block}
use Rattle.star_syntax.specs.declared.statement.Block.TheVariants.{Inline, Indented}
use Rattle.star_syntax.specs.declared.statement.Branch.{Branch}
use Rattle.star_syntax.specs.declared.statement.Definition.{Definition}
use Rattle.star_syntax.specs.declared.statement.Statement.{Statement, roll-Statement, map-Statement, fold-roll-Statement}
use Rattle.star_syntax.specs.declared.statement.Statement.TheOpen.{Statement-F}
use Rattle.star_syntax.specs.declared.statement.Module.{Module}
use Rattle.star_syntax.specs.Spelling.{Tokens, expr_spelling, tests_spelling, small_spelling, line_spelling, statement_spelling, spelling, separated, if_written, parameters_spelling}
use Rattle.star_syntax.specs.SpellingOfParts.{body_spelling, case_spelling, otherwise_spelling, statement_parts_spelling}
use Rattle.star_syntax.specs.Levels.{KindFits, LineFits, BlockFits, BranchFits, ElseFits, StatementFits, IsStatement, WellLevelled}
use Rattle.star_syntax.proofs.StatementLemmas.{statement_spells}
use Rattle.star_parser.specs.Reading.{Input, kinds}
use Rattle.star_parser.specs.StatementTables.{first_line}
use Rattle.star_parser.specs.Lines.{unlined_small, unlined_line, unlined_block, unlined_branch, unlined_else, unlined_layer, unlined_statement, unlined}
use Rattle.star_parser.proofs.Claims.{free, plain, small_claims, smalls_claims, line_claims, branch_header, else_header, for_header, def_header, statement_claims, module_claims, Matches}
use Rattle.star_parser.proofs.Rules.{kinds_split, kinds_cons}
use Rattle.star_parser.proofs.LineMatches.{matches_plain}
use Rattle.star_parser.proofs.StatementParts.{EachBlock, EachBranch, EachElse, EachPart, block_in, branches_in, else_in, induct_statement, statement_parts, statement_made}
use Rattle.star_parser.proofs.ClaimLemmas.{body_claims, case_claims, otherwise_claims, if_claims, parts_claims, claims_of_parts, for_joined, def_joined, matched_joined, first_matched}

-- ---- lines

map_none : {A B : Type 0} (f : A → B) (xs : List A) → map f xs ≡ [] → xs ≡ []
map_none f [] h = refl
map_none f (x ∷ xs) h = absurd cc

on_line : ℕ → Small → Small
on_line line x = record { line = line; kind = x.kind }

small_relined : (x : Small) (c : Input) → kinds c ≡ small_spelling x → Matches c (small_claims (on_line (first_line c) x))
unfolding on_line small_spelling
small_relined x c h = first_matched c (plain (small_spelling x)) (matches_plain c (small_spelling x) h)

more_relined : (xs : List Small) (c : Input) → kinds c ≡ flat_map (λ y. t.Mark m.Semicolon ∷ y) (map small_spelling xs)
    → (ys : List Small) × Matches c (flat_map (λ y. free (t.Mark m.Semicolon) ∷ small_claims y) ys) × (map unlined_small ys ≡ map unlined_small xs)
unfolding on_line
more_relined [] c h = ([], matches_plain c [] h, refl)
more_relined (x ∷ xs) c h =
    let (s, c', split, is, later) = kinds_cons c (t.Mark m.Semicolon) (small_spelling x ++ flat_map (λ y. t.Mark m.Semicolon ∷ y) (map small_spelling xs)) h in
    let (c1, c2, split2, is1, is2) = kinds_split c' (small_spelling x) (flat_map (λ y. t.Mark m.Semicolon ∷ y) (map small_spelling xs)) later in
    let (ys, found, same) = more_relined xs c2 is2 in
    let y : Small = on_line (first_line c1) x in (
      y ∷ ys,
      matched_joined c (s ∷ c1) c2 (free (t.Mark m.Semicolon) ∷ small_claims y) (flat_map (λ y. free (t.Mark m.Semicolon) ∷ small_claims y) ys)
          (split ∙ ap (λ v. s ∷ v) split2) (is, tt, small_relined x c1 is1) found,
      ap (λ v. unlined_small x ∷ v) same,
    )

smalls_relined : (xs : List Small) (c : Input) → kinds c ≡ separated m.Semicolon (map small_spelling xs)
    → (ys : List Small) × Matches c (smalls_claims ys) × (map unlined_small ys ≡ map unlined_small xs)
unfolding on_line
smalls_relined [] c h = ([], matches_plain c [] h, refl)
smalls_relined (x ∷ xs) c h =
    let (c1, c2, split, is1, is2) = kinds_split c (small_spelling x) (flat_map (λ y. t.Mark m.Semicolon ∷ y) (map small_spelling xs)) h in
    let (ys, found, same) = more_relined xs c2 is2 in
    let y : Small = on_line (first_line c1) x in (
      y ∷ ys,
      matched_joined c c1 c2 (small_claims y) (flat_map (λ y. free (t.Mark m.Semicolon) ∷ small_claims y) ys) split (small_relined x c1 is1) found,
      ap (λ v. unlined_small x ∷ v) same,
    )

line_relined : (line : Line) (c : Input) → kinds c ≡ line_spelling line → (other : Line) × Matches c (line_claims other) × (unlined_line other ≡ unlined_line line)
unfolding line_claims line_spelling
line_relined line c h =
    let rest : Tokens = if_written line.semicolon m.Semicolon ++ t.Newline ∷ [] in
    let front : Tokens = separated m.Semicolon (map small_spelling line.smalls) in
    let (c1, c2, split, is1, is2) = kinds_split c front rest (h ∙ append_assoc front (if_written line.semicolon m.Semicolon) (t.Newline ∷ [])) in
    let (ys, found, same) = smalls_relined line.smalls c1 is1 in (
      record { smalls = ys; semicolon = line.semicolon },
      matched_joined c c1 c2 (smalls_claims ys) (plain rest) split found (matches_plain c2 rest is2),
      ap (λ v. let p : Line = record { smalls = v; semicolon = line.semicolon } in p) same,
    )

smalls_fit : (xs ys : List Small) → map unlined_small ys ≡ map unlined_small xs → AllByRecursion (λ small. KindFits small.kind) xs → AllByRecursion (λ small. KindFits small.kind) ys
smalls_fit [] [] same h = tt
smalls_fit [] (y ∷ ys) same h = absurd cc
smalls_fit (x ∷ xs) [] same h = absurd cc
smalls_fit (x ∷ xs) (y ∷ ys) same h =
    let one : unlined_small y ≡ unlined_small x = cc in
    let others : map unlined_small ys ≡ map unlined_small xs = cc in
    (subst KindFits (sym (ap (λ v. v.kind) one)) h.0, smalls_fit xs ys others h.1)

line_fits : (line other : Line) → unlined_line other ≡ unlined_line line → LineFits line → LineFits other
line_fits line other same h =
    let all : map unlined_small other.smalls ≡ map unlined_small line.smalls = ap (λ v. v.smalls) same in
    ((λ none. h.0 (map_none unlined_small line.smalls (sym all ∙ ap (map unlined_small) none))), smalls_fit line.smalls other.smalls all h.1)

-- ---- a statement without lines, over those in its blocks

abbrev pub body_unlined : Block Statement → Block Statement
body_unlined (Inline line) = Inline (unlined_line line)
body_unlined (Indented statements) = Indented (map unlined_statement statements)

abbrev pub case_unlined : Branch Statement → Branch Statement
case_unlined branch = record { condition = branch.condition; body = body_unlined branch.body }

abbrev pub otherwise_unlined : Option (Block Statement) → Option (Block Statement)
otherwise_unlined None = None
otherwise_unlined (Some body) = Some (body_unlined body)

abbrev pub def_unlined : Definition Statement → Block Statement → Definition Statement
def_unlined def body = record { name = def.name; required = def.required; defaults = def.defaults; comma = def.comma; body = body }

abbrev pub parts_unlined : Statement-F Statement → Statement-F Statement
parts_unlined (Statement-F.Line line) = Statement-F.Line (unlined_line line)
parts_unlined (Statement-F.If at first more other) = Statement-F.If 0 (case_unlined first) (map case_unlined more) (otherwise_unlined other)
parts_unlined (Statement-F.For at targets over body) = Statement-F.For 0 targets over (body_unlined body)
parts_unlined (Statement-F.Def at def) = Statement-F.Def 0 (def_unlined def (body_unlined def.body))

bared : Statement-F Statement → Statement-F Statement
bared = map-Statement Statement Statement unlined_statement

layer_unlined : (d : Statement-F Statement) → unlined_statement (roll-Statement d) ≡ roll-Statement (unlined_layer (bared d))
unfolding unlined_statement bared
layer_unlined d = fold-roll-Statement Statement (λ layer. roll-Statement (unlined_layer layer)) d

body_bared : (body : Block Statement) → unlined_block (block_in (bared (Statement-F.For 0 [] [] body))) ≡ body_unlined body
unfolding bared block_in
body_bared (Inline line) = refl
body_bared (Indented xs) = refl

more_bared : (first : Branch Statement) (other : Option (Block Statement)) (xs : List (Branch Statement))
    → map unlined_branch (branches_in (bared (Statement-F.If 0 first xs other))) ≡ map case_unlined xs
unfolding bared block_in branches_in
more_bared first other [] = refl
more_bared first other (x ∷ xs) =
    ap (λ v. (let p : Branch Statement = record { condition = x.condition; body = v } in p) ∷ map unlined_branch (branches_in (bared (Statement-F.If 0 first xs other)))) (body_bared x.body)
    ∙ ap (λ v. case_unlined x ∷ v) (more_bared first other xs)

else_bared : (first : Branch Statement) (other : Option (Block Statement)) → unlined_else (else_in (bared (Statement-F.If 0 first [] other))) ≡ otherwise_unlined other
unfolding bared block_in else_in
else_bared first None = refl
else_bared first (Some body) = ap (λ v. Some v) (body_bared body)

pub unlined_of : (d : Statement-F Statement) → unlined_statement (roll-Statement d) ≡ roll-Statement (parts_unlined d)
unfolding bared block_in branches_in else_in
unlined_of (Statement-F.Line line) = layer_unlined (Statement-F.Line line)
unlined_of (Statement-F.If at first more other) =
    layer_unlined (Statement-F.If at first more other)
    ∙ ap (λ v. roll-Statement (Statement-F.If 0 (record { condition = first.condition; body = v }) (map unlined_branch (branches_in (bared (Statement-F.If 0 first more other))))
    (unlined_else (else_in (bared (Statement-F.If 0 first [] other)))))) (body_bared first.body)
    ∙ ap (λ v. roll-Statement (Statement-F.If 0 (case_unlined first) v (unlined_else (else_in (bared (Statement-F.If 0 first [] other)))))) (more_bared first other more)
    ∙ ap (λ v. roll-Statement (Statement-F.If 0 (case_unlined first) (map case_unlined more) v)) (else_bared first other)
unlined_of (Statement-F.For at targets over body) =
    layer_unlined (Statement-F.For at targets over body) ∙ ap (λ v. roll-Statement (Statement-F.For 0 targets over v)) (body_bared body)
unlined_of (Statement-F.Def at def) = layer_unlined (Statement-F.Def at def) ∙ ap (λ v. roll-Statement (Statement-F.Def 0 (def_unlined def v))) (body_bared def.body)

-- ---- statements

-- a tree on these lines, which differs in lines alone
pub record Relined (x : Statement) (c : Input) : Type 0 where
  pub tree : Statement
  pub levelled : IsStatement tree
  pub spelt : Matches c (statement_claims tree)
  pub same : unlined_statement tree ≡ unlined_statement x

-- the same of the statements of a block
record RelinedList (xs : List Statement) (c : Input) : Type 0 where
  pub trees : List Statement
  pub levelled : AllByRecursion IsStatement trees
  pub spelt : Matches c (flat_map statement_claims trees)
  pub same : map unlined_statement trees ≡ map unlined_statement xs

-- the same of a block
record RelinedBody (body : Block Statement) (c : Input) : Type 0 where
  pub tree : Block Statement
  pub fits : BlockFits tree
  pub each : EachBlock IsStatement tree
  pub spelt : Matches c (body_claims tree)
  pub same : body_unlined tree ≡ body_unlined body

-- the same of a branch
record RelinedCase (word : Keyword) (branch : Branch Statement) (c : Input) : Type 0 where
  pub tree : Branch Statement
  pub fits : BranchFits tree
  pub each : EachBranch IsStatement tree
  pub spelt : Matches c (case_claims word tree)
  pub same : case_unlined tree ≡ case_unlined branch

-- the same of branches after `elif`
record RelinedCases (xs : List (Branch Statement)) (c : Input) : Type 0 where
  pub trees : List (Branch Statement)
  pub fits : AllByRecursion BranchFits trees
  pub each : AllByRecursion (EachBranch IsStatement) trees
  pub spelt : Matches c (flat_map (case_claims w.Elif) trees)
  pub same : map case_unlined trees ≡ map case_unlined xs

-- the same of `else` and its block
record RelinedElse (other : Option (Block Statement)) (c : Input) : Type 0 where
  pub tree : Option (Block Statement)
  pub fits : ElseFits tree
  pub each : EachElse IsStatement tree
  pub spelt : Matches c (otherwise_claims tree)
  pub same : otherwise_unlined tree ≡ otherwise_unlined other

Relines : Statement → Type 0
Relines x = (c : Input) → IsStatement x → kinds c ≡ statement_spelling x → Relined x c

list_relined : (xs : List Statement) → AllByRecursion Relines xs → (c : Input) → AllByRecursion IsStatement xs → kinds c ≡ flat_map statement_spelling xs → RelinedList xs c
unfolding Relines
list_relined [] relines c levelled h = record { trees = []; levelled = tt; spelt = matches_plain c [] h; same = refl }
list_relined (x ∷ xs) relines c levelled h =
    let (c1, c2, split, is1, is2) = kinds_split c (statement_spelling x) (flat_map statement_spelling xs) h in
    let y = relines.0 c1 levelled.0 is1 in
    let ys = list_relined xs relines.1 c2 levelled.1 is2 in
    record {
      trees = y.tree ∷ ys.trees;
      levelled = (y.levelled, ys.levelled);
      spelt = matched_joined c c1 c2 (statement_claims y.tree) (flat_map statement_claims ys.trees) split y.spelt ys.spelt;
      same = ap (λ v. v ∷ map unlined_statement ys.trees) y.same ∙ ap (λ v. unlined_statement x ∷ v) ys.same;
    }

body_relined : (body : Block Statement) → EachBlock Relines body → (c : Input) → BlockFits body → EachBlock IsStatement body → kinds c ≡ body_spelling body → RelinedBody body c
body_relined (Inline line) relines c fits each h =
    let (other, found, same) = line_relined line c h in
    record { tree = Inline other; fits = line_fits line other same fits; each = tt; spelt = found; same = ap (λ v. let p : Block Statement = Inline v in p) same }
body_relined (Indented xs) relines c fits each h =
    let (c1, c2, split, is1, is2) = kinds_split c (t.Newline ∷ t.Indent ∷ []) (flat_map statement_spelling xs ++ t.Dedent ∷ []) h in
    let (c3, c4, split2, is3, is4) = kinds_split c2 (flat_map statement_spelling xs) (t.Dedent ∷ []) is2 in
    let ys = list_relined xs relines c3 each is3 in
    record {
      tree = Indented ys.trees;
      fits = λ none. fits (map_none unlined_statement xs (sym ys.same ∙ ap (map unlined_statement) none));
      each = ys.levelled;
      spelt = matched_joined c c1 c2 (plain (t.Newline ∷ t.Indent ∷ [])) (flat_map statement_claims ys.trees ++ plain (t.Dedent ∷ [])) split (matches_plain c1 _ is1)
          (matched_joined c2 c3 c4 (flat_map statement_claims ys.trees) (plain (t.Dedent ∷ [])) split2 ys.spelt (matches_plain c4 _ is4));
      same = ap (λ v. let p : Block Statement = Indented v in p) ys.same;
    }

case_relined : (word : Keyword) (branch : Branch Statement) → EachBranch Relines branch → (c : Input) → BranchFits branch → EachBranch IsStatement branch
    → kinds c ≡ case_spelling word branch → RelinedCase word branch c
case_relined word branch relines c fits each h =
    let head : Tokens = branch_header word branch.condition in
    let (c1, c2, split, is1, is2) = kinds_split c head (body_spelling branch.body)
    (h ∙ sym (append_assoc (t.Word word ∷ expr_spelling branch.condition) (t.Mark m.Colon ∷ []) (body_spelling branch.body))) in
    let b = body_relined branch.body relines c2 fits.1 each is2 in
    record {
      tree = record { condition = branch.condition; body = b.tree };
      fits = (fits.0, b.fits);
      each = b.each;
      spelt = matched_joined c c1 c2 (plain head) (body_claims b.tree) split (matches_plain c1 head is1) b.spelt;
      same = ap (λ v. let p : Branch Statement = record { condition = branch.condition; body = v } in p) b.same;
    }

cases_relined : (xs : List (Branch Statement)) → AllByRecursion (EachBranch Relines) xs → (c : Input) → AllByRecursion BranchFits xs
    → AllByRecursion (EachBranch IsStatement) xs → kinds c ≡ flat_map (case_spelling w.Elif) xs → RelinedCases xs c
cases_relined [] relines c fits each h = record { trees = []; fits = tt; each = tt; spelt = matches_plain c [] h; same = refl }
cases_relined (x ∷ xs) relines c fits each h =
    let (c1, c2, split, is1, is2) = kinds_split c (case_spelling w.Elif x) (flat_map (case_spelling w.Elif) xs) h in
    let y = case_relined w.Elif x relines.0 c1 fits.0 each.0 is1 in
    let ys = cases_relined xs relines.1 c2 fits.1 each.1 is2 in
    record {
      trees = y.tree ∷ ys.trees;
      fits = (y.fits, ys.fits);
      each = (y.each, ys.each);
      spelt = matched_joined c c1 c2 (case_claims w.Elif y.tree) (flat_map (case_claims w.Elif) ys.trees) split y.spelt ys.spelt;
      same = ap (λ v. v ∷ map case_unlined ys.trees) y.same ∙ ap (λ v. case_unlined x ∷ v) ys.same;
    }

else_relined : (other : Option (Block Statement)) → EachElse Relines other → (c : Input) → ElseFits other → EachElse IsStatement other → kinds c ≡ otherwise_spelling other → RelinedElse other c
else_relined None relines c fits each h = record { tree = None; fits = tt; each = tt; spelt = matches_plain c [] h; same = refl }
else_relined (Some body) relines c fits each h =
    let (c1, c2, split, is1, is2) = kinds_split c else_header (body_spelling body) h in
    let b = body_relined body relines c2 fits each is2 in
    record {
      tree = Some b.tree;
      fits = b.fits;
      each = b.each;
      spelt = matched_joined c c1 c2 (plain else_header) (body_claims b.tree) split (matches_plain c1 else_header is1) b.spelt;
      same = ap (λ v. Some v) b.same;
    }

-- a node of relined parts
node_relined : (d other : Statement-F Statement) (c : Input) → StatementFits other → EachPart IsStatement other → Matches c (parts_claims other) → parts_unlined other ≡ parts_unlined d → Relined (roll-Statement d) c
node_relined d other c fits each found same = record {
  tree = roll-Statement other;
  levelled = statement_made other fits each;
  spelt = subst (Matches c) (sym (claims_of_parts other)) found;
  same = unlined_of other ∙ ap roll-Statement same ∙ sym (unlined_of d);
}

step : (d : Statement-F Statement) → EachPart Relines d → (c : Input) → StatementFits d → EachPart IsStatement d → kinds c ≡ statement_parts_spelling d → Relined (roll-Statement d) c
step (Statement-F.Line line) relines c fits each h =
    let (other, found, same) = line_relined line c h in
    node_relined (Statement-F.Line line) (Statement-F.Line other) c (line_fits line other same fits) tt found (ap (λ v. let p : Statement-F Statement = Statement-F.Line v in p) same)
step (Statement-F.If at first more other) relines c fits each h =
    let (c1, c2, split, is1, is2) = kinds_split c (case_spelling w.If first) (flat_map (case_spelling w.Elif) more ++ otherwise_spelling other) h in
    let (c3, c4, split2, is3, is4) = kinds_split c2 (flat_map (case_spelling w.Elif) more) (otherwise_spelling other) is2 in
    let b = case_relined w.If first relines.0 c1 fits.0 each.0 is1 in
    let bs = cases_relined more relines.1 c3 fits.1 each.1 is3 in
    let o = else_relined other relines.2 c4 fits.2 each.2 is4 in
    let whole : Matches c (if_claims b.tree bs.trees o.tree) = matched_joined c c1 c2 (case_claims w.If b.tree) (flat_map (case_claims w.Elif) bs.trees ++ otherwise_claims o.tree) split b.spelt
    (matched_joined c2 c3 c4 (flat_map (case_claims w.Elif) bs.trees) (otherwise_claims o.tree) split2 bs.spelt o.spelt) in
    node_relined (Statement-F.If at first more other) (Statement-F.If (first_line c) b.tree bs.trees o.tree) c (b.fits, bs.fits, o.fits) (b.each, bs.each, o.each)
    (first_matched c (if_claims b.tree bs.trees o.tree) whole)
    (ap (λ v. Statement-F.If 0 v (map case_unlined bs.trees) (otherwise_unlined o.tree)) b.same ∙ ap (λ v. Statement-F.If 0 (case_unlined first) v (otherwise_unlined o.tree)) bs.same
    ∙ ap (λ v. Statement-F.If 0 (case_unlined first) (map case_unlined more) v) o.same)
step (Statement-F.For at targets over body) relines c fits each h =
    let head : Tokens = for_header targets over in
    let (c1, c2, split, is1, is2) = kinds_split c head (body_spelling body) (h ∙ sym (for_joined (tests_spelling targets) (tests_spelling over) (body_spelling body))) in
    let b = body_relined body relines c2 fits.3 each is2 in
    node_relined (Statement-F.For at targets over body) (Statement-F.For (first_line c) targets over b.tree) c (fits.0, fits.1, fits.2, b.fits) b.each
    (first_matched c (plain head ++ body_claims b.tree) (matched_joined c c1 c2 (plain head) (body_claims b.tree) split (matches_plain c1 head is1) b.spelt))
    (ap (λ v. Statement-F.For 0 targets over v) b.same)
step (Statement-F.Def at def) relines c fits each h =
    let head : Tokens = def_header def in
    let (c1, c2, split, is1, is2) = kinds_split c head (body_spelling def.body)
    (h ∙ sym (def_joined def.name (parameters_spelling def.required def.defaults) (if_written def.comma m.Comma) (body_spelling def.body))) in
    let b = body_relined def.body relines c2 fits.2 each is2 in
    node_relined (Statement-F.Def at def) (Statement-F.Def (first_line c) (def_unlined def b.tree)) c (fits.0, fits.1, b.fits) b.each
    (first_matched c (plain head ++ body_claims b.tree) (matched_joined c c1 c2 (plain head) (body_claims b.tree) split (matches_plain c1 head is1) b.spelt))
    (ap (λ v. Statement-F.Def 0 (def_unlined def v)) b.same)

pub relined : (x : Statement) (c : Input) → IsStatement x → kinds c ≡ statement_spelling x → Relined x c
unfolding Relines
relined = induct_statement Relines (λ d relines c levelled h. let (fits, each) = statement_parts d levelled in step d relines c fits each (h ∙ statement_spells d))

-- ---- cells

-- a tree of a cell on these lines, which differs in lines alone
pub record RelinedModule (cell : Module) (c : Input) : Type 0 where
  pub tree : Module
  pub levelled : WellLevelled tree
  pub spelt : Matches c (module_claims tree)
  pub same : unlined tree ≡ unlined cell

pub module_relined : (cell : Module) (c : Input) → WellLevelled cell → kinds c ≡ spelling cell → RelinedModule cell c
unfolding Relines WellLevelled module_claims spelling unlined
module_relined cell c levelled h =
    let (c1, c2, split, is1, is2) = kinds_split c (flat_map statement_spelling cell.statements) (t.End ∷ []) h in
    let ys = list_relined cell.statements (all_relined cell.statements) c1 levelled is1 in
    record {
      tree = record { statements = ys.trees };
      levelled = ys.levelled;
      spelt = matched_joined c c1 c2 (flat_map statement_claims ys.trees) (plain (t.End ∷ [])) split ys.spelt (matches_plain c2 _ is2);
      same = ap (λ v. let p : Module = record { statements = v } in p) ys.same;
    }
  where
    all_relined : (xs : List Statement) → AllByRecursion Relines xs
    all_relined [] = tt
    all_relined (x ∷ xs) = (relined x, all_relined xs)
