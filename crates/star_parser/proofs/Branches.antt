-- The branches of an `if` are read exactly, where conditions and blocks are.
use Rattle.std.proofs.Common.{◌≡◌, ◌≢◌, ◌∙◌, ℕ, zero, suc, ◌≤◌, ◌<◌, List, [], ◌∷◌, ◌++◌, Option, Some, None, Ok, refl, sym, ap, subst, arith, append_assoc, length}
use Rattle.std.proofs.lemmas.List.{append-nil}
use Rattle.std.specs.List.{flat_map, AllByRecursion}
use Rattle.star_syntax.specs.declared.token.Token.{Token}
use Rattle.star_syntax.specs.declared.token.Token.TheVariants as t
use Rattle.star_syntax.specs.declared.token.Keyword.TheVariants as w
use Rattle.star_syntax.specs.declared.token.Mark.TheVariants as m
use Rattle.star_syntax.specs.declared.expression.Expr.{Expr}
use Rattle.star_syntax.specs.declared.statement.Block.{Block}
use Rattle.star_syntax.specs.declared.statement.Branch.{Branch}
use Rattle.star_syntax.specs.declared.statement.Statement.{Statement, roll-Statement}
use Rattle.star_syntax.specs.declared.statement.Statement.TheOpen.{Statement-F}
use Rattle.star_syntax.specs.declared.statement.Statement.TheVariants as tree
use Rattle.star_syntax.specs.Spelling.{expr_spelling}
use Rattle.star_syntax.specs.Levels.{BranchFits, ElseFits, StatementFits, IsStatement}
use Rattle.star_parser.specs.declared.level.Level.{Level}
use Rattle.star_parser.specs.declared.level.Level.TheVariants as level
use Rattle.star_parser.specs.Reading.{Input, Reader, ◌>>=◌, pure, next, rest}
use Rattle.star_parser.specs.Tables.{expect}
use Rattle.star_parser.specs.Ends.{Ends}
use Rattle.star_parser.specs.StatementTables.{first_line}
use Rattle.star_parser.specs.StatementReaders.{line, block, branch, branches_from, otherwise, if_after}
use Rattle.star_parser.proofs.Claims.{Claims, free, plain, Matches}
use Rattle.star_parser.proofs.Exact.{Exact, Then, Just, exact_then, exact_by, exact_same, exact_ends, exact_pure}
use Rattle.star_parser.proofs.Steps.{Tok, exact_token_then, exact_last, exact_eat_word}
use Rattle.star_parser.proofs.Rules.{IsExpr, length_after, length_less, some_is}
use Rattle.star_parser.proofs.First.{last_there, last_back}
use Rattle.star_parser.proofs.Bracketed.{Any, Inside}
use Rattle.star_parser.proofs.Closing.{token_ends}
use Rattle.star_parser.proofs.LineMatches.{matches_split}
use Rattle.star_parser.proofs.LineRules.{IsLine}
use Rattle.star_parser.proofs.StatementParts.{EachBranch, EachElse, EachPart}
use Rattle.star_parser.proofs.ClaimLemmas.{body_claims, case_claims, otherwise_claims, parts_claims, matched_joined, matched_cons, matched_line}
use Rattle.star_parser.proofs.Openings.{line_first}
use Rattle.star_parser.proofs.Blocks.{IsSpelled, EndsStatement, IsBlock}
use Rattle.star_parser.proofs.Headers.{fronted, front_split, matched_token, TokAt, exact_tok_at, ColonBlock, colon_there, colon_back, some_colon, colon_exact, node_of, of_node}

pub matched_none : (c : Input) → Matches c [] → c ≡ []
matched_none [] h = refl
matched_none (s ∷ c) h = absurd h

-- ---- one branch

-- a condition and the block that it guards
abbrev branch_of : Expr → Block Statement → Branch Statement
branch_of condition body = record { condition = condition; body = body }

-- the tokens after `if` or `elif`
abbrev pub branch_rest : Branch Statement → Claims
branch_rest x = plain (expr_spelling x.condition ++ t.Mark m.Colon ∷ []) ++ body_claims x.body

-- the tokens after `if` or `elif` are those of the branch, on its lines
pub record IsBranch (x : Branch Statement) (c : Input) : Type 0 where
  pub fits : BranchFits x
  pub each : EachBranch IsStatement x
  pub spelt : Matches c (branch_rest x)

-- a condition, a colon and a block
abbrev BranchWhole : Branch Statement → Input → Type 0
BranchWhole = Then (IsExpr 0) (λ condition. ColonBlock (branch_of condition))

branch_there : (x : Branch Statement) (c : Input) → BranchWhole x c → IsBranch x c
branch_there x c (condition, c1, c2, r, last, split) =
    let (body, b, x_is) = colon_there (branch_of condition) x c2 last in
    let whole : IsBranch (branch_of condition body) c = record {
      fits = (r.levelled, b.fits);
      each = b.each;
      spelt = fronted c c1 c2 (expr_spelling condition) (t.Mark m.Colon ∷ []) (body_claims body) split r.spelt b.spelt;
    } in
    subst (λ v. IsBranch v c) (sym x_is) whole

branch_back : (x : Branch Statement) (c : Input) → IsBranch x c → BranchWhole x c
branch_back x c h =
    let (c1, c2, split, is, found) = front_split c (expr_spelling x.condition) (t.Mark m.Colon ∷ []) (body_claims x.body) h.spelt in (
      x.condition,
      c1,
      c2,
      record { levelled = h.fits.0; high = omega arith; spelt = is },
      colon_back (branch_of x.condition) x c2 x.body (record { fits = h.fits.1; each = h.each; spelt = found }) refl,
      split,
    )

pub some_branch : (x : Branch Statement) × (c : Input) × IsBranch x c
some_branch =
    let (condition, c, r) = some_is 0 (omega arith) in
    let (x, d, q) = some_colon (branch_of condition) in
    (x, c ++ d, branch_there x (c ++ d) (condition, c, d, r, q, refl))

-- ---- branches after `elif`

-- what was found, and after it branches
pub record AreBranches (found all : List (Branch Statement)) (c : Input) : Type 0 where
  pub others : List (Branch Statement)
  pub whole : all ≡ found ++ others
  pub fits : AllByRecursion BranchFits others
  pub each : AllByRecursion (EachBranch IsStatement) others
  pub spelt : Matches c (flat_map (case_claims w.Elif) others)

abbrev elif_word : Token
elif_word = t.Word w.Elif

-- no branch goes on
abbrev pub NoElif : Input → Type 0
NoElif more = next more ≢ Some (t.Word w.Elif)

-- `elif`, a branch, and more of them
abbrev Another : List (Branch Statement) → List (Branch Statement) → Input → Type 0
Another found = Then (Tok elif_word) (λ _. Then IsBranch (λ x. AreBranches (found ++ x ∷ [])))

another_there : (found all : List (Branch Statement)) (c : Input) → Another found all c → AreBranches found all c
another_there found all c (u, c1, c2, (s, is, one), (x, c3, c4, r, more, split2), split) = record {
  others = x ∷ more.others;
  whole = more.whole ∙ append_assoc found (x ∷ []) more.others;
  fits = (r.fits, more.fits);
  each = (r.each, more.each);
  spelt = matched_joined c (s ∷ c3) c4 (case_claims w.Elif x) (flat_map (case_claims w.Elif) more.others) (split ∙ ap (λ v. v ++ c2) one ∙ ap (λ v. s ∷ v) split2) (is, tt, r.spelt) more.spelt;
}

another_by : (found all : List (Branch Statement)) (c more : Input) (others : List (Branch Statement)) → all ≡ found ++ others → AllByRecursion BranchFits others
    → AllByRecursion (EachBranch IsStatement) others → Matches c (flat_map (case_claims w.Elif) others) → NoElif more → next (c ++ more) ≡ Some elif_word → Another found all c
another_by found all c more [] whole fits each spelt ends look = absurd (ends (ap (λ v. next (v ++ more)) (sym (matched_none c spelt)) ∙ look))
another_by found all c more (x ∷ xs) whole fits each spelt ends look =
    let (d, c4, split, m1, m2) = matches_split c (case_claims w.Elif x) (flat_map (case_claims w.Elif) xs) spelt in
    let (s, c3, split2, is, m3) = matched_cons d elif_word (branch_rest x) m1 in (
      tt,
      s ∷ [],
      c3 ++ c4,
      (s, is, refl),
      (
        x,
        c3,
        c4,
        record { fits = fits.0; each = each.0; spelt = m3 },
        record { others = xs; whole = whole ∙ sym (append_assoc found (x ∷ []) xs); fits = fits.1; each = each.1; spelt = m2 },
        refl,
      ),
      split ∙ ap (λ v. v ++ c4) split2,
    )

none_there : (found all : List (Branch Statement)) (c : Input) → Just found all c → AreBranches found all c
none_there found all c (is, none) = record { others = []; whole = is ∙ sym (append-nil found); fits = tt; each = tt; spelt = subst (λ v. Matches v []) (sym none) tt }

none_by : (found all : List (Branch Statement)) (c more : Input) (others : List (Branch Statement)) → all ≡ found ++ others → Matches c (flat_map (case_claims w.Elif) others)
    → next (c ++ more) ≢ Some elif_word → Just found all c
none_by found all c more [] whole spelt look = (whole ∙ append-nil found, matched_none c spelt)
none_by found all c more (x ∷ xs) whole spelt look =
    let (s, c', split, is, _) = matched_cons c elif_word (branch_rest x ++ flat_map (case_claims w.Elif) xs) spelt in
    absurd (look (ap (λ v. next (v ++ more)) split ∙ ap Some is))

some_branches : (found : List (Branch Statement)) → (all : List (Branch Statement)) × (c : Input) × AreBranches found all c
some_branches found = (found, [], none_there found found [] (refl, refl))

-- branches begin with `elif`, or with what follows them
branches_next : (P : Option Token → Type 0) (found all : List (Branch Statement)) (c more : Input) → AreBranches found all c → P (Some elif_word) → P (next more) → P (next (c ++ more))
branches_next P found all c more h at_elif at_end = by_others h.others h.spelt
  where
    by_others : (others : List (Branch Statement)) → Matches c (flat_map (case_claims w.Elif) others) → P (next (c ++ more))
    by_others [] spelt = subst (λ v. P (next (v ++ more))) (sym (matched_none c spelt)) at_end
    by_others (x ∷ xs) spelt =
        let (s, c', split, is, _) = matched_cons c elif_word (branch_rest x ++ flat_map (case_claims w.Elif) xs) spelt in
        subst P (sym (ap (λ v. next (v ++ more)) split ∙ ap Some is)) at_elif

-- ---- `else`

abbrev else_word : Token
else_word = t.Word w.Else

-- no `else` goes on
abbrev pub NoElse : Input → Type 0
NoElse more = next more ≢ Some (t.Word w.Else)

-- the tokens are those of `else` and its block, on its lines, or none where there is no `else`
pub record IsOtherwise (other : Option (Block Statement)) (c : Input) : Type 0 where
  pub fits : ElseFits other
  pub each : EachElse IsStatement other
  pub spelt : Matches c (otherwise_claims other)

abbrev made_else : Block Statement → Option (Block Statement)
made_else body = Some body

-- `else`, a colon and a block
abbrev IsElse : Option (Block Statement) → Input → Type 0
IsElse = Then (Tok else_word) (λ _. ColonBlock made_else)

else_there : (other : Option (Block Statement)) (c : Input) → IsElse other c → IsOtherwise other c
else_there other c (u, c1, c2, (s, is, one), last, split) =
    let (body, b, other_is) = colon_there made_else other c2 last in
    let whole : IsOtherwise (Some body) c = record { fits = b.fits; each = b.each; spelt = matched_token c c1 c2 else_word s (free (t.Mark m.Colon) ∷ body_claims body) split one is b.spelt } in
    subst (λ v. IsOtherwise v c) (sym other_is) whole

else_back : (other : Option (Block Statement)) (c more : Input) → IsOtherwise other c → NoElse more → next (c ++ more) ≡ Some else_word → IsElse other c
else_back None c more h ends look = absurd (ends (ap (λ v. next (v ++ more)) (sym (matched_none c h.spelt)) ∙ look))
else_back (Some body) c more h ends look =
    let (s, c2, split, is, found) = matched_cons c else_word (free (t.Mark m.Colon) ∷ body_claims body) h.spelt in
    (tt, s ∷ [], c2, (s, is, refl), colon_back made_else (Some body) c2 body (record { fits = h.fits; each = h.each; spelt = found }) refl, split)

no_else_there : (other : Option (Block Statement)) (c : Input) → Just None other c → IsOtherwise other c
no_else_there other c (is, none) =
    let whole : IsOtherwise None c = record { fits = tt; each = tt; spelt = subst (λ v. Matches v []) (sym none) tt } in
    subst (λ v. IsOtherwise v c) (sym is) whole

no_else_back : (other : Option (Block Statement)) (c more : Input) → IsOtherwise other c → next (c ++ more) ≢ Some else_word → Just None other c
no_else_back None c more h look = (refl, matched_none c h.spelt)
no_else_back (Some body) c more h look =
    let (s, c2, split, is, found) = matched_cons c else_word (free (t.Mark m.Colon) ∷ body_claims body) h.spelt in
    absurd (look (ap (λ v. next (v ++ more)) split ∙ ap Some is))

some_otherwise : (other : Option (Block Statement)) × (c : Input) × IsOtherwise other c
some_otherwise = (None, [], no_else_there None [] (refl, refl))

otherwise_next : (P : Option Token → Type 0) (other : Option (Block Statement)) (c more : Input) → IsOtherwise other c → P (Some else_word) → P (next more) → P (next (c ++ more))
otherwise_next P None c more h at_else at_end = subst (λ v. P (next (v ++ more))) (sym (matched_none c h.spelt)) at_end
otherwise_next P (Some body) c more h at_else at_end =
    let (s, c2, split, is, found) = matched_cons c else_word (free (t.Mark m.Colon) ∷ body_claims body) h.spelt in
    subst P (sym (ap (λ v. next (v ++ more)) split ∙ ap Some is)) at_else

-- ---- the whole

abbrev made_if : ℕ → Branch Statement → List (Branch Statement) → Option (Block Statement) → Statement
made_if at first more other = tree.If at first more other

-- what stands after the branches of an `if`
abbrev LastBranch : ℕ → Branch Statement → List (Branch Statement) → Statement → Input → Type 0
LastBranch at first more = Then IsOtherwise (λ other. Just (made_if at first more other))

-- what stands after the first branch of an `if`
abbrev MoreBranches : ℕ → Branch Statement → Statement → Input → Type 0
MoreBranches at first = Then (AreBranches []) (λ more. LastBranch at first more)

-- what stands after `if` on this line
abbrev IfRest : ℕ → Statement → Input → Type 0
IfRest at = Then IsBranch (λ first. MoreBranches at first)

-- `if` with its line, and what follows it
abbrev pub IsIf : Statement → Input → Type 0
IsIf = Then (TokAt (t.Word w.If)) IfRest

pub if_there : (x : Statement) (c : Input) → IsIf x c → IsSpelled x c
if_there x c (at, c1, c2, (s, is, at_is, one), (first, c3, c4, r1, (more, c5, c6, r2, last, split3), split2), split) =
    let (other, r3, x_is) = last_there IsOtherwise (λ other. made_if at first more other) x c6 last in
    let x_is' : roll-Statement (Statement-F.If at first more other) ≡ x = tree.rolls-If at first more other ∙ sym x_is in
    let tail : Matches c4 (flat_map (case_claims w.Elif) more ++ otherwise_claims other) =
    matched_joined c4 c5 c6 (flat_map (case_claims w.Elif) more) (otherwise_claims other) split3 (subst (λ v. Matches c5 (flat_map (case_claims w.Elif) v)) (sym r2.whole) r2.spelt) r3.spelt in
    of_node (Statement-F.If at first more other) x c x_is' (r1.fits, subst (AllByRecursion BranchFits) (sym r2.whole) r2.fits, r3.fits)
    (r1.each, subst (AllByRecursion (EachBranch IsStatement)) (sym r2.whole) r2.each, r3.each)
    (subst (λ v. Matches v (parts_claims (Statement-F.If at first more other))) (sym (split ∙ ap (λ v. v ++ c2) one)) (is, at_is, matched_joined c2 c3 c4 (branch_rest first) (flat_map (case_claims w.Elif) more ++ otherwise_claims other) split2 r1.spelt tail))

-- a header's first token is the first one
pub header_next : (c more : Input) (at : ℕ) (k : Token) (x : Claims) → Matches c ((k, Some at) ∷ x) → next (c ++ more) ≡ Some k
header_next c more at k x h = let (s, c', split, is, _, _) = matched_line c at k x h in ap (λ v. next (v ++ more)) split ∙ ap Some is

if_by : (x : Statement) (c more : Input) (d : Statement-F Statement) → roll-Statement d ≡ x → StatementFits d → EachPart IsStatement d → Matches c (parts_claims d)
    → next (c ++ more) ≡ Some (t.Word w.If) → IsIf x c
if_by x c more (Statement-F.Line l) is fits each spelt look =
    let (s, c', split, opens) = line_first l c fits spelt in
    absurd (opens.no_if (let a : Some s.token ≡ Some (t.Word w.If) = ap (λ v. next (v ++ more)) (sym split) ∙ look in cc))
if_by x c more (Statement-F.If at first others other) is fits each spelt look =
    let (s, c2, split, s_is, at_is, m1) = matched_line c at (t.Word w.If) (branch_rest first ++ (flat_map (case_claims w.Elif) others ++ otherwise_claims other)) spelt in
    let (c3, c4, split2, m2, m3) = matches_split c2 (branch_rest first) (flat_map (case_claims w.Elif) others ++ otherwise_claims other) m1 in
    let (c5, c6, split3, m4, m5) = matches_split c4 (flat_map (case_claims w.Elif) others) (otherwise_claims other) m3 in (
      at,
      s ∷ [],
      c2,
      (s, s_is, at_is, refl),
      (
        first,
        c3,
        c4,
        record { fits = fits.0; each = each.0; spelt = m2 },
        (
          others,
          c5,
          c6,
          record { others = others; whole = refl; fits = fits.1; each = each.1; spelt = m4 },
          last_back IsOtherwise (λ other. made_if at first others other) x c6 other (record { fits = fits.2; each = each.2; spelt = m5 }) (sym is ∙ tree.rolls-If at first others other),
          split3,
        ),
        split2,
      ),
      split,
    )
if_by x c more (Statement-F.For at targets over body) is fits each spelt look =
    absurd (let a : Some (t.Word w.For) ≡ Some (t.Word w.If) = sym (header_next c more at (t.Word w.For) _ spelt) ∙ look in cc)
if_by x c more (Statement-F.Def at def) is fits each spelt look =
    absurd (let a : Some (t.Word w.Def) ≡ Some (t.Word w.If) = sym (header_next c more at (t.Word w.Def) _ spelt) ∙ look in cc)

pub if_back : (x : Statement) (c more : Input) → IsSpelled x c → next (c ++ more) ≡ Some (t.Word w.If) → IsIf x c
if_back x c more h look = let n = node_of x c h in if_by x c more n.layer n.whole n.fits n.each n.spelt look

some_last : (at : ℕ) (first : Branch Statement) (more : List (Branch Statement)) → (x : Statement) × (c : Input) × LastBranch at first more x c
some_last at first more = let (other, c, r) = some_otherwise in (made_if at first more other, c, last_back IsOtherwise (λ other. made_if at first more other) _ c other r refl)

some_more : (at : ℕ) (first : Branch Statement) → (x : Statement) × (c : Input) × MoreBranches at first x c
some_more at first = let (more, c, r) = some_branches [] in let (x, d, q) = some_last at first more in (x, c ++ d, (more, c, d, r, q, refl))

some_rest : (at : ℕ) → (x : Statement) × (c : Input) × IfRest at x c
some_rest at = let (first, c, r) = some_branch in let (x, d, q) = some_more at first in (x, c ++ d, (first, c, d, r, q, refl))

module _ (expr : Level → Reader Expr) (statement : Reader Statement) (bound : ℕ) (inside : Inside expr bound)
    (lines : (ts : Input) → length ts < bound → Exact IsLine Any ts (line expr ts))
    (exact : (ts : Input) → length ts < bound → Exact IsSpelled EndsStatement ts (statement ts)) where
  branch_exact : (ts : Input) → length ts < bound → Exact IsBranch Any ts (branch expr statement ts)
  unfolding branch
  branch_exact ts few =
      exact_same BranchWhole IsBranch Any branch_there branch_back ts _
      (exact_then (IsExpr 0) (λ condition. ColonBlock (branch_of condition)) (Ends 0) Any
      (λ condition x c1 c2 more _ rule _. token_ends (t.Mark m.Colon) refl (Then IsBlock (λ body. Just (branch_of condition body))) x c2 more rule)
      (λ condition c r. some_colon (branch_of condition))
      ts (expr level.Test ts) (λ condition. expect m.Colon >>= λ _. block expr statement >>= λ body. pure (branch_of condition body))
      (inside level.Test ts few)
      (λ condition left taken split r. colon_exact expr statement bound lines exact (branch_of condition) left (let a = length_after ts taken left split in omega arith)))

  branches_exact : (n : ℕ) (found : List (Branch Statement)) (ts : Input) → length ts ≤ n → length ts < bound → Exact (AreBranches found) NoElif ts (branches_from expr statement n found ts)
  unfolding branches_from
  branches_exact zero found [] few small =
      exact_by (Just found) (AreBranches found) NoElif [] (none_there found)
      (λ all c w h ends look. none_by found all c w h.others h.whole h.spelt (λ e. absurd (let a : None ≡ Some elif_word = sym look ∙ e in cc)))
      _ (exact_pure found NoElif [])
  branches_exact zero found (s ∷ ts) few small = absurd (omega arith)
  branches_exact (suc n) found ts few small =
      exact_eat_word (AreBranches found) NoElif (branch expr statement >>= λ x. branches_from expr statement n (found ++ x ∷ [])) (pure found) ts w.Elif
      (λ here. exact_by (Another found) (AreBranches found) NoElif ts (another_there found)
      (λ all c w h ends look. another_by found all c w h.others h.whole h.fits h.each h.spelt ends (look ∙ here))
      _ (exact_token_then elif_word (Then IsBranch (λ x. AreBranches (found ++ x ∷ []))) NoElif
      (let (x, c, r) = some_branch in let (all, d, q) = some_branches (found ++ x ∷ []) in (all, c ++ d, (x, c, d, r, q, refl)))
      ts (branch expr statement >>= λ x. branches_from expr statement n (found ++ x ∷ []))
      (λ left less. exact_then IsBranch (λ x. AreBranches (found ++ x ∷ [])) Any NoElif (λ _ _ _ _ _ _ _ _. tt) (λ x c r. some_branches (found ++ x ∷ []))
      left (branch expr statement left) (λ x. branches_from expr statement n (found ++ x ∷ [])) (branch_exact left (omega arith))
      (λ x left2 taken split r. let a = length_after left taken left2 split in branches_exact n (found ++ x ∷ []) left2 (omega arith) (omega arith))) here))
      (λ other. exact_by (Just found) (AreBranches found) NoElif ts (none_there found)
      (λ all c w h ends look. none_by found all c w h.others h.whole h.spelt (λ e. other (sym look ∙ e)))
      _ (exact_pure found NoElif ts))

  otherwise_exact : (ts : Input) → length ts < bound → Exact IsOtherwise NoElse ts (otherwise expr statement ts)
  unfolding otherwise
  otherwise_exact ts few =
      exact_eat_word IsOtherwise NoElse (expect m.Colon >>= λ _. block expr statement >>= λ body. pure (made_else body)) (pure None) ts w.Else
      (λ here. exact_by IsElse IsOtherwise NoElse ts else_there (λ other c more h ends look. else_back other c more h ends (look ∙ here))
      _ (exact_ends IsElse Any NoElse (λ _ _. tt) ts _ (exact_token_then else_word (ColonBlock made_else) Any (some_colon made_else)
      ts (expect m.Colon >>= λ _. block expr statement >>= λ body. pure (made_else body))
      (λ left less. colon_exact expr statement bound lines exact made_else left (omega arith)) here)))
      (λ not. exact_by (Just None) IsOtherwise NoElse ts no_else_there (λ other c more h ends look. no_else_back other c more h (λ e. not (sym look ∙ e)))
      _ (exact_pure None NoElse ts))

  if_rest_exact : (at : ℕ) (ts : Input) → length ts < bound → Exact (IfRest at) EndsStatement ts (if_after expr statement at ts)
  unfolding if_after
  if_rest_exact at ts few =
      exact_then IsBranch (λ first. MoreBranches at first) Any EndsStatement (λ _ _ _ _ _ _ _ _. tt) (λ first c r. some_more at first)
      ts (branch expr statement ts)
      (λ first. (λ ts. branches_from expr statement (length ts) [] ts) >>= λ more. otherwise expr statement >>= λ other. pure (made_if at first more other))
      (branch_exact ts few)
      (λ first left taken split r. let a = length_after ts taken left split in
      exact_then (AreBranches []) (λ more. LastBranch at first more) NoElif EndsStatement
      (λ more x c1 c2 w _ rule ends. let (other, q, _) = last_there IsOtherwise (λ other. made_if at first more other) x c2 rule in
      otherwise_next (λ k. k ≢ Some elif_word) other c2 w q (λ e. cc) ends.no_elif)
      (λ more c q. some_last at first more)
      left (branches_from expr statement (length left) [] left) (λ more. otherwise expr statement >>= λ other. pure (made_if at first more other))
      (branches_exact (length left) [] left (omega arith) (omega arith))
      (λ more left2 taken2 split2 r2. exact_last IsOtherwise NoElse EndsStatement (λ w ends. ends.no_else) (λ other. made_if at first more other) left2 (otherwise expr statement left2)
      (otherwise_exact left2 (let b = length_after left taken2 left2 split2 in omega arith))))

  pub if_exact : (ts : Input) → length ts ≤ bound → next ts ≡ Some (t.Word w.If) → Exact IsIf EndsStatement ts (if_after expr statement (first_line ts) (rest ts))
  if_exact ts few here =
      exact_then (TokAt (t.Word w.If)) IfRest Any EndsStatement (λ _ _ _ _ _ _ _ _. tt) (λ at c r. some_rest at)
      ts (Ok (first_line ts, rest ts)) (if_after expr statement) (exact_tok_at (t.Word w.If) Any ts here)
      (λ at left taken split (s, is, at_is, one). if_rest_exact at left (let a = length_less ts taken left split (λ none. let b : [] ≡ s ∷ [] = sym none ∙ one in cc) in omega arith))
