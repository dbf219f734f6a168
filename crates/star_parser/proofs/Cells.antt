-- A whole cell is read exactly, if the depths are enough.
use Rattle.std.proofs.Common.{◌≡◌, ◌≢◌, ◌∙◌, ◌⊎◌, inl, inr, ℕ, zero, suc, ◌+◌, ◌*◌, ◌≤◌, ◌<◌, List, [], ◌∷◌, ◌++◌, Some, None, refl, sym, ap, subst, arith, append_assoc, length}
use Rattle.std.proofs.lemmas.List.{append-nil}
use Rattle.std.specs.List.{flat_map, AllByRecursion}
use Rattle.star_syntax.specs.declared.token.Token.{Token}
use Rattle.star_syntax.specs.declared.token.Token.TheVariants as t
use Rattle.star_syntax.specs.declared.token.Keyword.TheVariants as w
use Rattle.star_syntax.specs.declared.expression.Expr.{Expr}
use Rattle.star_syntax.specs.declared.statement.Statement.{Statement}
use Rattle.star_syntax.specs.declared.statement.Module.{Module}
use Rattle.star_syntax.specs.Levels.{IsStatement, WellLevelled}
use Rattle.star_parser.specs.declared.level.Level.{Level}
use Rattle.star_parser.specs.Reading.{Input, Reader, ◌>>=◌, pure, next}
use Rattle.star_parser.specs.Readers.{expr}
use Rattle.star_parser.specs.StatementTables.{is_end, finish}
use Rattle.star_parser.specs.StatementReaders.{statement, cell_from, cell, whole}
use Rattle.star_parser.proofs.Claims.{Claims, plain, statement_claims, module_claims, Matches, IsClaimed}
use Rattle.star_parser.proofs.Exact.{Exact, Then, Just, exact_refuse, exact_then, exact_by, exact_same, exact_pure}
use Rattle.star_parser.proofs.Steps.{token_next}
use Rattle.star_parser.proofs.Rules.{length_less}
use Rattle.star_parser.proofs.Bracketed.{Any, Inside}
use Rattle.star_parser.proofs.LayoutSteps.{Closed, closed_there, closed_back, closed_exact, some_closed, end_is, exact_eat_by}
use Rattle.star_parser.proofs.LineMatches.{matches_split, matches_plain, plain_matches}
use Rattle.star_parser.proofs.ClaimLemmas.{matched_joined}
use Rattle.star_parser.proofs.Openings.{Opens}
use Rattle.star_parser.proofs.Blocks.{IsSpelled, EndsStatement, spelled_first, spelled_some, opening_ends}
use Rattle.star_parser.proofs.Whole.{expr_exact}
use Rattle.star_parser.proofs.StatementsWhole.{statement_exact}

-- nothing follows
abbrev pub Nothing : Input → Type 0
Nothing more = more ≡ []

-- ---- the statements up to End

-- what was found, and after it statements up to End
record AreAll (found all : List Statement) (c : Input) : Type 0 where
  pub others : List Statement
  pub whole : all ≡ found ++ others
  pub levelled : AllByRecursion IsStatement others
  pub spelt : Matches c (flat_map statement_claims others ++ plain (t.End ∷ []))

-- a statement, and more of them up to End
abbrev Another : List Statement → List Statement → Input → Type 0
Another found = Then IsSpelled (λ x. AreAll (found ++ x ∷ []))

another_there : (found all : List Statement) (c : Input) → Another found all c → AreAll found all c
another_there found all c (x, c1, c2, r, more, split) = record {
  others = x ∷ more.others;
  whole = more.whole ∙ append_assoc found (x ∷ []) more.others;
  levelled = (r.levelled, more.levelled);
  spelt = subst (Matches c) (sym (append_assoc (statement_claims x) (flat_map statement_claims more.others) (plain (t.End ∷ []))))
      (matched_joined c c1 c2 (statement_claims x) (flat_map statement_claims more.others ++ plain (t.End ∷ [])) split r.spelt more.spelt);
}

ended_there : (found all : List Statement) (c : Input) → Closed t.End found all c → AreAll found all c
ended_there found all c h =
    let (is, k) = closed_there t.End found all c h in
    record { others = []; whole = is ∙ sym (append-nil found); levelled = tt; spelt = matches_plain c (t.End ∷ []) k }

-- a cell's tokens begin with End, or with a statement
all_by : (found all : List Statement) (c : Input) (others : List Statement) → all ≡ found ++ others → AllByRecursion IsStatement others
    → Matches c (flat_map statement_claims others ++ plain (t.End ∷ [])) → Closed t.End found all c ⊎ Another found all c
all_by found all c [] whole levelled spelt = inl (closed_back t.End found all c (whole ∙ append-nil found) (plain_matches c (t.End ∷ []) spelt))
all_by found all c (x ∷ xs) whole levelled spelt =
    let rest : Claims = flat_map statement_claims xs ++ plain (t.End ∷ []) in
    let (c1, c2, split, m1, m2) = matches_split c (statement_claims x) rest (subst (Matches c) (append_assoc (statement_claims x) (flat_map statement_claims xs) (plain (t.End ∷ []))) spelt) in
    inr (
      x,
      c1,
      c2,
      record { levelled = levelled.0; spelt = m1 },
      record { others = xs; whole = whole ∙ sym (append_assoc found (x ∷ []) xs); levelled = levelled.1; spelt = m2 },
      split,
    )

all_back : (found all : List Statement) (c : Input) → AreAll found all c → Closed t.End found all c ⊎ Another found all c
all_back found all c h = all_by found all c h.others h.whole h.levelled h.spelt

another_first : (found all : List Statement) (c more : Input) → Another found all c → (k : Token) × (next (c ++ more) ≡ Some k) × Opens k
another_first found all c more (x, c1, c2, r, later, split) =
    let (k, is, opens) = spelled_first x c1 (c2 ++ more) r in
    (k, ap next (ap (λ v. v ++ more) split ∙ append_assoc c1 c2 more) ∙ is, opens)

all_ends : (found all : List Statement) (c more : Input) → AreAll found all c → EndsStatement (c ++ more)
all_ends found all c more h = elim (all_back found all c h) [
  | inl ended ↦ (let is = token_next t.End (Just found) all c more ended in record {
    no_elif = λ e. (let a : Some t.End ≡ Some (t.Word w.Elif) = sym is ∙ e in cc);
    no_else = λ e. (let a : Some t.End ≡ Some (t.Word w.Else) = sym is ∙ e in cc);
  })
  | inr later ↦ (let (k, is, opens) = another_first found all c more later in opening_ends (c ++ more) k is opens)
]

all_some : (found all : List Statement) (c more : Input) → AreAll found all c → next (c ++ more) ≢ None
all_some found all c more h e = elim (all_back found all c h) [
  | inl ended ↦ (let a : Some t.End ≡ None = sym (token_next t.End (Just found) all c more ended) ∙ e in cc)
  | inr later ↦ (let (k, is, opens) = another_first found all c more later in let a : Some k ≡ None = sym is ∙ e in cc)
]

some_all : (found : List Statement) → (all : List Statement) × (c : Input) × AreAll found all c
some_all found = let (y, c, q) = some_closed t.End found in (y, c, ended_there found y c q)

module _ (expr : Level → Reader Expr) (statement : Reader Statement) (bound : ℕ) (exact : (ts : Input) → length ts < bound → Exact IsSpelled EndsStatement ts (statement ts)) where
  all_exact : (n : ℕ) (found : List Statement) (ts : Input) → length ts ≤ n → length ts < bound → Exact (AreAll found) Any ts (cell_from expr statement n found ts)
  unfolding cell_from
  all_exact zero found [] few small = exact_refuse (AreAll found) Any [] (some_all found) (λ all c more h _ look. all_some found all c more h look)
  all_exact zero found (s ∷ ts) few small = absurd (omega arith)
  all_exact (suc n) found ts few small =
      exact_eat_by (AreAll found) Any (pure found) (statement >>= λ x. cell_from expr statement n (found ++ x ∷ [])) ts is_end t.End end_is refl
      (λ here. exact_by (Closed t.End found) (AreAll found) Any ts (ended_there found)
      (λ all c more h _ look. elim (all_back found all c h) [
        | inl ended ↦ ended
        | inr later ↦ (let (k, is, opens) = another_first found all c more later in absurd (opens.no_end (let a : Some k ≡ Some t.End = sym is ∙ look ∙ here in cc)))
      ])
      _ (closed_exact t.End found ts here))
      (λ other. exact_by (Another found) (AreAll found) Any ts (another_there found)
      (λ all c more h _ look. elim (all_back found all c h) [
        | inl ended ↦ absurd (other (sym look ∙ token_next t.End (Just found) all c more ended))
        | inr later ↦ later
      ])
      _ (exact_then IsSpelled (λ x. AreAll (found ++ x ∷ [])) EndsStatement Any (λ x all c1 c2 more _ later _. all_ends (found ++ x ∷ []) all c2 more later)
      (λ x c r. some_all (found ++ x ∷ [])) ts (statement ts) (λ x. cell_from expr statement n (found ++ x ∷ [])) (exact ts small)
      (λ x left taken split r. let less = length_less ts taken left split (spelled_some x taken r) in all_exact n (found ++ x ∷ []) left (omega arith) (omega arith))))

-- ---- the cell

abbrev cell_of : List Statement → Module
cell_of found = record { statements = found }

-- the end of the tokens, and then the cell
abbrev Finished : List Statement → Module → Input → Type 0
Finished found = Then (Just {T = Unit {0}} tt) (λ _. Just (cell_of found))

-- the statements up to End, and the end of the tokens
abbrev IsCell : Module → Input → Type 0
IsCell = Then (AreAll []) Finished

cell_there : (x : Module) (c : Input) → IsCell x c → IsClaimed x c
unfolding WellLevelled module_claims
cell_there x c (found, c1, c2, r, (u, c3, c4, (_, none1), (x_is, none2), split2), split) =
    let all : c ≡ c1 = split ∙ ap (λ v. c1 ++ v) (split2 ∙ ap (λ v. v ++ c4) none1 ∙ none2) ∙ append-nil c1 in
    let whole : IsClaimed (cell_of found) c = (
      subst (AllByRecursion IsStatement) (sym r.whole) r.levelled,
      subst (λ v. Matches v (flat_map statement_claims found ++ plain (t.End ∷ []))) (sym all)
          (subst (λ v. Matches c1 (flat_map statement_claims v ++ plain (t.End ∷ []))) (sym r.whole) r.spelt),
    ) in
    subst (λ v. IsClaimed v c) (sym x_is) whole

cell_back : (x : Module) (c : Input) → IsClaimed x c → IsCell x c
unfolding WellLevelled module_claims
cell_back x c h = (x.statements, c, [], record { others = x.statements; whole = refl; levelled = h.0; spelt = h.1 }, (tt, [], [], (refl, refl), (refl, refl), refl), sym (append-nil c))

finish_exact : (ts : Input) → Exact (Just {T = Unit {0}} tt) Nothing ts (finish ts)
finish_exact [] = exact_pure {T = Unit {0}} tt Nothing []
finish_exact (s ∷ ts) = exact_refuse (Just {T = Unit {0}} tt) Nothing (s ∷ ts) (tt, [], (refl, refl))
    (λ u c more (_, none) ends look. let a : next (c ++ more) ≡ None = ap (λ v. next (v ++ more)) none ∙ ap next ends in let b : Some s.token ≡ None = sym look ∙ a in absurd cc)

some_finished : (found : List Statement) → (x : Module) × (c : Input) × Finished found x c
some_finished found = (cell_of found, [], (tt, [], [], (refl, refl), (refl, refl), refl))

module _ (expr : Level → Reader Expr) (statement : Reader Statement) (bound : ℕ) (exact : (ts : Input) → length ts < bound → Exact IsSpelled EndsStatement ts (statement ts)) where
  cell_exact : (ts : Input) → length ts < bound → Exact IsClaimed Nothing ts (cell expr statement ts)
  unfolding cell
  cell_exact ts few =
      exact_same IsCell IsClaimed Nothing cell_there cell_back ts _
      (exact_then (AreAll []) Finished Any Nothing (λ _ _ _ _ _ _ _ _. tt) (λ found c r. some_finished found)
      ts (cell_from expr statement (length ts) [] ts) (λ found. finish >>= λ _. pure (cell_of found)) (all_exact expr statement bound exact (length ts) [] ts (omega arith) few)
      (λ found left taken split r. exact_then (Just {T = Unit {0}} tt) (λ _. Just (cell_of found)) Nothing Nothing
      (λ _ y c1 c2 more _ (_, none) ends. ap (λ v. v ++ more) none ∙ ends) (λ _ _ _. (cell_of found, [], (refl, refl)))
      left (finish left) (λ _. pure (cell_of found)) (finish_exact left) (λ _ left2 taken2 split2 _. exact_pure (cell_of found) Nothing left2)))

-- Where the depths are enough for the tokens, the tree that is read is the one that stands there, and the place
-- that is refused is the first at which none goes on.
pub whole_exact : (terms depth : ℕ) (ts : Input) → 12 * length ts + 11 < terms → length ts < depth → Exact IsClaimed Nothing ts (whole terms depth ts)
unfolding whole
whole_exact terms depth ts enough deep =
    let inside : Inside (expr terms) (length ts + 1) = (λ l ts' few. expr_exact terms l ts' (omega arith)) in
    cell_exact (expr terms) (statement (expr terms) depth) (length ts + 1)
    (λ ts' few. statement_exact (expr terms) (length ts + 1) inside depth ts' few (omega arith)) ts (omega arith)
