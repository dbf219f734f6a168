-- Tests with commas between are read exactly.
use Rattle.std.proofs.Common.{◌≡◌, ◌≢◌, ◌∙◌, ℕ, zero, suc, ◌≤◌, ◌<◌, List, [], ◌∷◌, ◌++◌, map, Option, Some, None, refl, sym, ap, subst, arith, append_assoc, length}
use Rattle.std.proofs.lemmas.List.{append-nil}
use Rattle.std.specs.Prelude.{if◌then◌else◌}
use Rattle.std.specs.List.{AllByRecursion}
use Rattle.star_syntax.specs.declared.token.Token.{Token}
use Rattle.star_syntax.specs.declared.token.Token.TheVariants as t
use Rattle.star_syntax.specs.declared.token.Mark.TheVariants as m
use Rattle.star_syntax.specs.declared.token.Spanned.{Spanned}
use Rattle.star_syntax.specs.declared.expression.Expr.{Expr}
use Rattle.star_syntax.specs.Spelling.{expr_spelling, tests_spelling}
use Rattle.star_syntax.specs.Levels.{IsLevelled, AreTests}
use Rattle.star_parser.specs.declared.level.Level.{Level}
use Rattle.star_parser.specs.declared.level.Level.TheVariants as level
use Rattle.star_parser.specs.Reading.{Input, Reader, and_then, ◌>>=◌, pure, next, kinds}
use Rattle.star_parser.specs.Tables.{eat}
use Rattle.star_parser.specs.StatementReaders.{tests_after, tests}
use Rattle.star_parser.specs.Starts.{starts}
use Rattle.star_parser.specs.Ends.{reach, Ends}
use Rattle.star_parser.proofs.Exact.{Exact, Then, Just, exact_then, exact_by, exact_same, exact_pure}
use Rattle.star_parser.proofs.Steps.{Tok, exact_token_then, exact_eat}
use Rattle.star_parser.proofs.Rules.{IsExpr, kinds_split, kinds_cons, kinds_none, kinds_append, next_kind, length_after, some_is}
use Rattle.star_parser.proofs.First.{first_of}
use Rattle.star_parser.proofs.Closing.{token_spelt}
use Rattle.star_parser.proofs.Bracketed.{Inside, comma}
use Rattle.star_parser.proofs.Arguments.{commas}

-- the tokens spell tests, at least one
pub record IsTests (all : List Expr) (c : Input) : Type 0 where
  pub fits : AreTests all
  pub spelt : kinds c ≡ tests_spelling all

-- the tokens don't go on with tests
pub record EndsTests (more : Input) : Type 0 where
  pub level : Ends 0 more
  pub no_comma : next more ≢ Some (t.Mark m.Comma)

-- what was found, and after it tests that the tokens spell, each after a comma
pub record AreMore (found all : List Expr) (c : Input) : Type 0 where
  pub others : List Expr
  pub whole : all ≡ found ++ others
  pub levelled : AllByRecursion IsLevelled others
  pub spelt : kinds c ≡ commas (map expr_spelling others)

-- a comma, a test, and more tests
abbrev Another : List Expr → List Expr → Input → Type 0
Another found = Then (Tok comma) (λ _. Then (IsExpr 0) (λ x. AreMore (found ++ x ∷ [])))

-- another test and those after it are tests after those found
another_there : (found all : List Expr) (c : Input) → Another found all c → AreMore found all c
another_there found all c (u, c1, c2, (s, is, one), (x, c3, c4, r, more, split2), split) = record {
  others = x ∷ more.others;
  whole = more.whole ∙ append_assoc found (x ∷ []) more.others;
  levelled = (r.levelled, more.levelled);
  spelt = token_spelt comma s c c1 c2 is one split
      ∙ ap (λ v. comma ∷ v) (ap kinds split2 ∙ kinds_append c3 c4 ∙ ap (λ v. v ++ kinds c4) r.spelt ∙ ap (λ v. expr_spelling x ++ v) more.spelt);
}

-- where a comma comes next, tests after those found are another one and those after it
another_by : (found all : List Expr) (c more : Input) (others : List Expr) → all ≡ found ++ others → AllByRecursion IsLevelled others
    → kinds c ≡ commas (map expr_spelling others) → EndsTests more → next (c ++ more) ≡ Some comma → Another found all c
another_by found all c more [] whole levelled spelt ends look = absurd (ends.no_comma (ap (λ v. next (v ++ more)) (sym (kinds_none c spelt)) ∙ look))
another_by found all c more (x ∷ xs) whole levelled spelt ends look =
    let (s, c2, split, is, later) = kinds_cons c comma (expr_spelling x ++ commas (map expr_spelling xs)) spelt in
    let (c3, c4, split2, is3, is4) = kinds_split c2 (expr_spelling x) (commas (map expr_spelling xs)) later in (
      tt,
      s ∷ [],
      c2,
      (s, is, refl),
      (
        x,
        c3,
        c4,
        record { levelled = levelled.0; high = omega arith; spelt = is3 },
        record { others = xs; whole = whole ∙ sym (append_assoc found (x ∷ []) xs); levelled = levelled.1; spelt = is4 },
        split2,
      ),
      split,
    )

-- no further tests
none_there : (found all : List Expr) (c : Input) → Just found all c → AreMore found all c
none_there found all c (is, none) = record { others = []; whole = is ∙ sym (append-nil found); levelled = tt; spelt = ap kinds none }

-- where no comma comes next, there are no further tests
none_by : (found all : List Expr) (c more : Input) (others : List Expr) → all ≡ found ++ others → kinds c ≡ commas (map expr_spelling others)
    → next (c ++ more) ≢ Some comma → Just found all c
none_by found all c more [] whole spelt look = (whole ∙ append-nil found, kinds_none c spelt)
none_by found all c more (x ∷ xs) whole spelt look = absurd (look (next_kind c more comma (expr_spelling x ++ commas (map expr_spelling xs)) spelt))

-- some further tests: none
pub some_more : (found : List Expr) → (all : List Expr) × (c : Input) × AreMore found all c
some_more found = (found, [], none_there found found [] (refl, refl))

-- more tests begin with a comma, or with what follows them
pub more_next : (found all : List Expr) (c more : Input) → AreMore found all c → (P : Option Token → Type 0) → P (Some comma) → P (next more) → P (next (c ++ more))
more_next found all c more h P at_comma at_end = by_others h.others h.spelt
  where
    by_others : (others : List Expr) → kinds c ≡ commas (map expr_spelling others) → P (next (c ++ more))
    by_others [] spelt = subst (λ v. P (next (v ++ more))) (sym (kinds_none c spelt)) at_end
    by_others (x ∷ xs) spelt = subst P (sym (next_kind c more comma (expr_spelling x ++ commas (map expr_spelling xs)) spelt)) at_comma

-- a test ends before further tests
pub more_ends : (found all : List Expr) (c more : Input) → AreMore found all c → Ends 0 more → Ends 0 (c ++ more)
unfolding Ends
more_ends found all c more h ends = more_next found all c more h (λ k. reach k ≤ 0) (omega arith) ends

-- ---- at least one test

-- a test, and those after it
abbrev TestsWhole : List Expr → Input → Type 0
TestsWhole = Then (IsExpr 0) (λ x. AreMore (x ∷ []))

-- after the first test
pub tests_from_more : (x : Expr) (all : List Expr) (c c1 c2 : Input) → IsExpr 0 x c1 → AreMore (x ∷ []) all c2 → c ≡ c1 ++ c2 → IsTests all c
tests_from_more x all c c1 c2 r more split =
    let held : IsTests (x ∷ more.others) c = record {
      fits = ((λ none. cc), (r.levelled, more.levelled));
      spelt = ap kinds split ∙ kinds_append c1 c2 ∙ ap (λ v. v ++ kinds c2) r.spelt ∙ ap (λ v. expr_spelling x ++ v) more.spelt;
    } in
    subst (λ v. IsTests v c) (sym more.whole) held

-- tests are a first one and those after it
pub more_from_tests : (x : Expr) (xs : List Expr) (c : Input) → IsTests (x ∷ xs) c → (c1 : Input) × (c2 : Input) × IsExpr 0 x c1 × AreMore (x ∷ []) (x ∷ xs) c2 × (c ≡ c1 ++ c2)
more_from_tests x xs c h =
    let (c1, c2, split, is1, is2) = kinds_split c (expr_spelling x) (commas (map expr_spelling xs)) h.spelt in
    (c1, c2, record { levelled = h.fits.1.0; high = omega arith; spelt = is1 }, record { others = xs; whole = refl; levelled = h.fits.1.1; spelt = is2 }, split)

tests_there : (all : List Expr) (c : Input) → TestsWhole all c → IsTests all c
tests_there all c (x, c1, c2, r, more, split) = tests_from_more x all c c1 c2 r more split

tests_back : (all : List Expr) (c : Input) → IsTests all c → TestsWhole all c
tests_back [] c h = absurd (h.fits.0 refl)
tests_back (x ∷ xs) c h = let (c1, c2, r, more, split) = more_from_tests x xs c h in (x, c1, c2, r, more, split)

-- some tests
pub some_tests : (all : List Expr) × (c : Input) × IsTests all c
some_tests =
    let (x, c, r) = some_is 0 (omega arith) in
    let (all, d, more) = some_more (x ∷ []) in
    (all, c ++ d, tests_there all (c ++ d) (x, c, d, r, more, refl))

-- the first token of tests is that of a test
pub tests_first : (all : List Expr) (c : Input) → IsTests all c → (s : Spanned) × (d : Input) × (c ≡ s ∷ d) × (0 < starts s.token)
tests_first all c h =
    let (x, c1, c2, r, more, split) = tests_back all c h in
    let (s, d, is, low) = first_of 0 x c1 r in
    (s, d ++ c2, split ∙ ap (λ v. v ++ c2) is, low)

-- no tests begin with this token
pub tests_not_first : (k : Token) → starts k ≡ 0 → (all : List Expr) (c more : Input) → IsTests all c → next (c ++ more) ≢ Some k
tests_not_first k none all c more h e =
    let (s, d, is, low) = tests_first all c h in
    let a : Some s.token ≡ Some k = ap (λ v. next (v ++ more)) (sym is) ∙ e in
    let b : s.token ≡ k = cc in
    let f : starts s.token ≡ 0 = ap starts b ∙ none in absurd (omega arith)

-- ---- the readers

module _ (expr : Level → Reader Expr) (bound : ℕ) (below : Inside expr bound) where
  -- one more test, or none, by the token that comes next
  step : (more : List Expr → Reader (List Expr)) (found : List Expr) (ts : Input) → length ts ≤ bound
      → ((found' : List Expr) (left : Input) → length left < length ts → Exact (AreMore found') EndsTests left (more found' left))
      → Exact (AreMore found) EndsTests ts (and_then (eat m.Comma ts) (λ so. if so then (expr level.Test >>= λ x. more (found ++ x ∷ [])) else pure found))
  step more found ts few goes_on =
      exact_eat (AreMore found) EndsTests (expr level.Test >>= λ x. more (found ++ x ∷ [])) (pure found) ts m.Comma
      (λ here. exact_by (Another found) (AreMore found) EndsTests ts (another_there found)
      (λ all c w h ends look. another_by found all c w h.others h.whole h.levelled h.spelt ends (look ∙ here))
      _ (exact_token_then comma (Then (IsExpr 0) (λ x. AreMore (found ++ x ∷ []))) EndsTests
      (let (x, c, r) = some_is 0 (omega arith) in let (all, d, q) = some_more (found ++ x ∷ []) in (all, c ++ d, (x, c, d, r, q, refl)))
      ts (expr level.Test >>= λ x. more (found ++ x ∷ []))
      (λ left less. exact_then (IsExpr 0) (λ x. AreMore (found ++ x ∷ [])) (Ends 0) EndsTests
      (λ x all c1 c2 w _ q ends. more_ends (found ++ x ∷ []) all c2 w q ends.level)
      (λ x c r. some_more (found ++ x ∷ []))
      left (expr level.Test left) (λ x. more (found ++ x ∷ [])) (below level.Test left (omega arith))
      (λ x left2 taken split r. goes_on (found ++ x ∷ []) left2 (let a = length_after left taken left2 split in omega arith))) here))
      (λ other. exact_by (Just found) (AreMore found) EndsTests ts (none_there found)
      (λ all c w h ends look. none_by found all c w h.others h.whole h.spelt (λ e. other (sym look ∙ e)))
      _ (exact_pure found EndsTests ts))

  -- tests after those found are read exactly
  pub tests_after_exact : (n : ℕ) (found : List Expr) (ts : Input) → length ts ≤ n → length ts ≤ bound → Exact (AreMore found) EndsTests ts (tests_after expr n found ts)
  unfolding tests_after
  tests_after_exact zero found [] few small =
      exact_by (Just found) (AreMore found) EndsTests [] (none_there found)
      (λ all c w h ends look. none_by found all c w h.others h.whole h.spelt (λ e. absurd (let a : None ≡ Some comma = sym look ∙ e in cc)))
      _ (exact_pure found EndsTests [])
  tests_after_exact zero found (s ∷ ts) few small = absurd (omega arith)
  tests_after_exact (suc n) found ts few small = step (tests_after expr n) found ts small (λ found' left less. tests_after_exact n found' left (omega arith) (omega arith))

  -- tests are read exactly
  pub tests_exact : (ts : Input) → length ts < bound → Exact IsTests EndsTests ts (tests expr ts)
  unfolding tests
  tests_exact ts few =
      exact_same TestsWhole IsTests EndsTests tests_there tests_back ts _
      (exact_then (IsExpr 0) (λ x. AreMore (x ∷ [])) (Ends 0) EndsTests
      (λ x all c1 c2 w _ q ends. more_ends (x ∷ []) all c2 w q ends.level)
      (λ x c r. some_more (x ∷ []))
      ts (expr level.Test ts) (λ x. (λ ts. tests_after expr (length ts) (x ∷ []) ts)) (below level.Test ts few)
      (λ x left taken split r. tests_after_exact (length left) (x ∷ []) left (omega arith) (let a = length_after ts taken left split in omega arith)))
