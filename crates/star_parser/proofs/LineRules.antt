-- Lines of small statements are read exactly.
use Rattle.std.proofs.Common.{◌≡◌, ◌≢◌, ◌∙◌, ◌⊎◌, inl, inr, ℕ, zero, suc, ◌≤◌, ◌<◌, Bool, true, false, List, [], ◌∷◌, ◌++◌, Some, None, refl, sym, ap, subst, arith, append_assoc, length}
use Rattle.std.proofs.lemmas.List.{append-nil}
use Rattle.std.specs.Prelude.{if◌then◌else◌}
use Rattle.std.specs.List.{AllByRecursion}
use Rattle.star_syntax.specs.declared.token.Token.{Token}
use Rattle.star_syntax.specs.declared.token.Token.TheVariants as t
use Rattle.star_syntax.specs.declared.token.Mark.TheVariants as m
use Rattle.star_syntax.specs.declared.token.Spanned.{Spanned}
use Rattle.star_syntax.specs.declared.expression.Expr.{Expr}
use Rattle.star_syntax.specs.declared.statement.Small.{Small}
use Rattle.star_syntax.specs.declared.statement.Line.{Line}
use Rattle.star_syntax.specs.Spelling.{Tokens, if_written}
use Rattle.star_syntax.specs.Levels.{KindFits, LineFits}
use Rattle.star_parser.specs.declared.level.Level.{Level}
use Rattle.star_parser.specs.Reading.{Input, Reader, and_then, ◌>>=◌, pure, next, kinds}
use Rattle.star_parser.specs.Tables.{eat}
use Rattle.star_parser.specs.StatementTables.{is_newline, eat_newline, expect_newline}
use Rattle.star_parser.specs.StatementReaders.{line_of, small, smalls_from, line}
use Rattle.star_parser.proofs.Claims.{Claims, free, plain, small_claims, smalls_claims, line_claims, Matches}
use Rattle.star_parser.proofs.Exact.{Exact, Then, Just, exact_refuse, exact_then, exact_by, exact_same, exact_pure}
use Rattle.star_parser.proofs.Steps.{Tok, exact_token_then, exact_eat, token_next}
use Rattle.star_parser.proofs.Rules.{length_after}
use Rattle.star_parser.proofs.Bracketed.{Inside, Any}
use Rattle.star_parser.proofs.LayoutSteps.{Closed, closed_there, closed_back, some_closed, closed_exact, newline_is, exact_eat_by, exact_expect_by_then}
use Rattle.star_parser.proofs.LineMatches.{matches_split, matches_append, matches_plain, plain_matches}
use Rattle.star_parser.proofs.Smalls.{semicolon, EndsSmall, IsSmall, small_there, small_back, some_small, small_starts, small_first, small_exact}

-- the tokens spell the line, and the lines of its small statements are those of their first tokens
abbrev pub IsLine : Line → Input → Type 0
IsLine x c = LineFits x × Matches c (line_claims x)

-- each small statement is well-levelled
abbrev pub SmallsFit : List Small → Type 0
SmallsFit = AllByRecursion (λ small. KindFits small.kind)

-- a semicolon at the end, and the end of the line
abbrev ending : Bool → Tokens
ending written = if_written written m.Semicolon ++ t.Newline ∷ []

-- what was found, and after it small statements that the tokens spell, at least one, up to the end of the line
pub record AreSmalls (found : List Small) (all : Line) (c : Input) : Type 0 where
  pub first : Small
  pub others : List Small
  pub written : Bool
  pub whole : all ≡ line_of (found ++ first ∷ others) written
  pub fits : SmallsFit (first ∷ others)
  pub spelt : Matches c (smalls_claims (first ∷ others) ++ plain (ending written))

-- after a semicolon: the end of the line, or further small statements
abbrev AfterSemicolon : List Small → Line → Input → Type 0
AfterSemicolon found all c = Closed t.Newline (line_of found true) all c ⊎ AreSmalls found all c

-- after a small statement
abbrev SmallsTail : List Small → Line → Input → Type 0
SmallsTail found all c = Closed t.Newline (line_of found false) all c ⊎ Then (Tok semicolon) (λ _. AfterSemicolon found) all c

-- a small statement, and what follows it
abbrev SmallsWhole : List Small → Line → Input → Type 0
SmallsWhole found = Then IsSmall (λ x. SmallsTail (found ++ x ∷ []))

-- after a small statement
spelt_after : (x : Small) (c c1 c2 : Input) (later : Claims) → IsSmall x c1 → c ≡ c1 ++ c2 → Matches c2 later → Matches c (small_claims x ++ later)
spelt_after x c c1 c2 later r split h =
    let (fits, is) = small_there x c1 r in subst (λ v. Matches v (small_claims x ++ later)) (sym split) (matches_append c1 c2 (small_claims x) later is h)

one_spelt : (x : Small) (c c1 c2 : Input) (written : Bool) → IsSmall x c1 → c ≡ c1 ++ c2 → kinds c2 ≡ ending written → Matches c (smalls_claims (x ∷ []) ++ plain (ending written))
one_spelt x c c1 c2 written r split spelt =
    subst (λ v. Matches c (v ++ plain (ending written))) (sym (append-nil (small_claims x))) (spelt_after x c c1 c2 (plain (ending written)) r split (matches_plain c2 (ending written) spelt))

smalls_there : (found : List Small) (all : Line) (c : Input) → SmallsWhole found all c → AreSmalls found all c
smalls_there found all c (x, c1, c2, r, inl closed, split) =
    let (is, spelt) = closed_there t.Newline (line_of (found ++ x ∷ []) false) all c2 closed in
    record { first = x; others = []; written = false; whole = is; fits = ((small_there x c1 r).0, tt); spelt = one_spelt x c c1 c2 false r split spelt }
smalls_there found all c (x, c1, c2, r, inr (u, c3, c4, (s, s_is, one), inl closed, split2), split) =
    let (is, spelt) = closed_there t.Newline (line_of (found ++ x ∷ []) true) all c4 closed in
    let k : kinds c2 ≡ semicolon ∷ t.Newline ∷ [] = ap kinds (split2 ∙ ap (λ v. v ++ c4) one) ∙ ap (λ v. v ∷ kinds c4) s_is ∙ ap (λ v. semicolon ∷ v) spelt in
    record { first = x; others = []; written = true; whole = is; fits = ((small_there x c1 r).0, tt); spelt = one_spelt x c c1 c2 true r split k }
smalls_there found all c (x, c1, c2, r, inr (u, c3, c4, (s, s_is, one), inr more, split2), split) =
    let later : Claims = free semicolon ∷ (smalls_claims (more.first ∷ more.others) ++ plain (ending more.written)) in
    let k : Matches c2 later = subst (λ v. Matches v later) (sym (split2 ∙ ap (λ v. v ++ c4) one)) (s_is, tt, more.spelt) in
    record {
      first = x;
      others = more.first ∷ more.others;
      written = more.written;
      whole = more.whole ∙ ap (λ v. line_of v more.written) (append_assoc found (x ∷ []) (more.first ∷ more.others));
      fits = ((small_there x c1 r).0, more.fits);
      spelt = subst (Matches c) (sym (append_assoc (small_claims x) (free semicolon ∷ smalls_claims (more.first ∷ more.others)) (plain (ending more.written))))
          (spelt_after x c c1 c2 later r split k);
    }

-- the tokens that a token with any line begins
first_free : (k : Token) (c : Input) (ks : Claims) → Matches c (free k ∷ ks) → (s : Spanned) × (d : Input) × (c ≡ s ∷ d) × (s.token ≡ k) × Matches d ks
first_free k [] ks h = absurd h
first_free k (s ∷ c) ks h = (s, c, refl, h.0, h.2)

smalls_by : (found : List Small) (all : Line) (c : Input) (x : Small) (others : List Small) (written : Bool) → all ≡ line_of (found ++ x ∷ others) written
    → SmallsFit (x ∷ others) → Matches c (smalls_claims (x ∷ others) ++ plain (ending written)) → SmallsWhole found all c
smalls_by found all c x [] false is fits spelt =
    let (c1, c2, split, is1, is2) = matches_split c (small_claims x) (plain (t.Newline ∷ [])) (subst (λ v. Matches c (v ++ plain (t.Newline ∷ []))) (append-nil (small_claims x)) spelt) in
    (x, c1, c2, small_back x c1 fits.0 is1, inl (closed_back t.Newline _ all c2 is (plain_matches c2 (t.Newline ∷ []) is2)), split)
smalls_by found all c x [] true is fits spelt =
    let (c1, c2, split, is1, is2) = matches_split c (small_claims x) (plain (semicolon ∷ t.Newline ∷ []))
    (subst (λ v. Matches c (v ++ plain (semicolon ∷ t.Newline ∷ []))) (append-nil (small_claims x)) spelt) in
    let (s, c3, split2, is3, is4) = first_free semicolon c2 (plain (t.Newline ∷ [])) is2 in
    (x, c1, c2, small_back x c1 fits.0 is1, inr (tt, s ∷ [], c3, (s, is3, refl), inl (closed_back t.Newline _ all c3 is (plain_matches c3 (t.Newline ∷ []) is4)), split2), split)
smalls_by found all c x (y ∷ ys) written is fits spelt =
    let later : Claims = smalls_claims (y ∷ ys) ++ plain (ending written) in
    let (c1, c2, split, is1, is2) = matches_split c (small_claims x) (free semicolon ∷ later)
    (subst (Matches c) (append_assoc (small_claims x) (free semicolon ∷ smalls_claims (y ∷ ys)) (plain (ending written))) spelt) in
    let (s, c3, split2, is3, is4) = first_free semicolon c2 later is2 in (
      x,
      c1,
      c2,
      small_back x c1 fits.0 is1,
      inr (
        tt,
        s ∷ [],
        c3,
        (s, is3, refl),
        inr (record {
          first = y;
          others = ys;
          written = written;
          whole = is ∙ ap (λ v. line_of v written) (sym (append_assoc found (x ∷ []) (y ∷ ys)));
          fits = fits.1;
          spelt = is4;
        }),
        split2,
      ),
      split,
    )

smalls_back : (found : List Small) (all : Line) (c : Input) → AreSmalls found all c → SmallsWhole found all c
smalls_back found all c h = smalls_by found all c h.first h.others h.written h.whole h.fits h.spelt

some_smalls : (found : List Small) → (all : Line) × (c : Input) × AreSmalls found all c
some_smalls found =
    let (x, c, r) = some_small in
    let (y, d, q) = some_closed t.Newline (line_of (found ++ x ∷ []) false) in
    (y, c ++ d, smalls_there found y (c ++ d) (x, c, d, r, inl q, refl))

-- ---- what comes next

smalls_tail_ends : (found : List Small) (all : Line) (c more : Input) → SmallsTail found all c → EndsSmall (c ++ more)
smalls_tail_ends found all c more (inl closed) = inr (token_next t.Newline (Just (line_of found false)) all c more closed)
smalls_tail_ends found all c more (inr later) = inl (token_next semicolon (AfterSemicolon found) all c more later)

-- the first token of a line
smalls_first : (found : List Small) (all : Line) (c : Input) → AreSmalls found all c → (s : Spanned) × (d : Input) × (c ≡ s ∷ d) × (0 < small_starts s.token)
smalls_first found all c h =
    let (x, c1, c2, r, tail, split) = smalls_back found all c h in
    let (s, d, is, low) = small_first x c1 r in
    (s, d ++ c2, split ∙ ap (λ v. v ++ c2) is, low)

not_first : (found : List Small) (all : Line) (c more : Input) (k : Token) → small_starts k ≡ 0 → AreSmalls found all c → next (c ++ more) ≢ Some k
not_first found all c more k none h e =
    let (s, d, is, low) = smalls_first found all c h in
    let a : Some s.token ≡ Some k = ap (λ v. next (v ++ more)) (sym is) ∙ e in
    let b : s.token ≡ k = cc in
    let f : small_starts s.token ≡ 0 = ap small_starts b ∙ none in absurd (omega arith)

-- ---- the readers

-- after a semicolon
after_semicolon_exact : (found : List Small) (p : Reader Line) (ts : Input) → Exact (AreSmalls found) Any ts (p ts)
    → Exact (AfterSemicolon found) Any ts (and_then (eat_newline ts) (λ ended. if ended then pure (line_of found true) else p))
after_semicolon_exact found p ts later =
    exact_eat_by (AfterSemicolon found) Any (pure (line_of found true)) p ts is_newline t.Newline newline_is refl
    (λ here. exact_by (Closed t.Newline (line_of found true)) (AfterSemicolon found) Any ts (λ all c j. inl j)
    (λ all c more rule _ look. elim rule [ inl j ↦ j | inr h ↦ absurd (not_first found all c more t.Newline refl h (look ∙ here)) ])
    _ (closed_exact t.Newline (line_of found true) ts here))
    (λ other. exact_by (AreSmalls found) (AfterSemicolon found) Any ts (λ all c j. inr j)
    (λ all c more rule _ look. elim rule [ inl j ↦ absurd (other (sym look ∙ token_next t.Newline (Just (line_of found true)) all c more j)) | inr h ↦ h ])
    _ later)

-- after a small statement
tail_exact : (found : List Small) (p : Reader Line) (ts : Input) → ((left : Input) → length left < length ts → Exact (AreSmalls found) Any left (p left))
    → Exact (SmallsTail found) Any ts (and_then (eat m.Semicolon ts) (λ more. if more then (eat_newline >>= λ ended. if ended then pure (line_of found true) else p) else
    (expect_newline >>= λ _. pure (line_of found false))))
tail_exact found p ts later =
    exact_eat (SmallsTail found) Any (eat_newline >>= λ ended. if ended then pure (line_of found true) else p) (expect_newline >>= λ _. pure (line_of found false)) ts m.Semicolon
    (λ here. exact_by (Then (Tok semicolon) (λ _. AfterSemicolon found)) (SmallsTail found) Any ts (λ all c j. inr j)
    (λ all c more rule _ look. elim rule [
      | inl j ↦ absurd (let a : Some t.Newline ≡ Some semicolon = sym (token_next t.Newline (Just (line_of found false)) all c more j) ∙ look ∙ here in cc)
      | inr j ↦ j
    ])
    _ (exact_token_then semicolon (AfterSemicolon found) Any (let (y, c, q) = some_closed t.Newline (line_of found true) in (y, c, inl q)) ts
    (eat_newline >>= λ ended. if ended then pure (line_of found true) else p)
    (λ left less. after_semicolon_exact found p left (later left less)) here))
    (λ other. exact_by (Closed t.Newline (line_of found false)) (SmallsTail found) Any ts (λ all c j. inl j)
    (λ all c more rule _ look. elim rule [ inl j ↦ j | inr j ↦ absurd (other (sym look ∙ token_next semicolon (AfterSemicolon found) all c more j)) ])
    _ (exact_expect_by_then (Just (line_of found false)) Any (line_of found false, [], (refl, refl)) ts (pure (line_of found false))
    (λ left _. exact_pure (line_of found false) Any left) is_newline t.Newline newline_is refl))

module _ (expr : Level → Reader Expr) (bound : ℕ) (below : Inside expr bound) where
  -- small statements up to the end of the line are read exactly
  smalls_exact : (n : ℕ) (found : List Small) (ts : Input) → length ts ≤ n → length ts < bound → Exact (AreSmalls found) Any ts (smalls_from expr n found ts)
  unfolding smalls_from
  smalls_exact zero found [] few within = exact_refuse (AreSmalls found) Any [] (some_smalls found)
      (λ all c more h _ look. let (s, d, is, low) = smalls_first found all c h in let a : Some s.token ≡ None = ap (λ v. next (v ++ more)) (sym is) ∙ look in cc)
  smalls_exact zero found (s ∷ ts) few within = absurd (omega arith)
  smalls_exact (suc n) found ts few within =
      exact_same (SmallsWhole found) (AreSmalls found) Any (smalls_there found) (smalls_back found) ts _
      (exact_then IsSmall (λ x. SmallsTail (found ++ x ∷ [])) EndsSmall Any
      (λ x all c1 c2 more _ tail _. smalls_tail_ends (found ++ x ∷ []) all c2 more tail)
      (λ x c r. let (y, d, q) = some_closed t.Newline (line_of (found ++ x ∷ []) false) in (y, d, inl q))
      ts (small expr ts)
      (λ x. eat m.Semicolon >>= λ more. if more then (eat_newline >>= λ ended. if ended then pure (line_of (found ++ x ∷ []) true) else smalls_from expr n (found ++ x ∷ [])) else
      (expect_newline >>= λ _. pure (line_of (found ++ x ∷ []) false)))
      (small_exact expr bound below ts within)
      (λ x left taken split r. tail_exact (found ++ x ∷ []) (smalls_from expr n (found ++ x ∷ [])) left
      (λ left2 less. let a = length_after ts taken left split in smalls_exact n (found ++ x ∷ []) left2 (omega arith) (omega arith))))

-- ---- whole lines

line_there : (x : Line) (c : Input) → AreSmalls [] x c → IsLine x c
unfolding line_claims
line_there x c h =
    let held : IsLine (line_of (h.first ∷ h.others) h.written) c = (((λ none. cc), h.fits), h.spelt) in
    subst (λ v. IsLine v c) (sym h.whole) held

line_by : (smalls : List Small) (written : Bool) (c : Input) → IsLine (line_of smalls written) c → AreSmalls [] (line_of smalls written) c
unfolding line_claims
line_by [] written c h = absurd (h.0.0 refl)
line_by (x ∷ xs) written c h = record { first = x; others = xs; written = written; whole = refl; fits = h.0.1; spelt = h.1 }

line_back : (x : Line) (c : Input) → IsLine x c → AreSmalls [] x c
line_back x c h = line_by x.smalls x.semicolon c h

-- some line
pub some_line : (x : Line) × (c : Input) × IsLine x c
some_line = let (x, c, h) = some_smalls [] in (x, c, line_there x c h)

-- the first token of a line
pub line_first : (x : Line) (c : Input) → IsLine x c → (s : Spanned) × (d : Input) × (c ≡ s ∷ d) × (0 < small_starts s.token)
line_first x c h = smalls_first [] x c (line_back x c h)

-- no line begins with a token that begins no small statement
pub line_not_first : (k : Token) → small_starts k ≡ 0 → (x : Line) (c more : Input) → IsLine x c → next (c ++ more) ≢ Some k
line_not_first k none x c more h = not_first [] x c more k none (line_back x c h)

-- a line is read exactly, and anything may follow it
pub line_exact : (expr : Level → Reader Expr) (bound : ℕ) (below : Inside expr bound) (ts : Input) → length ts < bound → Exact IsLine Any ts (line expr ts)
unfolding line
line_exact expr bound below ts few =
    exact_same (AreSmalls []) IsLine Any line_there line_back ts _ (smalls_exact expr bound below (length ts) [] ts (omega arith) few)
