-- Comparisons are read exactly.
use Rattle.std.proofs.Common.{◌≡◌, ◌∙◌, ◌⊎◌, inl, inr, ℕ, ◌≤◌, ◌<◌, [], ◌∷◌, ◌++◌, Option, Some, None, Ok, refl, sym, ap, subst, arith, length}
use Rattle.std.proofs.lemmas.List.{append-nil}
use Rattle.star_syntax.specs.declared.token.Token.{Token}
use Rattle.star_syntax.specs.declared.token.Token.TheVariants as t
use Rattle.star_syntax.specs.declared.token.Keyword.TheVariants as w
use Rattle.star_syntax.specs.declared.token.Mark.TheVariants as m
use Rattle.star_syntax.specs.declared.operator.CompareOp.{CompareOp}
use Rattle.star_syntax.specs.declared.operator.CompareOp.TheVariants as cmp
use Rattle.star_syntax.specs.declared.expression.Expr.{Expr, roll-Expr}
use Rattle.star_syntax.specs.declared.expression.Expr.TheOpen.{Expr-F}
use Rattle.star_syntax.specs.declared.expression.Expr.TheVariants as e
use Rattle.star_syntax.specs.Spelling.{Tokens, expr_spelling, compare_tokens}
use Rattle.star_syntax.specs.SpellingOfParts.{parts_spelling}
use Rattle.star_syntax.specs.Levels.{IsLevelled, Fits, rank, layer_rank}
use Rattle.star_syntax.proofs.Levelled.{Each}
use Rattle.star_parser.specs.declared.level.Level.{Level}
use Rattle.star_parser.specs.declared.level.Level.TheVariants as level
use Rattle.star_parser.specs.Reading.{Input, Reader, ◌>>◌, next, skip, kinds}
use Rattle.star_parser.specs.Tables.{compare_op, expect_word}
use Rattle.star_parser.specs.Readers.{compared, compare_by, compare}
use Rattle.star_parser.specs.Ends.{reach, Ends}
use Rattle.star_parser.proofs.Exact.{Exact, Then, Just, exact_then, exact_by, exact_same, exact_pure}
use Rattle.star_parser.proofs.Steps.{Tok, some_token, exact_token_then, exact_last}
use Rattle.star_parser.proofs.Words.{exact_word_then}
use Rattle.star_parser.proofs.Rules.{IsExpr, lower, kinds_split, kinds_cons, kinds_append, length_after, some_is}
use Rattle.star_parser.proofs.Chains.{ReadsBelow, rank_few}
use Rattle.star_parser.proofs.First.{node_or_higher, made_is, last_there, last_back}

-- ---- the tokens of comparisons

-- the token by which a comparison is known
abbrev pub first_token : CompareOp → Token
first_token cmp.Equal = t.Mark m.Equal
first_token cmp.NotEqual = t.Mark m.NotEqual
first_token cmp.Less = t.Mark m.Less
first_token cmp.Greater = t.Mark m.Greater
first_token cmp.AtMost = t.Mark m.AtMost
first_token cmp.AtLeast = t.Mark m.AtLeast
first_token cmp.Within = t.Word w.In
first_token cmp.NotWithin = t.Word w.Not

-- the second word of a comparison, if it has one
abbrev pub second_word : CompareOp → Tokens
second_word cmp.NotWithin = t.Word w.In ∷ []
second_word _ = []

tokens_of : (o : CompareOp) → compare_tokens o ≡ first_token o ∷ second_word o
tokens_of cmp.Equal = refl
tokens_of cmp.NotEqual = refl
tokens_of cmp.Less = refl
tokens_of cmp.Greater = refl
tokens_of cmp.AtMost = refl
tokens_of cmp.AtLeast = refl
tokens_of cmp.Within = refl
tokens_of cmp.NotWithin = refl

its_token : (p o : CompareOp) → Some p ≡ Some o → Some (first_token p) ≡ Some (first_token o)
its_token p o h = let same : p ≡ o = cc in ap (λ q. Some (first_token q)) same

compare_op_is : (k : Option Token) (o : CompareOp) → compare_op k ≡ Some o → k ≡ Some (first_token o)
compare_op_is (Some (t.Mark m.Equal)) o h = its_token cmp.Equal o h
compare_op_is (Some (t.Mark m.NotEqual)) o h = its_token cmp.NotEqual o h
compare_op_is (Some (t.Mark m.Less)) o h = its_token cmp.Less o h
compare_op_is (Some (t.Mark m.Greater)) o h = its_token cmp.Greater o h
compare_op_is (Some (t.Mark m.AtMost)) o h = its_token cmp.AtMost o h
compare_op_is (Some (t.Mark m.AtLeast)) o h = its_token cmp.AtLeast o h
compare_op_is (Some (t.Word w.In)) o h = its_token cmp.Within o h
compare_op_is (Some (t.Word w.Not)) o h = its_token cmp.NotWithin o h
compare_op_is _ o h = absurd cc

is_compare_op : (o : CompareOp) → compare_op (Some (first_token o)) ≡ Some o
is_compare_op cmp.Equal = refl
is_compare_op cmp.NotEqual = refl
is_compare_op cmp.Less = refl
is_compare_op cmp.Greater = refl
is_compare_op cmp.AtMost = refl
is_compare_op cmp.AtLeast = refl
is_compare_op cmp.Within = refl
is_compare_op cmp.NotWithin = refl

reach_of_compare : (o : CompareOp) → reach (Some (first_token o)) ≡ 5
reach_of_compare cmp.Equal = refl
reach_of_compare cmp.NotEqual = refl
reach_of_compare cmp.Less = refl
reach_of_compare cmp.Greater = refl
reach_of_compare cmp.AtMost = refl
reach_of_compare cmp.AtLeast = refl
reach_of_compare cmp.Within = refl
reach_of_compare cmp.NotWithin = refl

-- ---- comparisons

-- the right side
abbrev Side : Expr → CompareOp → Expr → Input → Type 0
Side left o = Then (IsExpr 5) (λ right. Just (e.Compare left o right))

-- after the first token of the operator
abbrev Right : Expr → CompareOp → Expr → Input → Type 0
Right left cmp.NotWithin = Then (Tok (t.Word w.In)) (λ _. Side left cmp.NotWithin)
Right left o = Side left o

-- an operator and the right side, after the left one
abbrev Compared : Expr → CompareOp → Expr → Input → Type 0
Compared left o = Then (Tok (first_token o)) (λ _. Right left o)

-- what follows the left side: nothing, or an operator and the right side
abbrev CompareTail : Expr → Expr → Input → Type 0
CompareTail left x c = Just left x c ⊎ ((o : CompareOp) × Compared left o x c)

-- the right side, and how it is spelled
record HasRight (left : Expr) (o : CompareOp) (x : Expr) (c : Input) : Type 0 where
  pub right : Expr
  pub levelled : IsLevelled right
  pub high : 5 ≤ rank right
  pub is : x ≡ e.Compare left o right
  pub spelt : kinds c ≡ second_word o ++ expr_spelling right

side_there : (left : Expr) (o : CompareOp) → second_word o ≡ [] → (x : Expr) (c : Input) → Side left o x c → HasRight left o x c
side_there left o none x c h =
    let (right, r, x_is) = last_there (IsExpr 5) (λ right. e.Compare left o right) x c h in
    record { right = right; levelled = r.levelled; high = r.high; is = x_is; spelt = r.spelt ∙ ap (λ v. v ++ expr_spelling right) (sym none) }

right_there : (left : Expr) (o : CompareOp) (x : Expr) (c : Input) → Right left o x c → HasRight left o x c
right_there left cmp.NotWithin x c (u, c1, c2, (s, is, one), last, split) =
    let (right, r, x_is) = last_there (IsExpr 5) (λ right. e.Compare left cmp.NotWithin right) x c2 last in
    record {
      right = right;
      levelled = r.levelled;
      high = r.high;
      is = x_is;
      spelt = ap kinds (split ∙ ap (λ v. v ++ c2) one) ∙ ap (λ v. v ∷ kinds c2) is ∙ ap (λ v. t.Word w.In ∷ v) r.spelt;
    }
right_there left cmp.Equal x c h = side_there left cmp.Equal refl x c h
right_there left cmp.NotEqual x c h = side_there left cmp.NotEqual refl x c h
right_there left cmp.Less x c h = side_there left cmp.Less refl x c h
right_there left cmp.Greater x c h = side_there left cmp.Greater refl x c h
right_there left cmp.AtMost x c h = side_there left cmp.AtMost refl x c h
right_there left cmp.AtLeast x c h = side_there left cmp.AtLeast refl x c h
right_there left cmp.Within x c h = side_there left cmp.Within refl x c h

side_back : (left : Expr) (o : CompareOp) (x : Expr) (c : Input) (right : Expr) → IsLevelled right → 5 ≤ rank right → x ≡ e.Compare left o right → kinds c ≡ expr_spelling right → Side left o x c
side_back left o x c right levelled high is spelt =
    last_back (IsExpr 5) (λ right. e.Compare left o right) x c right (record { levelled = levelled; high = high; spelt = spelt }) is

right_back : (left : Expr) (o : CompareOp) (x : Expr) (c : Input) (right : Expr) → IsLevelled right → 5 ≤ rank right → x ≡ e.Compare left o right → kinds c ≡ second_word o ++ expr_spelling right → Right left o x c
right_back left cmp.NotWithin x c right levelled high is spelt =
    let (s, c', split, s_is, later) = kinds_cons c (t.Word w.In) (expr_spelling right) spelt in
    (tt, s ∷ [], c', (s, s_is, refl), side_back left cmp.NotWithin x c' right levelled high is later, split)
right_back left cmp.Equal x c right levelled high is spelt = side_back left cmp.Equal x c right levelled high is spelt
right_back left cmp.NotEqual x c right levelled high is spelt = side_back left cmp.NotEqual x c right levelled high is spelt
right_back left cmp.Less x c right levelled high is spelt = side_back left cmp.Less x c right levelled high is spelt
right_back left cmp.Greater x c right levelled high is spelt = side_back left cmp.Greater x c right levelled high is spelt
right_back left cmp.AtMost x c right levelled high is spelt = side_back left cmp.AtMost x c right levelled high is spelt
right_back left cmp.AtLeast x c right levelled high is spelt = side_back left cmp.AtLeast x c right levelled high is spelt
right_back left cmp.Within x c right levelled high is spelt = side_back left cmp.Within x c right levelled high is spelt

compare_there : (x : Expr) (c : Input) → Then (IsExpr 5) CompareTail x c → IsExpr 4 x c
compare_there x c (left, c1, c2, r, inl (is, none), split) =
    lower 4 5 x c (omega arith) (let all : c ≡ c1 = split ∙ ap (λ v. c1 ++ v) none ∙ append-nil c1 in
    record { levelled = subst IsLevelled (sym is) r.levelled; high = subst (λ v. 5 ≤ rank v) (sym is) r.high; spelt = ap kinds all ∙ r.spelt ∙ ap expr_spelling (sym is) })
compare_there x c (left, c1, c2, r, inr (o, (u, c3, c4, (s, is, one), last, split2)), split) =
    let h = right_there left o x c4 last in
    let all : c ≡ c1 ++ s ∷ c4 = split ∙ ap (λ v. c1 ++ v) (split2 ∙ ap (λ v. v ++ c4) one) in
    let later : kinds (s ∷ c4) ≡ compare_tokens o ++ expr_spelling h.right =
    ap (λ v. v ∷ kinds c4) is ∙ ap (λ v. first_token o ∷ v) h.spelt ∙ ap (λ v. v ++ expr_spelling h.right) (sym (tokens_of o)) in
    made_is 4 (Expr-F.Compare left o h.right) x c (e.rolls-Compare left o h.right ∙ sym h.is) (omega arith) (r.high, h.high) (r.levelled, h.levelled)
    (ap kinds all ∙ kinds_append c1 (s ∷ c4) ∙ ap (λ v. v ++ kinds (s ∷ c4)) r.spelt ∙ ap (λ v. expr_spelling left ++ v) later)

compare_by_layer : (x : Expr) (c : Input) (d : Expr-F Expr) → roll-Expr d ≡ x → layer_rank d ≡ 4 → Fits d → Each IsLevelled d → kinds c ≡ parts_spelling d → Then (IsExpr 5) CompareTail x c
compare_by_layer x c (Expr-F.Compare left o right) whole level fits each spelt =
    let (c1, c2, split, is1, is2) = kinds_split c (expr_spelling left) (compare_tokens o ++ expr_spelling right) spelt in
    let (s, c3, split2, is3, is4) = kinds_cons c2 (first_token o) (second_word o ++ expr_spelling right) (is2 ∙ ap (λ v. v ++ expr_spelling right) (tokens_of o)) in (
      left,
      c1,
      c2,
      record { levelled = each.0; high = fits.0; spelt = is1 },
      inr (o, (tt, s ∷ [], c3, (s, is3, refl), right_back left o x c3 right each.1 fits.1 (sym whole ∙ e.rolls-Compare left o right) is4, split2)),
      split,
    )
compare_by_layer x c (Expr-F.Chain l first links) whole level fits each spelt = absurd (let a = rank_few l in omega arith)
compare_by_layer x c _ whole level fits each spelt = absurd (omega arith)

compare_back : (x : Expr) (c : Input) → IsExpr 4 x c → Then (IsExpr 5) CompareTail x c
compare_back x c h = elim (node_or_higher 4 x c h) [
  | inl high ↦ (x, c, [], high, inl (refl, refl), sym (append-nil c))
  | inr node ↦ compare_by_layer x c node.layer node.whole node.level node.fits node.each node.spelt
]

some_right : (left : Expr) (o : CompareOp) → (x : Expr) × (c : Input) × Right left o x c
some_right left cmp.NotWithin =
    let (x, c, r) = some_is 5 (omega arith) in
    let s = some_token (t.Word w.In) in
    (e.Compare left cmp.NotWithin x, s ∷ c, (tt, s ∷ [], c, (s, refl, refl), last_back (IsExpr 5) (λ right. e.Compare left cmp.NotWithin right) _ c x r refl, refl))
some_right left cmp.Equal = let (x, c, r) = some_is 5 (omega arith) in (e.Compare left cmp.Equal x, c, last_back (IsExpr 5) (λ right. e.Compare left cmp.Equal right) _ c x r refl)
some_right left cmp.NotEqual = let (x, c, r) = some_is 5 (omega arith) in (e.Compare left cmp.NotEqual x, c, last_back (IsExpr 5) (λ right. e.Compare left cmp.NotEqual right) _ c x r refl)
some_right left cmp.Less = let (x, c, r) = some_is 5 (omega arith) in (e.Compare left cmp.Less x, c, last_back (IsExpr 5) (λ right. e.Compare left cmp.Less right) _ c x r refl)
some_right left cmp.Greater = let (x, c, r) = some_is 5 (omega arith) in (e.Compare left cmp.Greater x, c, last_back (IsExpr 5) (λ right. e.Compare left cmp.Greater right) _ c x r refl)
some_right left cmp.AtMost = let (x, c, r) = some_is 5 (omega arith) in (e.Compare left cmp.AtMost x, c, last_back (IsExpr 5) (λ right. e.Compare left cmp.AtMost right) _ c x r refl)
some_right left cmp.AtLeast = let (x, c, r) = some_is 5 (omega arith) in (e.Compare left cmp.AtLeast x, c, last_back (IsExpr 5) (λ right. e.Compare left cmp.AtLeast right) _ c x r refl)
some_right left cmp.Within = let (x, c, r) = some_is 5 (omega arith) in (e.Compare left cmp.Within x, c, last_back (IsExpr 5) (λ right. e.Compare left cmp.Within right) _ c x r refl)

-- ---- a comparison is read exactly

module _ (expr : Level → Reader Expr) (bound : ℕ) (operands : ReadsBelow expr bound level.BitOr) where
  side_exact : (left : Expr) (o : CompareOp) (ts : Input) → length ts ≤ bound → Exact (Side left o) (Ends 4) ts (compared expr left o ts)
  unfolding compared Ends
  side_exact left o ts few =
      exact_last (IsExpr 5) (Ends 5) (Ends 4) (λ more ends. omega (arith, ends)) (λ right. e.Compare left o right) ts (expr level.BitOr ts) (operands ts few)

  -- after the operator that comes next, what `p` reads is its right side
  operator_exact : (left : Expr) (ts : Input) (o : CompareOp) → compare_op (next ts) ≡ Some o → (p : Reader Expr)
      → ((left2 : Input) → length left2 < length ts → Exact (Right left o) (Ends 4) left2 (p left2)) → Exact (CompareTail left) (Ends 4) ts ((skip >> p) ts)
  unfolding Ends
  operator_exact left ts o is p later =
      let here = compare_op_is (next ts) o is in
      exact_by (Compared left o) (CompareTail left) (Ends 4) ts (λ x c j. inr (o, j))
      (λ x c more tail ends look. elim tail [
        | inl (x_is, none) ↦
            (let a : next more ≡ Some (first_token o) = ap (λ v. next (v ++ more)) (sym none) ∙ look ∙ here in
            let b : reach (next more) ≡ 5 = ap reach a ∙ reach_of_compare o in absurd (omega (arith, ends)))
        | inr (q, (u, c1, c2, (s, s_is, one), r, split)) ↦
            (let a : Some (first_token q) ≡ Some (first_token o) = ap Some (sym s_is) ∙ ap (λ v. next (v ++ more)) (sym (split ∙ ap (λ v. v ++ c2) one)) ∙ look ∙ here in
            let b : Some q ≡ Some o = sym (is_compare_op q) ∙ ap compare_op a ∙ is_compare_op o in
            let same : q ≡ o = cc in
            subst (λ v. Compared left v x c) same (u, c1, c2, (s, s_is, one), r, split))
      ])
      _ (exact_token_then (first_token o) (Right left o) (Ends 4) (some_right left o) ts p later here)

  compare_tail_exact : (left : Expr) (ts : Input) → length ts ≤ bound → (o : Option CompareOp) → compare_op (next ts) ≡ o
      → Exact (CompareTail left) (Ends 4) ts (compare_by expr left o ts)
  compare_tail_exact left ts few None none =
      exact_by (Just left) (CompareTail left) (Ends 4) ts (λ x c j. inl j)
      (λ x c more tail ends look. elim tail [
        | inl j ↦ j
        | inr (o, (u, c1, c2, (s, is, one), later, split)) ↦
            (let a : Some (first_token o) ≡ next ts = ap Some (sym is) ∙ ap (λ v. next (v ++ more)) (sym (split ∙ ap (λ v. v ++ c2) one)) ∙ look in
            let b = is_compare_op o in
            let d : compare_op (Some (first_token o)) ≡ compare_op (next ts) = ap compare_op a in
            absurd (let both : Some o ≡ None = sym b ∙ d ∙ none in cc))
      ])
      (Ok (left, ts)) (exact_pure left (Ends 4) ts)
  compare_tail_exact left ts few (Some cmp.NotWithin) is =
      operator_exact left ts cmp.NotWithin is (expect_word w.In >> compared expr left cmp.NotWithin)
      (λ left2 less. exact_word_then (Side left cmp.NotWithin) (Ends 4)
      (let (x, c, r) = some_is 5 (omega arith) in (e.Compare left cmp.NotWithin x, c, last_back (IsExpr 5) (λ right. e.Compare left cmp.NotWithin right) _ c x r refl))
      left2 (compared expr left cmp.NotWithin) (λ left3 less2. side_exact left cmp.NotWithin left3 (omega arith)) w.In)
  compare_tail_exact left ts few (Some cmp.Equal) is = operator_exact left ts cmp.Equal is (compared expr left cmp.Equal) (λ left2 less. side_exact left cmp.Equal left2 (omega arith))
  compare_tail_exact left ts few (Some cmp.NotEqual) is = operator_exact left ts cmp.NotEqual is (compared expr left cmp.NotEqual) (λ left2 less. side_exact left cmp.NotEqual left2 (omega arith))
  compare_tail_exact left ts few (Some cmp.Less) is = operator_exact left ts cmp.Less is (compared expr left cmp.Less) (λ left2 less. side_exact left cmp.Less left2 (omega arith))
  compare_tail_exact left ts few (Some cmp.Greater) is = operator_exact left ts cmp.Greater is (compared expr left cmp.Greater) (λ left2 less. side_exact left cmp.Greater left2 (omega arith))
  compare_tail_exact left ts few (Some cmp.AtMost) is = operator_exact left ts cmp.AtMost is (compared expr left cmp.AtMost) (λ left2 less. side_exact left cmp.AtMost left2 (omega arith))
  compare_tail_exact left ts few (Some cmp.AtLeast) is = operator_exact left ts cmp.AtLeast is (compared expr left cmp.AtLeast) (λ left2 less. side_exact left cmp.AtLeast left2 (omega arith))
  compare_tail_exact left ts few (Some cmp.Within) is = operator_exact left ts cmp.Within is (compared expr left cmp.Within) (λ left2 less. side_exact left cmp.Within left2 (omega arith))

  -- comparisons are read exactly, if their sides are
  pub compare_exact : (ts : Input) → length ts ≤ bound → Exact (IsExpr 4) (Ends 4) ts (compare expr ts)
  unfolding compare Ends
  compare_exact ts few = exact_same (Then (IsExpr 5) CompareTail) (IsExpr 4) (Ends 4) compare_there compare_back ts _
      (exact_then (IsExpr 5) CompareTail (Ends 5) (Ends 4)
      (λ left x c1 c2 more _ tail ends. elim tail [
        | inl (x_is, none) ↦ (let a : reach (next (c2 ++ more)) ≡ reach (next more) = ap (λ v. reach (next (v ++ more))) none in omega (arith, ends))
        | inr (o, (u, c3, c4, (s, s_is, one), later, split)) ↦
            (let a : reach (next (c2 ++ more)) ≡ 5 = ap (λ v. reach (next (v ++ more))) (split ∙ ap (λ v. v ++ c4) one) ∙ ap (λ v. reach (Some v)) s_is ∙ reach_of_compare o in omega arith)
      ])
      (λ left c r. (left, [], inl (refl, refl)))
      ts (expr level.BitOr ts) _ (operands ts few)
      (λ left left2 taken split _. compare_tail_exact left left2 (let a = length_after ts taken left2 split in omega arith) (compare_op (next left2)) refl))
