-- An atom is read exactly.
use Rattle.std.proofs.Common.{◌≡◌, ◌∙◌, inl, inr, ℕ, ◌≤◌, ◌<◌, Bool, true, false, List, [], ◌∷◌, ◌++◌, Option, Some, None, Err, refl, sym, ap, subst, arith, append_assoc, length}
use Rattle.std.proofs.lemmas.List.{append-nil}
use Rattle.std.specs.List.{flat_map, AllByRecursion}
use Rattle.star_syntax.specs.declared.token.Token.{Token}
use Rattle.star_syntax.specs.declared.token.Token.TheVariants as t
use Rattle.star_syntax.specs.declared.token.Keyword.TheVariants as w
use Rattle.star_syntax.specs.declared.token.Mark.{Mark}
use Rattle.star_syntax.specs.declared.token.Mark.TheVariants as m
use Rattle.star_syntax.specs.declared.token.Spanned.{Spanned}
use Rattle.star_syntax.specs.declared.expression.ChainLevel.TheVariants as chain
use Rattle.star_syntax.specs.declared.expression.Clause.{Clause}
use Rattle.star_syntax.specs.declared.expression.Expr.{Expr, out-Expr, roll-Expr}
use Rattle.star_syntax.specs.declared.expression.Expr.TheOpen.{Expr-F}
use Rattle.star_syntax.specs.declared.expression.Expr.TheVariants as e
use Rattle.star_syntax.specs.Spelling.{Tokens, expr_spelling, tests_spelling, if_written}
use Rattle.star_syntax.specs.SpellingOfParts.{parts_spelling, expr_clause_spelling, expr_pair_spelling}
use Rattle.star_syntax.specs.Levels.{IsLevelled, Fits, layer_rank, CommaFitsTuple, ClauseFits}
use Rattle.star_syntax.proofs.Levelled.{Each, EachClause, rank_parts}
use Rattle.star_parser.specs.declared.level.Level.{Level}
use Rattle.star_parser.specs.declared.level.Level.TheVariants as level
use Rattle.star_parser.specs.Reading.{Input, Reader, ◌>>◌, pure, next, skip, kinds}
use Rattle.star_parser.specs.Readers.{round, square, curly, atom, atom_by}
use Rattle.star_parser.proofs.Exact.{Exact, Then, Just, exact_refuse, exact_by, exact_pure}
use Rattle.star_parser.proofs.Steps.{Tok, exact_token_then}
use Rattle.star_parser.proofs.Rules.{IsExpr, kinds_split, kinds_cons, kinds_none, kinds_append, some_is}
use Rattle.star_parser.proofs.First.{node_or_higher, made_is, last_there, last_back}
use Rattle.star_parser.proofs.Bracketed.{Any, comma, closes_there, closes_back, some_closes, Items, AfterComma, IsItem, Inside, Round, round_exact}
use Rattle.star_parser.proofs.Clauses.{ClauseGood}
use Rattle.star_parser.proofs.Displays.{display_there, display_back}
use Rattle.star_parser.proofs.Lists.{Square, list_of, list_for, square_exact}
use Rattle.star_parser.proofs.Dicts.{Curly, PairGood, dict_of, dict_for, curly_exact}

-- ---- what follows `(`

tuple_made : (items : List Expr) (written : Bool) (x : Expr) (c : Input) (s : Spanned) → s.token ≡ t.Mark m.OpenRound → x ≡ e.Tuple items written → CommaFitsTuple items written
    → AllByRecursion IsLevelled items → kinds c ≡ tests_spelling items ++ (if_written written m.Comma ++ t.Mark m.CloseRound ∷ []) → IsExpr 12 x (s ∷ c)
tuple_made items written x c s is x_is fits levelled spelt =
    made_is 12 (Expr-F.Tuple items written) x (s ∷ c) (e.rolls-Tuple items written ∙ sym x_is) (omega arith) fits levelled (ap (λ v. v ∷ kinds c) is ∙ ap (λ v. t.Mark m.OpenRound ∷ v) spelt)

-- after an item and a comma
several_there : (inner x : Expr) (c c1 c4 : Input) (s : Spanned) → s.token ≡ t.Mark m.OpenRound → IsItem inner c1 → kinds c ≡ kinds c1 ++ (comma ∷ kinds c4) → (all : Items Expr) → x ≡ e.Tuple all.0 all.1
    → AfterComma IsLevelled expr_spelling m.CloseRound (inner ∷ []) all c4 → IsExpr 12 x (s ∷ c)
several_there inner x c c1 c4 s is r k all x_is (inl closed) =
    let (all_is, spelt) = closes_there {T = Items Expr} m.CloseRound (inner ∷ [], true) all c4 closed in
    tuple_made (inner ∷ []) true x c s is (x_is ∙ ap (λ v. e.Tuple v.0 v.1) all_is) refl (r.good, tt)
    (k ∙ ap (λ v. v ++ (comma ∷ kinds c4)) (r.spelt ∙ sym (append-nil (expr_spelling inner))) ∙ ap (λ v. (expr_spelling inner ++ []) ++ (comma ∷ v)) spelt)
several_there inner x c c1 c4 s is r k all x_is (inr items) =
    tuple_made (inner ∷ items.first ∷ items.others) all.1 x c s is (x_is ∙ ap (λ v. e.Tuple v all.1) items.whole) tt (r.good, items.good)
    (k ∙ ap (λ v. v ++ (comma ∷ kinds c4)) r.spelt ∙ ap (λ v. expr_spelling inner ++ (comma ∷ v)) items.spelt
    ∙ sym (append_assoc (expr_spelling inner) (comma ∷ tests_spelling (items.first ∷ items.others)) (if_written all.1 m.Comma ++ t.Mark m.CloseRound ∷ [])))

round_there : (x : Expr) (c : Input) (s : Spanned) → s.token ≡ t.Mark m.OpenRound → Round x c → IsExpr 12 x (s ∷ c)
round_there x c s is (inl closed) = let (x_is, spelt) = closes_there m.CloseRound (e.Tuple [] false) x c closed in tuple_made [] false x c s is x_is refl tt spelt
round_there x c s is (inr (inner, c1, c2, r, inl closed, split)) =
    let (x_is, spelt) = closes_there m.CloseRound (e.Paren inner) x c2 closed in
    made_is 12 (Expr-F.Paren inner) x (s ∷ c) (e.rolls-Paren inner ∙ sym x_is) (omega arith) tt r.good
    (ap (λ v. v ∷ kinds c) is ∙ ap (λ v. t.Mark m.OpenRound ∷ v) (ap kinds split ∙ kinds_append c1 c2 ∙ ap (λ v. v ++ kinds c2) r.spelt ∙ ap (λ v. expr_spelling inner ++ v) spelt))
round_there x c s is (inr (inner, c1, c2, r, inr (u, c3, c4, (s2, is2, one), last, split2), split)) =
    let (all, after, x_is) = last_there (AfterComma IsLevelled expr_spelling m.CloseRound (inner ∷ [])) (λ all. e.Tuple all.0 all.1) x c4 last in
    several_there inner x c c1 c4 s is r
    (ap kinds split ∙ kinds_append c1 c2 ∙ ap (λ v. kinds c1 ++ v) (ap kinds (split2 ∙ ap (λ v. v ++ c4) one) ∙ ap (λ v. v ∷ kinds c4) is2)) all x_is after

tuple_back : (items : List Expr) (written : Bool) (x : Expr) (c : Input) → x ≡ e.Tuple items written → CommaFitsTuple items written
    → AllByRecursion IsLevelled items → kinds c ≡ tests_spelling items ++ (if_written written m.Comma ++ t.Mark m.CloseRound ∷ []) → Round x c
tuple_back [] true x c x_is fits levelled spelt = absurd cc
tuple_back [] false x c x_is fits levelled spelt = inl (closes_back m.CloseRound (e.Tuple [] false) x c x_is spelt)
tuple_back (inner ∷ []) false x c x_is fits levelled spelt = absurd cc
tuple_back (inner ∷ []) true x c x_is fits levelled spelt =
    let (c1, c2, split, is1, is2) = kinds_split c (expr_spelling inner) (comma ∷ t.Mark m.CloseRound ∷ []) (spelt ∙ ap (λ v. v ++ comma ∷ t.Mark m.CloseRound ∷ []) (append-nil (expr_spelling inner))) in
    let (s, c3, split2, is3, is4) = kinds_cons c2 comma (t.Mark m.CloseRound ∷ []) is2 in
    inr (
      inner,
      c1,
      c2,
      record { good = levelled.0; spelt = is1 },
      inr (
        tt,
        s ∷ [],
        c3,
        (s, is3, refl),
        last_back (AfterComma IsLevelled expr_spelling m.CloseRound (inner ∷ [])) (λ all. e.Tuple all.0 all.1) x c3 (inner ∷ [], true)
            (inl (closes_back {T = Items Expr} m.CloseRound (inner ∷ [], true) (inner ∷ [], true) c3 refl is4)) x_is,
        split2,
      ),
      split,
    )
tuple_back (inner ∷ y ∷ ys) written x c x_is fits levelled spelt =
    let (c1, c2, split, is1, is2) = kinds_split c (expr_spelling inner) (comma ∷ (tests_spelling (y ∷ ys) ++ (if_written written m.Comma ++ t.Mark m.CloseRound ∷ [])))
    (spelt ∙ append_assoc (expr_spelling inner) (comma ∷ tests_spelling (y ∷ ys)) (if_written written m.Comma ++ t.Mark m.CloseRound ∷ [])) in
    let (s, c3, split2, is3, is4) = kinds_cons c2 comma (tests_spelling (y ∷ ys) ++ (if_written written m.Comma ++ t.Mark m.CloseRound ∷ [])) is2 in
    inr (
      inner,
      c1,
      c2,
      record { good = levelled.0; spelt = is1 },
      inr (
        tt,
        s ∷ [],
        c3,
        (s, is3, refl),
        last_back (AfterComma IsLevelled expr_spelling m.CloseRound (inner ∷ [])) (λ all. e.Tuple all.0 all.1) x c3 (inner ∷ y ∷ ys, written)
            (inr (record { first = y; others = ys; whole = refl; good = levelled.1; spelt = is4 })) x_is,
        split2,
      ),
      split,
    )

paren_back : (inner x : Expr) (c : Input) → x ≡ e.Paren inner → IsLevelled inner → kinds c ≡ expr_spelling inner ++ t.Mark m.CloseRound ∷ [] → Round x c
paren_back inner x c x_is levelled spelt =
    let (c1, c2, split, is1, is2) = kinds_split c (expr_spelling inner) (t.Mark m.CloseRound ∷ []) spelt in
    inr (inner, c1, c2, record { good = levelled; spelt = is1 }, inl (closes_back m.CloseRound (e.Paren inner) x c2 x_is is2), split)

-- ---- what follows `[` and `{`

clauses_fit : (xs : List (Clause Expr)) → AllByRecursion ClauseGood xs → AllByRecursion ClauseFits xs
clauses_fit [] good = tt
clauses_fit (x ∷ xs) good = let one = good.0 in (one.fits, clauses_fit xs good.1)

clauses_levelled : (xs : List (Clause Expr)) → AllByRecursion ClauseGood xs → AllByRecursion (EachClause IsLevelled) xs
clauses_levelled [] good = tt
clauses_levelled (x ∷ xs) good = let one = good.0 in (one.levelled, clauses_levelled xs good.1)

clauses_good : (xs : List (Clause Expr)) → AllByRecursion ClauseFits xs → AllByRecursion (EachClause IsLevelled) xs → AllByRecursion ClauseGood xs
clauses_good [] fits levelled = tt
clauses_good (x ∷ xs) fits levelled = (record { fits = fits.0; levelled = levelled.0 }, clauses_good xs fits.1 levelled.1)

square_there : (x : Expr) (c : Input) (s : Spanned) → s.token ≡ t.Mark m.OpenSquare → Square x c → IsExpr 12 x (s ∷ c)
square_there x c s is h = elim (display_there IsLevelled expr_spelling m.CloseSquare list_for list_of x c h) [
  | inl d ↦ made_is 12 (Expr-F.List d.items d.written) x (s ∷ c) (e.rolls-List d.items d.written ∙ sym d.tree) (omega arith) d.fits d.good
      (ap (λ v. v ∷ kinds c) is ∙ ap (λ v. t.Mark m.OpenSquare ∷ v) d.spelt)
  | inr d ↦ made_is 12 (Expr-F.ListOver d.item d.clauses) x (s ∷ c) (e.rolls-ListOver d.item d.clauses ∙ sym d.tree) (omega arith)
      (d.starts_it, clauses_fit d.clauses d.good) (d.item_good, clauses_levelled d.clauses d.good)
      (ap (λ v. v ∷ kinds c) is ∙ ap (λ v. t.Mark m.OpenSquare ∷ v) d.spelt)
]

curly_there : (x : Expr) (c : Input) (s : Spanned) → s.token ≡ t.Mark m.OpenCurly → Curly x c → IsExpr 12 x (s ∷ c)
curly_there x c s is h = elim (display_there PairGood expr_pair_spelling m.CloseCurly dict_for dict_of x c h) [
  | inl d ↦ made_is 12 (Expr-F.Dict d.items d.written) x (s ∷ c) (e.rolls-Dict d.items d.written ∙ sym d.tree) (omega arith) d.fits d.good
      (ap (λ v. v ∷ kinds c) is ∙ ap (λ v. t.Mark m.OpenCurly ∷ v) d.spelt)
  | inr d ↦
      let item = d.item in
      let good = d.item_good in
      made_is 12 (Expr-F.DictOver item.key item.value d.clauses) x (s ∷ c) (e.rolls-DictOver item.key item.value d.clauses ∙ sym d.tree) (omega arith)
      (d.starts_it, clauses_fit d.clauses d.good) (good.0, good.1, clauses_levelled d.clauses d.good)
      (ap (λ v. v ∷ kinds c) is ∙ ap (λ v. t.Mark m.OpenCurly ∷ v)
      (d.spelt ∙ append_assoc (expr_spelling item.key) (t.Mark m.Colon ∷ expr_spelling item.value) (flat_map expr_clause_spelling d.clauses ++ t.Mark m.CloseCurly ∷ [])))
]

-- ---- atoms

-- one token, and the tree of it
abbrev Single : Token → Expr → Expr → Input → Type 0
Single k tree = Then (Tok k) (λ _. Just tree)

-- a bracket, and what stands after it
abbrev Opened : Mark → (Expr → Input → Type 0) → Expr → Input → Type 0
Opened mark R = Then (Tok (t.Mark mark)) (λ _. R)

-- what an atom is, by its first token
abbrev ByFirst : Token → Expr → Input → Type 0
ByFirst (t.Name name) x c = Single (t.Name name) (e.Name name) x c
ByFirst (t.Int n) x c = Single (t.Int n) (e.Int n) x c
ByFirst (t.Text text) x c = Single (t.Text text) (e.Text text) x c
ByFirst (t.Word w.None) x c = Single (t.Word w.None) e.None x c
ByFirst (t.Word w.True) x c = Single (t.Word w.True) e.True x c
ByFirst (t.Word w.False) x c = Single (t.Word w.False) e.False x c
ByFirst (t.Mark m.OpenRound) x c = Opened m.OpenRound Round x c
ByFirst (t.Mark m.OpenSquare) x c = Opened m.OpenSquare Square x c
ByFirst (t.Mark m.OpenCurly) x c = Opened m.OpenCurly Curly x c
ByFirst _ x c = ⊥

single_there : (k : Token) (leaf : Expr) (d : Expr-F Expr) → roll-Expr d ≡ leaf → layer_rank d ≡ 12 → Fits d → Each IsLevelled d → parts_spelling d ≡ k ∷ []
    → (x : Expr) (c : Input) → Single k leaf x c → IsExpr 12 x c
single_there k leaf d rolls top fits each spells x c (u, c1, c2, (s, is, one), (x_is, none), split) =
    made_is 12 d x c (rolls ∙ sym x_is) (omega arith) fits each
    (ap kinds (split ∙ ap (λ v. v ++ c2) one ∙ ap (λ v. s ∷ v) none) ∙ ap (λ v. v ∷ []) is ∙ sym spells)

opened_there : (mark : Mark) (R : Expr → Input → Type 0) → ((x : Expr) (c : Input) (s : Spanned) → s.token ≡ t.Mark mark → R x c → IsExpr 12 x (s ∷ c))
    → (x : Expr) (c : Input) → Opened mark R x c → IsExpr 12 x c
opened_there mark R there x c (u, c1, c2, (s, is, one), r, split) = subst (λ v. IsExpr 12 x v) (sym (split ∙ ap (λ v. v ++ c2) one)) (there x c2 s is r)

rank_top : (d : Expr-F Expr) → layer_rank d ≤ 12
rank_top (Expr-F.Chain chain.Or first links) = omega arith
rank_top (Expr-F.Chain chain.And first links) = omega arith
rank_top (Expr-F.Chain chain.BitOr first links) = omega arith
rank_top (Expr-F.Chain chain.BitXor first links) = omega arith
rank_top (Expr-F.Chain chain.BitAnd first links) = omega arith
rank_top (Expr-F.Chain chain.Sum first links) = omega arith
rank_top (Expr-F.Chain chain.Product first links) = omega arith
rank_top _ = omega arith

-- the first token, and what an atom with it is
abbrev WithFirst : Expr → Input → Type 0
WithFirst x c = (s : Spanned) × (d : Input) × (c ≡ s ∷ d) × ByFirst s.token x c

single_first : (k : Token) (leaf x : Expr) (c : Input) → x ≡ leaf → kinds c ≡ k ∷ [] → ((x : Expr) (c : Input) → Single k leaf x c → ByFirst k x c) → WithFirst x c
single_first k leaf x c x_is spelt by_token =
    let (s, d, split, is, none) = kinds_cons c k [] spelt in
    (s, d, split, subst (λ v. ByFirst v x c) (sym is) (by_token x c (tt, s ∷ [], d, (s, is, refl), (x_is, kinds_none d none), split)))

opened_first : (mark : Mark) (R : Expr → Input → Type 0) (x : Expr) (c : Input) (inner : Tokens) → kinds c ≡ t.Mark mark ∷ inner → ((d : Input) → kinds d ≡ inner → R x d)
    → ((x : Expr) (c : Input) → Opened mark R x c → ByFirst (t.Mark mark) x c) → WithFirst x c
opened_first mark R x c inner spelt back by_token =
    let (s, d, split, is, later) = kinds_cons c (t.Mark mark) inner spelt in
    (s, d, split, subst (λ v. ByFirst v x c) (sym is) (by_token x c (tt, s ∷ [], d, (s, is, refl), back d later, split)))

first_by_layer : (x : Expr) (c : Input) (d : Expr-F Expr) → roll-Expr d ≡ x → layer_rank d ≡ 12 → Fits d → Each IsLevelled d → kinds c ≡ parts_spelling d → WithFirst x c
first_by_layer x c (Expr-F.Name name) whole level fits each spelt = single_first (t.Name name) (e.Name name) x c (sym whole ∙ e.rolls-Name name) spelt (λ x c r. r)
first_by_layer x c (Expr-F.Int n) whole level fits each spelt = single_first (t.Int n) (e.Int n) x c (sym whole ∙ e.rolls-Int n) spelt (λ x c r. r)
first_by_layer x c (Expr-F.Text text) whole level fits each spelt = single_first (t.Text text) (e.Text text) x c (sym whole ∙ e.rolls-Text text) spelt (λ x c r. r)
first_by_layer x c Expr-F.None whole level fits each spelt = single_first (t.Word w.None) e.None x c (sym whole ∙ e.rolls-None) spelt (λ x c r. r)
first_by_layer x c Expr-F.True whole level fits each spelt = single_first (t.Word w.True) e.True x c (sym whole ∙ e.rolls-True) spelt (λ x c r. r)
first_by_layer x c Expr-F.False whole level fits each spelt = single_first (t.Word w.False) e.False x c (sym whole ∙ e.rolls-False) spelt (λ x c r. r)
first_by_layer x c (Expr-F.Paren inner) whole level fits each spelt =
    opened_first m.OpenRound Round x c _ spelt (λ d is. paren_back inner x d (sym whole ∙ e.rolls-Paren inner) each is) (λ x c r. r)
first_by_layer x c (Expr-F.Tuple items written) whole level fits each spelt =
    opened_first m.OpenRound Round x c _ spelt (λ d is. tuple_back items written x d (sym whole ∙ e.rolls-Tuple items written) fits each is) (λ x c r. r)
first_by_layer x c (Expr-F.List items written) whole level fits each spelt =
    opened_first m.OpenSquare Square x c _ spelt
    (λ d is. display_back IsLevelled expr_spelling m.CloseSquare list_for list_of x d
    (inl (record { items = items; written = written; tree = sym whole ∙ e.rolls-List items written; fits = fits; good = each; spelt = is }))) (λ x c r. r)
first_by_layer x c (Expr-F.ListOver item clauses) whole level fits each spelt =
    opened_first m.OpenSquare Square x c _ spelt
    (λ d is. display_back IsLevelled expr_spelling m.CloseSquare list_for list_of x d
    (inr (record {
      item = item;
      clauses = clauses;
      tree = sym whole ∙ e.rolls-ListOver item clauses;
      starts_it = fits.0;
      item_good = each.0;
      good = clauses_good clauses fits.1 each.1;
      spelt = is;
    }))) (λ x c r. r)
first_by_layer x c (Expr-F.Dict pairs written) whole level fits each spelt =
    opened_first m.OpenCurly Curly x c _ spelt
    (λ d is. display_back PairGood expr_pair_spelling m.CloseCurly dict_for dict_of x d
    (inl (record { items = pairs; written = written; tree = sym whole ∙ e.rolls-Dict pairs written; fits = fits; good = each; spelt = is }))) (λ x c r. r)
first_by_layer x c (Expr-F.DictOver key value clauses) whole level fits each spelt =
    opened_first m.OpenCurly Curly x c _ spelt
    (λ d is. display_back PairGood expr_pair_spelling m.CloseCurly dict_for dict_of x d
    (inr (record {
      item = record { key = key; value = value };
      clauses = clauses;
      tree = sym whole ∙ e.rolls-DictOver key value clauses;
      starts_it = fits.0;
      item_good = (each.0, each.1);
      good = clauses_good clauses fits.1 each.2;
      spelt = is ∙ sym (append_assoc (expr_spelling key) (t.Mark m.Colon ∷ expr_spelling value) (flat_map expr_clause_spelling clauses ++ t.Mark m.CloseCurly ∷ []));
    }))) (λ x c r. r)
first_by_layer x c (Expr-F.Chain chain.Or first links) whole level fits each spelt = absurd (omega arith)
first_by_layer x c (Expr-F.Chain chain.And first links) whole level fits each spelt = absurd (omega arith)
first_by_layer x c (Expr-F.Chain chain.BitOr first links) whole level fits each spelt = absurd (omega arith)
first_by_layer x c (Expr-F.Chain chain.BitXor first links) whole level fits each spelt = absurd (omega arith)
first_by_layer x c (Expr-F.Chain chain.BitAnd first links) whole level fits each spelt = absurd (omega arith)
first_by_layer x c (Expr-F.Chain chain.Sum first links) whole level fits each spelt = absurd (omega arith)
first_by_layer x c (Expr-F.Chain chain.Product first links) whole level fits each spelt = absurd (omega arith)
first_by_layer x c _ whole level fits each spelt = absurd (omega arith)

by_first : (x : Expr) (c : Input) → IsExpr 12 x c → WithFirst x c
by_first x c h = elim (node_or_higher 12 x c h) [
  | inl high ↦ absurd (higher high)
  | inr node ↦ first_by_layer x c node.layer node.whole node.level node.fits node.each node.spelt
]
  where
    higher : IsExpr 13 x c → ⊥
    higher high = let a = high.high in let b = rank_parts x in let d = rank_top (out-Expr x) in omega arith

atom_back : (ts : Input) (k : Token) → next ts ≡ Some k → (x : Expr) (c more : Input) → IsExpr 12 x c → next (c ++ more) ≡ next ts → ByFirst k x c
atom_back ts k here x c more h look =
    let (s, d, split, r) = by_first x c h in
    let a : Some s.token ≡ Some k = ap (λ v. next (v ++ more)) (sym split) ∙ look ∙ here in
    let b : s.token ≡ k = cc in
    subst (λ v. ByFirst v x c) b r

single_exact : (k : Token) (tree : Expr) (ts : Input) → next ts ≡ Some k → ((x : Expr) (c : Input) → Single k tree x c → IsExpr 12 x c)
    → ((x : Expr) (c : Input) → ByFirst k x c → Single k tree x c) → Exact (IsExpr 12) Any ts ((skip >> pure tree) ts)
single_exact k tree ts here there by_token =
    exact_by (Single k tree) (IsExpr 12) Any ts there (λ x c more h _ look. by_token x c (atom_back ts k here x c more h look)) _
    (exact_token_then k (Just tree) Any (tree, [], (refl, refl)) ts (pure tree) (λ left _. exact_pure tree Any left) here)

opened_exact : (mark : Mark) (R : Expr → Input → Type 0) (p : Reader Expr) (ts : Input) → next ts ≡ Some (t.Mark mark) → ((x : Expr) (c : Input) → Opened mark R x c → IsExpr 12 x c)
    → ((x : Expr) (c : Input) → ByFirst (t.Mark mark) x c → Opened mark R x c) → ((x : Expr) × (c : Input) × R x c)
    → ((left : Input) → length left < length ts → Exact R Any left (p left)) → Exact (IsExpr 12) Any ts ((skip >> p) ts)
opened_exact mark R p ts here there by_token some later =
    exact_by (Opened mark R) (IsExpr 12) Any ts there (λ x c more h _ look. by_token x c (atom_back ts (t.Mark mark) here x c more h look)) _
    (exact_token_then (t.Mark mark) R Any some ts p later here)

atom_refused : (ts : Input) (k : Option Token) → next ts ≡ k → ((x : Expr) (c : Input) (s : Spanned) (d : Input) → c ≡ s ∷ d → k ≡ Some s.token → ByFirst s.token x c → ⊥)
    → Exact (IsExpr 12) Any ts (Err ts)
atom_refused ts k here none = exact_refuse (IsExpr 12) Any ts (some_is 12 (omega arith))
    (λ x c more h _ look. let (s, d, split, r) = by_first x c h in
    none x c s d split (sym here ∙ sym look ∙ ap (λ v. next (v ++ more)) split) r)

module _ (expr : Level → Reader Expr) (bound : ℕ) (inside : Inside expr bound) where
  atom_by_exact : (ts : Input) → length ts ≤ bound → (k : Option Token) → next ts ≡ k → Exact (IsExpr 12) Any ts (atom_by expr k ts)
  atom_by_exact ts few (Some (t.Name name)) here =
      single_exact (t.Name name) (e.Name name) ts here (single_there (t.Name name) (e.Name name) (Expr-F.Name name) (e.rolls-Name name) refl tt tt refl) (λ x c r. r)
  atom_by_exact ts few (Some (t.Int n)) here =
      single_exact (t.Int n) (e.Int n) ts here (single_there (t.Int n) (e.Int n) (Expr-F.Int n) (e.rolls-Int n) refl tt tt refl) (λ x c r. r)
  atom_by_exact ts few (Some (t.Text text)) here =
      single_exact (t.Text text) (e.Text text) ts here (single_there (t.Text text) (e.Text text) (Expr-F.Text text) (e.rolls-Text text) refl tt tt refl) (λ x c r. r)
  atom_by_exact ts few (Some (t.Word w.None)) here =
      single_exact (t.Word w.None) e.None ts here (single_there (t.Word w.None) e.None Expr-F.None e.rolls-None refl tt tt refl) (λ x c r. r)
  atom_by_exact ts few (Some (t.Word w.True)) here =
      single_exact (t.Word w.True) e.True ts here (single_there (t.Word w.True) e.True Expr-F.True e.rolls-True refl tt tt refl) (λ x c r. r)
  atom_by_exact ts few (Some (t.Word w.False)) here =
      single_exact (t.Word w.False) e.False ts here (single_there (t.Word w.False) e.False Expr-F.False e.rolls-False refl tt tt refl) (λ x c r. r)
  atom_by_exact ts few (Some (t.Mark m.OpenRound)) here =
      opened_exact m.OpenRound Round (round expr) ts here (opened_there m.OpenRound Round round_there) (λ x c r. r)
      (let (y, c, q) = some_closes m.CloseRound (e.Tuple [] false) in (y, c, inl q))
      (λ left less. round_exact expr bound (inside level.Test) left (omega arith))
  atom_by_exact ts few (Some (t.Mark m.OpenSquare)) here =
      opened_exact m.OpenSquare Square (square expr) ts here (opened_there m.OpenSquare Square square_there) (λ x c r. r)
      (let (y, c, q) = some_closes m.CloseSquare (e.List [] false) in (y, c, inl q))
      (λ left less. square_exact expr bound (inside level.Test) (inside level.Primary) (inside level.Or) left (omega arith))
  atom_by_exact ts few (Some (t.Mark m.OpenCurly)) here =
      opened_exact m.OpenCurly Curly (curly expr) ts here (opened_there m.OpenCurly Curly curly_there) (λ x c r. r)
      (let (y, c, q) = some_closes m.CloseCurly (e.Dict [] false) in (y, c, inl q))
      (λ left less. curly_exact expr bound (inside level.Test) (inside level.Primary) (inside level.Or) left (omega arith))
  atom_by_exact ts few None here = atom_refused ts None here (λ x c s d split is r. cc)
  atom_by_exact ts few (Some k) here = atom_refused ts (Some k) here (λ x c s d split is r. let a : s.token ≡ k = cc in let b : ByFirst k x c = subst (λ v. ByFirst v x c) a r in b)

  pub atom_exact : (ts : Input) → length ts ≤ bound → Exact (IsExpr 12) Any ts (atom expr ts)
  unfolding atom
  atom_exact ts few = atom_by_exact ts few (next ts) refl
