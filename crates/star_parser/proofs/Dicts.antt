-- What follows `{` is read exactly.
use Rattle.std.proofs.Common.{◌≡◌, ◌∙◌, ℕ, zero, suc, ◌≤◌, ◌<◌, List, [], ◌∷◌, ◌++◌, refl, sym, ap, subst, arith, length}
use Rattle.star_syntax.specs.declared.token.Token.TheVariants as t
use Rattle.star_syntax.specs.declared.token.Mark.TheVariants as m
use Rattle.star_syntax.specs.declared.expression.Clause.{Clause}
use Rattle.star_syntax.specs.declared.expression.Pair.{Pair}
use Rattle.star_syntax.specs.declared.expression.Expr.{Expr}
use Rattle.star_syntax.specs.declared.expression.Expr.TheVariants as e
use Rattle.star_syntax.specs.Spelling.{expr_spelling}
use Rattle.star_syntax.specs.SpellingOfParts.{expr_pair_spelling}
use Rattle.star_syntax.specs.Levels.{IsLevelled}
use Rattle.star_syntax.proofs.Levelled.{EachPair}
use Rattle.star_parser.specs.declared.level.Level.{Level}
use Rattle.star_parser.specs.declared.level.Level.TheVariants as level
use Rattle.star_parser.specs.Reading.{Input, Reader, ◌>>=◌, pure, next, kinds}
use Rattle.star_parser.specs.Tables.{expect}
use Rattle.star_parser.specs.Readers.{pair, pairs_from, paired_after, dict_over, dict_by, curly}
use Rattle.star_parser.specs.Ends.{reach, Ends}
use Rattle.star_parser.proofs.Exact.{Exact, Then, Just, exact_then, exact_same}
use Rattle.star_parser.proofs.Steps.{Tok, some_token, exact_expected_then, exact_last, token_next}
use Rattle.star_parser.proofs.Rules.{kinds_split, kinds_cons, kinds_append, length_after}
use Rattle.star_parser.proofs.First.{last_there, last_back}
use Rattle.star_parser.proofs.Bracketed.{Any, Phrase, Starts, Items, AreItems, Listing, listing_exact, items_none, items_step, IsItem, item_begins, some_item, Tests, item_exact}
use Rattle.star_parser.proofs.Clauses.{Primaries, Operands}
use Rattle.star_parser.proofs.Displays.{closed_exact, DisplayTail, Display, display_tail_exact, display_exact}

-- ---- pairs

abbrev pub PairGood : Pair Expr → Type 0
PairGood pair = EachPair IsLevelled pair

-- the tokens spell a key, a colon and a value
abbrev pub IsPair : Pair Expr → Input → Type 0
IsPair = Phrase PairGood expr_pair_spelling

abbrev pair_of : Expr → Expr → Pair Expr
pair_of key value = record { key = key; value = value }

abbrev Valued : Expr → Pair Expr → Input → Type 0
Valued key = Then IsItem (λ value. Just (pair_of key value))

abbrev AfterKey : Expr → Pair Expr → Input → Type 0
AfterKey key = Then (Tok (t.Mark m.Colon)) (λ _. Valued key)

abbrev PairWhole : Pair Expr → Input → Type 0
PairWhole = Then IsItem AfterKey

pair_there : (x : Pair Expr) (c : Input) → PairWhole x c → IsPair x c
pair_there x c (key, c1, c2, r, (u, c3, c4, (s, is, one), last, split2), split) =
    let (value, r2, x_is) = last_there IsItem (λ value. pair_of key value) x c4 last in
    let whole : IsPair (pair_of key value) c = record {
      good = (r.good, r2.good);
      spelt = ap kinds split ∙ kinds_append c1 c2 ∙ ap (λ v. v ++ kinds c2) r.spelt
          ∙ ap (λ v. expr_spelling key ++ v) (ap kinds (split2 ∙ ap (λ v. v ++ c4) one) ∙ ap (λ v. v ∷ kinds c4) is ∙ ap (λ v. t.Mark m.Colon ∷ v) r2.spelt);
    } in
    subst (λ v. IsPair v c) (sym x_is) whole

pair_back : (x : Pair Expr) (c : Input) → IsPair x c → PairWhole x c
pair_back x c h =
    let good = h.good in
    let (c1, c2, split, is1, is2) = kinds_split c (expr_spelling x.key) (t.Mark m.Colon ∷ expr_spelling x.value) h.spelt in
    let (s, c3, split2, is3, is4) = kinds_cons c2 (t.Mark m.Colon) (expr_spelling x.value) is2 in (
      x.key,
      c1,
      c2,
      record { good = good.0; spelt = is1 },
      (
        tt,
        s ∷ [],
        c3,
        (s, is3, refl),
        last_back IsItem (λ value. pair_of x.key value) x c3 x.value (record { good = good.1; spelt = is4 }) refl,
        split2,
      ),
      split,
    )

pair_begins : (x : Pair Expr) (c : Input) → IsPair x c → Starts c
pair_begins x c h =
    let (key, c1, c2, r, later, split) = pair_back x c h in
    let (s, d, is, low) = item_begins key c1 r in
    (s, d ++ c2, split ∙ ap (λ v. v ++ c2) is, low)

some_valued : (key : Expr) → (x : Pair Expr) × (c : Input) × Valued key x c
some_valued key = let (value, c, r) = some_item in (pair_of key value, c, last_back IsItem (λ value. pair_of key value) (pair_of key value) c value r refl)

some_after_key : (key : Expr) → (x : Pair Expr) × (c : Input) × AfterKey key x c
some_after_key key = let (x, c, r) = some_valued key in let s = some_token (t.Mark m.Colon) in (x, s ∷ c, (tt, s ∷ [], c, (s, refl, refl), r, refl))

some_pair : (x : Pair Expr) × (c : Input) × IsPair x c
some_pair =
    let (key, c, r) = some_item in
    let (x, d, q) = some_after_key key in
    (x, c ++ d, pair_there x (c ++ d) (key, c, d, r, q, refl))

after_key_ends : (key : Expr) (x : Pair Expr) (c more : Input) → AfterKey key x c → Ends 0 (c ++ more)
unfolding Ends
after_key_ends key x c more rule = let a : reach (next (c ++ more)) ≡ 0 = ap reach (token_next (t.Mark m.Colon) (Valued key) x c more rule) in omega arith

-- ---- dicts

abbrev pub dict_of : Items (Pair Expr) → Expr
dict_of all = e.Dict all.0 all.1

abbrev pub dict_for : Pair Expr → List (Clause Expr) → Expr
dict_for first clauses = e.DictOver first.key first.value clauses

-- after `{`, a pair and what doesn't begin a clause
abbrev pub DictRest : Pair Expr → Expr → Input → Type 0
DictRest = Listing PairGood expr_pair_spelling m.CloseCurly dict_of

-- after `{` and a pair
abbrev pub DictTail : Pair Expr → Expr → Input → Type 0
DictTail = DisplayTail PairGood expr_pair_spelling m.CloseCurly dict_for dict_of

-- after `{`
abbrev pub Curly : Expr → Input → Type 0
Curly = Display PairGood expr_pair_spelling m.CloseCurly dict_for dict_of

module _ (expr : Level → Reader Expr) (bound : ℕ) (tests : Tests expr bound) where
  pair_exact : (ts : Input) → length ts < bound → Exact IsPair (Ends 0) ts (pair expr ts)
  unfolding pair
  pair_exact ts few = exact_same PairWhole IsPair (Ends 0) pair_there pair_back ts _
      (exact_then IsItem AfterKey (Ends 0) (Ends 0)
      (λ key x c1 c2 more _ rule _. after_key_ends key x c2 more rule)
      (λ key c r. some_after_key key)
      ts (expr level.Test ts) (λ key. expect m.Colon >>= λ _. expr level.Test >>= λ value. pure (pair_of key value)) (item_exact expr bound tests ts few)
      (λ key left taken split r. exact_expected_then (Valued key) (Ends 0) (some_valued key) left (expr level.Test >>= λ value. pure (pair_of key value))
      (λ left2 less. exact_last IsItem (Ends 0) (Ends 0) (λ more ends. ends) (λ value. pair_of key value) left2 (expr level.Test left2)
      (item_exact expr bound tests left2 (let a = length_after ts taken left split in omega arith))) m.Colon))

  pairs_exact : (n : ℕ) (found : List (Pair Expr)) (ts : Input) → length ts ≤ n → length ts < bound
      → Exact (AreItems PairGood expr_pair_spelling m.CloseCurly found) Any ts (pairs_from expr n found ts)
  unfolding pairs_from
  pairs_exact zero found [] few small = items_none PairGood expr_pair_spelling m.CloseCurly pair_begins some_pair refl refl found
  pairs_exact zero found (s ∷ ts) few small = absurd (omega arith)
  pairs_exact (suc n) found ts few small =
      items_step PairGood expr_pair_spelling m.CloseCurly pair_begins some_pair refl refl (λ is. cc) (pair expr) (pairs_from expr n) found ts (pair_exact ts small)
      (λ found' left less. pairs_exact n found' left (omega arith) (omega arith))

  paired_after_exact : (first : Pair Expr) (ts : Input) → length ts < bound → Exact (DictRest first) Any ts (paired_after expr first ts)
  unfolding paired_after
  paired_after_exact first ts few =
      listing_exact PairGood expr_pair_spelling m.CloseCurly pair_begins some_pair refl refl (λ is. cc) dict_of first (λ ts. pairs_from expr (length ts) (first ∷ []) ts) ts
      (λ left less. pairs_exact (length left) (first ∷ []) left (omega arith) (omega arith))

  module _ (primaries : Primaries expr bound) (operands : Operands expr bound) where
    dict_tail_exact : (first : Pair Expr) (ts : Input) → length ts < bound → Exact (DictTail first) Any ts (dict_by expr first (next ts) ts)
    unfolding dict_over
    dict_tail_exact first ts few =
        display_tail_exact PairGood expr_pair_spelling m.CloseCurly dict_for dict_of pair_begins some_pair refl refl first (dict_over expr first) (paired_after expr first) ts
        (closed_exact expr bound primaries operands m.CloseCurly refl (dict_for first) ts (omega arith))
        (paired_after_exact first ts few)

    pub curly_exact : (ts : Input) → length ts < bound → Exact Curly Any ts (curly expr ts)
    unfolding curly
    curly_exact ts few =
        display_exact PairGood expr_pair_spelling m.CloseCurly dict_for dict_of pair_begins some_pair refl refl (pair expr) (dict_by expr) ts (pair_exact ts few)
        (λ first left less. dict_tail_exact first left (omega arith))
