-- What follows the opening bracket of a list or a dict: items with commas between, or one of them and clauses.
use Rattle.std.proofs.Common.{◌≡◌, ◌∙◌, ◌⊎◌, inl, inr, ℕ, ◌≤◌, Bool, true, false, List, [], ◌∷◌, ◌++◌, map, Option, Some, refl, sym, ap, subst, arith, append_assoc, length}
use Rattle.std.specs.Prelude.{if◌then◌else◌}
use Rattle.std.specs.List.{flat_map, AllByRecursion}
use Rattle.star_syntax.specs.declared.token.Token.{Token}
use Rattle.star_syntax.specs.declared.token.Token.TheVariants as t
use Rattle.star_syntax.specs.declared.token.Keyword.TheVariants as w
use Rattle.star_syntax.specs.declared.token.Mark.{Mark}
use Rattle.star_syntax.specs.declared.token.Mark.TheVariants as m
use Rattle.star_syntax.specs.declared.expression.Clause.{Clause}
use Rattle.star_syntax.specs.declared.expression.Expr.{Expr}
use Rattle.star_syntax.specs.Spelling.{Tokens, listed, if_written}
use Rattle.star_syntax.specs.SpellingOfParts.{expr_clause_spelling}
use Rattle.star_syntax.specs.Levels.{StartsWithFor, CommaFits}
use Rattle.star_parser.specs.declared.level.Level.{Level}
use Rattle.star_parser.specs.Reading.{Input, Reader, and_then, ◌>>=◌, pure, next, peek, kinds}
use Rattle.star_parser.specs.Tables.{is_word, eat, expect}
use Rattle.star_parser.specs.Readers.{clauses_from}
use Rattle.star_parser.specs.Starts.{starts}
use Rattle.star_parser.specs.Ends.{reach, Ends}
use Rattle.star_parser.proofs.Exact.{Exact, Then, Just, exact_then, exact_by, exact_pure}
use Rattle.star_parser.proofs.Steps.{exact_expected_then, exact_eat, token_next, word_is, is_word_itself}
use Rattle.star_parser.proofs.Rules.{kinds_split, kinds_append, length_after}
use Rattle.star_parser.proofs.Bracketed.{Any, Closes, closes_there, closes_back, some_closes, closes_exact, Phrase, Starts, Items, Listing, listing_there, listing_back, phrase_first, some_listing, listing_ends, listing_next}
use Rattle.star_parser.proofs.Clauses.{EndsClauses, ClauseGood, ForClauses, Primaries, Operands, for_clauses_first, for_clauses_exact}

-- ---- clauses, and then the closing bracket

-- the clauses of a comprehension and the bracket after them
abbrev pub Closed : Mark → (List (Clause Expr) → Expr) → Expr → Input → Type 0
Closed close make = Then ForClauses (λ clauses. Closes close (make clauses))

closed_first : (close : Mark) (make : List (Clause Expr) → Expr) (x : Expr) (c more : Input) → Closed close make x c → next (c ++ more) ≡ Some (t.Word w.For)
closed_first close make x c more (clauses, c1, c2, r, later, split) =
    ap next (ap (λ v. v ++ more) split ∙ append_assoc c1 c2 more) ∙ for_clauses_first clauses c1 (c2 ++ more) r

closes_end : (close : Mark) → reach (Some (t.Mark close)) ≡ 0 → (x y : Expr) (c more : Input) → Closes close x y c → EndsClauses (c ++ more)
unfolding Ends
closes_end close quiet x y c more rule =
    let a = token_next (t.Mark close) (Just x) y c more rule in
    record {
      level = (let b : reach (next (c ++ more)) ≡ 0 = ap reach a ∙ quiet in omega arith);
      no_for = λ is. (let b : Some (t.Mark close) ≡ Some (t.Word w.For) = sym a ∙ is in cc);
    }

module _ (expr : Level → Reader Expr) (bound : ℕ) (primaries : Primaries expr bound) (operands : Operands expr bound) where
  pub closed_exact : (close : Mark) → reach (Some (t.Mark close)) ≡ 0 → (make : List (Clause Expr) → Expr) (ts : Input) → length ts ≤ bound → next ts ≡ Some (t.Word w.For)
      → Exact (Closed close make) Any ts (and_then (clauses_from expr (length ts) [] ts) (λ clauses. expect close >>= λ _. pure (make clauses)))
  closed_exact close quiet make ts few here =
      exact_then ForClauses (λ clauses. Closes close (make clauses)) EndsClauses Any
      (λ clauses x c1 c2 more _ rule _. closes_end close quiet (make clauses) x c2 more rule)
      (λ clauses c r. some_closes close (make clauses))
      ts (clauses_from expr (length ts) [] ts) (λ clauses. expect close >>= λ _. pure (make clauses)) (for_clauses_exact expr bound primaries operands ts few here)
      (λ clauses left taken split r. exact_expected_then (Just (make clauses)) Any (make clauses, [], (refl, refl)) left (pure (make clauses))
      (λ left2 _. exact_pure (make clauses) Any left2) close)

-- ---- lists and dicts

-- after the opening bracket: items, perhaps none, and the closing one
pub record Listed {A : Type 0} (Good : A → Type 0) (spell : A → Tokens) (close : Mark) (make : Items A → Expr) (x : Expr) (c : Input) : Type 0 where
  pub items : List A
  pub written : Bool
  pub tree : x ≡ make (items, written)
  pub fits : CommaFits items written
  pub good : AllByRecursion Good items
  pub spelt : kinds c ≡ listed (map spell items) ++ (if_written written m.Comma ++ t.Mark close ∷ [])

-- after the opening bracket: an item, clauses and the closing one
pub record Comprehended {A : Type 0} (Good : A → Type 0) (spell : A → Tokens) (close : Mark) (over : A → List (Clause Expr) → Expr) (x : Expr) (c : Input) : Type 0 where
  pub item : A
  pub clauses : List (Clause Expr)
  pub tree : x ≡ over item clauses
  pub starts_it : StartsWithFor clauses
  pub item_good : Good item
  pub good : AllByRecursion ClauseGood clauses
  pub spelt : kinds c ≡ spell item ++ (flat_map expr_clause_spelling clauses ++ t.Mark close ∷ [])

module _ {A : Type 0} (Good : A → Type 0) (spell : A → Tokens) (close : Mark) (over : A → List (Clause Expr) → Expr) (make : Items A → Expr) where
  -- after the opening bracket and an item
  abbrev pub DisplayTail : A → Expr → Input → Type 0
  DisplayTail first x c = Closed close (over first) x c ⊎ Listing Good spell close make first x c

  -- after the opening bracket
  abbrev pub Display : Expr → Input → Type 0
  Display x c = Closes close (make ([], false)) x c ⊎ Then (Phrase Good spell) DisplayTail x c

  pub display_there : (x : Expr) (c : Input) → Display x c → Listed Good spell close make x c ⊎ Comprehended Good spell close over x c
  display_there x c (inl closed) =
      let (x_is, spelt) = closes_there close (make ([], false)) x c closed in
      inl (record { items = []; written = false; tree = x_is; fits = refl; good = tt; spelt = spelt })
  display_there x c (inr (first, c1, c2, r, inr rule, split)) =
      let (all, h, x_is) = listing_there Good spell close make x c (first, c1, c2, r, rule, split) in
      inl (record {
        items = h.first ∷ h.others;
        written = all.1;
        tree = x_is ∙ ap (λ v. make (v, all.1)) h.whole;
        fits = tt;
        good = h.good;
        spelt = h.spelt;
      })
  display_there x c (inr (first, c1, c2, r, inl (clauses, c3, c4, (h, starts_it), closed, split2), split)) =
      let (x_is, spelt) = closes_there close (over first clauses) x c4 closed in
      inr (record {
        item = first;
        clauses = clauses;
        tree = x_is;
        starts_it = starts_it;
        item_good = r.good;
        good = subst (AllByRecursion ClauseGood) (sym h.whole) h.good;
        spelt = ap kinds split ∙ kinds_append c1 c2 ∙ ap (λ v. v ++ kinds c2) r.spelt
            ∙ ap (λ v. spell first ++ v) (ap kinds split2 ∙ kinds_append c3 c4 ∙ ap (λ v. v ++ kinds c4) (h.spelt ∙ ap (flat_map expr_clause_spelling) (sym h.whole))
            ∙ ap (λ v. flat_map expr_clause_spelling clauses ++ v) spelt);
      })

  listed_back : (x : Expr) (c : Input) (items : List A) (written : Bool) → x ≡ make (items, written) → CommaFits items written → AllByRecursion Good items
      → kinds c ≡ listed (map spell items) ++ (if_written written m.Comma ++ t.Mark close ∷ []) → Display x c
  listed_back x c [] true x_is fits good spelt = absurd cc
  listed_back x c [] false x_is fits good spelt = inl (closes_back close (make ([], false)) x c x_is spelt)
  listed_back x c (y ∷ ys) written x_is fits good spelt =
      let (first, c1, c2, r, rule, split) = listing_back Good spell close make x c (y ∷ ys, written)
      (record { first = y; others = ys; whole = refl; good = good; spelt = spelt }) x_is in
      inr (first, c1, c2, r, inr rule, split)

  pub display_back : (x : Expr) (c : Input) → Listed Good spell close make x c ⊎ Comprehended Good spell close over x c → Display x c
  display_back x c (inl h) = listed_back x c h.items h.written h.tree h.fits h.good h.spelt
  display_back x c (inr h) =
      let (c1, c2, split, is1, is2) = kinds_split c (spell h.item) (flat_map expr_clause_spelling h.clauses ++ t.Mark close ∷ []) h.spelt in
      let (c3, c4, split2, is3, is4) = kinds_split c2 (flat_map expr_clause_spelling h.clauses) (t.Mark close ∷ []) is2 in
      inr (
        h.item,
        c1,
        c2,
        record { good = h.item_good; spelt = is1 },
        inl (
          h.clauses,
          c3,
          c4,
          (record { clauses = h.clauses; whole = refl; good = h.good; spelt = is3 }, h.starts_it),
          closes_back close (over h.item h.clauses) x c4 h.tree is4,
          split2,
        ),
        split,
      )

  -- ---- their readers

  module _ (begins : (a : A) (c : Input) → Phrase Good spell a c → Starts c) (some : (a : A) × (c : Input) × Phrase Good spell a c)
      (unlike : starts (t.Mark close) ≡ 0) (quiet : reach (Some (t.Mark close)) ≡ 0) where
    display_tail_ends : (first : A) (x : Expr) (c more : Input) → DisplayTail first x c → Ends 0 (c ++ more)
    unfolding Ends
    display_tail_ends first x c more (inl closed) = let a : reach (next (c ++ more)) ≡ 0 = ap reach (closed_first close (over first) x c more closed) in omega arith
    display_tail_ends first x c more (inr rule) = listing_ends Good spell close begins some unlike quiet make first x c more rule

    display_tail_by : (first : A) (p q : Reader Expr) (ts : Input) → (next ts ≡ Some (t.Word w.For) → Exact (Closed close (over first)) Any ts (p ts))
        → Exact (Listing Good spell close make first) Any ts (q ts) → (b : Bool) → is_word w.For (next ts) ≡ b → Exact (DisplayTail first) Any ts ((if b then p else q) ts)
    display_tail_by first p q ts if_for otherwise true is =
        let here = word_is w.For (next ts) is in
        exact_by (Closed close (over first)) (DisplayTail first) Any ts (λ x c j. inl j)
        (λ x c more rule _ look. elim rule [
          | inl j ↦ j
          | inr j ↦ absurd (let (mark, a) = listing_next Good spell close begins some unlike quiet make first x c more j in
              let b : Some (t.Mark mark) ≡ Some (t.Word w.For) = sym a ∙ look ∙ here in cc)
        ])
        _ (if_for here)
    display_tail_by first p q ts if_for otherwise false is =
        exact_by (Listing Good spell close make first) (DisplayTail first) Any ts (λ x c j. inr j)
        (λ x c more rule _ look. elim rule [
          | inl j ↦ absurd (let a : next ts ≡ Some (t.Word w.For) = sym look ∙ closed_first close (over first) x c more j in
              let b : true ≡ false = sym (is_word_itself w.For) ∙ sym (ap (is_word w.For) a) ∙ is in cc)
          | inr j ↦ j
        ])
        _ otherwise

    -- after the first item
    pub display_tail_exact : (first : A) (p q : Reader Expr) (ts : Input) → (next ts ≡ Some (t.Word w.For) → Exact (Closed close (over first)) Any ts (p ts))
        → Exact (Listing Good spell close make first) Any ts (q ts) → Exact (DisplayTail first) Any ts ((if is_word w.For (next ts) then p else q) ts)
    display_tail_exact first p q ts if_for otherwise = display_tail_by first p q ts if_for otherwise (is_word w.For (next ts)) refl

    pub display_exact : (p : Reader A) (q : A → Option Token → Reader Expr) (ts : Input) → Exact (Phrase Good spell) (Ends 0) ts (p ts)
        → ((first : A) (left : Input) → length left ≤ length ts → Exact (DisplayTail first) Any left (q first (next left) left))
        → Exact Display Any ts (and_then (eat close ts) (λ closed. if closed then pure (make ([], false)) else (p >>= λ first. peek >>= λ token. q first token)))
    display_exact p q ts first later =
        exact_eat Display Any (pure (make ([], false))) (p >>= λ first. peek >>= λ token. q first token) ts close
        (λ here. exact_by (Closes close (make ([], false))) Display Any ts (λ x c j. inl j)
        (λ x c more rule _ look. elim rule [
          | inl j ↦ j
          | inr j ↦ absurd (phrase_first Good spell close begins some unlike quiet DisplayTail x c more j (look ∙ here))
        ])
        _ (closes_exact close (make ([], false)) ts here))
        (λ other. exact_by (Then (Phrase Good spell) DisplayTail) Display Any ts (λ x c j. inr j)
        (λ x c more rule _ look. elim rule [ inl j ↦ absurd (other (sym look ∙ token_next (t.Mark close) (Just (make ([], false))) x c more j)) | inr j ↦ j ])
        _ (exact_then (Phrase Good spell) DisplayTail (Ends 0) Any (λ first x c1 c2 more _ rule _. display_tail_ends first x c2 more rule)
        (λ first c r. let (x, d, q) = some_listing Good spell close begins some unlike quiet make first in (x, d, inr q))
        ts (p ts) (λ first. peek >>= λ token. q first token) first
        (λ first left taken split r. later first left (length_after ts taken left split))))
