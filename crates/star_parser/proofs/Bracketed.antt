-- Items with commas between, up to a closing bracket, are read exactly; so is what follows an opening round bracket.
use Rattle.std.proofs.Common.{◌≡◌, ◌≢◌, ◌∙◌, ◌⊎◌, inl, inr, ℕ, zero, suc, ◌≤◌, ◌<◌, Bool, true, false, List, [], ◌∷◌, ◌++◌, map, Some, None, Ok, Err, refl, sym, ap, subst, arith, append_assoc, length}
use Rattle.std.proofs.lemmas.List.{append-nil}
use Rattle.std.specs.Prelude.{if◌then◌else◌}
use Rattle.std.specs.List.{AllByRecursion}
use Rattle.star_syntax.specs.declared.token.Token.{Token}
use Rattle.star_syntax.specs.declared.token.Token.TheVariants as t
use Rattle.star_syntax.specs.declared.token.Mark.{Mark}
use Rattle.star_syntax.specs.declared.token.Mark.TheVariants as m
use Rattle.star_syntax.specs.declared.token.Spanned.{Spanned}
use Rattle.star_syntax.specs.declared.expression.Expr.{Expr}
use Rattle.star_syntax.specs.declared.expression.Expr.TheVariants as e
use Rattle.star_syntax.specs.Spelling.{Tokens, expr_spelling, listed, if_written}
use Rattle.star_syntax.specs.Levels.{IsLevelled}
use Rattle.star_parser.specs.declared.level.Level.{Level}
use Rattle.star_parser.specs.declared.level.Level.TheVariants as level
use Rattle.star_parser.specs.Reading.{Input, Outcome, Reader, and_then, ◌>>=◌, ◌>>◌, pure, next, skip, kinds}
use Rattle.star_parser.specs.Tables.{is_mark, eat, expect}
use Rattle.star_parser.specs.Readers.{items_from, parenthesized, round}
use Rattle.star_parser.specs.Starts.{starts}
use Rattle.star_parser.specs.Ends.{reach, Ends, level_rank}
use Rattle.star_parser.proofs.Exact.{Exact, Then, Just, exact_refuse, exact_then, exact_by, exact_same, exact_pure}
use Rattle.star_parser.proofs.Steps.{Tok, some_token, exact_token_then, exact_expected_then, exact_last, exact_eat, token_next}
use Rattle.star_parser.proofs.Rules.{IsExpr, kinds_split, kinds_cons, kinds_none, kinds_append, length_after, some_is}
use Rattle.star_parser.proofs.First.{last_there, last_back, first_of}

-- anything may follow a closing bracket
abbrev pub Any : Input → Type 0
Any more = Unit {0}

abbrev pub comma : Token
comma = t.Mark m.Comma

-- a closing bracket, and then this tree
abbrev pub Closes : {T : Type 0} → Mark → T → T → Input → Type 0
Closes close x = Then (Tok (t.Mark close)) (λ _. Just x)

pub closes_there : {T : Type 0} (close : Mark) (x y : T) (c : Input) → Closes close x y c → (y ≡ x) × (kinds c ≡ t.Mark close ∷ [])
closes_there close x y c (u, c1, c2, (s, is, one), (y_is, none), split) =
    (y_is, ap kinds (split ∙ ap (λ v. v ++ c2) one ∙ ap (λ v. s ∷ v) none) ∙ ap (λ v. v ∷ []) is)

pub closes_back : {T : Type 0} (close : Mark) (x y : T) (c : Input) → y ≡ x → kinds c ≡ t.Mark close ∷ [] → Closes close x y c
closes_back close x y c is spelt =
    let (s, c', split, is1, none) = kinds_cons c (t.Mark close) [] spelt in
    (tt, s ∷ [], c', (s, is1, refl), (is, kinds_none c' none), split)

pub some_closes : {T : Type 0} (close : Mark) (x : T) → (y : T) × (c : Input) × Closes close x y c
some_closes close x = let s = some_token (t.Mark close) in (x, s ∷ [], closes_back close x x (s ∷ []) refl refl)

pub closes_exact : {T : Type 0} (close : Mark) (x : T) (ts : Input) → next ts ≡ Some (t.Mark close) → Exact (Closes close x) Any ts ((skip >> pure x) ts)
closes_exact close x ts here = exact_token_then (t.Mark close) (Just x) Any (x, [], (refl, refl)) ts (pure x) (λ left _. exact_pure x Any left) here

-- ---- phrases, and a first token of each

-- the tokens spell a good one
pub record Phrase {A : Type 0} (Good : A → Type 0) (spell : A → Tokens) (a : A) (c : Input) : Type 0 where
  pub good : Good a
  pub spelt : kinds c ≡ spell a

-- the tokens begin as an expression does
abbrev pub Starts : Input → Type 0
Starts c = (s : Spanned) × (d : Input) × (c ≡ s ∷ d) × (0 < starts s.token)

-- a token that begins no expression isn't the first of them
pub not_first : (k : Token) → starts k ≡ 0 → (c more : Input) → Starts c → next (c ++ more) ≢ Some k
not_first k none c more (s, d, is, low) e =
    let a : Some s.token ≡ Some k = ap (λ v. next (v ++ more)) (sym is) ∙ e in
    let b : s.token ≡ k = cc in
    let d : starts s.token ≡ 0 = ap starts b ∙ none in absurd (omega arith)

-- ---- items up to a closing bracket

abbrev pub Items : Type 0 → Type 0
Items A = List A × Bool

-- what was found, and after it items that the tokens spell, at least one, up to the bracket
pub record AreItems {A : Type 0} (Good : A → Type 0) (spell : A → Tokens) (close : Mark) (found : List A) (all : List A × Bool) (c : Input) : Type 0 where
  pub first : A
  pub others : List A
  pub whole : all.0 ≡ found ++ first ∷ others
  pub good : AllByRecursion Good (first ∷ others)
  pub spelt : kinds c ≡ listed (map spell (first ∷ others)) ++ (if_written all.1 m.Comma ++ t.Mark close ∷ [])

-- what is read after an item and a comma
abbrev pub comma_reader : {A : Type 0} → Mark → List A → Reader (List A × Bool) → Reader (List A × Bool)
comma_reader close found p = eat close >>= λ closed. if closed then pure (found, true) else p

-- what is read after an item
abbrev pub tail_reader : {A : Type 0} → Mark → List A → Reader (List A × Bool) → Reader (List A × Bool)
tail_reader close found p = eat close >>= λ ended. if ended then pure (found, false) else (expect m.Comma >>= λ _. comma_reader close found p)

-- ---- readers of a tree of items

choice_then : {A T : Type 0} (b : Bool) (p q : Reader A) (k : A → Reader T) (ts : Input)
    → and_then (and_then ((if b then skip >> pure true else pure false) ts) (λ found. if found then p else q)) k
    ≡ and_then ((if b then skip >> pure true else pure false) ts) (λ found. if found then p >>= k else q >>= k)
choice_then true p q k ts = refl
choice_then false p q k ts = refl

-- what is read after an item and a comma, up to the tree
abbrev pub made_comma_reader : {A T : Type 0} → Mark → (List A × Bool → T) → List A → Reader (List A × Bool) → Reader T
made_comma_reader close make found p = eat close >>= λ closed. if closed then pure (make (found, true)) else (p >>= λ all. pure (make all))

-- what is read after an item, up to the tree
abbrev pub made_tail_reader : {A T : Type 0} → Mark → (List A × Bool → T) → List A → Reader (List A × Bool) → Reader T
made_tail_reader close make found p =
    eat close >>= λ ended. if ended then pure (make (found, false)) else (expect m.Comma >>= λ _. made_comma_reader close make found p)

pub made_comma : {A T : Type 0} (close : Mark) (make : List A × Bool → T) (found : List A) (p : Reader (List A × Bool)) (ts : Input)
    → and_then (comma_reader close found p ts) (λ all. pure (make all)) ≡ made_comma_reader close make found p ts
made_comma {A} close make found p ts = choice_then {A = List A × Bool} (is_mark close (next ts)) (pure (found, true)) p (λ all. pure (make all)) ts

pub made_tail : {A T : Type 0} (close : Mark) (make : List A × Bool → T) (found : List A) (p : Reader (List A × Bool)) (ts : Input)
    → and_then (tail_reader close found p ts) (λ all. pure (make all)) ≡ made_tail_reader close make found p ts
made_tail {A} {T} close make found p ts = by_choice (is_mark close (next ts))
  where
    by_comma : (o : Outcome (Unit {0})) → and_then (and_then o (λ _. comma_reader close found p)) (λ all. pure (make all)) ≡ and_then o (λ _. made_comma_reader close make found p)
    by_comma (Ok (u, left)) = made_comma close make found p left
    by_comma (Err left) = refl

    by_choice : (b : Bool) → and_then (and_then ((if b then skip >> pure true else pure false) ts) (λ ended. if ended then pure (found, false) else (expect m.Comma >>= λ _. comma_reader close found p)))
        (λ all. pure (make all))
        ≡ and_then ((if b then skip >> pure true else pure false) ts) (λ ended. if ended then pure (make (found, false)) else (expect m.Comma >>= λ _. made_comma_reader close make found p))
    by_choice true = refl
    by_choice false = by_comma (expect m.Comma ts)

-- ---- the rules

module _ {A : Type 0} (Good : A → Type 0) (spell : A → Tokens) (close : Mark) where
  abbrev pub AfterComma : List A → Items A → Input → Type 0
  AfterComma found all c = Closes close (found, true) all c ⊎ AreItems Good spell close found all c

  abbrev pub ItemsTail : List A → Items A → Input → Type 0
  ItemsTail found all c = Closes close (found, false) all c ⊎ Then (Tok comma) (λ _. AfterComma found) all c

  abbrev pub ItemsWhole : List A → Items A → Input → Type 0
  ItemsWhole found = Then (Phrase Good spell) (λ item. ItemsTail (found ++ item ∷ []))

  pub items_there : (found : List A) (all : Items A) (c : Input) → ItemsWhole found all c → AreItems Good spell close found all c
  items_there found all c (x, c1, c2, r, inl closed, split) =
      let (is, spelt) = closes_there {T = Items A} close (found ++ x ∷ [], false) all c2 closed in
      record {
        first = x;
        others = [];
        whole = ap (λ v. v.0) is;
        good = (r.good, tt);
        spelt = ap kinds split ∙ kinds_append c1 c2 ∙ ap (λ v. v ++ kinds c2) (r.spelt ∙ sym (append-nil (spell x)))
            ∙ ap (λ v. (spell x ++ []) ++ v) (spelt ∙ ap (λ v. if_written v m.Comma ++ t.Mark close ∷ []) (sym (ap (λ v. v.1) is)));
      }
  items_there found all c (x, c1, c2, r, inr (u, c3, c4, (s, s_is, one), inl closed, split2), split) =
      let (is, spelt) = closes_there {T = Items A} close (found ++ x ∷ [], true) all c4 closed in
      let k : kinds c2 ≡ comma ∷ t.Mark close ∷ [] = ap kinds (split2 ∙ ap (λ v. v ++ c4) one) ∙ ap (λ v. v ∷ kinds c4) s_is ∙ ap (λ v. comma ∷ v) spelt in
      record {
        first = x;
        others = [];
        whole = ap (λ v. v.0) is;
        good = (r.good, tt);
        spelt = ap kinds split ∙ kinds_append c1 c2 ∙ ap (λ v. v ++ kinds c2) (r.spelt ∙ sym (append-nil (spell x)))
            ∙ ap (λ v. (spell x ++ []) ++ v) (k ∙ ap (λ v. if_written v m.Comma ++ t.Mark close ∷ []) (sym (ap (λ v. v.1) is)));
      }
  items_there found all c (x, c1, c2, r, inr (u, c3, c4, (s, s_is, one), inr more, split2), split) =
      let k : kinds c2 ≡ comma ∷ kinds c4 = ap kinds (split2 ∙ ap (λ v. v ++ c4) one) ∙ ap (λ v. v ∷ kinds c4) s_is in
      record {
        first = x;
        others = more.first ∷ more.others;
        whole = more.whole ∙ append_assoc found (x ∷ []) (more.first ∷ more.others);
        good = (r.good, more.good);
        spelt = ap kinds split ∙ kinds_append c1 c2 ∙ ap (λ v. v ++ kinds c2) r.spelt ∙ ap (λ v. spell x ++ v) (k ∙ ap (λ v. comma ∷ v) more.spelt)
            ∙ sym (append_assoc (spell x) (comma ∷ listed (map spell (more.first ∷ more.others))) (if_written all.1 m.Comma ++ t.Mark close ∷ []));
      }

  items_by : (found : List A) (all : Items A) (c : Input) (x : A) (others : List A) (written : Bool) → all ≡ (found ++ x ∷ others, written)
      → AllByRecursion Good (x ∷ others) → kinds c ≡ listed (map spell (x ∷ others)) ++ (if_written written m.Comma ++ t.Mark close ∷ []) → ItemsWhole found all c
  items_by found all c x [] false is good spelt =
      let (c1, c2, split, is1, is2) = kinds_split c (spell x) (t.Mark close ∷ []) (spelt ∙ ap (λ v. v ++ t.Mark close ∷ []) (append-nil (spell x))) in
      (x, c1, c2, record { good = good.0; spelt = is1 }, inl (closes_back {T = Items A} close (found ++ x ∷ [], false) all c2 is is2), split)
  items_by found all c x [] true is good spelt =
      let (c1, c2, split, is1, is2) = kinds_split c (spell x) (comma ∷ t.Mark close ∷ []) (spelt ∙ ap (λ v. v ++ comma ∷ t.Mark close ∷ []) (append-nil (spell x))) in
      let (s, c3, split2, is3, is4) = kinds_cons c2 comma (t.Mark close ∷ []) is2 in
      (x, c1, c2, record { good = good.0; spelt = is1 }, inr (tt, s ∷ [], c3, (s, is3, refl), inl (closes_back {T = Items A} close (found ++ x ∷ [], true) all c3 is is4), split2), split)
  items_by found all c x (y ∷ ys) written is good spelt =
      let (c1, c2, split, is1, is2) = kinds_split c (spell x) (comma ∷ (listed (map spell (y ∷ ys)) ++ (if_written written m.Comma ++ t.Mark close ∷ [])))
      (spelt ∙ append_assoc (spell x) (comma ∷ listed (map spell (y ∷ ys))) (if_written written m.Comma ++ t.Mark close ∷ [])) in
      let (s, c3, split2, is3, is4) = kinds_cons c2 comma (listed (map spell (y ∷ ys)) ++ (if_written written m.Comma ++ t.Mark close ∷ [])) is2 in (
        x,
        c1,
        c2,
        record { good = good.0; spelt = is1 },
        inr (
          tt,
          s ∷ [],
          c3,
          (s, is3, refl),
          inr (record {
            first = y;
            others = ys;
            whole = ap (λ v. v.0) is ∙ sym (append_assoc found (x ∷ []) (y ∷ ys));
            good = good.1;
            spelt = is4 ∙ ap (λ v. listed (map spell (y ∷ ys)) ++ (if_written v m.Comma ++ t.Mark close ∷ [])) (sym (ap (λ v. v.1) is));
          }),
          split2,
        ),
        split,
      )

  pub items_back : (found : List A) (all : Items A) (c : Input) → AreItems Good spell close found all c → ItemsWhole found all c
  items_back found all c h = items_by found all c h.first h.others all.1 (ap (λ v. let p : Items A = (v, all.1) in p) h.whole) h.good h.spelt

  -- ---- a tree of the items

  -- items after the first, and the tree of all
  abbrev pub Listing : {T : Type 0} → (Items A → T) → A → T → Input → Type 0
  Listing make first = Then (ItemsTail (first ∷ [])) (λ all. Just (make all))

  pub listing_there : {T : Type 0} (make : Items A → T) (x : T) (c : Input) → Then (Phrase Good spell) (Listing make) x c
      → (all : Items A) × AreItems Good spell close [] all c × (x ≡ make all)
  listing_there make x c (first, c1, c2, r, last, split) =
      let (all, tail, x_is) = last_there (ItemsTail (first ∷ [])) make x c2 last in
      (all, items_there [] all c (first, c1, c2, r, tail, split), x_is)

  pub listing_back : {T : Type 0} (make : Items A → T) (x : T) (c : Input) (all : Items A) → AreItems Good spell close [] all c → x ≡ make all
      → Then (Phrase Good spell) (Listing make) x c
  listing_back make x c all h x_is =
      let (first, c1, c2, r, tail, split) = items_back [] all c h in
      (first, c1, c2, r, last_back (ItemsTail (first ∷ [])) make x c2 all tail x_is, split)

  -- ---- their readers

  module _ (begins : (a : A) (c : Input) → Phrase Good spell a c → Starts c) (some : (a : A) × (c : Input) × Phrase Good spell a c)
      (unlike : starts (t.Mark close) ≡ 0) (quiet : reach (Some (t.Mark close)) ≡ 0) where
    pub phrase_first : {T : Type 0} (RT : A → T → Input → Type 0) (x : T) (c more : Input) → Then (Phrase Good spell) RT x c → next (c ++ more) ≢ Some (t.Mark close)
    phrase_first RT x c more (a, c1, c2, r, later, split) e =
        not_first (t.Mark close) unlike c1 (c2 ++ more) (begins a c1 r) (ap next (sym (append_assoc c1 c2 more) ∙ ap (λ v. v ++ more) (sym split)) ∙ e)

    items_first : (found : List A) (all : Items A) (c more : Input) → AreItems Good spell close found all c → next (c ++ more) ≢ Some (t.Mark close)
    items_first found all c more h = phrase_first (λ item. ItemsTail (found ++ item ∷ [])) all c more (items_back found all c h)

    some_tail : (found : List A) → (all : Items A) × (c : Input) × ItemsTail found all c
    some_tail found = let (y, c, q) = some_closes {T = Items A} close (found, false) in (y, c, inl q)

    some_after_comma : (found : List A) → (all : Items A) × (c : Input) × AfterComma found all c
    some_after_comma found = let (y, c, q) = some_closes {T = Items A} close (found, true) in (y, c, inl q)

    some_items : (found : List A) → (all : Items A) × (c : Input) × AreItems Good spell close found all c
    some_items found =
        let (x, c, r) = some in
        let (y, d, q) = some_tail (found ++ x ∷ []) in
        (y, c ++ d, items_there found y (c ++ d) (x, c, d, r, q, refl))

    pub tail_ends : (found : List A) (all : Items A) (c more : Input) → ItemsTail found all c → Ends 0 (c ++ more)
    unfolding Ends
    tail_ends found all c more (inl closed) =
        let a : reach (next (c ++ more)) ≡ 0 = ap reach (token_next (t.Mark close) (Just {T = Items A} (found, false)) all c more closed) ∙ quiet in omega arith
    tail_ends found all c more (inr later) = let a : reach (next (c ++ more)) ≡ 0 = ap reach (token_next comma (AfterComma found) all c more later) in omega arith

    pub after_comma_exact : (found : List A) (p : Reader (Items A)) (ts : Input) → Exact (AreItems Good spell close found) Any ts (p ts)
        → Exact (AfterComma found) Any ts (comma_reader close found p ts)
    after_comma_exact found p ts later =
        exact_eat (AfterComma found) Any (pure (found, true)) p ts close
        (λ here. exact_by (Closes {T = Items A} close (found, true)) (AfterComma found) Any ts (λ all c j. inl j)
        (λ all c more rule _ look. elim rule [ inl j ↦ j | inr items ↦ absurd (items_first found all c more items (look ∙ here)) ])
        _ (closes_exact {T = Items A} close (found, true) ts here))
        (λ other. exact_by (AreItems Good spell close found) (AfterComma found) Any ts (λ all c j. inr j)
        (λ all c more rule _ look. elim rule [ inl j ↦ absurd (other (sym look ∙ token_next (t.Mark close) (Just {T = Items A} (found, true)) all c more j)) | inr items ↦ items ])
        _ later)

    -- after an item
    pub tail_exact : close ≢ m.Comma → (found : List A) (p : Reader (Items A)) (ts : Input)
        → ((left : Input) → length left < length ts → Exact (AreItems Good spell close found) Any left (p left)) → Exact (ItemsTail found) Any ts (tail_reader close found p ts)
    tail_exact apart found p ts later =
        exact_eat (ItemsTail found) Any (pure (found, false)) (expect m.Comma >>= λ _. comma_reader close found p) ts close
        (λ here. exact_by (Closes {T = Items A} close (found, false)) (ItemsTail found) Any ts (λ all c j. inl j)
        (λ all c more rule _ look. elim rule [
          | inl j ↦ j
          | inr j ↦ absurd (let a : Some comma ≡ Some (t.Mark close) = sym (token_next comma (AfterComma found) all c more j) ∙ look ∙ here in apart cc)
        ])
        _ (closes_exact {T = Items A} close (found, false) ts here))
        (λ other. exact_by (Then (Tok comma) (λ _. AfterComma found)) (ItemsTail found) Any ts (λ all c j. inr j)
        (λ all c more rule _ look. elim rule [ inl j ↦ absurd (other (sym look ∙ token_next (t.Mark close) (Just {T = Items A} (found, false)) all c more j)) | inr j ↦ j ])
        _ (exact_expected_then (AfterComma found) Any (some_after_comma found) ts (comma_reader close found p)
        (λ left less. after_comma_exact found p left (later left less)) m.Comma))

    -- no item is left
    pub items_none : (found : List A) → Exact (AreItems Good spell close found) Any [] (Err [])
    items_none found = exact_refuse (AreItems Good spell close found) Any [] (some_items found)
        (λ all c more h _ look. let (x, c1, c2, r, tail, split) = items_back found all c h in
        let (s, c3, one, low) = begins x c1 r in
        absurd (let a : Some s.token ≡ None = ap (λ v. next ((v ++ c2) ++ more)) (sym one) ∙ ap (λ v. next (v ++ more)) (sym split) ∙ look in cc))

    -- an item, and what `more` reads after it
    pub items_step : close ≢ m.Comma → (p : Reader A) (more : List A → Reader (Items A)) (found : List A) (ts : Input) → Exact (Phrase Good spell) (Ends 0) ts (p ts)
        → ((found' : List A) (left : Input) → length left < length ts → Exact (AreItems Good spell close found') Any left (more found' left))
        → Exact (AreItems Good spell close found) Any ts (and_then (p ts) (λ item. tail_reader close (found ++ item ∷ []) (more (found ++ item ∷ []))))
    items_step apart p more found ts first goes_on =
        exact_same (ItemsWhole found) (AreItems Good spell close found) Any (items_there found) (items_back found) ts _
        (exact_then (Phrase Good spell) (λ item. ItemsTail (found ++ item ∷ [])) (Ends 0) Any
        (λ item all c1 c2 more' _ tail _. tail_ends (found ++ item ∷ []) all c2 more' tail)
        (λ item c r. some_tail (found ++ item ∷ []))
        ts (p ts) (λ item. tail_reader close (found ++ item ∷ []) (more (found ++ item ∷ []))) first
        (λ item left taken split r. tail_exact apart (found ++ item ∷ []) (more (found ++ item ∷ [])) left
        (λ left2 less. goes_on (found ++ item ∷ []) left2 (let a = length_after ts taken left split in omega arith))))

    -- ---- a tree of the items

    pub some_listing : {T : Type 0} (make : Items A → T) (first : A) → (x : T) × (c : Input) × Listing make first x c
    some_listing make first =
        let (all, c, q) = some_tail (first ∷ []) in
        (make all, c, last_back (ItemsTail (first ∷ [])) make (make all) c all q refl)

    pub listing_ends : {T : Type 0} (make : Items A → T) (first : A) (x : T) (c more : Input) → Listing make first x c → Ends 0 (c ++ more)
    listing_ends make first x c more (all, c1, c2, r, last, split) =
        subst (Ends 0) (sym (ap (λ v. v ++ more) split ∙ append_assoc c1 c2 more)) (tail_ends (first ∷ []) all c1 (c2 ++ more) r)

    -- a bracket or a comma comes next
    pub listing_next : {T : Type 0} (make : Items A → T) (first : A) (x : T) (c more : Input) → Listing make first x c → (mark : Mark) × (next (c ++ more) ≡ Some (t.Mark mark))
    listing_next make first x c more (all, c1, c2, inl closed, last, split) =
        (close, ap next (ap (λ v. v ++ more) split ∙ append_assoc c1 c2 more) ∙ token_next (t.Mark close) (Just {T = Items A} (first ∷ [], false)) all c1 (c2 ++ more) closed)
    listing_next make first x c more (all, c1, c2, inr later, last, split) =
        (m.Comma, ap next (ap (λ v. v ++ more) split ∙ append_assoc c1 c2 more) ∙ token_next comma (AfterComma (first ∷ [])) all c1 (c2 ++ more) later)

    pub listing_exact : {T : Type 0} → close ≢ m.Comma → (make : Items A → T) (first : A) (p : Reader (Items A)) (ts : Input)
        → ((left : Input) → length left < length ts → Exact (AreItems Good spell close (first ∷ [])) Any left (p left))
        → Exact (Listing make first) Any ts (made_tail_reader close make (first ∷ []) p ts)
    listing_exact apart make first p ts later =
        subst (λ o. Exact (Listing make first) Any ts o) (made_tail close make (first ∷ []) p ts)
        (exact_last (ItemsTail (first ∷ [])) Any Any (λ more ends. ends) make ts _ (tail_exact apart (first ∷ []) p ts later))

-- ---- expressions as items

abbrev pub IsItem : Expr → Input → Type 0
IsItem = Phrase IsLevelled expr_spelling

pub item_there : (x : Expr) (c : Input) → IsExpr 0 x c → IsItem x c
item_there x c r = record { good = r.levelled; spelt = r.spelt }

pub item_back : (x : Expr) (c : Input) → IsItem x c → IsExpr 0 x c
item_back x c r = record { levelled = r.good; high = omega arith; spelt = r.spelt }

pub item_begins : (x : Expr) (c : Input) → IsItem x c → Starts c
item_begins x c r = first_of 0 x c (item_back x c r)

pub some_item : (x : Expr) × (c : Input) × IsItem x c
some_item = let (x, c, r) = some_is 0 (omega arith) in (x, c, item_there x c r)

-- expressions of fewer tokens are read exactly, at each level
abbrev pub Inside : (Level → Reader Expr) → ℕ → Type 0
Inside expr bound = (l : Level) (ts : Input) → length ts < bound → Exact (IsExpr (level_rank l)) (Ends (level_rank l)) ts (expr l ts)

abbrev pub Tests : (Level → Reader Expr) → ℕ → Type 0
Tests expr bound = (ts : Input) → length ts < bound → Exact (IsExpr 0) (Ends 0) ts (expr level.Test ts)

abbrev pub AreExprs : Mark → List Expr → Items Expr → Input → Type 0
AreExprs close = AreItems IsLevelled expr_spelling close

-- ---- after `(`

abbrev tuple_of : Items Expr → Expr
tuple_of all = e.Tuple all.0 all.1

-- after `(`, an expression and a comma
abbrev pub Several : Expr → Expr → Input → Type 0
Several inner = Then (AfterComma IsLevelled expr_spelling m.CloseRound (inner ∷ [])) (λ all. Just (e.Tuple all.0 all.1))

-- after `(` and an expression
abbrev pub Inner : Expr → Expr → Input → Type 0
Inner inner x c = Closes m.CloseRound (e.Paren inner) x c ⊎ Then (Tok comma) (λ _. Several inner) x c

abbrev pub Round : Expr → Input → Type 0
Round x c = Closes m.CloseRound (e.Tuple [] false) x c ⊎ Then IsItem Inner x c

some_inner : (inner : Expr) → (x : Expr) × (c : Input) × Inner inner x c
some_inner inner = let (y, c, q) = some_closes m.CloseRound (e.Paren inner) in (y, c, inl q)

some_several : (inner : Expr) → (x : Expr) × (c : Input) × Several inner x c
some_several inner =
    let (y, c, q) = some_closes {T = Items Expr} m.CloseRound (inner ∷ [], true) in
    (e.Tuple y.0 y.1, c, last_back (AfterComma IsLevelled expr_spelling m.CloseRound (inner ∷ [])) (λ all. e.Tuple all.0 all.1) (e.Tuple y.0 y.1) c y (inl q) refl)

inner_ends : (inner x : Expr) (c more : Input) → Inner inner x c → Ends 0 (c ++ more)
unfolding Ends
inner_ends inner x c more (inl j) = let a : reach (next (c ++ more)) ≡ 0 = ap reach (token_next (t.Mark m.CloseRound) (Just (e.Paren inner)) x c more j) in omega arith
inner_ends inner x c more (inr j) = let a : reach (next (c ++ more)) ≡ 0 = ap reach (token_next comma (Several inner) x c more j) in omega arith

module _ (expr : Level → Reader Expr) (bound : ℕ) (tests : Tests expr bound) where
  pub item_exact : (ts : Input) → length ts < bound → Exact IsItem (Ends 0) ts (expr level.Test ts)
  item_exact ts few = exact_same (IsExpr 0) IsItem (Ends 0) item_there item_back ts (expr level.Test ts) (tests ts few)

  pub items_exact : (close : Mark) → starts (t.Mark close) ≡ 0 → reach (Some (t.Mark close)) ≡ 0 → close ≢ m.Comma
      → (n : ℕ) (found : List Expr) (ts : Input) → length ts ≤ n → length ts < bound → Exact (AreExprs close found) Any ts (items_from expr close n found ts)
  unfolding items_from
  items_exact close unlike quiet apart zero found [] few small = items_none IsLevelled expr_spelling close item_begins some_item unlike quiet found
  items_exact close unlike quiet apart zero found (s ∷ ts) few small = absurd (omega arith)
  items_exact close unlike quiet apart (suc n) found ts few small =
      items_step IsLevelled expr_spelling close item_begins some_item unlike quiet apart (expr level.Test) (items_from expr close n) found ts (item_exact ts small)
      (λ found' left less. items_exact close unlike quiet apart n found' left (omega arith) (omega arith))

  several_exact : (inner : Expr) (ts : Input) → length ts < bound → Exact (Several inner) Any ts
      (made_comma_reader m.CloseRound tuple_of (inner ∷ []) (λ ts. items_from expr m.CloseRound (length ts) (inner ∷ []) ts) ts)
  several_exact inner ts few =
      subst (λ o. Exact (Several inner) Any ts o) (made_comma m.CloseRound tuple_of (inner ∷ []) (λ ts. items_from expr m.CloseRound (length ts) (inner ∷ []) ts) ts)
      (exact_last (AfterComma IsLevelled expr_spelling m.CloseRound (inner ∷ [])) Any Any (λ more ends. ends) tuple_of ts _
      (after_comma_exact IsLevelled expr_spelling m.CloseRound item_begins some_item refl refl (inner ∷ []) (λ ts. items_from expr m.CloseRound (length ts) (inner ∷ []) ts) ts
      (items_exact m.CloseRound refl refl (λ is. cc) (length ts) (inner ∷ []) ts (omega arith) few)))

  inner_exact : (inner : Expr) (ts : Input) → length ts < bound → Exact (Inner inner) Any ts (parenthesized expr inner ts)
  unfolding parenthesized
  inner_exact inner ts few =
      exact_eat (Inner inner) Any (pure (e.Paren inner))
      (expect m.Comma >>= λ _. made_comma_reader m.CloseRound tuple_of (inner ∷ []) (λ ts. items_from expr m.CloseRound (length ts) (inner ∷ []) ts)) ts m.CloseRound
      (λ here. exact_by (Closes m.CloseRound (e.Paren inner)) (Inner inner) Any ts (λ x c j. inl j)
      (λ x c more rule _ look. elim rule [
        | inl j ↦ j
        | inr j ↦ absurd (let a : Some comma ≡ Some (t.Mark m.CloseRound) = sym (token_next comma (Several inner) x c more j) ∙ look ∙ here in cc)
      ])
      _ (closes_exact m.CloseRound (e.Paren inner) ts here))
      (λ other. exact_by (Then (Tok comma) (λ _. Several inner)) (Inner inner) Any ts (λ x c j. inr j)
      (λ x c more rule _ look. elim rule [ inl j ↦ absurd (other (sym look ∙ token_next (t.Mark m.CloseRound) (Just (e.Paren inner)) x c more j)) | inr j ↦ j ])
      _ (exact_expected_then (Several inner) Any (some_several inner) ts
      (made_comma_reader m.CloseRound tuple_of (inner ∷ []) (λ ts. items_from expr m.CloseRound (length ts) (inner ∷ []) ts))
      (λ left less. several_exact inner left (omega arith)) m.Comma))

  pub round_exact : (ts : Input) → length ts < bound → Exact Round Any ts (round expr ts)
  unfolding round
  round_exact ts few =
      exact_eat Round Any (pure (e.Tuple [] false)) (expr level.Test >>= parenthesized expr) ts m.CloseRound
      (λ here. exact_by (Closes m.CloseRound (e.Tuple [] false)) Round Any ts (λ x c j. inl j)
      (λ x c more rule _ look. elim rule [
        | inl j ↦ j
        | inr j ↦ absurd (phrase_first IsLevelled expr_spelling m.CloseRound item_begins some_item refl refl Inner x c more j (look ∙ here))
      ])
      _ (closes_exact m.CloseRound (e.Tuple [] false) ts here))
      (λ other. exact_by (Then IsItem Inner) Round Any ts (λ x c j. inr j)
      (λ x c more rule _ look. elim rule [ inl j ↦ absurd (other (sym look ∙ token_next (t.Mark m.CloseRound) (Just (e.Tuple [] false)) x c more j)) | inr j ↦ j ])
      _ (exact_then IsItem Inner (Ends 0) Any (λ inner x c1 c2 more _ rule _. inner_ends inner x c2 more rule)
      (λ inner c r. some_inner inner) ts (expr level.Test ts) (parenthesized expr) (item_exact ts few)
      (λ inner left taken split r. inner_exact inner left (let a = length_after ts taken left split in omega arith))))
