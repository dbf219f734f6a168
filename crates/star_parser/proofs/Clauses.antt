-- Targets, and the clauses of a comprehension, are read exactly.
use Rattle.std.proofs.Common.{◌≡◌, ◌≢◌, ◌∙◌, ◌⊎◌, inl, inr, ℕ, zero, suc, ◌≤◌, ◌<◌, Bool, true, false, List, [], ◌∷◌, ◌++◌, Some, None, Ok, Err, refl, sym, ap, subst, arith, append_assoc, length}
use Rattle.std.proofs.lemmas.List.{append-nil}
use Rattle.std.specs.Prelude.{if◌then◌else◌}
use Rattle.std.specs.List.{flat_map, AllByRecursion}
use Rattle.star_syntax.specs.declared.token.Token.{Token}
use Rattle.star_syntax.specs.declared.token.Token.TheVariants as t
use Rattle.star_syntax.specs.declared.token.Keyword.{Keyword}
use Rattle.star_syntax.specs.declared.token.Keyword.TheVariants as w
use Rattle.star_syntax.specs.declared.token.Mark.TheVariants as m
use Rattle.star_syntax.specs.declared.token.Spanned.{Spanned}
use Rattle.star_syntax.specs.declared.expression.ChainLevel.TheVariants as chain
use Rattle.star_syntax.specs.declared.expression.Clause.{Clause}
use Rattle.star_syntax.specs.declared.expression.Clause.TheVariants.{For, If}
use Rattle.star_syntax.specs.declared.expression.Suffix.{Suffix}
use Rattle.star_syntax.specs.declared.expression.Suffix.TheVariants.{Index, Slice, Call, Method}
use Rattle.star_syntax.specs.declared.expression.Expr.{Expr, out-Expr, roll-Expr, map-Expr, fold-roll-Expr, roll-out-Expr}
use Rattle.star_syntax.specs.declared.expression.Expr.TheOpen.{Expr-F}
use Rattle.star_syntax.specs.declared.expression.Expr.TheVariants as e
use Rattle.star_syntax.specs.Spelling.{Tokens, expr_spelling, tests_spelling}
use Rattle.star_syntax.specs.SpellingOfParts.{parts_spelling, expr_suffix_spelling, expr_clause_spelling}
use Rattle.star_syntax.specs.Levels.{IsLevelled, Fits, SuffixFits, rank, layer_rank, is_target, layer_is_target, ends_in_index, AreTargets, AllLevelled, ClauseFits, StartsWithFor}
use Rattle.star_syntax.proofs.Levelled.{Each, EachSuffix, EachClause, rank_parts}
use Rattle.star_parser.specs.declared.level.Level.{Level}
use Rattle.star_parser.specs.declared.level.Level.TheVariants as level
use Rattle.star_parser.specs.Reading.{Input, Outcome, Reader, and_then, ◌>>=◌, ◌>>◌, pure, refuse, next, skip, kinds}
use Rattle.star_parser.specs.Tables.{eat, eat_word, expect_word}
use Rattle.star_parser.specs.Readers.{targets_from, for_clause, clauses_from}
use Rattle.star_parser.specs.Ends.{reach, Ends}
use Rattle.star_parser.proofs.Exact.{Exact, Reads, Then, Just, exact_refuse, exact_then, exact_by, exact_same, exact_pure}
use Rattle.star_parser.proofs.Steps.{Tok, some_token, exact_token_then, exact_expect_word, exact_last, exact_eat, exact_eat_word, token_next}
use Rattle.star_parser.proofs.Rules.{IsExpr, kinds_split, kinds_cons, kinds_none, kinds_append, length_after, length_less, some_is}
use Rattle.star_parser.proofs.First.{node_or_higher, made_is, last_there, last_back, first_of}

-- ---- a reader, and a test of what it read

-- what the rule says, and the test holds
pub record Tested {A : Type 0} (R : A → Input → Type 0) (good : A → Bool) (a : A) (c : Input) : Type 0 where
  pub rule : R a c
  pub holds : good a ≡ true

-- a reader that refuses where the test fails: each that the rule reads goes on to one that passes
module _ {A : Type 0} (R : A → Input → Type 0) (E : Input → Type 0) (good : A → Bool)
    (extend : (a : A) (c : Input) → R a c → (b : A) × (d : Input) × R b (c ++ d) × (good b ≡ true)) where
  tested_by : (ts : Input) (a : A) (left : Input) → Reads R E ts a left → (passed : Bool) → good a ≡ passed
      → Exact (Tested R good) E ts ((if passed then pure a else refuse) left)
  unfolding Exact
  tested_by ts a left r true h = record {
    taken = r.taken;
    whole = r.whole;
    spelt = record { rule = r.spelt; holds = h };
    only = λ a' c more w q ends same look. r.only a' c more w q.rule ends same look;
  }
  tested_by ts a left r false h = record {
    taken = r.taken;
    whole = r.whole;
    viable = let (b, d, q, holds) = extend a r.taken r.spelt in (b, r.taken ++ d, d, record { rule = q; holds = holds }, refl);
    dead = λ a' c more w q ends same look.
        let o = r.only a' c more w q.rule ends same look in
        let both : true ≡ false = sym q.holds ∙ ap good o.0 ∙ h in cc;
  }

  pub exact_tested : (ts : Input) (o : Outcome A) → Exact R E ts o → Exact (Tested R good) E ts (and_then o (λ a. if good a then pure a else refuse))
  unfolding Exact
  exact_tested ts (Ok (a, left)) r = tested_by ts a left r (good a) refl
  exact_tested ts (Err left) r = record {
    taken = r.taken;
    whole = r.whole;
    viable = let (a, c, more, q, e) = r.viable in
        let (b, d, q', holds) = extend a c q in
        (b, c ++ d, more ++ d, record { rule = q'; holds = holds }, ap (λ v. v ++ d) e ∙ append_assoc r.taken more d);
    dead = λ a c more w q ends same look. r.dead a c more w q.rule ends same look;
  }

-- what is read after the test, with the test and apart from it
tested_then : {A T : Type 0} (good : A → Bool) (p : A → Reader T) (o : Outcome A)
    → and_then (and_then o (λ a. if good a then pure a else refuse)) p ≡ and_then o (λ a. if good a then p a else refuse)
tested_then good p (Ok (a, left)) = passing (good a)
  where
    passing : (passed : Bool) → and_then ((if passed then pure a else refuse) left) p ≡ (if passed then p a else refuse) left
    passing true = refl
    passing false = refl
tested_then good p (Err left) = refl

-- ---- targets

-- the tokens spell a target
abbrev pub IsTarget : Expr → Input → Type 0
IsTarget = Tested (IsExpr 11) is_target

target_at : (d : Expr-F Expr) → is_target (roll-Expr d) ≡ layer_is_target (map-Expr Expr Bool is_target d)
unfolding is_target
target_at d = fold-roll-Expr Bool layer_is_target d

high_by_layer : (d : Expr-F Expr) → layer_is_target (map-Expr Expr Bool is_target d) ≡ true → 11 ≤ layer_rank d
high_by_layer (Expr-F.Name _) h = omega arith
high_by_layer (Expr-F.Paren _) h = omega arith
high_by_layer (Expr-F.Tuple _ _) h = omega arith
high_by_layer (Expr-F.List _ _) h = omega arith
high_by_layer (Expr-F.Primary _ _) h = omega arith
high_by_layer _ h = absurd cc

-- a target is a primary
pub target_high : (x : Expr) → is_target x ≡ true → 11 ≤ rank x
target_high x h =
    let a : is_target (roll-Expr (out-Expr x)) ≡ true = ap is_target (roll-out-Expr x) ∙ h in
    let b = high_by_layer (out-Expr x) (sym (target_at (out-Expr x)) ∙ a) in
    let c = rank_parts x in omega arith

suffixes_in : {X : Type 0} → Expr-F X → List (Suffix X)
suffixes_in (Expr-F.Primary head xs) = xs
suffixes_in _ = []

skip_one : {X : Type 0} (x y : Suffix X) (more : List (Suffix X)) → ends_in_index (x ∷ y ∷ more) ≡ ends_in_index (y ∷ more)
skip_one (Index at) y more = refl
skip_one (Slice start stop step) y more = refl
skip_one (Call given) y more = refl
skip_one (Method name given) y more = refl

last_index : {X : Type 0} (xs : List (Suffix X)) (at : X) → ends_in_index (xs ++ Index at ∷ []) ≡ true
last_index [] at = refl
last_index (x ∷ []) at = skip_one x (Index at) []
last_index (x ∷ y ∷ ys) at = skip_one x y (ys ++ Index at ∷ []) ∙ last_index (y ∷ ys) at

tested_suffixes : Expr → List (Suffix Expr) → List (Suffix Bool)
tested_suffixes head xs = suffixes_in (map-Expr Expr Bool is_target (Expr-F.Primary head xs))

index_again : (head : Expr) (xs : List (Suffix Expr)) (at : Expr) → tested_suffixes head (xs ++ Index at ∷ []) ≡ tested_suffixes head xs ++ Index (is_target at) ∷ []
unfolding tested_suffixes suffixes_in
index_again head [] at = refl
index_again head (x ∷ xs) at = ap (λ l. tested_suffixes head (x ∷ []) ++ l) (index_again head xs at)

index_is_target : (head : Expr) (xs : List (Suffix Expr)) (at : Expr) → is_target (e.Primary head (xs ++ Index at ∷ [])) ≡ true
unfolding tested_suffixes suffixes_in
index_is_target head xs at =
    ap is_target (sym (e.rolls-Primary head (xs ++ Index at ∷ []))) ∙ target_at (Expr-F.Primary head (xs ++ Index at ∷ []))
    ∙ ap ends_in_index (index_again head xs at) ∙ last_index (tested_suffixes head xs) (is_target at)

all_more : {A : Type 0} (P : A → Type 0) (xs : List A) (y : A) → AllByRecursion P xs → P y → AllByRecursion P (xs ++ y ∷ [])
all_more P [] y each last = (last, tt)
all_more P (x ∷ xs) y each last = (each.0, all_more P xs y each.1 last)

flat_more : {A B : Type 0} (f : A → List B) (xs : List A) (y : A) → flat_map f (xs ++ y ∷ []) ≡ flat_map f xs ++ f y
flat_more f [] y = append-nil (f y)
flat_more f (x ∷ xs) y = ap (λ v. f x ++ v) (flat_more f xs y) ∙ sym (append_assoc (f x) (flat_map f xs) (f y))

some_last : {A : Type 0} (xs : List A) (y : A) → xs ++ y ∷ [] ≢ []
some_last [] y none = cc
some_last (x ∷ xs) y none = cc

-- a primary, and an index after it
indexed : (at : Expr) → IsLevelled at → (tail : Input) → kinds tail ≡ expr_suffix_spelling (Index at) → (c : Input) (d : Expr-F Expr) → layer_rank d ≡ 11 → Fits d → Each IsLevelled d
    → kinds c ≡ parts_spelling d → (y : Expr) × IsExpr 11 y (c ++ tail) × (is_target y ≡ true)
indexed at good tail is c (Expr-F.Primary head xs) level fits each spelt = (
  e.Primary head (xs ++ Index at ∷ []),
  made_is 11 (Expr-F.Primary head (xs ++ Index at ∷ [])) _ (c ++ tail) (e.rolls-Primary head (xs ++ Index at ∷ [])) (omega arith)
      (fits.0, some_last xs (Index at), all_more SuffixFits xs (Index at) fits.2 tt)
      (each.0, all_more (EachSuffix IsLevelled) xs (Index at) each.1 good)
      (kinds_append c tail ∙ ap (λ v. v ++ kinds tail) spelt ∙ ap (λ v. (expr_spelling head ++ flat_map expr_suffix_spelling xs) ++ v) is
      ∙ append_assoc (expr_spelling head) (flat_map expr_suffix_spelling xs) (expr_suffix_spelling (Index at))
      ∙ ap (λ v. expr_spelling head ++ v) (sym (flat_more expr_suffix_spelling xs (Index at)))),
  index_is_target head xs at,
)
indexed at good tail is c (Expr-F.Chain chain.Or _ _) level fits each spelt = absurd (omega arith)
indexed at good tail is c (Expr-F.Chain chain.And _ _) level fits each spelt = absurd (omega arith)
indexed at good tail is c (Expr-F.Chain chain.BitOr _ _) level fits each spelt = absurd (omega arith)
indexed at good tail is c (Expr-F.Chain chain.BitXor _ _) level fits each spelt = absurd (omega arith)
indexed at good tail is c (Expr-F.Chain chain.BitAnd _ _) level fits each spelt = absurd (omega arith)
indexed at good tail is c (Expr-F.Chain chain.Sum _ _) level fits each spelt = absurd (omega arith)
indexed at good tail is c (Expr-F.Chain chain.Product _ _) level fits each spelt = absurd (omega arith)
indexed at good tail is c _ level fits each spelt = absurd (omega arith)

-- each primary goes on to a target
pub goes_on_to_target : (x : Expr) (c : Input) → IsExpr 11 x c → (y : Expr) × (d : Input) × IsExpr 11 y (c ++ d) × (is_target y ≡ true)
goes_on_to_target x c h =
    let (at, d, r) = some_is 0 (omega arith) in
    let tail : Input = some_token (t.Mark m.OpenSquare) ∷ (d ++ some_token (t.Mark m.CloseSquare) ∷ []) in
    let k : kinds tail ≡ expr_suffix_spelling (Index at) =
    ap (λ v. t.Mark m.OpenSquare ∷ v) (kinds_append d (some_token (t.Mark m.CloseSquare) ∷ []) ∙ ap (λ v. v ++ t.Mark m.CloseSquare ∷ []) r.spelt) in
    elim (node_or_higher 11 x c h) [
      | inl high ↦ (
        e.Primary x (Index at ∷ []),
        tail,
        made_is 11 (Expr-F.Primary x (Index at ∷ [])) _ (c ++ tail) (e.rolls-Primary x (Index at ∷ [])) (omega arith)
            (high.high, (λ none. cc), (tt, tt)) (h.levelled, (r.levelled, tt))
            (kinds_append c tail ∙ ap (λ v. v ++ kinds tail) h.spelt ∙ ap (λ v. expr_spelling x ++ v) (k ∙ sym (append-nil (expr_suffix_spelling (Index at))))),
        index_is_target x [] at,
      )
      | inr node ↦ (let (y, q, holds) = indexed at r.levelled tail k c node.layer node.level node.fits node.each node.spelt in (y, tail, q, holds))
    ]

pub some_target : (x : Expr) × (c : Input) × IsTarget x c
some_target =
    let (x, c, r) = some_is 11 (omega arith) in
    let (y, d, q, holds) = goes_on_to_target x c r in
    (y, c ++ d, record { rule = q; holds = holds })

-- ---- targets with commas between

abbrev comma : Token
comma = t.Mark m.Comma

-- the tokens don't go on with targets
pub record EndsTargets (more : Input) : Type 0 where
  pub level : Ends 11 more
  pub no_comma : next more ≢ Some (t.Mark m.Comma)

-- what was found, and after it targets that the tokens spell, at least one
pub record SpelledTargets (found all : List Expr) (c : Input) : Type 0 where
  pub first : Expr
  pub others : List Expr
  pub whole : all ≡ found ++ first ∷ others
  pub levelled : AllByRecursion IsLevelled (first ∷ others)
  pub targets : AllByRecursion (λ x. is_target x ≡ true) (first ∷ others)
  pub spelt : kinds c ≡ tests_spelling (first ∷ others)

-- all of them, where none was found before
pub targets_whole : (all : List Expr) (c : Input) → SpelledTargets [] all c → AreTargets all × AllLevelled all × (kinds c ≡ tests_spelling all)
targets_whole all c h =
    let held : AreTargets (h.first ∷ h.others) × AllLevelled (h.first ∷ h.others) × (kinds c ≡ tests_spelling (h.first ∷ h.others)) = (((λ none. cc), h.targets), h.levelled, h.spelt) in
    subst (λ v. AreTargets v × AllLevelled v × (kinds c ≡ tests_spelling v)) (sym h.whole) held

pub targets_spelled : (all : List Expr) (c : Input) → AreTargets all → AllLevelled all → kinds c ≡ tests_spelling all → SpelledTargets [] all c
targets_spelled [] c are levelled spelt = absurd (are.0 refl)
targets_spelled (x ∷ xs) c are levelled spelt = record { first = x; others = xs; whole = refl; levelled = levelled; targets = are.1; spelt = spelt }

abbrev TargetTail : List Expr → List Expr → Input → Type 0
TargetTail found all c = Just found all c ⊎ Then (Tok comma) (λ _. SpelledTargets found) all c

abbrev TargetsWhole : List Expr → List Expr → Input → Type 0
TargetsWhole found = Then IsTarget (λ x. TargetTail (found ++ x ∷ []))

targets_there : (found all : List Expr) (c : Input) → TargetsWhole found all c → SpelledTargets found all c
targets_there found all c (x, c1, c2, r, inl (is, none), split) = record {
  first = x;
  others = [];
  whole = is;
  levelled = (r.rule.levelled, tt);
  targets = (r.holds, tt);
  spelt = ap kinds (split ∙ ap (λ v. c1 ++ v) none ∙ append-nil c1) ∙ r.rule.spelt ∙ sym (append-nil (expr_spelling x));
}
targets_there found all c (x, c1, c2, r, inr (u, c3, c4, (s, s_is, one), more, split2), split) =
    let k : kinds c2 ≡ comma ∷ kinds c4 = ap kinds (split2 ∙ ap (λ v. v ++ c4) one) ∙ ap (λ v. v ∷ kinds c4) s_is in
    record {
      first = x;
      others = more.first ∷ more.others;
      whole = more.whole ∙ append_assoc found (x ∷ []) (more.first ∷ more.others);
      levelled = (r.rule.levelled, more.levelled);
      targets = (r.holds, more.targets);
      spelt = ap kinds split ∙ kinds_append c1 c2 ∙ ap (λ v. v ++ kinds c2) r.rule.spelt ∙ ap (λ v. expr_spelling x ++ v) (k ∙ ap (λ v. comma ∷ v) more.spelt);
    }

targets_by : (found all : List Expr) (c : Input) (x : Expr) (others : List Expr) → all ≡ found ++ x ∷ others → AllByRecursion IsLevelled (x ∷ others)
    → AllByRecursion (λ x. is_target x ≡ true) (x ∷ others) → kinds c ≡ tests_spelling (x ∷ others) → TargetsWhole found all c
targets_by found all c x [] is levelled targets spelt =
    (x, c, [], record { rule = record { levelled = levelled.0; high = target_high x targets.0; spelt = spelt ∙ append-nil (expr_spelling x) }; holds = targets.0 }, inl (is, refl), sym (append-nil c))
targets_by found all c x (y ∷ ys) is levelled targets spelt =
    let (c1, c2, split, is1, is2) = kinds_split c (expr_spelling x) (comma ∷ tests_spelling (y ∷ ys)) spelt in
    let (s, c3, split2, is3, is4) = kinds_cons c2 comma (tests_spelling (y ∷ ys)) is2 in (
      x,
      c1,
      c2,
      record { rule = record { levelled = levelled.0; high = target_high x targets.0; spelt = is1 }; holds = targets.0 },
      inr (
        tt,
        s ∷ [],
        c3,
        (s, is3, refl),
        record { first = y; others = ys; whole = is ∙ sym (append_assoc found (x ∷ []) (y ∷ ys)); levelled = levelled.1; targets = targets.1; spelt = is4 },
        split2,
      ),
      split,
    )

targets_back : (found all : List Expr) (c : Input) → SpelledTargets found all c → TargetsWhole found all c
targets_back found all c h = targets_by found all c h.first h.others h.whole h.levelled h.targets h.spelt

pub some_targets : (found : List Expr) → (all : List Expr) × (c : Input) × SpelledTargets found all c
some_targets found =
    let (x, c, r) = some_target in
    (found ++ x ∷ [], c, targets_there found (found ++ x ∷ []) c (x, c, [], r, inl (refl, refl), sym (append-nil c)))

-- primaries of fewer tokens are read exactly
abbrev pub Primaries : (Level → Reader Expr) → ℕ → Type 0
Primaries expr bound = (ts : Input) → length ts < bound → Exact (IsExpr 11) (Ends 11) ts (expr level.Primary ts)

target_tail_ends : (found all : List Expr) (c more : Input) → TargetTail found all c → EndsTargets more → Ends 11 (c ++ more)
unfolding Ends
target_tail_ends found all c more (inl (is, none)) ends =
    let a : reach (next (c ++ more)) ≡ reach (next more) = ap (λ v. reach (next (v ++ more))) none in omega (arith, ends.level)
target_tail_ends found all c more (inr later) ends =
    let a : reach (next (c ++ more)) ≡ 0 = ap reach (token_next comma (SpelledTargets found) all c more later) in omega arith

module _ (expr : Level → Reader Expr) (bound : ℕ) (primaries : Primaries expr bound) where
  target_tail_exact : (found : List Expr) (p : Reader (List Expr)) (ts : Input) → ((left : Input) → length left < length ts → Exact (SpelledTargets found) EndsTargets left (p left))
      → Exact (TargetTail found) EndsTargets ts (and_then (eat m.Comma ts) (λ more. if more then p else pure found))
  target_tail_exact found p ts later =
      exact_eat (TargetTail found) EndsTargets p (pure found) ts m.Comma
      (λ here. exact_by (Then (Tok comma) (λ _. SpelledTargets found)) (TargetTail found) EndsTargets ts (λ all c j. inr j)
      (λ all c more rule ends look. elim rule [
        | inl (is, none) ↦ absurd (ends.no_comma (ap (λ v. next (v ++ more)) (sym none) ∙ look ∙ here))
        | inr j ↦ j
      ])
      _ (exact_token_then comma (SpelledTargets found) EndsTargets (some_targets found) ts p later here))
      (λ other. exact_by (Just found) (TargetTail found) EndsTargets ts (λ all c j. inl j)
      (λ all c more rule ends look. elim rule [
        | inl j ↦ j
        | inr j ↦ absurd (other (sym look ∙ token_next comma (SpelledTargets found) all c more j))
      ])
      _ (exact_pure found EndsTargets ts))

  pub targets_exact : (n : ℕ) (found : List Expr) (ts : Input) → length ts ≤ n → length ts < bound
      → Exact (SpelledTargets found) EndsTargets ts (targets_from expr n found ts)
  unfolding targets_from
  targets_exact zero found [] few small = exact_refuse (SpelledTargets found) EndsTargets [] (some_targets found)
      (λ all c more h _ look. let (x, c1, c2, r, tail, split) = targets_back found all c h in
      let (s, c3, one, low) = first_of 11 x c1 r.rule in
      absurd (let a : Some s.token ≡ None = ap (λ v. next ((v ++ c2) ++ more)) (sym one) ∙ ap (λ v. next (v ++ more)) (sym split) ∙ look in cc))
  targets_exact zero found (s ∷ ts) few small = absurd (omega arith)
  targets_exact (suc n) found ts few small =
      let more : Expr → Reader (List Expr) = (λ x. eat m.Comma >>= λ more. if more then targets_from expr n (found ++ x ∷ []) else pure (found ++ x ∷ [])) in
      subst (λ o. Exact (SpelledTargets found) EndsTargets ts o) (tested_then is_target more (expr level.Primary ts))
      (exact_same (TargetsWhole found) (SpelledTargets found) EndsTargets (targets_there found) (targets_back found) ts _
      (exact_then IsTarget (λ x. TargetTail (found ++ x ∷ [])) (Ends 11) EndsTargets
      (λ x all c1 c2 more _ tail ends. target_tail_ends (found ++ x ∷ []) all c2 more tail ends)
      (λ x c r. (found ++ x ∷ [], [], inl (refl, refl)))
      ts (and_then (expr level.Primary ts) (λ x. if is_target x then pure x else refuse)) more
      (exact_tested (IsExpr 11) (Ends 11) is_target goes_on_to_target ts (expr level.Primary ts) (primaries ts small))
      (λ x left taken split r. target_tail_exact (found ++ x ∷ []) (targets_from expr n (found ++ x ∷ [])) left
      (λ left2 less. let a = length_after ts taken left split in targets_exact n (found ++ x ∷ []) left2 (omega arith) (omega arith)))))

-- ---- a word, and then the rest of a rule

pub exact_expected_word_then : {T : Type 0} (word : Keyword) (RT : T → Input → Type 0) (ET : Input → Type 0) → ((x : T) × (c : Input) × RT x c) → (ts : Input) (p : Reader T)
    → ((left : Input) → length left < length ts → Exact RT ET left (p left)) → Exact (Then (Tok (t.Word word)) (λ _. RT)) ET ts ((expect_word word >> p) ts)
exact_expected_word_then word RT ET some ts p later =
    exact_then (Tok (t.Word word)) (λ _. RT) (λ _. Unit {0}) ET (λ _ _ _ _ _ _ _ _. tt) (λ _ _ _. some) ts (expect_word word ts) (λ _. p)
    (exact_expect_word word (λ _. Unit {0}) ts)
    (λ _ left taken split (s, is, one). later left (length_less ts taken left split (λ none. let a : [] ≡ s ∷ [] = sym none ∙ one in cc)))

-- ---- one clause, after its first word

opening : Clause Expr → Token
opening (For targets over) = t.Word w.For
opening (If condition) = t.Word w.If

inside : Clause Expr → Tokens
inside (For targets over) = tests_spelling targets ++ t.Word w.In ∷ expr_spelling over
inside (If condition) = expr_spelling condition

clause_spelt : (x : Clause Expr) → expr_clause_spelling x ≡ opening x ∷ inside x
unfolding opening inside
clause_spelt (For targets over) = refl
clause_spelt (If condition) = refl

-- what the grammar asks of a clause, and its expressions are well-levelled
pub record ClauseGood (x : Clause Expr) : Type 0 where
  pub fits : ClauseFits x
  pub levelled : EachClause IsLevelled x

-- the tokens after the first word spell the clause
record IsClause (x : Clause Expr) (c : Input) : Type 0 where
  pub good : ClauseGood x
  pub spelt : kinds c ≡ inside x

abbrev Over : List Expr → Clause Expr → Input → Type 0
Over targets = Then (IsExpr 1) (λ over. Just (For targets over))

abbrev AfterTargets : List Expr → Clause Expr → Input → Type 0
AfterTargets targets = Then (Tok (t.Word w.In)) (λ _. Over targets)

abbrev IsFor : Clause Expr → Input → Type 0
IsFor = Then (SpelledTargets []) AfterTargets

for_there : (x : Clause Expr) (c : Input) → IsFor x c → IsClause x c × (opening x ≡ t.Word w.For)
unfolding opening inside
for_there x c (targets, c1, c2, r, (u, c3, c4, (s, is, one), last, split2), split) =
    let (over, r2, x_is) = last_there (IsExpr 1) (λ over. For targets over) x c4 last in
    let (are, levelled, spelt) = targets_whole targets c1 r in
    let k : kinds c2 ≡ t.Word w.In ∷ expr_spelling over = ap kinds (split2 ∙ ap (λ v. v ++ c4) one) ∙ ap (λ v. v ∷ kinds c4) is ∙ ap (λ v. t.Word w.In ∷ v) r2.spelt in
    let whole : IsClause (For targets over) c = record {
      good = record { fits = (are, r2.high); levelled = (levelled, r2.levelled) };
      spelt = ap kinds split ∙ kinds_append c1 c2 ∙ ap (λ v. v ++ kinds c2) spelt ∙ ap (λ v. tests_spelling targets ++ v) k;
    } in
    subst (λ v. IsClause v c × (opening v ≡ t.Word w.For)) (sym x_is) (whole, refl)

for_back : (x : Clause Expr) (c : Input) → opening x ≡ t.Word w.For → IsClause x c → (a : Clause Expr) × IsFor a c × (x ≡ a)
unfolding opening inside
for_back (If condition) c is h = absurd cc
for_back (For targets over) c is h =
    let fits = h.good.fits in
    let levelled = h.good.levelled in
    let (c1, c2, split, is1, is2) = kinds_split c (tests_spelling targets) (t.Word w.In ∷ expr_spelling over) h.spelt in
    let (s, c3, split2, is3, is4) = kinds_cons c2 (t.Word w.In) (expr_spelling over) is2 in (
      For targets over,
      (
        targets,
        c1,
        c2,
        targets_spelled targets c1 fits.0 levelled.0 is1,
        (
          tt,
          s ∷ [],
          c3,
          (s, is3, refl),
          last_back (IsExpr 1) (λ over. For targets over) (For targets over) c3 over (record { levelled = levelled.1; high = fits.1; spelt = is4 }) refl,
          split2,
        ),
        split,
      ),
      refl,
    )

if_there : (x : Expr) (c : Input) → IsExpr 1 x c → IsClause (If x) c × (opening (If x) ≡ t.Word w.If)
unfolding opening inside
if_there x c r = (record { good = record { fits = r.high; levelled = r.levelled }; spelt = r.spelt }, refl)

if_back : (x : Clause Expr) (c : Input) → opening x ≡ t.Word w.If → IsClause x c → (a : Expr) × IsExpr 1 a c × (x ≡ If a)
unfolding opening inside
if_back (For targets over) c is h = absurd cc
if_back (If condition) c is h = (condition, record { levelled = h.good.levelled; high = h.good.fits; spelt = h.spelt }, refl)

-- ---- one clause after another

-- the tokens don't go on with clauses
pub record EndsClauses (more : Input) : Type 0 where
  pub level : Ends 0 more
  pub no_for : next more ≢ Some (t.Word w.For)

-- what was found, and after it clauses that the tokens spell
pub record AreClauses (found all : List (Clause Expr)) (c : Input) : Type 0 where
  pub clauses : List (Clause Expr)
  pub whole : all ≡ found ++ clauses
  pub good : AllByRecursion ClauseGood clauses
  pub spelt : kinds c ≡ flat_map expr_clause_spelling clauses

some_clauses : (found : List (Clause Expr)) → (all : List (Clause Expr)) × (c : Input) × AreClauses found all c
some_clauses found = (found, [], record { clauses = []; whole = sym (append-nil found); good = tt; spelt = refl })

clauses_cons : (found all : List (Clause Expr)) (c : Input) (x : Clause Expr) (xs : List (Clause Expr)) → all ≡ found ++ x ∷ xs → ClauseGood x → AllByRecursion ClauseGood xs
    → kinds c ≡ flat_map expr_clause_spelling (x ∷ xs) → (s : Spanned) × (c1 : Input) × (c2 : Input) × (c ≡ s ∷ (c1 ++ c2)) × (s.token ≡ opening x) × IsClause x c1 × AreClauses (found ++ x ∷ []) all c2
clauses_cons found all c x xs whole good others spelt =
    let (s, c', split, is, later) = kinds_cons c (opening x) (inside x ++ flat_map expr_clause_spelling xs) (spelt ∙ ap (λ v. v ++ flat_map expr_clause_spelling xs) (clause_spelt x)) in
    let (c1, c2, split2, is1, is2) = kinds_split c' (inside x) (flat_map expr_clause_spelling xs) later in (
      s,
      c1,
      c2,
      split ∙ ap (λ v. s ∷ v) split2,
      is,
      record { good = good; spelt = is1 },
      record { clauses = xs; whole = whole ∙ sym (append_assoc found (x ∷ []) xs); good = others; spelt = is2 },
    )

-- the first of them, if there is one, opens with its word
clauses_begin : (found all : List (Clause Expr)) (c more : Input) → AreClauses found all c → EndsClauses more → Ends 1 (c ++ more)
unfolding Ends opening
clauses_begin found all c more h ends = of_clauses h.clauses h.whole h.good h.spelt
  where
    of_clauses : (xs : List (Clause Expr)) → all ≡ found ++ xs → AllByRecursion ClauseGood xs → kinds c ≡ flat_map expr_clause_spelling xs → reach (next (c ++ more)) ≤ 1
    of_clauses [] whole good spelt = let a : reach (next (c ++ more)) ≡ reach (next more) = ap (λ v. reach (next (v ++ more))) (kinds_none c spelt) in omega (arith, ends.level)
    of_clauses (For targets over ∷ xs) whole good spelt =
        let (s, c1, c2, split, is, clause, others) = clauses_cons found all c (For targets over) xs whole good.0 good.1 spelt in
        let a : reach (next (c ++ more)) ≡ 0 = ap (λ v. reach (next (v ++ more))) split ∙ ap (λ v. reach (Some v)) is in omega arith
    of_clauses (If condition ∷ xs) whole good spelt =
        let (s, c1, c2, split, is, clause, others) = clauses_cons found all c (If condition) xs whole good.0 good.1 spelt in
        let a : reach (next (c ++ more)) ≡ 1 = ap (λ v. reach (next (v ++ more))) split ∙ ap (λ v. reach (Some v)) is in omega arith

-- no clause: the next token opens none
none_by : (found all : List (Clause Expr)) (c more : Input) (ys : List (Clause Expr)) → all ≡ found ++ ys → AllByRecursion ClauseGood ys → kinds c ≡ flat_map expr_clause_spelling ys
    → next (c ++ more) ≢ Some (t.Word w.For) → next (c ++ more) ≢ Some (t.Word w.If) → Just found all c
unfolding opening
none_by found all c more [] whole good spelt not1 not2 = (whole ∙ append-nil found, kinds_none c spelt)
none_by found all c more (For targets over ∷ ys) whole good spelt not1 not2 =
    let (s, c1, c2, split, is, clause, others) = clauses_cons found all c (For targets over) ys whole good.0 good.1 spelt in
    absurd (not1 (ap (λ v. next (v ++ more)) split ∙ ap Some is))
none_by found all c more (If condition ∷ ys) whole good spelt not1 not2 =
    let (s, c1, c2, split, is, clause, others) = clauses_cons found all c (If condition) ys whole good.0 good.1 spelt in
    absurd (not2 (ap (λ v. next (v ++ more)) split ∙ ap Some is))

-- a clause that opens with the word, and more of them
abbrev Claused : {A : Type 0} → Keyword → (A → Input → Type 0) → (A → Clause Expr) → List (Clause Expr) → List (Clause Expr) → Input → Type 0
Claused word R make found = Then (Tok (t.Word word)) (λ _. Then R (λ a. AreClauses (found ++ make a ∷ [])))

module _ {A : Type 0} (word : Keyword) (R : A → Input → Type 0) (make : A → Clause Expr)
    (there : (a : A) (c : Input) → R a c → IsClause (make a) c × (opening (make a) ≡ t.Word word))
    (back : (x : Clause Expr) (c : Input) → opening x ≡ t.Word word → IsClause x c → (a : A) × R a c × (x ≡ make a))
    (not_end : (more : Input) → EndsClauses more → next more ≢ Some (t.Word word)) where
  claused_there : (found all : List (Clause Expr)) (c : Input) → Claused word R make found all c → AreClauses found all c
  claused_there found all c (u, c1, c2, (s, is, one), (a, c3, c4, r, more, split2), split) =
      let (clause, opens) = there a c3 r in
      record {
        clauses = make a ∷ more.clauses;
        whole = more.whole ∙ append_assoc found (make a ∷ []) more.clauses;
        good = (clause.good, more.good);
        spelt = ap kinds (split ∙ ap (λ v. v ++ c2) one ∙ ap (λ v. s ∷ v) split2) ∙ ap (λ v. v ∷ kinds (c3 ++ c4)) (is ∙ sym opens)
            ∙ ap (λ v. opening (make a) ∷ v) (kinds_append c3 c4 ∙ ap (λ v. v ++ kinds c4) clause.spelt ∙ ap (λ v. inside (make a) ++ v) more.spelt)
            ∙ ap (λ v. v ++ flat_map expr_clause_spelling more.clauses) (sym (clause_spelt (make a)));
      }

  claused_by : (found all : List (Clause Expr)) (c more : Input) (ys : List (Clause Expr)) → all ≡ found ++ ys → AllByRecursion ClauseGood ys → kinds c ≡ flat_map expr_clause_spelling ys
      → EndsClauses more → next (c ++ more) ≡ Some (t.Word word) → Claused word R make found all c
  claused_by found all c more [] whole good spelt ends look =
      absurd (not_end more ends (ap (λ v. next (v ++ more)) (sym (kinds_none c spelt)) ∙ look))
  claused_by found all c more (y ∷ ys) whole good spelt ends look =
      let (s, c1, c2, split, is, clause, others) = clauses_cons found all c y ys whole good.0 good.1 spelt in
      let a : Some s.token ≡ Some (t.Word word) = ap (λ v. next (v ++ more)) (sym split) ∙ look in
      let b : s.token ≡ t.Word word = cc in
      let (x, r, y_is) = back y c1 (sym is ∙ b) clause in
      (tt, s ∷ [], c1 ++ c2, (s, b, refl), (x, c1, c2, r, subst (λ v. AreClauses (found ++ v ∷ []) all c2) y_is others, refl), split)

  -- a clause is read, and then what `more` reads
  claused_exact : (some : (a : A) × (c : Input) × R a c) → (found : List (Clause Expr)) (ts : Input) (p : Reader A)
      → ((left : Input) → length left < length ts → Exact R (Ends 1) left (p left)) → (more : List (Clause Expr) → Reader (List (Clause Expr)))
      → ((found' : List (Clause Expr)) (left : Input) → length left < length ts → Exact (AreClauses found') EndsClauses left (more found' left))
      → next ts ≡ Some (t.Word word) → Exact (Claused word R make found) EndsClauses ts ((skip >> (p >>= λ a. more (found ++ make a ∷ []))) ts)
  claused_exact (some_a, some_c, some_r) found ts p exact more goes_on here =
      exact_token_then (t.Word word) (Then R (λ a. AreClauses (found ++ make a ∷ []))) EndsClauses
      (let (all, c, q) = some_clauses (found ++ make some_a ∷ []) in (all, some_c ++ c, (some_a, some_c, c, some_r, q, refl)))
      ts (p >>= λ a. more (found ++ make a ∷ []))
      (λ left less. exact_then R (λ a. AreClauses (found ++ make a ∷ [])) (Ends 1) EndsClauses
      (λ a all c1 c2 more' _ clauses ends. clauses_begin (found ++ make a ∷ []) all c2 more' clauses ends)
      (λ a c r. some_clauses (found ++ make a ∷ []))
      left (p left) (λ a. more (found ++ make a ∷ [])) (exact left less)
      (λ a left2 taken split r. goes_on (found ++ make a ∷ []) left2 (let b = length_after left taken left2 split in omega arith))) here

for_ends : (more : Input) → EndsClauses more → next more ≢ Some (t.Word w.For)
for_ends more ends = ends.no_for

if_ends : (more : Input) → EndsClauses more → next more ≢ Some (t.Word w.If)
unfolding Ends
if_ends more ends is = let a : reach (next more) ≡ 1 = ap reach is in absurd (omega (arith, ends.level))

abbrev pub ForClauses : List (Clause Expr) → Input → Type 0
ForClauses all c = AreClauses [] all c × StartsWithFor all

-- operands at the level of `or` of fewer tokens are read exactly
abbrev pub Operands : (Level → Reader Expr) → ℕ → Type 0
Operands expr bound = (ts : Input) → length ts < bound → Exact (IsExpr 1) (Ends 1) ts (expr level.Or ts)

after_targets_ends : (targets : List Expr) (x : Clause Expr) (c more : Input) → AfterTargets targets x c → EndsTargets (c ++ more)
unfolding Ends
after_targets_ends targets x c more rule =
    let a = token_next (t.Word w.In) (Over targets) x c more rule in
    record {
      level = (let b : reach (next (c ++ more)) ≡ 5 = ap reach a in omega arith);
      no_comma = λ is. (let b : Some (t.Word w.In) ≡ Some (t.Mark m.Comma) = sym a ∙ is in cc);
    }

some_over : (targets : List Expr) → (x : Clause Expr) × (c : Input) × Over targets x c
some_over targets = let (y, c, r) = some_is 1 (omega arith) in (For targets y, c, last_back (IsExpr 1) (λ over. For targets over) (For targets y) c y r refl)

some_for : (x : Clause Expr) × (c : Input) × IsFor x c
some_for =
    let (all, c, q) = some_targets [] in
    let (x, d, r) = some_over all in
    let s = some_token (t.Word w.In) in
    (x, c ++ s ∷ d, (all, c, s ∷ d, q, (tt, s ∷ [], d, (s, refl, refl), r, refl), refl))

-- ---- clauses of which the first is a `for`

starts_there : (all : List (Clause Expr)) (c : Input) → Claused w.For IsFor (λ x. x) [] all c → ForClauses all c
unfolding opening
starts_there all c (u, c1, c2, tok, (x, c3, c4, r, more, split2), split) =
    let (clause, opens) = for_there x c3 r in (
      claused_there w.For IsFor (λ x. x) for_there for_back for_ends [] all c (u, c1, c2, tok, (x, c3, c4, r, more, split2), split),
      subst StartsWithFor (sym more.whole) (is_for x opens more.clauses),
    )
  where
    is_for : (x : Clause Expr) → opening x ≡ t.Word w.For → (xs : List (Clause Expr)) → StartsWithFor (x ∷ xs)
    is_for (For targets over) is xs = tt
    is_for (If condition) is xs = absurd cc

starts_back : (all : List (Clause Expr)) (c : Input) → ForClauses all c → Claused w.For IsFor (λ x. x) [] all c
unfolding opening
starts_back all c (h, starts) = of_clauses h.clauses h.whole h.good h.spelt
  where
    of_clauses : (xs : List (Clause Expr)) → all ≡ xs → AllByRecursion ClauseGood xs → kinds c ≡ flat_map expr_clause_spelling xs → Claused w.For IsFor (λ x. x) [] all c
    of_clauses [] whole good spelt = absurd (subst StartsWithFor whole starts)
    of_clauses (If condition ∷ xs) whole good spelt = absurd (subst StartsWithFor whole starts)
    of_clauses (For targets over ∷ xs) whole good spelt =
        let (s, c1, c2, split, is, clause, others) = clauses_cons [] all c (For targets over) xs whole good.0 good.1 spelt in
        let (x, r, y_is) = for_back (For targets over) c1 refl clause in
        (tt, s ∷ [], c1 ++ c2, (s, is, refl), (x, c1, c2, r, subst (λ v. AreClauses (v ∷ []) all c2) y_is others, refl), split)

-- `for` comes next
pub for_clauses_first : (all : List (Clause Expr)) (c more : Input) → ForClauses all c → next (c ++ more) ≡ Some (t.Word w.For)
for_clauses_first all c more h = token_next (t.Word w.For) (Then IsFor (λ x. AreClauses (x ∷ []))) all c more (starts_back all c h)

pub some_for_clauses : (all : List (Clause Expr)) × (c : Input) × ForClauses all c
some_for_clauses =
    let (x, c, r) = some_for in
    let (all, d, q) = some_clauses (x ∷ []) in
    let s = some_token (t.Word w.For) in
    (all, s ∷ (c ++ d), starts_there all (s ∷ (c ++ d)) (tt, s ∷ [], c ++ d, (s, refl, refl), (x, c, d, r, q, refl), refl))

-- ---- their readers

module _ (expr : Level → Reader Expr) (bound : ℕ) (primaries : Primaries expr bound) (operands : Operands expr bound) where
  for_exact : (ts : Input) → length ts < bound → Exact IsFor (Ends 1) ts (for_clause expr ts)
  unfolding for_clause
  for_exact ts few =
      exact_then (SpelledTargets []) AfterTargets EndsTargets (Ends 1)
      (λ targets x c1 c2 more _ rule _. after_targets_ends targets x c2 more rule)
      (λ targets c r. let (x, d, q) = some_over targets in let s = some_token (t.Word w.In) in (x, s ∷ d, (tt, s ∷ [], d, (s, refl, refl), q, refl)))
      ts (targets_from expr (length ts) [] ts) (λ targets. expect_word w.In >>= λ _. expr level.Or >>= λ over. pure (For targets over))
      (targets_exact expr bound primaries (length ts) [] ts (omega arith) few)
      (λ targets left taken split r. exact_expected_word_then w.In (Over targets) (Ends 1) (some_over targets) left (expr level.Or >>= λ over. pure (For targets over))
      (λ left2 less. exact_last (IsExpr 1) (Ends 1) (Ends 1) (λ more ends. ends) (λ over. For targets over) left2 (expr level.Or left2)
      (operands left2 (let a = length_after ts taken left split in omega arith))))

  -- the next token is `for`
  for_step : (more : List (Clause Expr) → Reader (List (Clause Expr))) (found : List (Clause Expr)) (ts : Input) → length ts ≤ bound
      → ((found' : List (Clause Expr)) (left : Input) → length left < length ts → Exact (AreClauses found') EndsClauses left (more found' left))
      → next ts ≡ Some (t.Word w.For) → Exact (Claused w.For IsFor (λ x. x) found) EndsClauses ts ((skip >> (for_clause expr >>= λ x. more (found ++ x ∷ []))) ts)
  for_step more found ts few goes_on here =
      claused_exact w.For IsFor (λ x. x) for_there for_back for_ends some_for found ts (for_clause expr) (λ left less. for_exact left (omega arith)) more goes_on here

  clauses_step : (more : List (Clause Expr) → Reader (List (Clause Expr))) (found : List (Clause Expr)) (ts : Input) → length ts ≤ bound
      → ((found' : List (Clause Expr)) (left : Input) → length left < length ts → Exact (AreClauses found') EndsClauses left (more found' left))
      → Exact (AreClauses found) EndsClauses ts (and_then (eat_word w.For ts) (λ is_for. if is_for then (for_clause expr >>= λ x. more (found ++ x ∷ [])) else
      (eat_word w.If >>= λ is_if. if is_if then (expr level.Or >>= λ condition. more (found ++ If condition ∷ [])) else pure found)))
  clauses_step more found ts few goes_on =
      exact_eat_word (AreClauses found) EndsClauses (for_clause expr >>= λ x. more (found ++ x ∷ []))
      (eat_word w.If >>= λ is_if. if is_if then (expr level.Or >>= λ condition. more (found ++ If condition ∷ [])) else pure found) ts w.For
      (λ here. exact_by (Claused w.For IsFor (λ x. x) found) (AreClauses found) EndsClauses ts (claused_there w.For IsFor (λ x. x) for_there for_back for_ends found)
      (λ all c more' h ends look. claused_by w.For IsFor (λ x. x) for_there for_back for_ends found all c more' h.clauses h.whole h.good h.spelt ends (look ∙ here))
      _ (for_step more found ts few goes_on here))
      (λ no_for. exact_eat_word (AreClauses found) EndsClauses (expr level.Or >>= λ condition. more (found ++ If condition ∷ [])) (pure found) ts w.If
      (λ here. exact_by (Claused w.If (IsExpr 1) (λ x. If x) found) (AreClauses found) EndsClauses ts (claused_there w.If (IsExpr 1) (λ x. If x) if_there if_back if_ends found)
      (λ all c more' h ends look. claused_by w.If (IsExpr 1) (λ x. If x) if_there if_back if_ends found all c more' h.clauses h.whole h.good h.spelt ends (look ∙ here))
      _ (claused_exact w.If (IsExpr 1) (λ x. If x) if_there if_back if_ends (some_is 1 (omega arith)) found ts (expr level.Or) (λ left less. operands left (omega arith)) more goes_on here))
      (λ no_if. exact_by (Just found) (AreClauses found) EndsClauses ts (λ all c (is, none). record { clauses = []; whole = is ∙ sym (append-nil found); good = tt; spelt = ap kinds none })
      (λ all c more' h _ look. none_by found all c more' h.clauses h.whole h.good h.spelt (λ is. no_for (sym look ∙ is)) (λ is. no_if (sym look ∙ is)))
      _ (exact_pure found EndsClauses ts)))

  clauses_exact : (n : ℕ) (found : List (Clause Expr)) (ts : Input) → length ts ≤ n → length ts ≤ bound
      → Exact (AreClauses found) EndsClauses ts (clauses_from expr n found ts)
  unfolding clauses_from
  clauses_exact zero found [] few small = exact_by (Just found) (AreClauses found) EndsClauses [] (λ all c (is, none). record { clauses = []; whole = is ∙ sym (append-nil found); good = tt; spelt = ap kinds none })
      (λ all c more h _ look. none_by found all c more h.clauses h.whole h.good h.spelt
      (λ is. let a : None ≡ Some (t.Word w.For) = sym look ∙ is in cc) (λ is. let a : None ≡ Some (t.Word w.If) = sym look ∙ is in cc))
      _ (exact_pure found EndsClauses [])
  clauses_exact zero found (s ∷ ts) few small = absurd (omega arith)
  clauses_exact (suc n) found ts few small = clauses_step (clauses_from expr n) found ts small (λ found' left less. clauses_exact n found' left (omega arith) (omega arith))

  -- the clauses after `for`, which is still to be read
  for_clauses_by : (n : ℕ) (ts : Input) → length ts ≤ n → length ts ≤ bound → next ts ≡ Some (t.Word w.For)
      → Exact (Claused w.For IsFor (λ x. x) []) EndsClauses ts (clauses_from expr n [] ts)
  unfolding clauses_from
  for_clauses_by zero [] few small here = absurd cc
  for_clauses_by zero (s ∷ ts) few small here = absurd (omega arith)
  for_clauses_by (suc n) ts few small here =
      exact_eat_word (Claused w.For IsFor (λ x. x) []) EndsClauses (for_clause expr >>= λ x. clauses_from expr n (x ∷ []))
      (eat_word w.If >>= λ is_if. if is_if then (expr level.Or >>= λ condition. clauses_from expr n (If condition ∷ [])) else pure []) ts w.For
      (λ here. for_step (clauses_from expr n) [] ts small (λ found' left less. clauses_exact n found' left (omega arith) (omega arith)) here)
      (λ no. absurd (no here))

  pub for_clauses_exact : (ts : Input) → length ts ≤ bound → next ts ≡ Some (t.Word w.For) → Exact ForClauses EndsClauses ts (clauses_from expr (length ts) [] ts)
  for_clauses_exact ts few here =
      exact_same (Claused w.For IsFor (λ x. x) []) ForClauses EndsClauses starts_there starts_back ts _ (for_clauses_by (length ts) ts (omega arith) few here)
