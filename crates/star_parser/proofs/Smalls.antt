-- Small statements are read exactly.
use Rattle.std.proofs.Common.{◌≡◌, ◌≢◌, ◌∙◌, ◌⊎◌, inl, inr, ℕ, ◌≤◌, ◌<◌, Bool, true, false, List, [], ◌∷◌, ◌++◌, Option, Some, None, refl, sym, ap, subst, arith, append_assoc, length}
use Rattle.std.proofs.lemmas.List.{append-nil}
use Rattle.std.specs.Prelude.{if◌then◌else◌, ◌&&◌, ◌||◌}
use Rattle.std.specs.List.{AllByRecursion}
use Rattle.star_syntax.specs.declared.token.Token.{Token}
use Rattle.star_syntax.specs.declared.token.Token.TheVariants as t
use Rattle.star_syntax.specs.declared.token.Keyword.{Keyword}
use Rattle.star_syntax.specs.declared.token.Keyword.TheVariants as w
use Rattle.star_syntax.specs.declared.token.Mark.TheVariants as m
use Rattle.star_syntax.specs.declared.token.Spanned.{Spanned}
use Rattle.star_syntax.specs.declared.operator.BinaryOp.{BinaryOp}
use Rattle.star_syntax.specs.declared.operator.BinaryOp.TheVariants as op
use Rattle.star_syntax.specs.declared.expression.Expr.{Expr}
use Rattle.star_syntax.specs.declared.statement.Small.{Small}
use Rattle.star_syntax.specs.declared.statement.SmallKind.{SmallKind}
use Rattle.star_syntax.specs.declared.statement.SmallKind.TheVariants.{Return, Break, Continue, Pass, Assign, Augmented, Tests}
use Rattle.star_syntax.specs.Spelling.{Tokens, expr_spelling, tests_spelling, kind_spelling, small_spelling, augmented_mark}
use Rattle.star_syntax.specs.Levels.{AllLevelled, KindFits, is_target, is_place}
use Rattle.star_parser.specs.declared.level.Level.{Level}
use Rattle.star_parser.specs.declared.level.Level.TheVariants as level
use Rattle.star_parser.specs.Reading.{Input, Reader, and_then, ◌>>=◌, ◌>>◌, pure, next, peek, skip, kinds}
use Rattle.star_parser.specs.Tables.{is_mark, eat_word}
use Rattle.star_parser.specs.StatementTables.{is_newline, ends_small, augmented_op, first_line}
use Rattle.star_parser.specs.StatementReaders.{are_targets, place_op, tests_after, tests, returned, assigned, augmented, assigned_by, listed, phrase_by, phrase, small_kind, small}
use Rattle.star_parser.proofs.Claims.{Matches, small_claims}
use Rattle.star_parser.specs.Starts.{starts}
use Rattle.star_parser.specs.Ends.{reach, Ends}
use Rattle.star_parser.proofs.Exact.{Exact, Then, Just, exact_then, exact_by, exact_same, exact_pure}
use Rattle.star_parser.proofs.Steps.{Tok, some_token, exact_token_then, exact_eat_word, exact_last, token_next, mark_is, is_mark_itself}
use Rattle.star_parser.proofs.Rules.{IsExpr, kinds_split, kinds_cons, kinds_none, kinds_append, next_kind, length_after}
use Rattle.star_parser.proofs.First.{first_of, last_there, last_back}
use Rattle.star_parser.proofs.Closing.{token_spelt}
use Rattle.star_parser.proofs.Bracketed.{Inside, comma, not_first}
use Rattle.star_parser.proofs.Arguments.{assign}
use Rattle.star_parser.proofs.LayoutSteps.{closed_there, closed_back, newline_is, exact_here}
use Rattle.star_parser.proofs.LineMatches.{matches_first, first_matches}
use Rattle.star_parser.proofs.TestLists.{IsTests, EndsTests, AreMore, some_more, more_next, tests_from_more, more_from_tests, some_tests, tests_first, tests_after_exact, tests_exact}

-- the tokens spell a small statement; its line is no part of this
pub record IsKind (kind : SmallKind) (c : Input) : Type 0 where
  pub fits : KindFits kind
  pub spelt : kinds c ≡ kind_spelling kind

-- ---- what follows a small statement

-- the mark between small statements
abbrev pub semicolon : Token
semicolon = t.Mark m.Semicolon

-- a semicolon or the end of the line comes next
abbrev pub EndsSmall : Input → Type 0
EndsSmall more = (next more ≡ Some semicolon) ⊎ (next more ≡ Some t.Newline)

-- what holds of both holds of the token that comes next
ends_next : (more : Input) → EndsSmall more → (P : Option Token → Type 0) → P (Some semicolon) → P (Some t.Newline) → P (next more)
ends_next more (inl e) P at_semicolon at_newline = subst P (sym e) at_semicolon
ends_next more (inr e) P at_semicolon at_newline = subst P (sym e) at_newline

-- tests end there
ends_tests : (more : Input) → EndsSmall more → EndsTests more
unfolding Ends
ends_tests more ends = record {
  level = ends_next more ends (λ k. reach k ≤ 0) (omega arith) (omega arith);
  no_comma = ends_next more ends (λ k. k ≢ Some comma) (λ e. cc) (λ e. cc);
}

either : (a b : Bool) → (a || b) ≡ true → (a ≡ true) ⊎ (b ≡ true)
either true b h = inl refl
either false b h = inr h

ends_small_is : (k : Option Token) → ends_small k ≡ true → (k ≡ Some semicolon) ⊎ (k ≡ Some t.Newline)
ends_small_is k h = elim (either (is_mark m.Semicolon k) (is_newline k) h) [ inl a ↦ inl (mark_is m.Semicolon k a) | inr b ↦ inr (newline_is k b) ]

small_ends : (more : Input) → EndsSmall more → ends_small (next more) ≡ true
unfolding is_mark
small_ends more ends = ends_next more ends (λ k. ends_small k ≡ true) (rw (is_mark_itself m.Semicolon) refl) refl

-- ---- marks such as `+=`

op_of_mark : (o : BinaryOp) → augmented_op (Some (t.Mark (augmented_mark o))) ≡ Some o
op_of_mark op.Add = refl
op_of_mark op.Sub = refl
op_of_mark op.Mul = refl
op_of_mark op.Floor = refl
op_of_mark op.Mod = refl
op_of_mark op.And = refl
op_of_mark op.Or = refl
op_of_mark op.Xor = refl

mark_of_op : (k : Option Token) (o : BinaryOp) → augmented_op k ≡ Some o → k ≡ Some (t.Mark (augmented_mark o))
mark_of_op (Some (t.Mark m.PlusAssign)) op.Add h = refl
mark_of_op (Some (t.Mark m.MinusAssign)) op.Sub h = refl
mark_of_op (Some (t.Mark m.StarAssign)) op.Mul h = refl
mark_of_op (Some (t.Mark m.FloorAssign)) op.Floor h = refl
mark_of_op (Some (t.Mark m.PercentAssign)) op.Mod h = refl
mark_of_op (Some (t.Mark m.AmpersandAssign)) op.And h = refl
mark_of_op (Some (t.Mark m.BarAssign)) op.Or h = refl
mark_of_op (Some (t.Mark m.CaretAssign)) op.Xor h = refl
mark_of_op _ _ h = absurd cc

reach_of_mark : (o : BinaryOp) → reach (Some (t.Mark (augmented_mark o))) ≡ 0
reach_of_mark op.Add = refl
reach_of_mark op.Sub = refl
reach_of_mark op.Mul = refl
reach_of_mark op.Floor = refl
reach_of_mark op.Mod = refl
reach_of_mark op.And = refl
reach_of_mark op.Or = refl
reach_of_mark op.Xor = refl

chosen : (x : Expr) (k : Option Token) (o : BinaryOp) (b : Bool) → is_place x ≡ b → (if b then augmented_op k else None) ≡ Some o
    → (is_place x ≡ true) × (k ≡ Some (t.Mark (augmented_mark o)))
chosen x k o true is h = (is, mark_of_op k o h)
chosen x k o false is h = absurd cc

place_op_is : (x : Expr) (k : Option Token) (o : BinaryOp) → place_op x k ≡ Some o → (is_place x ≡ true) × (k ≡ Some (t.Mark (augmented_mark o)))
place_op_is x k o h = chosen x k o (is_place x) refl h

is_place_op : (x : Expr) (o : BinaryOp) → is_place x ≡ true → place_op x (Some (t.Mark (augmented_mark o))) ≡ Some o
is_place_op x o h = rw (h, op_of_mark o) refl

-- ---- targets

both_true : (a b : Bool) → (a && b) ≡ true → (a ≡ true) × (b ≡ true)
both_true true b h = (refl, h)
both_true false b h = absurd cc

targets_all : (xs : List Expr) → are_targets xs ≡ true → AllByRecursion (λ x. is_target x ≡ true) xs
targets_all [] h = tt
targets_all (x ∷ xs) h = let (a, b) = both_true (is_target x) (are_targets xs) h in (a, targets_all xs b)

all_targets : (xs : List Expr) → AllByRecursion (λ x. is_target x ≡ true) xs → are_targets xs ≡ true
all_targets [] h = refl
all_targets (x ∷ xs) h = rw (h.0, all_targets xs h.1) refl

-- ---- what begins with a test

-- tests, and the tree of them
abbrev Values : (List Expr → SmallKind) → SmallKind → Input → Type 0
Values make = Then IsTests (λ values. Just (make values))

-- after targets: `=` and what is assigned
abbrev Assigns : List Expr → SmallKind → Input → Type 0
Assigns found = Then (Tok assign) (λ _. Values (Assign found))

-- after a place: a mark such as `+=`, and tests
abbrev Stores : Expr → BinaryOp → SmallKind → Input → Type 0
Stores x o = Then (Tok (t.Mark (augmented_mark o))) (λ _. Values (Augmented x o))

-- after tests
abbrev ListTail : List Expr → SmallKind → Input → Type 0
ListTail found kind c = Just (Tests found) kind c ⊎ ((are_targets found ≡ true) × Assigns found kind c)

-- after a test: further ones, and what follows them
abbrev Listed : Expr → SmallKind → Input → Type 0
Listed x = Then (AreMore (x ∷ [])) ListTail

-- after a test
abbrev PhraseTail : Expr → SmallKind → Input → Type 0
PhraseTail x kind c = ((o : BinaryOp) × (is_place x ≡ true) × Stores x o kind c) ⊎ Listed x kind c

-- a small statement that begins with a test
abbrev Phrase : SmallKind → Input → Type 0
Phrase = Then (IsExpr 0) PhraseTail

some_values : (make : List Expr → SmallKind) → (kind : SmallKind) × (c : Input) × Values make kind c
some_values make = let (values, c, r) = some_tests in (make values, c, last_back IsTests make (make values) c values r refl)

-- what comes next after tests
list_tail_next : (found : List Expr) (kind : SmallKind) (c more : Input) → ListTail found kind c → EndsSmall more
    → (P : Option Token → Type 0) → P (Some assign) → P (Some semicolon) → P (Some t.Newline) → P (next (c ++ more))
list_tail_next found kind c more (inl (is, none)) ends P at_assign at_semicolon at_newline =
    subst (λ v. P (next (v ++ more))) (sym none) (ends_next more ends P at_semicolon at_newline)
list_tail_next found kind c more (inr (targets, j)) ends P at_assign at_semicolon at_newline =
    subst P (sym (token_next assign (Values (Assign found)) kind c more j)) at_assign

list_tail_ends : (found : List Expr) (kind : SmallKind) (c more : Input) → ListTail found kind c → EndsSmall more → EndsTests (c ++ more)
unfolding Ends
list_tail_ends found kind c more tail ends = record {
  level = list_tail_next found kind c more tail ends (λ k. reach k ≤ 0) (omega arith) (omega arith) (omega arith);
  no_comma = list_tail_next found kind c more tail ends (λ k. k ≢ Some comma) (λ e. cc) (λ e. cc) (λ e. cc);
}

-- what comes next after a test, where no mark such as `+=` does
listed_next : (x : Expr) (kind : SmallKind) (c more : Input) → Listed x kind c → EndsSmall more
    → (P : Option Token → Type 0) → P (Some comma) → P (Some assign) → P (Some semicolon) → P (Some t.Newline) → P (next (c ++ more))
listed_next x kind c more (found, c1, c2, r, tail, split) ends P at_comma at_assign at_semicolon at_newline =
    subst (λ v. P (next v)) (sym (ap (λ v. v ++ more) split ∙ append_assoc c1 c2 more))
    (more_next (x ∷ []) found c1 (c2 ++ more) r P at_comma (list_tail_next found kind c2 more tail ends P at_assign at_semicolon at_newline))

phrase_tail_ends : (x : Expr) (kind : SmallKind) (c more : Input) → PhraseTail x kind c → EndsSmall more → Ends 0 (c ++ more)
unfolding Ends
phrase_tail_ends x kind c more (inl (o, place, j)) ends =
    let a : reach (next (c ++ more)) ≡ 0 = ap reach (token_next (t.Mark (augmented_mark o)) (Values (Augmented x o)) kind c more j) ∙ reach_of_mark o in omega arith
phrase_tail_ends x kind c more (inr j) ends = listed_next x kind c more j ends (λ k. reach k ≤ 0) (omega arith) (omega arith) (omega arith) (omega arith)

phrase_there : (kind : SmallKind) (c : Input) → Phrase kind c → IsKind kind c
phrase_there kind c (x, c1, c2, r, inl (o, place, (u, c3, c4, (s, is, one), last, split2)), split) =
    let (values, r2, kind_is) = last_there IsTests (λ values. Augmented x o values) kind c4 last in
    let k : kinds c2 ≡ t.Mark (augmented_mark o) ∷ tests_spelling values =
    token_spelt (t.Mark (augmented_mark o)) s c2 c3 c4 is one split2 ∙ ap (λ v. t.Mark (augmented_mark o) ∷ v) r2.spelt in
    let held : IsKind (Augmented x o values) c = record {
      fits = (place, r.levelled, r2.fits);
      spelt = ap kinds split ∙ kinds_append c1 c2 ∙ ap (λ v. v ++ kinds c2) r.spelt ∙ ap (λ v. expr_spelling x ++ v) k;
    } in
    subst (λ v. IsKind v c) (sym kind_is) held
phrase_there kind c (x, c1, c2, r, inr (found, c3, c4, more, inl (kind_is, none), split2), split) =
    let whole : c ≡ c1 ++ c3 = split ∙ ap (λ v. c1 ++ v) (split2 ∙ ap (λ v. c3 ++ v) none ∙ append-nil c3) in
    let q = tests_from_more x found c c1 c3 r more whole in
    let held : IsKind (Tests found) c = record { fits = q.fits; spelt = q.spelt } in
    subst (λ v. IsKind v c) (sym kind_is) held
phrase_there kind c (x, c1, c2, r, inr (found, c3, c4, more, inr (targets, (u, c5, c6, (s, is, one), last, split3)), split2), split) =
    let (values, r2, kind_is) = last_there IsTests (λ values. Assign found values) kind c6 last in
    let q = tests_from_more x found (c1 ++ c3) c1 c3 r more refl in
    let k : kinds c4 ≡ assign ∷ tests_spelling values = token_spelt assign s c4 c5 c6 is one split3 ∙ ap (λ v. assign ∷ v) r2.spelt in
    let whole : c ≡ (c1 ++ c3) ++ c4 = split ∙ ap (λ v. c1 ++ v) split2 ∙ sym (append_assoc c1 c3 c4) in
    let held : IsKind (Assign found values) c = record {
      fits = ((q.fits.0, targets_all found targets), q.fits.1, r2.fits);
      spelt = ap kinds whole ∙ kinds_append (c1 ++ c3) c4 ∙ ap (λ v. v ++ kinds c4) q.spelt ∙ ap (λ v. tests_spelling found ++ v) k;
    } in
    subst (λ v. IsKind v c) (sym kind_is) held

tests_back : (found : List Expr) (c : Input) → IsKind (Tests found) c → Phrase (Tests found) c
tests_back [] c h = absurd (h.fits.0 refl)
tests_back (x ∷ xs) c h =
    let (c1, c2, r, more, split) = more_from_tests x xs c (record { fits = h.fits; spelt = h.spelt }) in
    (x, c1, c2, r, inr (x ∷ xs, c2, [], more, inl (refl, refl), sym (append-nil c2)), split)

assign_back : (found values : List Expr) (c : Input) → IsKind (Assign found values) c → Phrase (Assign found values) c
assign_back [] values c h = absurd (h.fits.0.0 refl)
assign_back (x ∷ xs) values c h =
    let (c12, c3, split, is1, is2) = kinds_split c (tests_spelling (x ∷ xs)) (assign ∷ tests_spelling values) h.spelt in
    let (s, c4, split3, is3, is4) = kinds_cons c3 assign (tests_spelling values) is2 in
    let (c1, c2, r, more, split2) = more_from_tests x xs c12 (record { fits = ((λ none. cc), h.fits.1); spelt = is1 }) in
    let last = last_back IsTests (λ values. Assign (x ∷ xs) values) (Assign (x ∷ xs) values) c4 values (record { fits = h.fits.2; spelt = is4 }) refl in (
      x,
      c1,
      c2 ++ c3,
      r,
      inr (x ∷ xs, c2, c3, more, inr (all_targets (x ∷ xs) h.fits.0.1, (tt, s ∷ [], c4, (s, is3, refl), last, split3)), refl),
      split ∙ ap (λ v. v ++ c3) split2 ∙ append_assoc c1 c2 c3,
    )

augmented_back : (x : Expr) (o : BinaryOp) (values : List Expr) (c : Input) → IsKind (Augmented x o values) c → Phrase (Augmented x o values) c
augmented_back x o values c h =
    let (c1, c2, split, is1, is2) = kinds_split c (expr_spelling x) (t.Mark (augmented_mark o) ∷ tests_spelling values) h.spelt in
    let (s, c3, split2, is3, is4) = kinds_cons c2 (t.Mark (augmented_mark o)) (tests_spelling values) is2 in
    let last = last_back IsTests (λ values. Augmented x o values) (Augmented x o values) c3 values (record { fits = h.fits.2; spelt = is4 }) refl in
    (x, c1, c2, record { levelled = h.fits.1; high = omega arith; spelt = is1 }, inl (o, h.fits.0, (tt, s ∷ [], c3, (s, is3, refl), last, split2)), split)

-- no phrase begins with this token
phrase_not_first : (k : Token) → starts k ≡ 0 → (kind : SmallKind) (c more : Input) → Phrase kind c → next (c ++ more) ≢ Some k
phrase_not_first k none kind c more (x, c1, c2, r, later, split) e =
    not_first k none c1 (c2 ++ more) (first_of 0 x c1 r) (ap next (sym (append_assoc c1 c2 more) ∙ ap (λ v. v ++ more) (sym split)) ∙ e)

-- ---- what begins with a word

-- the word that a small statement begins with, if it does
first_word : SmallKind → Option Keyword
first_word (Return values) = Some w.Return
first_word Break = Some w.Break
first_word Continue = Some w.Continue
first_word Pass = Some w.Pass
first_word _ = None

-- a word that begins no expression is the first one of the statement
kind_word : (word : Keyword) → starts (t.Word word) ≡ 0 → (kind : SmallKind) (c more : Input) → IsKind kind c → next (c ++ more) ≡ Some (t.Word word) → first_word kind ≡ Some word
unfolding first_word
kind_word word none (Return values) c more h look = let a : Some (t.Word w.Return) ≡ Some (t.Word word) = sym (next_kind c more (t.Word w.Return) (tests_spelling values) h.spelt) ∙ look in cc
kind_word word none Break c more h look = let a : Some (t.Word w.Break) ≡ Some (t.Word word) = sym (next_kind c more (t.Word w.Break) [] h.spelt) ∙ look in cc
kind_word word none Continue c more h look = let a : Some (t.Word w.Continue) ≡ Some (t.Word word) = sym (next_kind c more (t.Word w.Continue) [] h.spelt) ∙ look in cc
kind_word word none Pass c more h look = let a : Some (t.Word w.Pass) ≡ Some (t.Word word) = sym (next_kind c more (t.Word w.Pass) [] h.spelt) ∙ look in cc
kind_word word none (Assign found values) c more h look = absurd (phrase_not_first (t.Word word) none (Assign found values) c more (assign_back found values c h) look)
kind_word word none (Augmented x o values) c more h look = absurd (phrase_not_first (t.Word word) none (Augmented x o values) c more (augmented_back x o values c h) look)
kind_word word none (Tests found) c more h look = absurd (phrase_not_first (t.Word word) none (Tests found) c more (tests_back found c h) look)

-- where none of the words comes next
phrase_back : (kind : SmallKind) (c more : Input) → IsKind kind c → next (c ++ more) ≢ Some (t.Word w.Return) → next (c ++ more) ≢ Some (t.Word w.Break)
    → next (c ++ more) ≢ Some (t.Word w.Continue) → next (c ++ more) ≢ Some (t.Word w.Pass) → Phrase kind c
phrase_back (Return values) c more h returns breaks continues passes = absurd (returns (next_kind c more (t.Word w.Return) (tests_spelling values) h.spelt))
phrase_back Break c more h returns breaks continues passes = absurd (breaks (next_kind c more (t.Word w.Break) [] h.spelt))
phrase_back Continue c more h returns breaks continues passes = absurd (continues (next_kind c more (t.Word w.Continue) [] h.spelt))
phrase_back Pass c more h returns breaks continues passes = absurd (passes (next_kind c more (t.Word w.Pass) [] h.spelt))
phrase_back (Assign found values) c more h _ _ _ _ = assign_back found values c h
phrase_back (Augmented x o values) c more h _ _ _ _ = augmented_back x o values c h
phrase_back (Tests found) c more h _ _ _ _ = tests_back found c h

phrase_some : (kind : SmallKind) (c : Input) → Phrase kind c → c ≢ []
phrase_some kind c (x, c1, c2, r, later, split) none =
    let (s, d, is, low) = first_of 0 x c1 r in let a : s ∷ (d ++ c2) ≡ [] = ap (λ v. v ++ c2) (sym is) ∙ sym split ∙ none in cc

kind_some : (kind : SmallKind) (c : Input) → IsKind kind c → c ≢ []
kind_some (Return values) c h none = let a : [] ≡ t.Word w.Return ∷ tests_spelling values = ap kinds (sym none) ∙ h.spelt in cc
kind_some Break c h none = let a : [] ≡ t.Word w.Break ∷ [] = ap kinds (sym none) ∙ h.spelt in cc
kind_some Continue c h none = let a : [] ≡ t.Word w.Continue ∷ [] = ap kinds (sym none) ∙ h.spelt in cc
kind_some Pass c h none = let a : [] ≡ t.Word w.Pass ∷ [] = ap kinds (sym none) ∙ h.spelt in cc
kind_some (Assign found values) c h none = phrase_some (Assign found values) c (assign_back found values c h) none
kind_some (Augmented x o values) c h none = phrase_some (Augmented x o values) c (augmented_back x o values c h) none
kind_some (Tests found) c h none = phrase_some (Tests found) c (tests_back found c h) none

-- ---- a word alone

only_break : (kind : SmallKind) → first_word kind ≡ Some w.Break → kind ≡ Break
unfolding first_word
only_break Break h = refl
only_break _ h = absurd cc

only_continue : (kind : SmallKind) → first_word kind ≡ Some w.Continue → kind ≡ Continue
unfolding first_word
only_continue Continue h = refl
only_continue _ h = absurd cc

only_pass : (kind : SmallKind) → first_word kind ≡ Some w.Pass → kind ≡ Pass
unfolding first_word
only_pass Pass h = refl
only_pass _ h = absurd cc

word_exact : (word : Keyword) (kind : SmallKind) → KindFits kind → kind_spelling kind ≡ t.Word word ∷ [] → starts (t.Word word) ≡ 0
    → ((found : SmallKind) → first_word found ≡ Some word → found ≡ kind) → (ts : Input) → next ts ≡ Some (t.Word word) → Exact IsKind EndsSmall ts ((skip >> pure kind) ts)
word_exact word kind fits spells none only ts here =
    exact_by (Then (Tok (t.Word word)) (λ _. Just kind)) IsKind EndsSmall ts
    (λ found c j. let (is, spelt) = closed_there (t.Word word) kind found c j in
    let held : IsKind kind c = record { fits = fits; spelt = spelt ∙ sym spells } in subst (λ v. IsKind v c) (sym is) held)
    (λ found c more h ends look. let is = only found (kind_word word none found c more h (look ∙ here)) in
    closed_back (t.Word word) kind found c is (h.spelt ∙ ap kind_spelling is ∙ spells))
    _ (exact_token_then (t.Word word) (Just kind) EndsSmall (kind, [], (refl, refl)) ts (pure kind) (λ left _. exact_pure kind EndsSmall left) here)

-- ---- `return`

-- after the word
abbrev Returned : SmallKind → Input → Type 0
Returned kind c = (values : List Expr) × AllLevelled values × (kinds c ≡ tests_spelling values) × (kind ≡ Return values)

-- `return`, and what is returned
abbrev Returns : SmallKind → Input → Type 0
Returns = Then (Tok (t.Word w.Return)) (λ _. Returned)

returns_there : (kind : SmallKind) (c : Input) → Returns kind c → IsKind kind c
returns_there kind c (u, c1, c2, (s, is, one), (values, levelled, spelt, kind_is), split) =
    let held : IsKind (Return values) c = record { fits = levelled; spelt = token_spelt (t.Word w.Return) s c c1 c2 is one split ∙ ap (λ v. t.Word w.Return ∷ v) spelt } in
    subst (λ v. IsKind v c) (sym kind_is) held

returns_back : (kind : SmallKind) (c : Input) → IsKind kind c → first_word kind ≡ Some w.Return → Returns kind c
unfolding first_word
returns_back (Return values) c h word =
    let (s, c2, split, is, spelt) = kinds_cons c (t.Word w.Return) (tests_spelling values) h.spelt in
    (tt, s ∷ [], c2, (s, is, refl), (values, h.fits, spelt, refl), split)
returns_back _ c h word = absurd cc

none_returned : (kind : SmallKind) (c more : Input) → Returned kind c → ends_small (next (c ++ more)) ≡ true → Just (Return []) kind c
none_returned kind c more ([], levelled, spelt, kind_is) look = (kind_is, kinds_none c spelt)
none_returned kind c more (x ∷ xs, levelled, spelt, kind_is) look =
    let (s, d, is, low) = tests_first (x ∷ xs) c (record { fits = ((λ none. cc), levelled); spelt = spelt }) in
    let a : next (c ++ more) ≡ Some s.token = ap (λ v. next (v ++ more)) is in
    absurd (elim (ends_small_is (next (c ++ more)) look) [
      | inl e ↦ (let b : Some s.token ≡ Some semicolon = sym a ∙ e in let f : s.token ≡ semicolon = cc in let g : starts s.token ≡ 0 = ap starts f in absurd (omega arith))
      | inr e ↦ (let b : Some s.token ≡ Some t.Newline = sym a ∙ e in let f : s.token ≡ t.Newline = cc in let g : starts s.token ≡ 0 = ap starts f in absurd (omega arith))
    ])

some_returned : (kind : SmallKind) (c more : Input) → Returned kind c → EndsSmall more → ends_small (next (c ++ more)) ≡ false → Values (λ values. Return values) kind c
some_returned kind c more ([], levelled, spelt, kind_is) ends look =
    absurd (let a : ends_small (next (c ++ more)) ≡ true = ap (λ v. ends_small (next (v ++ more))) (kinds_none c spelt) ∙ small_ends more ends in let both : true ≡ false = sym a ∙ look in cc)
some_returned kind c more (x ∷ xs, levelled, spelt, kind_is) ends look =
    last_back IsTests (λ values. Return values) kind c (x ∷ xs) (record { fits = ((λ none. cc), levelled); spelt = spelt }) kind_is

-- ---- the readers

module _ (expr : Level → Reader Expr) (bound : ℕ) (below : Inside expr bound) where
  values_exact : (make : List Expr → SmallKind) (ts : Input) → length ts < bound → Exact (Values make) EndsSmall ts (and_then (tests expr ts) (λ values. pure (make values)))
  values_exact make ts few = exact_last IsTests EndsTests EndsSmall ends_tests make ts (tests expr ts) (tests_exact expr bound below ts few)

  list_tail_exact : (found : List Expr) (ts : Input) → length ts ≤ bound → (b : Bool) → (is_mark m.Assign (next ts) && are_targets found) ≡ b
      → Exact (ListTail found) EndsSmall ts (assigned_by expr found b ts)
  unfolding assigned
  list_tail_exact found ts few true is =
      let (a, targets) = both_true (is_mark m.Assign (next ts)) (are_targets found) is in
      let here = mark_is m.Assign (next ts) a in
      exact_by (Assigns found) (ListTail found) EndsSmall ts (λ kind c j. inr (targets, j))
      (λ kind c more tail ends look. elim tail [
        | inl (_, none) ↦ absurd (ends_next more ends (λ k. k ≢ Some assign) (λ e. cc) (λ e. cc) (ap (λ v. next (v ++ more)) (sym none) ∙ look ∙ here))
        | inr (_, j) ↦ j
      ])
      _ (exact_token_then assign (Values (Assign found)) EndsSmall (some_values (λ values. Assign found values)) ts (assigned expr found)
      (λ left less. values_exact (λ values. Assign found values) left (omega arith)) here)
  list_tail_exact found ts few false is =
      exact_by (Just (Tests found)) (ListTail found) EndsSmall ts (λ kind c j. inl j)
      (λ kind c more tail ends look. elim tail [
        | inl j ↦ j
        | inr (targets, j) ↦
            (let here : next ts ≡ Some assign = sym look ∙ token_next assign (Values (Assign found)) kind c more j in
            let a : is_mark m.Assign (next ts) ≡ true = ap (is_mark m.Assign) here ∙ is_mark_itself m.Assign in
            absurd (let both : true ≡ false = sym (rw (a, targets) refl) ∙ is in cc))
      ])
      _ (exact_pure (Tests found) EndsSmall ts)

  listed_exact : (x : Expr) (ts : Input) → length ts ≤ bound → Exact (Listed x) EndsSmall ts (listed expr x ts)
  unfolding listed
  listed_exact x ts few =
      exact_then (AreMore (x ∷ [])) ListTail EndsTests EndsSmall (λ found kind c1 c2 more _ tail ends. list_tail_ends found kind c2 more tail ends)
      (λ found c r. (Tests found, [], inl (refl, refl)))
      ts (tests_after expr (length ts) (x ∷ []) ts) (λ found. peek >>= λ token. assigned_by expr found (is_mark m.Assign token && are_targets found))
      (tests_after_exact expr bound below (length ts) (x ∷ []) ts (omega arith) few)
      (λ found left taken split r. list_tail_exact found left (let a = length_after ts taken left split in omega arith) (is_mark m.Assign (next left) && are_targets found) refl)

  phrase_tail_exact : (x : Expr) (ts : Input) → length ts ≤ bound → (o : Option BinaryOp) → place_op x (next ts) ≡ o → Exact (PhraseTail x) EndsSmall ts (phrase_by expr x o ts)
  unfolding augmented
  phrase_tail_exact x ts few (Some o) is =
      let (place, here) = place_op_is x (next ts) o is in
      exact_by (Stores x o) (PhraseTail x) EndsSmall ts (λ kind c j. inl (o, place, j))
      (λ kind c more tail ends look. elim tail [
        | inl (p, _, j) ↦
            (let a : Some (t.Mark (augmented_mark p)) ≡ Some (t.Mark (augmented_mark o)) = sym (token_next (t.Mark (augmented_mark p)) (Values (Augmented x p)) kind c more j) ∙ look ∙ here in
            let b : Some p ≡ Some o = sym (op_of_mark p) ∙ ap augmented_op a ∙ op_of_mark o in
            subst (λ v. Stores x v kind c) (let d : p ≡ o = cc in d) j)
        | inr j ↦
            (let a : augmented_op (next (c ++ more)) ≡ None = listed_next x kind c more j ends (λ k. augmented_op k ≡ None) refl refl refl refl in
            let b : augmented_op (next (c ++ more)) ≡ Some o = ap augmented_op (look ∙ here) ∙ op_of_mark o in
            absurd (let both : None ≡ Some o = sym a ∙ b in cc))
      ])
      _ (exact_token_then (t.Mark (augmented_mark o)) (Values (Augmented x o)) EndsSmall (some_values (λ values. Augmented x o values)) ts (augmented expr x o)
      (λ left less. values_exact (λ values. Augmented x o values) left (omega arith)) here)
  phrase_tail_exact x ts few None is =
      exact_by (Listed x) (PhraseTail x) EndsSmall ts (λ kind c j. inr j)
      (λ kind c more tail ends look. elim tail [
        | inl (p, place, j) ↦
            (let here : next ts ≡ Some (t.Mark (augmented_mark p)) = sym look ∙ token_next (t.Mark (augmented_mark p)) (Values (Augmented x p)) kind c more j in
            absurd (let both : None ≡ Some p = sym is ∙ ap (place_op x) here ∙ is_place_op x p place in cc))
        | inr j ↦ j
      ])
      _ (listed_exact x ts few)

  phrase_exact : (ts : Input) → length ts < bound → Exact Phrase EndsSmall ts (phrase expr ts)
  unfolding phrase
  phrase_exact ts few =
      exact_then (IsExpr 0) PhraseTail (Ends 0) EndsSmall (λ x kind c1 c2 more _ tail ends. phrase_tail_ends x kind c2 more tail ends)
      (λ x c r. let (found, d, q) = some_more (x ∷ []) in (Tests found, d, inr (found, d, [], q, inl (refl, refl), sym (append-nil d))))
      ts (expr level.Test ts) (λ x. peek >>= λ token. phrase_by expr x (place_op x token)) (below level.Test ts few)
      (λ x left taken split r. phrase_tail_exact x left (let a = length_after ts taken left split in omega arith) (place_op x (next left)) refl)

  returned_by : (ts : Input) → length ts < bound → (b : Bool) → ends_small (next ts) ≡ b
      → Exact Returned EndsSmall ts ((if b then pure (Return []) else (tests expr >>= λ values. pure (Return values))) ts)
  returned_by ts few true is =
      exact_by (Just (Return [])) Returned EndsSmall ts (λ kind c (kind_is, none). ([], tt, ap kinds none, kind_is))
      (λ kind c more h ends look. none_returned kind c more h (ap ends_small look ∙ is))
      _ (exact_pure (Return []) EndsSmall ts)
  returned_by ts few false is =
      exact_by (Values (λ values. Return values)) Returned EndsSmall ts
      (λ kind c j. let (values, r, kind_is) = last_there IsTests (λ values. Return values) kind c j in (values, r.fits.1, r.spelt, kind_is))
      (λ kind c more h ends look. some_returned kind c more h ends (ap ends_small look ∙ is))
      _ (values_exact (λ values. Return values) ts few)

  returned_exact : (ts : Input) → length ts < bound → Exact Returned EndsSmall ts (returned expr ts)
  unfolding returned
  returned_exact ts few = returned_by ts few (ends_small (next ts)) refl

  -- small statements without their lines are read exactly
  pub kind_exact : (ts : Input) → length ts < bound → Exact IsKind EndsSmall ts (small_kind expr ts)
  unfolding small_kind
  kind_exact ts few =
      let passes : Reader SmallKind = (eat_word w.Pass >>= λ so. if so then pure Pass else phrase expr) in
      let continues : Reader SmallKind = (eat_word w.Continue >>= λ so. if so then pure Continue else passes) in
      let breaks : Reader SmallKind = (eat_word w.Break >>= λ so. if so then pure Break else continues) in
      exact_eat_word IsKind EndsSmall (returned expr) breaks ts w.Return
      (λ here. exact_by Returns IsKind EndsSmall ts returns_there
      (λ kind c more h ends look. returns_back kind c h (kind_word w.Return refl kind c more h (look ∙ here)))
      _ (exact_token_then (t.Word w.Return) Returned EndsSmall (Return [], [], ([], tt, refl, refl)) ts (returned expr) (λ left less. returned_exact left (omega arith)) here))
      (λ no_return. exact_eat_word IsKind EndsSmall (pure Break) continues ts w.Break (λ here. word_exact w.Break Break tt refl refl only_break ts here)
      (λ no_break. exact_eat_word IsKind EndsSmall (pure Continue) passes ts w.Continue (λ here. word_exact w.Continue Continue tt refl refl only_continue ts here)
      (λ no_continue. exact_eat_word IsKind EndsSmall (pure Pass) (phrase expr) ts w.Pass (λ here. word_exact w.Pass Pass tt refl refl only_pass ts here)
      (λ no_pass. exact_by Phrase IsKind EndsSmall ts phrase_there
      (λ kind c more h ends look. phrase_back kind c more h (λ e. no_return (sym look ∙ e)) (λ e. no_break (sym look ∙ e)) (λ e. no_continue (sym look ∙ e)) (λ e. no_pass (sym look ∙ e)))
      _ (phrase_exact ts few)))))

-- ---- with their lines

-- the small statement on a line
abbrev on : ℕ → SmallKind → Small
on line kind = record { line = line; kind = kind }

-- the tokens spell the small statement, which stands on this line
abbrev SmallOn : ℕ → Small → Input → Type 0
SmallOn line x c = IsKind x.kind c × (x.line ≡ line)

-- the tokens spell the small statement, and its line is that of the first of them
abbrev pub IsSmall : Small → Input → Type 0
IsSmall x c = SmallOn (first_line c) x c

-- the tokens of a small statement are those that it claims
pub small_there : (x : Small) (c : Input) → IsSmall x c → KindFits x.kind × Matches c (small_claims x)
unfolding small_spelling
small_there x c (h, at) =
    (h.fits, matches_first x.line c (kind_spelling x.kind) (λ none. kind_some x.kind c h (kinds_none c (h.spelt ∙ none))) h.spelt at)

-- tokens that a small statement claims spell it
pub small_back : (x : Small) (c : Input) → KindFits x.kind → Matches c (small_claims x) → IsSmall x c
unfolding small_spelling
small_back x c fits h = by_spelling (kind_spelling x.kind) refl
  where
    by_spelling : (ks : Tokens) → kind_spelling x.kind ≡ ks → IsSmall x c
    by_spelling [] is = absurd (kind_some x.kind [] (record { fits = fits; spelt = sym is }) refl)
    by_spelling (k ∷ ks) is =
        let (spelt, at) = first_matches x.line c (kind_spelling x.kind) (λ none. let a : k ∷ ks ≡ [] = sym is ∙ none in cc) h in
        (record { fits = fits; spelt = spelt }, at)

-- some small statement
pub some_small : (x : Small) × (c : Input) × IsSmall x c
some_small = let s = some_token (t.Word w.Pass) in (on 0 Pass, s ∷ [], (record { fits = tt; spelt = refl }, refl))

-- a small statement is spelled with some token
pub small_some : (x : Small) (c : Input) → IsSmall x c → c ≢ []
small_some x c h = kind_some x.kind c h.0

-- ---- first tokens

-- the token begins small statements, where this is not 0
abbrev pub small_starts : Token → ℕ
small_starts (t.Word w.Return) = 1
small_starts (t.Word w.Break) = 1
small_starts (t.Word w.Continue) = 1
small_starts (t.Word w.Pass) = 1
small_starts k = starts k

starts_small : (k : Token) → starts k ≤ small_starts k
starts_small (t.Word w.Return) = omega arith
starts_small (t.Word w.Break) = omega arith
starts_small (t.Word w.Continue) = omega arith
starts_small (t.Word w.Pass) = omega arith
starts_small _ = omega arith

word_first : (k : Token) (ks : Tokens) (c : Input) → kinds c ≡ k ∷ ks → 0 < small_starts k → (s : Spanned) × (d : Input) × (c ≡ s ∷ d) × (0 < small_starts s.token)
word_first k ks c h low = let (s, d, split, is, later) = kinds_cons c k ks h in (s, d, split, subst (λ v. 0 < small_starts v) (sym is) low)

phrase_first : (kind : SmallKind) (c : Input) → Phrase kind c → (s : Spanned) × (d : Input) × (c ≡ s ∷ d) × (0 < small_starts s.token)
phrase_first kind c (x, c1, c2, r, later, split) =
    let (s, d, is, low) = first_of 0 x c1 r in
    let a = starts_small s.token in
    (s, d ++ c2, split ∙ ap (λ v. v ++ c2) is, omega arith)

kind_first : (kind : SmallKind) (c : Input) → IsKind kind c → (s : Spanned) × (d : Input) × (c ≡ s ∷ d) × (0 < small_starts s.token)
kind_first (Return values) c h = word_first (t.Word w.Return) (tests_spelling values) c h.spelt (omega arith)
kind_first Break c h = word_first (t.Word w.Break) [] c h.spelt (omega arith)
kind_first Continue c h = word_first (t.Word w.Continue) [] c h.spelt (omega arith)
kind_first Pass c h = word_first (t.Word w.Pass) [] c h.spelt (omega arith)
kind_first (Assign found values) c h = phrase_first (Assign found values) c (assign_back found values c h)
kind_first (Augmented x o values) c h = phrase_first (Augmented x o values) c (augmented_back x o values c h)
kind_first (Tests found) c h = phrase_first (Tests found) c (tests_back found c h)

-- the first token of a small statement
pub small_first : (x : Small) (c : Input) → IsSmall x c → (s : Spanned) × (d : Input) × (c ≡ s ∷ d) × (0 < small_starts s.token)
small_first x c h = kind_first x.kind c h.0

module _ (expr : Level → Reader Expr) (bound : ℕ) (below : Inside expr bound) where
  -- small statements are read exactly
  pub small_exact : (ts : Input) → length ts < bound → Exact IsSmall EndsSmall ts (small expr ts)
  unfolding small
  small_exact ts few =
      exact_here SmallOn EndsSmall (λ line x c h. kind_some x.kind c h.0) (λ line other x c h. (on other x.kind, (h.0, refl))) ts _
      (exact_same (Then IsKind (λ kind. Just (on (first_line ts) kind))) (SmallOn (first_line ts)) EndsSmall
      (λ x c j. let (kind, r, is) = last_there IsKind (on (first_line ts)) x c j in
      let held : SmallOn (first_line ts) (on (first_line ts) kind) c = (r, refl) in subst (λ v. SmallOn (first_line ts) v c) (sym is) held)
      (λ x c (h, at). last_back IsKind (on (first_line ts)) x c x.kind h (ap (λ n. on n x.kind) at))
      ts _ (exact_last IsKind EndsSmall EndsSmall (λ more ends. ends) (on (first_line ts)) ts (small_kind expr ts) (kind_exact expr bound below ts few)))
