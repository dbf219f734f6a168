-- The arguments of a call are read exactly.
use Rattle.std.proofs.Common.{◌≡◌, ◌≢◌, ◌∙◌, ◌⊎◌, inl, inr, ℕ, zero, suc, ◌+◌, ◌≤◌, ◌<◌, Bool, true, false, List, [], ◌∷◌, ◌++◌, map, Option, Some, None, refl, sym, ap, subst, arith, append_assoc, length}
use Rattle.std.proofs.lemmas.List.{append-nil}
use Rattle.std.specs.Prelude.{if◌then◌else◌}
use Rattle.std.specs.List.{flat_map, AllByRecursion}
use Rattle.star_syntax.specs.declared.token.Token.{Token}
use Rattle.star_syntax.specs.declared.token.Token.TheVariants as t
use Rattle.star_syntax.specs.declared.token.Mark.TheVariants as m
use Rattle.star_syntax.specs.declared.expression.Named.{Named}
use Rattle.star_syntax.specs.declared.expression.Arguments.{Arguments}
use Rattle.star_syntax.specs.declared.expression.Expr.{Expr, out-Expr, roll-Expr, out-roll-Expr, roll-out-Expr}
use Rattle.star_syntax.specs.declared.expression.Expr.TheOpen.{Expr-F}
use Rattle.star_syntax.specs.declared.expression.Expr.TheVariants as e
use Rattle.star_syntax.specs.Spelling.{Tokens, expr_spelling, default_spelling, listed, if_written}
use Rattle.star_syntax.specs.SpellingOfParts.{listed_arguments}
use Rattle.star_syntax.specs.Levels.{IsLevelled, ArgumentsFit}
use Rattle.star_syntax.proofs.Levelled.{EachArgument, levelled_made}
use Rattle.star_syntax.proofs.SpellingLemmas.{spells-Name}
use Rattle.star_parser.specs.declared.level.Level.{Level}
use Rattle.star_parser.specs.declared.level.Level.TheVariants as level
use Rattle.star_parser.specs.Reading.{Input, Reader, ◌>>=◌, pure, next, kinds}
use Rattle.star_parser.specs.Tables.{eat, expect, expect_name}
use Rattle.star_parser.specs.Readers.{arguments_of, layer_name, name_of, named_from, positional_by, argument_by, arguments_from, arguments}
use Rattle.star_parser.specs.Starts.{starts}
use Rattle.star_parser.specs.Ends.{Ends}
use Rattle.star_parser.proofs.Exact.{Exact, Then, Just, exact_refuse, exact_then, exact_by, exact_same}
use Rattle.star_parser.proofs.Steps.{Tok, some_token, exact_token_then, exact_expected_then, exact_eat, token_next}
use Rattle.star_parser.proofs.Words.{NameToken, exact_name_then}
use Rattle.star_parser.proofs.Bracketed.{Any, Inside, comma, Closes, closes_there, closes_back, some_closes, closes_exact, not_first}
use Rattle.star_parser.proofs.Closing.{Tail, some_tail, tail_ends, tail_next, tail_exact, token_spelt, token_ends}
use Rattle.star_parser.proofs.Rules.{IsExpr, kinds_split, kinds_cons, kinds_append, length_after, some_is}
use Rattle.star_parser.proofs.First.{first_of}

-- the bracket that ends arguments
abbrev pub close : Token
close = t.Mark m.CloseRound

-- the mark between a name and its value
abbrev pub assign : Token
assign = t.Mark m.Assign

-- `name = value`
abbrev pub named_as : List ℕ → Expr → Named Expr
named_as name value = record { name = name; value = value }

-- a comma at the end, and the bracket
abbrev pub ending : Bool → Tokens
ending written = if_written written m.Comma ++ close ∷ []

-- phrases with a comma before each
abbrev pub commas : List Tokens → Tokens
commas = flat_map (λ y. comma ∷ y)

pub commas_of : (phrases : List Tokens) → phrases ≢ [] → commas phrases ≡ comma ∷ listed phrases
commas_of [] some = absurd (some refl)
commas_of (x ∷ more) some = refl

-- ---- names of named arguments

name_of_is : (x : Expr) (name : List ℕ) → name_of x ≡ Some name → x ≡ e.Name name
unfolding name_of
name_of_is x name h = sym (roll-out-Expr x) ∙ by_layer (out-Expr x) h
  where
    by_layer : (d : Expr-F Expr) → layer_name d ≡ Some name → roll-Expr d ≡ e.Name name
    by_layer (Expr-F.Name found) h = let a : found ≡ name = cc in ap (λ v. roll-Expr (Expr-F.Name v)) a ∙ e.rolls-Name name
    by_layer _ h = absurd cc

name_of_name : (name : List ℕ) → name_of (e.Name name) ≡ Some name
unfolding name_of
name_of_name name = ap (λ v. layer_name (out-Expr v)) (sym (e.rolls-Name name)) ∙ ap layer_name (out-roll-Expr (Expr-F.Name name))

-- a name that is one token is an expression
name_is : (x : Expr) (name : List ℕ) (c : Input) → x ≡ e.Name name → kinds c ≡ t.Name name ∷ [] → IsExpr 0 x c
name_is x name c is spelt = record {
  levelled = subst IsLevelled (e.rolls-Name name ∙ sym is) (levelled_made (Expr-F.Name name) tt tt);
  high = omega arith;
  spelt = spelt ∙ sym (spells-Name name) ∙ ap expr_spelling (sym is);
}

name_spelt : (x : Expr) (name : List ℕ) (c : Input) → x ≡ e.Name name → IsExpr 0 x c → kinds c ≡ t.Name name ∷ []
name_spelt x name c is r = r.spelt ∙ ap expr_spelling is ∙ spells-Name name

-- ---- named arguments

-- each value is levelled
abbrev pub NamedLevelled : List (Named Expr) → Type 0
NamedLevelled = AllByRecursion (λ named. IsLevelled named.value)

-- what each spells
abbrev pub phrases : List (Named Expr) → List Tokens
phrases = map default_spelling

-- after a name and `=`: the value, and more named arguments up to the bracket
pub record AreNamed (positional : List Expr) (found : List (Named Expr)) (name : List ℕ) (all : Arguments Expr) (c : Input) : Type 0 where
  pub value : Expr
  pub others : List (Named Expr)
  pub written : Bool
  pub whole : all ≡ arguments_of positional (found ++ named_as name value ∷ others) written
  pub levelled : IsLevelled value
  pub others_levelled : NamedLevelled others
  pub spelt : kinds c ≡ expr_spelling value ++ (commas (phrases others) ++ ending written)

-- a further one
abbrev NamedMore : List Expr → List (Named Expr) → Arguments Expr → Input → Type 0
NamedMore positional found = Then NameToken (λ name. Then (Tok assign) (λ _. AreNamed positional found name))

-- what follows a value
abbrev NamedTail : List Expr → List (Named Expr) → Arguments Expr → Input → Type 0
NamedTail positional found = Tail m.CloseRound (arguments_of positional found false) (arguments_of positional found true) (NamedMore positional found)

-- a value and what follows it
abbrev NamedWhole : List Expr → List (Named Expr) → List ℕ → Arguments Expr → Input → Type 0
NamedWhole positional found name = Then (IsExpr 0) (λ value. NamedTail positional (found ++ named_as name value ∷ []))

-- what is spelled after a value
spelt_after : (x : Expr) (c c1 c2 : Input) (later : Tokens) → IsExpr 0 x c1 → c ≡ c1 ++ c2 → kinds c2 ≡ later → kinds c ≡ expr_spelling x ++ later
spelt_after x c c1 c2 later r split is = ap kinds split ∙ kinds_append c1 c2 ∙ ap (λ v. v ++ kinds c2) r.spelt ∙ ap (λ v. expr_spelling x ++ v) is

named_there : (positional : List Expr) (found : List (Named Expr)) (name : List ℕ) (all : Arguments Expr) (c : Input)
    → NamedWhole positional found name all c → AreNamed positional found name all c
named_there positional found name all c (x, c1, c2, r, inl closed, split) =
    let (is, spelt) = closes_there m.CloseRound (arguments_of positional (found ++ named_as name x ∷ []) false) all c2 closed in
    record { value = x; others = []; written = false; whole = is; levelled = r.levelled; others_levelled = tt; spelt = spelt_after x c c1 c2 (close ∷ []) r split spelt }
named_there positional found name all c (x, c1, c2, r, inr (u, c3, c4, (s, s_is, one), inl closed, split2), split) =
    let (is, spelt) = closes_there m.CloseRound (arguments_of positional (found ++ named_as name x ∷ []) true) all c4 closed in
    record {
      value = x;
      others = [];
      written = true;
      whole = is;
      levelled = r.levelled;
      others_levelled = tt;
      spelt = spelt_after x c c1 c2 (comma ∷ close ∷ []) r split (token_spelt comma s c2 c3 c4 s_is one split2 ∙ ap (λ v. comma ∷ v) spelt);
    }
named_there positional found name all c (x, c1, c2, r, inr (u, c3, c4, (s, s_is, one), inr (n, c5, c6, (s2, s2_is, one2), (u2, c7, c8, (s3, s3_is, one3), more, split4), split3), split2), split) =
    let y = named_as n more.value in
    let k8 : kinds c6 ≡ assign ∷ kinds c8 = token_spelt assign s3 c6 c7 c8 s3_is one3 split4 in
    let k6 : kinds c4 ≡ t.Name n ∷ kinds c6 = token_spelt (t.Name n) s2 c4 c5 c6 s2_is one2 split3 in
    let k4 : kinds c2 ≡ comma ∷ kinds c4 = token_spelt comma s c2 c3 c4 s_is one split2 in
    let last : kinds c2 ≡ comma ∷ t.Name n ∷ assign ∷ (expr_spelling more.value ++ (commas (phrases more.others) ++ ending more.written)) =
    k4 ∙ ap (λ v. comma ∷ v) (k6 ∙ ap (λ v. t.Name n ∷ v) (k8 ∙ ap (λ v. assign ∷ v) more.spelt)) in
    record {
      value = x;
      others = y ∷ more.others;
      written = more.written;
      whole = more.whole ∙ ap (λ v. arguments_of positional v more.written) (append_assoc found (named_as name x ∷ []) (y ∷ more.others));
      levelled = r.levelled;
      others_levelled = (more.levelled, more.others_levelled);
      spelt = spelt_after x c c1 c2 _ r split (last ∙ ap (λ v. comma ∷ t.Name n ∷ assign ∷ v) (sym (append_assoc (expr_spelling more.value) (commas (phrases more.others)) (ending more.written))));
    }

named_by : (positional : List Expr) (found : List (Named Expr)) (name : List ℕ) (all : Arguments Expr) (c : Input) (x : Expr) (others : List (Named Expr)) (written : Bool)
    → all ≡ arguments_of positional (found ++ named_as name x ∷ others) written → IsLevelled x → NamedLevelled others
    → kinds c ≡ expr_spelling x ++ (commas (phrases others) ++ ending written) → NamedWhole positional found name all c
named_by positional found name all c x [] false is levelled others_levelled spelt =
    let (c1, c2, split, is1, is2) = kinds_split c (expr_spelling x) (close ∷ []) spelt in
    (x, c1, c2, record { levelled = levelled; high = omega arith; spelt = is1 }, inl (closes_back m.CloseRound _ all c2 is is2), split)
named_by positional found name all c x [] true is levelled others_levelled spelt =
    let (c1, c2, split, is1, is2) = kinds_split c (expr_spelling x) (comma ∷ close ∷ []) spelt in
    let (s, c3, split2, is3, is4) = kinds_cons c2 comma (close ∷ []) is2 in
    (x, c1, c2, record { levelled = levelled; high = omega arith; spelt = is1 }, inr (tt, s ∷ [], c3, (s, is3, refl), inl (closes_back m.CloseRound _ all c3 is is4), split2), split)
named_by positional found name all c x (y ∷ ys) written is levelled others_levelled spelt =
    let later : Tokens = expr_spelling y.value ++ (commas (phrases ys) ++ ending written) in
    let (c1, c2, split, is1, is2) = kinds_split c (expr_spelling x) (comma ∷ t.Name y.name ∷ assign ∷ later)
    (spelt ∙ ap (λ v. expr_spelling x ++ comma ∷ t.Name y.name ∷ assign ∷ v) (append_assoc (expr_spelling y.value) (commas (phrases ys)) (ending written))) in
    let (s, c3, split2, is3, is4) = kinds_cons c2 comma (t.Name y.name ∷ assign ∷ later) is2 in
    let (s2, c4, split3, is5, is6) = kinds_cons c3 (t.Name y.name) (assign ∷ later) is4 in
    let (s3, c5, split4, is7, is8) = kinds_cons c4 assign later is6 in
    let rest : AreNamed positional (found ++ named_as name x ∷ []) y.name all c5 = record {
      value = y.value;
      others = ys;
      written = written;
      whole = is ∙ ap (λ v. arguments_of positional v written) (sym (append_assoc found (named_as name x ∷ []) (y ∷ ys)));
      levelled = others_levelled.0;
      others_levelled = others_levelled.1;
      spelt = is8;
    } in (
      x,
      c1,
      c2,
      record { levelled = levelled; high = omega arith; spelt = is1 },
      inr (tt, s ∷ [], c3, (s, is3, refl), inr (y.name, s2 ∷ [], c4, (s2, is5, refl), (tt, s3 ∷ [], c5, (s3, is7, refl), rest, split4), split3), split2),
      split,
    )

named_back : (positional : List Expr) (found : List (Named Expr)) (name : List ℕ) (all : Arguments Expr) (c : Input)
    → AreNamed positional found name all c → NamedWhole positional found name all c
named_back positional found name all c h = named_by positional found name all c h.value h.others h.written h.whole h.levelled h.others_levelled h.spelt

pub some_named : (positional : List Expr) (found : List (Named Expr)) (name : List ℕ) → (all : Arguments Expr) × (c : Input) × AreNamed positional found name all c
some_named positional found name =
    let (x, c, r) = some_is 0 (omega arith) in
    let (y, d, q) = some_closes m.CloseRound (arguments_of positional (found ++ named_as name x ∷ []) false) in
    (y, c ++ d, named_there positional found name y (c ++ d) (x, c, d, r, inl q, refl))

-- no rule that begins with an expression begins with this token
expr_not_first : {T : Type 0} (k : Token) → starts k ≡ 0 → (RT : Expr → T → Input → Type 0) (x : T) (c more : Input) → Then (IsExpr 0) RT x c → next (c ++ more) ≢ Some k
expr_not_first k none RT x c more (y, c1, c2, r, later, split) is =
    not_first k none c1 (c2 ++ more) (first_of 0 y c1 r) (ap next (sym (append_assoc c1 c2 more) ∙ ap (λ v. v ++ more) (sym split)) ∙ is)

-- where nothing is left no expression begins
expr_not_none : {T : Type 0} (RT : Expr → T → Input → Type 0) (x : T) (c more : Input) → Then (IsExpr 0) RT x c → next (c ++ more) ≢ None
expr_not_none RT x c more (y, c1, c2, r, later, split) is =
    let (s, c3, one, low) = first_of 0 y c1 r in
    let a : Some s.token ≡ None = ap (λ v. next ((v ++ c2) ++ more)) (sym one) ∙ ap (λ v. next (v ++ more)) (sym split) ∙ is in cc

named_ends : (positional : List Expr) (found : List (Named Expr)) (all : Arguments Expr) (c more : Input) → NamedTail positional found all c → Ends 0 (c ++ more)
named_ends positional found all c more tail =
    tail_ends m.CloseRound refl (arguments_of positional found false) (arguments_of positional found true) (NamedMore positional found) all c more tail

some_named_tail : (positional : List Expr) (found : List (Named Expr)) → (all : Arguments Expr) × (c : Input) × NamedTail positional found all c
some_named_tail positional found = some_tail m.CloseRound (arguments_of positional found false) (arguments_of positional found true) (NamedMore positional found)

more_not_first : (positional : List Expr) (found : List (Named Expr)) (all : Arguments Expr) (c more : Input) → NamedMore positional found all c → next (c ++ more) ≢ Some close
more_not_first positional found all c more (name, c1, c2, (s, is, one), later, split) look =
    let a : Some (t.Name name) ≡ Some close = ap Some (sym is) ∙ ap (λ v. next (v ++ more)) (sym (split ∙ ap (λ v. v ++ c2) one)) ∙ look in cc

module _ (expr : Level → Reader Expr) (bound : ℕ) (inside : Inside expr bound) where
  named_more_exact : (positional : List Expr) (found : List (Named Expr)) (p : List ℕ → Reader (Arguments Expr)) (ts : Input)
      → ((name : List ℕ) (left : Input) → length left < length ts → Exact (AreNamed positional found name) Any left (p name left))
      → Exact (NamedMore positional found) Any ts ((expect_name >>= λ name. expect m.Assign >>= λ _. p name) ts)
  named_more_exact positional found p ts later =
      exact_name_then (λ name. Then (Tok assign) (λ _. AreNamed positional found name)) Any
      (λ name. let (all, c, r) = some_named positional found name in let s = some_token assign in (all, s ∷ c, (tt, s ∷ [], c, (s, refl, refl), r, refl)))
      ts (λ name. expect m.Assign >>= λ _. p name)
      (λ name left less. exact_expected_then (AreNamed positional found name) Any (some_named positional found name) left (p name) (λ left2 less2. later name left2 (omega arith)) m.Assign)

  pub named_exact : (n : ℕ) (positional : List Expr) (found : List (Named Expr)) (name : List ℕ) (ts : Input) → length ts ≤ n → length ts < bound
      → Exact (AreNamed positional found name) Any ts (named_from expr n positional found name ts)
  unfolding named_from
  named_exact zero positional found name [] few small = exact_refuse (AreNamed positional found name) Any [] (some_named positional found name)
      (λ all c more h _ look. expr_not_none (λ value. NamedTail positional (found ++ named_as name value ∷ [])) all c more (named_back positional found name all c h) look)
  named_exact zero positional found name (s ∷ ts) few small = absurd (omega arith)
  named_exact (suc n) positional found name ts few small =
      exact_same (NamedWhole positional found name) (AreNamed positional found name) Any (named_there positional found name) (named_back positional found name) ts _
      (exact_then (IsExpr 0) (λ value. NamedTail positional (found ++ named_as name value ∷ [])) (Ends 0) Any
      (λ value all c1 c2 more _ tail _. named_ends positional (found ++ named_as name value ∷ []) all c2 more tail)
      (λ value c r. some_named_tail positional (found ++ named_as name value ∷ []))
      ts (expr level.Test ts)
      (λ value. eat m.CloseRound >>= λ ended. if ended then pure (arguments_of positional (found ++ named_as name value ∷ []) false) else
      (expect m.Comma >>= λ _. eat m.CloseRound >>= λ closed. if closed then pure (arguments_of positional (found ++ named_as name value ∷ []) true) else
      (expect_name >>= λ next_name. expect m.Assign >>= λ _. named_from expr n positional (found ++ named_as name value ∷ []) next_name)))
      (inside level.Test ts small)
      (λ value left taken split r. tail_exact m.CloseRound (λ same. cc) (arguments_of positional (found ++ named_as name value ∷ []) false)
      (arguments_of positional (found ++ named_as name value ∷ []) true) (NamedMore positional (found ++ named_as name value ∷ [])) (more_not_first positional (found ++ named_as name value ∷ []))
      (expect_name >>= λ next_name. expect m.Assign >>= λ _. named_from expr n positional (found ++ named_as name value ∷ []) next_name) left
      (λ left2 less. let a = length_after ts taken left split in named_more_exact positional (found ++ named_as name value ∷ []) (named_from expr n positional (found ++ named_as name value ∷ [])) left2
      (λ next_name left3 less2. named_exact n positional (found ++ named_as name value ∷ []) next_name left3 (omega arith) (omega arith)))))

-- ---- arguments, the positional ones first

-- after those found, arguments that the tokens spell, at least one, up to the bracket
pub record AreArguments (found : List Expr) (all : Arguments Expr) (c : Input) : Type 0 where
  pub positional : List Expr
  pub named : List (Named Expr)
  pub written : Bool
  pub whole : all ≡ arguments_of (found ++ positional) named written
  pub some : map expr_spelling positional ++ phrases named ≢ []
  pub levelled : AllByRecursion IsLevelled positional
  pub named_levelled : NamedLevelled named
  pub spelt : kinds c ≡ listed_arguments positional named ++ ending written

-- what follows a positional argument
abbrev PositionalTail : List Expr → Arguments Expr → Input → Type 0
PositionalTail found = Tail m.CloseRound (arguments_of found [] false) (arguments_of found [] true) (AreArguments found)

-- after `=`, where the argument before it is a name
abbrev NamedFrom : List Expr → List ℕ → Arguments Expr → Input → Type 0
NamedFrom found name = Then (Tok assign) (λ _. AreNamed found [] name)

-- what follows an argument
abbrev ArgumentTail : List Expr → Expr → Arguments Expr → Input → Type 0
ArgumentTail found item all c = PositionalTail (found ++ item ∷ []) all c ⊎ ((name : List ℕ) × (item ≡ e.Name name) × NamedFrom found name all c)

-- an argument and what follows it
abbrev ArgumentsWhole : List Expr → Arguments Expr → Input → Type 0
ArgumentsWhole found = Then (IsExpr 0) (ArgumentTail found)

arguments_there : (found : List Expr) (all : Arguments Expr) (c : Input) → ArgumentsWhole found all c → AreArguments found all c
arguments_there found all c (x, c1, c2, r, inl (inl closed), split) =
    let (is, spelt) = closes_there m.CloseRound (arguments_of (found ++ x ∷ []) [] false) all c2 closed in
    record {
      positional = x ∷ [];
      named = [];
      written = false;
      whole = is;
      some = λ none. cc;
      levelled = (r.levelled, tt);
      named_levelled = tt;
      spelt = spelt_after x c c1 c2 (close ∷ []) r split spelt ∙ ap (λ v. v ++ close ∷ []) (sym (append-nil (expr_spelling x)));
    }
arguments_there found all c (x, c1, c2, r, inl (inr (u, c3, c4, (s, s_is, one), inl closed, split2)), split) =
    let (is, spelt) = closes_there m.CloseRound (arguments_of (found ++ x ∷ []) [] true) all c4 closed in
    record {
      positional = x ∷ [];
      named = [];
      written = true;
      whole = is;
      some = λ none. cc;
      levelled = (r.levelled, tt);
      named_levelled = tt;
      spelt = spelt_after x c c1 c2 (comma ∷ close ∷ []) r split (token_spelt comma s c2 c3 c4 s_is one split2 ∙ ap (λ v. comma ∷ v) spelt)
          ∙ ap (λ v. v ++ comma ∷ close ∷ []) (sym (append-nil (expr_spelling x)));
    }
arguments_there found all c (x, c1, c2, r, inl (inr (u, c3, c4, (s, s_is, one), inr more, split2)), split) =
    let others : List Tokens = map expr_spelling more.positional ++ phrases more.named in
    let k : kinds c2 ≡ commas others ++ ending more.written =
    token_spelt comma s c2 c3 c4 s_is one split2 ∙ ap (λ v. comma ∷ v) more.spelt ∙ ap (λ v. v ++ ending more.written) (sym (commas_of others more.some)) in
    record {
      positional = x ∷ more.positional;
      named = more.named;
      written = more.written;
      whole = more.whole ∙ ap (λ v. arguments_of v more.named more.written) (append_assoc found (x ∷ []) more.positional);
      some = λ none. cc;
      levelled = (r.levelled, more.levelled);
      named_levelled = more.named_levelled;
      spelt = spelt_after x c c1 c2 (commas others ++ ending more.written) r split k ∙ sym (append_assoc (expr_spelling x) (commas others) (ending more.written));
    }
arguments_there found all c (x, c1, c2, r, inr (name, is, (u, c3, c4, (s, s_is, one), more, split2)), split) =
    let k : kinds c2 ≡ assign ∷ kinds c4 = token_spelt assign s c2 c3 c4 s_is one split2 in
    record {
      positional = [];
      named = named_as name more.value ∷ more.others;
      written = more.written;
      whole = more.whole ∙ ap (λ v. arguments_of v (named_as name more.value ∷ more.others) more.written) (sym (append-nil found));
      some = λ none. cc;
      levelled = tt;
      named_levelled = (more.levelled, more.others_levelled);
      spelt = ap kinds split ∙ kinds_append c1 c2 ∙ ap (λ v. v ++ kinds c2) (name_spelt x name c1 is r) ∙ ap (λ v. t.Name name ∷ v) (k ∙ ap (λ v. assign ∷ v) more.spelt)
          ∙ ap (λ v. t.Name name ∷ assign ∷ v) (sym (append_assoc (expr_spelling more.value) (commas (phrases more.others)) (ending more.written)));
    }

-- an argument, where more follow
several_by : (found : List Expr) (all : Arguments Expr) (c : Input) (x : Expr) (xs : List Expr) (named : List (Named Expr)) (written : Bool)
    → all ≡ arguments_of (found ++ x ∷ xs) named written → map expr_spelling xs ++ phrases named ≢ [] → IsLevelled x → AllByRecursion IsLevelled xs → NamedLevelled named
    → kinds c ≡ listed_arguments (x ∷ xs) named ++ ending written → ArgumentsWhole found all c
several_by found all c x xs named written is some levelled others named_levelled spelt =
    let later : List Tokens = map expr_spelling xs ++ phrases named in
    let (c1, c2, split, is1, is2) = kinds_split c (expr_spelling x) (comma ∷ (listed later ++ ending written))
    (spelt ∙ append_assoc (expr_spelling x) (commas later) (ending written) ∙ ap (λ v. expr_spelling x ++ (v ++ ending written)) (commas_of later some)) in
    let (s, c3, split2, is3, is4) = kinds_cons c2 comma (listed later ++ ending written) is2 in
    let more : AreArguments (found ++ x ∷ []) all c3 = record {
      positional = xs;
      named = named;
      written = written;
      whole = is ∙ ap (λ v. arguments_of v named written) (sym (append_assoc found (x ∷ []) xs));
      some = some;
      levelled = others;
      named_levelled = named_levelled;
      spelt = is4;
    } in
    (x, c1, c2, record { levelled = levelled; high = omega arith; spelt = is1 }, inl (inr (tt, s ∷ [], c3, (s, is3, refl), inr more, split2)), split)

arguments_by : (found : List Expr) (all : Arguments Expr) (c : Input) (positional : List Expr) (named : List (Named Expr)) (written : Bool)
    → all ≡ arguments_of (found ++ positional) named written → map expr_spelling positional ++ phrases named ≢ [] → AllByRecursion IsLevelled positional → NamedLevelled named
    → kinds c ≡ listed_arguments positional named ++ ending written → ArgumentsWhole found all c
arguments_by found all c [] [] written is some levelled named_levelled spelt = absurd (some refl)
arguments_by found all c [] (y ∷ ys) written is some levelled named_levelled spelt =
    let later : Tokens = expr_spelling y.value ++ (commas (phrases ys) ++ ending written) in
    let (s, c2, split, is1, is2) = kinds_cons c (t.Name y.name) (assign ∷ later)
    (spelt ∙ ap (λ v. t.Name y.name ∷ assign ∷ v) (append_assoc (expr_spelling y.value) (commas (phrases ys)) (ending written))) in
    let (s2, c3, split2, is3, is4) = kinds_cons c2 assign later is2 in
    let more : AreNamed found [] y.name all c3 = record {
      value = y.value;
      others = ys;
      written = written;
      whole = is ∙ ap (λ v. arguments_of v (y ∷ ys) written) (append-nil found);
      levelled = named_levelled.0;
      others_levelled = named_levelled.1;
      spelt = is4;
    } in
    (e.Name y.name, s ∷ [], c2, name_is (e.Name y.name) y.name (s ∷ []) refl (ap (λ v. v ∷ []) is1), inr (y.name, refl, (tt, s2 ∷ [], c3, (s2, is3, refl), more, split2)), split)
arguments_by found all c (x ∷ []) [] false is some levelled named_levelled spelt =
    let (c1, c2, split, is1, is2) = kinds_split c (expr_spelling x) (close ∷ []) (spelt ∙ ap (λ v. v ++ close ∷ []) (append-nil (expr_spelling x))) in
    (x, c1, c2, record { levelled = levelled.0; high = omega arith; spelt = is1 }, inl (inl (closes_back m.CloseRound _ all c2 is is2)), split)
arguments_by found all c (x ∷ []) [] true is some levelled named_levelled spelt =
    let (c1, c2, split, is1, is2) = kinds_split c (expr_spelling x) (comma ∷ close ∷ []) (spelt ∙ ap (λ v. v ++ comma ∷ close ∷ []) (append-nil (expr_spelling x))) in
    let (s, c3, split2, is3, is4) = kinds_cons c2 comma (close ∷ []) is2 in
    (x, c1, c2, record { levelled = levelled.0; high = omega arith; spelt = is1 }, inl (inr (tt, s ∷ [], c3, (s, is3, refl), inl (closes_back m.CloseRound _ all c3 is is4), split2)), split)
arguments_by found all c (x ∷ []) (y ∷ ys) written is some levelled named_levelled spelt =
    several_by found all c x [] (y ∷ ys) written is (λ none. cc) levelled.0 levelled.1 named_levelled spelt
arguments_by found all c (x ∷ z ∷ zs) named written is some levelled named_levelled spelt =
    several_by found all c x (z ∷ zs) named written is (λ none. cc) levelled.0 levelled.1 named_levelled spelt

arguments_back : (found : List Expr) (all : Arguments Expr) (c : Input) → AreArguments found all c → ArgumentsWhole found all c
arguments_back found all c h = arguments_by found all c h.positional h.named h.written h.whole h.some h.levelled h.named_levelled h.spelt

arguments_not_first : (found : List Expr) (all : Arguments Expr) (c more : Input) → AreArguments found all c → next (c ++ more) ≢ Some close
arguments_not_first found all c more h look = expr_not_first close refl (ArgumentTail found) all c more (arguments_back found all c h) look

some_arguments : (found : List Expr) → (all : Arguments Expr) × (c : Input) × AreArguments found all c
some_arguments found =
    let (x, c, r) = some_is 0 (omega arith) in
    let (y, d, q) = some_closes m.CloseRound (arguments_of (found ++ x ∷ []) [] false) in
    (y, c ++ d, arguments_there found y (c ++ d) (x, c, d, r, inl (inl q), refl))

argument_ends : (found : List Expr) (item : Expr) (all : Arguments Expr) (c more : Input) → ArgumentTail found item all c → Ends 0 (c ++ more)
argument_ends found item all c more (inl tail) =
    tail_ends m.CloseRound refl (arguments_of (found ++ item ∷ []) [] false) (arguments_of (found ++ item ∷ []) [] true) (AreArguments (found ++ item ∷ [])) all c more tail
argument_ends found item all c more (inr (name, is, named)) = token_ends assign refl (AreNamed found [] name) all c more named

-- `=` follows no positional argument
not_assign : (found : List Expr) (all : Arguments Expr) (c more : Input) → PositionalTail found all c → next (c ++ more) ≢ Some assign
not_assign found all c more tail look = elim (tail_next m.CloseRound (arguments_of found [] false) (arguments_of found [] true) (AreArguments found) all c more tail) [
  | inl is ↦ (let a : Some close ≡ Some assign = sym is ∙ look in cc)
  | inr is ↦ (let a : Some comma ≡ Some assign = sym is ∙ look in cc)
]

module _ (expr : Level → Reader Expr) (bound : ℕ) (inside : Inside expr bound) where
  positional_exact : (found : List Expr) (more : List Expr → Reader (Arguments Expr)) (ts : Input)
      → ((left : Input) → length left < length ts → Exact (AreArguments found) Any left (more found left)) → Exact (PositionalTail found) Any ts (positional_by expr found more ts)
  positional_exact found more ts later =
      tail_exact m.CloseRound (λ same. cc) (arguments_of found [] false) (arguments_of found [] true) (AreArguments found) (arguments_not_first found) (more found) ts later

  -- after an argument, by the name that it is
  argument_exact : (n : ℕ) (found : List Expr) (item : Expr) (more : List Expr → Reader (Arguments Expr)) (ts : Input) → length ts ≤ n + 1 → length ts ≤ bound
      → ((left : Input) → length left < length ts → Exact (AreArguments (found ++ item ∷ [])) Any left (more (found ++ item ∷ []) left))
      → (name : Option (List ℕ)) → name_of item ≡ name → Exact (ArgumentTail found item) Any ts (argument_by expr n found item more name ts)
  argument_exact n found item more ts few small later None none =
      exact_by (PositionalTail (found ++ item ∷ [])) (ArgumentTail found item) Any ts (λ all c j. inl j)
      (λ all c w rule _ look. elim rule [
        | inl j ↦ j
        | inr (name, is, named) ↦ absurd (let a : Some name ≡ None = sym (name_of_name name) ∙ ap name_of (sym is) ∙ none in cc)
      ])
      _ (positional_exact (found ++ item ∷ []) more ts later)
  argument_exact n found item more ts few small later (Some name) is =
      exact_eat (ArgumentTail found item) Any (named_from expr n found [] name) (positional_by expr (found ++ item ∷ []) more) ts m.Assign
      (λ here. exact_by (NamedFrom found name) (ArgumentTail found item) Any ts (λ all c j. inr (name, name_of_is item name is, j))
      (λ all c w rule _ look. elim rule [
        | inl j ↦ absurd (not_assign (found ++ item ∷ []) all c w j (look ∙ here))
        | inr (other, other_is, named) ↦
            (let a : Some other ≡ Some name = sym (name_of_name other) ∙ ap name_of (sym other_is) ∙ is in
            let b : other ≡ name = cc in
            subst (λ v. NamedFrom found v all c) b named)
      ])
      _ (exact_token_then assign (AreNamed found [] name) Any (some_named found [] name) ts (named_from expr n found [] name)
      (λ left less. named_exact expr bound inside n found [] name left (omega arith) (omega arith)) here))
      (λ other. exact_by (PositionalTail (found ++ item ∷ [])) (ArgumentTail found item) Any ts (λ all c j. inl j)
      (λ all c w rule _ look. elim rule [
        | inl j ↦ j
        | inr (found_name, found_is, named) ↦ absurd (other (sym look ∙ token_next assign (AreNamed found [] found_name) all c w named))
      ])
      _ (positional_exact (found ++ item ∷ []) more ts later))

  arguments_from_exact : (n : ℕ) (found : List Expr) (ts : Input) → length ts ≤ n → length ts < bound → Exact (AreArguments found) Any ts (arguments_from expr n found ts)
  unfolding arguments_from
  arguments_from_exact zero found [] few small = exact_refuse (AreArguments found) Any [] (some_arguments found)
      (λ all c more h _ look. expr_not_none (ArgumentTail found) all c more (arguments_back found all c h) look)
  arguments_from_exact zero found (s ∷ ts) few small = absurd (omega arith)
  arguments_from_exact (suc n) found ts few small =
      exact_same (ArgumentsWhole found) (AreArguments found) Any (arguments_there found) (arguments_back found) ts _
      (exact_then (IsExpr 0) (ArgumentTail found) (Ends 0) Any
      (λ item all c1 c2 more _ tail _. argument_ends found item all c2 more tail)
      (λ item c r. let (y, d, q) = some_closes m.CloseRound (arguments_of (found ++ item ∷ []) [] false) in (y, d, inl (inl q)))
      ts (expr level.Test ts) (λ item. argument_by expr n found item (arguments_from expr n) (name_of item)) (inside level.Test ts small)
      (λ item left taken split r. let a = length_after ts taken left split in
      argument_exact n found item (arguments_from expr n) left (omega arith) (omega arith)
      (λ left2 less. arguments_from_exact n (found ++ item ∷ []) left2 (omega arith) (omega arith)) (name_of item) refl))

-- ---- what stands in the brackets

-- the tokens after `(` spell the arguments and the bracket that closes them
pub record IsGiven (given : Arguments Expr) (c : Input) : Type 0 where
  pub fits : ArgumentsFit given
  pub levelled : EachArgument IsLevelled given
  pub spelt : kinds c ≡ listed_arguments given.positional given.named ++ ending given.comma

-- the bracket at once, or arguments
abbrev Given : Arguments Expr → Input → Type 0
Given given c = Closes m.CloseRound (arguments_of [] [] false) given c ⊎ AreArguments [] given c

given_by : (positional : List Expr) (named : List (Named Expr)) (written : Bool) → map expr_spelling positional ++ phrases named ≢ [] → ArgumentsFit (arguments_of positional named written)
given_by [] [] written some = absurd (some refl)
given_by [] (y ∷ ys) written some = tt
given_by (x ∷ xs) named written some = tt

given_there : (given : Arguments Expr) (c : Input) → Given given c → IsGiven given c
given_there given c (inl closed) =
    let (is, spelt) = closes_there m.CloseRound (arguments_of [] [] false) given c closed in
    let whole : IsGiven (arguments_of [] [] false) c = record { fits = refl; levelled = (tt, tt); spelt = spelt } in
    subst (λ v. IsGiven v c) (sym is) whole
given_there given c (inr h) =
    let whole : IsGiven (arguments_of h.positional h.named h.written) c =
    record { fits = given_by h.positional h.named h.written h.some; levelled = (h.levelled, h.named_levelled); spelt = h.spelt } in
    subst (λ v. IsGiven v c) (sym h.whole) whole

given_of : (positional : List Expr) (named : List (Named Expr)) (written : Bool) (c : Input) → IsGiven (arguments_of positional named written) c → Given (arguments_of positional named written) c
given_of [] [] true c h = absurd (let f : true ≡ false = h.fits in cc)
given_of [] [] false c h = inl (closes_back m.CloseRound (arguments_of [] [] false) (arguments_of [] [] false) c refl h.spelt)
given_of [] (y ∷ ys) written c h =
    inr (record { positional = []; named = y ∷ ys; written = written; whole = refl; some = λ none. cc; levelled = tt; named_levelled = h.levelled.1; spelt = h.spelt })
given_of (x ∷ xs) named written c h =
    inr (record { positional = x ∷ xs; named = named; written = written; whole = refl; some = λ none. cc; levelled = h.levelled.0; named_levelled = h.levelled.1; spelt = h.spelt })

given_back : (given : Arguments Expr) (c : Input) → IsGiven given c → Given given c
given_back given c h = given_of given.positional given.named given.comma c h

-- there are some
pub some_given : (given : Arguments Expr) × (c : Input) × IsGiven given c
some_given = let (y, c, q) = some_closes m.CloseRound (arguments_of [] [] false) in (y, c, given_there y c (inl q))

module _ (expr : Level → Reader Expr) (bound : ℕ) (inside : Inside expr bound) where
  -- arguments are read exactly, if expressions of fewer tokens are
  pub arguments_exact : (ts : Input) → length ts < bound → Exact IsGiven Any ts (arguments expr ts)
  unfolding arguments
  arguments_exact ts few =
      exact_same Given IsGiven Any given_there given_back ts _
      (exact_eat Given Any (pure (arguments_of [] [] false)) (λ ts. arguments_from expr (length ts) [] ts) ts m.CloseRound
      (λ here. exact_by (Closes m.CloseRound (arguments_of [] [] false)) Given Any ts (λ given c j. inl j)
      (λ given c more rule _ look. elim rule [ inl j ↦ j | inr h ↦ absurd (arguments_not_first [] given c more h (look ∙ here)) ])
      _ (closes_exact m.CloseRound (arguments_of [] [] false) ts here))
      (λ other. exact_by (AreArguments []) Given Any ts (λ given c j. inr j)
      (λ given c more rule _ look. elim rule [ inl j ↦ absurd (other (sym look ∙ token_next close (Just (arguments_of [] [] false)) given c more j)) | inr h ↦ h ])
      _ (arguments_from_exact expr bound inside (length ts) [] ts (omega arith) few)))
