-- The parameters of functions are read exactly.
use Rattle.std.proofs.Common.{◌≡◌, ◌≢◌, ◌∙◌, ◌⊎◌, inl, inr, ℕ, zero, suc, ◌≤◌, ◌<◌, Bool, true, false, List, [], ◌∷◌, ◌++◌, map, Some, None, refl, sym, ap, subst, arith, append_assoc, length}
use Rattle.std.proofs.lemmas.List.{append-nil}
use Rattle.std.specs.Prelude.{if◌then◌else◌}
use Rattle.star_syntax.specs.declared.token.Token.TheVariants as t
use Rattle.star_syntax.specs.declared.token.Mark.TheVariants as m
use Rattle.star_syntax.specs.declared.expression.Named.{Named}
use Rattle.star_syntax.specs.declared.expression.Arguments.{Arguments}
use Rattle.star_syntax.specs.declared.expression.Expr.{Expr}
use Rattle.star_syntax.specs.Spelling.{Tokens, expr_spelling, parameters_spelling, listed}
use Rattle.star_syntax.specs.SpellingOfParts.{name_token}
use Rattle.star_syntax.specs.Levels.{CommaFits}
use Rattle.star_parser.specs.declared.level.Level.{Level}
use Rattle.star_parser.specs.Reading.{Input, Reader, and_then, ◌>>=◌, pure, next, kinds}
use Rattle.star_parser.specs.Tables.{eat, expect}
use Rattle.star_parser.specs.Readers.{named_from, arguments_of}
use Rattle.star_parser.specs.StatementReaders.{parameters_from, parameters}
use Rattle.star_parser.proofs.Exact.{Exact, Then, Just, exact_refuse, exact_by, exact_same}
use Rattle.star_parser.proofs.Steps.{Tok, exact_token_then, exact_eat, exact_last, token_next}
use Rattle.star_parser.proofs.Words.{NameToken, some_name, exact_name_then}
use Rattle.star_parser.proofs.Rules.{kinds_cons}
use Rattle.star_parser.proofs.First.{last_there, last_back}
use Rattle.star_parser.proofs.LayoutSteps.{Closed, closed_there, closed_back, some_closed, closed_exact}
use Rattle.star_parser.proofs.Closing.{Tail, some_tail, tail_next, tail_exact, token_spelt}
use Rattle.star_parser.proofs.Bracketed.{Inside, Any, comma}
use Rattle.star_parser.proofs.Arguments.{close, assign, named_as, ending, commas, commas_of, NamedLevelled, phrases, AreNamed, some_named, named_exact}

-- those without a default, those with one, and whether a comma stands at the end
abbrev pub Parameters : Type 0
Parameters = List (List ℕ) × List (Named Expr) × Bool

-- the parts of parameters, together
abbrev parameters_of : List (List ℕ) → List (Named Expr) → Bool → Parameters
parameters_of required defaults written = (required, defaults, written)

-- what was found, and after it parameters that the tokens spell, at least one, up to the bracket
pub record AreParameters (found : List (List ℕ)) (all : Parameters) (c : Input) : Type 0 where
  pub required : List (List ℕ)
  pub defaults : List (Named Expr)
  pub written : Bool
  pub whole : all ≡ parameters_of (found ++ required) defaults written
  pub some : map name_token required ++ phrases defaults ≢ []
  pub levelled : NamedLevelled defaults
  pub spelt : kinds c ≡ parameters_spelling required defaults ++ ending written

-- parameters without defaults, and then those with one
abbrev with_defaults : List (List ℕ) → Arguments Expr → Parameters
with_defaults found given = parameters_of found given.named given.comma

-- after a name and `=`
abbrev Valued : List (List ℕ) → List ℕ → Parameters → Input → Type 0
Valued found name = Then (AreNamed [] [] name) (λ given. Just (with_defaults found given))

-- after a parameter without a default
abbrev RequiredTail : List (List ℕ) → Parameters → Input → Type 0
RequiredTail found = Tail m.CloseRound (parameters_of found [] false) (parameters_of found [] true) (AreParameters found)

-- after a name
abbrev ParameterTail : List (List ℕ) → List ℕ → Parameters → Input → Type 0
ParameterTail found name all c = RequiredTail (found ++ name ∷ []) all c ⊎ Then (Tok assign) (λ _. Valued found name) all c

-- a name, and what follows it
abbrev ParametersWhole : List (List ℕ) → Parameters → Input → Type 0
ParametersWhole found = Then NameToken (ParameterTail found)

name_spelt : (name : List ℕ) (c c1 c2 : Input) (later : Tokens) → NameToken name c1 → c ≡ c1 ++ c2 → kinds c2 ≡ later → kinds c ≡ t.Name name ∷ later
name_spelt name c c1 c2 later (s, is, one) split spelt = token_spelt (t.Name name) s c c1 c2 is one split ∙ ap (λ v. t.Name name ∷ v) spelt

parameters_there : (found : List (List ℕ)) (all : Parameters) (c : Input) → ParametersWhole found all c → AreParameters found all c
parameters_there found all c (name, c1, c2, r, inl (inl closed), split) =
    let (is, spelt) = closed_there close (parameters_of (found ++ name ∷ []) [] false) all c2 closed in
    record { required = name ∷ []; defaults = []; written = false; whole = is; some = λ none. cc; levelled = tt; spelt = name_spelt name c c1 c2 (close ∷ []) r split spelt }
parameters_there found all c (name, c1, c2, r, inl (inr (u, c3, c4, (s, s_is, one), inl closed, split2)), split) =
    let (is, spelt) = closed_there close (parameters_of (found ++ name ∷ []) [] true) all c4 closed in
    record {
      required = name ∷ [];
      defaults = [];
      written = true;
      whole = is;
      some = λ none. cc;
      levelled = tt;
      spelt = name_spelt name c c1 c2 (comma ∷ close ∷ []) r split (token_spelt comma s c2 c3 c4 s_is one split2 ∙ ap (λ v. comma ∷ v) spelt);
    }
parameters_there found all c (name, c1, c2, r, inl (inr (u, c3, c4, (s, s_is, one), inr more, split2)), split) =
    let later : List Tokens = map name_token more.required ++ phrases more.defaults in
    let k : kinds c2 ≡ comma ∷ (listed later ++ ending more.written) = token_spelt comma s c2 c3 c4 s_is one split2 ∙ ap (λ v. comma ∷ v) more.spelt in
    record {
      required = name ∷ more.required;
      defaults = more.defaults;
      written = more.written;
      whole = more.whole ∙ ap (λ v. parameters_of v more.defaults more.written) (append_assoc found (name ∷ []) more.required);
      some = λ none. cc;
      levelled = more.levelled;
      spelt = name_spelt name c c1 c2 (comma ∷ (listed later ++ ending more.written)) r split k
          ∙ ap (λ v. t.Name name ∷ (v ++ ending more.written)) (sym (commas_of later more.some));
    }
parameters_there found all c (name, c1, c2, r, inr (u, c3, c4, (s, s_is, one), last, split2), split) =
    let (given, more, all_is) = last_there (AreNamed [] [] name) (with_defaults found) all c4 last in
    let y = named_as name more.value in
    let k : kinds c2 ≡ assign ∷ (expr_spelling more.value ++ (commas (phrases more.others) ++ ending more.written)) =
    token_spelt assign s c2 c3 c4 s_is one split2 ∙ ap (λ v. assign ∷ v) more.spelt in
    record {
      required = [];
      defaults = y ∷ more.others;
      written = more.written;
      whole = all_is ∙ ap (with_defaults found) more.whole ∙ ap (λ v. parameters_of v (y ∷ more.others) more.written) (sym (append-nil found));
      some = λ none. cc;
      levelled = (more.levelled, more.others_levelled);
      spelt = name_spelt name c c1 c2 _ r split k
          ∙ ap (λ v. t.Name name ∷ assign ∷ v) (sym (append_assoc (expr_spelling more.value) (commas (phrases more.others)) (ending more.written)));
    }

-- a parameter without a default, where more follow
several_by : (found : List (List ℕ)) (all : Parameters) (c : Input) (x : List ℕ) (xs : List (List ℕ)) (defaults : List (Named Expr)) (written : Bool)
    → all ≡ parameters_of (found ++ x ∷ xs) defaults written → map name_token xs ++ phrases defaults ≢ [] → NamedLevelled defaults
    → kinds c ≡ parameters_spelling (x ∷ xs) defaults ++ ending written → ParametersWhole found all c
several_by found all c x xs defaults written is some levelled spelt =
    let later : List Tokens = map name_token xs ++ phrases defaults in
    let (s, c2, split, is1, is2) = kinds_cons c (t.Name x) (comma ∷ (listed later ++ ending written)) (spelt ∙ ap (λ v. t.Name x ∷ (v ++ ending written)) (commas_of later some)) in
    let (s2, c3, split2, is3, is4) = kinds_cons c2 comma (listed later ++ ending written) is2 in
    let more : AreParameters (found ++ x ∷ []) all c3 = record {
      required = xs;
      defaults = defaults;
      written = written;
      whole = is ∙ ap (λ v. parameters_of v defaults written) (sym (append_assoc found (x ∷ []) xs));
      some = some;
      levelled = levelled;
      spelt = is4;
    } in
    (x, s ∷ [], c2, (s, is1, refl), inl (inr (tt, s2 ∷ [], c3, (s2, is3, refl), inr more, split2)), split)

parameters_by : (found : List (List ℕ)) (all : Parameters) (c : Input) (required : List (List ℕ)) (defaults : List (Named Expr)) (written : Bool)
    → all ≡ parameters_of (found ++ required) defaults written → map name_token required ++ phrases defaults ≢ [] → NamedLevelled defaults
    → kinds c ≡ parameters_spelling required defaults ++ ending written → ParametersWhole found all c
parameters_by found all c [] [] written is some levelled spelt = absurd (some refl)
parameters_by found all c [] (y ∷ ys) written is some levelled spelt =
    let later : Tokens = expr_spelling y.value ++ (commas (phrases ys) ++ ending written) in
    let (s, c2, split, is1, is2) = kinds_cons c (t.Name y.name) (assign ∷ later)
    (spelt ∙ ap (λ v. t.Name y.name ∷ assign ∷ v) (append_assoc (expr_spelling y.value) (commas (phrases ys)) (ending written))) in
    let (s2, c3, split2, is3, is4) = kinds_cons c2 assign later is2 in
    let given : Arguments Expr = arguments_of [] (y ∷ ys) written in
    let more : AreNamed [] [] y.name given c3 = record {
      value = y.value;
      others = ys;
      written = written;
      whole = refl;
      levelled = levelled.0;
      others_levelled = levelled.1;
      spelt = is4;
    } in
    let last = last_back (AreNamed [] [] y.name) (with_defaults found) all c3 given more (is ∙ ap (λ v. parameters_of v (y ∷ ys) written) (append-nil found)) in
    (y.name, s ∷ [], c2, (s, is1, refl), inr (tt, s2 ∷ [], c3, (s2, is3, refl), last, split2), split)
parameters_by found all c (x ∷ []) [] false is some levelled spelt =
    let (s, c2, split, is1, is2) = kinds_cons c (t.Name x) (close ∷ []) spelt in
    (x, s ∷ [], c2, (s, is1, refl), inl (inl (closed_back close _ all c2 is is2)), split)
parameters_by found all c (x ∷ []) [] true is some levelled spelt =
    let (s, c2, split, is1, is2) = kinds_cons c (t.Name x) (comma ∷ close ∷ []) spelt in
    let (s2, c3, split2, is3, is4) = kinds_cons c2 comma (close ∷ []) is2 in
    (x, s ∷ [], c2, (s, is1, refl), inl (inr (tt, s2 ∷ [], c3, (s2, is3, refl), inl (closed_back close _ all c3 is is4), split2)), split)
parameters_by found all c (x ∷ []) (y ∷ ys) written is some levelled spelt = several_by found all c x [] (y ∷ ys) written is (λ none. cc) levelled spelt
parameters_by found all c (x ∷ z ∷ zs) defaults written is some levelled spelt = several_by found all c x (z ∷ zs) defaults written is (λ none. cc) levelled spelt

parameters_back : (found : List (List ℕ)) (all : Parameters) (c : Input) → AreParameters found all c → ParametersWhole found all c
parameters_back found all c h = parameters_by found all c h.required h.defaults h.written h.whole h.some h.levelled h.spelt

-- the first token is a name
first_name : (found : List (List ℕ)) (all : Parameters) (c more : Input) → AreParameters found all c → (name : List ℕ) × (next (c ++ more) ≡ Some (t.Name name))
first_name found all c more h =
    let (name, c1, c2, (s, is, one), tail, split) = parameters_back found all c h in
    (name, ap (λ v. next (v ++ more)) (split ∙ ap (λ v. v ++ c2) one) ∙ ap Some is)

not_closed : (found : List (List ℕ)) (all : Parameters) (c more : Input) → AreParameters found all c → next (c ++ more) ≢ Some close
not_closed found all c more h look = let (name, e) = first_name found all c more h in let a : Some (t.Name name) ≡ Some close = sym e ∙ look in cc

-- `=` follows no parameter without a default
not_assign : (found : List (List ℕ)) (all : Parameters) (c more : Input) → RequiredTail found all c → next (c ++ more) ≢ Some assign
not_assign found all c more tail look = elim (tail_next m.CloseRound (parameters_of found [] false) (parameters_of found [] true) (AreParameters found) all c more tail) [
  | inl is ↦ (let a : Some close ≡ Some assign = sym is ∙ look in cc)
  | inr is ↦ (let a : Some comma ≡ Some assign = sym is ∙ look in cc)
]

some_required : (found : List (List ℕ)) → (all : Parameters) × (c : Input) × RequiredTail found all c
some_required found = some_tail m.CloseRound (parameters_of found [] false) (parameters_of found [] true) (AreParameters found)

some_valued : (found : List (List ℕ)) (name : List ℕ) → (all : Parameters) × (c : Input) × Valued found name all c
some_valued found name =
    let (given, c, r) = some_named [] [] name in
    (with_defaults found given, c, last_back (AreNamed [] [] name) (with_defaults found) (with_defaults found given) c given r refl)

some_parameters : (found : List (List ℕ)) → (all : Parameters) × (c : Input) × AreParameters found all c
some_parameters found =
    let (name, c, r) = some_name in
    let (y, d, q) = some_required (found ++ name ∷ []) in
    (y, c ++ d, parameters_there found y (c ++ d) (name, c, d, r, inl q, refl))

-- ---- what stands in the brackets

-- the tokens after `(` spell the parameters and the bracket that closes them
pub record IsParameters (given : Parameters) (c : Input) : Type 0 where
  pub comma_fits : CommaFits (given.0 ++ map (λ named. named.name) given.1) given.2
  pub levelled : NamedLevelled given.1
  pub spelt : kinds c ≡ parameters_spelling given.0 given.1 ++ ending given.2

-- what stands between the brackets
abbrev Given : Parameters → Input → Type 0
Given given c = Closed close (parameters_of [] [] false) given c ⊎ AreParameters [] given c

comma_by : (required : List (List ℕ)) (defaults : List (Named Expr)) (written : Bool) → map name_token required ++ phrases defaults ≢ []
    → CommaFits (required ++ map (λ named. named.name) defaults) written
comma_by [] [] written some = absurd (some refl)
comma_by [] (y ∷ ys) written some = tt
comma_by (x ∷ xs) defaults written some = tt

given_there : (given : Parameters) (c : Input) → Given given c → IsParameters given c
given_there given c (inl closed) =
    let (is, spelt) = closed_there close (parameters_of [] [] false) given c closed in
    let held : IsParameters (parameters_of [] [] false) c = record { comma_fits = refl; levelled = tt; spelt = spelt } in
    subst (λ v. IsParameters v c) (sym is) held
given_there given c (inr h) =
    let held : IsParameters (parameters_of h.required h.defaults h.written) c =
    record { comma_fits = comma_by h.required h.defaults h.written h.some; levelled = h.levelled; spelt = h.spelt } in
    subst (λ v. IsParameters v c) (sym h.whole) held

given_of : (required : List (List ℕ)) (defaults : List (Named Expr)) (written : Bool) (c : Input) → IsParameters (parameters_of required defaults written) c
    → Given (parameters_of required defaults written) c
given_of [] [] true c h = absurd (let f : true ≡ false = h.comma_fits in cc)
given_of [] [] false c h = inl (closed_back close (parameters_of [] [] false) (parameters_of [] [] false) c refl h.spelt)
given_of [] (y ∷ ys) written c h =
    inr (record { required = []; defaults = y ∷ ys; written = written; whole = refl; some = λ none. cc; levelled = h.levelled; spelt = h.spelt })
given_of (x ∷ xs) defaults written c h =
    inr (record { required = x ∷ xs; defaults = defaults; written = written; whole = refl; some = λ none. cc; levelled = h.levelled; spelt = h.spelt })

given_back : (given : Parameters) (c : Input) → IsParameters given c → Given given c
given_back given c h = given_of given.0 given.1 given.2 c h

-- some parameters: none
pub some_given : (given : Parameters) × (c : Input) × IsParameters given c
some_given = let (y, c, q) = some_closed close (parameters_of [] [] false) in (y, c, given_there y c (inl q))

-- ---- the readers

module _ (expr : Level → Reader Expr) (bound : ℕ) (below : Inside expr bound) where
  -- after a name
  parameter_exact : (found : List (List ℕ)) (name : List ℕ) (p : Reader Parameters) (ts : Input) → length ts < bound
      → ((left : Input) → length left < length ts → Exact (AreParameters (found ++ name ∷ [])) Any left (p left))
      → Exact (ParameterTail found name) Any ts (and_then (eat m.Assign ts) (λ valued. if valued then
      ((λ ts. named_from expr (length ts) [] [] name ts) >>= λ given. pure (with_defaults found given)) else
      (eat m.CloseRound >>= λ ended. if ended then pure (parameters_of (found ++ name ∷ []) [] false) else
      (expect m.Comma >>= λ _. eat m.CloseRound >>= λ closed. if closed then pure (parameters_of (found ++ name ∷ []) [] true) else p))))
  parameter_exact found name p ts few later =
      let with_default : Reader Parameters = ((λ ts. named_from expr (length ts) [] [] name ts) >>= λ given. pure (with_defaults found given)) in
      let without : Reader Parameters = (eat m.CloseRound >>= λ ended. if ended then pure (parameters_of (found ++ name ∷ []) [] false) else
      (expect m.Comma >>= λ _. eat m.CloseRound >>= λ closed. if closed then pure (parameters_of (found ++ name ∷ []) [] true) else p)) in
      exact_eat (ParameterTail found name) Any with_default without ts m.Assign
      (λ here. exact_by (Then (Tok assign) (λ _. Valued found name)) (ParameterTail found name) Any ts (λ all c j. inr j)
      (λ all c more rule _ look. elim rule [ inl j ↦ absurd (not_assign (found ++ name ∷ []) all c more j (look ∙ here)) | inr j ↦ j ])
      _ (exact_token_then assign (Valued found name) Any (some_valued found name) ts with_default
      (λ left less. exact_last (AreNamed [] [] name) Any Any (λ more ends. ends) (with_defaults found) left (named_from expr (length left) [] [] name left)
      (named_exact expr bound below (length left) [] [] name left (omega arith) (omega arith))) here))
      (λ other. exact_by (RequiredTail (found ++ name ∷ [])) (ParameterTail found name) Any ts (λ all c j. inl j)
      (λ all c more rule _ look. elim rule [ inl j ↦ j | inr j ↦ absurd (other (sym look ∙ token_next assign (Valued found name) all c more j)) ])
      _ (tail_exact m.CloseRound (λ same. cc) (parameters_of (found ++ name ∷ []) [] false) (parameters_of (found ++ name ∷ []) [] true)
      (AreParameters (found ++ name ∷ [])) (not_closed (found ++ name ∷ [])) p ts later))

  -- parameters after those found are read exactly
  parameters_from_exact : (n : ℕ) (found : List (List ℕ)) (ts : Input) → length ts ≤ n → length ts < bound → Exact (AreParameters found) Any ts (parameters_from expr n found ts)
  unfolding parameters_from
  parameters_from_exact zero found [] few within = exact_refuse (AreParameters found) Any [] (some_parameters found)
      (λ all c more h _ look. let (name, e) = first_name found all c more h in let a : Some (t.Name name) ≡ None = sym e ∙ look in cc)
  parameters_from_exact zero found (s ∷ ts) few within = absurd (omega arith)
  parameters_from_exact (suc n) found ts few within =
      exact_same (ParametersWhole found) (AreParameters found) Any (parameters_there found) (parameters_back found) ts _
      (exact_name_then (ParameterTail found) Any (λ name. let (all, c, q) = some_required (found ++ name ∷ []) in (all, c, inl q)) ts
      (λ name. eat m.Assign >>= λ valued. if valued then
      ((λ ts. named_from expr (length ts) [] [] name ts) >>= λ given. pure (with_defaults found given)) else
      (eat m.CloseRound >>= λ ended. if ended then pure (parameters_of (found ++ name ∷ []) [] false) else
      (expect m.Comma >>= λ _. eat m.CloseRound >>= λ closed. if closed then pure (parameters_of (found ++ name ∷ []) [] true) else parameters_from expr n (found ++ name ∷ []))))
      (λ name left less. parameter_exact found name (parameters_from expr n (found ++ name ∷ [])) left (omega arith)
      (λ left2 less2. parameters_from_exact n (found ++ name ∷ []) left2 (omega arith) (omega arith))))

  -- parameters are read exactly
  pub parameters_exact : (ts : Input) → length ts < bound → Exact IsParameters Any ts (parameters expr ts)
  unfolding parameters
  parameters_exact ts few =
      exact_same Given IsParameters Any given_there given_back ts _
      (exact_eat Given Any (pure (parameters_of [] [] false)) (λ ts. parameters_from expr (length ts) [] ts) ts m.CloseRound
      (λ here. exact_by (Closed close (parameters_of [] [] false)) Given Any ts (λ given c j. inl j)
      (λ given c more rule _ look. elim rule [ inl j ↦ j | inr h ↦ absurd (not_closed [] given c more h (look ∙ here)) ])
      _ (closed_exact close (parameters_of [] [] false) ts here))
      (λ other. exact_by (AreParameters []) Given Any ts (λ given c j. inr j)
      (λ given c more rule _ look. elim rule [ inl j ↦ absurd (other (sym look ∙ token_next close (Just (parameters_of [] [] false)) given c more j)) | inr h ↦ h ])
      _ (parameters_from_exact (length ts) [] ts (omega arith) few)))
