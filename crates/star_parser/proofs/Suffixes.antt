-- Indices, slices, calls and methods after an atom are read exactly.
use Rattle.std.proofs.Common.{◌≡◌, ◌≢◌, ◌∙◌, ◌⊎◌, inl, inr, ℕ, zero, suc, ◌≤◌, ◌<◌, Bool, true, false, List, [], ◌∷◌, ◌++◌, Option, Some, None, Ok, refl, sym, ap, subst, arith, append_assoc, length}
use Rattle.std.proofs.lemmas.List.{append-nil}
use Rattle.std.specs.Prelude.{if◌then◌else◌}
use Rattle.std.specs.List.{flat_map, AllByRecursion}
use Rattle.star_syntax.specs.declared.token.Token.{Token}
use Rattle.star_syntax.specs.declared.token.Token.TheVariants as t
use Rattle.star_syntax.specs.declared.token.Mark.{Mark}
use Rattle.star_syntax.specs.declared.token.Mark.TheVariants as m
use Rattle.star_syntax.specs.declared.token.Spanned.{Spanned}
use Rattle.star_syntax.specs.declared.expression.Arguments.{Arguments}
use Rattle.star_syntax.specs.declared.expression.Suffix.{Suffix}
use Rattle.star_syntax.specs.declared.expression.Suffix.TheVariants.{Index, Slice, Call, Method}
use Rattle.star_syntax.specs.declared.expression.Expr.{Expr, roll-Expr}
use Rattle.star_syntax.specs.declared.expression.Expr.TheOpen.{Expr-F}
use Rattle.star_syntax.specs.declared.expression.Expr.TheVariants as e
use Rattle.star_syntax.specs.Spelling.{Tokens, expr_spelling}
use Rattle.star_syntax.specs.SpellingOfParts.{parts_spelling, optional_spelling, expr_step_spelling, expr_suffix_spelling, expr_arguments_spelling, listed_arguments}
use Rattle.star_syntax.specs.Levels.{IsLevelled, Fits, SuffixFits, rank, layer_rank}
use Rattle.star_syntax.proofs.Levelled.{Each, EachSuffix, EachOption, EachStep}
use Rattle.star_parser.specs.declared.level.Level.{Level}
use Rattle.star_parser.specs.declared.level.Level.TheVariants as level
use Rattle.star_parser.specs.Reading.{Input, Reader, and_then, ◌>>=◌, ◌>>◌, pure, next, skip, kinds}
use Rattle.star_parser.specs.Tables.{is_mark, eat, expect}
use Rattle.star_parser.specs.Readers.{bound, slice_after, index_after, index, arguments, method, suffixes_from, primary, with_suffixes, atom}
use Rattle.star_parser.specs.Starts.{starts}
use Rattle.star_parser.specs.Ends.{reach, Ends}
use Rattle.star_parser.proofs.Exact.{Exact, Then, Just, exact_then, exact_by, exact_same, exact_pure}
use Rattle.star_parser.proofs.Steps.{Tok, some_token, mark_is, is_mark_itself, exact_token_then, exact_expected_then, exact_last, exact_eat, token_next}
use Rattle.star_parser.proofs.Words.{NameToken, some_name, exact_name_then}
use Rattle.star_parser.proofs.Bracketed.{Any, Inside, Closes, closes_there, closes_back, some_closes, not_first}
use Rattle.star_parser.proofs.Closing.{token_spelt, token_ends}
use Rattle.star_parser.proofs.Rules.{IsExpr, kinds_split, kinds_cons, kinds_none, kinds_append, length_after, some_is}
use Rattle.star_parser.proofs.First.{node_or_higher, made_is, last_there, last_back, first_of}
use Rattle.star_parser.proofs.Chains.{rank_few}
use Rattle.star_parser.proofs.Arguments.{IsGiven, some_given, arguments_exact, ending}

-- the mark between the bounds of a slice
abbrev colon : Token
colon = t.Mark m.Colon

-- the bracket that ends an index or a slice
abbrev square : Token
square = t.Mark m.CloseSquare

-- ---- a suffix after its first token

opening : Suffix Expr → Token
opening (Index at) = t.Mark m.OpenSquare
opening (Slice start stop step) = t.Mark m.OpenSquare
opening (Call given) = t.Mark m.OpenRound
opening (Method name given) = t.Mark m.Dot

-- what a slice spells after its first colon
abbrev after_colon : Option Expr → Option (Option Expr) → Tokens
after_colon stop step = optional_spelling stop ++ (expr_step_spelling step ++ square ∷ [])

-- what a suffix spells after its first token
inside : Suffix Expr → Tokens
inside (Index at) = expr_spelling at ++ square ∷ []
inside (Slice start stop step) = optional_spelling start ++ colon ∷ after_colon stop step
inside (Call given) = listed_arguments given.positional given.named ++ ending given.comma
inside (Method name given) = t.Name name ∷ expr_arguments_spelling given

suffix_spelt : (x : Suffix Expr) → expr_suffix_spelling x ≡ opening x ∷ inside x
unfolding opening inside
suffix_spelt (Index at) = refl
suffix_spelt (Slice start stop step) = refl
suffix_spelt (Call given) = refl
suffix_spelt (Method name given) = refl

-- the tokens after the first one spell the suffix
record IsSuffix (x : Suffix Expr) (c : Input) : Type 0 where
  pub fits : SuffixFits x
  pub levelled : EachSuffix IsLevelled x
  pub spelt : kinds c ≡ inside x

-- it is the suffix that opens with this token
abbrev OpensWith : Token → Suffix Expr → Input → Type 0
OpensWith k x c = IsSuffix x c × (opening x ≡ k)

-- ---- what may be left out in a slice

-- nothing, or an expression
abbrev IsBound : Option Expr → Input → Type 0
IsBound None c = c ≡ []
IsBound (Some x) c = IsExpr 0 x c

bound_there : (b : Option Expr) (c : Input) → IsBound b c → EachOption IsLevelled b × (kinds c ≡ optional_spelling b)
bound_there None c none = (tt, ap kinds none)
bound_there (Some x) c r = (r.levelled, r.spelt)

bound_back : (b : Option Expr) (c : Input) → EachOption IsLevelled b → kinds c ≡ optional_spelling b → IsBound b c
bound_back None c levelled spelt = kinds_none c spelt
bound_back (Some x) c levelled spelt = record { levelled = levelled; high = omega arith; spelt = spelt }

-- what follows a bound
abbrev BoundEnds : Input → Type 0
BoundEnds more = (next more ≡ Some colon) ⊎ (next more ≡ Some square)

-- what follows the last one
abbrev LastEnds : Input → Type 0
LastEnds more = next more ≡ Some square

bound_ends : (more : Input) → BoundEnds more → Ends 0 more
unfolding Ends
bound_ends more (inl is) = let a : reach (next more) ≡ 0 = ap reach is in omega arith
bound_ends more (inr is) = let a : reach (next more) ≡ 0 = ap reach is in omega arith

last_ends : (more : Input) → LastEnds more → Ends 0 more
last_ends more is = bound_ends more (inr is)

-- no expression comes
left_out : (E : Input → Type 0) (ts : Input) (k : Token) → next ts ≡ Some k → starts k ≡ 0 → Exact IsBound E ts (Ok (None, ts))
left_out E ts k here none =
    exact_by (Just None) IsBound E ts (λ b c (is, empty). subst (λ v. IsBound v c) (sym is) empty) absent _ (exact_pure None E ts)
  where
    absent : (b : Option Expr) (c more : Input) → IsBound b c → E more → next (c ++ more) ≡ next ts → Just None b c
    absent None c more empty ends look = (refl, empty)
    absent (Some x) c more r ends look = absurd (not_first k none c more (first_of 0 x c r) (look ∙ here))

-- an expression comes, for what may follow a bound does not
written : (expr : Level → Reader Expr) (E : Input → Type 0) (ts : Input) → ((more : Input) → E more → Ends 0 more) → ((more : Input) → E more → next more ≢ next ts)
    → Exact (IsExpr 0) (Ends 0) ts (expr level.Test ts) → Exact IsBound E ts ((expr level.Test >>= λ x. pure (Some x)) ts)
written expr E ts narrow not_here reads =
    exact_by (Then (IsExpr 0) (λ x. Just (Some x))) IsBound E ts there back _ (exact_last (IsExpr 0) (Ends 0) E narrow (λ x. Some x) ts (expr level.Test ts) reads)
  where
    there : (b : Option Expr) (c : Input) → Then (IsExpr 0) (λ x. Just (Some x)) b c → IsBound b c
    there b c h = let (x, r, is) = last_there (IsExpr 0) (λ x. Some x) b c h in subst (λ v. IsBound v c) (sym is) r

    back : (b : Option Expr) (c more : Input) → IsBound b c → E more → next (c ++ more) ≡ next ts → Then (IsExpr 0) (λ x. Just (Some x)) b c
    back None c more empty ends look = absurd (not_here more ends (ap (λ v. next (v ++ more)) (sym empty) ∙ look))
    back (Some x) c more r ends look = last_back (IsExpr 0) (λ x. Some x) (Some x) c x r refl

not_mark : (mark : Mark) (o : Option Token) → is_mark mark o ≡ false → o ≢ Some (t.Mark mark)
not_mark mark o h is = let a = is_mark_itself mark in let b : is_mark mark o ≡ true = ap (is_mark mark) is ∙ a in cc

last_by : (expr : Level → Reader Expr) (ts : Input) → Exact (IsExpr 0) (Ends 0) ts (expr level.Test ts) → (b : Bool) → is_mark m.CloseSquare (next ts) ≡ b
    → Exact IsBound LastEnds ts ((if b then pure None else (expr level.Test >>= λ x. pure (Some x))) ts)
last_by expr ts reads true is = left_out LastEnds ts square (mark_is m.CloseSquare (next ts) is) refl
last_by expr ts reads false is = written expr LastEnds ts last_ends (λ more ends look. not_mark m.CloseSquare (next ts) is (sym look ∙ ends)) reads

bound_by : (expr : Level → Reader Expr) (ts : Input) → Exact (IsExpr 0) (Ends 0) ts (expr level.Test ts)
    → (a b : Bool) → is_mark m.Colon (next ts) ≡ a → is_mark m.CloseSquare (next ts) ≡ b
    → Exact IsBound BoundEnds ts ((if a then pure None else (if b then pure None else (expr level.Test >>= λ x. pure (Some x)))) ts)
bound_by expr ts reads true b is_colon is_square = left_out BoundEnds ts colon (mark_is m.Colon (next ts) is_colon) refl
bound_by expr ts reads false true is_colon is_square = left_out BoundEnds ts square (mark_is m.CloseSquare (next ts) is_square) refl
bound_by expr ts reads false false is_colon is_square =
    written expr BoundEnds ts bound_ends
    (λ more ends look. elim ends [
      | inl here ↦ not_mark m.Colon (next ts) is_colon (sym look ∙ here)
      | inr here ↦ not_mark m.CloseSquare (next ts) is_square (sym look ∙ here)
    ]) reads

-- ---- slices

-- after the second colon
abbrev Stepped : Option Expr → Option Expr → Suffix Expr → Input → Type 0
Stepped start stop = Then IsBound (λ step. Closes m.CloseSquare (Slice start stop (Some step)))

-- after the upper bound
abbrev SliceRest : Option Expr → Option Expr → Suffix Expr → Input → Type 0
SliceRest start stop x c = Then (Tok colon) (λ _. Stepped start stop) x c ⊎ Closes m.CloseSquare (Slice start stop None) x c

-- after the first colon
abbrev Sliced : Option Expr → Suffix Expr → Input → Type 0
Sliced start = Then IsBound (SliceRest start)

-- the slice after the first colon
record IsSliced (start : Option Expr) (x : Suffix Expr) (c : Input) : Type 0 where
  pub stop : Option Expr
  pub step : Option (Option Expr)
  pub whole : x ≡ Slice start stop step
  pub stop_levelled : EachOption IsLevelled stop
  pub step_levelled : EachStep IsLevelled step
  pub spelt : kinds c ≡ after_colon stop step

sliced_there : (start : Option Expr) (x : Suffix Expr) (c : Input) → Sliced start x c → IsSliced start x c
sliced_there start x c (stop, c1, c2, r, inl (u, c3, c4, (s, is, one), (step, c5, c6, r2, closed, split3), split2), split) =
    let (levelled, spelt) = bound_there stop c1 r in
    let (levelled2, spelt2) = bound_there step c5 r2 in
    let (x_is, spelt3) = closes_there m.CloseSquare (Slice start stop (Some step)) x c6 closed in
    let k : kinds c4 ≡ optional_spelling step ++ square ∷ [] =
    ap kinds split3 ∙ kinds_append c5 c6 ∙ ap (λ v. v ++ kinds c6) spelt2 ∙ ap (λ v. optional_spelling step ++ v) spelt3 in
    record {
      stop = stop;
      step = Some step;
      whole = x_is;
      stop_levelled = levelled;
      step_levelled = levelled2;
      spelt = ap kinds split ∙ kinds_append c1 c2 ∙ ap (λ v. v ++ kinds c2) spelt
          ∙ ap (λ v. optional_spelling stop ++ v) (token_spelt colon s c2 c3 c4 is one split2 ∙ ap (λ v. colon ∷ v) k);
    }
sliced_there start x c (stop, c1, c2, r, inr closed, split) =
    let (levelled, spelt) = bound_there stop c1 r in
    let (x_is, spelt2) = closes_there m.CloseSquare (Slice start stop None) x c2 closed in
    record {
      stop = stop;
      step = None;
      whole = x_is;
      stop_levelled = levelled;
      step_levelled = tt;
      spelt = ap kinds split ∙ kinds_append c1 c2 ∙ ap (λ v. v ++ kinds c2) spelt ∙ ap (λ v. optional_spelling stop ++ v) spelt2;
    }

sliced_by : (start : Option Expr) (x : Suffix Expr) (c : Input) (stop : Option Expr) (step : Option (Option Expr)) → x ≡ Slice start stop step
    → EachOption IsLevelled stop → EachStep IsLevelled step → kinds c ≡ after_colon stop step → Sliced start x c
sliced_by start x c stop None whole stop_levelled step_levelled spelt =
    let (c1, c2, split, is1, is2) = kinds_split c (optional_spelling stop) (square ∷ []) spelt in
    (stop, c1, c2, bound_back stop c1 stop_levelled is1, inr (closes_back m.CloseSquare (Slice start stop None) x c2 whole is2), split)
sliced_by start x c stop (Some step) whole stop_levelled step_levelled spelt =
    let (c1, c2, split, is1, is2) = kinds_split c (optional_spelling stop) (colon ∷ (optional_spelling step ++ square ∷ [])) spelt in
    let (s, c3, split2, is3, is4) = kinds_cons c2 colon (optional_spelling step ++ square ∷ []) is2 in
    let (c4, c5, split3, is5, is6) = kinds_split c3 (optional_spelling step) (square ∷ []) is4 in (
      stop,
      c1,
      c2,
      bound_back stop c1 stop_levelled is1,
      inl (tt, s ∷ [], c3, (s, is3, refl), (step, c4, c5, bound_back step c4 step_levelled is5, closes_back m.CloseSquare (Slice start stop (Some step)) x c5 whole is6, split3), split2),
      split,
    )

some_stepped : (start stop : Option Expr) → (x : Suffix Expr) × (c : Input) × Stepped start stop x c
some_stepped start stop = let (y, d, q) = some_closes m.CloseSquare (Slice start stop (Some None)) in (y, d, (None, [], d, refl, q, refl))

some_sliced : (start : Option Expr) → (x : Suffix Expr) × (c : Input) × Sliced start x c
some_sliced start = let (y, d, q) = some_closes m.CloseSquare (Slice start None None) in (y, d, (None, [], d, refl, inr q, refl))

-- ---- what stands in square brackets

-- after an expression
abbrev IndexRest : Expr → Suffix Expr → Input → Type 0
IndexRest at x c = Then (Tok colon) (λ _. Sliced (Some at)) x c ⊎ Closes m.CloseSquare (Index at) x c

-- after `[`
abbrev InSquare : Suffix Expr → Input → Type 0
InSquare x c = Then (Tok colon) (λ _. Sliced None) x c ⊎ Then (IsExpr 0) IndexRest x c

slice_made : (start : Option Expr) (x : Suffix Expr) (c : Input) → EachOption IsLevelled start → (later : Input) → IsSliced start x later
    → kinds c ≡ optional_spelling start ++ colon ∷ kinds later → OpensWith (t.Mark m.OpenSquare) x c
unfolding opening inside
slice_made start x c levelled later r spelt =
    let whole : IsSuffix (Slice start r.stop r.step) c =
    record { fits = tt; levelled = (levelled, r.stop_levelled, r.step_levelled); spelt = spelt ∙ ap (λ v. optional_spelling start ++ colon ∷ v) r.spelt } in
    subst (λ v. OpensWith (t.Mark m.OpenSquare) v c) (sym r.whole) (whole, refl)

square_there : (x : Suffix Expr) (c : Input) → InSquare x c → OpensWith (t.Mark m.OpenSquare) x c
unfolding opening inside
square_there x c (inl (u, c1, c2, (s, is, one), r, split)) =
    slice_made None x c tt c2 (sliced_there None x c2 r) (token_spelt colon s c c1 c2 is one split)
square_there x c (inr (at, c1, c2, r, inl (u, c3, c4, (s, is, one), r2, split2), split)) =
    slice_made (Some at) x c r.levelled c4 (sliced_there (Some at) x c4 r2)
    (ap kinds split ∙ kinds_append c1 c2 ∙ ap (λ v. v ++ kinds c2) r.spelt ∙ ap (λ v. expr_spelling at ++ v) (token_spelt colon s c2 c3 c4 is one split2))
square_there x c (inr (at, c1, c2, r, inr closed, split)) =
    let (x_is, spelt) = closes_there m.CloseSquare (Index at) x c2 closed in
    let whole : IsSuffix (Index at) c = record {
      fits = tt;
      levelled = r.levelled;
      spelt = ap kinds split ∙ kinds_append c1 c2 ∙ ap (λ v. v ++ kinds c2) r.spelt ∙ ap (λ v. expr_spelling at ++ v) spelt;
    } in
    subst (λ v. OpensWith (t.Mark m.OpenSquare) v c) (sym x_is) (whole, refl)

square_back : (x : Suffix Expr) (c : Input) → opening x ≡ t.Mark m.OpenSquare → IsSuffix x c → InSquare x c
unfolding opening inside
square_back (Index at) c is h =
    let (c1, c2, split, is1, is2) = kinds_split c (expr_spelling at) (square ∷ []) h.spelt in
    inr (at, c1, c2, record { levelled = h.levelled; high = omega arith; spelt = is1 }, inr (closes_back m.CloseSquare (Index at) (Index at) c2 refl is2), split)
square_back (Slice None stop step) c is h =
    let (s, c1, split, is1, is2) = kinds_cons c colon (after_colon stop step) h.spelt in
    inl (tt, s ∷ [], c1, (s, is1, refl), sliced_by None (Slice None stop step) c1 stop step refl h.levelled.1 h.levelled.2 is2, split)
square_back (Slice (Some at) stop step) c is h =
    let (c1, c2, split, is1, is2) = kinds_split c (expr_spelling at) (colon ∷ after_colon stop step) h.spelt in
    let (s, c3, split2, is3, is4) = kinds_cons c2 colon (after_colon stop step) is2 in
    inr (
      at,
      c1,
      c2,
      record { levelled = h.levelled.0; high = omega arith; spelt = is1 },
      inl (tt, s ∷ [], c3, (s, is3, refl), sliced_by (Some at) (Slice (Some at) stop step) c3 stop step refl h.levelled.1 h.levelled.2 is4, split2),
      split,
    )
square_back (Call given) c is h = absurd cc
square_back (Method name given) c is h = absurd cc

some_square : (x : Suffix Expr) × (c : Input) × InSquare x c
some_square =
    let (at, c, r) = some_is 0 (omega arith) in
    let (y, d, q) = some_closes m.CloseSquare (Index at) in
    (y, c ++ d, inr (at, c, d, r, inr q, refl))

-- ---- calls and methods

-- after `.`
abbrev MethodOf : Suffix Expr → Input → Type 0
MethodOf = Then NameToken (λ name. Then (Tok (t.Mark m.OpenRound)) (λ _. Then IsGiven (λ given. Just (Method name given))))

call_there : (given : Arguments Expr) (c : Input) → IsGiven given c → OpensWith (t.Mark m.OpenRound) (Call given) c
unfolding opening inside
call_there given c h = let whole : IsSuffix (Call given) c = record { fits = h.fits; levelled = h.levelled; spelt = h.spelt } in (whole, refl)

call_back : (x : Suffix Expr) (c : Input) → opening x ≡ t.Mark m.OpenRound → IsSuffix x c → (given : Arguments Expr) × IsGiven given c × (x ≡ Call given)
unfolding opening inside
call_back (Index at) c is h = absurd cc
call_back (Slice start stop step) c is h = absurd cc
call_back (Call given) c is h = (given, record { fits = h.fits; levelled = h.levelled; spelt = h.spelt }, refl)
call_back (Method name given) c is h = absurd cc

method_there : (x : Suffix Expr) (c : Input) → MethodOf x c → OpensWith (t.Mark m.Dot) x c
unfolding opening inside
method_there x c (name, c1, c2, (s, is, one), (u, c3, c4, (s2, is2, one2), last, split2), split) =
    let (given, r, x_is) = last_there IsGiven (λ given. Method name given) x c4 last in
    let whole : IsSuffix (Method name given) c = record {
      fits = r.fits;
      levelled = r.levelled;
      spelt = token_spelt (t.Name name) s c c1 c2 is one split ∙ ap (λ v. t.Name name ∷ v) (token_spelt (t.Mark m.OpenRound) s2 c2 c3 c4 is2 one2 split2 ∙ ap (λ v. t.Mark m.OpenRound ∷ v) r.spelt);
    } in
    subst (λ v. OpensWith (t.Mark m.Dot) v c) (sym x_is) (whole, refl)

method_back : (x : Suffix Expr) (c : Input) → opening x ≡ t.Mark m.Dot → IsSuffix x c → MethodOf x c
unfolding opening inside
method_back (Index at) c is h = absurd cc
method_back (Slice start stop step) c is h = absurd cc
method_back (Call given) c is h = absurd cc
method_back (Method name given) c is h =
    let later : Tokens = listed_arguments given.positional given.named ++ ending given.comma in
    let (s, c1, split, is1, is2) = kinds_cons c (t.Name name) (t.Mark m.OpenRound ∷ later) h.spelt in
    let (s2, c2, split2, is3, is4) = kinds_cons c1 (t.Mark m.OpenRound) later is2 in
    let r : IsGiven given c2 = record { fits = h.fits; levelled = h.levelled; spelt = is4 } in
    (name, s ∷ [], c1, (s, is1, refl), (tt, s2 ∷ [], c2, (s2, is3, refl), last_back IsGiven (λ given. Method name given) (Method name given) c2 given r refl, split2), split)

some_method_of : (name : List ℕ) → (x : Suffix Expr) × (c : Input) × Then (Tok (t.Mark m.OpenRound)) (λ _. Then IsGiven (λ given. Just (Method name given))) x c
some_method_of name =
    let (given, c, r) = some_given in
    let s = some_token (t.Mark m.OpenRound) in
    (Method name given, s ∷ c, (tt, s ∷ [], c, (s, refl, refl), last_back IsGiven (λ given. Method name given) _ c given r refl, refl))

some_method : (x : Suffix Expr) × (c : Input) × MethodOf x c
some_method =
    let (name, c, r) = some_name in
    let (x, d, q) = some_method_of name in
    (x, c ++ d, (name, c, d, r, q, refl))

-- ---- one suffix after another

-- what it holds is levelled and has commas where it may
pub record SuffixGood (x : Suffix Expr) : Type 0 where
  pub fits : SuffixFits x
  pub levelled : EachSuffix IsLevelled x

-- what was found, and after it suffixes that the tokens spell
pub record AreSuffixes (found all : List (Suffix Expr)) (c : Input) : Type 0 where
  pub suffixes : List (Suffix Expr)
  pub whole : all ≡ found ++ suffixes
  pub fits : AllByRecursion SuffixGood suffixes
  pub spelt : kinds c ≡ flat_map expr_suffix_spelling suffixes

some_suffixes : (found : List (Suffix Expr)) → (all : List (Suffix Expr)) × (c : Input) × AreSuffixes found all c
some_suffixes found = (found, [], record { suffixes = []; whole = sym (append-nil found); fits = tt; spelt = refl })

-- a suffix that opens with the token, of what is read after it, and more of them
abbrev Suffixed : {A : Type 0} → Token → (A → Input → Type 0) → (A → Suffix Expr) → List (Suffix Expr) → List (Suffix Expr) → Input → Type 0
Suffixed k R make found = Then (Tok k) (λ _. Then R (λ a. AreSuffixes (found ++ make a ∷ [])))

suffixed_there : {A : Type 0} (k : Token) (R : A → Input → Type 0) (make : A → Suffix Expr) → ((a : A) (c : Input) → R a c → OpensWith k (make a) c)
    → (found all : List (Suffix Expr)) (c : Input) → Suffixed k R make found all c → AreSuffixes found all c
suffixed_there k R make there found all c (u, c1, c2, (s, is, one), (a, c3, c4, r, more, split2), split) =
    let (suffix, opens) = there a c3 r in
    record {
      suffixes = make a ∷ more.suffixes;
      whole = more.whole ∙ append_assoc found (make a ∷ []) more.suffixes;
      fits = (record { fits = suffix.fits; levelled = suffix.levelled }, more.fits);
      spelt = token_spelt k s c c1 c2 is one split ∙ ap (λ v. v ∷ kinds c2) (sym opens)
          ∙ ap (λ v. opening (make a) ∷ v) (ap kinds split2 ∙ kinds_append c3 c4 ∙ ap (λ v. v ++ kinds c4) suffix.spelt ∙ ap (λ v. inside (make a) ++ v) more.spelt)
          ∙ ap (λ v. v ++ flat_map expr_suffix_spelling more.suffixes) (sym (suffix_spelt (make a)));
    }

suffixes_cons : (found all : List (Suffix Expr)) (c : Input) (x : Suffix Expr) (xs : List (Suffix Expr)) → all ≡ found ++ x ∷ xs → SuffixGood x → AllByRecursion SuffixGood xs
    → kinds c ≡ flat_map expr_suffix_spelling (x ∷ xs) → (s : Spanned) × (c1 : Input) × (c2 : Input) × (c ≡ s ∷ (c1 ++ c2)) × (s.token ≡ opening x) × IsSuffix x c1 × AreSuffixes (found ++ x ∷ []) all c2
suffixes_cons found all c x xs whole good others spelt =
    let (s, c', split, is, later) = kinds_cons c (opening x) (inside x ++ flat_map expr_suffix_spelling xs) (spelt ∙ ap (λ v. v ++ flat_map expr_suffix_spelling xs) (suffix_spelt x)) in
    let (c1, c2, split2, is1, is2) = kinds_split c' (inside x) (flat_map expr_suffix_spelling xs) later in (
      s,
      c1,
      c2,
      split ∙ ap (λ v. s ∷ v) split2,
      is,
      record { fits = good.fits; levelled = good.levelled; spelt = is1 },
      record { suffixes = xs; whole = whole ∙ sym (append_assoc found (x ∷ []) xs); fits = others; spelt = is2 },
    )

suffixed_by : {A : Type 0} (k : Token) (R : A → Input → Type 0) (make : A → Suffix Expr)
    → ((x : Suffix Expr) (c : Input) → opening x ≡ k → IsSuffix x c → (a : A) × R a c × (x ≡ make a)) → reach (Some k) ≡ 12
    → (found all : List (Suffix Expr)) (c more : Input) (ys : List (Suffix Expr)) → all ≡ found ++ ys → AllByRecursion SuffixGood ys → kinds c ≡ flat_map expr_suffix_spelling ys
    → Ends 11 more → next (c ++ more) ≡ Some k → Suffixed k R make found all c
unfolding Ends
suffixed_by k R make back reaches found all c more [] whole fits spelt ends look =
    let a : next more ≡ Some k = ap (λ v. next (v ++ more)) (sym (kinds_none c spelt)) ∙ look in
    let b : reach (next more) ≡ 12 = ap reach a ∙ reaches in absurd (omega (arith, ends))
suffixed_by k R make back reaches found all c more (y ∷ ys) whole fits spelt ends look =
    let (s, c1, c2, split, is, suffix, others) = suffixes_cons found all c y ys whole fits.0 fits.1 spelt in
    let a : Some s.token ≡ Some k = ap (λ v. next (v ++ more)) (sym split) ∙ look in
    let b : s.token ≡ k = cc in
    let (x, r, y_is) = back y c1 (sym is ∙ b) suffix in
    (tt, s ∷ [], c1 ++ c2, (s, b, refl), (x, c1, c2, r, subst (λ v. AreSuffixes (found ++ v ∷ []) all c2) y_is others, refl), split)

none_by : (found all : List (Suffix Expr)) (c more : Input) (ys : List (Suffix Expr)) → all ≡ found ++ ys → AllByRecursion SuffixGood ys → kinds c ≡ flat_map expr_suffix_spelling ys
    → ((x : Suffix Expr) → next (c ++ more) ≢ Some (opening x)) → Just found all c
none_by found all c more [] whole fits spelt none = (whole ∙ append-nil found, kinds_none c spelt)
none_by found all c more (y ∷ ys) whole fits spelt none =
    let (s, c1, c2, split, is, suffix, others) = suffixes_cons found all c y ys whole fits.0 fits.1 spelt in
    absurd (none y (ap (λ v. next (v ++ more)) split ∙ ap Some is))

none_opens : (o : Option Token) → o ≢ Some (t.Mark m.OpenSquare) → o ≢ Some (t.Mark m.OpenRound) → o ≢ Some (t.Mark m.Dot) → (x : Suffix Expr) → o ≢ Some (opening x)
unfolding opening
none_opens o not1 not2 not3 (Index at) = not1
none_opens o not1 not2 not3 (Slice start stop step) = not1
none_opens o not1 not2 not3 (Call given) = not2
none_opens o not1 not2 not3 (Method name given) = not3

no_more_there : (found all : List (Suffix Expr)) (c : Input) → Just found all c → AreSuffixes found all c
no_more_there found all c (is, none) = record { suffixes = []; whole = is ∙ sym (append-nil found); fits = tt; spelt = ap kinds none }

module _ (expr : Level → Reader Expr) (size : ℕ) (below : Inside expr size) where
  bound_exact : (ts : Input) → length ts < size → Exact IsBound BoundEnds ts (bound expr ts)
  unfolding bound
  bound_exact ts few = bound_by expr ts (below level.Test ts few) (is_mark m.Colon (next ts)) (is_mark m.CloseSquare (next ts)) refl refl

  stepped_exact : (start stop : Option Expr) (p : Reader (Option Expr)) (ts : Input) → Exact IsBound LastEnds ts (p ts)
      → Exact (Stepped start stop) Any ts ((p >>= λ step. expect m.CloseSquare >>= λ _. pure (Slice start stop (Some step))) ts)
  stepped_exact start stop p ts reads =
      exact_then IsBound (λ step. Closes m.CloseSquare (Slice start stop (Some step))) LastEnds Any
      (λ step x c1 c2 more _ closed _. token_next square (Just (Slice start stop (Some step))) x c2 more closed)
      (λ step c r. some_closes m.CloseSquare (Slice start stop (Some step)))
      ts (p ts) (λ step. expect m.CloseSquare >>= λ _. pure (Slice start stop (Some step))) reads
      (λ step left taken split r. exact_expected_then (Just (Slice start stop (Some step))) Any (Slice start stop (Some step), [], (refl, refl)) left (pure (Slice start stop (Some step)))
      (λ left2 _. exact_pure (Slice start stop (Some step)) Any left2) m.CloseSquare)

  rest_exact : (start stop : Option Expr) (ts : Input) → length ts < size → Exact (SliceRest start stop) Any ts
      (and_then (eat m.Colon ts) (λ stepped. if stepped then
      ((λ ts. (if is_mark m.CloseSquare (next ts) then pure None else (expr level.Test >>= λ x. pure (Some x))) ts) >>= λ step. expect m.CloseSquare >>= λ _. pure (Slice start stop (Some step)))
      else (expect m.CloseSquare >>= λ _. pure (Slice start stop None))))
  rest_exact start stop ts few =
      exact_eat (SliceRest start stop) Any
      ((λ ts. (if is_mark m.CloseSquare (next ts) then pure None else (expr level.Test >>= λ x. pure (Some x))) ts) >>= λ step. expect m.CloseSquare >>= λ _. pure (Slice start stop (Some step)))
      (expect m.CloseSquare >>= λ _. pure (Slice start stop None)) ts m.Colon
      (λ here. exact_by (Then (Tok colon) (λ _. Stepped start stop)) (SliceRest start stop) Any ts (λ x c j. inl j)
      (λ x c more rule _ look. elim rule [
        | inl j ↦ j
        | inr j ↦ absurd (let a : Some square ≡ Some colon = sym (token_next square (Just (Slice start stop None)) x c more j) ∙ look ∙ here in cc)
      ])
      _ (exact_token_then colon (Stepped start stop) Any (some_stepped start stop) ts
      ((λ ts. (if is_mark m.CloseSquare (next ts) then pure None else (expr level.Test >>= λ x. pure (Some x))) ts) >>= λ step. expect m.CloseSquare >>= λ _. pure (Slice start stop (Some step)))
      (λ left less. stepped_exact start stop (λ ts. (if is_mark m.CloseSquare (next ts) then pure None else (expr level.Test >>= λ x. pure (Some x))) ts) left
      (last_by expr left (below level.Test left (omega arith)) (is_mark m.CloseSquare (next left)) refl)) here))
      (λ other. exact_by (Closes m.CloseSquare (Slice start stop None)) (SliceRest start stop) Any ts (λ x c j. inr j)
      (λ x c more rule _ look. elim rule [ inl j ↦ absurd (other (sym look ∙ token_next colon (Stepped start stop) x c more j)) | inr j ↦ j ])
      _ (exact_expected_then (Just (Slice start stop None)) Any (Slice start stop None, [], (refl, refl)) ts (pure (Slice start stop None))
      (λ left _. exact_pure (Slice start stop None) Any left) m.CloseSquare))

  rest_begins : (start stop : Option Expr) (x : Suffix Expr) (c more : Input) → SliceRest start stop x c → BoundEnds (c ++ more)
  rest_begins start stop x c more (inl j) = inl (token_next colon (Stepped start stop) x c more j)
  rest_begins start stop x c more (inr j) = inr (token_next square (Just (Slice start stop None)) x c more j)

  slice_exact : (start : Option Expr) (ts : Input) → length ts < size → Exact (Sliced start) Any ts (slice_after expr start ts)
  unfolding slice_after
  slice_exact start ts few =
      exact_then IsBound (SliceRest start) BoundEnds Any
      (λ stop x c1 c2 more _ rule _. rest_begins start stop x c2 more rule)
      (λ stop c r. let (y, d, q) = some_closes m.CloseSquare (Slice start stop None) in (y, d, inr q))
      ts (bound expr ts) _ (bound_exact ts few)
      (λ stop left taken split r. rest_exact start stop left (let a = length_after ts taken left split in omega arith))

  index_after_exact : (at : Expr) (ts : Input) → length ts < size → Exact (IndexRest at) Any ts (index_after expr at ts)
  unfolding index_after
  index_after_exact at ts few =
      exact_eat (IndexRest at) Any (slice_after expr (Some at)) (expect m.CloseSquare >>= λ _. pure (Index at)) ts m.Colon
      (λ here. exact_by (Then (Tok colon) (λ _. Sliced (Some at))) (IndexRest at) Any ts (λ x c j. inl j)
      (λ x c more rule _ look. elim rule [
        | inl j ↦ j
        | inr j ↦ absurd (let a : Some square ≡ Some colon = sym (token_next square (Just (Index at)) x c more j) ∙ look ∙ here in cc)
      ])
      _ (exact_token_then colon (Sliced (Some at)) Any (some_sliced (Some at)) ts (slice_after expr (Some at)) (λ left less. slice_exact (Some at) left (omega arith)) here))
      (λ other. exact_by (Closes m.CloseSquare (Index at)) (IndexRest at) Any ts (λ x c j. inr j)
      (λ x c more rule _ look. elim rule [ inl j ↦ absurd (other (sym look ∙ token_next colon (Sliced (Some at)) x c more j)) | inr j ↦ j ])
      _ (exact_expected_then (Just (Index at)) Any (Index at, [], (refl, refl)) ts (pure (Index at)) (λ left _. exact_pure (Index at) Any left) m.CloseSquare))

  index_ends : (at : Expr) (x : Suffix Expr) (c more : Input) → IndexRest at x c → Ends 0 (c ++ more)
  index_ends at x c more (inl j) = token_ends colon refl (Sliced (Some at)) x c more j
  index_ends at x c more (inr j) = token_ends square refl (Just (Index at)) x c more j

  begins_no_colon : (x : Suffix Expr) (c more : Input) → Then (IsExpr 0) IndexRest x c → next (c ++ more) ≢ Some colon
  begins_no_colon x c more (at, c1, c2, r, later, split) is =
      not_first colon refl c1 (c2 ++ more) (first_of 0 at c1 r) (ap next (sym (append_assoc c1 c2 more) ∙ ap (λ v. v ++ more) (sym split)) ∙ is)

  index_exact : (ts : Input) → length ts < size → Exact InSquare Any ts (index expr ts)
  unfolding index
  index_exact ts few =
      exact_eat InSquare Any (slice_after expr None) (expr level.Test >>= index_after expr) ts m.Colon
      (λ here. exact_by (Then (Tok colon) (λ _. Sliced None)) InSquare Any ts (λ x c j. inl j)
      (λ x c more rule _ look. elim rule [ inl j ↦ j | inr j ↦ absurd (begins_no_colon x c more j (look ∙ here)) ])
      _ (exact_token_then colon (Sliced None) Any (some_sliced None) ts (slice_after expr None) (λ left less. slice_exact None left (omega arith)) here))
      (λ other. exact_by (Then (IsExpr 0) IndexRest) InSquare Any ts (λ x c j. inr j)
      (λ x c more rule _ look. elim rule [ inl j ↦ absurd (other (sym look ∙ token_next colon (Sliced None) x c more j)) | inr j ↦ j ])
      _ (exact_then (IsExpr 0) IndexRest (Ends 0) Any
      (λ at x c1 c2 more _ rule _. index_ends at x c2 more rule)
      (λ at c r. let (y, d, q) = some_closes m.CloseSquare (Index at) in (y, d, inr q))
      ts (expr level.Test ts) (index_after expr) (below level.Test ts few)
      (λ at left taken split r. index_after_exact at left (let a = length_after ts taken left split in omega arith))))

  method_exact : (ts : Input) → length ts < size → Exact MethodOf Any ts (method expr ts)
  unfolding method
  method_exact ts few =
      exact_name_then (λ name. Then (Tok (t.Mark m.OpenRound)) (λ _. Then IsGiven (λ given. Just (Method name given)))) Any some_method_of ts
      (λ name. expect m.OpenRound >>= λ _. arguments expr >>= λ given. pure (Method name given))
      (λ name left less. exact_expected_then (Then IsGiven (λ given. Just (Method name given))) Any
      (let (given, c, r) = some_given in (Method name given, c, last_back IsGiven (λ given. Method name given) _ c given r refl))
      left (arguments expr >>= λ given. pure (Method name given))
      (λ left2 less2. exact_last IsGiven Any Any (λ more ends. ends) (λ given. Method name given) left2 (arguments expr left2) (arguments_exact expr size below left2 (omega arith))) m.OpenRound)

  -- a suffix, and what `more` reads after it
  suffix_then : {A : Type 0} (k : Token) (R : A → Input → Type 0) (make : A → Suffix Expr) → ((a : A) × (c : Input) × R a c) → (found : List (Suffix Expr)) (ts : Input)
      (p : Reader A) → ((left : Input) → length left < size → Exact R Any left (p left)) → (more : List (Suffix Expr) → Reader (List (Suffix Expr)))
      → ((found' : List (Suffix Expr)) (left : Input) → length left < length ts → Exact (AreSuffixes found') (Ends 11) left (more found' left)) → length ts ≤ size
      → next ts ≡ Some k → Exact (Suffixed k R make found) (Ends 11) ts ((skip >> (p >>= λ a. more (found ++ make a ∷ []))) ts)
  suffix_then k R make (some_a, some_c, some_r) found ts p exact more goes_on few here =
      exact_token_then k (Then R (λ a. AreSuffixes (found ++ make a ∷ []))) (Ends 11)
      (let (all, c, q) = some_suffixes (found ++ make some_a ∷ []) in (all, some_c ++ c, (some_a, some_c, c, some_r, q, refl)))
      ts (p >>= λ a. more (found ++ make a ∷ []))
      (λ left less. exact_then R (λ a. AreSuffixes (found ++ make a ∷ [])) Any (Ends 11) (λ _ _ _ _ _ _ _ _. tt) (λ a c r. some_suffixes (found ++ make a ∷ []))
      left (p left) (λ a. more (found ++ make a ∷ [])) (exact left (omega arith))
      (λ a left2 taken split r. goes_on (found ++ make a ∷ []) left2 (let b = length_after left taken left2 split in omega arith))) here

  suffixes_step : (more : List (Suffix Expr) → Reader (List (Suffix Expr))) (found : List (Suffix Expr)) (ts : Input) → length ts ≤ size
      → ((found' : List (Suffix Expr)) (left : Input) → length left < length ts → Exact (AreSuffixes found') (Ends 11) left (more found' left))
      → Exact (AreSuffixes found) (Ends 11) ts (and_then (eat m.OpenSquare ts) (λ is_index. if is_index then (index expr >>= λ x. more (found ++ x ∷ [])) else
      (eat m.OpenRound >>= λ is_call. if is_call then (arguments expr >>= λ given. more (found ++ Call given ∷ [])) else
      (eat m.Dot >>= λ is_method. if is_method then (method expr >>= λ x. more (found ++ x ∷ [])) else pure found))))
  suffixes_step more found ts few goes_on =
      exact_eat (AreSuffixes found) (Ends 11) (index expr >>= λ x. more (found ++ x ∷ []))
      (eat m.OpenRound >>= λ is_call. if is_call then (arguments expr >>= λ given. more (found ++ Call given ∷ [])) else
      (eat m.Dot >>= λ is_method. if is_method then (method expr >>= λ x. more (found ++ x ∷ [])) else pure found)) ts m.OpenSquare
      (λ here. exact_by (Suffixed (t.Mark m.OpenSquare) InSquare (λ x. x) found) (AreSuffixes found) (Ends 11) ts (suffixed_there (t.Mark m.OpenSquare) InSquare (λ x. x) square_there found)
      (λ all c w h ends look. suffixed_by (t.Mark m.OpenSquare) InSquare (λ x. x) (λ x d is r. (x, square_back x d is r, refl)) refl found all c w h.suffixes h.whole h.fits h.spelt ends (look ∙ here))
      _ (suffix_then (t.Mark m.OpenSquare) InSquare (λ x. x) some_square found ts (index expr) index_exact more goes_on few here))
      (λ not1. exact_eat (AreSuffixes found) (Ends 11) (arguments expr >>= λ given. more (found ++ Call given ∷ []))
      (eat m.Dot >>= λ is_method. if is_method then (method expr >>= λ x. more (found ++ x ∷ [])) else pure found) ts m.OpenRound
      (λ here. exact_by (Suffixed (t.Mark m.OpenRound) IsGiven (λ given. Call given) found) (AreSuffixes found) (Ends 11) ts (suffixed_there (t.Mark m.OpenRound) IsGiven (λ given. Call given) call_there found)
      (λ all c w h ends look. suffixed_by (t.Mark m.OpenRound) IsGiven (λ given. Call given) call_back refl found all c w h.suffixes h.whole h.fits h.spelt ends (look ∙ here))
      _ (suffix_then (t.Mark m.OpenRound) IsGiven (λ given. Call given) some_given found ts (arguments expr) (arguments_exact expr size below) more goes_on few here))
      (λ not2. exact_eat (AreSuffixes found) (Ends 11) (method expr >>= λ x. more (found ++ x ∷ [])) (pure found) ts m.Dot
      (λ here. exact_by (Suffixed (t.Mark m.Dot) MethodOf (λ x. x) found) (AreSuffixes found) (Ends 11) ts (suffixed_there (t.Mark m.Dot) MethodOf (λ x. x) method_there found)
      (λ all c w h ends look. suffixed_by (t.Mark m.Dot) MethodOf (λ x. x) (λ x d is r. (x, method_back x d is r, refl)) refl found all c w h.suffixes h.whole h.fits h.spelt ends (look ∙ here))
      _ (suffix_then (t.Mark m.Dot) MethodOf (λ x. x) some_method found ts (method expr) method_exact more goes_on few here))
      (λ not3. exact_by (Just found) (AreSuffixes found) (Ends 11) ts (no_more_there found)
      (λ all c w h ends look. none_by found all c w h.suffixes h.whole h.fits h.spelt
      (none_opens (next (c ++ w)) (λ a. not1 (sym look ∙ a)) (λ a. not2 (sym look ∙ a)) (λ a. not3 (sym look ∙ a))))
      _ (exact_pure found (Ends 11) ts))))

  suffixes_exact : (n : ℕ) (found : List (Suffix Expr)) (ts : Input) → length ts ≤ n → length ts ≤ size → Exact (AreSuffixes found) (Ends 11) ts (suffixes_from expr n found ts)
  unfolding suffixes_from
  suffixes_exact zero found [] few small = exact_by (Just found) (AreSuffixes found) (Ends 11) [] (no_more_there found)
      (λ all c w h ends look. none_by found all c w h.suffixes h.whole h.fits h.spelt (λ x a. let b : None ≡ Some (opening x) = sym look ∙ a in cc))
      _ (exact_pure found (Ends 11) [])
  suffixes_exact zero found (s ∷ ts) few small = absurd (omega arith)
  suffixes_exact (suc n) found ts few small = suffixes_step (suffixes_from expr n) found ts small (λ found' left less. suffixes_exact n found' left (omega arith) (omega arith))

-- ---- a primary

-- an atom and its suffixes, perhaps none
abbrev IsPrimary : Expr → Input → Type 0
IsPrimary = Then (IsExpr 12) (λ head. Then (AreSuffixes []) (λ found. Just (with_suffixes head found)))

goods_fit : (xs : List (Suffix Expr)) → AllByRecursion SuffixGood xs → AllByRecursion SuffixFits xs × AllByRecursion (EachSuffix IsLevelled) xs
goods_fit [] h = (tt, tt)
goods_fit (x ∷ xs) h = let (a, b) = goods_fit xs h.1 in ((h.0.fits, a), (h.0.levelled, b))

fits_good : (xs : List (Suffix Expr)) → AllByRecursion SuffixFits xs → AllByRecursion (EachSuffix IsLevelled) xs → AllByRecursion SuffixGood xs
fits_good [] a b = tt
fits_good (x ∷ xs) a b = (record { fits = a.0; levelled = b.0 }, fits_good xs a.1 b.1)

primary_there : (x : Expr) (c : Input) → IsPrimary x c → IsExpr 11 x c
primary_there x c (head, c1, c2, r, last, split) =
    let (found, suffixes, x_is) = last_there (AreSuffixes []) (λ found. with_suffixes head found) x c2 last in
    by_suffixes found suffixes.suffixes suffixes.whole suffixes.fits suffixes.spelt x_is
  where
    by_suffixes : (found ys : List (Suffix Expr)) → found ≡ ys → AllByRecursion SuffixGood ys → kinds c2 ≡ flat_map expr_suffix_spelling ys → x ≡ with_suffixes head found → IsExpr 11 x c
    by_suffixes found [] whole fits spelt x_is =
        let is : x ≡ head = x_is ∙ ap (with_suffixes head) whole in
        let all : c ≡ c1 = split ∙ ap (λ v. c1 ++ v) (kinds_none c2 spelt) ∙ append-nil c1 in
        record { levelled = subst IsLevelled (sym is) r.levelled; high = subst (λ v. 11 ≤ rank v) (sym is) (omega (arith, r.high)); spelt = ap kinds all ∙ r.spelt ∙ ap expr_spelling (sym is) }
    by_suffixes found (y ∷ ys) whole fits spelt x_is =
        let is : x ≡ e.Primary head (y ∷ ys) = x_is ∙ ap (with_suffixes head) whole in
        let (a, b) = goods_fit (y ∷ ys) fits in
        made_is 11 (Expr-F.Primary head (y ∷ ys)) x c (e.rolls-Primary head (y ∷ ys) ∙ sym is) (omega arith) (r.high, (λ none. cc), a) (r.levelled, b)
        (ap kinds split ∙ kinds_append c1 c2 ∙ ap (λ v. v ++ kinds c2) r.spelt ∙ ap (λ v. expr_spelling head ++ v) spelt)

primary_by_layer : (x : Expr) (c : Input) (d : Expr-F Expr) → roll-Expr d ≡ x → layer_rank d ≡ 11 → Fits d → Each IsLevelled d → kinds c ≡ parts_spelling d → IsPrimary x c
primary_by_layer x c (Expr-F.Primary head []) whole level fits each spelt = absurd (fits.1 refl)
primary_by_layer x c (Expr-F.Primary head (y ∷ ys)) whole level fits each spelt =
    let (c1, c2, split, is1, is2) = kinds_split c (expr_spelling head) (flat_map expr_suffix_spelling (y ∷ ys)) spelt in (
      head,
      c1,
      c2,
      record { levelled = each.0; high = fits.0; spelt = is1 },
      last_back (AreSuffixes []) (λ found. with_suffixes head found) x c2 (y ∷ ys)
          (record { suffixes = y ∷ ys; whole = refl; fits = fits_good (y ∷ ys) fits.2 each.1; spelt = is2 }) (sym whole ∙ e.rolls-Primary head (y ∷ ys)),
      split,
    )
primary_by_layer x c (Expr-F.Chain l first links) whole level fits each spelt = absurd (let a = rank_few l in omega arith)
primary_by_layer x c _ whole level fits each spelt = absurd (omega arith)

primary_back : (x : Expr) (c : Input) → IsExpr 11 x c → IsPrimary x c
primary_back x c h = elim (node_or_higher 11 x c h) [
  | inl high ↦ (x, c, [], high, last_back (AreSuffixes []) (λ found. with_suffixes x found) x [] [] (record { suffixes = []; whole = refl; fits = tt; spelt = refl }) refl, sym (append-nil c))
  | inr node ↦ primary_by_layer x c node.layer node.whole node.level node.fits node.each node.spelt
]

module _ (expr : Level → Reader Expr) (size : ℕ) (below : Inside expr size) (atoms : (ts : Input) → length ts ≤ size → Exact (IsExpr 12) Any ts (atom expr ts)) where
  -- primaries are read exactly, if atoms are, and expressions of fewer tokens
  pub primary_exact : (ts : Input) → length ts ≤ size → Exact (IsExpr 11) (Ends 11) ts (primary expr ts)
  unfolding primary
  primary_exact ts few = exact_same IsPrimary (IsExpr 11) (Ends 11) primary_there primary_back ts _
      (exact_then (IsExpr 12) (λ head. Then (AreSuffixes []) (λ found. Just (with_suffixes head found))) Any (Ends 11) (λ _ _ _ _ _ _ _ _. tt)
      (λ head c r. (head, [], last_back (AreSuffixes []) (λ found. with_suffixes head found) head [] [] (record { suffixes = []; whole = refl; fits = tt; spelt = refl }) refl))
      ts (atom expr ts) (λ head. (λ ts. suffixes_from expr (length ts) [] ts) >>= λ found. pure (with_suffixes head found)) (atoms ts few)
      (λ head left taken split r. exact_last (AreSuffixes []) (Ends 11) (Ends 11) (λ more ends. ends) (λ found. with_suffixes head found) left
      (suffixes_from expr (length left) [] left) (suffixes_exact expr size below (length left) [] left (omega arith) (let a = length_after ts taken left split in omega arith))))
