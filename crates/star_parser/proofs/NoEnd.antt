-- Tokens that stand in no expression: what ends a line, a block or a text, and the words and marks of statements.
use Rattle.std.proofs.Common.{◌≡◌, ◌≢◌, ◌∙◌, ℕ, zero, suc, Bool, true, false, List, [], ◌∷◌, ◌++◌, map, replicate, Option, Some, None, refl, sym, ap, subst}
use Rattle.std.specs.List.{flat_map, AllByRecursion}
use Rattle.star_syntax.specs.declared.token.Token.{Token}
use Rattle.star_syntax.specs.declared.token.Token.TheVariants as t
use Rattle.star_syntax.specs.declared.token.Mark.TheVariants as m
use Rattle.star_syntax.specs.declared.token.Keyword.TheVariants as w
use Rattle.star_syntax.specs.declared.operator.BinaryOp.TheVariants as binary
use Rattle.star_syntax.specs.declared.operator.UnaryOp.{UnaryOp}
use Rattle.star_syntax.specs.declared.operator.UnaryOp.TheVariants as sign
use Rattle.star_syntax.specs.declared.operator.CompareOp.{CompareOp}
use Rattle.star_syntax.specs.declared.operator.CompareOp.TheVariants as cmp
use Rattle.star_syntax.specs.declared.expression.ChainOp.{ChainOp}
use Rattle.star_syntax.specs.declared.expression.ChainOp.TheVariants as op
use Rattle.star_syntax.specs.declared.expression.Link.{Link}
use Rattle.star_syntax.specs.declared.expression.Arm.{Arm}
use Rattle.star_syntax.specs.declared.expression.Pair.{Pair}
use Rattle.star_syntax.specs.declared.expression.Arguments.{Arguments}
use Rattle.star_syntax.specs.declared.expression.Clause.{Clause}
use Rattle.star_syntax.specs.declared.expression.Clause.TheVariants.{For, If}
use Rattle.star_syntax.specs.declared.expression.Suffix.{Suffix}
use Rattle.star_syntax.specs.declared.expression.Suffix.TheVariants.{Index, Slice, Call, Method}
use Rattle.star_syntax.specs.declared.expression.Expr.{Expr}
use Rattle.star_syntax.specs.declared.expression.Expr.TheOpen.{Expr-F}
use Rattle.star_syntax.specs.Spelling.{Tokens, expr_spelling, tests_spelling, default_spelling, listed, sign_token, chain_token, compare_tokens, if_written}
use Rattle.star_syntax.specs.SpellingOfParts.{parts_spelling, optional_spelling, expr_step_spelling, expr_suffix_spelling, expr_arguments_spelling, expr_link_spelling, expr_arm_spelling, expr_clause_spelling, expr_pair_spelling}
use Rattle.star_syntax.proofs.Levelled.{Each, EachOption, EachStep, EachArgument, EachSuffix, EachClause, EachPair, EachLink, EachArm, induct}
use Rattle.star_syntax.proofs.SpellingLemmas.{spells_parts}

-- the token stands in some expression
abbrev pub within : Token → Bool
within (t.Word w.Elif) = false
within (t.Word w.Def) = false
within (t.Word w.Return) = false
within (t.Word w.Break) = false
within (t.Word w.Continue) = false
within (t.Word w.Pass) = false
within (t.Mark m.Semicolon) = false
within (t.Mark m.PlusAssign) = false
within (t.Mark m.MinusAssign) = false
within (t.Mark m.StarAssign) = false
within (t.Mark m.FloorAssign) = false
within (t.Mark m.PercentAssign) = false
within (t.Mark m.AmpersandAssign) = false
within (t.Mark m.BarAssign) = false
within (t.Mark m.CaretAssign) = false
within t.Newline = false
within t.Indent = false
within t.Dedent = false
within t.End = false
within _ = true

-- each of the tokens does
abbrev pub Within : Tokens → Type 0
Within = AllByRecursion (λ k. within k ≡ true)

-- the token is none of them
abbrev pub Without : Token → Tokens → Type 0
Without q = AllByRecursion (λ k. k ≢ q)

-- ---- lists

-- what holds of the elements of two lists, and of the images of elements
pub all_joined : {A : Type 0} (P : A → Type 0) (a b : List A) → AllByRecursion P a → AllByRecursion P b → AllByRecursion P (a ++ b)
all_joined P [] b x y = y
all_joined P (k ∷ a) b x y = (x.0, all_joined P a b x.1 y)

pub all_mapped : {A B : Type 0} (P : A → Type 0) (Q : B → Type 0) (f : A → B) → ((a : A) → P a → Q (f a)) → (xs : List A) → AllByRecursion P xs → AllByRecursion Q (map f xs)
all_mapped P Q f each [] h = tt
all_mapped P Q f each (x ∷ xs) h = (each x h.0, all_mapped P Q f each xs h.1)

-- lists of tokens that stand in expressions
pub joined : (a b : Tokens) → Within a → Within b → Within (a ++ b)
joined a b x y = all_joined (λ k. within k ≡ true) a b x y

pub flat_within : {A : Type 0} (P : A → Type 0) (f : A → Tokens) → ((a : A) → P a → Within (f a)) → (xs : List A) → AllByRecursion P xs → Within (flat_map f xs)
flat_within P f each [] h = tt
flat_within P f each (x ∷ xs) h = joined (f x) _ (each x h.0) (flat_within P f each xs h.1)

pub listed_within : (xs : List Tokens) → AllByRecursion Within xs → Within (listed xs)
listed_within [] h = tt
listed_within (x ∷ xs) h = joined x _ h.0 (flat_within Within (λ y. t.Mark m.Comma ∷ y) (λ y held. (refl, held)) xs h.1)

comma_within : (b : Bool) → Within (if_written b m.Comma)
comma_within true = (refl, tt)
comma_within false = tt

-- what a list in brackets spells after the opening bracket
closed : (a : Tokens) (b : Bool) (k : Token) → within k ≡ true → Within a → Within (a ++ (if_written b m.Comma ++ k ∷ []))
closed a b k is h = joined a _ h (joined (if_written b m.Comma) (k ∷ []) (comma_within b) (is, tt))

-- ---- parts of expressions

Clean : Expr → Type 0
Clean x = Within (expr_spelling x)

tests : (xs : List Expr) → AllByRecursion Clean xs → Within (tests_spelling xs)
unfolding Clean
tests xs h = listed_within (map expr_spelling xs) (all_mapped Clean Within expr_spelling (λ x held. held) xs h)

optional : (x : Option Expr) → EachOption Clean x → Within (optional_spelling x)
unfolding Clean
optional None h = tt
optional (Some x) h = h

step : (x : Option (Option Expr)) → EachStep Clean x → Within (expr_step_spelling x)
step None h = tt
step (Some x) h = (refl, optional x h)

arguments : (given : Arguments Expr) → EachArgument Clean given → Within (expr_arguments_spelling given)
unfolding Clean
arguments given h = (
  refl,
  closed _ given.comma (t.Mark m.CloseRound) refl (listed_within (map expr_spelling given.positional ++ map default_spelling given.named)
      (all_joined Within (map expr_spelling given.positional) (map default_spelling given.named)
      (all_mapped Clean Within expr_spelling (λ x held. held) given.positional h.0)
      (all_mapped (λ named. Clean named.value) Within default_spelling (λ x held. (refl, (refl, held))) given.named h.1))),
)

suffix : (x : Suffix Expr) → EachSuffix Clean x → Within (expr_suffix_spelling x)
unfolding Clean
suffix (Index at) h = (refl, joined (expr_spelling at) _ h (refl, tt))
suffix (Slice start stop last) h =
    let third : Within (expr_step_spelling last ++ t.Mark m.CloseSquare ∷ []) = joined (expr_step_spelling last) _ (step last h.2) (refl, tt) in
    let second : Within (t.Mark m.Colon ∷ (optional_spelling stop ++ (expr_step_spelling last ++ t.Mark m.CloseSquare ∷ []))) = (refl, joined (optional_spelling stop) _ (optional stop h.1) third) in
    (refl, joined (optional_spelling start) _ (optional start h.0) second)
suffix (Call given) h = arguments given h
suffix (Method name given) h = (refl, (refl, arguments given h))

clause : (x : Clause Expr) → EachClause Clean x → Within (expr_clause_spelling x)
unfolding Clean
clause (For targets over) h = (refl, joined (tests_spelling targets) _ (tests targets h.0) (refl, h.1))
clause (If condition) h = (refl, h)

pair : (x : Pair Expr) → EachPair Clean x → Within (expr_pair_spelling x)
unfolding Clean
pair x h = joined (expr_spelling x.key) _ h.0 (refl, h.1)

chain : (o : ChainOp) → within (chain_token o) ≡ true
chain op.Or = refl
chain op.And = refl
chain (op.Binary binary.Add) = refl
chain (op.Binary binary.Sub) = refl
chain (op.Binary binary.Mul) = refl
chain (op.Binary binary.Floor) = refl
chain (op.Binary binary.Mod) = refl
chain (op.Binary binary.And) = refl
chain (op.Binary binary.Or) = refl
chain (op.Binary binary.Xor) = refl

link : (x : Link Expr) → EachLink Clean x → Within (expr_link_spelling x)
unfolding Clean
link x h = (chain x.op, h)

arm : (x : Arm Expr) → EachArm Clean x → Within (expr_arm_spelling x)
unfolding Clean
arm x h = joined (expr_spelling x.value) _ h.0 (refl, joined (expr_spelling x.condition) _ h.1 (refl, tt))

signs : (xs : List UnaryOp) → Within (map sign_token xs)
signs [] = tt
signs (sign.Plus ∷ xs) = (refl, signs xs)
signs (sign.Minus ∷ xs) = (refl, signs xs)
signs (sign.Invert ∷ xs) = (refl, signs xs)

nots : (n : ℕ) → Within (replicate n (t.Word w.Not))
nots zero = tt
nots (suc n) = (refl, nots n)

compare : (o : CompareOp) → Within (compare_tokens o)
compare cmp.Equal = (refl, tt)
compare cmp.NotEqual = (refl, tt)
compare cmp.Less = (refl, tt)
compare cmp.Greater = (refl, tt)
compare cmp.AtMost = (refl, tt)
compare cmp.AtLeast = (refl, tt)
compare cmp.Within = (refl, tt)
compare cmp.NotWithin = (refl, (refl, tt))

node : (d : Expr-F Expr) → Each Clean d → Within (parts_spelling d)
unfolding Clean
node (Expr-F.Name name) h = (refl, tt)
node (Expr-F.Int n) h = (refl, tt)
node (Expr-F.Text text) h = (refl, tt)
node Expr-F.None h = (refl, tt)
node Expr-F.True h = (refl, tt)
node Expr-F.False h = (refl, tt)
node (Expr-F.Paren inner) h = (refl, joined (expr_spelling inner) _ h (refl, tt))
node (Expr-F.Tuple xs b) h = (refl, closed (tests_spelling xs) b (t.Mark m.CloseRound) refl (tests xs h))
node (Expr-F.List xs b) h = (refl, closed (tests_spelling xs) b (t.Mark m.CloseSquare) refl (tests xs h))
node (Expr-F.ListOver item xs) h =
    (refl, joined (expr_spelling item) _ h.0 (joined (flat_map expr_clause_spelling xs) _ (flat_within (EachClause Clean) expr_clause_spelling clause xs h.1) (refl, tt)))
node (Expr-F.Dict xs b) h =
    (refl, closed (listed (map expr_pair_spelling xs)) b (t.Mark m.CloseCurly) refl (listed_within (map expr_pair_spelling xs) (all_mapped (EachPair Clean) Within expr_pair_spelling pair xs h)))
node (Expr-F.DictOver key value xs) h = (
  refl,
  joined (expr_spelling key) _ h.0 (
    refl,
    joined (expr_spelling value) _ h.1
        (joined (flat_map expr_clause_spelling xs) _ (flat_within (EachClause Clean) expr_clause_spelling clause xs h.2) (refl, tt)),
  ),
)
node (Expr-F.Primary head xs) h = joined (expr_spelling head) _ h.0 (flat_within (EachSuffix Clean) expr_suffix_spelling suffix xs h.1)
node (Expr-F.Signed xs operand) h = joined (map sign_token xs) _ (signs xs) h
node (Expr-F.Chain l first xs) h = joined (expr_spelling first) _ h.0 (flat_within (EachLink Clean) expr_link_spelling link xs h.1)
node (Expr-F.Compare left o right) h = joined (expr_spelling left) _ h.0 (joined (compare_tokens o) _ (compare o) h.1)
node (Expr-F.Not n operand) h = joined (replicate n (t.Word w.Not)) _ (nots n) h
node (Expr-F.Conditional xs last) h = joined (flat_map expr_arm_spelling xs) _ (flat_within (EachArm Clean) expr_arm_spelling arm xs h.0) h.1

-- ---- whole expressions

-- each token of an expression, of expressions and of expressions with commas between stands in some expression
pub expr_within : (x : Expr) → Within (expr_spelling x)
unfolding Clean
expr_within = induct Clean (λ d each. subst Within (sym (spells_parts d)) (node d each))

pub exprs_within : (xs : List Expr) → AllByRecursion Within (map expr_spelling xs)
exprs_within [] = tt
exprs_within (x ∷ xs) = (expr_within x, exprs_within xs)

pub tests_within : (xs : List Expr) → Within (tests_spelling xs)
tests_within xs = listed_within (map expr_spelling xs) (exprs_within xs)

-- a token that stands in no expression
pub not_within : (q k : Token) → within q ≡ false → within k ≡ true → k ≢ q
not_within q k out held is = let a : within k ≡ within q = ap within is in let b : true ≡ false = sym held ∙ a ∙ out in cc

-- so it is none of the tokens that stand in no expression
pub without : (q : Token) → within q ≡ false → (ts : Tokens) → Within ts → Without q ts
without q out [] h = tt
without q out (k ∷ ts) h = (not_within q k out h.0, without q out ts h.1)

pub expr_without : (q : Token) → within q ≡ false → (x : Expr) → Without q (expr_spelling x)
expr_without q out x = without q out (expr_spelling x) (expr_within x)

-- where a token that stands nowhere else ends a front of a text, it ends the text
pub end_is_last : (q : Token) (a f more : Tokens) → Without q a → a ++ q ∷ [] ≡ f ++ q ∷ more → more ≡ []
end_is_last q [] [] more clean is = cc
end_is_last q [] (k ∷ f) more clean is = absurd (nothing f more cc)
  where
    nothing : (f more : Tokens) → [] ≡ f ++ q ∷ more → ⊥
    nothing [] more is = cc
    nothing (k ∷ f) more is = cc
end_is_last q (k ∷ a) [] more clean is = absurd (clean.0 cc)
end_is_last q (k ∷ a) (x ∷ f) more clean is = end_is_last q a f more clean.1 cc
