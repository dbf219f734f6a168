-- A chain of operators is read exactly.
use Rattle.std.proofs.Common.{◌≡◌, ◌≢◌, ◌∙◌, ℕ, zero, suc, ◌+◌, ◌≤◌, ◌<◌, Bool, true, false, List, [], ◌∷◌, ◌++◌, Option, Some, None, Ok, refl, sym, ap, subst, arith, append_assoc, length}
use Rattle.std.specs.List.{flat_map, AllByRecursion}
use Rattle.std.proofs.lemmas.List.{append-nil}
use Rattle.std.specs.Prelude.{if◌then◌else◌, ◌==◌}
use native.Mathlib.Decide.{dec_lt}
use Rattle.star_syntax.specs.declared.expression.Expr.{out-Expr, roll-Expr, roll-out-Expr}
use Rattle.star_syntax.specs.declared.expression.Expr.TheOpen.{Expr-F}
use Rattle.star_syntax.specs.declared.expression.Expr.TheVariants as e
use Rattle.star_syntax.proofs.Levelled.{levelled_parts, levelled_made, rank_made, rank_parts, Each, EachLink}
use Rattle.star_syntax.proofs.SpellingLemmas.{spells-Chain}
use denote.Enum.Bare.{sameb, same_true, true_same}
use Rattle.star_syntax.specs.declared.token.Token.{Token}
use Rattle.star_syntax.specs.declared.token.Token.TheVariants as t
use Rattle.star_syntax.specs.declared.token.Keyword.TheVariants as w
use Rattle.star_syntax.specs.declared.token.Mark.TheVariants as m
use Rattle.star_syntax.specs.declared.expression.ChainLevel.{ChainLevel}
use Rattle.star_syntax.specs.declared.expression.ChainLevel.TheVariants as chain
use Rattle.star_syntax.specs.declared.expression.ChainOp.{ChainOp}
use Rattle.star_syntax.specs.declared.expression.ChainOp.TheVariants as op
use Rattle.star_syntax.specs.declared.operator.BinaryOp.TheVariants as binary
use Rattle.star_syntax.specs.contracts.expression.ChainLevel.{the_type as level_type}
use Rattle.star_syntax.specs.declared.expression.Link.{Link}
use Rattle.star_syntax.specs.declared.expression.Expr.{Expr}
use Rattle.star_syntax.specs.Spelling.{expr_spelling, chain_token}
use Rattle.star_syntax.specs.SpellingOfParts.{expr_link_spelling}
use Rattle.star_syntax.specs.Levels.{IsLevelled, Fits, LinkFits, rank, layer_rank, chain_rank, op_level}
use Rattle.star_parser.specs.declared.level.Level.{Level}
use Rattle.star_parser.specs.Reading.{Input, Reader, and_then, pure, next, skip, kinds}
use Rattle.star_parser.specs.Tables.{chain_op, of_level, token_op}
use Rattle.star_parser.specs.Readers.{links_from, links_by, chained, with_links}
use Rattle.star_parser.specs.Ends.{reach, Ends, level_rank}
use Rattle.star_parser.proofs.Exact.{Exact, Then, Just, exact_then, exact_by, exact_same, exact_pure}
use Rattle.star_parser.proofs.Steps.{Tok, exact_skip}
use Rattle.star_parser.proofs.Rules.{IsExpr, kinds_split, kinds_cons, kinds_none, kinds_append, next_kind, length_after, length_less, some_is}

-- ---- operators

op_of_token : (o : ChainOp) → token_op (Some (chain_token o)) ≡ Some o
op_of_token op.Or = refl
op_of_token op.And = refl
op_of_token (op.Binary binary.Or) = refl
op_of_token (op.Binary binary.Xor) = refl
op_of_token (op.Binary binary.And) = refl
op_of_token (op.Binary binary.Add) = refl
op_of_token (op.Binary binary.Sub) = refl
op_of_token (op.Binary binary.Mul) = refl
op_of_token (op.Binary binary.Floor) = refl
op_of_token (op.Binary binary.Mod) = refl

its_token : (p o : ChainOp) → Some p ≡ Some o → Some (chain_token p) ≡ Some (chain_token o)
its_token p o h = let same : p ≡ o = cc in ap (λ q. Some (chain_token q)) same

token_of_op : (k : Option Token) (o : ChainOp) → token_op k ≡ Some o → k ≡ Some (chain_token o)
token_of_op (Some (t.Word w.Or)) o h = its_token op.Or o h
token_of_op (Some (t.Word w.And)) o h = its_token op.And o h
token_of_op (Some (t.Mark m.Bar)) o h = its_token (op.Binary binary.Or) o h
token_of_op (Some (t.Mark m.Caret)) o h = its_token (op.Binary binary.Xor) o h
token_of_op (Some (t.Mark m.Ampersand)) o h = its_token (op.Binary binary.And) o h
token_of_op (Some (t.Mark m.Plus)) o h = its_token (op.Binary binary.Add) o h
token_of_op (Some (t.Mark m.Minus)) o h = its_token (op.Binary binary.Sub) o h
token_of_op (Some (t.Mark m.Star)) o h = its_token (op.Binary binary.Mul) o h
token_of_op (Some (t.Mark m.FloorDivide)) o h = its_token (op.Binary binary.Floor) o h
token_of_op (Some (t.Mark m.Percent)) o h = its_token (op.Binary binary.Mod) o h
token_of_op _ o h = absurd cc

-- a token is that of one operator alone
pub chain_token_one : (o p : ChainOp) → chain_token o ≡ chain_token p → o ≡ p
chain_token_one o p h = let a = op_of_token o in let b = op_of_token p in let c : token_op (Some (chain_token o)) ≡ token_op (Some (chain_token p)) = ap (λ k. token_op (Some k)) h in cc

chosen : (l : ChainLevel) (q o : ChainOp) (b : Bool) → sameb level_type (op_level q) l ≡ b → (if b then Some q else None) ≡ Some o → (q ≡ o) × (op_level q ≡ l)
chosen l q o true is h = (cc, same_true level_type tt (op_level q) l is)
chosen l q o false is h = absurd cc

chosen_level : (l : ChainLevel) (q : Option ChainOp) (o : ChainOp) → of_level l q ≡ Some o → (q ≡ Some o) × (op_level o ≡ l)
chosen_level l None o h = absurd cc
chosen_level l (Some q) o h = let (a, b) = chosen l q o (sameb level_type (op_level q) l) refl h in (ap Some a, subst (λ x. op_level x ≡ l) a b)

-- the operator that a token is has this token and is of the level
pub chain_op_is : (l : ChainLevel) (k : Option Token) (o : ChainOp) → chain_op l k ≡ Some o → (k ≡ Some (chain_token o)) × (op_level o ≡ l)
unfolding chain_op
chain_op_is l k o h = let (a, b) = chosen_level l (token_op k) o h in (token_of_op k o a, b)

-- the token of an operator of the level is that operator
pub is_chain_op : (l : ChainLevel) (o : ChainOp) → op_level o ≡ l → chain_op l (Some (chain_token o)) ≡ Some o
unfolding chain_op
is_chain_op l o h = rw (op_of_token o, true_same level_type (op_level o) l h) refl

reach_of_op : (o : ChainOp) → reach (Some (chain_token o)) ≡ chain_rank (op_level o) + 1
reach_of_op op.Or = refl
reach_of_op op.And = refl
reach_of_op (op.Binary binary.Or) = refl
reach_of_op (op.Binary binary.Xor) = refl
reach_of_op (op.Binary binary.And) = refl
reach_of_op (op.Binary binary.Add) = refl
reach_of_op (op.Binary binary.Sub) = refl
reach_of_op (op.Binary binary.Mul) = refl
reach_of_op (op.Binary binary.Floor) = refl
reach_of_op (op.Binary binary.Mod) = refl

no_op : (l : ChainLevel) → chain_op l None ≡ None
unfolding chain_op
no_op l = refl

-- ---- the links of a chain

-- the operator is of the chain, and the operand is levelled and of a higher level
pub record LinkGood (l : ChainLevel) (link : Link Expr) : Type 0 where
  pub levelled : IsLevelled link.operand
  pub level : op_level link.op ≡ l
  pub high : chain_rank l < rank link.operand

-- what was found, and after it links that the tokens spell
pub record AreLinks (l : ChainLevel) (found all : List (Link Expr)) (c : Input) : Type 0 where
  pub links : List (Link Expr)
  pub whole : all ≡ found ++ links
  pub fits : AllByRecursion (LinkGood l) links
  pub spelt : kinds c ≡ flat_map expr_link_spelling links

-- a link after an operator
abbrev Linked : ChainLevel → List (Link Expr) → ChainOp → List (Link Expr) → Input → Type 0
Linked l found o = Then (Tok (chain_token o)) (λ _. Then (IsExpr (chain_rank l + 1)) (λ operand. AreLinks l (found ++ record { op = o; operand = operand } ∷ [])))

module _ (l : ChainLevel) (found : List (Link Expr)) where
  linked_there : (o : ChainOp) → op_level o ≡ l → (all : List (Link Expr)) (c : Input) → Linked l found o all c → AreLinks l found all c
  linked_there o level all c (_, c1, c2, (s, is, e1), (x, c3, c4, rx, more, e2), e) = record {
    links = record { op = o; operand = x } ∷ more.links;
    whole = more.whole ∙ append_assoc found (record { op = o; operand = x } ∷ []) more.links;
    fits = (record { levelled = rx.levelled; level = level; high = omega (arith, rx.high) }, more.fits);
    spelt = (
        let all' : c ≡ s ∷ (c3 ++ c4) = e ∙ ap (λ v. v ++ c2) e1 ∙ ap (λ v. s ∷ v) e2 in
        let a = kinds_append c3 c4 in
        let b : kinds c ≡ s.token ∷ kinds (c3 ++ c4) = ap kinds all' in cc);
  }

  back_by : (o : ChainOp) → op_level o ≡ l → (ts : Input) → next ts ≡ Some (chain_token o)
      → (all : List (Link Expr)) (c more : Input) (ys : List (Link Expr)) → all ≡ found ++ ys → AllByRecursion (LinkGood l) ys → kinds c ≡ flat_map expr_link_spelling ys
      → Ends (chain_rank l) more → next (c ++ more) ≡ next ts → Linked l found o all c
  unfolding Ends
  back_by o level ts here all c more [] whole fits spelt ends look =
      let empty = kinds_none c spelt in
      let e : next more ≡ Some (chain_token o) = ap (λ v. next (v ++ more)) (sym empty) ∙ look ∙ here in
      let a = reach_of_op o in
      let b : reach (next more) ≡ chain_rank l + 1 = ap reach e ∙ a ∙ ap (λ v. chain_rank v + 1) level in
      absurd (omega (arith, ends))
  back_by o level ts here all c more (y ∷ ys) whole fits spelt ends look =
      let (s, c', e, is, others) = kinds_cons c (chain_token y.op) (expr_spelling y.operand ++ flat_map expr_link_spelling ys) spelt in
      let (c3, c4, e2, is3, is4) = kinds_split c' (expr_spelling y.operand) (flat_map expr_link_spelling ys) others in
      let found_op : Some (chain_token y.op) ≡ Some (chain_token o) = sym (next_kind c more (chain_token y.op) (expr_spelling y.operand ++ flat_map expr_link_spelling ys) spelt) ∙ look ∙ here in
      let same : y.op ≡ o = chain_token_one y.op o cc in
      let is' : s.token ≡ chain_token o = is ∙ ap chain_token same in
      let y' : Link Expr = record { op = o; operand = y.operand } in
      let y_is : y ≡ y' = ap (λ p. let z : Link Expr = record { op = p; operand = y.operand } in z) same in (
        tt,
        s ∷ [],
        c',
        (s, is', refl),
        (
          y.operand,
          c3,
          c4,
          record { levelled = fits.0.levelled; high = omega (arith, fits.0.high); spelt = is3 },
          record { links = ys; whole = whole ∙ ap (λ z. found ++ z ∷ ys) y_is ∙ sym (append_assoc found (y' ∷ []) ys); fits = fits.1; spelt = is4 },
          e2,
        ),
        e,
      )

  linked_back : (o : ChainOp) → op_level o ≡ l → (ts : Input) → next ts ≡ Some (chain_token o)
      → (all : List (Link Expr)) (c more : Input) → AreLinks l found all c → Ends (chain_rank l) more → next (c ++ more) ≡ next ts → Linked l found o all c
  linked_back o level ts here all c more links = back_by o level ts here all c more links.links links.whole links.fits links.spelt

  none_there : (all : List (Link Expr)) (c : Input) → Just found all c → AreLinks l found all c
  none_there all c (is, empty) = record { links = []; whole = is ∙ sym (append-nil found); fits = tt; spelt = ap kinds empty }

  -- where no operator of the level comes next
  none_by : (ts : Input) → chain_op l (next ts) ≡ None → (all : List (Link Expr)) (c more : Input) (ys : List (Link Expr)) → all ≡ found ++ ys
      → AllByRecursion (LinkGood l) ys → kinds c ≡ flat_map expr_link_spelling ys → next (c ++ more) ≡ next ts → Just found all c
  none_by ts none all c more [] whole fits spelt look = (whole ∙ append-nil found, kinds_none c spelt)
  none_by ts none all c more (y ∷ ys) whole fits spelt look =
      let a : next ts ≡ Some (chain_token y.op) = sym look ∙ next_kind c more (chain_token y.op) (expr_spelling y.operand ++ flat_map expr_link_spelling ys) spelt in
      let b = is_chain_op l y.op fits.0.level in
      let d : chain_op l (next ts) ≡ chain_op l (Some (chain_token y.op)) = ap (chain_op l) a in
      absurd (let both : None ≡ Some y.op = sym none ∙ d ∙ b in cc)

  none_back : (ts : Input) → chain_op l (next ts) ≡ None
      → (all : List (Link Expr)) (c more : Input) → AreLinks l found all c → Ends (chain_rank l) more → next (c ++ more) ≡ next ts → Just found all c
  none_back ts none all c more links ends look = none_by ts none all c more links.links links.whole links.fits links.spelt look

-- the operands of the level are read exactly, from at most so many tokens
abbrev pub ReadsBelow : (Level → Reader Expr) → ℕ → Level → Type 0
ReadsBelow expr bound l = (ts : Input) → length ts ≤ bound → Exact (IsExpr (level_rank l)) (Ends (level_rank l)) ts (expr l ts)

-- the levels of chains
pub rank_few : (l : ChainLevel) → (chain_rank l ≤ 9) × (chain_rank l ≢ 0) × (chain_rank l ≢ 3) × (chain_rank l ≢ 4)
rank_few chain.Or = (omega arith, omega arith, omega arith, omega arith)
rank_few chain.And = (omega arith, omega arith, omega arith, omega arith)
rank_few chain.BitOr = (omega arith, omega arith, omega arith, omega arith)
rank_few chain.BitXor = (omega arith, omega arith, omega arith, omega arith)
rank_few chain.BitAnd = (omega arith, omega arith, omega arith, omega arith)
rank_few chain.Sum = (omega arith, omega arith, omega arith, omega arith)
rank_few chain.Product = (omega arith, omega arith, omega arith, omega arith)

level_of : ℕ → ChainLevel
level_of n =
    if n == 1 then chain.Or else (if n == 2 then chain.And else (if n == 5 then chain.BitOr else (
    if n == 6 then chain.BitXor else (if n == 7 then chain.BitAnd else (if n == 8 then chain.Sum else chain.Product)))))

level_again : (l : ChainLevel) → level_of (chain_rank l) ≡ l
unfolding level_of
level_again chain.Or = refl
level_again chain.And = refl
level_again chain.BitOr = refl
level_again chain.BitXor = refl
level_again chain.BitAnd = refl
level_again chain.Sum = refl
level_again chain.Product = refl

rank_one : (m l : ChainLevel) → chain_rank m ≡ chain_rank l → m ≡ l
rank_one m l h = sym (level_again m) ∙ ap level_of h ∙ level_again l

rank_low : (l : ChainLevel) → chain_rank l + 1 ≤ 12
rank_low l = let b = rank_few l in omega arith

links_begin : (l : ChainLevel) (found all : List (Link Expr)) (c more : Input) → AreLinks l found all c → Ends (chain_rank l) more → Ends (chain_rank l + 1) (c ++ more)
unfolding Ends
links_begin l found all c more links ends =
    begin_by links.links links.fits links.spelt
  where
    begin_by : (ys : List (Link Expr)) → AllByRecursion (LinkGood l) ys → kinds c ≡ flat_map expr_link_spelling ys → reach (next (c ++ more)) ≤ chain_rank l + 1
    begin_by [] fits spelt = let a : next (c ++ more) ≡ next more = ap (λ v. next (v ++ more)) (kinds_none c spelt) in
        let b : reach (next (c ++ more)) ≡ reach (next more) = ap reach a in omega (arith, ends)
    begin_by (y ∷ ys) fits spelt =
        let a = next_kind c more (chain_token y.op) (expr_spelling y.operand ++ flat_map expr_link_spelling ys) spelt in
        let b : reach (next (c ++ more)) ≡ chain_rank l + 1 = ap reach a ∙ reach_of_op y.op ∙ ap (λ v. chain_rank v + 1) fits.0.level in omega arith

module _ (expr : Level → Reader Expr) (bound : ℕ) (l : ChainLevel) (inner : Level) (deeper : level_rank inner ≡ chain_rank l + 1) (reads : ReadsBelow expr bound inner) where
  operand_exact : (ts : Input) → length ts ≤ bound → Exact (IsExpr (chain_rank l + 1)) (Ends (chain_rank l + 1)) ts (expr inner ts)
  operand_exact ts few = subst (λ r. Exact (IsExpr r) (Ends r) ts (expr inner ts)) deeper (reads ts few)

  -- one more link, or none, by the operator that comes next
  step : (more : List (Link Expr) → Reader (List (Link Expr))) (found : List (Link Expr)) (ts : Input) → length ts ≤ bound
      → ((found' : List (Link Expr)) (left : Input) → length left < length ts → Exact (AreLinks l found') (Ends (chain_rank l)) left (more found' left))
      → (o : Option ChainOp) → chain_op l (next ts) ≡ o → Exact (AreLinks l found) (Ends (chain_rank l)) ts (links_by expr inner found more o ts)
  step more found ts few goes_on None none =
      exact_by (Just found) (AreLinks l found) (Ends (chain_rank l)) ts (none_there l found) (none_back l found ts none) (Ok (found, ts))
      (exact_pure found (Ends (chain_rank l)) ts)
  step more found ts few goes_on (Some o) is =
      let (here, level) = chain_op_is l (next ts) o is in
      exact_by (Linked l found o) (AreLinks l found) (Ends (chain_rank l)) ts (linked_there l found o level) (linked_back l found o level ts here) _
      (exact_then (Tok (chain_token o)) (λ _. Then (IsExpr (chain_rank l + 1)) (λ operand. AreLinks l (found ++ record { op = o; operand = operand } ∷ [])))
      (λ _. Unit {0}) (Ends (chain_rank l)) (λ _ _ _ _ _ _ _ _. tt)
      (λ _ _ _. let (x, c, r) = some_is (chain_rank l + 1) (rank_low l) in
      (found ++ record { op = o; operand = x } ∷ [], c ++ [], (x, c, [], r, record { links = []; whole = sym (append-nil _); fits = tt; spelt = refl }, refl)))
      ts (skip ts) (λ _ ts'. and_then (expr inner ts') (λ operand. more (found ++ record { op = o; operand = operand } ∷ [])))
      (exact_skip (chain_token o) (λ _. Unit {0}) ts here)
      (λ _ left taken split (s, is', e).
      let less : length left < length ts = length_less ts taken left split (λ none. let a : [] ≡ s ∷ [] = sym none ∙ e in cc) in
      exact_then (IsExpr (chain_rank l + 1)) (λ operand. AreLinks l (found ++ record { op = o; operand = operand } ∷ []))
      (Ends (chain_rank l + 1)) (Ends (chain_rank l))
      (λ x all c1 c2 more' _ links ends. links_begin l (found ++ record { op = o; operand = x } ∷ []) all c2 more' links ends)
      (λ x c _. (found ++ record { op = o; operand = x } ∷ [], [], record { links = []; whole = sym (append-nil _); fits = tt; spelt = refl }))
      left (expr inner left) (λ operand. more (found ++ record { op = o; operand = operand } ∷ []))
      (operand_exact left (omega arith))
      (λ x left2 taken2 split2 _. goes_on (found ++ record { op = o; operand = x } ∷ []) left2 (let a = length_after left taken2 left2 split2 in omega arith))))

  links_exact : (n : ℕ) (found : List (Link Expr)) (ts : Input) → length ts ≤ n → length ts ≤ bound
      → Exact (AreLinks l found) (Ends (chain_rank l)) ts (links_from expr l inner n found ts)
  unfolding links_from
  links_exact zero found [] few small = step (λ _. pure []) found [] small (λ f left less. absurd (omega arith)) None (no_op l)
  links_exact zero found (s ∷ ts) few small = absurd (omega arith)
  links_exact (suc n) found ts few small =
      step (links_from expr l inner n) found ts small (λ f left less. links_exact n f left (omega arith) (omega arith)) (chain_op l (next ts)) refl

-- ---- a whole chain

-- two parts, the second of them of links
abbrev Whole : ChainLevel → Expr → Input → Type 0
Whole l = Then (IsExpr (chain_rank l + 1)) (λ first. Then (AreLinks l []) (λ links. Just (with_links l first links)))

ops_fit : (l : ChainLevel) (xs : List (Link Expr)) → AllByRecursion (LinkGood l) xs
    → AllByRecursion (LinkFits l) xs
ops_fit l [] fits = tt
ops_fit l (x ∷ xs) fits = ((fits.0.level, fits.0.high), ops_fit l xs fits.1)

operands_fit : (l : ChainLevel) (xs : List (Link Expr)) → AllByRecursion (LinkGood l) xs → AllByRecursion (EachLink IsLevelled) xs
operands_fit l [] fits = tt
operands_fit l (x ∷ xs) fits = (fits.0.levelled, operands_fit l xs fits.1)

links_fit : (l : ChainLevel) (xs : List (Link Expr)) → AllByRecursion (LinkFits l) xs
    → AllByRecursion (EachLink IsLevelled) xs → AllByRecursion (LinkGood l) xs
links_fit l [] fits each = tt
links_fit l (x ∷ xs) fits each = (record { levelled = each.0; level = fits.0.0; high = fits.0.1 }, links_fit l xs fits.1 each.1)

rank_of_chain : (l : ChainLevel) (first : Expr) (links : List (Link Expr)) → rank (e.Chain l first links) ≡ chain_rank l
rank_of_chain l first links = ap rank (sym (e.rolls-Chain l first links)) ∙ rank_made (Expr-F.Chain l first links)

chain_made : (l : ChainLevel) (first : Expr) (links : List (Link Expr)) → links ≢ [] → chain_rank l < rank first → IsLevelled first
    → AllByRecursion (LinkGood l) links → IsLevelled (e.Chain l first links)
chain_made l first links some high levelled fits =
    subst IsLevelled (e.rolls-Chain l first links) (levelled_made (Expr-F.Chain l first links) (high, some, ops_fit l links fits) (levelled, operands_fit l links fits))

whole_there : (l : ChainLevel) (x : Expr) (c : Input) → Whole l x c → IsExpr (chain_rank l) x c
whole_there l x c (first, c1, c2, r1, (links, c3, c4, r2, (is, none), e2), e1) =
    let c_is : c ≡ c1 ++ c3 = e1 ∙ ap (λ v. c1 ++ v) (e2 ∙ ap (λ v. c3 ++ v) none ∙ append-nil c3) in
    by_links r2.links (r2.whole) r2.fits r2.spelt c_is
  where
    by_links : (ys : List (Link Expr)) → links ≡ ys → AllByRecursion (LinkGood l) ys → kinds c3 ≡ flat_map expr_link_spelling ys → c ≡ c1 ++ c3 → IsExpr (chain_rank l) x c
    by_links [] whole fits spelt c_is =
        let x_is : x ≡ first = is ∙ ap (with_links l first) whole in
        let c_first : c ≡ c1 = c_is ∙ ap (λ v. c1 ++ v) (kinds_none c3 spelt) ∙ append-nil c1 in
        record {
          levelled = subst IsLevelled (sym x_is) r1.levelled;
          high = subst (λ v. chain_rank l ≤ rank v) (sym x_is) (omega (arith, r1.high));
          spelt = ap kinds c_first ∙ r1.spelt ∙ ap expr_spelling (sym x_is);
        }
    by_links (y ∷ ys) whole fits spelt c_is =
        let x_is : x ≡ e.Chain l first (y ∷ ys) = is ∙ ap (with_links l first) whole in
        let k : kinds c ≡ expr_spelling first ++ flat_map expr_link_spelling (y ∷ ys) =
        ap kinds c_is ∙ kinds_append c1 c3 ∙ ap (λ v. v ++ kinds c3) r1.spelt ∙ ap (λ v. expr_spelling first ++ v) spelt in
        record {
          levelled = subst IsLevelled (sym x_is) (chain_made l first (y ∷ ys) (λ none. cc) (omega (arith, r1.high)) r1.levelled fits);
          high = subst (λ v. chain_rank l ≤ rank v) (sym x_is) (let a = rank_of_chain l first (y ∷ ys) in omega arith);
          spelt = k ∙ sym (spells-Chain l first (y ∷ ys)) ∙ ap expr_spelling (sym x_is);
        }

-- a node of the level is a chain of it
chain_by : (l : ChainLevel) (d : Expr-F Expr) → layer_rank d ≡ chain_rank l → (first : Expr) × (links : List (Link Expr)) × (d ≡ Expr-F.Chain l first links)
chain_by l (Expr-F.Name _) h = absurd (let b = rank_few l in omega arith)
chain_by l (Expr-F.Int _) h = absurd (let b = rank_few l in omega arith)
chain_by l (Expr-F.Text _) h = absurd (let b = rank_few l in omega arith)
chain_by l Expr-F.None h = absurd (let b = rank_few l in omega arith)
chain_by l Expr-F.True h = absurd (let b = rank_few l in omega arith)
chain_by l Expr-F.False h = absurd (let b = rank_few l in omega arith)
chain_by l (Expr-F.Paren _) h = absurd (let b = rank_few l in omega arith)
chain_by l (Expr-F.Tuple _ _) h = absurd (let b = rank_few l in omega arith)
chain_by l (Expr-F.List _ _) h = absurd (let b = rank_few l in omega arith)
chain_by l (Expr-F.ListOver _ _) h = absurd (let b = rank_few l in omega arith)
chain_by l (Expr-F.Dict _ _) h = absurd (let b = rank_few l in omega arith)
chain_by l (Expr-F.DictOver _ _ _) h = absurd (let b = rank_few l in omega arith)
chain_by l (Expr-F.Primary _ _) h = absurd (let b = rank_few l in omega arith)
chain_by l (Expr-F.Signed _ _) h = absurd (let b = rank_few l in omega arith)
chain_by l (Expr-F.Chain k first links) h = (first, links, ap (λ v. Expr-F.Chain v first links) (rank_one k l h))
chain_by l (Expr-F.Compare _ _ _) h = absurd (let b = rank_few l in omega arith)
chain_by l (Expr-F.Not _ _) h = absurd (let b = rank_few l in omega arith)
chain_by l (Expr-F.Conditional _ _) h = absurd (let b = rank_few l in omega arith)

whole_back : (l : ChainLevel) (x : Expr) (c : Input) → IsExpr (chain_rank l) x c → Whole l x c
whole_back l x c r = elim (dec_lt (chain_rank l) (rank x)) [
  | yes high ↦ (
    x,
    c,
    [],
    record { levelled = r.levelled; high = omega arith; spelt = r.spelt },
    ([], [], [], record { links = []; whole = refl; fits = tt; spelt = refl }, (refl, refl), refl),
    sym (append-nil c),
  )
  | no low ↦
      let level : layer_rank (out-Expr x) ≡ chain_rank l = sym (rank_parts x) ∙ (let a = r.high in omega arith) in
      let (first, links, is) = chain_by l (out-Expr x) level in
      let x_is : x ≡ e.Chain l first links = sym (roll-out-Expr x) ∙ ap roll-Expr is ∙ e.rolls-Chain l first links in
      let parts = levelled_parts x r.levelled in
      let fits : Fits (Expr-F.Chain l first links) = subst Fits is parts.0 in
      let each : Each IsLevelled (Expr-F.Chain l first links) = subst (Each IsLevelled) is parts.1 in
      let k : kinds c ≡ expr_spelling first ++ flat_map expr_link_spelling links = r.spelt ∙ ap expr_spelling x_is ∙ spells-Chain l first links in
      let (c1, c2, e', is1, is2) = kinds_split c (expr_spelling first) (flat_map expr_link_spelling links) k in (
        first,
        c1,
        c2,
        record { levelled = each.0; high = omega (arith, fits.0); spelt = is1 },
        (
          links,
          c2,
          [],
          record { links = links; whole = refl; fits = links_fit l links fits.2 each.1; spelt = is2 },
          (x_is ∙ with_some links fits.1 first, refl),
          sym (append-nil c2),
        ),
        e',
      )
]
  where
    with_some : (links : List (Link Expr)) → links ≢ [] → (first : Expr) → e.Chain l first links ≡ with_links l first links
    with_some [] some first = absurd (some refl)
    with_some (y ∷ ys) some first = refl

module _ (expr : Level → Reader Expr) (bound : ℕ) (l : ChainLevel) (inner : Level) (deeper : level_rank inner ≡ chain_rank l + 1) (reads : ReadsBelow expr bound inner) where
  -- the expressions of the level of a chain are read exactly, if those of the next level are
  pub chained_exact : (ts : Input) → length ts ≤ bound → Exact (IsExpr (chain_rank l)) (Ends (chain_rank l)) ts (chained expr l inner ts)
  unfolding chained
  chained_exact ts few =
      exact_same (Whole l) (IsExpr (chain_rank l)) (Ends (chain_rank l)) (whole_there l) (whole_back l) ts _
      (exact_then (IsExpr (chain_rank l + 1)) (λ first. Then (AreLinks l []) (λ links. Just (with_links l first links)))
      (Ends (chain_rank l + 1)) (Ends (chain_rank l))
      (λ first x c1 c2 more _ (links, c3, c4, r, (is, none), split) ends.
      subst (λ v. Ends (chain_rank l + 1) (v ++ more)) (sym (split ∙ ap (λ v. c3 ++ v) none ∙ append-nil c3)) (links_begin l [] links c3 more r ends))
      (λ first c r. (first, [], ([], [], [], record { links = []; whole = refl; fits = tt; spelt = refl }, (refl, refl), refl)))
      ts (expr inner ts) _ (operand_exact expr bound l inner deeper reads ts few)
      (λ first left taken split r.
      exact_then (AreLinks l []) (λ links. Just (with_links l first links)) (Ends (chain_rank l)) (Ends (chain_rank l))
      (λ links x c1 c2 more _ (is, none) ends. subst (λ v. Ends (chain_rank l) (v ++ more)) (sym none) ends)
      (λ links c r'. (with_links l first links, [], (refl, refl)))
      left (links_from expr l inner (length left) [] left) _
      (links_exact expr bound l inner deeper reads (length left) [] left (omega arith) (let a = length_after ts taken left split in omega arith))
      (λ links left2 taken2 split2 r2. exact_pure (with_links l first links) (Ends (chain_rank l)) left2)))
