-- What the outcome of reading a cell says of its tokens.
use Rattle.std.proofs.Common.{◌≡◌, ◌≢◌, ◌∙◌, ℕ, suc, ◌+◌, ◌*◌, ◌-◌, ◌≤◌, ◌<◌, List, [], ◌∷◌, ◌++◌, map, take, Ok, Err, refl, sym, ap, subst, arith, append_assoc, length, length-append}
use Rattle.std.proofs.lemmas.List.{append-nil}
use Rattle.std.specs.List.{flat_map}
use Rattle.star_syntax.specs.declared.token.Token.{Token}
use Rattle.star_syntax.specs.declared.token.Token.TheVariants as t
use Rattle.star_syntax.specs.declared.statement.Statement.{Statement}
use Rattle.star_syntax.specs.declared.statement.Module.{Module}
use Rattle.star_syntax.specs.Spelling.{Tokens, statement_spelling, spelling}
use Rattle.star_syntax.specs.Levels.{WellLevelled}
use Rattle.star_syntax.specs.Nesting.{IsEnded}
use Rattle.star_parser.specs.Reading.{Input, Outcome, Reader, and_then, ◌>>=◌, pure, kinds}
use Rattle.star_parser.specs.Readers.{expr}
use Rattle.star_parser.specs.StatementTables.{finish}
use Rattle.star_parser.specs.StatementReaders.{statement, cell_from, cell, whole}
use Rattle.star_parser.specs.Lines.{unlined}
use Rattle.star_parser.proofs.Claims.{module_claims, IsClaimed}
use Rattle.star_parser.specs.Trees.{IsTree, AreSpelled, Begins, IsLeast}
use Rattle.star_parser.proofs.Exact.{Exact, Reads, Refuses}
use Rattle.star_parser.proofs.Steps.{some_token}
use Rattle.star_parser.proofs.Rules.{kinds_append, length_after}
use Rattle.star_parser.proofs.NoEnd.{end_is_last}
use Rattle.star_parser.proofs.ClaimLemmas.{matched_kinds, tokens_module}
use Rattle.star_parser.proofs.ClaimedLines.{tree_claimed, claimed_tree}
use Rattle.star_parser.proofs.Relining.{module_relined}
use Rattle.star_parser.proofs.StatementsEnd.{statements_clean}
use Rattle.star_parser.proofs.Cells.{Nothing, whole_exact}

-- ---- trees and spellings

-- a tree's tokens are its spelling
pub tree_kinds : (x : Module) (ts : Input) → IsTree x ts → spelling x ≡ kinds ts
tree_kinds x ts h = sym h.1

claimed_kinds : (x : Module) (ts : Input) → IsClaimed x ts → spelling x ≡ kinds ts
claimed_kinds x ts h = sym (matched_kinds ts (module_claims x) h.1 ∙ tokens_module x)

-- what spells a tree, on whatever lines, has a tree on these lines
tree_on : (ts : Input) → AreSpelled (kinds ts) → (x : Module) × IsClaimed x ts
tree_on ts (x, levelled, spelt) = let r = module_relined x ts levelled (sym spelt) in (r.tree, (r.levelled, r.spelt))

-- some tokens with lines, of these kinds
lined : Tokens → Input
lined = map some_token

kinds_lined : (ks : Tokens) → kinds (lined ks) ≡ ks
unfolding lined
kinds_lined [] = refl
kinds_lined (k ∷ ks) = ap (λ v. k ∷ v) (kinds_lined ks)

-- ---- one tree at most

once_by : (ts : Input) (o : Outcome Module) → Exact IsClaimed Nothing ts o → (x y : Module) → IsClaimed x ts → IsClaimed y ts → x ≡ y
unfolding Exact
once_by ts (Ok (z, left)) r x y one other =
    (r.only x ts [] left one refl (append-nil ts ∙ r.whole) refl).0 ∙ sym (r.only y ts [] left other refl (append-nil ts ∙ r.whole) refl).0
once_by ts (Err left) r x y one other = absurd (r.dead x ts [] left one refl (append-nil ts ∙ r.whole) refl)

claimed_once : (ts : Input) (x y : Module) → IsClaimed x ts → IsClaimed y ts → x ≡ y
claimed_once ts x y one other = once_by ts _ (whole_exact (12 * length ts + 12) (length ts + 1) ts (omega arith) (omega arith)) x y one other

-- tokens have one tree at most
pub tree_once : (ts : Input) (x y : Module) → IsTree x ts → IsTree y ts → x ≡ y
tree_once ts x y one other = claimed_once ts x y (tree_claimed x ts one) (tree_claimed y ts other)

-- two well-levelled trees with one spelling differ in lines alone
pub one_tree : (x y : Module) → WellLevelled x → WellLevelled y → spelling x ≡ spelling y → unlined x ≡ unlined y
one_tree x y first second same =
    let ts : Input = lined (spelling x) in
    let k : kinds ts ≡ spelling x = kinds_lined (spelling x) in
    let r = module_relined x ts first k in
    let q = module_relined y ts second (k ∙ same) in
    sym r.same ∙ ap unlined (claimed_once ts r.tree q.tree (r.levelled, r.spelt) (q.levelled, q.spelt)) ∙ q.same

-- ---- lists

take_front : (a b : Tokens) → take (length a) (a ++ b) ≡ a
take_front [] b = refl
take_front (x ∷ a) b = ap (λ v. x ∷ v) (take_front a b)

take_one_more : (a : Tokens) (k : Token) (b : Tokens) → take (length a + 1) (a ++ k ∷ b) ≡ a ++ k ∷ []
take_one_more [] k b = refl
take_one_more (x ∷ a) k b = let e : length (x ∷ a) + 1 ≡ suc (length a + 1) = omega arith in rw e (ap (λ v. x ∷ v) (take_one_more a k b))

kinds_length : (c : Input) → length (kinds c) ≡ length c
kinds_length [] = refl
kinds_length (s ∷ c) = ap suc (kinds_length c)

kinds_whole : (ts taken left : Input) → ts ≡ taken ++ left → kinds ts ≡ kinds taken ++ kinds left
kinds_whole ts taken left whole = ap kinds whole ∙ kinds_append taken left

place_is : (ts taken left : Input) → ts ≡ taken ++ left → length ts - length left ≡ length (kinds taken)
place_is ts taken left whole = let a = length-append taken left in let b : length ts ≡ length (taken ++ left) = ap length whole in let d = kinds_length taken in omega arith

-- the tokens before the place
front_is : (ts taken left : Input) → ts ≡ taken ++ left → take (length ts - length left) (kinds ts) ≡ kinds taken
front_is ts taken left whole =
    ap (λ n. take n (kinds ts)) (place_is ts taken left whole) ∙ ap (λ v. take (length (kinds taken)) v) (kinds_whole ts taken left whole) ∙ take_front (kinds taken) (kinds left)

-- ---- where reading stops

none_at_all : (ts left : Input) → Refuses IsClaimed Nothing ts left → AreSpelled (kinds ts) → ⊥
none_at_all ts left r spelled = let (x, is) = tree_on ts spelled in r.dead x ts [] left is refl (append-nil ts ∙ r.whole) refl

dead_at : (ts left : Input) → Refuses IsClaimed Nothing ts left → length ts - length left < length (kinds ts) → Begins (take (length ts - length left + 1) (kinds ts)) → ⊥
dead_at ts [] r within begun = absurd (let a = kinds_length ts in omega arith)
dead_at ts (s ∷ left) r within (x, more, levelled, spelt) =
    let w : Input = s ∷ lined more in
    let at : length ts - length (s ∷ left) + 1 ≡ length (kinds r.taken) + 1 = ap (λ n. n + 1) (place_is ts r.taken (s ∷ left) r.whole) in
    let front : take (length ts - length (s ∷ left) + 1) (kinds ts) ≡ kinds r.taken ++ s.token ∷ [] =
    ap (λ n. take n (kinds ts)) at ∙ ap (λ v. take (length (kinds r.taken) + 1) v) (kinds_whole ts r.taken (s ∷ left) r.whole) ∙ take_one_more (kinds r.taken) s.token (kinds left) in
    let k : kinds (r.taken ++ w) ≡ kinds r.taken ++ s.token ∷ more = kinds_append r.taken w ∙ ap (λ v. kinds r.taken ++ s.token ∷ v) (kinds_lined more) in
    let same : spelling x ≡ kinds (r.taken ++ w) = spelt ∙ ap (λ v. v ++ more) front ∙ append_assoc (kinds r.taken) (s.token ∷ []) more ∙ sym k in
    let (y, is) = tree_on (r.taken ++ w) (x, levelled, same) in
    r.dead y (r.taken ++ w) [] w is refl (append-nil (r.taken ++ w)) refl

-- End stands at the end alone, so what reads all tokens up to it ends there
some_left : (ts left : Input) → IsEnded ts → Refuses IsClaimed Nothing ts left → left ≢ []
unfolding spelling
some_left ts left (front, line, ends) r none =
    let (x, c, more, is, e) = r.viable in
    let all : r.taken ≡ ts = sym (r.whole ∙ ap (λ v. r.taken ++ v) none ∙ append-nil r.taken) in
    let k : spelling x ≡ kinds ts ++ kinds more = claimed_kinds x c is ∙ ap kinds e ∙ kinds_append r.taken more ∙ ap (λ v. kinds v ++ kinds more) all in
    let last_kind : kinds ts ≡ kinds front ++ t.End ∷ [] = ap kinds ends ∙ kinds_append front (record { token = t.End; line = line } ∷ []) in
    let last : kinds more ≡ [] = end_is_last t.End (flat_map statement_spelling x.statements) (kinds front) (kinds more) (statements_clean x.statements)
    (k ∙ ap (λ v. v ++ kinds more) last_kind ∙ append_assoc (kinds front) (t.End ∷ []) (kinds more)) in
    none_at_all ts left r (x, is.0, k ∙ ap (λ v. kinds ts ++ v) last ∙ append-nil (kinds ts))

is_within : (ts left : Input) → length left ≤ length ts → left ≢ [] → length ts - length left < length (kinds ts)
is_within ts [] few some = absurd (some refl)
is_within ts (s ∷ left) few some = let a = kinds_length ts in omega arith

least : (ts left : Input) → IsEnded ts → Refuses IsClaimed Nothing ts left → IsLeast (length ts - length left) (kinds ts)
least ts left ends r =
    let within : length ts - length left < length (kinds ts) = is_within ts left (length_after ts r.taken left r.whole) (some_left ts left ends r) in
    record {
      within = within;
      viable = let (x, c, more, is, e) = r.viable in
          (x, kinds more, is.0, claimed_kinds x c is ∙ ap kinds e ∙ kinds_append r.taken more ∙ ap (λ v. v ++ kinds more) (sym (front_is ts r.taken left r.whole)));
      dead = dead_at ts left r within;
    }

-- ---- what the reader's outcome says

then_ok : {A B : Type 0} (o : Outcome A) (f : A → Reader B) (p : B × Input) → and_then o f ≡ Ok p → (q : A × Input) × (f q.0 q.1 ≡ Ok p)
then_ok (Ok q) f p h = (q, h)
then_ok (Err ts) f p h = absurd cc

left_of : Outcome Module → Input
left_of (Ok p) = p.1
left_of (Err ts) = ts

abbrev cell_of : List Statement → Module
cell_of found = record { statements = found }

finish_empty : (found : List Statement) (left : Input) (p : Module × Input) → and_then (finish left) (λ _. pure (cell_of found)) ≡ Ok p → p.1 ≡ []
unfolding left_of
finish_empty found [] p h = sym (ap left_of h)
finish_empty found (s ∷ left) p h = absurd cc

whole_empty : (terms depth : ℕ) (ts : Input) (p : Module × Input) → whole terms depth ts ≡ Ok p → p.1 ≡ []
unfolding whole cell
whole_empty terms depth ts p h =
    let (q, h1) = then_ok (cell_from (expr terms) (statement (expr terms) depth) (length ts) [] ts) (λ found. finish >>= λ _. pure (cell_of found)) p h in
    finish_empty q.0 q.1 p h1

-- Where a cell is read, its tokens have this tree and no other.
pub when_read : (terms depth : ℕ) (ts : Input) (x : Module) (left : Input) → 12 * length ts + 11 < terms → length ts < depth → whole terms depth ts ≡ Ok (x, left)
    → IsTree x ts × ((y : Module) → IsTree y ts → y ≡ x)
unfolding Exact
when_read terms depth ts x left enough deep is =
    let r : Reads IsClaimed Nothing ts x left = subst (λ o. Exact IsClaimed Nothing ts o) is (whole_exact terms depth ts enough deep) in
    let none : left ≡ [] = whole_empty terms depth ts (x, left) is in
    let all : r.taken ≡ ts = sym (r.whole ∙ ap (λ v. r.taken ++ v) none ∙ append-nil r.taken) in
    let tree : IsTree x ts = claimed_tree x ts (subst (λ v. IsClaimed x v) all r.spelt) in
    (tree, λ y other. tree_once ts y x other tree)

-- Where a cell is refused, the place is the first at which no tree goes on, and its tokens spell none.
pub when_refused : (terms depth : ℕ) (ts left : Input) → IsEnded ts → 12 * length ts + 11 < terms → length ts < depth → whole terms depth ts ≡ Err left
    → (length left ≤ length ts) × IsLeast (length ts - length left) (kinds ts) × (AreSpelled (kinds ts) → ⊥)
unfolding Exact
when_refused terms depth ts left ends enough deep is =
    let r : Refuses IsClaimed Nothing ts left = subst (λ o. Exact IsClaimed Nothing ts o) is (whole_exact terms depth ts enough deep) in
    (length_after ts r.taken left r.whole, least ts left ends r, none_at_all ts left r)
