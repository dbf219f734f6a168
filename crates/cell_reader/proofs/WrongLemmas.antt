-- One thing at most is wrong with a source, on one line.
use Rattle.std.proofs.Common.{◌≡◌, ◌≤◌, ◌<◌, ◌+◌, ℕ, List, ◌++◌, take, drop, Some, sym, ◌∙◌, ap, subst, refl, arith, append_assoc}
use Rattle.std.specs.Prelude.{option_map}
use Rattle.std.specs.List.{slice_get}
use Rattle.std.proofs.lemmas.List.{take-append-drop, take-take}
use Rattle.star_syntax.specs.declared.token.Spanned.{Spanned}
use Rattle.star_syntax.specs.declared.statement.Module.{Module}
use Rattle.star_syntax.specs.Placement.{Breach, NestedDef, MisplacedReturn, MisplacedBreak, InputNotLiteral, RepeatedParameter, breaches}
use Rattle.star_syntax.specs.Spelling.{Tokens}
use Rattle.star_lexer.proofs.Once.{one_list, one_fault, never_both}
use Rattle.star_parser.specs.Reading.{kinds}
use Rattle.star_parser.specs.Trees.{Begins, IsLeast}
use Rattle.star_parser.proofs.Texts.{tree_once}
use Rattle.star_resolver.specs.declared.error.ResolveKind.{ResolveKind}
use Rattle.star_resolver.specs.declared.error.ResolveKind.TheVariants as kind
use Rattle.star_resolver.specs.Outcomes.{breach_of}
use Rattle.cell_reader.specs.declared.cell.Reason.{Reason}
use Rattle.cell_reader.specs.declared.cell.Reason.TheVariants as reason
use Rattle.cell_reader.specs.Cells.{IsWrong, IsUnexpectedAt}
use Rattle.cell_reader.proofs.CellLemmas.{moved_tree, least_apart}

-- ---- the first token with which no tree goes on

-- what begins a tree does so up to each place in it
begins_before : (tokens : Tokens) (m n : ℕ) → m ≤ n → Begins (take n tokens) → Begins (take m tokens)
begins_before tokens m n before (cell, more, levelled, spelt) =
    let prefix : take n tokens ≡ take m tokens ++ drop m (take n tokens) =
    sym (take-append-drop m (take n tokens)) ∙ ap (λ first. first ++ drop m (take n tokens)) (take-take m n tokens before) in (
      cell,
      drop m (take n tokens) ++ more,
      levelled,
      spelt ∙ ap (λ first. first ++ more) prefix ∙ append_assoc (take m tokens) (drop m (take n tokens)) more,
    )

not_before : (tokens : Tokens) (m n : ℕ) → IsLeast m tokens → IsLeast n tokens → m < n → ⊥
not_before tokens m n one other before = one.dead (begins_before tokens (m + 1) n (omega arith) other.viable)

least_once : (tokens : Tokens) (m n : ℕ) → IsLeast m tokens → IsLeast n tokens → m ≡ n
least_once tokens m n one other =
    let left : m < n → ⊥ = not_before tokens m n one other in
    let right : n < m → ⊥ = not_before tokens n m other one in
    omega arith

unexpected_once : (list : List Spanned) (m n : ℕ) → IsUnexpectedAt list m → IsUnexpectedAt list n → m ≡ n
unexpected_once list m n one other =
    let place : one.place ≡ other.place = least_once (kinds list) one.place other.place one.least other.least in
    let same : Some m ≡ Some n = sym one.here ∙ ap (λ p. option_map (λ (s : Spanned). s.line) (slice_get list p)) place ∙ other.here in
    cc

-- ---- the first breach

-- two kinds of fault do not say one rule to be broken
kind_of : Breach → ResolveKind
kind_of NestedDef = kind.NestedDef
kind_of MisplacedReturn = kind.MisplacedReturn
kind_of MisplacedBreak = kind.MisplacedBreak
kind_of InputNotLiteral = kind.InputNotLiteral
kind_of RepeatedParameter = kind.RepeatedParameter

kind_back : (k : ResolveKind) → kind_of (breach_of k) ≡ k
unfolding kind_of
kind_back kind.NestedDef = refl
kind_back kind.MisplacedReturn = refl
kind_back kind.MisplacedBreak = refl
kind_back kind.InputNotLiteral = refl
kind_back kind.RepeatedParameter = refl

some_same : {A : Type 0} (a b : A) → Some a ≡ Some b → a ≡ b
some_same a b same = cc

breach_once : (x y : Module) (j k : ResolveKind) (m n : ℕ) → x ≡ y → slice_get (breaches x) 0 ≡ Some (breach_of j, m) → slice_get (breaches y) 0 ≡ Some (breach_of k, n) → (j ≡ k) × (m ≡ n)
breach_once x y j k m n same one other =
    let both : Some (breach_of j, m) ≡ Some (breach_of k, n) = sym one ∙ ap (λ tree. slice_get (breaches tree) 0) same ∙ other in
    let parts = some_same (breach_of j, m) (breach_of k, n) both in
    (sym (kind_back j) ∙ ap (λ (p : Breach × ℕ). kind_of p.0) parts ∙ kind_back k, ap (λ (p : Breach × ℕ). p.1) parts)

-- ---- sources

pub wrong_once : (source : List ℕ) (j k : Reason) (m n : ℕ) → IsWrong source j m → IsWrong source k n → (j ≡ k) × (m ≡ n)
wrong_once source (reason.Token j) (reason.Token k) m n one other = let same = one_fault source j k m n one other in (ap reason.Token same.0, same.1)
wrong_once source (reason.Token j) reason.Unexpected m n one other = absurd (never_both source (other.0, other.1) (j, m, one))
wrong_once source (reason.Token j) (reason.Placement k) m n one other = absurd (never_both source (other.0, other.2) (j, m, one))
wrong_once source reason.Unexpected (reason.Token k) m n one other = absurd (never_both source (one.0, one.1) (k, n, other))
wrong_once source reason.Unexpected reason.Unexpected m n one other =
    (refl, unexpected_once other.0 m n (subst (λ list. IsUnexpectedAt list m) (one_list source one.0 other.0 one.1 other.1) one.2) other.2)
wrong_once source reason.Unexpected (reason.Placement k) m n one other =
    absurd (least_apart other.1 one.0 one.2.place (moved_tree source other.0 one.0 other.1 other.2 one.1 other.3) one.2.least)
wrong_once source (reason.Placement j) (reason.Token k) m n one other = absurd (never_both source (one.0, one.2) (k, n, other))
wrong_once source (reason.Placement j) reason.Unexpected m n one other =
    absurd (least_apart one.1 other.0 other.2.place (moved_tree source one.0 other.0 one.1 one.2 other.1 one.3) other.2.least)
wrong_once source (reason.Placement j) (reason.Placement k) m n one other =
    let tree : one.1 ≡ other.1 = tree_once other.0 one.1 other.1 (moved_tree source one.0 other.0 one.1 one.2 other.2 one.3) other.3 in
    let same = breach_once one.1 other.1 j k m n tree one.4 other.4 in
    (ap reason.Placement same.0, same.1)
