-- What trees read is what their parts read.
use Rattle.std.proofs.Common.{◌≡◌, ℕ, List, [], ◌∷◌, ◌++◌, Bool, true, false, IsTrue, refl, sym, arith, subst}
use Rattle.std.specs.Prelude.{◌&&◌, map, Option, Some, None, if◌then◌else◌}
use Rattle.std.specs.List.{list_all}
use Rattle.star_syntax.specs.declared.expression.Expr.{Expr, fold-roll-Expr, ind-Expr, map-Expr, roll-Expr}
use Rattle.star_syntax.specs.declared.expression.Expr.TheOpen.{Expr-F}
use Rattle.star_syntax.specs.Placement.{Seen, Finding, Use, Breaks, Literal, Other, Reads, head_uses, is_input, layer_seen, seen, use_finding, expr_findings}
use Rattle.star_meaning.specs.Expressions.{Callee, Meant, Setting, meant, step}
use Rattle.star_meaning.specs.Reading.{use_in, finding_in, UsesIn, FindingsIn}

and_first : (b c : Bool) → IsTrue (b && c) → IsTrue b
and_first true c h = refl
and_first false c h = h

and_second : (b c : Bool) → IsTrue (b && c) → IsTrue c
and_second true c h = h
and_second false c h = absurd (grind (arith, h))

pub and_both : (b c : Bool) → IsTrue b → IsTrue c → IsTrue (b && c)
and_both true c h k = k
and_both false c h k = h

pub halves : {A : Type 0} (p : A → Bool) (xs ys : List A) → IsTrue (list_all p (xs ++ ys)) → IsTrue (list_all p xs) × IsTrue (list_all p ys)
halves p [] ys h = (refl, h)
halves p (x ∷ xs) ys h =
    let rest = halves p xs ys (and_second (p x) (list_all p (xs ++ ys)) h) in (and_both (p x) (list_all p xs) (and_first (p x) (list_all p (xs ++ ys)) h) rest.0, rest.1)

pub joined : {A : Type 0} (p : A → Bool) (xs ys : List A) → IsTrue (list_all p xs) → IsTrue (list_all p ys) → IsTrue (list_all p (xs ++ ys))
joined p [] ys h k = k
joined p (x ∷ xs) ys h k =
    and_both (p x) (list_all p (xs ++ ys)) (and_first (p x) (list_all p xs) h) (joined p xs ys (and_second (p x) (list_all p xs) h) k)

-- ---- what a tree is to the node above it

input_at : (b : Bool) → b ≡ true → ◌≡◌ {A = List Use} (if b then Other ∷ [] else []) (Other ∷ [])
input_at true h = refl
input_at false h = absurd (grind (arith, h))

-- the name `input` alone is one use
pub record IsSeen {C : Type 0} (m : Meant C) (s : Seen) : Type 0 where
  pub input : m.is_input ≡ s.names_input
  pub literal : m.literal ≡ s.literal
  pub uses : s.names_input ≡ true → s.uses ≡ Other ∷ []

module _ {C : Type 0} (setting : Setting C) (call : Callee C) where
  abbrev Known : Type 0
  Known = (e : Expr) × IsSeen (meant setting call e) (seen e)

  abbrev bare : Expr-F Known → Expr-F Expr
  bare = map-Expr Known Expr (λ e. e.0)

  abbrev LayerSeen : Expr-F Expr → Type 0
  LayerSeen x = IsSeen (step setting call (map-Expr Expr (Meant C) (meant setting call) x)) (layer_seen (map-Expr Expr Seen seen x))

  never : {A : Type 0} → false ≡ true → A
  never h = absurd (grind (arith, h))

  layer_is : (y : Expr-F Known) → LayerSeen (bare y)
  layer_is (Expr-F.Name n) = record { input = refl; literal = refl; uses = input_at (is_input n) }
  layer_is _ = record { input = refl; literal = refl; uses = λ h. never h }

  rolled_is : (x : Expr-F Expr) → LayerSeen x → IsSeen (meant setting call (roll-Expr x)) (seen (roll-Expr x))
  unfolding meant seen
  rolled_is x h =
      subst (λ m. IsSeen m (seen (roll-Expr x))) (sym (fold-roll-Expr (Meant C) (step setting call) x))
      (subst (λ s. IsSeen (step setting call (map-Expr Expr (Meant C) (meant setting call) x)) s) (sym (fold-roll-Expr Seen layer_seen x)) h)

  pub sees : (e : Expr) → IsSeen (meant setting call e) (seen e)
  sees = ind-Expr (λ e. IsSeen (meant setting call e) (seen e)) (λ x y is. subst (λ z. IsSeen (meant setting call (roll-Expr z)) (seen (roll-Expr z))) is (rolled_is _ (layer_is y)))

-- ---- what is read, by one of some names

module _ (reads : List ℕ → Bool) where
  -- a name that may be read, if there is one
  abbrev pub MayRead : Option (List ℕ) → Type 0
  MayRead None = Unit {0}
  MayRead (Some name) = IsTrue (reads name)

  abbrev pub if_input : Bool → Option (List ℕ) → Option (List ℕ)
  if_input true o = o
  if_input false o = None

  head_at : (b : Bool) (name : List ℕ) (uses : List Use) → UsesIn reads (if b then Literal name ∷ [] else uses) → MayRead (if_input b (Some name))
  head_at true name uses h = and_first (reads name) true h
  head_at false name uses h = tt

  pub head_reads : (s : Seen) (o : Option (List ℕ)) → UsesIn reads (head_uses s o) → MayRead (if_input s.names_input o)
  head_reads s (Some name) h = head_at s.names_input name s.uses h
  head_reads s None h = none_at s.names_input
    where
      none_at : (b : Bool) → MayRead (if_input b None)
      none_at true = tt
      none_at false = tt

  uses_at : (b : Bool) (name : List ℕ) (uses : List Use) → (b ≡ true → uses ≡ Other ∷ []) → UsesIn reads (if b then Literal name ∷ [] else uses) → UsesIn reads uses
  uses_at true name uses h k = subst (λ u. UsesIn reads u) (sym (h refl)) refl
  uses_at false name uses h k = k

  pub head_part : (s : Seen) (o : Option (List ℕ)) → (s.names_input ≡ true → s.uses ≡ Other ∷ []) → UsesIn reads (head_uses s o) → UsesIn reads s.uses
  head_part s (Some name) h k = uses_at s.names_input name s.uses h k
  head_part s None h k = k

  use_of : (line : ℕ) (u : Use) → IsTrue (finding_in reads (use_finding line u)) → IsTrue (use_in reads u)
  use_of line (Literal name) h = h
  use_of line Other h = refl

  uses_of : (line : ℕ) (uses : List Use) → FindingsIn reads (map (use_finding line) uses) → UsesIn reads uses
  uses_of line [] h = refl
  uses_of line (u ∷ uses) h =
      let rest = map (use_finding line) uses in
      and_both (use_in reads u) (list_all (use_in reads) uses) (use_of line u (and_first (finding_in reads (use_finding line u)) (list_all (finding_in reads) rest) h)) (uses_of line uses (and_second (finding_in reads (use_finding line u)) (list_all (finding_in reads) rest) h))

  -- an expression of a statement
  pub expr_part : (line : ℕ) (e : Expr) → FindingsIn reads (expr_findings line e) → UsesIn reads (seen e).uses
  unfolding expr_findings
  expr_part line e h = uses_of line (seen e).uses h

-- every name may be read

pub all_uses_in : (uses : List Use) → UsesIn (λ n. true) uses
all_uses_in [] = refl
all_uses_in (Literal name ∷ uses) = all_uses_in uses
all_uses_in (Other ∷ uses) = all_uses_in uses

pub all_findings_in : (findings : List Finding) → FindingsIn (λ n. true) findings
all_findings_in [] = refl
all_findings_in (Reads name ∷ findings) = all_findings_in findings
all_findings_in (Breaks breach line ∷ findings) = all_findings_in findings

pub may_read_all : (o : Option (List ℕ)) → MayRead (λ n. true) o
may_read_all None = tt
may_read_all (Some name) = refl
