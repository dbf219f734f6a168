-- Walks over lists that are joined, and over lists of lists.
use Rattle.std.proofs.Common.{◌≡◌, ◌∙◌, ℕ, List, [], ◌∷◌, ◌++◌, map, Ok, Err, refl, ap}
use Rattle.std.specs.FinSet as set
use Rattle.std.specs.List.{flat_map}
use Rattle.star_syntax.specs.Placement.{Finding, Reads, Breaks, Use, Literal, Other, use_finding}
use Rattle.star_resolver.specs.Outcomes.{Names, Outcome, Work, and_then, each, walk}

-- equal outcomes, and then equal works
pub same_then : (o o' : Outcome) (f g : Work) → o ≡ o' → ((m : Names) → f m ≡ g m) → and_then o f ≡ and_then o' g
same_then o o' f g is are = ap (λ x. and_then x f) is ∙ by o'
  where
    by : (x : Outcome) → and_then x f ≡ and_then x g
    by (Ok names) = are names
    by (Err breach) = refl

pub walk-append : (a b : List Finding) (n : Names) → walk (a ++ b) n ≡ and_then (walk a n) (walk b)
walk-append [] b n = refl
walk-append (Reads name ∷ a) b n = walk-append a b (set.insert n name)
walk-append (Breaks breach line ∷ a) b n = refl

pub walk-flat_map : {X : Type 0} (f : X → List Finding) (xs : List X) (n : Names) → walk (flat_map f xs) n ≡ each (λ x. walk (f x)) xs n
walk-flat_map f [] n = refl
walk-flat_map f (x ∷ xs) n = walk-append (f x) (flat_map f xs) n ∙ same_then _ _ _ _ refl (walk-flat_map f xs)

pub each-map : {X Y : Type 0} (f : Y → Work) (g : X → Y) (xs : List X) (n : Names) → each f (map g xs) n ≡ each (λ x. f (g x)) xs n
each-map f g [] n = refl
each-map f g (x ∷ xs) n = same_then _ _ _ _ refl (each-map f g xs)

pub each-same : {X : Type 0} (f g : X → Work) → ((x : X) (n : Names) → f x n ≡ g x n) → (xs : List X) (n : Names) → each f xs n ≡ each g xs n
each-same f g are [] n = refl
each-same f g are (x ∷ xs) n = same_then _ _ _ _ (are x n) (each-same f g are xs)

-- ---- the uses of `input` in expressions of the statement of a line

abbrev pub run : ℕ → List Use → Work
run line uses = walk (map (use_finding line) uses)

pub run-append : (line : ℕ) (a b : List Use) (n : Names) → run line (a ++ b) n ≡ and_then (run line a n) (run line b)
run-append line [] b n = refl
run-append line (Literal name ∷ a) b n = run-append line a b (set.insert n name)
run-append line (Other ∷ a) b n = refl

pub run-three : (line : ℕ) (a b c : List Use) (n : Names) → run line (a ++ (b ++ c)) n ≡ and_then (run line a n) (λ m. and_then (run line b m) (run line c))
run-three line a b c n = run-append line a (b ++ c) n ∙ same_then _ _ _ _ refl (run-append line b c)

pub run-flat_map : {X : Type 0} (line : ℕ) (f : X → List Use) (xs : List X) (n : Names) → run line (flat_map f xs) n ≡ each (λ x. run line (f x)) xs n
run-flat_map line f [] n = refl
run-flat_map line f (x ∷ xs) n = run-append line (f x) (flat_map f xs) n ∙ same_then _ _ _ _ refl (run-flat_map line f xs)
