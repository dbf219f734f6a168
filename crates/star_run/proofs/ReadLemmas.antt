-- The name that `input(TEXT)` reads is the one of the meaning.
use Rattle.std.proofs.Common.{◌≡◌, ℕ, List, [], ◌∷◌, map, drop, Bool, true, false, Some, None, refl, ap, ◌∙◌}
use Rattle.std.specs.Prelude.{if◌then◌else◌}
use Rattle.star_syntax.specs.declared.expression.Expr.{Expr}
use Rattle.star_syntax.specs.declared.expression.Named.{Named}
use Rattle.star_syntax.specs.declared.expression.Suffix.{Suffix}
use Rattle.star_syntax.specs.declared.expression.Suffix.TheVariants as suffix
use Rattle.star_syntax.specs.Placement.{first_literal, lone_literal, seen}
use Rattle.star_meaning.specs.Steps.{and_then}
use Rattle.star_meaning.specs.World.{World, without_first}
use Rattle.star_meaning.specs.Expressions.{Callee, Setting, headed, input_name, meant, parts, primary, read_input, suffixed}
use Rattle.star_meaning.proofs.Forms.{named_meant, suffix_meant}
use Rattle.star_meaning.proofs.ReadingLemmas.{sees}
use Rattle.star_run.specs.Fixed.{Fixed, callee, meaning, setting}
use Rattle.star_run.specs.Parts.{place_of, place_parts, primary_value, suffix_meaning, suffixes}
use Rattle.star_run.specs.Reads.{literal, name_read, names_input}

module _ {C : Type 0} (setting : Setting C) (call : Callee C) where
  lone_is : (xs : List Expr) (ns : List (Named Expr)) (comma : Bool)
      → lone_literal (λ m. m.literal) (map (meant setting call) xs) (map (named_meant setting call) ns) comma ≡ lone_literal literal xs ns comma
  unfolding literal
  lone_is [] ns comma = refl
  lone_is (x ∷ []) [] false = (sees setting call x).literal
  lone_is (x ∷ []) [] true = refl
  lone_is (x ∷ []) (n ∷ ns) comma = refl
  lone_is (x ∷ y ∷ xs) ns comma = refl

  first_is : (xs : List (Suffix Expr)) → first_literal (λ m. m.literal) (map (suffix_meant setting call) xs) ≡ first_literal literal xs
  first_is [] = refl
  first_is (suffix.Index at ∷ xs) = refl
  first_is (suffix.Slice start stop by ∷ xs) = refl
  first_is (suffix.Call given ∷ xs) = lone_is given.positional given.named given.comma
  first_is (suffix.Method name given ∷ xs) = refl

  name_is : (b : Bool) (xs : List (Suffix Expr)) → input_name setting call b (map (suffix_meant setting call) xs) ≡ (if b then first_literal literal xs else None)
  name_is true xs = first_is xs
  name_is false xs = refl

  pub read_is : (head : Expr) (xs : List (Suffix Expr)) → input_name setting call (meant setting call head).is_input (map (suffix_meant setting call) xs) ≡ name_read head xs
  unfolding names_input
  read_is head xs = ap (λ b. input_name setting call b (map (suffix_meant setting call) xs)) (sees setting call head).input ∙ name_is (seen head).names_input xs

  -- what is indexed or called, and the suffixes that follow it
  pub front_is : (head : Expr) (xs : List (Suffix Expr))
      → primary setting call (meant setting call head) (map (suffix_meant setting call) xs) ≡ headed setting call (meant setting call head) (map (suffix_meant setting call) xs) (name_read head xs)
  front_is head xs = ap (λ o. headed setting call (meant setting call head) (map (suffix_meant setting call) xs) o) (read_is head xs)

-- ---- a primary, by what its head and its first suffix are

without_is : {X Y : Type 0} (f : X → Y) (xs : List X) → without_first (map f xs) ≡ map f (drop 1 xs)
without_is f [] = refl
without_is f (x ∷ xs) = refl

module _ (g : Fixed) (depth : ℕ) where
  pub primary_reads : (head : Expr) (xs : List (Suffix Expr)) (name : List ℕ) (w : World ℕ) → name_read head xs ≡ Some name
      → primary_value g depth head xs w ≡ and_then (read_input (setting g) name w) (suffixes g depth (drop 1 xs))
  primary_reads head xs name w is =
      ap (λ p. and_then (p.0 w) (suffixed (setting g) (callee g depth) p.1)) (front_is (setting g) (callee g depth) head xs ∙ ap (headed (setting g) (callee g depth) (meaning g depth head) (map (suffix_meaning g depth) xs)) is)
      ∙ ap (λ ss. and_then (read_input (setting g) name w) (suffixed (setting g) (callee g depth) ss)) (without_is (suffix_meaning g depth) xs)

  pub primary_plain : (head : Expr) (xs : List (Suffix Expr)) (w : World ℕ) → name_read head xs ≡ None → primary_value g depth head xs w ≡ and_then ((meaning g depth head).value w) (suffixes g depth xs)
  primary_plain head xs w is =
      ap (λ p. and_then (p.0 w) (suffixed (setting g) (callee g depth) p.1)) (front_is (setting g) (callee g depth) head xs ∙ ap (headed (setting g) (callee g depth) (meaning g depth head) (map (suffix_meaning g depth) xs)) is)

  pub place_reads : (head : Expr) (xs : List (Suffix Expr)) (name : List ℕ) (w : World ℕ) → name_read head xs ≡ Some name
      → place_of g depth head xs w ≡ and_then (read_input (setting g) name w) (place_parts g depth (drop 1 xs))
  place_reads head xs name w is =
      ap (λ p. and_then (p.0 w) (parts (setting g) (callee g depth) p.1)) (front_is (setting g) (callee g depth) head xs ∙ ap (headed (setting g) (callee g depth) (meaning g depth head) (map (suffix_meaning g depth) xs)) is)
      ∙ ap (λ ss. and_then (read_input (setting g) name w) (parts (setting g) (callee g depth) ss)) (without_is (suffix_meaning g depth) xs)

  pub place_plain : (head : Expr) (xs : List (Suffix Expr)) (w : World ℕ) → name_read head xs ≡ None → place_of g depth head xs w ≡ and_then ((meaning g depth head).value w) (place_parts g depth xs)
  place_plain head xs w is =
      ap (λ p. and_then (p.0 w) (parts (setting g) (callee g depth) p.1)) (front_is (setting g) (callee g depth) head xs ∙ ap (headed (setting g) (callee g depth) (meaning g depth head) (map (suffix_meaning g depth) xs)) is)

pub ruleset fronts = (primary_reads, primary_plain, place_reads, place_plain)
