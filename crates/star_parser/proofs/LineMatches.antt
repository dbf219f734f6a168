-- Tokens on lines that are claimed, in parts.
use Rattle.std.proofs.Common.{◌≡◌, ◌≢◌, ℕ, [], ◌∷◌, ◌++◌, refl, ap}
use Rattle.star_syntax.specs.Spelling.{Tokens}
use Rattle.star_parser.specs.Reading.{Input, kinds}
use Rattle.star_parser.proofs.Claims.{Claims, plain, first_claimed, Matches}
use Rattle.star_parser.specs.StatementTables.{first_line}

-- a list that is claimed in two parts has two parts
pub matches_split : (c : Input) (a b : Claims) → Matches c (a ++ b) → (c1 : Input) × (c2 : Input) × (c ≡ c1 ++ c2) × Matches c1 a × Matches c2 b
matches_split c [] b h = ([], c, refl, tt, h)
matches_split [] (k ∷ a) b h = absurd h
matches_split (s ∷ c) (k ∷ a) b h =
    let (c1, c2, e, is1, is2) = matches_split c a b h.2 in
    (s ∷ c1, c2, ap (λ l. s ∷ l) e, (h.0, h.1, is1), is2)

-- two parts that are claimed are a whole that is claimed
pub matches_append : (c d : Input) (a b : Claims) → Matches c a → Matches d b → Matches (c ++ d) (a ++ b)
matches_append [] d [] b h i = i
matches_append [] d (k ∷ a) b h i = absurd h
matches_append (s ∷ c) d [] b h i = absurd h
matches_append (s ∷ c) d (k ∷ a) b h i = (h.0, h.1, matches_append c d a b h.2 i)

-- tokens on any lines
pub matches_plain : (c : Input) (ks : Tokens) → kinds c ≡ ks → Matches c (plain ks)
matches_plain [] [] h = tt
matches_plain [] (k ∷ ks) h = absurd cc
matches_plain (s ∷ c) [] h = absurd cc
matches_plain (s ∷ c) (k ∷ ks) h = let h' : s.token ∷ kinds c ≡ k ∷ ks = h in (cc, tt, matches_plain c ks cc)

-- what is claimed without lines are the kinds of the tokens
pub plain_matches : (c : Input) (ks : Tokens) → Matches c (plain ks) → kinds c ≡ ks
plain_matches [] [] h = refl
plain_matches [] (k ∷ ks) h = absurd h
plain_matches (s ∷ c) [] h = absurd h
plain_matches (s ∷ c) (k ∷ ks) h = let a = h.0 in let b = plain_matches c ks h.2 in let d : kinds (s ∷ c) ≡ s.token ∷ kinds c = refl in cc

-- tokens of which the first stands on this line
pub matches_first : (line : ℕ) (c : Input) (ks : Tokens) → ks ≢ [] → kinds c ≡ ks → line ≡ first_line c → Matches c (first_claimed line (plain ks))
matches_first line c [] some h at = absurd (some refl)
matches_first line [] (k ∷ ks) some h at = absurd cc
matches_first line (s ∷ c) (k ∷ ks) some h at = let h' : s.token ∷ kinds c ≡ k ∷ ks = h in (cc, at, matches_plain c ks cc)

-- what is claimed with the line of the first token: the kinds of the tokens and that line
pub first_matches : (line : ℕ) (c : Input) (ks : Tokens) → ks ≢ [] → Matches c (first_claimed line (plain ks)) → (kinds c ≡ ks) × (line ≡ first_line c)
first_matches line c [] some h = absurd (some refl)
first_matches line [] (k ∷ ks) some h = absurd h
first_matches line (s ∷ c) (k ∷ ks) some h =
    let a = h.0 in let b = plain_matches c ks h.2 in let d : kinds (s ∷ c) ≡ s.token ∷ kinds c = refl in (cc, h.1)
