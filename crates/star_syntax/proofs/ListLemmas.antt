-- Phrases with marks between, one more phrase at a time.
use Rattle.std.proofs.Common.{append_assoc, ◌+◌, ◌-◌, ◌<◌, ◌≡◌, ◌∙◌, ℕ, zero, suc, List, [], ◌∷◌, ◌++◌, map, max, refl, sym, ap, arith, length, take, get_or, add-one}
use Rattle.std.specs.List.{flat_map}
use Rattle.std.proofs.lemmas.List.{append-nil, length-map, length-take-le, map-append}
use Rattle.std.proofs.Math.Seq.{take-suc}
use Rattle.star_syntax.specs.declared.token.Token.TheVariants as t
use Rattle.star_syntax.specs.declared.token.Mark.{Mark}
use Rattle.star_syntax.specs.declared.token.Mark.TheVariants as m
use Rattle.star_syntax.specs.Spelling.{Tokens, separated, listed}
use Rattle.star_syntax.specs.SpellingOfParts.{after, listed_after}

abbrev marked : Mark → List Tokens → Tokens
marked mark phrases = flat_map (λ y. t.Mark mark ∷ y) phrases

marked_more : (mark : Mark) (xs : List Tokens) (y : Tokens) → marked mark (xs ++ y ∷ []) ≡ marked mark xs ++ (t.Mark mark ∷ y)
marked_more mark [] y = append-nil (t.Mark mark ∷ y)
marked_more mark (x ∷ xs) y = ap (λ l. (t.Mark mark ∷ x) ++ l) (marked_more mark xs y) ∙ sym (append_assoc (t.Mark mark ∷ x) (marked mark xs) (t.Mark mark ∷ y))

pub separated_more : (mark : Mark) (xs : List Tokens) (y : Tokens) → separated mark (xs ++ y ∷ []) ≡ separated mark xs ++ (after (length xs) mark ++ y)
separated_more mark [] y = append-nil y
separated_more mark (x ∷ xs) y =
    let e : length (x ∷ xs) ≡ suc (length xs) = omega arith in
    ap (λ l. x ++ l) (marked_more mark xs y) ∙ sym (append_assoc x (marked mark xs) (t.Mark mark ∷ y)) ∙ ap (λ n. (x ++ marked mark xs) ++ (after n mark ++ y)) (sym e)

pub listed_after_more : (n : ℕ) (xs : List Tokens) (y : Tokens) → listed_after n (xs ++ y ∷ []) ≡ listed_after n xs ++ (after (max n (length xs)) m.Comma ++ y)
listed_after_more zero xs y =
    let e : max 0 (length xs) ≡ length xs = omega arith in
    separated_more m.Comma xs y ∙ ap (λ n. listed xs ++ (after n m.Comma ++ y)) (sym e)
listed_after_more (suc n) xs y =
    let k : ℕ = max n (length xs) in
    let e : (k : ℕ) × (max (suc n) (length xs) ≡ suc k) = (max (suc n) (length xs) - 1, omega arith) in
    marked_more m.Comma xs y ∙ ap (λ j. marked m.Comma xs ++ (after j m.Comma ++ y)) (sym e.1)

-- a list is what stands before some place, and what follows it
pub listed_parts : (xs ys : List Tokens) → listed (xs ++ ys) ≡ listed xs ++ listed_after (length xs) ys
listed_parts [] ys = refl
listed_parts (x ∷ xs) ys =
    let e : length (x ∷ xs) ≡ suc (length xs) = omega arith in
    ap (λ l. x ++ l) (marked_parts xs ys) ∙ sym (append_assoc x (marked m.Comma xs) (marked m.Comma ys)) ∙ ap (λ n. (x ++ marked m.Comma xs) ++ listed_after n ys) (sym e)
  where
    marked_parts : (xs ys : List Tokens) → marked m.Comma (xs ++ ys) ≡ marked m.Comma xs ++ marked m.Comma ys
    marked_parts [] ys = refl
    marked_parts (x ∷ xs) ys = ap (λ l. (t.Mark m.Comma ∷ x) ++ l) (marked_parts xs ys) ∙ sym (append_assoc (t.Mark m.Comma ∷ x) (marked m.Comma xs) (marked m.Comma ys))

-- one more item of a list, where each is a phrase
pub phrase_more : {A : Type 0} → (mark : Mark) (f : A → Tokens) (xs : List A) (i : ℕ) (x : A) → i < length xs → x ≡ get_or xs i x
    → separated mark (map f (take (i + 1) xs)) ≡ separated mark (map f (take i xs)) ++ (after i mark ++ f x)
phrase_more mark f xs i x less is =
    let front : take (i + 1) xs ≡ take i xs ++ x ∷ [] = rw add-one (take-suc xs i x less ∙ ap (λ y. take i xs ++ y ∷ []) (sym is)) in
    let count : length (map f (take i xs)) ≡ i = length-map (take i xs) f ∙ length-take-le i xs (omega arith) in
    ap (λ l. separated mark (map f l)) front ∙ ap (separated mark) (map-append f (take i xs) (x ∷ [])) ∙ separated_more mark (map f (take i xs)) (f x)
    ∙ ap (λ n. separated mark (map f (take i xs)) ++ (after n mark ++ f x)) count
