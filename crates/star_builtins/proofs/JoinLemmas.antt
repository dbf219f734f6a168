-- How long joined texts are, and texts that are too long to be made.
use Rattle.std.proofs.Common.{◌≡◌, ℕ, ◌+◌, ◌-◌, ◌<◌, ◌≤◌, min, List, [], ◌∷◌, ◌++◌, length, take, drop, get_or, length-append, length-drop, refl, sym, ap, ◌∙◌, arith}
use Rattle.std.specs.List.{flat_map, sum_by}
use Rattle.std.proofs.lemmas.List.{take_all}
use Rattle.std.proofs.lemmas.List.Sums.{sum_by-cons}
use Rattle.star_value.specs.Texts as texts
use Rattle.star_value.specs.declared.failure.Failure.TheVariants as failure
use Rattle.star_value.specs.declared.value.Value.TheVariants as value
use Rattle.star_meaning.proofs.Equations.{weight_text}
use Rattle.star_meaning.specs.State.{State}
use Rattle.star_meaning.specs.Steps.{Went, Failed}
use Rattle.star_builtins.specs.Reached.{weighed}
use Rattle.star_builtins.proofs.WeighedLemmas.{stopped}

flat_length : (by : List ℕ) (parts : List (List ℕ)) → length (flat_map (λ part. by ++ part) parts) ≡ sum_by (λ part. length by + length part) parts
flat_length by [] = refl
flat_length by (part ∷ parts) =
    length-append (by ++ part) (flat_map (λ p. by ++ p) parts)
    ∙ ap (λ n. n + length (flat_map (λ p. by ++ p) parts)) (length-append by part)
    ∙ ap (λ n. (length by + length part) + n) (flat_length by parts)
    ∙ sym (sum_by-cons (λ p. length by + length p) part parts)

join_length : (by first : List ℕ) (parts : List (List ℕ)) → 1 ≤ length parts → first ≡ get_or parts 0 first → length (texts.join by parts) ≡ length first + sum_by (λ part. length by + length part) (drop 1 parts)
join_length by first [] some is = absurd (omega (arith, some))
join_length by first (part ∷ parts) some is =
    length-append part (flat_map (λ p. by ++ p) parts) ∙ ap (λ n. length part + n) (flat_length by parts) ∙ ap (λ p. length p + sum_by (λ q. length by + length q) parts) (sym is)

-- the parts after the first one
rest_of : (parts : List (List ℕ)) → take (length parts - 1) (drop 1 parts) ≡ drop 1 parts
rest_of parts = take_all (length parts - 1) (drop 1 parts) (omega (arith, length-drop 1 parts))

added : (by : List ℕ) (parts rest : List (List ℕ)) (i : ℕ) → rest ≡ drop 1 parts → length rest ≤ i → take i rest ≡ drop 1 parts
added by parts rest i is past = take_all i rest past ∙ is

-- the lengths that are added up are those of all parts
pub joined_sum : (by first : List ℕ) (parts : List (List ℕ)) (i n sum top : ℕ) → 1 ≤ length parts → first ≡ get_or parts 0 first → length (take (length parts - 1) (drop 1 parts)) ≤ i → n ≡ length first
    → sum ≡ min (n + sum_by (λ part. length by + length part) (take i (take (length parts - 1) (drop 1 parts)))) top → sum ≡ min (length (texts.join by parts)) top
joined_sum by first parts i n sum top some is past start all =
    all ∙ ap (λ ps. min (n + sum_by (λ part. length by + length part) ps) top) (added by parts (take (length parts - 1) (drop 1 parts)) i (rest_of parts) past)
    ∙ ap (λ k. min (k + sum_by (λ part. length by + length part) (drop 1 parts)) top) start
    ∙ ap (λ k. min k top) (sym (join_length by first parts some is))

pub join_stopped : (s : State ℕ) (left : ℕ) (xs : List ℕ) → left < length xs
    → weighed (Went (value.Text xs) (record { state = s; left = left })) ≡ Failed failure.StepLimit (record { state = s; left = 0 })
join_stopped s left xs h = stopped (value.Text xs) s left (length xs) (weight_text xs) h
