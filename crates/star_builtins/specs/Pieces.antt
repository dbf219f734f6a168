-- The pieces in which a value is written.
use Rattle.std.specs.Fmt.{signed_decimal}
use Rattle.std.specs.Ordering.{int_eq}
use Rattle.std.specs.Prelude.{ℕ, ℤ, pos, if◌then◌else◌, zero, suc, List, [], ◌∷◌, ◌++◌, Option, Some, None, codes, map}
use Rattle.star_value.specs.declared.failure.Failure.TheVariants as failure
use Rattle.star_value.specs.declared.key.Key.{Key}
use Rattle.star_value.specs.declared.value.Value.{Value}
use Rattle.star_meaning.specs.Steps.{Action, pure, fail}
use Rattle.star_meaning.specs.Showing.{Naming, Writing, made, made_after, made_between, pair_text, dict_text, between, quoted_in}
use Rattle.star_builtins.specs.Shows.{Begins}

-- every text with which one begins, the other begins with too
abbrev pub Keeps : List ℕ → List ℕ → Type 0
Keeps before after = (front : List ℕ) → Begins front before → Begins front after

-- what is written in a container, in which so many more may nest
unfoldable pub inside : {C : Type 0} → Naming C → ℕ → (Writing C → Action C (List ℕ)) → Action C (List ℕ)
inside naming zero p = fail failure.TooDeep
inside naming (suc n) p = p (quoted_in naming n)

-- the separator before the piece of a place
unfoldable pub separator : {C : Type 0} → ℕ → Action C (List ℕ)
separator zero = pure []
separator (suc place) = made (codes ", ")

-- pieces with a separator before each, but for the piece of place 0
unfoldable pub pieces : {C : Type 0} → ℕ → List (Action C (List ℕ)) → Action C (List ℕ)
pieces zero ps = made_between (codes ", ") ps
pieces (suc place) ps = made_after (codes ", ") ps

-- the pieces in a container between its marks
abbrev pub enclosed : {C : Type 0} → List ℕ → List ℕ → List (Action C (List ℕ)) → Action C (List ℕ)
enclosed open_mark close_mark ps = between open_mark close_mark (made_between (codes ", ") ps)

-- values between marks, in which so many more containers may nest
unfoldable pub sequence : {C : Type 0} → Naming C → ℕ → List ℕ → List ℕ → List Value → Action C (List ℕ)
sequence naming n open_mark close_mark items = inside naming n (λ write. enclosed open_mark close_mark (map write items))

-- the pairs of a dict, in which so many more containers may nest
unfoldable pub table : {C : Type 0} → Naming C → ℕ → List (Key × Value) → Action C (List ℕ)
table naming n pairs = inside naming n (dict_text pairs)

-- a pair of a dict
unfoldable pub pair_piece : {C : Type 0} → Naming C → ℕ → Key × Value → Action C (List ℕ)
pair_piece naming n pair = pair_text (quoted_in naming n) pair

-- the mark after the items of a tuple
unfoldable pub tuple_end : ℕ → List ℕ
tuple_end (suc zero) = codes ",)"
tuple_end _ = codes ")"

-- a code point of a quoted text with this letter for it, if one stands for it
abbrev pub escaped_as : ℕ → Option ℕ → List ℕ
escaped_as c None = c ∷ []
escaped_as c (Some letter) = 92 ∷ letter ∷ []

-- a range that is written up to its step
unfoldable pub with_step : List ℕ → ℤ → List ℕ
with_step before step =
    if int_eq step (pos 1) then before ++ codes ")" else before ++ codes ", " ++ signed_decimal step ++ codes ")"
