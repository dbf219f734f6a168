-- How two values are weighed against each other.
use Rattle.std.specs.Prelude.{unsigned_abs, ◌≡◌, ℕ, ℤ, zero, suc, ◌-ℤ◌, ◌%◌, ◌/◌, ◌==◌, nat_lt, if◌then◌else◌, ◌&&◌, Bool, false, List, Option, Some, None, Result, Ok, Err}
use Rattle.std.specs.Bool.{beq}
use Rattle.std.specs.Ordering.{int_cmp}
use Rattle.std.specs.declared.cmp.Ordering.{Ordering}
use Rattle.chex_base.specs.TextOrder.{text_cmp}
use Rattle.star_value.specs.Ranges.{range_count}
use Rattle.star_value.specs.declared.range.Range.{Range}
use Rattle.star_value.specs.declared.failure.Failure.{Failure}
use Rattle.star_value.specs.declared.failure.Failure.TheVariants as failure
use Rattle.star_value.specs.declared.key.Key.{Key}
use Rattle.star_value.specs.declared.value.Value.{Value}
use Rattle.star_value.specs.declared.value.Value.TheOpen.{Value-F}
use Rattle.star_meaning.specs.Steps.{Outcome, Went, Failed, Action, fail}
use Rattle.star_meaning.specs.Comparing.{Verdict, Same, Apart, verdict, same_if, same_range, same_builtin, compared, walk, walk_lists, walk_pairs, walk_dicts, Test, search_from}

-- the verdict that an order stands for, where no order stands for unequal
abbrev pub verdict_of : Option Ordering → Verdict
verdict_of None = Apart
verdict_of (Some order) = verdict order

-- what a call that weighs answers: the outcome
abbrev pub Weighs : {W : Type 0} → Outcome W Failure Verdict → Result (Option Ordering) Failure → W → Type 0
Weighs outcome (Ok order) new = outcome ≡ Went (verdict_of order) new
Weighs outcome (Err e) new = outcome ≡ Failed e new

-- two values that hold no others
abbrev pub plain_at : Value-F Value → Value-F Value → Verdict
plain_at Value-F.None Value-F.None = Same
plain_at (Value-F.Bool a) (Value-F.Bool b) = same_if (beq a b)
plain_at (Value-F.Int a) (Value-F.Int b) = verdict (int_cmp a b)
plain_at (Value-F.Text a) (Value-F.Text b) = verdict (text_cmp a b)
plain_at (Value-F.Range a) (Value-F.Range b) = same_if (same_range a b)
plain_at (Value-F.Function a) (Value-F.Function b) = same_if (a == b)
plain_at (Value-F.Builtin a) (Value-F.Builtin b) = same_if (same_builtin a b)
plain_at _ _ = Apart

-- the items of a tuple, the number of a list and that of a dict
abbrev pub tuple_at : Value-F Value → Option (List Value)
tuple_at (Value-F.Tuple items) = Some items
tuple_at _ = None

abbrev pub list_at : Value-F Value → Option ℕ
list_at (Value-F.List id) = Some id
list_at _ = None

abbrev pub dict_at : Value-F Value → Option ℕ
dict_at (Value-F.Dict id) = Some id
dict_at _ = None

-- what is weighed in a pair of containers, in which so many more may nest
unfoldable pub inside : {C : Type 0} → Bool → ℕ → (Test C → Action C Verdict) → Action C Verdict
inside by_length zero p = fail failure.TooDeep
inside by_length (suc n) p = p (compared by_length n)

-- two lists, and two dicts, in which so many more containers may nest
unfoldable pub sequences : {C : Type 0} → Bool → ℕ → List Value → List Value → Action C Verdict
sequences by_length n xs ys = inside by_length n (λ test. walk_lists by_length test xs ys)

unfoldable pub tables : {C : Type 0} → Bool → ℕ → List (Key × Value) → List (Key × Value) → Action C Verdict
tables by_length n xs ys = inside by_length n (λ test. walk_dicts test xs ys)

-- their items and pairs one after the other
unfoldable pub items : {C : Type 0} → Bool → ℕ → List Value → List Value → Action C Verdict
items by_length n xs ys = walk (compared by_length n) xs ys

unfoldable pub pairs : {C : Type 0} → Bool → ℕ → List (Key × Value) → List (Key × Value) → Action C Verdict
pairs by_length n xs ys = walk_pairs (compared by_length n) xs ys

-- items from a place on that are searched for an equal one
unfoldable pub searched : {C : Type 0} → Value → ℕ → List Value → Action C (Option ℕ)
searched wanted place xs = search_from place wanted xs

-- whether an integer that lies so far from the start of a range is at a whole number of steps, and at a place of the range
abbrev pub steps_to : ℕ → ℕ → ℕ → Bool
steps_to step distance count = if step == 0 then false else (distance % step == 0) && nat_lt (distance / step) count

unfoldable pub on_step : Range → ℤ → Bool
on_step r z = steps_to (unsigned_abs r.step) (unsigned_abs (z -ℤ r.start)) (range_count r)
