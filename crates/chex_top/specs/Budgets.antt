-- The budget that words ask for.
use Rattle.std.specs.Prelude.{◌≡◌, ◌<◌, ◌≤◌, ◌/◌, ℕ, nat_le, List, [], ◌∷◌, Option, Some, None, Result, Ok, Err}
use Rattle.std.specs.List.{find}
use Rattle.std.specs.Option.{unwrap_or}
use Rattle.plan_type.specs.declared.budget.Budget.{Budget}
use Rattle.chex_words.specs.declared.command.StoreWords.{StoreWords}

-- the sizes of a block that are tried where none is given, in bytes
abbrev pub sizes : List ℕ
sizes = 4096 ∷ 8192 ∷ 16384 ∷ 32768 ∷ 65536 ∷ 131072 ∷ 262144 ∷ 524288 ∷ 1048576 ∷ []

-- the first of them of which the budget has at most 1,024
abbrev pub first_size : ℕ → List ℕ → Option ℕ
first_size budget = find (λ size. nat_le (budget / size) 1024)

-- the bytes of a block: as given; or else the least size of which the budget has at most 1,024, and the greatest where there is none
abbrev pub block_of : StoreWords → ℕ
block_of words = unwrap_or words.block (unwrap_or (first_size words.budget sizes) 1048576)

-- how many whole blocks the budget has
abbrev pub most_of : StoreWords → ℕ
most_of words = words.budget / block_of words

-- the budget in blocks, with the prices
abbrev pub budget_of : StoreWords → Budget
budget_of words = record { block = block_of words; most = most_of words; save = words.save; load = words.load }

-- what the words of a command say of its store is within the limits: a block has 256 to 1,048,576 bytes, and a price is at most 1,000,000
pub record IsStore (words : StoreWords) : Type 0 where
  pub small : 256 ≤ unwrap_or words.block 256
  pub large : unwrap_or words.block 256 ≤ 1048576
  pub save : words.save ≤ 1000000
  pub load : words.load ≤ 1000000

-- the budget, or the count of its blocks where that passes 1,024
abbrev pub IsBudgetFor : StoreWords → Result Budget ℕ → Type 0
IsBudgetFor words (Ok budget) = (budget ≡ budget_of words) × (most_of words ≤ 1024)
IsBudgetFor words (Err count) = (count ≡ most_of words) × (1024 < most_of words)
