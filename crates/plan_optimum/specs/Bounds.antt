-- The least cost of a node's subtree, by recursion.
use Rattle.std.specs.Prelude.{ℕ, zero, suc, ◌+◌, ◌*◌}
use Rattle.plan_type.specs.Costs.{Tree}
use Rattle.plan_type.specs.Prices.{Prices}
use Rattle.plan_type.specs.Choices.{Choice, local, can_hold, choice_by}

module _ (tree : Tree) (prices : Prices) (most : ℕ) where
  -- the least cost of the subtree of u, to a depth: making u again costs `back` steps and `again` for what is restored, and so many blocks are used
  unfoldable pub bound : ℕ → ℕ → ℕ → ℕ → ℕ → ℕ
  bound zero u back again used = 0
  bound (suc depth) u back again used =
      local
      (choice_by tree prices u back again (λ v. bound depth v (back + tree.steps v) again used) (λ v. bound depth v (tree.steps v) (prices.load * tree.blocks u) (used + tree.blocks u)))
      (can_hold tree most u used) (tree.children u)

  -- what a child costs at a node, over the bounds to a depth
  abbrev pub choice : ℕ → ℕ → ℕ → ℕ → ℕ → Choice
  choice depth u back again used =
      choice_by tree prices u back again (λ v. bound depth v (back + tree.steps v) again used) (λ v. bound depth v (tree.steps v) (prices.load * tree.blocks u) (used + tree.blocks u))
