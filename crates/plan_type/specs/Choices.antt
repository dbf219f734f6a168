-- Over all orders of a node's children and all choices of holding it for them: the least cost of the node's subtree.
use Rattle.std.specs.Prelude.{ℕ, ◌≤◌, ◌+◌, ◌-◌, ◌*◌, List, [], ◌∷◌, length, min, Bool, true, ◌≡◌, ◌&&◌, if◌then◌else◌, nat_le, nat_lt}
use Rattle.std.specs.List.{AllByRecursion, sum_by}
use Rattle.plan_type.specs.Costs.{Tree}
use Rattle.plan_type.specs.Prices.{Prices}

-- what a child costs without and with its parent held, what a return costs without and with it, and the save
pub record Choice : Type 0 where
  pub free : ℕ → ℕ
  pub held : ℕ → ℕ
  pub return : ℕ
  pub load : ℕ
  pub save : ℕ

-- a child that stands last, and one that does not
abbrev pub last : Choice → ℕ → ℕ
last c v = min (c.free v) (c.held v)

abbrev pub other : Choice → ℕ → ℕ
other c v = min (c.free v + c.return) (c.held v + c.load)

-- where z stands last
abbrev pub with_last : Choice → List ℕ → ℕ → ℕ
with_last c vs z = last c z + (sum_by (other c) vs - other c z)

abbrev pub least_by : (ℕ → ℕ) → List ℕ → ℕ
least_by f [] = 0
least_by f (v ∷ []) = f v
least_by f (v ∷ w ∷ vs) = min (f v) (least_by f (w ∷ vs))

abbrev pub all_free : Choice → List ℕ → ℕ
all_free c vs = sum_by c.free vs + (length vs - 1) * c.return

abbrev pub some_held : Choice → List ℕ → ℕ
some_held c vs = c.save + least_by (with_last c vs) vs

-- for whether the node may be held
abbrev pub local : Choice → Bool → List ℕ → ℕ
local c can vs = if can then min (all_free c vs) (some_held c vs) else all_free c vs

-- number 0 is not held, and a node's own blocks fit beside those that are used
abbrev pub can_hold : Tree → ℕ → ℕ → ℕ → Bool
can_hold tree most u used = nat_lt 0 u && nat_le (used + tree.blocks u) most

-- ---- lower bounds

-- what a node's children cost, by what is claimed of them: without the node held, and with it
abbrev pub choice_by : Tree → Prices → ℕ → ℕ → ℕ → (ℕ → ℕ) → (ℕ → ℕ) → Choice
choice_by tree prices u back again free held = record {
  free = λ v. tree.steps v + free v;
  held = λ v. tree.steps v + held v;
  return = back + again;
  load = prices.load * tree.blocks u;
  save = prices.save * tree.blocks u;
}

-- claims of lower bounds: that the subtree of u, where making u again costs `back` steps and `again` for what is restored and where these blocks are used, costs at least n
abbrev pub Claims : Type 1
Claims = ℕ → ℕ → ℕ → ℕ → ℕ → Type 0

-- a claim that follows from claims of the children: where the node is not held for them, and, if it may be held, where it is
pub record Follows (tree : Tree) (prices : Prices) (most : ℕ) (claimed : Claims) (u back again used n : ℕ) : Type 0 where
  pub free : ℕ → ℕ
  pub held : ℕ → ℕ
  pub frees : AllByRecursion (λ v. claimed v (back + tree.steps v) again used (free v)) (tree.children u)
  pub helds : can_hold tree most u used ≡ true → AllByRecursion (λ v. claimed v (tree.steps v) (prices.load * tree.blocks u) (used + tree.blocks u) (held v)) (tree.children u)
  pub low : n ≤ local (choice_by tree prices u back again free held) (can_hold tree most u used) (tree.children u)

-- each claim follows from others
abbrev pub Falls : Tree → Prices → ℕ → Claims → Type 0
Falls tree prices most claimed = (u back again used n : ℕ) → claimed u back again used n → Follows tree prices most claimed u back again used n
