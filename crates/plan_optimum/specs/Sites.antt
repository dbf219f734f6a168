-- What is known of each node before any cost is computed, and where a subtree is computed.
use Rattle.std.specs.Prelude.{ℕ, ◌≡◌, ◌≤◌, ◌<◌, ◌+◌, ◌*◌, List, [], ◌∷◌, ◌++◌, length, map, nat_le, Option, Some, None, if◌then◌else◌}
use Rattle.std.specs.List.{AllByRecursion, slice_get}
use Rattle.plan_type.specs.declared.budget.Budget.{Budget}
use Rattle.plan_type.specs.declared.costs.Costs.{Costs}
use Rattle.plan_type.specs.Costs.{parent_of, children_of, steps_of, blocks_of}
use Rattle.plan_optimum.specs.declared.site.Site.{Site}
use Rattle.plan_optimum.specs.declared.site.Way.{Way}

-- ---- ways

abbrev pub no_way : Way
no_way = record { back = 0; again = 0 }

-- a child of a node that is not held is made again the way that the node is
abbrev pub way_on : ℕ → Way → Way
way_on steps way = record { back = way.back + steps; again = way.again }

-- a child of a node that is held is made again from it; a node that never fits is not held
abbrev pub way_from : Costs → Budget → ℕ → ℕ → Way
way_from costs budget u v = record {
  back = steps_of costs v;
  again = if nat_le (blocks_of costs budget.block u) budget.most then budget.load * blocks_of costs budget.block u else 0;
}

-- the ways to a child: those to its parent, and the one from its parent
abbrev pub ways_under : Costs → Budget → ℕ → ℕ → List Way → List Way
ways_under costs budget u v ways = map (way_on (steps_of costs v)) ways ++ way_from costs budget u v ∷ []

-- a million steps for each number up to the node's own, and the dearest load of the most blocks
pub record IsSmallWay (v : ℕ) (way : Way) : Type 0 where
  pub back : way.back ≤ v * 1000000
  pub again : way.again ≤ 1024000000

-- ---- sites

abbrev pub site_in : Option Site → Site
site_in None = record { children = []; ways = []; blocks = 0 }
site_in (Some site) = site

abbrev pub site_at : List Site → ℕ → Site
site_at sites u = site_in (slice_get sites u)

abbrev pub way_in : Option Way → Way
way_in None = no_way
way_in (Some way) = way

-- the way to a node from the held ancestor of a level: 0 for none, and then one for each node of the path from 0 on
abbrev pub way_at : List Site → ℕ → ℕ → Way
way_at sites u level = way_in (slice_get (site_at sites u).ways level)

-- a node's children and blocks, and its ways: number 0 is there from the start, and another has its parent's ways and one more
pub record IsSite (costs : Costs) (budget : Budget) (sites : List Site) (u : ℕ) (site : Site) : Type 0 where
  pub children : site.children ≡ children_of costs u
  pub blocks : site.blocks ≡ blocks_of costs budget.block u
  pub root : u ≡ 0 → site.ways ≡ no_way ∷ []
  pub under : (p : ℕ) → parent_of costs u ≡ Some p → site.ways ≡ ways_under costs budget p u (site_at sites p).ways
  pub small : AllByRecursion (IsSmallWay u) site.ways
  pub few : length site.ways ≤ u + 1

-- the sites of the numbers below this one
pub record AreSites (costs : Costs) (budget : Budget) (end : ℕ) (sites : List Site) : Type 0 where
  pub count : length sites ≡ end
  pub each : (u : ℕ) → u < end → IsSite costs budget sites u (site_at sites u)
