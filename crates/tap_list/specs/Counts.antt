-- How many operations of each kind there are in a list.
use Rattle.std.specs.Prelude.{ℕ, ◌+◌, ◌*◌, ◌-◌, ◌^◌, ◌≤◌, List, ◌++◌, codes, decimal}
use Rattle.std.specs.List.{sum_by}
use Rattle.plan_type.specs.declared.operations.Operation.{Operation}
use Rattle.plan_type.specs.declared.operations.Operation.TheVariants.{Reset, Compute, Checkpoint, Restore, Evict}
use Rattle.tap_list.specs.declared.tally.Counts.{Counts}

-- what one operation counts
abbrev pub counts_one : Operation → Counts
counts_one Reset = record { computes = 0; checkpoints = 0; restores = 0; evicts = 0; steps = 0 }
counts_one (Compute node n) = record { computes = 1; checkpoints = 0; restores = 0; evicts = 0; steps = n }
counts_one (Checkpoint node blocks) = record { computes = 0; checkpoints = 1; restores = 0; evicts = 0; steps = 0 }
counts_one (Restore node) = record { computes = 0; checkpoints = 0; restores = 1; evicts = 0; steps = 0 }
counts_one (Evict node) = record { computes = 0; checkpoints = 0; restores = 0; evicts = 1; steps = 0 }

-- the sums over a list
abbrev pub counts_of : List Operation → Counts
counts_of os = record {
  computes = sum_by (λ o. (counts_one o).computes) os;
  checkpoints = sum_by (λ o. (counts_one o).checkpoints) os;
  restores = sum_by (λ o. (counts_one o).restores) os;
  evicts = sum_by (λ o. (counts_one o).evicts) os;
  steps = sum_by (λ o. (counts_one o).steps) os;
}

-- the counts after one operation more
abbrev pub with_event : Counts → Operation → Counts
with_event c o = record {
  computes = c.computes + (counts_one o).computes;
  checkpoints = c.checkpoints + (counts_one o).checkpoints;
  restores = c.restores + (counts_one o).restores;
  evicts = c.evicts + (counts_one o).evicts;
  steps = c.steps + (counts_one o).steps;
}

-- counts of so many operations, each of at most 2^64 - 1 steps
pub record IsWithin (many : ℕ) (c : Counts) : Type 0 where
  pub computes : c.computes ≤ many
  pub checkpoints : c.checkpoints ≤ many
  pub restores : c.restores ≤ many
  pub evicts : c.evicts ≤ many
  pub steps : c.steps ≤ many * (2 ^ 64 - 1)

-- the line of a tally
unfoldable pub tally_text : Counts → List ℕ
tally_text c =
    codes "computes " ++ (decimal c.computes ++ (codes " checkpoints " ++ (decimal c.checkpoints ++ (codes " restores " ++ (decimal c.restores ++ (codes " evicts " ++ (decimal c.evicts ++ (codes " steps " ++ (decimal c.steps ++ codes "\n")))))))))
