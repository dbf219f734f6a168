-- The lines after the outputs of all versions.
use Rattle.std.specs.Prelude.{ℕ, List, [], ◌++◌, Option, Some, None, codes, decimal}
use Rattle.chex_report.specs.declared.summaries.Numbers.{Numbers}

-- how many versions and nodes there are, and the steps alone and replayed
unfoldable pub steps_text : ℕ → ℕ → ℕ → ℕ → List ℕ
steps_text versions nodes alone replayed =
    codes "-- versions " ++ (decimal versions ++ (codes ", nodes " ++ (decimal nodes ++ (codes ", alone " ++ (decimal alone
    ++ (codes " steps, replayed " ++ (decimal replayed ++ codes " steps, ")))))))

-- the most blocks that were held, that may be held, and the bytes of one
unfoldable pub blocks_text : ℕ → ℕ → ℕ → List ℕ
blocks_text peak most block = codes "peak " ++ (decimal peak ++ (codes " of " ++ (decimal most ++ (codes " blocks of " ++ (decimal block ++ codes " bytes\n")))))

-- both, as one line
abbrev pub numbers_line : Numbers → List ℕ
numbers_line n = steps_text n.versions n.nodes n.alone n.replayed ++ blocks_text n.peak n.most n.block

-- the cost in steps, where there is one
unfoldable pub cost_line : Option ℕ → List ℕ
cost_line None = []
cost_line (Some cost) = codes "-- cost " ++ (decimal cost ++ codes " steps\n")

abbrev pub summary_of : Numbers → List ℕ
summary_of n = numbers_line n ++ cost_line n.cost
