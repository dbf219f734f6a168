use Rattle.std.proofs.Common.{ℕ, List, IsTrue}
use Rattle.std.specs.List.{list_all}
use Rattle.star_meaning.specs.State.{Object}
use Rattle.star_meaning.specs.Validity.{fits}
use Rattle.machine_tests.proofs.dicts.pairs_of.Given as goal

abbrev pub invariant-loop-word : goal.invariant-loop-word
invariant-loop-word l = (os : List (Object ℕ)) → IsTrue (list_all (λ pair. fits os pair.1) l.pairs)
