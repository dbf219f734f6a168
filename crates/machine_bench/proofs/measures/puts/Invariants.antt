use Rattle.std.specs.Prelude.{IsTrue}
use Rattle.star_builtins.specs.Reached.{Fits}
use Rattle.star_meaning.specs.Validity.{all_in, is_proper}
use Rattle.machine_bench.proofs.measures.puts.Given as goal

abbrev pub invariant-loop-number : goal.invariant-loop-number
invariant-loop-number l = record {
  fits : Fits l.machine l.dict;
  proper : IsTrue (all_in is_proper l.machine.state);
}
