use Rattle.std.proofs.Common.{◌≤◌, take, map, encode_utf8_all}
use Rattle.std.specs.Prelude.{flat_map, zip}
use Rattle.chex_base.specs.Outside.{GrewBy}
use Rattle.shared_run.specs.Written.{written}
use Rattle.chex_top.specs.RunTexts.{headed}
use Rattle.chex_top.proofs.saying.write_versions.Given as goal

abbrev pub invariant-loop-place : goal.invariant-loop-place
invariant-loop-place g l = record {
  held : GrewBy (encode_utf8_all (flat_map headed (take l.place (zip l.headers (map (written l.texts) l.ways))))) (g.W.Sink.held l.fn.out) (g.W.Sink.held l.out);
  later : g.W.Sink.faults l.fn.out ≤ g.W.Sink.faults l.out;
}
