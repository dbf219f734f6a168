use Rattle.std.proofs.Common.{◌≤◌, ◌-◌, vec_len}
use Rattle.std.specs.Io.KnownBytes.{Consumes}
use Rattle.chex_base.proofs.folder.read_prefix.Given as goal

abbrev pub invariant-loop-part : goal.invariant-loop-part
invariant-loop-part g l = record {
  few : vec_len l.bytes ≤ l.most;
  read : Consumes (g.R.Read.remaining l.fn.reader) (g.R.Read.remaining l.reader) l.bytes.items;
}

abbrev pub decreases-loop-part : goal.decreases-loop-part
decreases-loop-part g l = l.most - vec_len l.bytes
