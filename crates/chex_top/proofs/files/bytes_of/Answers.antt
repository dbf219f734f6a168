use Rattle.std.proofs.Common.{arith}
use Rattle.chex_top.proofs.ReadLemmas.{bytes_found, bytes_long}
use Rattle.chex_top.proofs.files.bytes_of.Goals as goal

pub returns-then-len-gt-MOST_FILE-clause-refused : goal.returns-then-len-gt-MOST_FILE-clause-refused
returns-then-len-gt-MOST_FILE-clause-refused g c =
    rw c.in_ok-copy-in-Bytes.ensures (bytes_long 16777217 (g.L.Library.files c.args.library.now) c.args.name.now c.as_str.result.now c.in-Bytes.bytes.items c.as_str.ensures.bytes c.in-Bytes.ensures.told (omega arith))

pub returns-else-len-gt-MOST_FILE-clause-found : goal.returns-else-len-gt-MOST_FILE-clause-found
returns-else-len-gt-MOST_FILE-clause-found g c =
    bytes_found 16777217 (g.L.Library.files c.args.library.now) c.args.name.now c.as_str.result.now c.in-Bytes.bytes.items (omega arith) c.as_str.ensures.bytes c.in-Bytes.ensures.told (omega arith)
