use Rattle.std.proofs.Common.{◌≡◌, drop, map, string_bytes, bytes_eq}
use Rattle.std.specs.List.{list_any}
use Rattle.chex_cli.proofs.listening.stands.Given as goal

abbrev pub invariant-loop-other : goal.invariant-loop-other
invariant-loop-other l = list_any (bytes_eq l.word) (map string_bytes (drop l.other-index l.words)) ≡ list_any (bytes_eq l.word) (map string_bytes l.words)
