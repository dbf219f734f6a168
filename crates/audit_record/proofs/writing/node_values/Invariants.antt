use Rattle.std.proofs.Common.{◌≡◌, map, take, zip}
use Rattle.std.specs.List.{AllByRecursion}
use Rattle.serde_json.specs.View.{view}
use Rattle.audit_record.specs.Record.{IsWide, node_data}
use Rattle.audit_record.proofs.writing.node_values.Given as goal

abbrev pub invariant-loop-place : goal.invariant-loop-place
invariant-loop-place l =
    record { values : map view l.values.items ≡ map node_data (take l.place (zip l.keys l.rows)); wide : AllByRecursion IsWide (take l.place (zip l.keys l.rows)) }
