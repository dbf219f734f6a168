use Rattle.std.proofs.Common.{◌≡◌, ◌++◌, drop, List, ℕ, option_map}
use Rattle.serde_json.specs.View.{items_view}
use Rattle.plan_type.specs.declared.row.Row.{Row}
use Rattle.audit_record.specs.Reading.{nodes_in}
use Rattle.audit_record.proofs.reading.nodes_in.Given as goal

abbrev pub invariant-loop-item : goal.invariant-loop-item
invariant-loop-item l =
    option_map (λ (rest : List (List ℕ) × List Row). (l.keys ++ rest.0, l.rows ++ rest.1)) (nodes_in (items_view (drop l.item-index l.items))) ≡ nodes_in (items_view l.items)
