-- What was written is read again.
use Rattle.std.proofs.Common.{◌≡◌, ℕ, zero, suc, ◌^◌, ◌*◌, ◌/◌, ◌%◌, ◌<◌, ◌≤◌, List, [], ◌∷◌, Bool, false, length, map, zip, Some, Ok, IsUtf8, refl, ap, ◌∙◌, arith, lt-ltb}
use Rattle.std.specs.Char.{is_ascii_uppercase}
use Rattle.std.specs.List.{list_any, slice_index, AllByRecursion}
use Rattle.std.proofs.lemmas.Bool.{or_parts}
use Rattle.serde_json.specs.Data.{depth, items_depth}
use Rattle.serde_json.specs.Read.{max_depth, read}
use Rattle.serde_json.specs.View.{items_of}
use Rattle.hex.specs.Hex.{decode_sized, encode_lower, encode_with, lower_digits}
use Rattle.hex.proofs.HexLemmas.{length-encode_with, decode_pairs-encode_with, IsDigits-lower_digits}
use Rattle.plan_type.specs.declared.row.Reach.{Reach}
use Rattle.plan_type.specs.declared.row.Reach.TheVariants.{Done, Failed, Unreached}
use Rattle.plan_type.specs.declared.row.Row.{Row}
use Rattle.audit_record.specs.Record.{IsDigest, IsWide, end_text, node_data, record_data}
use Rattle.audit_record.specs.Reading.{digest_of, end_of, node_of, node_in, nodes_in, read_as, recorded_in, recorded_of}
use Rattle.audit_record.proofs.ReadingLemmas.{value_of-read}

-- ---- digests

none_at : (p : ℕ → Bool) (xs : List ℕ) (i : ℕ) → list_any p xs ≡ false → p 0 ≡ false → p (slice_index xs i) ≡ false
none_at p [] i h outside = outside
none_at p (x ∷ xs) zero h outside = (or_parts (p x) (list_any p xs) h).0
none_at p (x ∷ xs) (suc i) h outside = none_at p xs i (or_parts (p x) (list_any p xs) h).1 outside

no_capitals : (xs : List ℕ) → list_any is_ascii_uppercase (encode_lower xs) ≡ false
unfolding encode_with
no_capitals [] = refl
no_capitals (b ∷ rest) =
    let high = none_at is_ascii_uppercase lower_digits (b / 16) refl refl in
    let low = none_at is_ascii_uppercase lower_digits (b % 16) refl refl in
    rw (high, low) (no_capitals rest)

decoded : (xs : List ℕ) → IsDigest xs → decode_sized (encode_lower xs) 32 ≡ Ok xs
decoded xs h =
    let size : length (encode_lower xs) ≡ 64 = length-encode_with lower_digits xs ∙ ap (λ n. 2 * n) h.len in
    rw size (decode_pairs-encode_with lower_digits IsDigits-lower_digits 0 xs h.bytes)

digest_again : (xs : List ℕ) → IsDigest xs → digest_of (encode_lower xs) ≡ Some xs
digest_again xs h = rw (no_capitals xs, decoded xs h) refl

-- ---- nodes

end_again : (end : Reach) → end_of (end_text end) ≡ Some end
end_again Done = refl
end_again Failed = refl
end_again Unreached = refl

number_again : (n : ℕ) → n < 2 ^ 32 → node_of n ≡ Some n
number_again n h = rw (lt-ltb n (2 ^ 32) h) refl

node_again : (node : List ℕ × Row) → IsWide node → node_in (node_data node) ≡ Some node
unfolding node_data
node_again node h = rw (digest_again node.0 h.key, number_again node.1.parent h.parent, end_again node.1.end, digest_again node.1.text h.text) refl

nodes_again : (keys : List (List ℕ)) (rows : List Row) → length rows ≡ length keys → AllByRecursion IsWide (zip keys rows) → nodes_in (items_of (map node_data (zip keys rows))) ≡ Some (keys, rows)
nodes_again [] [] many h = refl
nodes_again [] (row ∷ rows) many h = absurd (omega arith)
nodes_again (key ∷ keys) [] many h = absurd (omega arith)
nodes_again (key ∷ keys) (row ∷ rows) many h = rw (node_again (key, row) h.0, nodes_again keys rows (omega arith) h.1) refl

recorded_again : (keys : List (List ℕ)) (rows : List Row) (allowance : ℕ) → length rows ≡ length keys → AllByRecursion IsWide (zip keys rows)
    → recorded_in 2 (record_data 2 keys rows allowance) ≡ Ok (record { costs = record { rows = rows }; keys = keys; allowance = allowance })
unfolding recorded_in record_data
recorded_again keys rows allowance many h = rw (nodes_again keys rows many h) refl

-- ---- texts

node_depth : (node : List ℕ × Row) → depth (node_data node) ≡ 1
unfolding node_data
node_depth node = refl

nodes_depth : (nodes : List (List ℕ × Row)) → items_depth (items_of (map node_data nodes)) ≤ 1
nodes_depth [] = omega arith
nodes_depth (node ∷ nodes) = let one = node_depth node in let rest = nodes_depth nodes in omega (arith, one, rest)

pub record_depth : (version : ℕ) (keys : List (List ℕ)) (rows : List Row) (allowance : ℕ) → depth (record_data version keys rows allowance) ≤ max_depth
unfolding record_data
record_depth version keys rows allowance = let nodes = nodes_depth (zip keys rows) in omega (arith, nodes)

pub text_again : (text : List ℕ) (keys : List (List ℕ)) (rows : List Row) (allowance : ℕ) → length rows ≡ length keys → AllByRecursion IsWide (zip keys rows) → IsUtf8 text
    → read text ≡ Some (record_data 2 keys rows allowance) → recorded_of 2 text ≡ Ok (record { costs = record { rows = rows }; keys = keys; allowance = allowance })
text_again text keys rows allowance many h utf8 is = ap (read_as (recorded_in 2)) (value_of-read text _ utf8 is) ∙ recorded_again keys rows allowance many h
