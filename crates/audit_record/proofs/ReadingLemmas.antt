-- When bytes are a value, and what shape a record has.
use Rattle.std.proofs.Common.{◌≡◌, ◌⊎◌, inl, inr, ℕ, List, suc, ◌∷◌, length, Bool, true, false, Option, Some, None, Result, Ok, Err, IsUtf8, option_map, option_and_then, bytes_eq, ◌==◌, refl, ap, subst}
use Rattle.std.specs.Prelude.{if◌then◌else◌, codes}
use Rattle.std.specs.Str.{is_utf8}
use Rattle.std.proofs.lemmas.Str.{is_utf8-from_IsUtf8, IsUtf8-from_is_utf8}
use Rattle.serde_json.specs.Data.{Data, Items, no_items, item}
use Rattle.serde_json.specs.Read.{read}
use Rattle.plan_type.specs.declared.row.Row.{Row}
use Rattle.audit_record.specs.Reading.{value_of, read_as, recorded_in, recorded_of, of_format, of_version, or_no_record, nodes_in, node_in, items_at, number_at, text_at, IsAnswer}
use Rattle.audit_record.specs.declared.recorded.Recorded.{Recorded}
use Rattle.audit_record.specs.declared.fault.RecordFault.{RecordFault}
use Rattle.audit_record.specs.declared.fault.RecordFault.TheVariants.{NotRecord, OldRecord, Stale, NoMemory, WrongParent}

pub value_of-read : (bytes : List ℕ) (d : Data) → IsUtf8 bytes → read bytes ≡ Some d → value_of bytes ≡ Some d
unfolding value_of
value_of-read bytes d text is = rw (is_utf8-from_IsUtf8 bytes text) is

none_or : (b : Bool) (bytes : List ℕ) → (b ≡ true → read bytes ≡ None) → (if b then read bytes else None) ≡ None
none_or true bytes h = h refl
none_or false bytes h = refl

pub value_of-none : (bytes : List ℕ) → (IsUtf8 bytes → read bytes ≡ None) → value_of bytes ≡ None
unfolding value_of
value_of-none bytes h = none_or (is_utf8 bytes) bytes (λ text. h (IsUtf8-from_is_utf8 bytes text))

-- ---- a record has as many rows as digests, and is refused as none or as one of another version

abbrev pub HasShape : Result Recorded RecordFault → Type 0
HasShape (Ok recorded) = length recorded.costs.rows ≡ length recorded.keys
HasShape (Err NotRecord) = Unit {0}
HasShape (Err (OldRecord version)) = Unit {0}
HasShape (Err (Stale node recorded found)) = ⊥
HasShape (Err NoMemory) = ⊥
HasShape (Err (WrongParent node recorded found)) = ⊥

abbrev Many : Option (List (List ℕ) × List Row) → Type 0
Many None = Unit {0}
Many (Some nodes) = length nodes.1 ≡ length nodes.0

one_more : (node : Option (List ℕ × Row)) (rest : Option (List (List ℕ) × List Row)) → Many rest
    → Many (option_and_then (λ n. option_map (λ (r : List (List ℕ) × List Row). (n.0 ∷ r.0, n.1 ∷ r.1)) rest) node)
one_more None rest h = tt
one_more (Some n) None h = tt
one_more (Some n) (Some r) h = ap suc h

as_many : (ds : Items) → Many (nodes_in ds)
as_many no_items = refl
as_many (item d ds) = one_more (node_in d) (nodes_in ds) (as_many ds)

of_items : (o : Option Items) → Many (option_and_then nodes_in o)
of_items None = tt
of_items (Some ds) = as_many ds

shape_of_nodes : (allowance : ℕ) (o : Option (List (List ℕ) × List Row)) → Many o
    → HasShape (or_no_record (option_map (λ nodes. record { costs = record { rows = nodes.1 }; keys = nodes.0; allowance = allowance }) o))
shape_of_nodes allowance None h = tt
shape_of_nodes allowance (Some nodes) h = h

shape_of_body : (allowance : Option ℕ) (o : Option Items)
    → HasShape (or_no_record (option_and_then (λ n. option_map (λ nodes. record { costs = record { rows = nodes.1 }; keys = nodes.0; allowance = n }) (option_and_then nodes_in o)) allowance))
shape_of_body None o = tt
shape_of_body (Some n) o = shape_of_nodes n (option_and_then nodes_in o) (of_items o)

either : (b : Bool) (x y : Result Recorded RecordFault) → HasShape x → HasShape y → HasShape (if b then x else y)
either true x y h k = h
either false x y h k = k

versioned : (wanted : ℕ) (o : Option ℕ) (rest : Result Recorded RecordFault) → HasShape rest → HasShape (of_version wanted o rest)
versioned wanted None rest h = tt
versioned wanted (Some n) rest h = either (n == wanted) rest (Err (OldRecord n)) h tt

formatted : (o : Option (List ℕ)) (rest : Result Recorded RecordFault) → HasShape rest → HasShape (of_format o rest)
formatted None rest h = tt
formatted (Some s) rest h = either (bytes_eq s (codes "chex-record")) rest (Err NotRecord) h tt

has_shape_in : (version : ℕ) (d : Data) → HasShape (recorded_in version d)
unfolding recorded_in
has_shape_in version d =
    formatted (text_at (codes "format") d) _ (versioned version (number_at (codes "version") d) _ (shape_of_body (number_at (codes "steps") d) (items_at (codes "nodes") d)))

read_shape : (version : ℕ) (o : Option Data) → HasShape (read_as (recorded_in version) o)
read_shape version None = tt
read_shape version (Some d) = has_shape_in version d

pub has_shape : (version : ℕ) (bytes : List ℕ) → HasShape (recorded_of version bytes)
has_shape version bytes = read_shape version (value_of bytes)

-- ---- answers

pub refused : (shape : Result Recorded RecordFault) (e : RecordFault) → HasShape shape → (e ≡ NoMemory) ⊎ (shape ≡ Err e) → IsAnswer shape (Err e)
refused shape NotRecord h (inl is) = absurd (cc)
refused shape NotRecord h (inr is) = inl is
refused shape (OldRecord version) h (inl is) = absurd (cc)
refused shape (OldRecord version) h (inr is) = is
refused shape (Stale node recorded found) h (inl is) = absurd (cc)
refused shape (Stale node recorded found) h (inr is) = subst HasShape is h
refused shape NoMemory h k = tt
refused shape (WrongParent node recorded found) h (inl is) = absurd (cc)
refused shape (WrongParent node recorded found) h (inr is) = subst HasShape is h
