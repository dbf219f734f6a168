-- The text of a record.
use Rattle.std.specs.Prelude.{◌≡◌, ◌<◌, ◌^◌, ℕ, List, [], ◌∷◌, ◌++◌, length, map, zip, codes}
use Rattle.serde_json.specs.Data.{Data, array, member, no_members, number, object, string, unsigned}
use Rattle.serde_json.specs.View.{items_of}
use Rattle.serde_json.specs.Written.{compact_text}
use Rattle.hex.specs.Hex.{IsBytes, encode_lower}
use Rattle.plan_type.specs.declared.row.Reach.{Reach}
use Rattle.plan_type.specs.declared.row.Reach.TheVariants.{Done, Failed, Unreached}
use Rattle.plan_type.specs.declared.row.Row.{Row}

abbrev pub end_text : Reach → List ℕ
end_text Done = codes "done"
end_text Failed = codes "failed"
end_text Unreached = codes "unreached"

-- a node's digest with its row; both digests are written as lower-case hexadecimal digits
unfoldable pub node_data : List ℕ × Row → Data
node_data node =
    object (member (codes "bytes") (number (unsigned node.1.bytes))
    (member (codes "end") (string (end_text node.1.end))
    (member (codes "key") (string (encode_lower node.0))
    (member (codes "parent") (number (unsigned node.1.parent))
    (member (codes "steps") (number (unsigned node.1.steps))
    (member (codes "text") (string (encode_lower node.1.text)) no_members))))))

-- the value of a record: the digests of the nodes with their rows, in order, the step bound, and the version
unfoldable pub record_data : ℕ → List (List ℕ) → List Row → ℕ → Data
record_data version keys rows allowance =
    object (member (codes "format") (string (codes "chex-record"))
    (member (codes "nodes") (array (items_of (map node_data (zip keys rows))))
    (member (codes "steps") (number (unsigned allowance))
    (member (codes "version") (number (unsigned version)) no_members))))

-- one compact JSON text and a newline (10), in bytes; this is version 2
unfoldable pub record_bytes : List (List ℕ) → List Row → ℕ → List ℕ
record_bytes keys rows allowance = compact_text (record_data 2 keys rows allowance) ++ 10 ∷ []

-- ---- what the code keeps

pub record IsDigest (xs : List ℕ) : Type 0 where
  pub len : length xs ≡ 32
  pub bytes : IsBytes xs

-- a node's digest and row: both digests have 32 bytes, and the number of the parent 32 bits
pub record IsWide (node : List ℕ × Row) : Type 0 where
  pub key : IsDigest node.0
  pub text : IsDigest node.1.text
  pub parent : node.1.parent < 2 ^ 32
