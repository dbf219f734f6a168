-- The bytes of a cell's key, and the digests of the nodes of a forest.
use Rattle.std.specs.Prelude.{ℕ, zero, suc, ℤ, true, false, List, [], ◌∷◌, ◌++◌, length, fold, get_or, replicate, Option, Some, None, encode_utf8_all}
use Rattle.std.specs.Int.{cast_unsigned, to_be_bytes, w64, w128}
use Rattle.std.specs.List.{flat_map}
use Rattle.sha2.specs.Sha256.{sha256}
use Rattle.chex_base.specs.declared.input.Input.{Input}
use Rattle.chex_base.specs.declared.input.Input.TheVariants as whole
use Rattle.chex_base.specs.declared.input.InputItem.{InputItem}
use Rattle.chex_base.specs.declared.input.InputItem.TheVariants as listed
use Rattle.exec_tree.specs.declared.node.Node.{Node}
use Rattle.exec_tree.specs.Keys.{Key, key_of}
use Rattle.exec_tree.specs.Forests.{ForestParts}

-- ---- numbers and texts: big-endian; a count has 8 bytes, an integer 16 in two's complement

abbrev pub count_bytes : ℕ → List ℕ
count_bytes n = to_be_bytes w64 n

abbrev pub integer_bytes : ℤ → List ℕ
integer_bytes z = to_be_bytes w128 (cast_unsigned w128 z)

-- a text is its count of bytes and its UTF-8 bytes
abbrev pub text_bytes : List ℕ → List ℕ
text_bytes points = count_bytes (length (encode_utf8_all points)) ++ encode_utf8_all points

-- a count, and the bytes of so many parts
abbrev pub counted : {A : Type 0} → (A → List ℕ) → List A → List ℕ
counted part parts = count_bytes (length parts) ++ flat_map part parts

-- ---- keys

-- values by a tag: 0 none, 1 false, 2 true, 3 an integer, 4 a text
abbrev pub item_bytes : InputItem → List ℕ
item_bytes listed.None = 0 ∷ []
item_bytes (listed.Bool false) = 1 ∷ []
item_bytes (listed.Bool true) = 2 ∷ []
item_bytes (listed.Int z) = 3 ∷ integer_bytes z
item_bytes (listed.Text points) = 4 ∷ text_bytes points

-- the same tags, and 12 for a list of these
abbrev pub input_bytes : Input → List ℕ
input_bytes whole.None = 0 ∷ []
input_bytes (whole.Bool false) = 1 ∷ []
input_bytes (whole.Bool true) = 2 ∷ []
input_bytes (whole.Int z) = 3 ∷ integer_bytes z
input_bytes (whole.Text points) = 4 ∷ text_bytes points
input_bytes (whole.List items) = 12 ∷ counted item_bytes items

-- a name without a value has the byte 11
abbrev pub value_bytes : Option Input → List ℕ
value_bytes None = 11 ∷ []
value_bytes (Some value) = input_bytes value

abbrev pub named_bytes : List ℕ × Option Input → List ℕ
named_bytes named = text_bytes named.0 ++ value_bytes named.1

-- the source, and the count of input names, each with its value or absence
unfoldable pub key_bytes : Key → List ℕ
key_bytes key = text_bytes key.0 ++ counted named_bytes key.1

-- ---- digests

-- 32 zero bytes, which stand for what is above number 0
abbrev pub no_digest : List ℕ
no_digest = replicate 32 0

-- of digests in the order of their nodes, from 1 on: that of a node, and 32 zero bytes for number 0
abbrev pub digest_at : List (List ℕ) → ℕ → List ℕ
digest_at digests zero = no_digest
digest_at digests (suc i) = get_or digests i no_digest

-- the digest of a node: SHA-256 of the digest above it and the bytes of its key
abbrev pub node_digest : List ℕ → Node → List ℕ
node_digest above node = sha256 (above ++ key_bytes (key_of node.inputs node.cell))

-- the digests of nodes in their order, each node after its parent
unfoldable pub digests : List Node → List (List ℕ)
digests nodes = fold (λ made node. made ++ node_digest (digest_at made node.parent) node ∷ []) [] nodes

abbrev pub digests_of : ForestParts → List (List ℕ)
digests_of forest = digests forest.nodes
