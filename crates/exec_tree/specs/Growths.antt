-- A forest that grows: what its nodes stand for, and what one more prefix does to it.
use Rattle.std.specs.Prelude.{ℕ, zero, suc, ◌≡◌, ◌<◌, ◌≤◌, ◌+◌, ◌-◌, List, [], ◌∷◌, ◌++◌, map, length, fold, get_or, if◌then◌else◌}
use Rattle.std.specs.List.{list_any, range_with_len}
use Rattle.std.specs.Str.{encode_utf8_all}
use Rattle.std.specs.Hash.FoldHasher as folding
use Rattle.exec_tree.specs.Keys.{Key, key_of}
use Rattle.exec_tree.specs.Prefixes.{Prefix, keys, same_prefix}
use Rattle.exec_tree.specs.Forests.{parents_of, children_in}
use Rattle.exec_tree.specs.declared.node.Node.{Node}

-- ---- what nodes stand for

-- the keys on the way to a node: none to number 0
abbrev pub keys_at : List Prefix → ℕ → List Key
keys_at known zero = []
keys_at known (suc i) = get_or (map keys known) i []

-- the prefix of a node that comes after known ones
abbrev pub prefix_after : List Prefix → Node → Prefix
prefix_after known node = record { above = keys_at known node.parent; cell = node.cell; inputs = node.inputs }

-- the prefixes of nodes that come after known ones
unfoldable pub known_after : List Prefix → List Node → List Prefix
known_after known [] = known
known_after known (node ∷ nodes) = known_after (known ++ prefix_after known node ∷ []) nodes

-- the prefixes of nodes
abbrev pub known : List Node → List Prefix
known nodes = known_after [] nodes

-- the key of a node's cell
abbrev pub node_key : Node → Key
node_key node = key_of node.inputs node.cell

abbrev pub key_at : List Node → ℕ → Key
key_at nodes n = get_or (map node_key nodes) (n - 1) ([], [])

-- ---- growth

-- one more prefix, unless it is known
unfoldable pub with_prefix : List Prefix → Prefix → List Prefix
with_prefix known p = if list_any (λ q. same_prefix q p) known then known else known ++ p ∷ []

-- prefixes one after the other
unfoldable pub grown : List Prefix → List Prefix → List Prefix
grown known more = fold with_prefix known more

-- the number by which sources are told apart before they are compared
unfoldable pub hash_of : List ℕ → ℕ
hash_of source = folding.finish (folding.write folding.initial (encode_utf8_all source))

-- what a growing forest keeps: parents stand before their children, different nodes stand for different prefixes, each
-- number from 0 on has its children, and each node the hash of its source
pub record IsGrowth (nodes : List Node) (children : List (List ℕ)) (hashes : List ℕ) : Type 0 where
  pub low : (k : ℕ) → k < length nodes → get_or (parents_of nodes) k 0 ≤ k
  pub apart : (j k : ℕ) → j ≤ length nodes → k ≤ length nodes → keys_at (known nodes) j ≡ keys_at (known nodes) k → j ≡ k
  pub children_are : children ≡ map (children_in (parents_of nodes)) (range_with_len 0 (length nodes + 1))
  pub hashes_are : hashes ≡ map (λ (node : Node). hash_of node.cell.source) nodes
