-- What a store is: its limits, what it holds, and where it tells them the bytes.
use Rattle.std.specs.Prelude.{◌≡◌, ◌≤◌, ◌<◌, ℕ, ◌+◌, max, nat_eq, Bool, List, [], ◌∷◌, ◌++◌, length, map, Option, is_some, option_map, IfSome}
use Rattle.std.specs.Int.{div_ceil}
use Rattle.std.specs.List.{IsDistinct}
use Rattle.std.specs.Map.{keys_of, lookup, remove_entry}
use Rattle.std.proofs.Common.{refl, ap}

-- The bytes of a block, the most blocks that may be held, and the most that were held at once since it began. Held are pairs of
-- a node and its blocks, in the order in which they were put. What it tells are the pairs of a node and its bytes, in the same
-- order, or nothing where it does not tell.
pub record Stock : Type 0 where
  pub block : ℕ
  pub most : ℕ
  pub peak : ℕ
  pub held : List (ℕ × ℕ)
  pub told : Option (List (ℕ × List ℕ))

-- ---- pairs of a node and what belongs to it

-- what belongs to a node, or none
abbrev pub at : {T : Type 0} → ℕ → List (ℕ × T) → Option T
at node pairs = lookup (nat_eq node) pairs

abbrev pub holds : {T : Type 0} → ℕ → List (ℕ × T) → Bool
holds node pairs = is_some (at node pairs)

-- the other pairs, in their order
abbrev pub without : {T : Type 0} → ℕ → List (ℕ × T) → List (ℕ × T)
without node pairs = remove_entry (nat_eq node) pairs

-- ---- blocks

-- bytes take whole blocks; no bytes take none
abbrev pub blocks_of : ℕ → List ℕ → ℕ
blocks_of block bytes = div_ceil (length bytes) block

-- the sum of the held blocks
abbrev pub blocks_held : List (ℕ × ℕ) → ℕ
blocks_held [] = 0
blocks_held (pair ∷ pairs) = pair.1 + blocks_held pairs

-- each node with the blocks of its bytes
abbrev pub held_of : ℕ → List (ℕ × List ℕ) → List (ℕ × ℕ)
held_of block files = map (λ file. (file.0, blocks_of block file.1)) files

-- these bytes and what is held take more than the most
abbrev pub Passes : Stock → List ℕ → Type 0
Passes s bytes = s.most < blocks_held s.held + blocks_of s.block bytes

-- they take the most, or less
abbrev pub Fits : Stock → List ℕ → Type 0
Fits s bytes = blocks_held s.held + blocks_of s.block bytes ≤ s.most

-- ---- what calls make of a store

-- before it begins for the first time it holds nothing and has no room
abbrev pub before_begin : Option (List (ℕ × List ℕ)) → Stock
before_begin told = record { block = 256; most = 0; peak = 0; held = []; told = told }

-- with these limits and nothing held; what does not tell goes on telling nothing
abbrev pub begun : ℕ → ℕ → Stock → Stock
begun block most s = record { block = block; most = most; peak = 0; held = []; told = option_map (λ files. []) s.told }

abbrev pub with_put : ℕ → List ℕ → Stock → Stock
with_put node bytes s = record s {
  peak = max s.peak (blocks_held s.held + blocks_of s.block bytes);
  held = s.held ++ (node, blocks_of s.block bytes) ∷ [];
  told = option_map (λ files. files ++ (node, bytes) ∷ []) s.told;
}

abbrev pub with_evict : ℕ → Stock → Stock
with_evict node s = record s { held = without node s.held; told = option_map (without node) s.told }

-- ---- what each store keeps

-- The limits are in their ranges. No node is held twice. The held blocks were counted by the peak, which is at most the most.
-- Where the bytes are told, the nodes and blocks are theirs.
pub record IsStock (s : Stock) : Type 0 where
  pub small : 256 ≤ s.block
  pub large : s.block ≤ 1048576
  pub few : s.most ≤ 1024
  pub once : IsDistinct nat_eq (keys_of s.held)
  pub counted : blocks_held s.held ≤ s.peak
  pub bounded : s.peak ≤ s.most
  pub agrees : IfSome s.told (λ files. s.held ≡ held_of s.block files)

-- the nodes that are held are those whose bytes are told
pub nodes_held : (block : ℕ) (files : List (ℕ × List ℕ)) → keys_of (held_of block files) ≡ keys_of files
nodes_held block [] = refl
nodes_held block (file ∷ files) = ap (λ nodes. file.0 ∷ nodes) (nodes_held block files)
