-- Snapshots by node, and the nodes with their blocks.
use Rattle.std.proofs.Common.{◌≡◌, ◌+◌, ℕ, Bool, true, false, cond, List, [], ◌∷◌, ◌++◌, Option, Some, None, refl, sym, ap, ◌∙◌, arith, is_some, nat_eq, map, length}
use Rattle.indexmap.specs.IndexMap.{insert_entry}
use Rattle.kernel_api.specs.Stock.{at, blocks_held, blocks_of, held_of, holds, without}

-- a node that is not there goes last
last_here : {T : Type 0} (node : ℕ) (x : T) (e : ℕ × T) (es : List (ℕ × T)) (found : Option T) (more : List (ℕ × T)) (b : Bool)
    → (is_some found ≡ false → more ≡ es ++ (node, x) ∷ []) → is_some (cond b (Some e.1) found) ≡ false → cond b ((e.0, x) ∷ es) (e ∷ more) ≡ e ∷ (es ++ (node, x) ∷ [])
last_here node x e es found more true rest absent = cc
last_here node x e es found more false rest absent = ap (λ all. e ∷ all) (rest absent)

pub put_last : {T : Type 0} (node : ℕ) (x : T) (es : List (ℕ × T)) → holds node es ≡ false → insert_entry nat_eq es node x ≡ es ++ (node, x) ∷ []
put_last node x [] absent = refl
put_last node x (e ∷ es) absent = last_here node x e es (at node es) (insert_entry nat_eq es node x) (nat_eq node e.0) (put_last node x es) absent

-- ---- the blocks of files

holds_here : {S T : Type 0} (x : S) (y : T) (p : Option S) (q : Option T) (b : Bool) → is_some p ≡ is_some q → is_some (cond b (Some x) p) ≡ is_some (cond b (Some y) q)
holds_here x y p q true is = refl
holds_here x y p q false is = is

-- a node is held where its bytes are told
pub holds_held : (node block : ℕ) (files : List (ℕ × List ℕ)) → holds node (held_of block files) ≡ holds node files
holds_held node block [] = refl
holds_held node block (file ∷ files) =
    holds_here (blocks_of block file.1) file.1 (at node (held_of block files)) (at node files) (nat_eq node file.0) (holds_held node block files)

left_here : (block : ℕ) (file : ℕ × List ℕ) (files left : List (ℕ × List ℕ)) (held : List (ℕ × ℕ)) (b : Bool) → held_of block left ≡ held
    → held_of block (cond b files (file ∷ left)) ≡ cond b (held_of block files) ((file.0, blocks_of block file.1) ∷ held)
left_here block file files left held true is = refl
left_here block file files left held false is = ap (λ rest. (file.0, blocks_of block file.1) ∷ rest) is

pub without_held : (node block : ℕ) (files : List (ℕ × List ℕ)) → held_of block (without node files) ≡ without node (held_of block files)
without_held node block [] = refl
without_held node block (file ∷ files) =
    left_here block file files (without node files) (without node (held_of block files)) (nat_eq node file.0) (without_held node block files)

pub held_put : (block node : ℕ) (bytes : List ℕ) (files : List (ℕ × List ℕ)) → held_of block (files ++ (node, bytes) ∷ []) ≡ held_of block files ++ (node, blocks_of block bytes) ∷ []
held_put block node bytes [] = refl
held_put block node bytes (file ∷ files) = ap (λ rest. (file.0, blocks_of block file.1) ∷ rest) (held_put block node bytes files)

-- ---- the sum of the blocks

sum_here : (block : ℕ) (file : ℕ × List ℕ) (files : List (ℕ × List ℕ)) → blocks_held (held_of block (file ∷ files)) ≡ blocks_of block file.1 + blocks_held (held_of block files)
sum_here block file files = refl

pub blocks_put : (block node : ℕ) (bytes : List ℕ) (files : List (ℕ × List ℕ)) → blocks_held (held_of block (files ++ (node, bytes) ∷ [])) ≡ blocks_held (held_of block files) + blocks_of block bytes
blocks_put block node bytes [] = omega (arith, sum_here block (node, bytes) [])
blocks_put block node bytes (file ∷ files) = let rest = blocks_put block node bytes files in omega (arith, rest, sum_here block file (files ++ (node, bytes) ∷ []), sum_here block file files)

some_same : {A : Type 0} (x y : A) → Some x ≡ Some y → x ≡ y
some_same x y is = cc

taken_here : (block : ℕ) (file : ℕ × List ℕ) (files left : List (ℕ × List ℕ)) (bytes : List ℕ) (found : Option (List ℕ)) (b : Bool)
    → (found ≡ Some bytes → blocks_held (held_of block left) + blocks_of block bytes ≡ blocks_held (held_of block files))
    → cond b (Some file.1) found ≡ Some bytes
    → blocks_held (held_of block (cond b files (file ∷ left))) + blocks_of block bytes ≡ blocks_held (held_of block (file ∷ files))
taken_here block file files left bytes found true rest is =
    let same : blocks_of block file.1 ≡ blocks_of block bytes = ap (blocks_of block) (some_same file.1 bytes is) in omega (arith, same, sum_here block file files)
taken_here block file files left bytes found false rest is =
    let more : blocks_held (held_of block left) + blocks_of block bytes ≡ blocks_held (held_of block files) = rest is in omega (arith, more, sum_here block file left, sum_here block file files)

-- what a node took is no longer counted once it is taken out
pub blocks_taken : (block node : ℕ) (bytes : List ℕ) (files : List (ℕ × List ℕ)) → at node files ≡ Some bytes
    → blocks_held (held_of block (without node files)) + blocks_of block bytes ≡ blocks_held (held_of block files)
blocks_taken block node bytes [] never = cc
blocks_taken block node bytes (file ∷ files) is =
    taken_here block file files (without node files) bytes (at node files) (nat_eq node file.0) (blocks_taken block node bytes files) is
