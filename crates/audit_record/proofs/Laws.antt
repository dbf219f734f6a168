-- What the definitions say of one another.
use Rattle.std.proofs.Common.{◌≡◌, ◌⊎◌, inl, inr, ℕ, zero, suc, ◌≤◌, ◌<◌, List, [], ◌∷◌, ◌++◌, length, take, drop, Some, Result, Ok, Err, refl, sym, ap, ◌∙◌, subst, arith, length-append}
use Rattle.std.specs.Prelude.{fold, unwrap_or}
use Rattle.std.specs.List.{slice_get}
use Rattle.std.proofs.lemmas.List.{length-take, take-append-drop}
use Rattle.std.proofs.lemmas.List.Sums.{fold-append}
use Rattle.std.proofs.lemmas.Option.{slice_get_within, unwrap_or-slice_get}
use Rattle.exec_tree.specs.Forests.{ForestParts}
use Rattle.exec_tree.specs.declared.node.Node.{Node}
use Rattle.audit_record.specs.Digests.{digest_at, digests, node_digest, no_digest}
use Rattle.audit_record.specs.Fitting.{Fits, IsUnfit}
use Rattle.audit_record.specs.Reading.{IsAnswer, IsKept}
use Rattle.audit_record.specs.declared.recorded.Recorded.{Recorded}
use Rattle.audit_record.specs.declared.fault.RecordFault.{RecordFault}
use Rattle.audit_record.specs.declared.fault.RecordFault.TheVariants.{NotRecord, OldRecord, Stale, NoMemory, WrongParent}
use Rattle.audit_record.proofs.DigestLemmas.{length-digests, take_with}

-- ---- answers

abbrev picked : Recorded → Result Recorded RecordFault → Recorded
picked other (Ok recorded) = recorded
picked other (Err e) = other

ok_same : (shape : Result Recorded RecordFault) (r s : Recorded) → shape ≡ Ok r → shape ≡ Ok s → r ≡ s
ok_same shape r s first second = ap (picked r) (sym first ∙ second)

abbrev IsWant : Result Recorded RecordFault → Type 0
IsWant result = result ≡ Err NoMemory

-- where the shape is a record that keeps the rules, it is the answer, unless memory is wanting
pub read_back : (recorded : Recorded) (shape result : Result Recorded RecordFault) → shape ≡ Ok recorded → IsKept recorded → IsAnswer shape result → (result ≡ Ok recorded) ⊎ IsWant result
read_back recorded shape (Ok other) is kept (same, rules) = inl (sym same ∙ is)
read_back recorded shape (Err NotRecord) is kept (inl denied) = absurd (cc)
read_back recorded shape (Err NotRecord) is kept (inr (other, same, broken)) = absurd (broken (subst IsKept (ok_same shape recorded other is same) kept))
read_back recorded shape (Err (OldRecord version)) is kept same = absurd (cc)
read_back recorded shape (Err (Stale node said found)) is kept never = absurd never
read_back recorded shape (Err NoMemory) is kept any = inr refl
read_back recorded shape (Err (WrongParent node said found)) is kept never = absurd never

-- what fits a tree is refused for want of memory alone
pub own_record_fits : (recorded : Recorded) (forest : ForestParts) (e : RecordFault) → Fits recorded forest → IsUnfit recorded forest e → e ≡ NoMemory
own_record_fits recorded forest NotRecord fits unfit = absurd unfit
own_record_fits recorded forest (OldRecord version) fits unfit = absurd unfit
own_record_fits recorded forest (Stale node said found) fits (place, at, differ) =
    absurd (differ.apart (sym differ.left ∙ ap (λ keys. slice_get keys place) fits.keys ∙ differ.right))
own_record_fits recorded forest NoMemory fits unfit = refl
own_record_fits recorded forest (WrongParent node said found) fits (same, wrong) =
    absurd (wrong.apart (sym wrong.row.2 ∙ fits.tree.parents node wrong.row.0 wrong.row.1 ∙ wrong.parent))

-- ---- digests

abbrev next : List (List ℕ) → Node → List (List ℕ)
next made node = made ++ node_digest (digest_at made node.parent) node ∷ []

get_front : (xs ys : List (List ℕ)) (i : ℕ) → i < length xs → slice_get (xs ++ ys) i ≡ slice_get xs i
get_front [] ys i h = absurd (omega arith)
get_front (x ∷ xs) ys zero h = refl
get_front (x ∷ xs) ys (suc i) h = get_front xs ys i (omega arith)

get_last : (xs : List (List ℕ)) (x : List ℕ) → slice_get (xs ++ x ∷ []) (length xs) ≡ Some x
get_last [] x = refl
get_last (y ∷ ys) x = get_last ys x

-- digests that were made stay
stay : (nodes : List Node) (made : List (List ℕ)) (i : ℕ) → i < length made → slice_get (fold next made nodes) i ≡ slice_get made i
stay [] made i h = refl
stay (node ∷ nodes) made i h =
    let more = length-append made (node_digest (digest_at made node.parent) node ∷ []) in
    stay nodes (next made node) i (omega (arith, more, h)) ∙ get_front made (node_digest (digest_at made node.parent) node ∷ []) i h

after_first : (nodes : List Node) (k : ℕ) → digests nodes ≡ fold next (digests (take k nodes)) (drop k nodes)
unfolding digests
after_first nodes k = ap (λ l. fold next [] l) (sym (take-append-drop k nodes)) ∙ fold-append next [] (take k nodes) (drop k nodes)

made_next : (nodes : List Node) (k : ℕ) (node : Node) → slice_get nodes k ≡ Some node → digests (take (suc k) nodes) ≡ next (digests (take k nodes)) node
unfolding digests
made_next nodes k node h = ap (λ l. fold next [] l) (take_with nodes k node h) ∙ fold-append next [] (take k nodes) (node ∷ [])

front_length : (nodes : List Node) (k : ℕ) → k ≤ length nodes → length (digests (take k nodes)) ≡ k
front_length nodes k h = let many = length-digests (take k nodes) in let size = length-take k nodes in omega (arith, many, size, h)

-- the digest above a node is that which the first nodes have
above_same : (nodes : List Node) (k p : ℕ) → p ≤ k → k ≤ length nodes → digest_at (digests (take k nodes)) p ≡ digest_at (digests nodes) p
above_same nodes k zero low within = refl
above_same nodes k (suc i) low within =
    let many = front_length nodes k within in
    let same = stay (drop k nodes) (digests (take k nodes)) i (omega (arith, many, low)) in
    sym (unwrap_or-slice_get (digests (take k nodes)) i no_digest) ∙ ap (λ o. unwrap_or o no_digest) (sym same ∙ ap (λ ds. slice_get ds i) (sym (after_first nodes k))) ∙ unwrap_or-slice_get (digests nodes) i no_digest

-- the digest of each node is SHA-256 of its parent's among all and its key bytes
pub digest_is : (nodes : List Node) (k : ℕ) (node : Node) → slice_get nodes k ≡ Some node → node.parent ≤ k → slice_get (digests nodes) k ≡ Some (node_digest (digest_at (digests nodes) node.parent) node)
digest_is nodes k node here low =
    let within = slice_get_within nodes k node here in
    let first = digests (take k nodes) in
    let size = front_length nodes k (omega (arith, within)) in
    let more = front_length nodes (suc k) (omega (arith, within)) in
    let made = node_digest (digest_at first node.parent) node in
    let last : slice_get (digests (take (suc k) nodes)) k ≡ Some made = ap (λ ds. slice_get ds k) (made_next nodes k node here) ∙ ap (slice_get (next first node)) (sym size) ∙ get_last first made in
    ap (λ ds. slice_get ds k) (after_first nodes (suc k)) ∙ stay (drop (suc k) nodes) (digests (take (suc k) nodes)) k (omega (arith, more)) ∙ last
    ∙ ap (λ above. Some (node_digest above node)) (above_same nodes k node.parent low (omega (arith, within)))
