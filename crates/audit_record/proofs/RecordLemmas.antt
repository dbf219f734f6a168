-- The items of a record, one after the other.
use Rattle.std.proofs.Common.{◌≡◌, ℕ, zero, suc, ◌≤◌, List, [], ◌∷◌, ◌++◌, false, length, take, map, zip, Some, refl, ap, ap₂, arith}
use Rattle.std.specs.List.{slice_get, AllByRecursion}
use Rattle.serde_json.specs.View.{items_of}
use Rattle.serde_json.specs.Written.{has_float, items_have_float}
use Rattle.plan_type.specs.declared.row.Row.{Row}
use Rattle.audit_record.specs.Record.{node_data, record_data}
use Rattle.std.proofs.lemmas.List.{take_all}
use Rattle.audit_record.proofs.DigestLemmas.{some_same}

pub zip-step : {X Y : Type 0} (xs : List X) (ys : List Y) (k : ℕ) (x : X) (y : Y) → slice_get xs k ≡ Some x → slice_get ys k ≡ Some y
    → take (suc k) (zip xs ys) ≡ take k (zip xs ys) ++ (x, y) ∷ []
zip-step [] ys k x y h g = absurd (cc)
zip-step (a ∷ xs) [] k x y h g = absurd (cc)
zip-step (a ∷ xs) (b ∷ ys) zero x y h g = ap₂ (λ p q. (p, q) ∷ []) (some_same a x h) (some_same b y g)
zip-step (a ∷ xs) (b ∷ ys) (suc k) x y h g = ap (λ l. (a, b) ∷ l) (zip-step xs ys k x y h g)

length-zip : {X Y : Type 0} (xs : List X) (ys : List Y) → length (zip xs ys) ≤ length ys
length-zip [] ys = omega arith
length-zip (a ∷ xs) [] = omega arith
length-zip (a ∷ xs) (b ∷ ys) = let rest = length-zip xs ys in omega (arith, rest)

pub zip-all : {X Y : Type 0} (xs : List X) (ys : List Y) (k : ℕ) → length ys ≤ k → take k (zip xs ys) ≡ zip xs ys
zip-all xs ys k h = let few = length-zip xs ys in take_all k (zip xs ys) (omega (arith, few, h))

pub map-push : {X Y : Type 0} (f : X → Y) (xs : List X) (x : X) → map f (xs ++ x ∷ []) ≡ map f xs ++ f x ∷ []
map-push f [] x = refl
map-push f (y ∷ ys) x = ap (λ l. f y ∷ l) (map-push f ys x)

pub ByRecursion-push : {X : Type 0} (P : X → Type 0) (xs : List X) (x : X) → AllByRecursion P xs → P x → AllByRecursion P (xs ++ x ∷ [])
ByRecursion-push P [] x h one = (one, tt)
ByRecursion-push P (y ∷ ys) x h one = (h.0, ByRecursion-push P ys x h.1 one)

-- ---- a record holds no float

node-float : (node : List ℕ × Row) → has_float (node_data node) ≡ false
unfolding node_data
node-float node = refl

nodes-float : (nodes : List (List ℕ × Row)) → items_have_float (items_of (map node_data nodes)) ≡ false
nodes-float [] = refl
nodes-float (node ∷ nodes) = rw (node-float node) (nodes-float nodes)

pub no_float : (version : ℕ) (keys : List (List ℕ)) (rows : List Row) (allowance : ℕ) → has_float (record_data version keys rows allowance) ≡ false
unfolding record_data
no_float version keys rows allowance = rw (nodes-float (zip keys rows)) refl
