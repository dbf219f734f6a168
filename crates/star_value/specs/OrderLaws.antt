-- The order of keys is total and agrees with their equality. These are proofs that the traits ask for, and no definitions.
use Rattle.std.proofs.Common.{◌≡◌, ℕ, ℤ, pos, Bool, true, false, ◌&&◌, List, [], ◌∷◌, map, refl, sym, ap, ◌∙◌, subst}
use Rattle.std.proofs.lemmas.Bool.{false≢true}
use Rattle.std.specs.Cmp.{IsTotalOrder, bool_cmp_total, int_cmp_total, nat_cmp_total, on_total, then_flip, then_total, alike_right}
use Rattle.std.specs.Cmp.Lexicographic.{slice_cmp, nat_list_cmp_total, texts_ties}
use Rattle.std.specs.Ordering.{is_eq, is_lt, eq_by_cmp, ordering_reverse, ordering_then, on, then_cmp, nat_cmp, bool_cmp, int_cmp}
use Rattle.std.specs.declared.cmp.Ordering.{Ordering}
use Rattle.std.specs.declared.cmp.Ordering.TheVariants.{Less, Equal, Greater}
use Rattle.star_value.specs.declared.key.Key.{Key, fold-roll-Key, ind-Key, map-Key, out-Key, roll-Key, out-roll-Key, roll-out-Key}
use Rattle.star_value.specs.declared.key.Key.TheOpen.{Key-F}
use Rattle.star_value.specs.KeyOrder.{all_hold, same_layer, same_key, cmp_layer, key_cmp}
use Rattle.star_value.specs.KeyLaws.{same_key-roll}

-- ---- orders

then_equal : (o : Ordering) → o ≡ ordering_then o Equal
then_equal Less = refl
then_equal Equal = refl
then_equal Greater = refl

both_equal : (o p : Ordering) → ordering_then o p ≡ Equal → (o ≡ Equal) × (p ≡ Equal)
both_equal Less p h = absurd (false≢true (ap is_eq h))
both_equal Equal p h = (refl, h)
both_equal Greater p h = absurd (false≢true (ap is_eq h))

reverse_reverse : (o : Ordering) → o ≡ ordering_reverse (ordering_reverse o)
reverse_reverse Less = refl
reverse_reverse Equal = refl
reverse_reverse Greater = refl

-- first by R, and then by what p, q and s answer
module _ {K : Type 0} (R : K → K → Ordering) (left : (x y z : K) → R x y ≡ Equal → R x z ≡ R y z) (right : (x y z : K) → R x y ≡ Equal → R z x ≡ R z y) where
  chain_by : (x y z : K) (p q s : Ordering) → (R x y ≡ Less → R y z ≡ Less → R x z ≡ Less) → (p ≡ Less → q ≡ Less → s ≡ Less) → (k m : Ordering) → R x y ≡ k → R y z ≡ m
      → ordering_then k p ≡ Less → ordering_then m q ≡ Less → ordering_then (R x z) s ≡ Less
  chain_by x y z p q s chain rest Greater m is_k is_m h g = absurd (false≢true (ap is_lt h))
  chain_by x y z p q s chain rest Less Greater is_k is_m h g = absurd (false≢true (ap is_lt g))
  chain_by x y z p q s chain rest Less Less is_k is_m h g = ap (λ o. ordering_then o s) (chain is_k is_m)
  chain_by x y z p q s chain rest Less Equal is_k is_m h g = ap (λ o. ordering_then o s) (sym (right y z x is_m) ∙ is_k)
  chain_by x y z p q s chain rest Equal Greater is_k is_m h g = absurd (false≢true (ap is_lt g))
  chain_by x y z p q s chain rest Equal Less is_k is_m h g = ap (λ o. ordering_then o s) (left x y z is_k ∙ is_m)
  chain_by x y z p q s chain rest Equal Equal is_k is_m h g = ap (λ o. ordering_then o s) (left x y z is_k ∙ is_m) ∙ rest h g

-- ---- a key as what stands in it directly, and its parts

abbrev Flat : Type 0
Flat = ℕ × Bool × ℤ × List ℕ

abbrev flat : {R : Type 0} → Key-F R → Flat
flat Key-F.None = (0, false, pos 0, [])
flat (Key-F.Bool truth) = (1, truth, pos 0, [])
flat (Key-F.Int number) = (2, false, number, [])
flat (Key-F.Text text) = (3, false, pos 0, text)
flat (Key-F.Tuple parts) = (4, false, pos 0, [])

abbrev parts : {R : Type 0} → Key-F R → List R
parts (Key-F.Tuple all) = all
parts _ = []

abbrev flat_cmp : Flat → Flat → Ordering
flat_cmp = then_cmp (on (λ f. f.0) nat_cmp) (then_cmp (on (λ f. f.1) bool_cmp) (then_cmp (on (λ f. f.2) int_cmp) (on (λ f. f.3) (slice_cmp nat_cmp))))

flat_total : IsTotalOrder flat_cmp
flat_total = then_total (on_total (λ f. f.0) nat_cmp_total) (then_total (on_total (λ f. f.1) bool_cmp_total) (then_total (on_total (λ f. f.2) int_cmp_total) (on_total (λ f. f.3) nat_list_cmp_total)))

cmp_layer-is : (x : Key-F (Key → Ordering)) (y : Key-F Key) → cmp_layer x y ≡ ordering_then (flat_cmp (flat x) (flat y)) (slice_cmp (λ order part. order part) (parts x) (parts y))
cmp_layer-is Key-F.None Key-F.None = refl
cmp_layer-is (Key-F.Bool a) (Key-F.Bool b) = then_equal (bool_cmp a b) ∙ then_equal (ordering_then (bool_cmp a b) Equal)
cmp_layer-is (Key-F.Int a) (Key-F.Int b) = then_equal (int_cmp a b) ∙ then_equal (ordering_then (int_cmp a b) Equal)
cmp_layer-is (Key-F.Text a) (Key-F.Text b) = then_equal (slice_cmp nat_cmp a b)
cmp_layer-is (Key-F.Tuple a) (Key-F.Tuple b) = refl
cmp_layer-is _ _ = refl

flat-map : (x : Key-F Key) → flat (map-Key Key (Key → Ordering) key_cmp x) ≡ flat x
flat-map Key-F.None = refl
flat-map (Key-F.Bool truth) = refl
flat-map (Key-F.Int number) = refl
flat-map (Key-F.Text text) = refl
flat-map (Key-F.Tuple all) = refl

parts-map : (x : Key-F Key) → parts (map-Key Key (Key → Ordering) key_cmp x) ≡ map key_cmp (parts x)
parts-map Key-F.None = refl
parts-map (Key-F.Bool truth) = refl
parts-map (Key-F.Int number) = refl
parts-map (Key-F.Text text) = refl
parts-map (Key-F.Tuple all) = refl

pub slice_cmp-map : (xs ys : List Key) → slice_cmp (λ order part. order part) (map key_cmp xs) ys ≡ slice_cmp key_cmp xs ys
slice_cmp-map [] [] = refl
slice_cmp-map [] (y ∷ ys) = refl
slice_cmp-map (x ∷ xs) [] = refl
slice_cmp-map (x ∷ xs) (y ∷ ys) = ap (ordering_then (key_cmp x y)) (slice_cmp-map xs ys)

pub key_cmp-roll : (x : Key-F Key) (b : Key) → key_cmp (roll-Key x) b ≡ cmp_layer (map-Key Key (Key → Ordering) key_cmp x) (out-Key b)
unfolding key_cmp
key_cmp-roll x b = ap (λ (order : Key → Ordering). order b) (fold-roll-Key (Key → Ordering) (λ layer other. cmp_layer layer (out-Key other)) x)

abbrev front : Key → Flat
front a = flat (out-Key a)

abbrev inner : Key → List Key
inner a = parts (out-Key a)

key_is : (a b : Key) → key_cmp a b ≡ ordering_then (flat_cmp (front a) (front b)) (slice_cmp key_cmp (inner a) (inner b))
key_is a b =
    ap (λ k. key_cmp k b) (sym (roll-out-Key a)) ∙ key_cmp-roll (out-Key a) b
    ∙ cmp_layer-is (map-Key Key (Key → Ordering) key_cmp (out-Key a)) (out-Key b)
    ∙ ap (λ f. ordering_then (flat_cmp f (front b)) (slice_cmp (λ order part. order part) (parts (map-Key Key (Key → Ordering) key_cmp (out-Key a))) (inner b))) (flat-map (out-Key a))
    ∙ ap (λ all. ordering_then (flat_cmp (front a) (front b)) (slice_cmp (λ order part. order part) all (inner b))) (parts-map (out-Key a))
    ∙ ap (ordering_then (flat_cmp (front a) (front b))) (slice_cmp-map (inner a) (inner b))

-- ---- what holds of a key where it holds of its parts

module _ (Q : Key → Type 0) where
  abbrev Every : List Key → Type 0
  Every [] = Unit {0}
  Every (x ∷ xs) = Q x × Every xs

  abbrev Known : Type 0
  Known = (a : Key) × Q a

  every_known : (all : List Known) → Every (map (λ e. e.0) all)
  every_known [] = tt
  every_known (e ∷ all) = (e.1, every_known all)

  every_part : (x : Key-F Known) → Every (parts (map-Key Known Key (λ e. e.0) x))
  every_part Key-F.None = tt
  every_part (Key-F.Bool truth) = tt
  every_part (Key-F.Int number) = tt
  every_part (Key-F.Text text) = tt
  every_part (Key-F.Tuple all) = every_known all

  by_parts : ((a : Key) → Every (inner a) → Q a) → (a : Key) → Q a
  by_parts step = ind-Key Q (λ x y is. subst (λ z. Q (roll-Key z)) is
      (step (roll-Key (map-Key Known Key (λ e. e.0) y)) (subst (λ z. Every (parts z)) (sym (out-roll-Key (map-Key Known Key (λ e. e.0) y))) (every_part y))))

-- ---- the laws

abbrev Flips : Key → Type 0
Flips a = (b : Key) → key_cmp a b ≡ ordering_reverse (key_cmp b a)

parts_flip : (xs : List Key) → Every Flips xs → (ys : List Key) → slice_cmp key_cmp xs ys ≡ ordering_reverse (slice_cmp key_cmp ys xs)
parts_flip [] all [] = refl
parts_flip [] all (y ∷ ys) = refl
parts_flip (x ∷ xs) all [] = refl
parts_flip (x ∷ xs) all (y ∷ ys) = (λ i. ordering_then (all.0 y i) (parts_flip xs all.1 ys i)) ∙ then_flip (key_cmp y x) (slice_cmp key_cmp ys xs)

key_flips : (a : Key) → Flips a
key_flips = by_parts Flips (λ a all b. key_is a b ∙ (λ i. ordering_then (flat_total.antisymm (front a) (front b) i) (parts_flip (inner a) all (inner b) i))
    ∙ then_flip (flat_cmp (front b) (front a)) (slice_cmp key_cmp (inner b) (inner a)) ∙ ap ordering_reverse (sym (key_is b a)))

abbrev Levels : Key → Type 0
Levels a = (b c : Key) → key_cmp a b ≡ Equal → key_cmp a c ≡ key_cmp b c

parts_level : (xs : List Key) → Every Levels xs → (ys zs : List Key) → slice_cmp key_cmp xs ys ≡ Equal → slice_cmp key_cmp xs zs ≡ slice_cmp key_cmp ys zs
parts_level [] all [] zs h = refl
parts_level [] all (y ∷ ys) zs h = absurd (false≢true (ap is_eq h))
parts_level (x ∷ xs) all [] zs h = absurd (false≢true (ap is_eq h))
parts_level (x ∷ xs) all (y ∷ ys) [] h = refl
parts_level (x ∷ xs) all (y ∷ ys) (z ∷ zs) h =
    let same = both_equal (key_cmp x y) (slice_cmp key_cmp xs ys) h in
    λ i. ordering_then (all.0 y z same.0 i) (parts_level xs all.1 ys zs same.1 i)

key_levels : (a : Key) → Levels a
key_levels = by_parts Levels (λ a all b c h.
    let same = both_equal (flat_cmp (front a) (front b)) (slice_cmp key_cmp (inner a) (inner b)) (sym (key_is a b) ∙ h) in
    key_is a c ∙ (λ i. ordering_then (flat_total.congr (front a) (front b) (front c) same.0 i) (parts_level (inner a) all (inner b) (inner c) same.1 i)) ∙ sym (key_is b c))

key_right : (a b c : Key) → key_cmp a b ≡ Equal → key_cmp c a ≡ key_cmp c b
key_right a b c h = key_flips c a ∙ ap ordering_reverse (key_levels a b c h) ∙ sym (key_flips c b)

abbrev Chains : Key → Type 0
Chains a = (b c : Key) → key_cmp a b ≡ Less → key_cmp b c ≡ Less → key_cmp a c ≡ Less

parts_chain : (xs : List Key) → Every Chains xs → (ys zs : List Key) → slice_cmp key_cmp xs ys ≡ Less → slice_cmp key_cmp ys zs ≡ Less → slice_cmp key_cmp xs zs ≡ Less
parts_chain [] all [] zs h g = absurd (false≢true (ap is_lt h))
parts_chain [] all (y ∷ ys) [] h g = absurd (false≢true (ap is_lt g))
parts_chain [] all (y ∷ ys) (z ∷ zs) h g = refl
parts_chain (x ∷ xs) all [] zs h g = absurd (false≢true (ap is_lt h))
parts_chain (x ∷ xs) all (y ∷ ys) [] h g = absurd (false≢true (ap is_lt g))
parts_chain (x ∷ xs) all (y ∷ ys) (z ∷ zs) h g =
    chain_by key_cmp key_levels key_right x y z (slice_cmp key_cmp xs ys) (slice_cmp key_cmp ys zs) (slice_cmp key_cmp xs zs)
    (all.0 y z) (parts_chain xs all.1 ys zs) (key_cmp x y) (key_cmp y z) refl refl h g

key_chains : (a : Key) → Chains a
key_chains = by_parts Chains (λ a all b c h g.
    key_is a c ∙ chain_by flat_cmp flat_total.congr (alike_right flat_total) (front a) (front b) (front c)
    (slice_cmp key_cmp (inner a) (inner b)) (slice_cmp key_cmp (inner b) (inner c)) (slice_cmp key_cmp (inner a) (inner c))
    (flat_total.trans (front a) (front b) (front c)) (parts_chain (inner a) all (inner b) (inner c)) (flat_cmp (front a) (front b)) (flat_cmp (front b) (front c)) refl refl
    (sym (key_is a b) ∙ h) (sym (key_is b c) ∙ g))

pub key_cmp_total : IsTotalOrder key_cmp
key_cmp_total = record { antisymm = key_flips; trans = key_chains; congr = key_levels }

-- ---- equal keys

abbrev Ties : Key → Type 0
Ties a = (b : Key) → same_key a b ≡ eq_by_cmp key_cmp a b

then_is_eq : (o p : Ordering) → (is_eq o && is_eq p) ≡ is_eq (ordering_then o p)
then_is_eq Less p = refl
then_is_eq Equal p = refl
then_is_eq Greater p = refl

parts_tie : (all : List (Known Ties)) (ys : List Key)
    → all_hold (map same_key (map (λ e. e.0) all)) ys ≡ is_eq (slice_cmp (λ order part. order part) (map key_cmp (map (λ e. e.0) all)) ys)
parts_tie [] [] = refl
parts_tie [] (y ∷ ys) = refl
parts_tie (e ∷ all) [] = refl
parts_tie (e ∷ all) (y ∷ ys) =
    (λ i. e.1 y i && parts_tie all ys i) ∙ then_is_eq (key_cmp e.0 y) (slice_cmp (λ order part. order part) (map key_cmp (map (λ e. e.0) all)) ys)

abbrev laid : Key-F (Known Ties) → Key-F Key
laid = map-Key (Known Ties) Key (λ e. e.0)

layer_ties : (x : Key-F (Known Ties)) (y : Key-F Key) → same_layer (map-Key Key (Key → Bool) same_key (laid x)) y ≡ is_eq (cmp_layer (map-Key Key (Key → Ordering) key_cmp (laid x)) y)
layer_ties Key-F.None Key-F.None = refl
layer_ties (Key-F.Bool true) (Key-F.Bool true) = refl
layer_ties (Key-F.Bool true) (Key-F.Bool false) = refl
layer_ties (Key-F.Bool false) (Key-F.Bool true) = refl
layer_ties (Key-F.Bool false) (Key-F.Bool false) = refl
layer_ties (Key-F.Int a) (Key-F.Int b) = refl
layer_ties (Key-F.Text a) (Key-F.Text b) = texts_ties a b
layer_ties (Key-F.Tuple all) (Key-F.Tuple b) = parts_tie all b
layer_ties _ _ = refl

pub key_ties : (a : Key) → Ties a
key_ties = ind-Key Ties (λ x y is. subst (λ z. Ties (roll-Key z)) is (λ b. same_key-roll (laid y) b ∙ layer_ties y (out-Key b) ∙ ap is_eq (sym (key_cmp-roll (laid y) b))))
