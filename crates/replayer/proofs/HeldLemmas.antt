-- Stored nodes, as pairs with what belongs to each.
use Rattle.std.proofs.Common.{◌≡◌, ℕ, ◌+◌, Bool, true, false, cond, ◌||◌, List, [], ◌∷◌, ◌++◌, Option, Some, None, is_some, nat_eq, refl, sym, ap, ◌∙◌, arith}
use Rattle.std.specs.Prelude.{◌==◌, if◌then◌else◌}
use Rattle.std.specs.Cmp.{nat_eq_equiv}
use Rattle.std.specs.List.{sum_by}
use Rattle.std.specs.Map.{lookup, remove_entry}
use Rattle.std.proofs.lemmas.Bool.{false≢true}
use Rattle.std.proofs.lemmas.Bool.Decides.{Decides-eqb}
use Rattle.std.proofs.lemmas.List.{append-nil}
use Rattle.std.proofs.lemmas.List.Sums.{sum_by-cons}
use Rattle.kernel_api.specs.Stock.{blocks_held, holds}
use Rattle.kernel_api.specs.Stock.{without as without_pair}
use Rattle.plan_type.specs.Operations.{stores, without}
use Rattle.replayer.specs.Machines.{IsOnce, pairs_of}

turned : (x v : ℕ) → (x == v) ≡ nat_eq v x
turned x v = nat_eq_equiv.symm x v

or_turned : (a b : Bool) → (a || b) ≡ (b || a)
or_turned true true = refl
or_turned true false = refl
or_turned false true = refl
or_turned false false = refl

or_left : (a b : Bool) → (a || b) ≡ false → a ≡ false
or_left true b h = h
or_left false b h = refl

or_right : (a b : Bool) → (a || b) ≡ false → b ≡ false
or_right true b h = absurd (false≢true (sym h))
or_right false b h = h

module _ {T : Type 0} (test : ℕ → Bool) (p : ℕ × T) where
  found_last : (b : Bool) (rest : Option T) → is_some rest ≡ false → is_some (cond b (Some p.1) rest) ≡ (false || b)
  found_last true rest h = refl
  found_last false rest h = h

  found_more : (b : Bool) (x : T) (here there : Option T) → is_some there ≡ (is_some here || test p.0) → is_some (cond b (Some x) there) ≡ (is_some (cond b (Some x) here) || test p.0)
  found_more true x here there h = refl
  found_more false x here there h = h

  found_push : (es : List (ℕ × T)) → is_some (lookup test (es ++ p ∷ [])) ≡ (is_some (lookup test es) || test p.0)
  found_push [] = found_last (test p.0) None refl
  found_push (e ∷ es) = found_more (test e.0) e.1 (lookup test es) (lookup test (es ++ p ∷ [])) (found_push es)

  removed_here : (b : Bool) (x : T) (e : ℕ × T) (es left left_push : List (ℕ × T)) (found : Option T) → (is_some found ≡ true → left_push ≡ left ++ p ∷ [])
      → is_some (cond b (Some x) found) ≡ true → cond b (es ++ p ∷ []) (e ∷ left_push) ≡ cond b es (e ∷ left) ++ p ∷ []
  removed_here true x e es left left_push found more h = refl
  removed_here false x e es left left_push found more h = ap (λ l. e ∷ l) (more h)

  -- one that is there is taken out before the last
  removed_there : (es : List (ℕ × T)) → is_some (lookup test es) ≡ true → remove_entry test (es ++ p ∷ []) ≡ remove_entry test es ++ p ∷ []
  removed_there [] never = absurd (false≢true never)
  removed_there (e ∷ es) h = removed_here (test e.0) e.1 e es (remove_entry test es) (remove_entry test (es ++ p ∷ [])) (lookup test es) (removed_there es) h

  last_here : (b : Bool) (x : T) (e : ℕ × T) (es left_push : List (ℕ × T)) (found : Option T) → (is_some found ≡ false → left_push ≡ es)
      → is_some (cond b (Some x) found) ≡ false → cond b (es ++ p ∷ []) (e ∷ left_push) ≡ e ∷ es
  last_here true x e es left_push found more h = absurd (false≢true (sym h))
  last_here false x e es left_push found more h = ap (λ l. e ∷ l) (more h)

  -- the last is taken out where it is the first one that is meant
  removed_last : (es : List (ℕ × T)) → is_some (lookup test es) ≡ false → test p.0 ≡ true → remove_entry test (es ++ p ∷ []) ≡ es
  removed_last [] h is = ap (λ b. cond b [] (p ∷ [])) is
  removed_last (e ∷ es) h is = last_here (test e.0) e.1 e es (remove_entry test (es ++ p ∷ [])) (lookup test es) (λ none. removed_last es none is) h

-- ---- nodes

-- a node is held where it is stored
pub holds_pairs : {T : Type 0} (f : ℕ → T) (v : ℕ) (xs : List ℕ) → holds v (pairs_of f xs) ≡ stores xs v
holds_pairs f v [] = refl
holds_pairs f v (x ∷ xs) =
    found_push (nat_eq v) (x, f x) (pairs_of f xs)
    ∙ ap (λ b. b || nat_eq v x) (holds_pairs f v xs)
    ∙ or_turned (stores xs v) (nat_eq v x)
    ∙ ap (λ b. b || stores xs v) (sym (turned x v))

without_here : {T : Type 0} (f : ℕ → T) (v x : ℕ) (xs : List ℕ) (b : Bool) → (x == v) ≡ b → stores xs x ≡ false
    → (stores xs v ≡ true → without_pair v (pairs_of f xs) ≡ pairs_of f (without xs v)) → (b || stores xs v) ≡ true
    → remove_entry (nat_eq v) (pairs_of f xs ++ (x, f x) ∷ []) ≡ pairs_of f (if b then xs else x ∷ without xs v)
without_here f v x xs true is apart more there =
    let same : x ≡ v = (Decides-eqb x v).0 is in
    removed_last (nat_eq v) (x, f x) (pairs_of f xs) (holds_pairs f v xs ∙ (ap (stores xs) (sym same) ∙ apart)) (sym (turned x v) ∙ is)
without_here f v x xs false is apart more there =
    removed_there (nat_eq v) (x, f x) (pairs_of f xs) (holds_pairs f v xs ∙ there) ∙ ap (λ l. l ++ (x, f x) ∷ []) (more there)

-- a stored node is taken out
pub without_pairs : {T : Type 0} (f : ℕ → T) (v : ℕ) (xs : List ℕ) → IsOnce xs → stores xs v ≡ true → without_pair v (pairs_of f xs) ≡ pairs_of f (without xs v)
without_pairs f v [] once never = absurd (false≢true never)
without_pairs f v (x ∷ xs) once there = without_here f v x xs (x == v) refl once.0 (without_pairs f v xs once.1) there

stays_here : (v w x : ℕ) (xs : List ℕ) (b : Bool) → (stores xs w ≡ false → stores (without xs v) w ≡ false) → ((x == w) || stores xs w) ≡ false → stores (if b then xs else x ∷ without xs v) w ≡ false
stays_here v w x xs true more h = or_right (x == w) (stores xs w) h
stays_here v w x xs false more h =
    ap (λ b. b || stores (without xs v) w) (or_left (x == w) (stores xs w) h) ∙ more (or_right (x == w) (stores xs w) h)

stays : (v w : ℕ) (xs : List ℕ) → stores xs w ≡ false → stores (without xs v) w ≡ false
stays v w [] h = refl
stays v w (x ∷ xs) h = stays_here v w x xs (x == v) (stays v w xs) h

once_here : (v x : ℕ) (xs : List ℕ) (b : Bool) → IsOnce xs → stores xs x ≡ false → IsOnce (without xs v) → IsOnce (if b then xs else x ∷ without xs v)
once_here v x xs true once apart more = once
once_here v x xs false once apart more = (stays v x xs apart, more)

pub once_without : (v : ℕ) (xs : List ℕ) → IsOnce xs → IsOnce (without xs v)
once_without v [] once = tt
once_without v (x ∷ xs) once = once_here v x xs (x == v) once.1 once.0 (once_without v xs once.1)

-- ---- blocks

blocks_push : (es : List (ℕ × ℕ)) (p : ℕ × ℕ) → blocks_held (es ++ p ∷ []) ≡ blocks_held es + p.1
blocks_push [] p = omega arith
blocks_push (e ∷ es) p = let i = blocks_push es p in omega (arith, i)

pub blocks_pairs : (f : ℕ → ℕ) (xs : List ℕ) → blocks_held (pairs_of f xs) ≡ sum_by f xs
blocks_pairs f [] = refl
blocks_pairs f (x ∷ xs) =
    let a = blocks_push (pairs_of f xs) (x, f x) in let i = blocks_pairs f xs in let s = sum_by-cons f x xs in omega (arith, a, i, s)
