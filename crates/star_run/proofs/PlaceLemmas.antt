-- The parts of a place are its front and its last suffix; targets are stored one after the other.
use Rattle.std.proofs.Common.{◌≡◌, ℕ, zero, suc, ◌+◌, ◌-◌, ◌<◌, ◌≤◌, List, [], ◌∷◌, ◌++◌, map, length, get_or, take, drop, Some, None, slice_get, Err, refl, sym, ap, subst, ◌∙◌, arith}
use Rattle.std.proofs.lemmas.List.{take_all, take_more}
use Rattle.star_syntax.specs.declared.expression.Expr.{Expr}
use Rattle.star_syntax.specs.declared.expression.Suffix.{Suffix}
use Rattle.star_syntax.specs.declared.expression.Suffix.TheVariants as suffix
use Rattle.star_value.specs.declared.failure.Failure.{Failure}
use Rattle.star_value.specs.declared.failure.Failure.TheVariants as failure
use Rattle.star_value.specs.declared.stop.Stop.{Stop}
use Rattle.star_value.specs.declared.stop.Stop.TheVariants as stop
use Rattle.star_value.specs.declared.value.Value.{Value}
use Rattle.star_meaning.specs.Steps.{Outcome, Steps, Went, Failed, Gives, and_then, fail}
use Rattle.star_meaning.specs.Validity.{MachineState}
use Rattle.star_meaning.specs.World.{World}
use Rattle.star_builtins.specs.Reached.{AllFit, Fits}
use Rattle.star_run.specs.Fixed.{Fixed}
use Rattle.star_run.specs.Parts.{each_target, last_part, one_suffix, place_parts, suffixes, target}
use Rattle.star_run.proofs.LoopLemmas.{left_here}
use Rattle.star_run.proofs.WaitLemmas.{first_fits, more_fit}

-- ---- lists

-- a list is its front and its last
at_last : {X : Type 0} (xs : List X) (last : X) → 1 ≤ length xs → last ≡ get_or xs (length xs - 1) last → xs ≡ take (length xs - 1) xs ++ last ∷ []
at_last xs last some here =
    let whole : take (length xs - 1 + 1) xs ≡ xs = take_all (length xs - 1 + 1) xs (omega arith) in
    let more : take (length xs - 1 + 1) xs ≡ take (length xs - 1) xs ++ get_or xs (length xs - 1) last ∷ [] = take_more xs (length xs - 1) last (omega arith) in
    sym whole ∙ (more ∙ ap (λ x. take (length xs - 1) xs ++ x ∷ []) (sym here))

drop_there : {X : Type 0} (xs : List X) (i : ℕ) (x : X) → slice_get xs i ≡ Some x → drop i xs ≡ x ∷ drop (suc i) xs
drop_there [] i x h = absurd (cc)
drop_there (y ∷ ys) zero x h = let same : y ≡ x = cc in ap (λ z. z ∷ ys) same
drop_there (y ∷ ys) (suc i) x h = drop_there ys i x h

drop_past : {X : Type 0} (xs : List X) (i : ℕ) → slice_get xs i ≡ None → drop i xs ≡ []
drop_past [] zero h = refl
drop_past [] (suc i) h = refl
drop_past (x ∷ xs) zero h = absurd (cc)
drop_past (x ∷ xs) (suc i) h = drop_past xs i h

-- ---- steps

carried : {W E A B C : Type 0} (o : Outcome W E A) (p : A → Steps W E C) (q : A → Steps W E B) (r : B → Steps W E C) → ((a : A) (w : W) → p a w ≡ and_then (q a w) r) → and_then o p ≡ and_then (and_then o q) r
carried (Went a w) p q r h = h a w
carried (Failed e w) p q r h = refl

module _ (g : Fixed) (depth : ℕ) where
  -- ---- places

  last_alone : (last : Suffix Expr) (x : Value) (w : World ℕ) → place_parts g depth (last ∷ []) x w ≡ last_part g depth last x w
  last_alone (suffix.Index at) x w = refl
  last_alone (suffix.Slice start stop by) x w = refl
  last_alone (suffix.Call given) x w = refl
  last_alone (suffix.Method name given) x w = refl

  before_others : (s t : Suffix Expr) (ts : List (Suffix Expr)) (x : Value) (w : World ℕ) → place_parts g depth (s ∷ t ∷ ts) x w ≡ and_then (one_suffix g depth s x w) (place_parts g depth (t ∷ ts))
  before_others (suffix.Index at) t ts x w = refl
  before_others (suffix.Slice start stop by) t ts x w = refl
  before_others (suffix.Call given) t ts x w = refl
  before_others (suffix.Method name given) t ts x w = refl

  before_last : (s : Suffix Expr) (more : List (Suffix Expr)) (last : Suffix Expr) (x : Value) (w : World ℕ)
      → place_parts g depth (s ∷ (more ++ last ∷ [])) x w ≡ and_then (one_suffix g depth s x w) (place_parts g depth (more ++ last ∷ []))
  before_last s [] last x w = before_others s last [] x w
  before_last s (t ∷ ts) last x w = before_others s t (ts ++ last ∷ []) x w

  front_then : (front : List (Suffix Expr)) (last : Suffix Expr) (x : Value) (w : World ℕ) → place_parts g depth (front ++ last ∷ []) x w ≡ and_then (suffixes g depth front x w) (last_part g depth last)
  front_then [] last x w = last_alone last x w
  front_then (s ∷ more) last x w =
      before_last s more last x w
      ∙ carried (one_suffix g depth s x w) (place_parts g depth (more ++ last ∷ [])) (suffixes g depth more) (last_part g depth last) (λ y v. front_then more last y v)

  pub parts_split : (all : List (Suffix Expr)) (last : Suffix Expr) (x : Value) (w : World ℕ) → 1 ≤ length all → last ≡ get_or all (length all - 1) last
      → place_parts g depth all x w ≡ and_then (suffixes g depth (take (length all - 1) all) x w) (last_part g depth last)
  parts_split all last x w some here = ap (λ xs. place_parts g depth xs x w) (at_last all last some here) ∙ front_then (take (length all - 1) all) last x w

  pub not_index : (last : Suffix Expr) (x : Value) (w : World ℕ) → ((at : Expr) → last ≡ suffix.Index at → ⊥) → last_part g depth last x w ≡ and_then (one_suffix g depth last x w) (λ y. fail failure.WrongType)
  not_index (suffix.Index at) x w others = absurd (others at refl)
  not_index (suffix.Slice start stop by) x w others = refl
  not_index (suffix.Call given) x w others = refl
  not_index (suffix.Method name given) x w others = refl

  -- ---- targets

  pub target_step : (es : List Expr) (vs : List Value) (i : ℕ) (e : Expr) (v : Value) (w u : World ℕ) → i < length es → e ≡ get_or es i e → slice_get vs i ≡ Some v → target g depth e v w ≡ Went tt u
      → each_target g depth (drop i es) (drop i vs) w ≡ each_target g depth (drop (i + 1) es) (drop (i + 1) vs) u
  target_step es vs i e v w u within here there gave =
      let more : drop i es ≡ e ∷ drop (i + 1) es = left_here es i e within here in
      let others : drop i vs ≡ v ∷ drop (suc i) vs = drop_there vs i v there in
      let after : suc i ≡ i + 1 = omega arith in
      ap (λ xs. each_target g depth xs (drop i vs) w) more
      ∙ ap (λ ys. each_target g depth (e ∷ drop (i + 1) es) ys w) others
      ∙ ap (λ o. and_then o (λ done. each_target g depth (drop (i + 1) es) (drop (suc i) vs))) gave
      ∙ ap (λ j. each_target g depth (drop (i + 1) es) (drop j vs) u) after

  none_left : (es : List Expr) (w : World ℕ) → each_target g depth es [] w ≡ Went tt w
  none_left [] w = refl
  none_left (e ∷ es) w = refl

  pub targets_end : (es : List Expr) (vs : List Value) (i : ℕ) (w : World ℕ) → slice_get vs i ≡ None → each_target g depth (drop i es) (drop i vs) w ≡ Went tt w
  targets_end es vs i w past = ap (λ ys. each_target g depth (drop i es) ys w) (drop_past vs i past) ∙ none_left (drop i es) w

  -- a target that fails fails for all
  target_fails : (es : List Expr) (vs : List Value) (i : ℕ) (e : Expr) (v : Value) (f : Failure) (w u : World ℕ) → i < length es → e ≡ get_or es i e → slice_get vs i ≡ Some v → target g depth e v w ≡ Failed f u
      → each_target g depth (drop i es) (drop i vs) w ≡ Failed f u
  target_fails es vs i e v f w u within here there gave =
      let more : drop i es ≡ e ∷ drop (i + 1) es = left_here es i e within here in
      let others : drop i vs ≡ v ∷ drop (suc i) vs = drop_there vs i v there in
      ap (λ xs. each_target g depth xs (drop i vs) w) more
      ∙ ap (λ ys. each_target g depth (e ∷ drop (i + 1) es) ys w) others
      ∙ ap (λ o. and_then o (λ done. each_target g depth (drop (i + 1) es) (drop (suc i) vs))) gave

  pub target_stops : (es : List Expr) (vs : List Value) (i : ℕ) (e : Expr) (v : Value) (why : Stop) (w u : World ℕ) → i < length es → e ≡ get_or es i e → slice_get vs i ≡ Some v → Gives (target g depth e v w) (Err why) u
      → Gives (each_target g depth (drop i es) (drop i vs) w) (Err why) u
  target_stops es vs i e v (stop.Failure f) w u within here there gave = target_fails es vs i e v f w u within here there gave
  target_stops es vs i e v stop.NoMemory w u within here there gave = tt

-- ---- what may stand in a machine

pub item_fits : (m : MachineState) (vs : List Value) (i : ℕ) (v : Value) → slice_get vs i ≡ Some v → AllFit m vs → Fits m v
item_fits m [] i v is h = absurd (cc)
item_fits m (x ∷ xs) zero v is h = let same : x ≡ v = cc in subst (λ u. Fits m u) same (first_fits m x xs h)
item_fits m (x ∷ xs) (suc i) v is h = item_fits m xs i v is (more_fit m x xs h)
