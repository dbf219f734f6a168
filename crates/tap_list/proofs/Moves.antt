-- Taps that move from list to list.
use Rattle.std.proofs.Common.{◌≡◌, ◌<◌, ◌+◌, ◌-◌, ℕ, List, [], ◌∷◌, ◌++◌, length, map, slice_index_or, drop, take, refl, sym, ◌∙◌, ap, subst, suc, arith, inl, inr}
use Rattle.plan_type.specs.declared.operations.Operation.{Operation}
use Rattle.tap_list.specs.Listeners.{Listener, Heard, Refused, Turns, Told, Tells}

-- in the midst of telling: the rest is not told yet, and stands before what was kept
pub record Telling (event : Operation) (all old live retired : List Listener) (left : ℕ) : Type 0 where
  pub rest : List Listener
  pub kept : List Listener
  pub gone : List Listener
  pub live_is : live ≡ rest ++ kept
  pub retired_is : retired ≡ old ++ gone
  pub left_is : length rest ≡ left
  pub told : (stay go : List Listener) → Told event rest stay go → Told event all (kept ++ stay) (gone ++ go)

mapped : {T : Type 0} (f : T → Listener) (xs ys : List T) → map f (xs ++ ys) ≡ map f xs ++ map f ys
mapped f [] ys = refl
mapped f (x ∷ xs) ys = ap (λ rest. f x ∷ rest) (mapped f xs ys)

-- the first tap heard the event, and went to the end
pub kept : {T : Type 0} (f : T → Listener) (event : Operation) (live left live_now retired : List T) (tap now : T)
    → 0 < length live → tap ≡ slice_index_or live 0 tap → left ≡ take 0 live ++ drop 1 live → live_now ≡ left ++ now ∷ [] → Heard event (f tap) (f now)
    → Turns event (map f live) (map f retired) (map f live_now) (map f retired)
kept f event [] left live_now retired tap now some is rest moved heard = elim some [ ]
kept f event (t ∷ ts) left live_now retired tap now some is rest moved heard =
    (f tap, map f ts, f now, ap (λ x. f x ∷ map f ts) (sym is), inl (heard, ap (map f) (moved ∙ ap (λ xs. xs ++ now ∷ []) rest) ∙ mapped f ts (now ∷ []), refl))

-- the first tap refused the event, and went to the other list
pub gone : {T : Type 0} (f : T → Listener) (event : Operation) (live left retired retired_now : List T) (tap now : T)
    → 0 < length live → tap ≡ slice_index_or live 0 tap → left ≡ take 0 live ++ drop 1 live → retired_now ≡ retired ++ now ∷ [] → Refused (f tap) (f now)
    → Turns event (map f live) (map f retired) (map f left) (map f retired_now)
gone f event [] left retired retired_now tap now some is rest moved refused = elim some [ ]
gone f event (t ∷ ts) left retired retired_now tap now some is rest moved refused =
    (f tap, map f ts, f now, ap (λ x. f x ∷ map f ts) (sym is), inr (refused, ap (map f) rest, ap (map f) moved ∙ mapped f retired (now ∷ [])))

nothing_after : (xs : List Listener) → xs ++ [] ≡ xs
nothing_after [] = refl
nothing_after (x ∷ xs) = ap (λ rest. x ∷ rest) (nothing_after xs)

one_more : (xs : List Listener) (y : Listener) (ys : List Listener) → xs ++ y ∷ ys ≡ (xs ++ y ∷ []) ++ ys
one_more [] y ys = refl
one_more (x ∷ xs) y ys = ap (λ rest. x ∷ rest) (one_more xs y ys)

three : (xs ys zs : List Listener) → (xs ++ ys) ++ zs ≡ xs ++ (ys ++ zs)
three [] ys zs = refl
three (x ∷ xs) ys zs = ap (λ rest. x ∷ rest) (three xs ys zs)

pub begins : (event : Operation) (all old : List Listener) → Telling event all old all old (length all)
begins event all old = record {
  rest = all;
  kept = [];
  gone = [];
  live_is = sym (nothing_after all);
  retired_is = sym (nothing_after old);
  left_is = refl;
  told = λ stay go h. h;
}

ended : (event : Operation) (all old live retired rest kept gone : List Listener) → length rest ≡ 0 → live ≡ rest ++ kept → retired ≡ old ++ gone
    → ((stay go : List Listener) → Told event rest stay go → Told event all (kept ++ stay) (gone ++ go)) → Tells event all old live retired
ended event all old live retired [] kept gone none is was told =
    (gone, subst (λ xs. Told event all xs gone) (sym is) (subst (λ xs. Told event all xs gone) (nothing_after kept) (subst (λ xs. Told event all (kept ++ []) xs) (nothing_after gone) (told [] [] (refl, refl)))), was)
ended event all old live retired (x ∷ rest) kept gone none is was told = cc

pub ends : (event : Operation) (all old live retired : List Listener) → Telling event all old live retired 0 → Tells event all old live retired
ends event all old live retired t = ended event all old live retired t.rest t.kept t.gone t.left_is t.live_is t.retired_is t.told

goes_on : (event : Operation) (all old live retired live_now retired_now rest kept gone : List Listener) (left : ℕ) → length rest ≡ suc left → live ≡ rest ++ kept → retired ≡ old ++ gone
    → ((stay go : List Listener) → Told event rest stay go → Told event all (kept ++ stay) (gone ++ go))
    → Turns event live retired live_now retired_now → Telling event all old live_now retired_now left
goes_on event all old live retired live_now retired_now [] kept gone left some is was told turn = cc
goes_on event all old live retired live_now retired_now (r ∷ rs) kept gone left some is was told (e, es, f, front, inl (heard, now, same)) =
    let tail : es ≡ rs ++ kept = cc in let head : e ≡ r = cc in let fewer : length rs ≡ left = omega (arith, some) in record {
      rest = rs;
      kept = kept ++ f ∷ [];
      gone = gone;
      live_is = now ∙ (ap (λ xs. xs ++ f ∷ []) tail ∙ three rs kept (f ∷ []));
      retired_is = same ∙ was;
      left_is = fewer;
      told = λ stay go h. subst (λ xs. Told event all xs (gone ++ go)) (one_more kept f stay) (told (f ∷ stay) go (inl (f, stay, refl, subst (λ x. Heard event x f) head heard, h)));
    }
goes_on event all old live retired live_now retired_now (r ∷ rs) kept gone left some is was told (e, es, f, front, inr (refused, now, moved)) =
    let tail : es ≡ rs ++ kept = cc in let head : e ≡ r = cc in let fewer : length rs ≡ left = omega (arith, some) in record {
      rest = rs;
      kept = kept;
      gone = gone ++ f ∷ [];
      live_is = now ∙ tail;
      retired_is = moved ∙ (ap (λ xs. xs ++ f ∷ []) was ∙ three old gone (f ∷ []));
      left_is = fewer;
      told = λ stay go h. subst (λ xs. Told event all (kept ++ stay) xs) (one_more gone f go) (told stay (f ∷ go) (inr (f, go, refl, subst (λ x. Refused x f) head refused, h)));
    }

pub goes : (event : Operation) (all old live retired live_now retired_now : List Listener) (left : ℕ) → Telling event all old live retired (suc left) → Turns event live retired live_now retired_now → Telling event all old live_now retired_now left
goes event all old live retired live_now retired_now left t turn =
    goes_on event all old live retired live_now retired_now t.rest t.kept t.gone left t.left_is t.live_is t.retired_is t.told turn

-- the same for the taps themselves, seen by f
pub begins_by : {T : Type 0} (f : T → Listener) (event : Operation) (n : ℕ) (live retired : List T) → n ≡ length live → Telling event (map f live) (map f retired) (map f live) (map f retired) (n - 0)
begins_by f event n live retired is =
    let all : length (map f live) ≡ length live = seen f live in
    let left : length (map f live) ≡ n - 0 = omega (arith, all, is) in
    subst (λ k. Telling event (map f live) (map f retired) (map f live) (map f retired) k) left (begins event (map f live) (map f retired))
  where
    seen : {X : Type 0} (g : X → Listener) (xs : List X) → length (map g xs) ≡ length xs
    seen g [] = refl
    seen g (x ∷ xs) = ap suc (seen g xs)

pub goes_by : (event : Operation) (all old live retired live_now retired_now : List Listener) (counter end : ℕ) → counter < end → Telling event all old live retired (end - counter) → Turns event live retired live_now retired_now → Telling event all old live_now retired_now (end - (counter + 1))
goes_by event all old live retired live_now retired_now counter end more t turn =
    let left : end - counter ≡ suc (end - (counter + 1)) = omega (arith, more) in
    goes event all old live retired live_now retired_now (end - (counter + 1)) (subst (λ k. Telling event all old live retired k) left t) turn

pub ends_by : (event : Operation) (all old live retired : List Listener) (left : ℕ) → left ≡ 0 → Telling event all old live retired left → Tells event all old live retired
ends_by event all old live retired left none t = ends event all old live retired (subst (λ k. Telling event all old live retired k) none t)
