-- What a last expression writes.
use Rattle.std.proofs.Common.{◌≡◌, ℕ, Bool, true, false, List, [], ◌∷◌, ◌++◌, refl, sym, ap, subst, ◌∙◌}
use Rattle.std.specs.Prelude.{Result, Ok, Err, codes}
use Rattle.std.specs.Str.{chars}
use Rattle.star_value.specs.declared.failure.Failure.{Failure}
use Rattle.star_value.specs.declared.stop.Stop.{Stop}
use Rattle.star_value.specs.declared.stop.Stop.TheVariants as stop
use Rattle.star_value.specs.declared.value.Value.{Value, out-Value}
use Rattle.star_value.specs.declared.value.Value.TheOpen.{Value-F}
use Rattle.star_meaning.specs.Steps.{Gives, Outcome, Store, Went, Failed, and_then, charge, pure, ◌>>=◌}
use Rattle.star_meaning.specs.Showing.{Naming, made, quoted, ◌<+>◌}
use Rattle.star_meaning.specs.World.{World, acting, with_store, write}
use Rattle.star_meaning.specs.Expressions.{Callee, Setting, naming}
use Rattle.star_meaning.specs.Statements.{echo, echo_at}
use Rattle.star_run.specs.Settled.{is_none_at}
use Rattle.star_run.proofs.RunLemmas.{acting_then}

-- ---- a newline behind a text

pub chars_newline : chars (codes "\n") ≡ 10 ∷ []
unfolding chars
chars_newline = refl

newline_at : (text : List ℕ) (u : World ℕ) (o : Outcome (Store ℕ) Failure (Unit {0}))
    → with_store u (and_then (and_then o (λ done. pure (10 ∷ []))) (λ b. pure (text ++ b))) ≡ and_then (with_store u o) (λ done. pure (text ++ 10 ∷ []))
newline_at text u (Went done s) = refl
newline_at text u (Failed e s) = refl

newline : (text : List ℕ) (u : World ℕ) → acting (made (10 ∷ []) >>= (λ b. pure (text ++ b))) u ≡ and_then (acting (charge 1) u) (λ done. pure (text ++ 10 ∷ []))
unfolding acting made
newline text u = newline_at text u (charge 1 u.store)

newline_then : (o : Outcome (World ℕ) Failure (List ℕ))
    → and_then o (λ a. acting (made (10 ∷ []) >>= (λ b. pure (a ++ b)))) ≡ and_then o (λ text u. and_then (acting (charge 1) u) (λ done. pure (text ++ 10 ∷ [])))
newline_then (Went text u) = newline text u
newline_then (Failed e u) = refl

quoted_newline : (of : Naming ℕ) (v : Value) (w : World ℕ)
    → acting (quoted of v <+> made (10 ∷ [])) w ≡ and_then (acting (quoted of v) w) (λ text u. and_then (acting (charge 1) u) (λ done. pure (text ++ 10 ∷ [])))
quoted_newline of v w = acting_then (quoted of v) (λ a. made (10 ∷ []) >>= (λ b. pure (a ++ b))) w ∙ newline_then (acting (quoted of v) w)

-- ---- what is written

module _ (set : Setting ℕ) (call : Callee ℕ) (v : Value) where
  none_at : (layer : Value-F Value) (w : World ℕ) → is_none_at layer ≡ true → echo_at set call layer v w ≡ Went tt w
  none_at Value-F.None w h = refl
  none_at _ w h = absurd (cc)

  some_at : (layer : Value-F Value) (w : World ℕ) → is_none_at layer ≡ false → echo_at set call layer v w ≡ and_then (acting (quoted (naming set) v <+> made (10 ∷ [])) w) write
  some_at Value-F.None w h = absurd (cc)
  some_at _ w h = refl

  pub echo_nothing : (w : World ℕ) → is_none_at (out-Value v) ≡ true → echo set call v w ≡ Went tt w
  unfolding echo
  echo_nothing w h = none_at (out-Value v) w h

  echo_is : (w : World ℕ) → is_none_at (out-Value v) ≡ false
      → echo set call v w ≡ and_then (and_then (acting (quoted (naming set) v) w) (λ text u. and_then (acting (charge 1) u) (λ done. pure (text ++ 10 ∷ [])))) write
  unfolding echo
  echo_is w h = some_at (out-Value v) w h ∙ ap (λ o. and_then o write) (quoted_newline (naming set) v w)

  -- the value is not quoted
  pub echo_stops : (w u : World ℕ) (e : Stop) → is_none_at (out-Value v) ≡ false → Gives (acting (quoted (naming set) v) w) (Err e) u → Gives (echo set call v w) (Err e) u
  echo_stops w u (stop.Failure f) some h = echo_is w some ∙ ap (λ o. and_then (and_then o (λ text t. and_then (acting (charge 1) t) (λ done. pure (text ++ 10 ∷ [])))) write) h
  echo_stops w u stop.NoMemory some h = tt

  -- no step is left for the newline
  pub echo_short : (w u t : World ℕ) (text : List ℕ) (e : Stop) → is_none_at (out-Value v) ≡ false → acting (quoted (naming set) v) w ≡ Went text u → Gives (acting (charge 1) u) (Err e) t
      → Gives (echo set call v w) (Err e) t
  echo_short w u t text (stop.Failure f) some h k =
      echo_is w some ∙ ap (λ o. and_then (and_then o (λ x r. and_then (acting (charge 1) r) (λ done. pure (x ++ 10 ∷ [])))) write) h
      ∙ ap (λ o. and_then (and_then o (λ done. pure (text ++ 10 ∷ []))) write) k
  echo_short w u t text stop.NoMemory some h k = tt

  pub echo_writes : (w u t after : World ℕ) (text whole : List ℕ) (r : Result (Unit {0}) Stop) → is_none_at (out-Value v) ≡ false → acting (quoted (naming set) v) w ≡ Went text u → acting (charge 1) u ≡ Went tt t
      → whole ≡ text ++ 10 ∷ [] → Gives (write whole t) r after → Gives (echo set call v w) r after
  echo_writes w u t after text whole r some h k is gives =
      let all : echo set call v w ≡ write whole t =
      echo_is w some ∙ ap (λ o. and_then (and_then o (λ x r. and_then (acting (charge 1) r) (λ done. pure (x ++ 10 ∷ [])))) write) h
      ∙ ap (λ o. and_then (and_then o (λ done. pure (text ++ 10 ∷ []))) write) k ∙ ap (λ x. write x t) (sym is) in
      subst (λ o. Gives o r after) (sym all) gives
