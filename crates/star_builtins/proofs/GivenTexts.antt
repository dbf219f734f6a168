-- The texts that a value gives, one after another.
use Rattle.std.proofs.Common.{◌≡◌, ℕ, ◌+◌, ◌<◌, ◌≤◌, List, [], ◌∷◌, ◌++◌, length, drop, refl, sym, ap, ◌∙◌, subst, Option, Some, None, slice_get, append_assoc, append-nil}
use Rattle.std.specs.Prelude.{Result, Ok, Err}
use Rattle.std.proofs.lemmas.List.{drop_all}
use Rattle.star_value.specs.declared.failure.Failure.{Failure}
use Rattle.star_value.specs.declared.failure.Failure.TheVariants as failure
use Rattle.star_value.specs.declared.stop.Stop.{Stop}
use Rattle.star_value.specs.declared.stop.Stop.TheVariants as stop
use Rattle.star_value.specs.declared.value.Value.{Value}
use Rattle.star_value.specs.declared.value.Value.TheVariants as value
use Rattle.star_value.specs.Charge.{charged}
use Rattle.star_value.specs.Texts as texts
use Rattle.star_value.specs.Weight.{weight}
use Rattle.star_meaning.specs.Builtins as spec
use Rattle.star_meaning.specs.Methods as methods
use Rattle.star_meaning.specs.Methods.{walk_texts}
use Rattle.star_meaning.specs.State.{State}
use Rattle.star_meaning.specs.Steps.{Outcome, Went, Failed, Action, Store, Gives, pure, given_or, and_then, ◌>>=◌}
use Rattle.star_meaning.specs.Values.{items_in, items_of, text_in}
use Rattle.star_builtins.specs.Reached.{GivesWeighed, weighed}
use Rattle.star_builtins.specs.TextRows.{given_texts, texts_onto}
use Rattle.star_builtins.specs.Walks.{GivesItem, given, weight_at}
use Rattle.star_builtins.proofs.RowLemmas.{charge_went, charge_failed, of_items, no_items}
use Rattle.star_builtins.proofs.WalkLemmas.{at_some, drop_at, some_at}

-- ---- one item

module _ (done : List (List ℕ)) (s : State ℕ) (x : Value) (xs : List Value) (left rest : ℕ) where
  -- what is done with an item once it is charged
  abbrev looked : Option (List ℕ) → Action ℕ (List (List ℕ))
  looked o = given_or failure.WrongType o >>= (λ part. walk_texts xs >>= (λ more. pure (part ∷ more)))

  later : (part : List ℕ) (o : Outcome (Store ℕ) Failure (List (List ℕ))) → and_then (and_then o (λ more. pure (part ∷ more))) (λ more. pure (done ++ more)) ≡ and_then o (λ more. pure ((done ++ part ∷ []) ++ more))
  later part (Went more w) = ap (λ ps. Went ps w) (sym (append_assoc done (part ∷ []) more))
  later part (Failed e w) = refl

  paid : charged left (weight x) ≡ (Ok tt, rest) → texts_onto done (x ∷ xs) (record { state = s; left = left }) ≡ and_then (looked (text_in x) (record { state = s; left = rest })) (λ more. pure (done ++ more))
  unfolding texts_onto
  paid is = ap (λ o. and_then o (λ more. pure (done ++ more))) (charge_went s left (weight x) rest (looked (text_in x)) is)

  next_text : (part : List ℕ) → charged left (weight x) ≡ (Ok tt, rest) → text_in x ≡ Some part → texts_onto done (x ∷ xs) (record { state = s; left = left }) ≡ texts_onto (done ++ part ∷ []) xs (record { state = s; left = rest })
  unfolding texts_onto
  next_text part is text =
      paid is ∙ ap (λ o. and_then (looked o (record { state = s; left = rest })) (λ more. pure (done ++ more))) text ∙ later part (walk_texts xs (record { state = s; left = rest }))

  no_text : charged left (weight x) ≡ (Ok tt, rest) → text_in x ≡ None → texts_onto done (x ∷ xs) (record { state = s; left = left }) ≡ Failed failure.WrongType (record { state = s; left = rest })
  no_text is none = paid is ∙ ap (λ o. and_then (looked o (record { state = s; left = rest })) (λ more. pure (done ++ more))) none

  over : (e : Failure) → charged left (weight x) ≡ (Err e, rest) → texts_onto done (x ∷ xs) (record { state = s; left = left }) ≡ Failed e (record { state = s; left = rest })
  unfolding texts_onto
  over e is = ap (λ o. and_then o (λ more. pure (done ++ more))) (charge_failed s left (weight x) rest e (looked (text_in x)) is)

-- ---- the item at a place

module _ (items : List Value) (place left rest : ℕ) (s : State ℕ) (done : List (List ℕ)) (all : Outcome (Store ℕ) Failure (List (List ℕ))) where
  from_here : (x : Value) → slice_get items place ≡ Some x → texts_onto done (drop place items) (record { state = s; left = left }) ≡ all → texts_onto done (x ∷ drop (place + 1) items) (record { state = s; left = left }) ≡ all
  from_here x at before = ap (λ xs. texts_onto done xs (record { state = s; left = left })) (sym (drop_at items place x at)) ∙ before

  pub text_taken : (x : Value) (part : List ℕ) → slice_get items place ≡ Some x → charged left (weight x) ≡ (Ok tt, rest) → text_in x ≡ Some part
      → texts_onto done (drop place items) (record { state = s; left = left }) ≡ all → texts_onto (done ++ part ∷ []) (drop (place + 1) items) (record { state = s; left = rest }) ≡ all
  text_taken x part at is text before = sym (next_text done s x (drop (place + 1) items) left rest part is text) ∙ from_here x at before

  pub text_refused : (x : Value) (e : Failure) → slice_get items place ≡ Some x → charged left (weight x) ≡ (Ok tt, rest) → text_in x ≡ None → e ≡ failure.WrongType
      → texts_onto done (drop place items) (record { state = s; left = left }) ≡ all → all ≡ Failed e (record { state = s; left = rest })
  text_refused x e at is none same before =
      sym (from_here x at before) ∙ no_text done s x (drop (place + 1) items) left rest is none ∙ ap (λ f. Failed f (record { state = s; left = rest })) (sym same)

  stops : (x : Value) (e : Failure) → slice_get items place ≡ Some x → charged left (weight_at items place) ≡ (Err e, rest)
      → texts_onto done (drop place items) (record { state = s; left = left }) ≡ all → all ≡ Failed e (record { state = s; left = rest })
  stops x e at is before = sym (from_here x at before) ∙ over done s x (drop (place + 1) items) left rest e (ap (charged left) (sym (at_some items place x at)) ∙ is)

  pub item_ends : (e : Stop) → place < length items → GivesItem items place left (Err e) rest → texts_onto done (drop place items) (record { state = s; left = left }) ≡ all
      → Gives all (Err e) (record { state = s; left = rest })
  item_ends (stop.Failure e) within is before = let here = some_at items place within in stops here.0 e here.1 is before
  item_ends stop.NoMemory within is before = tt

pub texts_end : (items : List Value) (place : ℕ) (done : List (List ℕ)) (s : Store ℕ) (all : Outcome (Store ℕ) Failure (List (List ℕ))) → length items ≤ place → texts_onto done (drop place items) s ≡ all → all ≡ Went done s
unfolding texts_onto
texts_end items place done s all past before = sym before ∙ ap (λ xs. texts_onto done xs s) (drop_all place items past) ∙ ap (λ ps. Went ps s) (append-nil done)

onto_nothing : (o : Outcome (Store ℕ) Failure (List (List ℕ))) → and_then o (λ more. pure ([] ++ more)) ≡ o
onto_nothing (Went more w) = refl
onto_nothing (Failed e w) = refl

pub texts_start : (v : Value) (s : Store ℕ) → items_in s.state v ≡ Some (given s.state v) → texts_onto [] (given s.state v) s ≡ given_texts v s
unfolding texts_onto
texts_start v s has = onto_nothing (walk_texts (given s.state v) s) ∙ sym (of_items v (given s.state v) walk_texts s has)

pub texts_of_none : (v : Value) (e : Failure) (s : Store ℕ) → items_in s.state v ≡ None → e ≡ failure.WrongType → given_texts v s ≡ Failed e s
texts_of_none v e s none same = no_items v walk_texts s none ∙ ap (λ f. Failed f s) (sym same)

-- ---- what is done with the texts

regrouped : {A B D : Type 0} (o : Outcome (Store ℕ) Failure A) (f : A → Action ℕ B) (k : B → Action ℕ D) → and_then o (λ a. f a >>= k) ≡ and_then (and_then o f) k
regrouped (Went a w) f k = refl
regrouped (Failed e w) f k = refl

module _ (text : List ℕ) (values : List Value) (v : Value) (s : Store ℕ) (one : (f : Value → Action ℕ Value) → spec.with_one f values ≡ f v) where
  abbrev joined : List (List ℕ) → Action ℕ Value
  joined parts = pure (value.Text (texts.join text parts))

  join_is : methods.join text values s ≡ and_then (given_texts v s) joined
  join_is = ap (λ p. p s) (one (λ x. items_of x >>= (λ items. walk_texts items >>= joined))) ∙ regrouped (items_of v s) walk_texts joined

  ends : (o : Outcome (Store ℕ) Failure (List (List ℕ))) (e : Stop) (t : Store ℕ) → Gives o (Err e) t → GivesWeighed (and_then o joined) (Err e) t
  ends o (stop.Failure e) t h = ap (λ p. weighed (and_then p joined)) h
  ends o stop.NoMemory t h = tt

  pub join_ends : (e : Stop) (t : Store ℕ) → Gives (given_texts v s) (Err e) t → GivesWeighed (methods.join text values s) (Err e) t
  join_ends e t h = subst (λ o. GivesWeighed o (Err e) t) (sym join_is) (ends (given_texts v s) e t h)

  pub join_gives : (parts : List (List ℕ)) (t u : Store ℕ) (r : Result Value Stop) → given_texts v s ≡ Went parts t → GivesWeighed (joined parts t) r u → GivesWeighed (methods.join text values s) r u
  join_gives parts t u r took h = subst (λ o. GivesWeighed o r u) (sym (join_is ∙ ap (λ o. and_then o joined) took)) h
