-- What holds of steps by themselves is that they do the same as themselves, under the names that cells have.
use Rattle.std.proofs.Common.{◌≡◌, ℕ, List, [], ◌∷◌, map, refl, sym, ap, ◌∙◌, true, IsTrue}
use Rattle.std.specs.List.{list_all}
use Rattle.star_value.specs.declared.value.Value.{Value}
use Rattle.star_meaning.specs.State.{Object, AList, ADict, AFunction, State}
use Rattle.star_meaning.specs.Steps.{Outcome, Went, Failed, Steps, Store, Action, ◌>>=◌}
use Rattle.star_meaning.specs.World.{Block, World, Work, acting, in_block, in_function, located, locking, operation, turns}
use Rattle.star_meaning.specs.Validity.{renamed}
use Rattle.star_meaning.specs.Renaming.{Names, has_good, state_as, store_as, under, world_as, outcome_as, Same, SameSetting, SameSteps}
use Rattle.star_meaning.specs.Growing.{Later, Leads, reached}
use Rattle.star_meaning.specs.Expressions.{Setting}
use Rattle.star_meaning.specs.Reading.{body_findings}
use Rattle.star_meaning.proofs.ReadingLemmas.{all_findings_in}
use Rattle.star_meaning.proofs.RenamedWorld.{same_acting, same_in_block, same_in_function, same_located, same_locking, same_next, same_operation, same_turns}

outcome_itself : {W E A : Type 0} (f : W → W) → ((w : W) → f w ≡ w) → (o : Outcome W E A) → outcome_as f o ≡ o
outcome_itself f h (Went a w) = ap (Went a) (h w)
outcome_itself f h (Failed e w) = ap (Failed e) (h w)

module _ {C : Type 0} where
  object_itself : (o : Object C) → renamed (λ c. c) o ≡ o
  object_itself (AList items) = refl
  object_itself (ADict pairs) = refl
  object_itself (AFunction cell number defaults) = refl

  objects_themselves : (os : List (Object C)) → map (renamed (λ c. c)) os ≡ os
  objects_themselves [] = refl
  objects_themselves (o ∷ os) = ap (λ x. x ∷ map (renamed (λ c. c)) os) (object_itself o) ∙ ap (λ xs. o ∷ xs) (objects_themselves os)

  pub state_itself : (s : State C) → state_as (λ c. c) s ≡ s
  state_itself s = ap (λ os. record { globals = s.globals; objects = os }) (objects_themselves s.objects)

  store_itself : (s : Store C) → store_as (λ c. c) s ≡ s
  store_itself s = ap (λ os. record { state = record { globals = s.state.globals; objects = os }; left = s.left }) (objects_themselves s.state.objects)

  world_itself : (w : World C) → world_as (λ c. c) w ≡ w
  world_itself w = ap (λ s. record { store = s; frame = w.frame; out = w.out }) (store_itself w.store)

  pub all_good : (os : List (Object C)) → IsTrue (list_all (has_good (λ (c : C). true)) os)
  all_good [] = refl
  all_good (AList items ∷ os) = all_good os
  all_good (ADict pairs ∷ os) = all_good os
  all_good (AFunction cell number defaults ∷ os) = all_good os

  module _ (here : C) where
    -- the names that cells have
    abbrev pub own : Names C C
    own = record { to = λ c. c; here = here; locked = []; reads = λ n. true; good = λ c. true; here_good = refl }

    -- what holds of an operation while these lists and dicts are iterated over
    abbrev pub Keeps : {A : Type 0} → List ℕ → Action C A → Type 0
    Keeps locked p = (s : Store C) → Later here locked s (reached (p s))

    -- and of steps
    abbrev pub LeadsOn : {E A : Type 0} → Steps (World C) E A → Type 0
    LeadsOn p = (w : World C) → Leads here w (p w)

    pub keeps_alone : {A : Type 0} (locked : List ℕ) (p : Action C A) → Keeps locked p → Same (under own locked) p p
    keeps_alone locked p h = record { holds = λ s. ap p (store_itself s) ∙ sym (outcome_itself (store_as (λ c. c)) store_itself (p s)); keeps = h }

    pub leads_alone : {E A : Type 0} (p : Steps (World C) E A) → LeadsOn p → SameSteps own p p
    leads_alone p h = record { at = λ w good. record { holds = ap p (world_itself w) ∙ sym (outcome_itself (world_as (λ c. c)) world_itself (p w)); leads = h w } }

    pub leads_of : {E A : Type 0} (p q : Steps (World C) E A) → SameSteps own p q → LeadsOn p
    leads_of p q h w = (h.at w (all_good w.store.state.objects)).leads

    -- ---- steps that are made of steps

    pub next_leads : {E A B : Type 0} (p : Steps (World C) E A) (f : A → Steps (World C) E B) → LeadsOn p → ((a : A) → LeadsOn (f a)) → LeadsOn (p >>= f)
    next_leads p f h k = leads_of _ _ (same_next own _ _ _ _ (leads_alone p h) (λ a. leads_alone (f a) (k a)))

    pub acting_leads : {A : Type 0} (p : Action C A) → ((locked : List ℕ) → Keeps locked p) → LeadsOn (acting p)
    acting_leads p h = leads_of _ _ (same_acting own _ _ (λ locked. keeps_alone locked p (h locked)))

    pub operation_leads : (p : Work C Value) → LeadsOn p → LeadsOn (operation p)
    operation_leads p h = leads_of _ _ (same_operation own _ _ (leads_alone p h))

    pub located_leads : {A : Type 0} (line : ℕ) (p : Work C A) → LeadsOn p → LeadsOn (located line p)
    located_leads line p h = leads_of _ _ (same_located own line _ _ (leads_alone p h))

    pub locking_leads : {E A : Type 0} (ids : List ℕ) (p : Steps (World C) E A) → LeadsOn p → LeadsOn (locking ids p)
    locking_leads ids p h = leads_of _ _ (same_locking own ids _ _ (leads_alone p h))

    pub in_block_leads : {A : Type 0} (block : Block) (p : Work C A) → LeadsOn p → LeadsOn (in_block block p)
    in_block_leads block p h = leads_of _ _ (same_in_block own block _ _ (leads_alone p h))

    pub in_function_leads : {A : Type 0} (id : ℕ) (block : Block) (p : Work C A) → LeadsOn p → LeadsOn (in_function id block p)
    in_function_leads id block p h = leads_of _ _ (same_in_function own id block _ _ (leads_alone p h))

    pub turns_leads : {A : Type 0} (f : Value → A → Work C A) → ((v : Value) (a : A) → LeadsOn (f v a)) → (xs : List Value) (a : A) → LeadsOn (turns f xs a)
    turns_leads f h xs a = leads_of _ _ (same_turns own f f (λ v b. leads_alone (f v b) (h v b)) xs a)

  -- a setting is what it is under the names that cells have
  pub itself : (st : Setting C) → SameSetting (own st.cell) st st
  itself st = record {
    define = λ c n. refl;
    here = refl;
    cell = refl;
    inputs = λ n r. refl;
    bodies = λ c n def g e. all_findings_in (body_findings def.body);
  }
