-- The arguments of the methods of texts, and their rows over these.
use Rattle.std.proofs.Common.{◌≡◌, ℕ, List, [], ◌∷◌, ◌++◌, map, reverse, length, refl, sym, ap, ◌∙◌, subst, arith, Option, Some, None, append_assoc}
use Rattle.std.specs.Prelude.{Result, Ok, Err}
use Rattle.std.specs.List.{list_all}
use Rattle.std.proofs.lemmas.List.{map-append, reverse-append}
use Rattle.heap_store.proofs.Tested.{and_both}
use Rattle.star_value.specs.declared.failure.Failure.{Failure}
use Rattle.star_value.specs.declared.failure.Failure.TheVariants as failure
use Rattle.star_value.specs.declared.stop.Stop.{Stop}
use Rattle.star_value.specs.declared.value.Value.{Value}
use Rattle.star_value.specs.declared.value.Value.TheVariants as value
use Rattle.star_value.specs.Charge.{charged}
use Rattle.star_value.specs.Texts as texts
use Rattle.star_meaning.specs.Builtins as spec
use Rattle.star_meaning.specs.Methods as methods
use Rattle.star_meaning.specs.Operators.{charged_list}
use Rattle.star_meaning.specs.State.{State}
use Rattle.star_meaning.specs.Steps.{Outcome, Went, Failed, Action, Store, Gives, pure, fail, given_or, charge, ◌>>=◌, ◌>>◌}
use Rattle.star_meaning.specs.Validity.{MachineState, fits, is_proper}
use Rattle.star_meaning.specs.Values.{text_in}
use Rattle.star_builtins.specs.Calling.{AnswersOr, chosen}
use Rattle.star_builtins.specs.Reached.{AllFit, Fits, GivesWeighed}
use Rattle.star_builtins.specs.TextRows.{ChoosesOptional}
use Rattle.star_builtins.proofs.RowLemmas.{charge_went, charge_failed}

-- ---- arguments

pub text_chosen : (v : Value) (r : Result (List ℕ) Failure) (row : List ℕ → Action ℕ Value) → AnswersOr failure.WrongType (text_in v) r → (spec.as_text v >>= row) ≡ chosen r row
text_chosen v (Ok text) row h = ap (λ o. given_or failure.WrongType o >>= row) h
text_chosen v (Err e) row h = subst (λ f. (spec.as_text v >>= row) ≡ fail f) (sym h.1) (ap (λ o. given_or failure.WrongType o >>= row) h.0)

pub set_chosen : (v : Value) (text : List ℕ) (row : Option (List ℕ) → Action ℕ Value) → text_in v ≡ Some text → (methods.as_set (Some v) >>= row) ≡ row (Some text)
set_chosen v text row h = ap (λ o. (given_or failure.WrongType o >>= (λ set. pure (Some set))) >>= row) h

pub set_refused : (v : Value) (e : Failure) (row : Option (List ℕ) → Action ℕ Value) → text_in v ≡ None → e ≡ failure.WrongType → (methods.as_set (Some v) >>= row) ≡ fail e
set_refused v e row h same = subst (λ f. (methods.as_set (Some v) >>= row) ≡ fail f) (sym same) (ap (λ o. (given_or failure.WrongType o >>= (λ set. pure (Some set))) >>= row) h)

-- ---- a text that is not empty

pub is_empty : (by : List ℕ) (p : Action ℕ Value) → length by ≡ 0 → (methods.not_empty by >> p) ≡ fail failure.BadText
is_empty [] p h = refl
is_empty (c ∷ cs) p h = absurd (omega (arith, h))

pub is_some : (by : List ℕ) (p : Action ℕ Value) → (length by ≡ 0 → ⊥) → (methods.not_empty by >> p) ≡ p
is_some [] p h = absurd (h refl)
is_some (c ∷ cs) p h = refl

-- ---- a row that charges and then answers

module _ (s : State ℕ) (left n m rest : ℕ) (p q : Action ℕ Value) (is : p ≡ (charge n >> q)) (same : m ≡ n) where
  pub row_stops : (e : Failure) → charged left m ≡ (Err e, rest) → p (record { state = s; left = left }) ≡ Failed e (record { state = s; left = rest })
  row_stops e over = ap (λ o. o (record { state = s; left = left })) is ∙ charge_failed s left n rest e q (ap (charged left) (sym same) ∙ over)

  pub row_goes : charged left m ≡ (Ok tt, rest) → p (record { state = s; left = left }) ≡ q (record { state = s; left = rest })
  row_goes paid = ap (λ o. o (record { state = s; left = left })) is ∙ charge_went s left n rest q (ap (charged left) (sym same) ∙ paid)

-- what is answered over parts, where these are the ones that are wanted
module _ (parts whole : List (List ℕ)) (o : Outcome (Store ℕ) Failure Value) (t u : Store ℕ) (r : Result Value Stop) where
  pub pieces_give : o ≡ charged_list (map value.Text whole) t → parts ≡ whole → Gives (charged_list (map value.Text parts) t) r u → Gives o r u
  pieces_give same is h = subst (λ p. Gives p r u) (sym same) (subst (λ ps. Gives (charged_list (map value.Text ps) t) r u) is h)

  pub joined_give : (by : List ℕ) → o ≡ Went (value.Text (texts.join by whole)) t → parts ≡ whole → GivesWeighed (Went (value.Text (texts.join by parts)) t) r u → GivesWeighed o r u
  joined_give by same is h = subst (λ p. GivesWeighed p r u) (sym same) (subst (λ ps. GivesWeighed (Went (value.Text (texts.join by ps)) t) r u) is h)

pub same_give : (o p : Outcome (Store ℕ) Failure Value) (u : Store ℕ) (r : Result Value Stop) → o ≡ p → Gives p r u → Gives o r u
same_give o p u r same h = subst (λ q. Gives q r u) (sym same) h

-- ---- split

-- the row over the text between the pieces, where one is given
abbrev pub split_row : List ℕ → Option (List ℕ) → Action ℕ Value
split_row text None = methods.pieces text (texts.split_white text)
split_row text (Some by) = methods.not_empty by >> methods.pieces text (texts.split text by)

split_some : (text : List ℕ) (o : Option (List ℕ)) → (given_or failure.WrongType o >>= (λ by. methods.not_empty by >> methods.pieces text (texts.split text by))) ≡ ((given_or failure.WrongType o >>= (λ set. pure (Some set))) >>= split_row text)
split_some text None = refl
split_some text (Some by) = refl

split_is : (text : List ℕ) (values : List Value) → methods.split text values ≡ spec.with_optional (λ v. methods.as_set v >>= split_row text) values
split_is text [] = refl
split_is text (v ∷ []) = split_some text (text_in v)
split_is text (v ∷ w ∷ more) = refl

pub split_chosen : (text : List ℕ) (values : List Value) (r : Result (Option (List ℕ)) Failure) → ChoosesOptional values r → methods.split text values ≡ chosen r (split_row text)
split_chosen text values r chooses = split_is text values ∙ chooses (split_row text)

-- ---- pieces as values

module _ (parts : List (List ℕ)) (done : List Value) where
  push_last : (v : Value) → reverse (done ++ v ∷ []) ≡ v ∷ reverse done
  push_last v = reverse-append done (v ∷ [])

  pub piece_moved : (front : List (List ℕ)) (part : List ℕ) (v : Value) (all : List Value) → parts ≡ front ++ part ∷ [] → v ≡ value.Text part
      → map value.Text parts ++ reverse done ≡ all → map value.Text front ++ reverse (done ++ v ∷ []) ≡ all
  piece_moved front part v all is same before =
      ap (λ vs. map value.Text front ++ vs) (push_last v ∙ ap (λ w. w ∷ reverse done) same)
      ∙ sym (append_assoc (map value.Text front) (value.Text part ∷ []) (reverse done))
      ∙ ap (λ vs. vs ++ reverse done) (sym (map-append value.Text front (part ∷ [])) ∙ ap (map value.Text) (sym is))
      ∙ before

  pub piece_fits : (m : MachineState) (v : Value) → AllFit m (reverse done) → Fits m v → AllFit m (reverse (done ++ v ∷ []))
  piece_fits m v fit one = subst (AllFit m) (sym (push_last v)) (record {
    references = and_both (fits m.state.objects v) (list_all (fits m.state.objects) (reverse done)) one.references fit.references;
    proper = and_both (is_proper v) (list_all is_proper (reverse done)) one.proper fit.proper;
  })
