-- A format is filled part by part.
use Rattle.std.proofs.Common.{◌≡◌, eq-eqb, nat_eq, ℕ, suc, zero, ◌+◌, ◌<◌, ◌≤◌, Bool, true, false, List, [], ◌∷◌, ◌++◌, length, drop, get_or, Some, None, refl, sym, subst, ap, ◌∙◌, arith, slice_get}
use Rattle.std.proofs.lemmas.List.{drop_all}
use Rattle.std.specs.Prelude.{Result, Err}
use Rattle.star_value.specs.declared.stop.Stop.{Stop}
use Rattle.star_value.specs.declared.stop.Stop.TheVariants as stop
use Rattle.star_value.specs.declared.failure.Failure.{Failure}
use Rattle.star_value.specs.declared.format.Part.{Part}
use Rattle.star_value.specs.declared.format.Part.TheVariants as part
use Rattle.star_value.specs.declared.value.Value.{Value, out-Value, roll-Value, roll-out-Value}
use Rattle.star_value.specs.declared.value.Value.TheOpen.{Value-F}
use Rattle.star_value.specs.declared.value.Value.TheVariants as value
use Rattle.star_value.specs.Format.{parts_of}
use Rattle.star_meaning.specs.Steps.{Action, Gives, Outcome, Went, Failed, Store, and_then, pure}
use Rattle.star_meaning.specs.Operators.{decimals_fit, divided, filled, formatted, formatted_parts, modulo_at, on_ints, takes_value, values_for, values_taken}
use Rattle.star_meaning.specs.Showing.{Naming, ◌<+>◌}
use Rattle.star_meaning.specs.Values.{rest_of}
use Rattle.star_meaning.specs.Validity.{MachineState, fits, is_proper}
use Rattle.heap_store.proofs.Tested.{and_both}
use Rattle.star_builtins.specs.Reached.{AllFit, Fits}
use Rattle.star_builtins.specs.Shows.{Shows, onto}
use Rattle.star_builtins.specs.Filled.{part_fits, piece, plain_of}
use Rattle.star_builtins.proofs.Quoted.{drop_got, drop_here}
use Rattle.star_builtins.proofs.Written.{onto_both, onto_nothing}

pub takes_or_plain : (p : Part) → plain_of p ≡ None → takes_value p ≡ true
takes_or_plain (part.Plain text) h = absurd (cc)
takes_or_plain part.Shown h = refl
takes_or_plain part.Quoted h = refl
takes_or_plain part.Decimal h = refl

onto_pure : (before text : List ℕ) (s : Store ℕ) → onto before (pure text) s ≡ Went (before ++ text) s
unfolding onto
onto_pure before text s = refl

drop_past : {A : Type 0} (xs : List A) (i : ℕ) → slice_get xs i ≡ None → drop i xs ≡ []
drop_past [] i h = drop_all i [] (omega arith)
drop_past (x ∷ xs) zero h = absurd (cc)
drop_past (x ∷ xs) (suc i) h = drop_past xs i h

-- ---- how many values are taken

pub taken_one : (p : Part) (ps : List Part) → takes_value p ≡ true → values_taken (p ∷ ps) ≡ values_taken ps + 1
taken_one p ps h = rw h refl

pub taken_none : (p : Part) (ps : List Part) → takes_value p ≡ false → values_taken (p ∷ ps) ≡ values_taken ps
taken_none p ps h = rw h refl

-- ---- whether the values may stand for the parts

pub fit_plain : (p : Part) (ps : List Part) (vs : List Value) → takes_value p ≡ false → decimals_fit (p ∷ ps) vs ≡ decimals_fit ps vs
fit_plain (part.Plain text) ps vs h = refl
fit_plain part.Shown ps vs h = absurd (cc)
fit_plain part.Quoted ps vs h = absurd (cc)
fit_plain part.Decimal ps vs h = absurd (cc)

pub fit_short : (p : Part) (ps : List Part) → takes_value p ≡ true → decimals_fit (p ∷ ps) [] ≡ true
fit_short (part.Plain text) ps h = absurd (cc)
fit_short part.Shown ps h = refl
fit_short part.Quoted ps h = refl
fit_short part.Decimal ps h = refl

pub fit_value : (p : Part) (ps : List Part) (v : Value) (vs : List Value) → takes_value p ≡ true → part_fits p v ≡ true → decimals_fit (p ∷ ps) (v ∷ vs) ≡ decimals_fit ps vs
fit_value (part.Plain text) ps v vs h k = absurd (cc)
fit_value part.Shown ps v vs h k = refl
fit_value part.Quoted ps v vs h k = refl
fit_value part.Decimal ps v vs h k = rw k refl

pub fit_wrong : (p : Part) (ps : List Part) (v : Value) (vs : List Value) → takes_value p ≡ true → part_fits p v ≡ false → decimals_fit (p ∷ ps) (v ∷ vs) ≡ false
fit_wrong (part.Plain text) ps v vs h k = absurd (cc)
fit_wrong part.Shown ps v vs h k = absurd (cc)
fit_wrong part.Quoted ps v vs h k = absurd (cc)
fit_wrong part.Decimal ps v vs h k = rw k refl

module _ (parts : List Part) (i : ℕ) (p : Part) (within : i < length parts) (is : p ≡ get_or parts i p) where
  pub count_more : (n total : ℕ) → takes_value p ≡ true → n + values_taken (drop i parts) ≡ total → (n + 1) + values_taken (drop (i + 1) parts) ≡ total
  count_more n total h before =
      let e : values_taken (drop i parts) ≡ values_taken (drop (i + 1) parts) + 1 = ap values_taken (drop_here parts i p within is) ∙ taken_one p (drop (i + 1) parts) h in
      omega arith

  pub count_pass : (n total : ℕ) → takes_value p ≡ false → n + values_taken (drop i parts) ≡ total → n + values_taken (drop (i + 1) parts) ≡ total
  count_pass n total h before =
      let e : values_taken (drop i parts) ≡ values_taken (drop (i + 1) parts) = ap values_taken (drop_here parts i p within is) ∙ taken_none p (drop (i + 1) parts) h in
      omega arith

  pub fit_pass : (vs : List Value) (all : Bool) → takes_value p ≡ false → decimals_fit (drop i parts) vs ≡ all → decimals_fit (drop (i + 1) parts) vs ≡ all
  fit_pass vs all h before = sym (ap (λ ps. decimals_fit ps vs) (drop_here parts i p within is) ∙ fit_plain p (drop (i + 1) parts) vs h) ∙ before

  pub fit_ended : (values : List Value) (at : ℕ) (all : Bool) → takes_value p ≡ true → slice_get values at ≡ None → decimals_fit (drop i parts) (drop at values) ≡ all → true ≡ all
  fit_ended values at all h none before =
      sym (ap (λ ps. decimals_fit ps (drop at values)) (drop_here parts i p within is) ∙ ap (λ vs. decimals_fit (p ∷ drop (i + 1) parts) vs) (drop_past values at none) ∙ fit_short p (drop (i + 1) parts) h) ∙ before

  at_value : (values : List Value) (at : ℕ) (v : Value) → slice_get values at ≡ Some v → decimals_fit (drop i parts) (drop at values) ≡ decimals_fit (p ∷ drop (i + 1) parts) (v ∷ drop (at + 1) values)
  at_value values at v got = ap (λ ps. decimals_fit ps (drop at values)) (drop_here parts i p within is) ∙ ap (λ vs. decimals_fit (p ∷ drop (i + 1) parts) vs) (drop_got values at v got)

  pub fit_more : (values : List Value) (at : ℕ) (v : Value) (all : Bool) → takes_value p ≡ true → slice_get values at ≡ Some v → part_fits p v ≡ true → decimals_fit (drop i parts) (drop at values) ≡ all
      → decimals_fit (drop (i + 1) parts) (drop (at + 1) values) ≡ all
  fit_more values at v all h got fine before = sym (at_value values at v got ∙ fit_value p (drop (i + 1) parts) v (drop (at + 1) values) h fine) ∙ before

  pub fit_not : (values : List Value) (at : ℕ) (v : Value) (all : Bool) → takes_value p ≡ true → slice_get values at ≡ Some v → part_fits p v ≡ false → decimals_fit (drop i parts) (drop at values) ≡ all → false ≡ all
  fit_not values at v all h got wrong before = sym (at_value values at v got ∙ fit_wrong p (drop (i + 1) parts) v (drop (at + 1) values) h wrong) ∙ before

-- ---- what is written

plain_is : (p : Part) (text : List ℕ) → plain_of p ≡ Some text → p ≡ part.Plain text
plain_is (part.Plain t) text h = let same : t ≡ text = cc in ap part.Plain same
plain_is part.Shown text h = absurd (cc)
plain_is part.Quoted text h = absurd (cc)
plain_is part.Decimal text h = absurd (cc)

short_is : (naming : Naming ℕ) (p : Part) (ps : List Part) → takes_value p ≡ true → filled naming (p ∷ ps) [] ≡ pure []
short_is naming (part.Plain text) ps h = absurd (cc)
short_is naming part.Shown ps h = refl
short_is naming part.Quoted ps h = refl
short_is naming part.Decimal ps h = refl

value_is : (naming : Naming ℕ) (p : Part) (ps : List Part) (v : Value) (vs : List Value) → takes_value p ≡ true → filled naming (p ∷ ps) (v ∷ vs) ≡ piece naming p v <+> filled naming ps vs
unfolding piece
value_is naming (part.Plain text) ps v vs h = absurd (cc)
value_is naming part.Shown ps v vs h = refl
value_is naming part.Quoted ps v vs h = refl
value_is naming part.Decimal ps v vs h = refl

onto_plain : (before text : List ℕ) (q : Action ℕ (List ℕ)) (s : Store ℕ) → onto before (pure text <+> q) s ≡ onto (before ++ text) q s
onto_plain before text q s = onto_both before (pure text) q s ∙ ap (λ o. and_then o (λ t. onto t q)) (onto_pure before text s)

module _ (naming : Naming ℕ) (before : List ℕ) (parts : List Part) (i : ℕ) (p : Part) (s : Store ℕ) (within : i < length parts) (is : p ≡ get_or parts i p) where
  pub fill_plain : (text : List ℕ) (vs : List Value) → plain_of p ≡ Some text → onto before (filled naming (drop i parts) vs) s ≡ onto (before ++ text) (filled naming (drop (i + 1) parts) vs) s
  fill_plain text vs h =
      ap (λ ps. onto before (filled naming ps vs) s) (drop_here parts i p within is ∙ ap (λ q. q ∷ drop (i + 1) parts) (plain_is p text h))
      ∙ onto_plain before text (filled naming (drop (i + 1) parts) vs) s

  pub fill_short : (values : List Value) (at : ℕ) → plain_of p ≡ None → slice_get values at ≡ None → onto before (filled naming (drop i parts) (drop at values)) s ≡ Went before s
  fill_short values at h none =
      ap (λ ps. onto before (filled naming ps (drop at values)) s) (drop_here parts i p within is)
      ∙ ap (λ vs. onto before (filled naming (p ∷ drop (i + 1) parts) vs) s) (drop_past values at none)
      ∙ ap (λ q. onto before q s) (short_is naming p (drop (i + 1) parts) (takes_or_plain p h)) ∙ onto_nothing before s

  fill_value : (values : List Value) (at : ℕ) (v : Value) → plain_of p ≡ None → slice_get values at ≡ Some v
      → onto before (filled naming (drop i parts) (drop at values)) s ≡ and_then (onto before (piece naming p v) s) (λ t. onto t (filled naming (drop (i + 1) parts) (drop (at + 1) values)))
  fill_value values at v h got =
      ap (λ ps. onto before (filled naming ps (drop at values)) s) (drop_here parts i p within is)
      ∙ ap (λ vs. onto before (filled naming (p ∷ drop (i + 1) parts) vs) s) (drop_got values at v got)
      ∙ ap (λ q. onto before q s) (value_is naming p (drop (i + 1) parts) v (drop (at + 1) values) (takes_or_plain p h))
      ∙ onto_both before (piece naming p v) (filled naming (drop (i + 1) parts) (drop (at + 1) values)) s

  pub fill_more : (values : List Value) (at : ℕ) (v : Value) (after : List ℕ) (t : Store ℕ) → plain_of p ≡ None → slice_get values at ≡ Some v → onto before (piece naming p v) s ≡ Went after t
      → onto before (filled naming (drop i parts) (drop at values)) s ≡ onto after (filled naming (drop (i + 1) parts) (drop (at + 1) values)) t
  fill_more values at v after t h got went = fill_value values at v h got ∙ ap (λ o. and_then o (λ u. onto u (filled naming (drop (i + 1) parts) (drop (at + 1) values)))) went

  fill_failed : (values : List Value) (at : ℕ) (v : Value) (e : Failure) (t : Store ℕ) → plain_of p ≡ None → slice_get values at ≡ Some v → onto before (piece naming p v) s ≡ Failed e t
      → onto before (filled naming (drop i parts) (drop at values)) s ≡ Failed e t
  fill_failed values at v e t h got failed = fill_value values at v h got ∙ ap (λ o. and_then o (λ u. onto u (filled naming (drop (i + 1) parts) (drop (at + 1) values)))) failed

  pub fill_ends : (values : List Value) (at : ℕ) (v : Value) (e : Stop) (t : Store ℕ) (after : List ℕ) → plain_of p ≡ None → slice_get values at ≡ Some v → Shows (onto before (piece naming p v) s) (Err e) t after
      → Shows (onto before (filled naming (drop i parts) (drop at values)) s) (Err e) t after
  fill_ends values at v (stop.Failure e) t after h got failed = fill_failed values at v e t h got failed
  fill_ends values at v stop.NoMemory t after h got failed = tt

pub fill_end : (naming : Naming ℕ) (before : List ℕ) (parts : List Part) (i : ℕ) (vs : List Value) (s : Store ℕ) → length parts ≤ i → onto before (filled naming (drop i parts) vs) s ≡ Went before s
fill_end naming before parts i vs s past = ap (λ ps. onto before (filled naming ps vs) s) (drop_all i parts past) ∙ onto_nothing before s

pub alone_fits : (m : MachineState) (v : Value) → Fits m v → AllFit m (v ∷ [])
alone_fits m v fit = record { references = and_both (fits m.state.objects v) true fit.references refl; proper = and_both (is_proper v) true fit.proper refl }

-- ---- the whole

from_nothing : (o : Outcome (Store ℕ) Failure (List ℕ)) → and_then o (λ t. pure ([] ++ t)) ≡ o
from_nothing (Went t s) = refl
from_nothing (Failed e s) = refl

onto_none : (p : Action ℕ (List ℕ)) (s : Store ℕ) → onto [] p s ≡ p s
unfolding onto
onto_none p s = from_nothing (p s)

module _ (naming : Naming ℕ) (ps : List Part) (vs : List Value) (s : Store ℕ) (count : values_taken ps ≡ length vs) (fit : decimals_fit ps vs ≡ true) where
  parts_are : formatted_parts naming ps vs s ≡ and_then (filled naming ps vs s) (λ text. pure (value.Text text))
  parts_are = let same : nat_eq (values_taken ps) (length vs) ≡ true = eq-eqb (values_taken ps) (length vs) count in rw (same, fit) refl

  pub formatted_went : (t : Store ℕ) (after : List ℕ) → onto [] (filled naming ps vs) s ≡ Went after t → formatted_parts naming ps vs s ≡ Went (value.Text after) t
  formatted_went t after h = parts_are ∙ ap (λ o. and_then o (λ text. pure (value.Text text))) (sym (onto_none (filled naming ps vs) s) ∙ h)

  formatted_failed : (t : Store ℕ) (e : Failure) → onto [] (filled naming ps vs) s ≡ Failed e t → formatted_parts naming ps vs s ≡ Failed e t
  formatted_failed t e h = parts_are ∙ ap (λ o. and_then o (λ text. pure (value.Text text))) (sym (onto_none (filled naming ps vs) s) ∙ h)

  ends : (t : Store ℕ) (after : List ℕ) (e : Stop) → Shows (onto [] (filled naming ps vs) s) (Err e) t after → Gives (formatted_parts naming ps vs s) (Err e) t
  ends t after (stop.Failure e) h = formatted_failed t e h
  ends t after stop.NoMemory h = tt

  pub formatted_ends : (t : Store ℕ) (before after : List ℕ) (e : Stop) → before ≡ [] → Shows (onto before (filled naming ps vs) s) (Err e) t after → Gives (formatted_parts naming ps vs s) (Err e) t
  formatted_ends t before after e empty h = ends t after e (subst (λ b. Shows (onto b (filled naming ps vs) s) (Err e) t after) empty h)

pub formatted_gives : (naming : Naming ℕ) (text : List ℕ) (v : Value) (ps : List Part) (vs : List Value) (s t : Store ℕ) (r : Result Value Stop) → parts_of text ≡ Some ps → vs ≡ values_for (out-Value v) v
    → Gives (formatted_parts naming ps vs s) r t → Gives (formatted naming text v s) r t
formatted_gives naming text v ps vs s t r cut same h = rw cut (subst (λ xs. Gives (formatted_parts naming ps xs s) r t) same h)

not_text_at : (naming : Naming ℕ) (v y : Value) (x : Value-F Value) → out-Value v ≡ x → ((t : List ℕ) → v ≡ value.Text t → ⊥) → modulo_at naming x y ≡ on_ints (divided rest_of) x (out-Value y)
not_text_at naming v y (Value-F.Text t) is not = absurd (not t (sym (roll-out-Value v) ∙ ap roll-Value is ∙ value.rolls-Text t))
not_text_at naming v y Value-F.None is not = refl
not_text_at naming v y (Value-F.Bool b) is not = refl
not_text_at naming v y (Value-F.Int z) is not = refl
not_text_at naming v y (Value-F.Tuple items) is not = refl
not_text_at naming v y (Value-F.Range r) is not = refl
not_text_at naming v y (Value-F.List id) is not = refl
not_text_at naming v y (Value-F.Dict id) is not = refl
not_text_at naming v y (Value-F.Function id) is not = refl
not_text_at naming v y (Value-F.Builtin which) is not = refl

pub not_text : (naming : Naming ℕ) (v y : Value) → ((t : List ℕ) → v ≡ value.Text t → ⊥) → modulo_at naming (out-Value v) y ≡ on_ints (divided rest_of) (out-Value v) (out-Value y)
not_text naming v y not = not_text_at naming v y (out-Value v) refl not
