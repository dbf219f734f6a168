-- What is printed, in pieces that are put after a text.
use Rattle.std.proofs.Common.{◌≡◌, ℕ, zero, suc, ◌+◌, ◌<◌, ◌≤◌, List, [], ◌∷◌, ◌++◌, map, length, drop, refl, sym, ap, ◌∙◌, subst, arith, Option, Some, None}
use Rattle.std.specs.Prelude.{Result, Ok, Err, codes}
use Rattle.std.specs.Str.{chars}
use Rattle.std.proofs.lemmas.List.{drop_all}
use Rattle.star_value.specs.declared.failure.Failure.{Failure}
use Rattle.star_value.specs.declared.failure.Failure.TheVariants as failure
use Rattle.star_value.specs.declared.stop.Stop.{Stop}
use Rattle.star_value.specs.declared.stop.Stop.TheVariants as stop
use Rattle.star_value.specs.declared.value.Value.{Value}
use Rattle.star_value.specs.declared.value.Value.TheVariants as value
use Rattle.star_meaning.specs.Builtins as spec
use Rattle.star_meaning.specs.Showing.{Naming, made, made_after, made_between, shown, ◌<+>◌}
use Rattle.star_meaning.specs.Steps.{Outcome, Went, Failed, Action, Store, Gives, pure, given_or, and_then, ◌>>=◌}
use Rattle.star_meaning.specs.Values.{text_in}
use Rattle.star_builtins.specs.Calling.{GivesWritten}
use Rattle.star_builtins.specs.Rows.{before, pieces_by, separated}
use Rattle.star_builtins.specs.Shows.{Begins, Shows, onto}
use Rattle.star_builtins.proofs.RowLemmas.{onto_none}
use Rattle.star_builtins.proofs.Written.{begins_same, onto_both, onto_nothing, onto_three}

-- ---- the text before a piece

module _ (by : List ℕ) (place : ℕ) (front : List ℕ) (s : Store ℕ) where
  pub before_first : place ≡ 0 → onto front (before by place) s ≡ Went front s
  unfolding before
  before_first is = rw is (onto_nothing front s)

pub before_later : (by : List ℕ) (place : ℕ) → 0 < place → before by place ≡ made {C = ℕ} by
unfolding before
before_later by zero h = absurd (omega arith)
before_later by (suc place) h = refl

pub ruleset befores = (before_first, before_later)

-- ---- pieces in order

module _ (by : List ℕ) where
  pieces_cons : (i : ℕ) (p : Action ℕ (List ℕ)) (ps : List (Action ℕ (List ℕ))) (front : List ℕ) (s : Store ℕ)
      → onto front (pieces_by by i (p ∷ ps)) s ≡ and_then (onto front (before by i) s) (λ t. onto t p >>= (λ u. onto u (pieces_by by (suc i) ps)))
  unfolding pieces_by before
  pieces_cons zero p ps front s = onto_both front p (made_after by ps) s ∙ sym (ap (λ o. and_then o (λ t. onto t p >>= (λ u. onto u (made_after by ps)))) (onto_nothing front s))
  pieces_cons (suc i) p ps front s = onto_three front (made by) p (made_after by ps) s

  pieces_none : (i : ℕ) (front : List ℕ) (s : Store ℕ) → onto front (pieces_by by i []) s ≡ Went front s
  unfolding pieces_by
  pieces_none zero front s = onto_nothing front s
  pieces_none (suc i) front s = onto_nothing front s

  module _ (f : Value → Action ℕ (List ℕ)) (xs : List Value) (i : ℕ) where
    module _ (x : Value) (front : List ℕ) (s : Store ℕ) (more : drop i xs ≡ x ∷ drop (i + 1) xs) where
      pieces_more : onto front (pieces_by by i (map f (drop i xs))) s ≡ and_then (onto front (before by i) s) (λ t. onto t (f x) >>= (λ u. onto u (pieces_by by (i + 1) (map f (drop (i + 1) xs)))))
      pieces_more =
          let next : suc i ≡ i + 1 = omega arith in
          ap (λ ys. onto front (pieces_by by i (map f ys)) s) more ∙ pieces_cons i (f x) (map f (drop (i + 1) xs)) front s
          ∙ ap (λ n. and_then (onto front (before by i) s) (λ t. onto t (f x) >>= (λ u. onto u (pieces_by by n (map f (drop (i + 1) xs)))))) next

      -- one more piece
      pub pieces_step : (mid after : List ℕ) (between_them next : Store ℕ) → onto front (before by i) s ≡ Went mid between_them → onto mid (f x) between_them ≡ Went after next
          → onto after (pieces_by by (i + 1) (map f (drop (i + 1) xs))) next ≡ onto front (pieces_by by i (map f (drop i xs))) s
      pieces_step mid after between_them next first second = rw (pieces_more, first, second) refl

      pub pieces_failed_first : (w : Store ℕ) (e : Stop) (t u : List ℕ) → Shows (onto front (before by i) s) (Err e) w t → Shows (onto front (pieces_by by i (map f (drop i xs))) s) (Err e) w u
      pieces_failed_first w (stop.Failure failure) t u h = rw (pieces_more, h) refl
      pieces_failed_first w stop.NoMemory t u h = tt

      pub pieces_failed_second : (mid : List ℕ) (next w : Store ℕ) (e : Stop) (t u : List ℕ) → onto front (before by i) s ≡ Went mid next → Shows (onto mid (f x) next) (Err e) w t
          → Shows (onto front (pieces_by by i (map f (drop i xs))) s) (Err e) w u
      pieces_failed_second mid next w (stop.Failure failure) t u first h = rw (pieces_more, first, h) refl
      pieces_failed_second mid next w stop.NoMemory t u first h = tt

    pub pieces_end : (front : List ℕ) (s : Store ℕ) → length xs ≤ i → onto front (pieces_by by i (map f (drop i xs))) s ≡ Went front s
    pieces_end front s past = ap (λ ys. onto front (pieces_by by i (map f ys)) s) (drop_all i xs past) ∙ pieces_none i front s

-- ---- a line

module _ (by : List ℕ) (ps : List (Action ℕ (List ℕ))) (newline : List ℕ) (s : Store ℕ) (front : List ℕ) (starts : front ≡ []) (is : newline ≡ 10 ∷ []) where
  line_is : (made_between by ps <+> made (10 ∷ [])) s ≡ and_then (onto front (pieces_by by 0 ps) s) (λ t. onto t (made newline))
  unfolding pieces_by
  line_is =
      sym (onto_none (made_between by ps <+> made (10 ∷ [])) s) ∙ onto_both [] (made_between by ps) (made (10 ∷ [])) s
      ∙ ap (λ line. and_then (onto [] (made_between by ps) s) (λ t. onto t (made line))) (sym is) ∙ ap (λ a. and_then (onto a (made_between by ps) s) (λ t. onto t (made newline))) (sym starts)

  pub line_went : (mid after : List ℕ) (t u : Store ℕ) → onto front (pieces_by by 0 ps) s ≡ Went mid t → onto mid (made newline) t ≡ Went after u → (made_between by ps <+> made (10 ∷ [])) s ≡ Went after u
  line_went mid after t u first second = line_is ∙ ap (λ o. and_then o (λ text. onto text (made newline))) first ∙ second

  pub line_ends_first : (after : List ℕ) (t : Store ℕ) (e : Stop) → Shows (onto front (pieces_by by 0 ps) s) (Err e) t after → Gives ((made_between by ps <+> made (10 ∷ [])) s) (Err e) t
  line_ends_first after t (stop.Failure e) h = line_is ∙ ap (λ o. and_then o (λ text. onto text (made newline))) h
  line_ends_first after t stop.NoMemory h = tt

  pub line_ends_second : (mid after : List ℕ) (t u : Store ℕ) (e : Stop) → onto front (pieces_by by 0 ps) s ≡ Went mid t → Shows (onto mid (made newline) t) (Err e) u after → Gives ((made_between by ps <+> made (10 ∷ [])) s) (Err e) u
  line_ends_second mid after t u (stop.Failure e) first h = line_is ∙ ap (λ o. and_then o (λ text. onto text (made newline))) first ∙ h
  line_ends_second mid after t u stop.NoMemory first h = tt

-- ---- the separator

chars_sep : chars (codes "sep") ≡ codes "sep"
unfolding chars
chars_sep = refl

chars_space : chars (codes " ") ≡ 32 ∷ []
unfolding chars
chars_space = refl

pub chars_newline : chars (codes "\n") ≡ 10 ∷ []
unfolding chars
chars_newline = refl

module _ (name : List ℕ) (named : spec.ByName) (s : Store ℕ) (is : name ≡ chars (codes "sep")) where
  asked : (o : Option (Option Value)) → spec.only_named name named ≡ o → separated named s ≡ (given_or failure.WrongArguments o >>= spec.separator) s
  asked o found = ap (λ o. (given_or failure.WrongArguments o >>= spec.separator) s) (ap (λ n. spec.only_named n named) (sym (is ∙ chars_sep)) ∙ found)

  pub separator_refused : (e : Failure) → spec.only_named name named ≡ None → e ≡ failure.WrongArguments → separated named s ≡ Failed e s
  separator_refused e found which = asked None found ∙ ap (λ f. Failed f s) (sym which)

  pub separator_none : (text : List ℕ) → spec.only_named name named ≡ Some None → text ≡ chars (codes " ") → separated named s ≡ Went text s
  separator_none text found space = asked (Some None) found ∙ ap (λ t. Went t s) (sym (space ∙ chars_space))

  pub separator_some : (v : Value) (text : List ℕ) → spec.only_named name named ≡ Some (Some v) → text_in v ≡ Some text → separated named s ≡ Went text s
  separator_some v text found as_text = asked (Some (Some v)) found ∙ ap (λ o. given_or failure.WrongType o s) as_text

  pub separator_wrong : (v : Value) (e : Failure) → spec.only_named name named ≡ Some (Some v) → text_in v ≡ None → e ≡ failure.WrongType → separated named s ≡ Failed e s
  separator_wrong v e found no_text which = asked (Some (Some v)) found ∙ ap (λ o. given_or failure.WrongType o s) no_text ∙ ap (λ f. Failed f s) (sym which)

pub ruleset separators = (separator_refused, separator_none, separator_some, separator_wrong)

-- ---- what is printed

module _ (naming : Naming ℕ) (vs : List Value) (named : spec.ByName) (s : Store ℕ) where
  abbrev line_of : List ℕ → Action ℕ (List ℕ)
  line_of by = made_between by (map (shown naming) vs) <+> made (10 ∷ [])

  by_then : (o : Option (Option Value)) → (given_or failure.WrongArguments o >>= (λ by. spec.separator by >>= line_of)) s ≡ and_then ((given_or failure.WrongArguments o >>= spec.separator) s) line_of
  by_then None = refl
  by_then (Some by) = refl

  printed_is : spec.printed naming vs named s ≡ and_then (separated named s) line_of
  printed_is = by_then (spec.only_named (codes "sep") named)

  pub print_went : (by text : List ℕ) (t : Store ℕ) → separated named s ≡ Went by s → line_of by s ≡ Went text t → spec.writing (spec.printed naming vs named) s ≡ Went (value.None, text) t
  print_went by text t first second = ap (λ o. and_then o (λ x. pure (value.None, x))) (printed_is ∙ ap (λ o. and_then o line_of) first ∙ second)

  module _ (out : List ℕ) (e : Stop) where
    pub print_ends_first : Gives (separated named s) (Err e) s → GivesWritten out (spec.writing (spec.printed naming vs named) s) (Err e) s out
    print_ends_first = elim e as (λ e. Gives (separated named s) (Err e) s → GivesWritten out (spec.writing (spec.printed naming vs named) s) (Err e) s out)
        [ stop.Failure e ↦ λ h. (ap (λ o. and_then o (λ x. pure (value.None, x))) (printed_is ∙ ap (λ o. and_then o line_of) h), refl) | stop.NoMemory ↦ λ h. tt ]

    pub print_ends_second : (by : List ℕ) (t : Store ℕ) → separated named s ≡ Went by s → Gives (line_of by s) (Err e) t → GivesWritten out (spec.writing (spec.printed naming vs named) s) (Err e) t out
    print_ends_second by t first = elim e as (λ e. Gives (line_of by s) (Err e) t → GivesWritten out (spec.writing (spec.printed naming vs named) s) (Err e) t out)
        [ stop.Failure e ↦ λ h. (ap (λ o. and_then o (λ x. pure (value.None, x))) (printed_is ∙ ap (λ o. and_then o line_of) first ∙ h), refl) | stop.NoMemory ↦ λ h. tt ]
