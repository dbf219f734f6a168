-- Which values refer to objects that are there, form by form.
use Rattle.std.proofs.Common.{◌≡◌, ℕ, ℤ, Bool, true, List, sym, ap, ◌∙◌, slice_get}
use Rattle.std.specs.List.{list_all}
use Rattle.std.proofs.lemmas.List.Folds.{list_all-map}
use Rattle.std.proofs.lemmas.Option.{slice_get-map}
use Rattle.star_value.specs.declared.builtin.Builtin.{Builtin}
use Rattle.star_value.specs.declared.range.Range.{Range}
use Rattle.star_value.specs.declared.value.Value.{Value, fold-roll-Value, map-Value, roll-Value}
use Rattle.star_value.specs.declared.value.Value.TheOpen.{Value-F}
use Rattle.star_value.specs.declared.value.Value.TheVariants as value
use Rattle.star_meaning.specs.State.{Object}
use Rattle.star_meaning.specs.Validity.{fits, fits_step, is_dict, is_function, is_list}

fits_rolled : (os : List (Object ℕ)) (x : Value-F Value) → fits os (roll-Value x) ≡ fits_step os (map-Value Value Bool (fits os) x)
unfolding fits
fits_rolled os x = fold-roll-Value Bool (fits_step os) x

pub fits_none : (os : List (Object ℕ)) → fits os value.None ≡ true
fits_none os = ap (fits os) (sym value.rolls-None) ∙ fits_rolled os Value-F.None

pub fits_bool : (os : List (Object ℕ)) (b : Bool) → fits os (value.Bool b) ≡ true
fits_bool os b = ap (fits os) (sym (value.rolls-Bool b)) ∙ fits_rolled os (Value-F.Bool b)

pub fits_int : (os : List (Object ℕ)) (z : ℤ) → fits os (value.Int z) ≡ true
fits_int os z = ap (fits os) (sym (value.rolls-Int z)) ∙ fits_rolled os (Value-F.Int z)

pub fits_text : (os : List (Object ℕ)) (points : List ℕ) → fits os (value.Text points) ≡ true
fits_text os points = ap (fits os) (sym (value.rolls-Text points)) ∙ fits_rolled os (Value-F.Text points)

pub fits_tuple : (os : List (Object ℕ)) (items : List Value) → fits os (value.Tuple items) ≡ list_all (fits os) items
fits_tuple os items = ap (fits os) (sym (value.rolls-Tuple items)) ∙ fits_rolled os (Value-F.Tuple items) ∙ list_all-map (λ (b : Bool). b) (fits os) items

pub fits_range : (os : List (Object ℕ)) (r : Range) → fits os (value.Range r) ≡ true
fits_range os r = ap (fits os) (sym (value.rolls-Range r)) ∙ fits_rolled os (Value-F.Range r)

pub fits_list : (os : List (Object ℕ)) (id : ℕ) → fits os (value.List id) ≡ is_list (slice_get os id)
fits_list os id = ap (fits os) (sym (value.rolls-List id)) ∙ fits_rolled os (Value-F.List id)

pub fits_dict : (os : List (Object ℕ)) (id : ℕ) → fits os (value.Dict id) ≡ is_dict (slice_get os id)
fits_dict os id = ap (fits os) (sym (value.rolls-Dict id)) ∙ fits_rolled os (Value-F.Dict id)

pub fits_function : (os : List (Object ℕ)) (id : ℕ) → fits os (value.Function id) ≡ is_function (slice_get os id)
fits_function os id = ap (fits os) (sym (value.rolls-Function id)) ∙ fits_rolled os (Value-F.Function id)

pub fits_builtin : (os : List (Object ℕ)) (which : Builtin) → fits os (value.Builtin which) ≡ true
fits_builtin os which = ap (fits os) (sym (value.rolls-Builtin which)) ∙ fits_rolled os (Value-F.Builtin which)

pub ruleset fits_cases = (fits_none, fits_bool, fits_int, fits_text, fits_tuple, fits_range, fits_list, fits_dict, fits_function, fits_builtin)

pub ruleset placed = (slice_get-map)
