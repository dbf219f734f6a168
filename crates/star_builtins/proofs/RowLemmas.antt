-- The rows of the built-in functions over what the code has found out.
use Rattle.std.proofs.Common.{◌≡◌, ℕ, suc, zero, ◌+◌, ◌-◌, ◌<◌, ◌≤◌, Bool, true, false, List, [], ◌∷◌, ◌++◌, map, length, drop, refl, sym, ap, ◌∙◌, subst, arith, IsTrue, Option, Some, None, ℤ, pos}
use Rattle.std.specs.Prelude.{Result, Ok, Err, codes, option_map, unsigned_abs}
use Rattle.std.specs.Str.{chars}
use Rattle.star_value.specs.declared.builtin.Builtin.{Builtin}
use Rattle.star_value.specs.declared.failure.Failure.{Failure}
use Rattle.star_value.specs.declared.failure.Failure.TheVariants as failure
use Rattle.star_value.specs.declared.range.Range.{Range}
use Rattle.star_value.specs.declared.stop.Stop.{Stop}
use Rattle.star_value.specs.declared.stop.Stop.TheVariants as stop
use Rattle.star_value.specs.declared.value.Value.{Value, out-Value}
use Rattle.star_value.specs.declared.value.Value.TheOpen.{Value-F}
use Rattle.star_value.specs.declared.value.Value.TheVariants as value
use Rattle.star_value.specs.Charge.{charged}
use Rattle.star_value.specs.Ranges.{range_count}
use Rattle.star_value.specs.Weight.{sum_of_weights}
use Rattle.star_meaning.proofs.Equations.{out_none, out_bool, out_int, out_text, out_tuple, out_range, out_list, out_dict, out_function, out_builtin}
use Rattle.star_meaning.specs.Builtins as spec
use Rattle.star_meaning.specs.State.{State, list, dict}
use Rattle.star_meaning.specs.Steps.{Outcome, Went, Failed, Steps, Action, Store, Gives, pure, fail, given_or, and_then, charge, paid, read, ◌>>=◌, ◌>>◌}
use Rattle.star_builtins.specs.Shows.{Shows, onto}
use Rattle.star_meaning.specs.Values.{integer, int_in, in_range, items_in, items_of, charge_items, type_name, type_name_at}

-- ---- arguments

module _ {A : Type 0} where
  pub same_gives : (o p : Outcome (Store ℕ) Failure A) (r : Result A Stop) (t : Store ℕ) → o ≡ p → Gives p r t → Gives o r t
  same_gives o p r t same h = subst (λ q. Gives q r t) (sym same) h

  pub as_int_went : (v : Value) (z : ℤ) (f : ℤ → Action ℕ A) (s : Store ℕ) → int_in v ≡ Some z → (spec.as_int v >>= f) s ≡ f z s
  as_int_went v z f s is = ap (λ o. (given_or failure.WrongType o >>= f) s) is

  pub as_int_failed : (v : Value) (f : ℤ → Action ℕ A) (s : Store ℕ) → int_in v ≡ None → (spec.as_int v >>= f) s ≡ Failed failure.WrongType s
  as_int_failed v f s is = ap (λ o. (given_or failure.WrongType o >>= f) s) is

  -- the items of a value, and their charge
  pub of_items : (v : Value) (items : List Value) (f : List Value → Action ℕ A) (s : Store ℕ) → items_in s.state v ≡ Some items → (items_of v >>= f) s ≡ f items s
  unfolding items_of
  of_items v items f s is = ap (λ o. and_then (given_or failure.WrongType o s) f) is

  pub no_items : (v : Value) (f : List Value → Action ℕ A) (s : Store ℕ) → items_in s.state v ≡ None → (items_of v >>= f) s ≡ Failed failure.WrongType s
  unfolding items_of
  no_items v f s is = ap (λ o. and_then (given_or failure.WrongType o s) f) is

  pub charge_went : (s : State ℕ) (left n rest : ℕ) (p : Action ℕ A) → charged left n ≡ (Ok tt, rest) → (charge n >> p) (record { state = s; left = left }) ≡ p (record { state = s; left = rest })
  unfolding charge
  charge_went s left n rest p done = ap (λ o. and_then (paid s o) (λ _. p)) done

  pub charge_failed : (s : State ℕ) (left n rest : ℕ) (e : Failure) (p : Action ℕ A) → charged left n ≡ (Err e, rest) → (charge n >> p) (record { state = s; left = left }) ≡ Failed e (record { state = s; left = rest })
  unfolding charge
  charge_failed s left n rest e p over = ap (λ o. and_then (paid s o) (λ _. p)) over

-- ---- abs, len, int

pub abs_some : (v : Value) (z : ℤ) (s : Store ℕ) (r : Result Value Stop) → Some z ≡ int_in v → Gives (integer (pos (unsigned_abs z)) s) r s → Gives (spec.absolute v s) r s
abs_some v z s r is h = same_gives _ _ r s (as_int_went v z (λ x. integer (pos (unsigned_abs x))) s (sym is)) h

pub abs_none : (v : Value) (s : Store ℕ) → None ≡ int_in v → Gives (spec.absolute v s) (Err (stop.Failure failure.WrongType)) s
abs_none v s is = as_int_failed v (λ x. integer (pos (unsigned_abs x))) s (sym is)

pub ruleset absolutes = (abs_some, abs_none)

module _ (s : Store ℕ) where
  len_as : (v : Value) (x : Value-F Value) → out-Value v ≡ x → spec.len v s ≡ and_then (spec.count_at x s) (λ n. integer (pos n))
  unfolding spec.len
  len_as v x is = ap (λ y. and_then (spec.count_at y s) (λ n. integer (pos n))) is

  pub len_text : (points : List ℕ) → spec.len (value.Text points) s ≡ integer (pos (length points)) s
  len_text points = len_as _ _ (out_text points)

  pub len_tuple : (items : List Value) → spec.len (value.Tuple items) s ≡ integer (pos (length items)) s
  len_tuple items = len_as _ _ (out_tuple items)

  pub len_range : (r : Range) → spec.len (value.Range r) s ≡ integer (pos (range_count r)) s
  len_range r = len_as _ _ (out_range r)

  pub len_list : (id : ℕ) → spec.len (value.List id) s ≡ integer (pos (length (list s.state id))) s
  len_list id = len_as _ _ (out_list id)

  pub len_dict : (id : ℕ) → spec.len (value.Dict id) s ≡ integer (pos (length (dict s.state id))) s
  len_dict id = len_as _ _ (out_dict id)

  pub len_none : spec.len value.None s ≡ Failed failure.WrongType s
  len_none = len_as _ _ out_none

  pub len_bool : (b : Bool) → spec.len (value.Bool b) s ≡ Failed failure.WrongType s
  len_bool b = len_as _ _ (out_bool b)

  pub len_int : (z : ℤ) → spec.len (value.Int z) s ≡ Failed failure.WrongType s
  len_int z = len_as _ _ (out_int z)

  pub len_function : (id : ℕ) → spec.len (value.Function id) s ≡ Failed failure.WrongType s
  len_function id = len_as _ _ (out_function id)

  pub len_builtin : (which : Builtin) → spec.len (value.Builtin which) s ≡ Failed failure.WrongType s
  len_builtin which = len_as _ _ (out_builtin which)

pub ruleset lengths = (len_text, len_tuple, len_range, len_list, len_dict, len_none, len_bool, len_int, len_function, len_builtin)

pub ruleset integers = (out_none, out_bool, out_int, out_text, out_tuple, out_range, out_list, out_dict, out_function, out_builtin)

module _ (points : List ℕ) (s : State ℕ) where
  numeral : (left : ℕ) (o : Option ℤ) (z : ℤ) → spec.read_int points ≡ o → option_map in_range o ≡ Some (Some z)
      → spec.int_of_text points (record { state = s; left = left }) ≡ (charge (length points) >> pure (value.Int z)) (record { state = s; left = left })
  numeral left None z is h = absurd (cc)
  numeral left (Some y) z is h =
      let inside : in_range y ≡ Some z = cc in
      ap (λ o. (given_or failure.BadText o >>= (λ x. integer x >>= (λ v. charge (length points) >> pure v))) (record { state = s; left = left })) is
      ∙ ap (λ o. (given_or failure.IntegerTooLarge (option_map value.Int o) >>= (λ v. charge (length points) >> pure v)) (record { state = s; left = left })) inside

  pub numeral_went : (left rest : ℕ) (z : ℤ) → Some (Some z) ≡ option_map in_range (spec.read_int points) → charged left (length points) ≡ (Ok tt, rest)
      → spec.int_of_text points (record { state = s; left = left }) ≡ Went (value.Int z) (record { state = s; left = rest })
  numeral_went left rest z is done = numeral left (spec.read_int points) z refl (sym is) ∙ charge_went s left (length points) rest (pure (value.Int z)) done

  pub numeral_over : (left rest : ℕ) (z : ℤ) (e : Failure) → Some (Some z) ≡ option_map in_range (spec.read_int points) → charged left (length points) ≡ (Err e, rest)
      → spec.int_of_text points (record { state = s; left = left }) ≡ Failed e (record { state = s; left = rest })
  numeral_over left rest z e is over = numeral left (spec.read_int points) z refl (sym is) ∙ charge_failed s left (length points) rest e (pure (value.Int z)) over

  large : (t : Store ℕ) (o : Option ℤ) → spec.read_int points ≡ o → option_map in_range o ≡ Some None → spec.int_of_text points t ≡ Failed failure.IntegerTooLarge t
  large t None is h = absurd (cc)
  large t (Some y) is h =
      let outside : in_range y ≡ None = cc in
      ap (λ o. (given_or failure.BadText o >>= (λ x. integer x >>= (λ v. charge (length points) >> pure v))) t) is
      ∙ ap (λ o. (given_or failure.IntegerTooLarge (option_map value.Int o) >>= (λ v. charge (length points) >> pure v)) t) outside

  pub numeral_large : (t : Store ℕ) → Some None ≡ option_map in_range (spec.read_int points) → spec.int_of_text points t ≡ Failed failure.IntegerTooLarge t
  numeral_large t is = large t (spec.read_int points) refl (sym is)

  no_numeral : (t : Store ℕ) (o : Option ℤ) → spec.read_int points ≡ o → option_map in_range o ≡ None → spec.int_of_text points t ≡ Failed failure.BadText t
  no_numeral t None is h = ap (λ o. (given_or failure.BadText o >>= (λ x. integer x >>= (λ v. charge (length points) >> pure v))) t) is
  no_numeral t (Some y) is h = absurd (cc)

  pub numeral_bad : (t : Store ℕ) → None ≡ option_map in_range (spec.read_int points) → spec.int_of_text points t ≡ Failed failure.BadText t
  numeral_bad t is = no_numeral t (spec.read_int points) refl (sym is)

pub ruleset numerals = (numeral_went, numeral_over, numeral_large, numeral_bad)

-- ---- names of types

pub type_none : chars (codes "NoneType") ≡ type_name value.None
unfolding chars type_name
type_none = sym (ap type_name_at out_none)

pub type_bool : (b : Bool) → chars (codes "bool") ≡ type_name (value.Bool b)
unfolding chars type_name
type_bool b = sym (ap type_name_at (out_bool b))

pub type_int : (z : ℤ) → chars (codes "int") ≡ type_name (value.Int z)
unfolding chars type_name
type_int z = sym (ap type_name_at (out_int z))

pub type_text : (points : List ℕ) → chars (codes "string") ≡ type_name (value.Text points)
unfolding chars type_name
type_text points = sym (ap type_name_at (out_text points))

pub type_tuple : (items : List Value) → chars (codes "tuple") ≡ type_name (value.Tuple items)
unfolding chars type_name
type_tuple items = sym (ap type_name_at (out_tuple items))

pub type_range : (r : Range) → chars (codes "range") ≡ type_name (value.Range r)
unfolding chars type_name
type_range r = sym (ap type_name_at (out_range r))

pub type_list : (id : ℕ) → chars (codes "list") ≡ type_name (value.List id)
unfolding chars type_name
type_list id = sym (ap type_name_at (out_list id))

pub type_dict : (id : ℕ) → chars (codes "dict") ≡ type_name (value.Dict id)
unfolding chars type_name
type_dict id = sym (ap type_name_at (out_dict id))

pub type_function : (id : ℕ) → chars (codes "function") ≡ type_name (value.Function id)
unfolding chars type_name
type_function id = sym (ap type_name_at (out_function id))

pub type_builtin : (which : Builtin) → chars (codes "builtin") ≡ type_name (value.Builtin which)
unfolding chars type_name
type_builtin which = sym (ap type_name_at (out_builtin which))

pub ruleset types = (type_none, type_bool, type_int, type_text, type_tuple, type_range, type_list, type_dict, type_function, type_builtin)

-- ---- what is shown as a text

from_nothing : (o : Outcome (Store ℕ) Failure (List ℕ)) → and_then o (λ t. pure ([] ++ t)) ≡ o
from_nothing (Went t s) = refl
from_nothing (Failed e s) = refl

module _ (p : Action ℕ (List ℕ)) (s : Store ℕ) where
  pub onto_none : onto [] p s ≡ p s
  unfolding onto
  onto_none = from_nothing (p s)

  pub text_went : (t : Store ℕ) (text : List ℕ) → onto [] p s ≡ Went text t → spec.as_value p s ≡ Went (value.Text text) t
  text_went t text h = ap (λ o. and_then o (λ x. pure (value.Text x))) (sym onto_none ∙ h)

  text_stops : (t : Store ℕ) (after : List ℕ) (e : Stop) → Shows (onto [] p s) (Err e) t after → Gives (spec.as_value p s) (Err e) t
  text_stops t after (stop.Failure e) h = ap (λ o. and_then o (λ x. pure (value.Text x))) (sym onto_none ∙ h)
  text_stops t after stop.NoMemory h = tt

  pub text_ends : (t : Store ℕ) (before after : List ℕ) (e : Stop) → before ≡ [] → Shows (onto before p s) (Err e) t after → Gives (spec.as_value p s) (Err e) t
  text_ends t before after e empty h = text_stops t after e (subst (λ b. Shows (onto b p s) (Err e) t after) empty h)
