-- A call of a method, by the kind of its value and by its name.
use Rattle.std.proofs.Common.{◌≡◌, ℕ, Bool, List, refl, sym, ap, ◌∙◌, subst, Option, Some, None, ℤ}
use Rattle.std.specs.Prelude.{Result, Ok, Err, option_map}
use Rattle.star_builtins.specs.declared.method_names.DictMethod.{DictMethod}
use Rattle.star_builtins.specs.declared.method_names.ListMethod.{ListMethod}
use Rattle.star_builtins.specs.declared.method_names.TextMethod.{TextMethod}
use Rattle.star_value.specs.declared.builtin.Builtin.{Builtin}
use Rattle.star_value.specs.declared.failure.Failure.{Failure}
use Rattle.star_value.specs.declared.failure.Failure.TheVariants as failure
use Rattle.star_value.specs.declared.range.Range.{Range}
use Rattle.star_value.specs.declared.stop.Stop.{Stop}
use Rattle.star_value.specs.declared.stop.Stop.TheVariants as stop
use Rattle.star_value.specs.declared.value.Value.{Value, out-Value}
use Rattle.star_value.specs.declared.value.Value.TheOpen.{Value-F}
use Rattle.star_value.specs.declared.value.Value.TheVariants as value
use Rattle.star_meaning.proofs.Equations.{out_none, out_bool, out_int, out_text, out_tuple, out_range, out_list, out_dict, out_function, out_builtin}
use Rattle.star_meaning.specs.Builtins.{ByName, unnamed}
use Rattle.star_meaning.specs.Methods as spec
use Rattle.star_meaning.specs.Steps.{Action, Failed, Store, and_then, given_or}
use Rattle.star_meaning.specs.Values.{named_in}
use Rattle.star_builtins.specs.MethodNames.{list_method, dict_method, text_method}
use Rattle.star_builtins.specs.Reached.{GivesWeighed, weighed}

module _ (locked name : List ℕ) (vs : List Value) (named : ByName) (s : Store ℕ) where
  abbrev called : Option (List Value → Action ℕ Value) → Action ℕ Value
  called found = λ t. and_then (given_or failure.NoMethod found t) (λ method. unnamed named (method vs))

  call_as : (v : Value) (x : Value-F Value) → out-Value v ≡ x → spec.call_method locked name v vs named s ≡ called (spec.method_at locked name x) s
  unfolding spec.call_method
  call_as v x is = ap (λ y. called (spec.method_at locked name y) s) is

  pub list_is : (id : ℕ) (method : ListMethod) → option_map list_method (Some method) ≡ named_in spec.list_methods name → spec.call_method locked name (value.List id) vs named s ≡ unnamed named (list_method method locked id vs) s
  list_is id method is = call_as (value.List id) (Value-F.List id) (out_list id) ∙ ap (λ o. called (option_map (λ m. m locked id) o) s) (sym is)

  pub list_none : (id : ℕ) → option_map list_method None ≡ named_in spec.list_methods name → spec.call_method locked name (value.List id) vs named s ≡ Failed failure.NoMethod s
  list_none id is = call_as (value.List id) (Value-F.List id) (out_list id) ∙ ap (λ o. called (option_map (λ m. m locked id) o) s) (sym is)

  pub dict_is : (id : ℕ) (method : DictMethod) → option_map dict_method (Some method) ≡ named_in spec.dict_methods name → spec.call_method locked name (value.Dict id) vs named s ≡ unnamed named (dict_method method locked id vs) s
  dict_is id method is = call_as (value.Dict id) (Value-F.Dict id) (out_dict id) ∙ ap (λ o. called (option_map (λ m. m locked id) o) s) (sym is)

  pub dict_none : (id : ℕ) → option_map dict_method None ≡ named_in spec.dict_methods name → spec.call_method locked name (value.Dict id) vs named s ≡ Failed failure.NoMethod s
  dict_none id is = call_as (value.Dict id) (Value-F.Dict id) (out_dict id) ∙ ap (λ o. called (option_map (λ m. m locked id) o) s) (sym is)

  pub text_is : (text : List ℕ) (method : TextMethod) → option_map text_method (Some method) ≡ named_in spec.text_methods name → spec.call_method locked name (value.Text text) vs named s ≡ unnamed named (text_method method text vs) s
  text_is text method is = call_as (value.Text text) (Value-F.Text text) (out_text text) ∙ ap (λ o. called (option_map (λ m. m text) o) s) (sym is)

  pub text_none : (text : List ℕ) → option_map text_method None ≡ named_in spec.text_methods name → spec.call_method locked name (value.Text text) vs named s ≡ Failed failure.NoMethod s
  text_none text is = call_as (value.Text text) (Value-F.Text text) (out_text text) ∙ ap (λ o. called (option_map (λ m. m text) o) s) (sym is)

  -- ---- values without methods

  pub none_has : spec.call_method locked name value.None vs named s ≡ Failed failure.NoMethod s
  none_has = call_as value.None Value-F.None out_none

  pub bool_has : (b : Bool) → spec.call_method locked name (value.Bool b) vs named s ≡ Failed failure.NoMethod s
  bool_has b = call_as (value.Bool b) (Value-F.Bool b) (out_bool b)

  pub int_has : (z : ℤ) → spec.call_method locked name (value.Int z) vs named s ≡ Failed failure.NoMethod s
  int_has z = call_as (value.Int z) (Value-F.Int z) (out_int z)

  pub tuple_has : (items : List Value) → spec.call_method locked name (value.Tuple items) vs named s ≡ Failed failure.NoMethod s
  tuple_has items = call_as (value.Tuple items) (Value-F.Tuple items) (out_tuple items)

  pub range_has : (r : Range) → spec.call_method locked name (value.Range r) vs named s ≡ Failed failure.NoMethod s
  range_has r = call_as (value.Range r) (Value-F.Range r) (out_range r)

  pub function_has : (id : ℕ) → spec.call_method locked name (value.Function id) vs named s ≡ Failed failure.NoMethod s
  function_has id = call_as (value.Function id) (Value-F.Function id) (out_function id)

  pub builtin_has : (which : Builtin) → spec.call_method locked name (value.Builtin which) vs named s ≡ Failed failure.NoMethod s
  builtin_has which = call_as (value.Builtin which) (Value-F.Builtin which) (out_builtin which)

pub ruleset tables = (list_is, list_none, dict_is, dict_none, text_is, text_none)

pub ruleset without_methods = (none_has, bool_has, int_has, tuple_has, range_has, function_has, builtin_has)
